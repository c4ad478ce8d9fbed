use Rattle.std.proofs.Common.{◌∙◌, ap, refl}
use Rattle.nq_clock.specs.Counts.{SkewCounts, first_broken}
use Rattle.nq_clock.proofs.Judging.{judged-broken, judged-none, named-broken}
use Rattle.nq_clock.proofs.Tracking.{after-server}
use Rattle.nq_clock.proofs.skew.Skew.server_tick.Goals as goal

pub returns-in-Some-clause-within : goal.returns-in-Some-clause-within
returns-in-Some-clause-within c = λ events h.
    let found = c.first_broken.ensures ∙ ap (first_broken 0) c.deref.ensures.value ∙ ap (λ (s : SkewCounts). first_broken 0 s.hosts) c.self.view_is in
    (λ e. absurd (cc), λ within. absurd (judged-broken c.args.self.now events c.first_broken.result c.in-Some.broken found c.in-Some.is h within))

pub returns-in-Some-clause-broken : goal.returns-in-Some-clause-broken
returns-in-Some-clause-broken c = λ events h.
    let found = c.first_broken.ensures ∙ ap (first_broken 0) c.deref.ensures.value ∙ ap (λ (s : SkewCounts). first_broken 0 s.hosts) c.self.view_is in
    named-broken c.args.self.now events c.first_broken.result c.in-Some.broken found c.in-Some.is h

pub returns-in-None-clause-within : goal.returns-in-None-clause-within
returns-in-None-clause-within c = λ events h.
    let found = c.first_broken.ensures ∙ ap (first_broken 0) c.deref.ensures.value ∙ ap (λ (s : SkewCounts). first_broken 0 s.hosts) c.self.view_is in
    (λ e. judged-none c.args.self.now events c.first_broken.result found c.in-None.is h, λ within. refl)

pub returns-in-None-clause-follows : goal.returns-in-None-clause-follows
returns-in-None-clause-follows c = λ events h.
    let found = c.first_broken.ensures ∙ ap (first_broken 0) c.deref.ensures.value ∙ ap (λ (s : SkewCounts). first_broken 0 s.hosts) c.self.view_is in
    after-server c.self.inside.window c.self.inside.hosts.items c.tick_each.new.hosts.items c.args.self.now events c.self.view_is c.tick_each.ensures
    (judged-none c.args.self.now events c.first_broken.result found c.in-None.is h) h
