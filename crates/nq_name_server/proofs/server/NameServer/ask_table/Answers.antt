use Rattle.std.proofs.Common.{◌≡◌, ◌<◌, ◌≤◌, ◌+◌, ◌^◌, sym, ap, subst, ◌∙◌}
use Rattle.nq_model.specs.protocol.Profile.{longest_term}
use Rattle.nq_server.proofs.AskedRows.{asked-draws, asked-run, own-runs}
use Rattle.nq_name_server.proofs.Running.{unwanted_draws}
use Rattle.nq_name_server.specs.Served.{Served}
use Rattle.nq_name_server.proofs.server.NameServer.ask_table.Goals as goal

pub ask-requires-clause-shared : goal.ask-requires-clause-shared
ask-requires-clause-shared c =
    λ row found caches.
    own-runs c.self.inside.time c.self.inside.table c.args.question.now row (c.requires.time ∙ sym (ap (λ (s : Served). s.time) c.self.view_is))
    c.self.invariant.0.run found caches

pub invariant_of-self : goal.invariant_of-self
invariant_of-self c =
    let i = c.self.inside in
    let q = c.args.question.now in
    let sound = c.self.invariant.0 in
    let time = c.requires.time ∙ sym (ap (λ (s : Served). s.time) c.self.view_is) in
    let longest = c.requires.longest ∙ sym (ap (λ (s : Served). s.longest) c.self.view_is) in
    let is = c.ask.ensures.table (subst (λ n. n < 2 ^ 62) (sym time) sound.early) in (
      record {
        early = sound.early;
        long = sound.long;
        short = sound.short;
        run = asked-run i.time i.table c.ask.new.table q time (subst (λ n. n ≤ longest_term) (sym longest) sound.short) sound.run is;
        few = sound.few;
      },
      c.self.invariant.1,
    )

pub returns-clause-drawn : goal.returns-clause-drawn
returns-clause-drawn c =
    let q = c.args.question.now in
    let time = c.requires.time ∙ sym (ap (λ (s : Served). s.time) c.self.view_is) in
    let is = c.ask.ensures.table (subst (λ n. n < 2 ^ 62) (sym time) c.self.invariant.0.early) in
    subst (λ (s : Served). c.ask.new.table.drawn ≤ s.table.drawn + 1) c.self.view_is (asked-draws c.self.inside.table c.ask.new.table q is)

pub returns-clause-unwanted : goal.returns-clause-unwanted
returns-clause-unwanted c =
    λ none.
    let q = c.args.question.now in
    let time = c.requires.time ∙ sym (ap (λ (s : Served). s.time) c.self.view_is) in
    let is = c.ask.ensures.table (subst (λ n. n < 2 ^ 62) (sym time) c.self.invariant.0.early) in
    subst (λ (s : Served). c.ask.new.table.drawn ≡ s.table.drawn) c.self.view_is (ap (λ t. t.drawn) is ∙ unwanted_draws c.self.inside.table q none)
