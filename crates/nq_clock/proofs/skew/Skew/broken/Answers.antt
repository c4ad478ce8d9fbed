use Rattle.std.proofs.Common.{◌∙◌, ap, sym}
use Rattle.nq_clock.specs.Counts.{SkewCounts, first_broken}
use Rattle.nq_clock.proofs.Judging.{found-named}
use Rattle.nq_clock.proofs.skew.Skew.broken.Goals as goal

pub returns : goal.returns
returns c = λ events h.
    let found = c.first_broken.ensures ∙ ap (first_broken 0) c.deref.ensures.value ∙ ap (λ (s : SkewCounts). first_broken 0 s.hosts) c.self.view_is in
    found ∙ sym (found-named c.args.self.now events h)
