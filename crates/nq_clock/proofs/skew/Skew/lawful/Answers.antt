use Rattle.std.proofs.Common.{◌∙◌, ap}
use Rattle.nq_clock.specs.Counts.{SkewCounts, first_broken}
use Rattle.nq_clock.proofs.Judging.{lawful-is}
use Rattle.nq_clock.proofs.skew.Skew.lawful.Goals as goal

pub returns : goal.returns
returns c = λ events h.
    let found = c.first_broken.ensures ∙ ap (first_broken 0) c.deref.ensures.value ∙ ap (λ (s : SkewCounts). first_broken 0 s.hosts) c.self.view_is in
    lawful-is c.args.self.now events c.first_broken.result c.is_none.result found c.is_none.ensures h
