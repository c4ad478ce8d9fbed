use Rattle.std.proofs.Common.{◌≡◌, None, subst, sym, ◌∙◌}
use Rattle.nq_check.specs.Apart.{HasRange, Range, range_of}
use Rattle.nq_check.proofs.Ranging.{same_some}
use Rattle.nq_check.proofs.apart.is_ranked.Goals as goal

pub returns-in-Some : goal.returns-in-Some
returns-in-Some c =
    λ t range e. subst (λ (r : Range). HasRange c.args.sorted.now r)
    (same_some c.in-Some.range range (sym c.in-Some.is ∙ c.range_of.ensures ∙ e)) (c.is_range_at.ensures t)

pub returns-in-None : goal.returns-in-None
returns-in-None c =
    let none : range_of c.args.marks.now.entries c.args.place c.args.entry.now ≡ None = sym c.range_of.ensures ∙ c.in-None.is in
    λ t range e. absurd (cc)
