use Rattle.std.proofs.Common.{◌≡◌, Some, subst, sym, ◌∙◌}
use Rattle.std.specs.List.{slice_get}
use Rattle.nq_check.specs.Apart.{Range}
use Rattle.nq_check.proofs.Spots.{same_is}
use Rattle.nq_check.proofs.apart.is_range_at.Goals as goal

pub returns-in-Some : goal.returns-in-Some
returns-in-Some c =
    λ t. record {
      rank = c.args.rank;
      there = subst (λ (r : Range). slice_get c.args.sorted.now c.args.rank ≡ Some r)
          (same_is c.in-Some.found.now c.args.range (sym c.same_range.ensures ∙ t)) c.in-Some.ensures;
    }
