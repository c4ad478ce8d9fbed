use Rattle.std.proofs.Common.{◌≡◌, ◌<◌, ℕ, Some, slice_get}
use Rattle.nq_bend.specs.declared.bends.Bend.{Bend}
use Rattle.nq_bend.proofs.plan.BendPlan.is_lost.Given as goal

abbrev pub invariant-loop-place : goal.invariant-loop-place
invariant-loop-place l = (k : ℕ) → k < l.place → slice_get l.self.bends.now k ≡ Some (Bend.Lose l.packet) → ⊥
