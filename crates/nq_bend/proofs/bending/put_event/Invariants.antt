use Rattle.std.proofs.Common.{ℕ}
use Rattle.nq_bend.specs.Course.{HasHead, IsOn, PlaysOn}
use Rattle.nq_bend.proofs.bending.put_event.Given as goal

abbrev pub invariant-loop-place : goal.invariant-loop-place
invariant-loop-place g l = record {
  settings : HasHead l.plan l.world;
  goes : (count : ℕ) → IsOn l.plan count l.fn.course → IsOn l.plan count l.course;
  plays : PlaysOn g.K.Keeper.content l.plan l.fn.world l.world l.fn.course l.course;
}
