use Rattle.std.proofs.Common.{ℕ}
use Rattle.nq_bend.specs.Course.{IsOn, IsStill}
use Rattle.nq_bend.proofs.course.Course.see.Given as goal

abbrev pub invariant-loop-number : goal.invariant-loop-number
invariant-loop-number g l = record {
  goes : (count : ℕ) → IsOn l.plan count l.fn.self → IsOn l.plan count l.self;
  still : IsStill l.fn.self l.self;
}
