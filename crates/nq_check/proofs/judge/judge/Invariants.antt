use Rattle.std.proofs.Common.{◌≡◌, None}
use Rattle.nq_check.proofs.Verdicts.{found_before}
use Rattle.nq_check.proofs.judge.judge.Given as goal

abbrev pub invariant-loop-place : goal.invariant-loop-place
invariant-loop-place l = found_before l.whole l.place ≡ None
