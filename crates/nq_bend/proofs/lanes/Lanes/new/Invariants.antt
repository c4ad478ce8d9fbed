use Rattle.std.proofs.Common.{◌≡◌, []}
use Rattle.nq_bend.proofs.lanes.Lanes.new.Given as goal

abbrev pub invariant-loop-number : goal.invariant-loop-number
invariant-loop-number l = l.lanes.olds.items ≡ []
