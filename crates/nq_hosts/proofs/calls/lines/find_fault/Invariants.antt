use Rattle.std.proofs.Common.{length}
use Rattle.nq_hosts.specs.Lines.{SoFar}
use Rattle.nq_hosts.proofs.calls.lines.find_fault.Given as goal

abbrev pub invariant-loop-rest : goal.invariant-loop-rest
invariant-loop-rest l = SoFar l.text l.rest l.number

abbrev pub decreases-loop-rest : goal.decreases-loop-rest
decreases-loop-rest l = length l.rest
