use Rattle.std.proofs.Common.{length}
use Rattle.nq_script.specs.Progress.{ReadSoFar}
use Rattle.nq_script.proofs.scripts.read_lines.Given as goal

abbrev pub invariant-lines : goal.invariant-lines
invariant-lines l = ReadSoFar l.head l.lines l.text l.rest

abbrev pub decreases-lines : goal.decreases-lines
decreases-lines l = length l.rest
