use Rattle.std.proofs.Common.{◌≡◌, ◌≤◌, length, take}
use Rattle.nq_directory.specs.Prefix.{directory}
use Rattle.nq_directory.proofs.prefix.directory_len.Given as goal

abbrev pub invariant-loop-end : goal.invariant-loop-end
invariant-loop-end l = record { within : l.end ≤ length l.bytes; same : directory l.bytes ≡ directory (take l.end l.bytes) }

-- proposed from the loop's first test
abbrev pub decreases-loop-end : goal.decreases-loop-end
decreases-loop-end l = l.end
