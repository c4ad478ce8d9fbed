use Rattle.std.proofs.Common.{◌≡◌, ◌≤◌, ◌++◌, length, reverse}
use Rattle.nq_client_parts.proofs.entries.move_all.Given as goal

-- what was moved and what is left make up the whole, and what is left has room
abbrev pub invariant-loop-entry : goal.invariant-loop-entry
invariant-loop-entry l = record {
  whole : l.log.entries ++ reverse l.entries.items ≡ l.fn.log.entries ++ reverse l.fn.entries.items;
  room : length l.entries.items ≤ l.log.spare;
}

abbrev pub decreases-loop-entry : goal.decreases-loop-entry
decreases-loop-entry l = length l.entries.items
