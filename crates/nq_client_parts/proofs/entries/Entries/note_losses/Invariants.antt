use Rattle.std.proofs.Common.{◌≡◌, ◌+◌, ◌++◌, map, take, reverse}
use Rattle.nq_client_parts.specs.Lost.{lost_entry}
use Rattle.nq_client_parts.proofs.entries.Entries.note_losses.Given as goal

abbrev pub invariant-loop-place : goal.invariant-loop-place
invariant-loop-place l = record {
  items : l.self.items ≡ reverse (map (lost_entry l.who) (take l.place l.losses.items)) ++ l.fn.self.items;
  spare : l.fn.self.spare ≡ l.self.spare + l.place;
}
