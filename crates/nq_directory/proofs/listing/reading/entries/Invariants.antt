use Rattle.std.proofs.Common.{◌≡◌, ◌≤◌, ◌-◌, [], length, vec_capacity}
use Rattle.nq_directory.specs.Reading.{entries_at}
use Rattle.nq_directory.proofs.listing.reading.entries.Given as goal

abbrev pub invariant-loop-place : goal.invariant-loop-place
invariant-loop-place l = record {
  same : entries_at [] l.count l.fn.reader ≡ entries_at l.names.items (l.count - l.place) l.reader;
  size : length l.names.items ≡ l.place;
  room : l.count ≤ vec_capacity l.names;
}
