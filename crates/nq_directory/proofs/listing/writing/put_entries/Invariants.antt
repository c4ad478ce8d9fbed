use Rattle.std.proofs.Common.{◌≡◌, ◌++◌, drop}
use Rattle.nq_directory.specs.Messages.{entries_bytes}
use Rattle.nq_directory.proofs.listing.writing.put_entries.Given as goal

abbrev pub invariant-loop-entry : goal.invariant-loop-entry
invariant-loop-entry l = l.out.bytes ++ entries_bytes (drop l.entry-index l.names) ≡ l.fn.out.bytes ++ entries_bytes l.names
