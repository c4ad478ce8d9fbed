use Rattle.std.proofs.Common.{◌≡◌, take}
use Rattle.std.specs.List.{flat_map}
use Rattle.nq_tasks.specs.Listing.{line_of}
use Rattle.nq_tasks.proofs.listing.lines_of.Given as goal

abbrev pub invariant-loop-entry : goal.invariant-loop-entry
invariant-loop-entry l = l.text.items ≡ flat_map (line_of l.prefix) (take l.entry-index l.names)
