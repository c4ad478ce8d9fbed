use Rattle.std.proofs.Common.{◌≡◌, ◌++◌, drop}
use Rattle.nq_image.specs.Writing.{entries_of}
use Rattle.nq_image.proofs.spelling.spell_entries.Given as goal

abbrev pub invariant-loop-block : goal.invariant-loop-block
invariant-loop-block l = l.bytes.items ++ entries_of (drop l.block-index l.blocks) ≡ entries_of l.blocks
