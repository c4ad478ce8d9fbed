use Rattle.nq_image.proofs.Entering.{entries-done, entry-passes}
use Rattle.nq_image.proofs.spelling.spell_entries.Goals as goal

pub loop-block-preserved : goal.loop-block-preserved
loop-block-preserved c =
    rw (c.in_ok-extend_from_slice.ensures.items, c.to_be_bytes.ensures) (entry-passes c.loop-block.block-index c.loop-block.bytes.items
    c.args.blocks.now c.loop-block-test.true c.loop-block.invariant)

pub returns : goal.returns
returns c = entries-done c.loop-block.block-index c.loop-block.bytes.items c.args.blocks.now c.loop-block-test.false c.loop-block.invariant
