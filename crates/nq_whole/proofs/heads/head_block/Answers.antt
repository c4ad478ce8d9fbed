use Rattle.nq_whole.proofs.Heading.{first-piece}
use Rattle.nq_whole.proofs.heads.head_block.Goals as goal

pub returns : goal.returns
returns c = rw (c.front_of_head.ensures, first-piece c.args.head) at c.piece.ensures
