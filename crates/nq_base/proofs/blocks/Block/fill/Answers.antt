use Rattle.nq_base.proofs.Filling.{filled-length, filled-value}
use Rattle.nq_base.proofs.blocks.Block.fill.Goals as goal

pub returns-clause-size : goal.returns-clause-size
returns-clause-size c = filled-length c.args.value

pub returns-clause-value : goal.returns-clause-value
returns-clause-value c = filled-value c.args.value
