use Rattle.nq_whole.proofs.Heading.{read-again}
use Rattle.nq_whole.proofs.heads.heads_are_read.Goals as goal

pub returns : goal.returns
returns c = λ head small. read-again head small
