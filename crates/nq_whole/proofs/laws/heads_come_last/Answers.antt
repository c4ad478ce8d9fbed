use Rattle.std.proofs.Common.{[]}
use Rattle.nq_whole.proofs.Orders.{runs}
use Rattle.nq_whole.proofs.laws.heads_come_last.Goals as goal
use Rattle.nq_whole.specs.declared.storing.StoringStep.{StoringStep}

pub returns : goal.returns
returns c = λ name own bytes answers. runs name own bytes answers StoringStep.Making [] tt
