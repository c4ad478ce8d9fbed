use Rattle.nq_script.proofs.Whole.{printed-again}
use Rattle.nq_script.proofs.laws.printed_again.Goals as goal

pub returns : goal.returns
returns c = λ head events texts fits s. printed-again head events texts fits s
