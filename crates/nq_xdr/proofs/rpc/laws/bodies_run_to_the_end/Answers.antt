use Rattle.nq_xdr.proofs.Spellings.{calls_go_on, replies_go_on}
use Rattle.nq_xdr.proofs.rpc.laws.bodies_run_to_the_end.Goals as goal

pub returns-clause-calls : goal.returns-clause-calls
returns-clause-calls c = calls_go_on

pub returns-clause-replies : goal.returns-clause-replies
returns-clause-replies c = replies_go_on
