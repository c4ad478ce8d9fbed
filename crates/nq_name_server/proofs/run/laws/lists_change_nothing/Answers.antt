use Rattle.nq_name_server.proofs.Inner.{lists-change-nothing}
use Rattle.nq_name_server.proofs.run.laws.lists_change_nothing.Goals as goal

pub returns : goal.returns
returns c = lists-change-nothing
