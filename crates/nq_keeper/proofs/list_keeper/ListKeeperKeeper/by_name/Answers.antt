use Rattle.nq_keeper.proofs.Calling.{tells}
use Rattle.nq_model.specs.protocol.Change.{kept_as, row_of_found}
use Rattle.nq_model.specs.protocol.Kept.{find_name}
use Rattle.nq_keeper.proofs.list_keeper.ListKeeperKeeper.by_name.Goals as goal

pub returns-clause-told : goal.returns-clause-told
unfolding kept_as
returns-clause-told c =
    tells c.args.self.now (kept_as c.self.inside.files c.self.inside.hosts.items c.self.inside.heads) c.self.inside.calls
    (λ kept. row_of_found (find_name c.args.name.now kept.files)) c.row_of_name-found.result c.answered.result c.self.view_is c.self.invariant
    c.row_of_name-found.ensures c.answered.ensures.answer
