use Rattle.nq_keeper.proofs.Calling.{tells}
use Rattle.nq_model.specs.protocol.Change.{kept_as, space_of}
use Rattle.nq_keeper.proofs.list_keeper.ListKeeperKeeper.space.Goals as goal

pub returns-clause-told : goal.returns-clause-told
unfolding kept_as
returns-clause-told c =
    tells c.args.self.now (kept_as c.self.inside.files c.self.inside.hosts.items c.self.inside.heads) c.self.inside.calls (λ kept. space_of kept)
    c.space-found.result c.answered.result c.self.view_is c.self.invariant c.space-found.ensures c.answered.ensures.answer
