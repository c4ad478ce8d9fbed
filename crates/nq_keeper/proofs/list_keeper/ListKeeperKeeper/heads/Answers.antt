use Rattle.std.proofs.Common.{refl}
use Rattle.nq_keeper.proofs.Calling.{tells}
use Rattle.nq_model.specs.protocol.Change.{heads_of, kept_as}
use Rattle.nq_keeper.proofs.list_keeper.ListKeeperKeeper.heads.Goals as goal

pub returns-clause-told : goal.returns-clause-told
unfolding kept_as
returns-clause-told c =
    tells c.args.self.now (kept_as c.self.inside.files c.self.inside.hosts.items c.self.inside.heads) c.self.inside.calls (λ kept. heads_of kept)
    c.self.inside.heads c.answered.result c.self.view_is c.self.invariant refl c.answered.ensures.answer
