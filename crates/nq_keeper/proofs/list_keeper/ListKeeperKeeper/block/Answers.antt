use Rattle.std.proofs.Common.{◌≡◌, Some}
use Rattle.nq_keeper.proofs.Calling.{asked-as, told-as}
use Rattle.nq_keeper.specs.Keeping.{body_at}
use Rattle.nq_model.specs.protocol.Change.{HasBlock, kept_as}
use Rattle.nq_model.specs.protocol.Kept.{find_file}
use Rattle.nq_keeper.proofs.list_keeper.ListKeeperKeeper.block.Goals as goal

pub returns-clause-told : goal.returns-clause-told
unfolding kept_as
returns-clause-told c =
    told-as c.args.self.now (kept_as c.self.inside.files c.self.inside.hosts.items c.self.inside.heads) c.self.inside.calls
    (λ kept. Some c.in_ok-read.field-0 ≡ body_at c.args.block (find_file c.args.id kept.files)) c.self.view_is c.self.invariant c.in_ok-read.ensures

pub read-requires : goal.read-requires
unfolding kept_as
read-requires c =
    asked-as c.args.self.now (kept_as c.self.inside.files c.self.inside.hosts.items c.self.inside.heads) c.self.inside.calls
    (λ kept. HasBlock c.args.block (find_file c.args.id kept.files)) c.self.view_is c.self.invariant c.requires
