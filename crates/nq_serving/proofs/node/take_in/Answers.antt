use Rattle.std.proofs.Common.{sym, subst}
use Rattle.nq_serving.specs.Extending.{extension_told}
use Rattle.nq_serving.specs.Leaving.{IsLeftAt, LeavesOnly}
use Rattle.nq_serving.specs.ServerTurn.{given_by}
use Rattle.nq_serving.proofs.node.take_in.Goals as goal

pub returns-in-Client-clause-leaves : goal.returns-in-Client-clause-leaves
returns-in-Client-clause-leaves g c =
    subst (λ sender. LeavesOnly g.K.Keeper.content g.K.Keeper.follows g.K.Keeper.leaves c.args.node.now.server.keeper c.take_from_host.new.node.server.keeper
    (IsLeftAt g.K.Keeper.content (given_by (extension_told g.E.Extension.owns g.E.Extension.replies) (sender, c.args.datagram.now)) c.args.node.now))
    (sym c.in-Client.is) c.take_from_host.ensures.leaves
