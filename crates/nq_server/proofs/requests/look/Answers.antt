use Rattle.std.proofs.Common.{sym, subst}
use Rattle.nq_model.specs.protocol.Server.{serving}
use Rattle.nq_model.specs.protocol.ServerStep.{look}
use Rattle.nq_server.specs.State.{beside_of, server_of}
use Rattle.nq_server.specs.Stepping.{Takes, next_of}
use Rattle.nq_server.proofs.requests.look.Goals as goal

pub returns-in-Lookup-clause-takes : goal.returns-in-Lookup-clause-takes
returns-in-Lookup-clause-takes g c =
    subst
    (λ r. Takes (λ kept. look (server_of (beside_of c.args.state.now) kept) serving c.args.caller.who c.args.caller.xid (next_of c.args.out.now) r)
    c.look_up.result (g.K.Keeper.content c.args.keeper.now) (g.K.Keeper.content c.look_up.new.keeper) (g.K.Keeper.faults c.args.keeper.now)
    (g.K.Keeper.faults c.look_up.new.keeper) (beside_of c.args.state.now) (beside_of c.args.state.now) c.args.out.now c.look_up.new.out
    c.args.log.now c.args.log.now)
    (sym c.in-Lookup.is)
    (c.look_up.ensures.takes (beside_of c.args.state.now) c.args.log.now)

pub returns-in-GetAttr-clause-takes : goal.returns-in-GetAttr-clause-takes
returns-in-GetAttr-clause-takes g c =
    subst
    (λ r. Takes (λ kept. look (server_of (beside_of c.args.state.now) kept) serving c.args.caller.who c.args.caller.xid (next_of c.args.out.now) r)
    c.get_attr.result (g.K.Keeper.content c.args.keeper.now) (g.K.Keeper.content c.get_attr.new.keeper) (g.K.Keeper.faults c.args.keeper.now)
    (g.K.Keeper.faults c.get_attr.new.keeper) (beside_of c.args.state.now) (beside_of c.args.state.now) c.args.out.now c.get_attr.new.out
    c.args.log.now c.args.log.now)
    (sym c.in-GetAttr.is)
    (c.get_attr.ensures.takes (beside_of c.args.state.now) c.args.log.now)
