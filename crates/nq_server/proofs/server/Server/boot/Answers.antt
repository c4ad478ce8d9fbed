use Rattle.std.proofs.Common.{refl}
use Rattle.nq_server.proofs.Booted.{is-booted}
use Rattle.nq_server.proofs.server.Server.boot.Goals as goal

pub returns-in-Ok-clause-boots : goal.returns-in-Ok-clause-boots
returns-in-Ok-clause-boots g c =
    is-booted c.args.longest c.args.now c.in-Ok.begun (g.K.Keeper.content c.args.keeper) (g.K.Keeper.content c.begin.new.keeper)
    (g.K.Keeper.faults c.args.keeper) (g.K.Keeper.faults c.begin.new.keeper) _ c.in-Ok.ensures.begins c.state_after.ensures.boots refl
