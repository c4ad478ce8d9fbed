use Rattle.std.proofs.Common.{◌+◌, Ok, Err, refl}
use Rattle.nq_model.specs.protocol.Kept.{Kept}
use Rattle.nq_model.specs.protocol.Server.{ServerStep}
use Rattle.nq_model.specs.protocol.ServerStep.{tick as ticked}
use Rattle.nq_server.specs.State.{beside_of, server_of}
use Rattle.nq_server.proofs.Served.{is-said-taken, is-said-not-taken, relog, still-sound}
use Rattle.nq_server.proofs.server.Server.tick.Goals as goal

pub returns-in-Ok-clause-takes : goal.returns-in-Ok-clause-takes
returns-in-Ok-clause-takes g c =
    let step : Kept → ServerStep = λ kept. ticked (server_of (beside_of c.self.inside.state) kept) c.args.now in
    rw
    (← c.self.view_is)
    (is-said-taken
    step
    (g.K.Keeper.content c.self.inside.keeper)
    (g.K.Keeper.content c.tick.new.keeper)
    (g.K.Keeper.faults c.self.inside.keeper)
    (g.K.Keeper.faults c.tick.new.keeper)
    (record { keeper = c.self.inside.keeper; beside = beside_of c.self.inside.state; taken = c.self.inside.taken })
    (record { keeper = c.tick.new.keeper; beside = beside_of c.tick.new.state; taken = c.self.inside.taken + 1 })
    c.args.out.now
    c.args.out.now
    c.args.log.now
    c.tick.new.log
    c.done.result
    c.in-Ok.taken
    c.done.ensures
    refl
    (relog step (Ok c.in-Ok.taken) (g.K.Keeper.content c.self.inside.keeper) (g.K.Keeper.content c.tick.new.keeper)
    (g.K.Keeper.faults c.self.inside.keeper) (g.K.Keeper.faults c.tick.new.keeper) (beside_of c.self.inside.state) (beside_of c.tick.new.state)
    c.args.out.now c.args.out.now c.args.log.now c.reserve.new.self c.tick.new.log c.reserve.ensures.entries (c.in-Ok.ensures.takes c.args.out.now)))

pub returns-in-Ok-clause-leaves : goal.returns-in-Ok-clause-leaves
returns-in-Ok-clause-leaves g c = rw (← c.self.view_is) c.tick.ensures.leaves

pub returns-in-Err-clause-takes : goal.returns-in-Err-clause-takes
returns-in-Err-clause-takes g c =
    let step : Kept → ServerStep = λ kept. ticked (server_of (beside_of c.self.inside.state) kept) c.args.now in
    rw
    (← c.self.view_is)
    (is-said-not-taken
    step
    (g.K.Keeper.content c.self.inside.keeper)
    (g.K.Keeper.content c.tick.new.keeper)
    (g.K.Keeper.faults c.self.inside.keeper)
    (g.K.Keeper.faults c.tick.new.keeper)
    (record { keeper = c.self.inside.keeper; beside = beside_of c.self.inside.state; taken = c.self.inside.taken })
    (record { keeper = c.tick.new.keeper; beside = beside_of c.tick.new.state; taken = c.self.inside.taken })
    c.args.out.now
    c.args.out.now
    c.args.log.now
    c.tick.new.log
    c.halted.result
    c.in-Err.fault
    c.halted.ensures
    refl
    (relog step (Err c.in-Err.fault) (g.K.Keeper.content c.self.inside.keeper) (g.K.Keeper.content c.tick.new.keeper)
    (g.K.Keeper.faults c.self.inside.keeper) (g.K.Keeper.faults c.tick.new.keeper) (beside_of c.self.inside.state) (beside_of c.tick.new.state)
    c.args.out.now c.args.out.now c.args.log.now c.reserve.new.self c.tick.new.log c.reserve.ensures.entries (c.in-Err.ensures.takes c.args.out.now)))

pub returns-in-Err-clause-leaves : goal.returns-in-Err-clause-leaves
returns-in-Err-clause-leaves g c = rw (← c.self.view_is) c.tick.ensures.leaves

pub invariant_of-self-in-Err : goal.invariant_of-self-in-Err
invariant_of-self-in-Err g c =
    still-sound c.self.inside.taken c.self.inside.state c.tick.new.state c.in-Err.fault (λ kept. ticked (server_of (beside_of c.self.inside.state)
    kept) c.args.now) (g.K.Keeper.content c.self.inside.keeper) (g.K.Keeper.content c.tick.new.keeper) (g.K.Keeper.faults c.self.inside.keeper)
    (g.K.Keeper.faults c.tick.new.keeper) c.args.out.now c.args.out.now c.reserve.new.self c.tick.new.log c.self.invariant c.tick.ensures.stays
    (c.in-Err.ensures.takes c.args.out.now)
