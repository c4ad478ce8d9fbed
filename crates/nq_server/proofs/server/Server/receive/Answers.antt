use Rattle.std.proofs.Common.{◌+◌, refl}
use Rattle.nq_datagrams.specs.Told.{told}
use Rattle.nq_model.specs.protocol.Kept.{Kept}
use Rattle.nq_model.specs.protocol.Server.{ServerStep}
use Rattle.nq_model.specs.protocol.ServerStep.{receive as received}
use Rattle.nq_server.specs.State.{beside_of, server_of}
use Rattle.nq_server.specs.Stepping.{next_of}
use Rattle.nq_server.proofs.Served.{is-said-taken, is-said-not-taken}
use Rattle.nq_server.proofs.server.Server.receive.Goals as goal

pub returns-in-Ok-clause-takes : goal.returns-in-Ok-clause-takes
returns-in-Ok-clause-takes g c =
    let step : Kept → ServerStep = λ kept. received (server_of (beside_of c.self.inside.state) kept) c.args.sender (next_of c.args.out.now)
    (told c.read_incoming-incoming.result) in
    rw
    (← c.read_incoming-incoming.ensures, ← c.self.view_is)
    (is-said-taken
    step
    (g.K.Keeper.content c.self.inside.keeper)
    (g.K.Keeper.content c.take_datagram.new.keeper)
    (g.K.Keeper.faults c.self.inside.keeper)
    (g.K.Keeper.faults c.take_datagram.new.keeper)
    (record { keeper = c.self.inside.keeper; beside = beside_of c.self.inside.state; taken = c.self.inside.taken })
    (record { keeper = c.take_datagram.new.keeper; beside = beside_of c.take_datagram.new.state; taken = c.self.inside.taken + 1 })
    c.args.out.now
    c.take_datagram.new.out
    c.args.log.now
    c.take_datagram.new.log
    c.done.result
    c.in-Ok.taken
    c.done.ensures
    refl
    c.in-Ok.ensures.takes)

pub returns-in-Ok-clause-leaves : goal.returns-in-Ok-clause-leaves
returns-in-Ok-clause-leaves g c = rw (← c.read_incoming-incoming.ensures, ← c.self.view_is) c.take_datagram.ensures.leaves

pub returns-in-Err-clause-takes : goal.returns-in-Err-clause-takes
returns-in-Err-clause-takes g c =
    let step : Kept → ServerStep = λ kept. received (server_of (beside_of c.self.inside.state) kept) c.args.sender (next_of c.args.out.now)
    (told c.read_incoming-incoming.result) in
    rw
    (← c.read_incoming-incoming.ensures, ← c.self.view_is)
    (is-said-not-taken
    step
    (g.K.Keeper.content c.self.inside.keeper)
    (g.K.Keeper.content c.take_datagram.new.keeper)
    (g.K.Keeper.faults c.self.inside.keeper)
    (g.K.Keeper.faults c.take_datagram.new.keeper)
    (record { keeper = c.self.inside.keeper; beside = beside_of c.self.inside.state; taken = c.self.inside.taken })
    (record { keeper = c.take_datagram.new.keeper; beside = beside_of c.take_datagram.new.state; taken = c.self.inside.taken })
    c.args.out.now
    c.take_datagram.new.out
    c.args.log.now
    c.take_datagram.new.log
    c.halted.result
    c.in-Err.fault
    c.halted.ensures
    refl
    c.in-Err.ensures.takes)

pub returns-in-Err-clause-leaves : goal.returns-in-Err-clause-leaves
returns-in-Err-clause-leaves g c = rw (← c.read_incoming-incoming.ensures, ← c.self.view_is) c.take_datagram.ensures.leaves
