use Rattle.std.proofs.Common.{◌≡◌, refl, ap, ◌∙◌, inl}
use Rattle.nq_keeper.proofs.Leaving.{two-of}
use Rattle.nq_model.specs.protocol.Change.{applied_if}
use Rattle.nq_model.specs.protocol.Decided.{change_of, decided, decided_step, gate_in, gate_of}
use Rattle.nq_model.specs.protocol.Kept.{Kept}
use Rattle.nq_model.specs.protocol.Server.{ServerStep}
use Rattle.nq_server.proofs.DecidedOnce.{leaves-decided, takes-decided, takes-given-up}
use Rattle.nq_server.proofs.DecidedSteps.{taken-back}
use Rattle.nq_server.proofs.ToldRequests.{concludes-told}
use Rattle.nq_server.proofs.LeasedSteps.{some-kept}
use Rattle.nq_server.specs.Deciding.{warnings}
use Rattle.nq_server.specs.State.{beside_of, phase_of, server_of}
use Rattle.nq_server.proofs.deciding.decide_once.Goals as goal

pub returns-in-Err-clause-takes : goal.returns-in-Err-clause-takes
returns-in-Err-clause-takes g c =
    let held = beside_of c.args.state.now in
    let step : Kept → ServerStep = λ kept. decided_step (server_of held kept) c.args.caller.who c.args.caller.xid c.args.request
    (decided kept (gate_of (server_of held kept) c.args.caller.who c.args.request) c.args.request) in
    let nothing = taken-back (warnings (server_of held some-kept) c.args.caller.who c.without_body-told.result) c.args.out.now c.prepare.new.out
    c.prepare.new.out c.cut.new.self c.in-Ok.ready.len c.args.log.now c.args.log.now c.prepare.new.log c.in-Ok.ensures.ready.before
    (c.in-Ok.ensures.warns some-kept).told (record { first = refl; datagrams = refl; entries = c.in-Ok.ensures.ready.entries })
    c.cut.ensures.first c.cut.ensures.kept in
    takes-given-up c.in-Err.fault step (λ kept. decided kept c.gate-gate.result c.args.request) (λ kept. change_of kept c.gate-gate.result
    c.args.request) (g.K.Keeper.content c.args.keeper.now) (g.K.Keeper.content c.read_before.new.keeper) (g.K.Keeper.content c.decide.new.keeper)
    (g.K.Keeper.faults c.args.keeper.now) (g.K.Keeper.faults c.read_before.new.keeper) (g.K.Keeper.faults c.decide.new.keeper) held c.args.out.now
    c.cut.new.self c.args.log.now c.prepare.new.log c.in_ok-before.ensures.reads.0 c.in_ok-before.ensures.reads.1 c.in-Err.ensures.gives nothing

pub returns-in-Err-clause-leaves : goal.returns-in-Err-clause-leaves
returns-in-Err-clause-leaves g c =
    λ kept told found left.
    let held = beside_of c.args.state.now in
    let is : c.gate-gate.result ≡ gate_of (server_of held kept) c.args.caller.who c.args.request =
    c.gate-gate.ensures kept (c.in_ok-before.ensures.heads kept told) ∙ ap (gate_in (server_of held kept) (phase_of c.args.state.now.phase)
    c.args.caller.who) c.file_to_change.ensures in
    leaves-decided held c.args.caller.who c.args.caller.xid c.args.request c.gate-gate.result kept found is
    (two-of found kept (applied_if kept (change_of kept c.gate-gate.result c.args.request)) _ _ (g.met.K.Keeper.parts _ c.read_before.new.keeper _
    found c.read_before.ensures.follows c.decide.ensures.follows left)
    (c.read_before.ensures.leaves kept told found)
    (c.decide.ensures.leaves kept (c.in_ok-before.ensures.reads.0 ∙ told) found))

pub returns-clause-takes : goal.returns-clause-takes
returns-clause-takes g c =
    let held = beside_of c.args.state.now in
    takes-decided held c.args.caller.who c.args.caller.xid c.args.request c.gate-gate.result c.in-Ok-decide.decided c.conclude.result
    (g.K.Keeper.content c.args.keeper.now) (g.K.Keeper.content c.read_before.new.keeper) (g.K.Keeper.content c.decide.new.keeper)
    (g.K.Keeper.faults c.args.keeper.now) (g.K.Keeper.faults c.read_before.new.keeper) (g.K.Keeper.faults c.decide.new.keeper)
    (beside_of c.conclude.new.state) c.args.out.now c.conclude.new.out c.args.log.now c.conclude.new.log c.in_ok-before.ensures.reads.0
    c.in_ok-before.ensures.reads.1
    (λ kept told. c.gate-gate.ensures kept (c.in_ok-before.ensures.heads kept told)
    ∙ ap (gate_in (server_of held kept) (phase_of c.args.state.now.phase) c.args.caller.who) c.file_to_change.ensures)
    c.in-Ok-decide.ensures.gives
    (λ kept told.
    concludes-told (server_of held kept) c.args.caller.who c.args.caller.xid c.args.request c.without_body-told.result c.in-Ok-decide.decided
    c.conclude.result (beside_of c.conclude.new.state) c.args.out.now c.conclude.new.out c.args.log.now c.conclude.new.log c.without_body-told.ensures
    (c.conclude.ensures.makes kept c.args.out.now c.args.log.now c.in-Ok.ensures.ready (c.in-Ok.ensures.warns kept) (c.in-Ok.ensures.length
    ∙ c.in_ok-before.ensures.length kept told)))

pub returns-clause-leaves : goal.returns-clause-leaves
returns-clause-leaves g c =
    λ kept told found left.
    let held = beside_of c.args.state.now in
    let is : c.gate-gate.result ≡ gate_of (server_of held kept) c.args.caller.who c.args.request =
    c.gate-gate.ensures kept (c.in_ok-before.ensures.heads kept told) ∙ ap (gate_in (server_of held kept) (phase_of c.args.state.now.phase)
    c.args.caller.who) c.file_to_change.ensures in
    leaves-decided held c.args.caller.who c.args.caller.xid c.args.request c.gate-gate.result kept found is
    (two-of found kept (applied_if kept (change_of kept c.gate-gate.result c.args.request)) _ _ (g.met.K.Keeper.parts _ c.read_before.new.keeper _
    found c.read_before.ensures.follows c.decide.ensures.follows left)
    (c.read_before.ensures.leaves kept told found)
    (c.decide.ensures.leaves kept (c.in_ok-before.ensures.reads.0 ∙ told) found))

pub returns-in_err-before-clause-leaves : goal.returns-in_err-before-clause-leaves
returns-in_err-before-clause-leaves g c = λ kept told found left. inl (c.read_before.ensures.leaves kept told found left)

pub returns-in-Err-clause-follows : goal.returns-in-Err-clause-follows
returns-in-Err-clause-follows g c = g.met.K.Keeper.follows_on _ c.read_before.new.keeper _ c.read_before.ensures.follows c.decide.ensures.follows

pub returns-clause-follows : goal.returns-clause-follows
returns-clause-follows g c = g.met.K.Keeper.follows_on _ c.read_before.new.keeper _ c.read_before.ensures.follows c.decide.ensures.follows
