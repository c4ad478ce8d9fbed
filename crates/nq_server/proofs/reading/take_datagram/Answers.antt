use Rattle.std.proofs.Common.{refl, subst, sym}
use Rattle.nq_datagrams.specs.Told.{told}
use Rattle.nq_model.specs.protocol.Kept.{Kept}
use Rattle.nq_model.specs.protocol.Server.{ServerStep}
use Rattle.nq_model.specs.protocol.ServerStep.{receive}
use Rattle.nq_server.proofs.AnsweredSteps.{is-no-request, other-keeps}
use Rattle.nq_server.proofs.LeasedSteps.{takes-does}
use Rattle.nq_server.specs.State.{beside_of, server_of}
use Rattle.nq_server.specs.Stepping.{LeavesStep, next_of}
use Rattle.nq_server.proofs.reading.take_datagram.Goals as goal

pub take_other-requires : goal.take_other-requires
take_other-requires g c = is-no-request c.args.incoming c.in_default.not-Request

pub returns-in_default-clause-takes : goal.returns-in_default-clause-takes
returns-in_default-clause-takes g c =
    let held = beside_of c.args.state.now in
    let told_by = g.K.Keeper.content c.args.keeper.now in
    let faults = g.K.Keeper.faults c.args.keeper.now in
    let step : Kept → ServerStep = λ kept. receive (server_of held kept) c.args.sender (next_of c.args.out.now) (told c.args.incoming) in
    takes-does step step c.take_other.result told_by told_by faults faults held held c.args.out.now c.take_other.new.out c.args.log.now c.args.log.now
    refl refl
    (λ kept. c.take_other.ensures held kept (next_of c.args.out.now) c.args.log.now)
    (λ kept content. refl)
    (λ kept. other-keeps (server_of held kept) c.args.sender (next_of c.args.out.now) c.args.incoming (is-no-request c.args.incoming c.in_default.not-Request))

pub returns-in-Request-clause-leaves : goal.returns-in-Request-clause-leaves
returns-in-Request-clause-leaves g c =
    subst
    (λ i. LeavesStep (λ kept. receive (server_of (beside_of c.args.state.now) kept) c.args.sender (next_of c.args.out.now) (told i))
    (g.K.Keeper.content c.args.keeper.now) (g.K.Keeper.leaves c.args.keeper.now c.answer.new.keeper))
    (sym c.in-Request.is)
    c.answer.ensures.leaves
