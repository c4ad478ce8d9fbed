use Rattle.std.proofs.Common.{refl, sym, ap, ◌∙◌}
use Rattle.nq_base.specs.declared.Reply.{Reply as Answer}
use Rattle.nq_model.proofs.EachChange.{requests-are-decided}
use Rattle.nq_model.specs.protocol.Decided.{decided, decided_step, gate_of}
use Rattle.nq_model.specs.protocol.Kept.{Kept}
use Rattle.nq_model.specs.protocol.Message.{asker, reply}
use Rattle.nq_model.specs.protocol.Server.{ServerStep}
use Rattle.nq_model.specs.protocol.ServerStep.{answer_request}
use Rattle.nq_server.proofs.AnsweredSteps.{takes-answered}
use Rattle.nq_server.proofs.SentRequests.{same-host, known-host, answers-nobody}
use Rattle.nq_server.proofs.TakenSteps.{leaves-as, takes-after, takes-dropped}
use Rattle.nq_server.specs.declared.received.Reason.TheVariants as reason
use Rattle.nq_server.specs.State.{beside_of, server_of}
use Rattle.nq_server.specs.Stepping.{next_of}
use Rattle.nq_server.proofs.requests.answer.Goals as goal

pub returns-in_default-clause-takes : goal.returns-in_default-clause-takes
returns-in_default-clause-takes g c =
    takes-answered c.args.origin.host (reply c.args.origin.xid Answer.Null) c.answer.result
    (λ kept. answer_request (server_of (beside_of c.args.state.now) kept) c.args.origin.host c.args.origin.xid (next_of c.args.out.now)
    c.args.request (asker c.args.request)) (g.K.Keeper.content c.args.keeper.now) (g.K.Keeper.content c.args.keeper.now)
    (g.K.Keeper.faults c.args.keeper.now) (g.K.Keeper.faults c.args.keeper.now) (beside_of c.args.state.now) c.args.out.now c.answer.new.out
    c.args.log.now refl refl c.answer.ensures
    (λ kept told. ap (answer_request (server_of (beside_of c.args.state.now) kept) c.args.origin.host c.args.origin.xid (next_of c.args.out.now)
    c.args.request) (sym c.asker.ensures ∙ c.in_default.is))

pub returns-then-not-is_of_sender-clause-takes : goal.returns-then-not-is_of_sender-clause-takes
returns-then-not-is_of_sender-clause-takes g c =
    takes-dropped reason.WrongHost (λ kept. answer_request (server_of (beside_of c.args.state.now) kept) c.args.origin.host c.args.origin.xid
    (next_of c.args.out.now) c.args.request (asker c.args.request)) (g.K.Keeper.content c.args.keeper.now) (g.K.Keeper.content c.args.keeper.now)
    (g.K.Keeper.faults c.args.keeper.now) (g.K.Keeper.faults c.args.keeper.now) (beside_of c.args.state.now) c.args.out.now c.args.log.now refl refl
    (λ kept told.
    ap (answer_request (server_of (beside_of c.args.state.now) kept) c.args.origin.host c.args.origin.xid (next_of c.args.out.now) c.args.request)
    (sym c.in-Some.ensures)
    ∙ answers-nobody (server_of (beside_of c.args.state.now) kept) c.args.origin.host c.args.origin.xid (next_of c.args.out.now) c.args.request
    c.in-Some.who (sym c.is_of_sender.ensures ∙ c.if-not-is_of_sender.true))

pub returns-then-is_decided_once-clause-takes : goal.returns-then-is_decided_once-clause-takes
returns-then-is_decided_once-clause-takes g c =
    let held = beside_of c.args.state.now in
    let who = c.in-Some.who in
    let r = c.args.request in
    let step : Kept → ServerStep = λ kept. answer_request (server_of held kept) c.args.origin.host c.args.origin.xid (next_of c.args.out.now) r (asker r) in
    let base : Kept → ServerStep = λ kept. decided_step (server_of held kept) who c.args.origin.xid r (decided kept (gate_of (server_of held kept) who r) r) in
    let ours = sym c.is_of_sender.ensures ∙ c.if-not-is_of_sender.false in
    takes-after step base c.decide_once.result (g.K.Keeper.content c.args.keeper.now) (g.K.Keeper.content c.args.keeper.now)
    (g.K.Keeper.content c.decide_once.new.keeper) (g.K.Keeper.faults c.args.keeper.now) (g.K.Keeper.faults c.args.keeper.now)
    (g.K.Keeper.faults c.decide_once.new.keeper) held (beside_of c.decide_once.new.state) c.args.out.now c.decide_once.new.out c.args.log.now
    c.decide_once.new.log refl refl
    (λ kept told. requests-are-decided (server_of held kept) c.args.origin.host c.args.origin.xid (next_of c.args.out.now) r who
    (sym c.in-Some.ensures) (sym c.is_decided_once.ensures ∙ c.if-is_decided_once.true) (same-host who.host c.args.origin.host ours)
    (known-host who.host c.args.origin.host ours) (g.met.K.Keeper.within c.args.keeper.now kept told))
    c.decide_once.ensures.takes

pub returns-then-is_decided_once-clause-leaves : goal.returns-then-is_decided_once-clause-leaves
returns-then-is_decided_once-clause-leaves g c =
    let held = beside_of c.args.state.now in
    let who = c.in-Some.who in
    let r = c.args.request in
    let ours = sym c.is_of_sender.ensures ∙ c.if-not-is_of_sender.false in
    λ kept told found left.
    leaves-as found kept (decided_step (server_of held kept) who c.args.origin.xid r (decided kept (gate_of (server_of held kept) who r) r))
    (answer_request (server_of held kept) c.args.origin.host c.args.origin.xid (next_of c.args.out.now) r (asker r))
    (requests-are-decided (server_of held kept) c.args.origin.host c.args.origin.xid (next_of c.args.out.now) r who (sym c.in-Some.ensures)
    (sym c.is_decided_once.ensures ∙ c.if-is_decided_once.true) (same-host who.host c.args.origin.host ours)
    (known-host who.host c.args.origin.host ours) (g.met.K.Keeper.within c.args.keeper.now kept told))
    (c.decide_once.ensures.leaves kept told found left)
