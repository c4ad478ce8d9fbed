use Rattle.std.proofs.Common.{◌≡◌, ◌+◌, ap, subst, ◌∙◌}
use Rattle.nq_base.specs.Plain.{plain_answer}
use Rattle.nq_client.proofs.Calls.{called}
use Rattle.nq_client.proofs.Outcomes.{call_within, called_as, gives_from, grows_from, not_all, not_spent}
use Rattle.nq_client.specs.Counted.{Counted, counted}
use Rattle.nq_base.specs.declared.Call.{Call}
use Rattle.nq_client.specs.Outcome.{Called, or_pending}
use Rattle.nq_client.specs.State.{client_of}
use Rattle.nq_model.specs.protocol.Client.{Client}
use Rattle.nq_model.specs.protocol.ClientStep.{client_call}
use Rattle.nq_client.proofs.client.Client.call.Goals as goal

pub invariant_of-self-2 : goal.invariant_of-self-2
invariant_of-self-2 c = (
  c.gives_answer.ensures.begun,
  call_within c.self.inside.step.state c.room_for_call.new.step.state c.gives_answer.new.self.state c.in-Ok.own c.self.inside.taken
      c.room_for_call.ensures.kept.client (ap client_of c.gives_answer.ensures.state ∙ c.make_call.ensures.client) c.self.invariant.1
      (not_all c.self.inside.step.state c.self.inside.taken c.self.invariant.1 c.if-self-eq-MOST_TAKEN.false),
)

pub returns-clause-spent : goal.returns-clause-spent
returns-clause-spent c =
    let answer : plain_answer c.gives_answer.result ≡ or_pending (client_call (client_of c.room_for_call.new.step.state) c.in-Ok.own).answer =
    c.gives_answer.ensures.answer ∙ ap or_pending c.make_call.ensures.answer in
    let x = called (client_of c.room_for_call.new.step.state) c.in-Ok.own in (
      λ h. absurd (not_spent c.gives_answer.result (client_call (client_of c.room_for_call.new.step.state) c.in-Ok.own).answer x.given answer h),
      λ h. absurd (c.if-self-eq-MOST_TAKEN.false (ap (λ (v : Counted). v.taken) c.self.view_is ∙ h)),
    )

pub returns-clause-called : goal.returns-clause-called
returns-clause-called c =
    let answer : plain_answer c.gives_answer.result ≡ or_pending (client_call (client_of c.room_for_call.new.step.state) c.in-Ok.own).answer =
    c.gives_answer.ensures.answer ∙ ap or_pending c.make_call.ensures.answer in
    let e : client_of c.room_for_call.new.step.state ≡ c.args.self.now.client = c.room_for_call.ensures.kept.client ∙ ap (λ (v : Counted). v.client)
    c.self.view_is in
    let k : c.self.inside.taken + 1 ≡ c.args.self.now.taken + 1 = ap (λ (v : Counted). v.taken + 1) c.self.view_is in
    let x = called c.args.self.now.client c.in-Ok.own in
    let grows = grows_from (client_call (client_of c.room_for_call.new.step.state) c.in-Ok.own) c.args.out.now c.room_for_call.new.out
    c.make_call.new.out c.args.log.now c.room_for_call.new.log c.make_call.new.log c.room_for_call.ensures.kept.first
    c.room_for_call.ensures.kept.datagrams c.room_for_call.ensures.kept.entries c.make_call.ensures.grows in
    let gives = gives_from (λ (y : Client). client_call y c.in-Ok.own) c.args.self.now (counted c.gives_answer.new.self.state (c.self.inside.taken
    + 1)) (client_of c.room_for_call.new.step.state) c.args.out.now c.make_call.new.out c.args.log.now c.make_call.new.log e
    (ap client_of c.gives_answer.ensures.state ∙ c.make_call.ensures.client) k grows in
    subst (λ (op : Call). Called c.gives_answer.result (client_call c.args.self.now.client op) c.args.self.now (counted c.gives_answer.new.self.state
    (c.self.inside.taken + 1)) c.args.out.now c.make_call.new.out c.args.log.now c.make_call.new.log) c.in-Ok.ensures
    (called_as c.gives_answer.result (client_call c.args.self.now.client c.in-Ok.own) c.args.self.now (counted c.gives_answer.new.self.state
    (c.self.inside.taken + 1)) c.args.out.now c.make_call.new.out c.args.log.now c.make_call.new.log gives x.given (answer
    ∙ ap (λ (y : Client). or_pending (client_call y c.in-Ok.own).answer) e))
