use Rattle.std.proofs.Common.{◌≡◌, Option, Some, sym, ap, ◌∙◌}
use Rattle.nq_client.proofs.Received.{replied-answered}
use Rattle.nq_client.proofs.Spent.{taken_out}
use Rattle.nq_client.specs.Receiving.{answered}
use Rattle.nq_client.specs.Step.{step_of}
use Rattle.nq_model.specs.protocol.Client.{ClientStep, Ticket}
use Rattle.nq_model.specs.protocol.Hear.{replied}
use Rattle.nq_client.proofs.step.Step.replied.Goals as goal

pub returns-in-Ok-clause-done : goal.returns-in-Ok-clause-done
returns-in-Ok-clause-done c = λ x e.
    let s = c.args.self.now in
    let both : Some c.in-Some.asked ≡ Some x = c.in-Some.ensures.value ∙ e in
    let same : c.in-Some.asked ≡ x = cc in
    c.in-Ok.ensures.step
    ∙ ap (λ (o : Option Ticket). answered (step_of (record s { state = record s.state { asked = o } })) c.args.packet c.in-Some.asked
    c.args.reply.now) c.take.ensures.after
    ∙ ap (λ (t : ClientStep). answered t c.args.packet c.in-Some.asked c.args.reply.now) (taken_out s c.requires.prepared.silent)
    ∙ sym (replied-answered (step_of s) c.args.packet c.in-Some.asked c.args.reply.now)
    ∙ ap (λ (k : Ticket). replied (step_of s) c.args.packet k c.args.reply.now) same
