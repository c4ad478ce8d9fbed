use Rattle.std.proofs.Common.{sym, ap, ◌∙◌}
use Rattle.nq_client.specs.Asking.{meets}
use Rattle.nq_client.specs.Step.{step_of}
use Rattle.nq_client.specs.declared.asking.Need.{Need}
use Rattle.nq_client.proofs.step.Step.meets.Goals as goal

pub returns-in-Push : goal.returns-in-Push
returns-in-Push c = c.pushes.ensures ∙ sym (ap (λ (need : Need). meets (step_of c.args.self.now) need) c.in-Push.is)

pub returns-in-Through : goal.returns-in-Through
returns-in-Through c = c.sends_write.ensures ∙ sym (ap (λ (need : Need). meets (step_of c.args.self.now) need) c.in-Through.is)

pub returns-in-Ask : goal.returns-in-Ask
returns-in-Ask c = c.sends_request.ensures ∙ sym (ap (λ (need : Need). meets (step_of c.args.self.now) need) c.in-Ask.is)

pub returns-in-Order : goal.returns-in-Order
returns-in-Order c = c.sends_in_order.ensures ∙ sym (ap (λ (need : Need). meets (step_of c.args.self.now) need) c.in-Order.is)

pub returns-in-Change : goal.returns-in-Change
returns-in-Change c = c.sends_change.ensures ∙ sym (ap (λ (need : Need). meets (step_of c.args.self.now) need) c.in-Change.is)
