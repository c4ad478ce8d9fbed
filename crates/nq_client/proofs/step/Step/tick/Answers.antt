use Rattle.std.proofs.Common.{true, sym, ap, ◌∙◌}
use Rattle.nq_client.specs.State.{client_of}
use Rattle.nq_model.specs.protocol.Client.{ClientStep, begun}
use Rattle.nq_model.specs.protocol.ClientStep.{at_time, tick_asking}
use Rattle.nq_model.specs.protocol.Send.{send_next}
use Rattle.nq_model.specs.protocol.Settle.{settle}
use Rattle.nq_client.proofs.step.Step.tick.Goals as goal

pub returns-in-None : goal.returns-in-None
unfolding at_time
returns-in-None c =
    c.goes_on.ensures
    ∙ ap (λ (t : ClientStep). send_next true (settle (record t { client = record t.client { now = c.args.now } }))) c.requires.begun
    ∙ sym (ap (tick_asking (begun (at_time (client_of c.args.self.now.state) c.args.now))) c.in-None.is)
