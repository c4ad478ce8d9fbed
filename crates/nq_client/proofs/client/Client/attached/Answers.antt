use Rattle.std.proofs.Common.{true, refl, ap, ◌∙◌, arith}
use Rattle.nq_client.proofs.Counts.{within}
use Rattle.nq_client.specs.State.{client_of}
use Rattle.nq_model.specs.protocol.Client.{Client}
use Rattle.nq_model.specs.protocol.ClientStep.{attached_client, fresh_client}
use Rattle.nq_client.proofs.client.Client.attached.Goals as goal

pub invariant_of-result : goal.invariant_of-result
unfolding attached_client fresh_client
invariant_of-result c = (
  c.begun.ensures.begun,
  within c.begun.result.state (attached_client (record { host = c.args.host; inc = c.args.inc }) c.args.term c.args.time) 0
      (ap client_of c.begun.ensures.state ∙ ap (λ (x : Client). record x { attached = true }) c.in-Ok.ensures) (omega arith) c.requires (omega arith)
      (omega arith) (omega arith) (omega arith) refl,
)
