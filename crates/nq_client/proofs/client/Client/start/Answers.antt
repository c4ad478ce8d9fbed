use Rattle.std.proofs.Common.{refl, arith}
use Rattle.nq_client.proofs.Counts.{within}
use Rattle.nq_model.specs.protocol.ClientStep.{fresh_client, starts}
use Rattle.nq_client.proofs.client.Client.start.Goals as goal

pub invariant_of-result : goal.invariant_of-result
unfolding starts fresh_client
invariant_of-result c = (
  c.in-Ok.ensures.begun,
  within c.in-Ok.step.state (starts (record { host = c.args.host; inc = c.args.inc }) c.args.term c.args.time).client 0 c.in-Ok.ensures.client
      (omega arith) c.requires (omega arith) (omega arith) (omega arith) (omega arith) refl,
)
