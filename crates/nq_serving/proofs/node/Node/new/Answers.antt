use Rattle.std.proofs.Common.{refl}
use Rattle.nq_serving.proofs.node.Node.new.Goals as goal

pub returns-clause-next : goal.returns-clause-next
returns-clause-next g c = rw (c.empty_outbox.ensures.first, c.empty_outbox.ensures.empty) refl
