use Rattle.std.proofs.Common.{◌∙◌}
use Rattle.nq_serving.proofs.node.Node.begin.Goals as goal

pub returns-clause-first : goal.returns-clause-first
returns-clause-first g c = c.empty_outbox.ensures.first ∙ c.next.ensures
