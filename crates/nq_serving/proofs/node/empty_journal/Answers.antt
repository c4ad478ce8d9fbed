use Rattle.std.proofs.Common.{◌≡◌, [], IfOk, subst}
use Rattle.nq_serving.proofs.node.empty_journal.Goals as goal

pub returns : goal.returns
returns c = subst (λ r. IfOk r (λ log. log.entries ≡ [])) c.unwrap.ensures c.new.ensures.empty
