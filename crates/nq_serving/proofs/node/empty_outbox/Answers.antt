use Rattle.std.proofs.Common.{◌≡◌, [], IfOk, subst}
use Rattle.nq_serving.proofs.node.empty_outbox.Goals as goal

pub returns-clause-first : goal.returns-clause-first
returns-clause-first c =
    let made = subst (λ r. IfOk r (λ out. (out.first ≡ c.args.next) × (out.datagrams ≡ []))) c.unwrap.ensures c.new.ensures.empty in made.0

pub returns-clause-empty : goal.returns-clause-empty
returns-clause-empty c =
    let made = subst (λ r. IfOk r (λ out. (out.first ≡ c.args.next) × (out.datagrams ≡ []))) c.unwrap.ensures c.new.ensures.empty in made.1
