use Rattle.std.proofs.Common.{Some, subst, ◌∙◌}
use Rattle.nq_keeper.specs.Named.{StandsAt}
use Rattle.nq_keeper.proofs.Naming.{stands-at}
use Rattle.nq_keeper.proofs.names.put_name.Goals as goal

pub returns-clause-ok : goal.returns-clause-ok
returns-clause-ok c =
    subst (λ name. StandsAt name (Some c.args.id) c.args.names.now.entries c.insert.new.self.entries) (c.in_ok-key.ensures.items ∙ c.as_bytes.ensures.bytes)
    (stands-at c.in_ok-key.key.items c.args.names.now c.insert.new.self (Some c.args.id) c.in_ok-insert.ensures.updates)
