use Rattle.std.proofs.Common.{None, subst}
use Rattle.nq_keeper.specs.Named.{StandsAt}
use Rattle.nq_keeper.proofs.Naming.{stands-at}
use Rattle.nq_keeper.proofs.names.take_name.Goals as goal

pub returns : goal.returns
returns c =
    subst (λ name. StandsAt name None c.args.names.now.entries c.remove.new.self.entries) c.as_bytes.ensures.bytes
    (stands-at c.as_bytes.result.now c.args.names.now c.remove.new.self None c.remove.ensures.updates)
