use Rattle.std.proofs.Common.{rules}
use Rattle.nq_directory.proofs.Order.{place-from-clause}
use Rattle.nq_directory.proofs.names.place_of.Goals as goal

pub returns : goal.returns
returns c =
    place-from-clause c.args.name.now _ _ c.requires c.partition_point.ensures.bound c.partition_point.ensures.partitioned (λ a r f h. search rules)
