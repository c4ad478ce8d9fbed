use Rattle.std.proofs.Common.{rules}
use Rattle.nq_lease.specs.Rows.{is_below}
use Rattle.nq_lease.proofs.Order.{closed-below, place-from-clause}
use Rattle.nq_lease.proofs.rows.first_of.Goals as goal

pub returns : goal.returns
returns c =
    place-from-clause (is_below c.args.file) (closed-below c.args.file) _ _ c.requires c.partition_point.ensures.bound
    c.partition_point.ensures.partitioned (λ a r f h. search rules)
