use Rattle.std.proofs.Common.{rules}
use Rattle.nq_lease.specs.Rows.{is_before}
use Rattle.nq_lease.proofs.Order.{closed-before, place-from-clause}
use Rattle.nq_lease.proofs.rows.place_of.Goals as goal

pub returns : goal.returns
returns c =
    place-from-clause (is_before c.args.file c.args.host) (closed-before c.args.file c.args.host) _ _ c.requires c.partition_point.ensures.bound
    c.partition_point.ensures.partitioned (λ a r f h. search rules)
