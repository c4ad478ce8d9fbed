use Rattle.std.proofs.Common.{rules}
use Rattle.nq_keeper.specs.InOrder.{is_below}
use Rattle.nq_keeper.proofs.Places.{closed-below, place-from-clause}
use Rattle.nq_keeper.proofs.files.place_of.Goals as goal

pub returns : goal.returns
returns c =
    place-from-clause (is_below c.args.id) (closed-below c.args.id) _ _ c.requires c.partition_point.ensures.bound
    c.partition_point.ensures.partitioned (λ a r f h. search rules)
