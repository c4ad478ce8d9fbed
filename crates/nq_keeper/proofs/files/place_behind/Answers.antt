use Rattle.std.proofs.Common.{rules}
use Rattle.nq_keeper.specs.InOrder.{is_upto}
use Rattle.nq_keeper.proofs.Places.{closed-upto, place-from-clause}
use Rattle.nq_keeper.proofs.files.place_behind.Goals as goal

pub returns : goal.returns
returns c =
    place-from-clause (is_upto c.args.id) (closed-upto c.args.id) _ _ c.requires c.partition_point.ensures.bound c.partition_point.ensures.partitioned
    (λ a r f h. search rules)
