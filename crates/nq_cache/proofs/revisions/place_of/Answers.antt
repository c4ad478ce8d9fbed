use Rattle.std.proofs.Common.{rules, nat_lt}
use Rattle.std.proofs.lemmas.List.Sorted.{IsPartitionPoint-from_clause}
use Rattle.nq_cache.proofs.Places.{is_place, parted}
use Rattle.nq_cache.proofs.revisions.place_of.Goals as goal

pub returns : goal.returns
returns c =
    is_place c.args.file c.args.known.now c.partition_point.result c.partition_point.ensures.bound
    (IsPartitionPoint-from_clause (λ k. nat_lt k.file c.args.file) _ _ c.partition_point.ensures.partitioned (parted c.args.file c.args.known.now
    c.requires) (λ a r f h. search rules))
