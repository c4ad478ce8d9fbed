use Rattle.std.proofs.Common.{arith, rules}
use Rattle.std.specs.Prelude.{nat_lt}
use Rattle.std.proofs.lemmas.Bool.Decides.{nat_tests}
use Rattle.std.proofs.lemmas.List.Sorted.{IsPartitionPoint-from_clause, IsPartitionedBy-ltb}
use Rattle.nq_lease.proofs.Times.{time_of}
use Rattle.nq_lease.proofs.ends.place_of.Goals as goal

pub returns-clause-before : goal.returns-clause-before
returns-clause-before c =
    let point = IsPartitionPoint-from_clause (λ e. nat_lt (time_of e) c.args.time) _ _ c.partition_point.ensures.partitioned
    (IsPartitionedBy-ltb time_of _ c.args.time c.requires) (λ a r f h. search rules) in
    λ k d lt. let test = point.0 k d (omega arith) lt in grind (arith, nat_tests)

pub returns-clause-behind : goal.returns-clause-behind
returns-clause-behind c =
    let point = IsPartitionPoint-from_clause (λ e. nat_lt (time_of e) c.args.time) _ _ c.partition_point.ensures.partitioned
    (IsPartitionedBy-ltb time_of _ c.args.time c.requires) (λ a r f h. search rules) in
    λ k d le lt. let test = point.1 k d le lt in grind (arith, nat_tests)
