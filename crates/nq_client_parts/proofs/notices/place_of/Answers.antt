use Rattle.std.proofs.Common.{rules, nat_lt}
use Rattle.std.proofs.lemmas.List.Sorted.{IsPartitionPoint-from_clause}
use Rattle.nq_client_parts.proofs.Places.{is_place, parted}
use Rattle.nq_model.specs.protocol.Client.{file_of_notice}
use Rattle.nq_client_parts.proofs.notices.place_of.Goals as goal

pub returns : goal.returns
returns c =
    is_place file_of_notice (λ n. n) c.args.file c.args.notices.now c.partition_point.result c.partition_point.ensures.bound
    (IsPartitionPoint-from_clause (λ n. nat_lt (file_of_notice n) c.args.file) _ _ c.partition_point.ensures.partitioned
    (parted file_of_notice (λ n. n) c.args.file c.args.notices.now c.requires) (λ a r f h. search rules))
