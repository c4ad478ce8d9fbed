use Rattle.std.proofs.Common.{rules, nat_lt}
use Rattle.std.proofs.lemmas.List.Sorted.{IsPartitionPoint-from_clause}
use Rattle.nq_client_parts.proofs.Places.{is_place, parted}
use Rattle.nq_client_parts.specs.Leases.{lease_in, file_of_row}
use Rattle.nq_model.specs.protocol.Client.{file_of_lease}
use Rattle.nq_client_parts.proofs.leases.place_of.Goals as goal

pub returns : goal.returns
returns c =
    is_place file_of_lease lease_in c.args.file c.args.rows.now c.partition_point.result c.partition_point.ensures.bound
    (IsPartitionPoint-from_clause (λ row. nat_lt (file_of_row row) c.args.file) _ _ c.partition_point.ensures.partitioned
    (parted file_of_lease lease_in c.args.file c.args.rows.now c.requires) (λ a r f h. search rules))
