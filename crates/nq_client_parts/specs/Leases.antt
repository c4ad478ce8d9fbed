-- The leases that a client holds, as rows.
use Rattle.std.specs.Prelude.{ℕ, List}
use Rattle.nq_client_parts.specs.declared.leases.HeldLease.{HeldLease}
use Rattle.nq_client_parts.specs.HoldingLeases.{of_kind}
use Rattle.nq_model.specs.protocol.Client.{Lease}

-- the lease of a row
abbrev pub lease_in : HeldLease → Lease
lease_in row = of_kind row.mode row.lease

-- the file of a row
abbrev pub file_of_row : HeldLease → ℕ
file_of_row row = row.lease.file

-- The leases in order of files, and for how many more files there is room before memory is wanted.
pub record LeaseList : Type 0 where
  pub items : List Lease
  pub spare : ℕ
