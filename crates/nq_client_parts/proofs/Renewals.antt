-- A lease that is to be renewed lets its holder cache.
use Rattle.std.proofs.Common.{◌≡◌, ℕ, ◌+◌, ◌&&◌, Bool, true, false, not, List, map, Option, Some, None, nat_le, is_some, IfSome, refl, sym}
use Rattle.nq_base.specs.declared.Push.{Push}
use Rattle.nq_client_parts.specs.ByFile.{Ascends}
use Rattle.nq_client_parts.specs.Leases.{lease_in, file_of_row}
use Rattle.nq_client_parts.specs.declared.leases.HeldLease.{HeldLease}
use Rattle.nq_client_parts.proofs.Least.{least-passes, passes}
use Rattle.nq_model.specs.protocol.Client.{Lease, Notice, file_of_lease, is_clean_in, is_live, lease_on, notice_on}
use Rattle.nq_model.specs.protocol.Hear.{holds_caching}
use Rattle.nq_model.specs.protocol.Profile.{renewal}
use Rattle.nq_model.specs.protocol.Send.{is_to_renew_in, renewed_in}
use Rattle.nq_model.specs.protocol.Table.{caches}

first : (a b c d e f : Bool) → (((((a && b) && c) && d) && e) && f) ≡ true → a ≡ true
first true b c d e f h = refl
first false b c d e f h = h

caching : (now : ℕ) (notices : List Notice) (dirty : List Push) (push : Option Push) (o : Option Lease) → passes file_of_lease lease_in
    (is_to_renew_in now notices dirty push) o ≡ true → holds_caching o ≡ true
caching now notices dirty push None h = h
caching now notices dirty push (Some l) h =
    first (caches l.mode) (is_live now l) l.used (nat_le l.expiry (now + renewal)) (is_clean_in l.file dirty push) (not (is_some (notice_on l.file notices))) h

-- the lease to renew is a caching one
pub renewed-caches : (now : ℕ) (rows : List HeldLease) (notices : List Notice) (dirty : List Push) (push : Option Push) (o : Option ℕ)
    → Ascends file_of_row rows → o ≡ renewed_in now (map lease_in rows) notices dirty push
    → IfSome o (λ file. holds_caching (lease_on file (map lease_in rows)) ≡ true)
renewed-caches now rows notices dirty push None a h = tt
renewed-caches now rows notices dirty push (Some file) a h =
    caching now notices dirty push (lease_on file (map lease_in rows)) (least-passes file_of_lease lease_in (is_to_renew_in now notices dirty push)
    rows file a (sym h))
