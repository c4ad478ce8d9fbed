-- A lease that is marked as used.
use Rattle.std.proofs.Common.{◌≡◌, ℕ, ◌==◌, true, refl, arith}
use Rattle.std.proofs.lemmas.Bool.Decides.{nat_tests}
use Rattle.nq_client_parts.specs.Leases.{lease_in}
use Rattle.nq_client_parts.proofs.Places.{IsOfFile}
use Rattle.nq_model.specs.protocol.Client.{Lease, file_of_lease, marked_used}

pub marks_own : (file : ℕ) → IsOfFile file_of_lease lease_in file (marked_used file)
marks_own file l away = rw away refl

same : (m n : ℕ) → m ≡ n → (m == n) ≡ true
same m n h = grind (arith, nat_tests)

pub marked : (file : ℕ) (l : Lease) → l.file ≡ file → record l { used = true } ≡ marked_used file l
marked file l e = rw (same l.file file e) refl
