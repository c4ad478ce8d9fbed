-- Keys are compared by their files and blocks.
use Rattle.std.proofs.Common.{◌≡◌, ℕ, ◌==◌, ◌&&◌, Bool, arith}
use Rattle.std.proofs.lemmas.Bool.Decides.{nat_tests}
use Rattle.nq_client_parts.specs.contracts.dirty.entries.KeyPartialEq.TheImpl as keys
use Rattle.nq_client_parts.specs.declared.dirty.entries.Key.{Key}

flipped : (a b m n : ℕ) → ((a == b) && (m == n)) ≡ ((b == a) && (n == m))
flipped a b m n = grind (arith, nat_tests)

-- whether two keys are one
abbrev pub same : Key → Key → Bool
same = keys.eq-value.it

-- two keys are one where their files and blocks are
pub same_key : (j k : Key) → same j k ≡ (k.file == j.file && k.block == j.block)
same_key j k = flipped j.file k.file j.block k.block
