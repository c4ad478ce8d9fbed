-- Keys are compared by their files and blocks.
use Rattle.std.proofs.Common.{◌≡◌, ℕ, ◌==◌, ◌&&◌, arith}
use Rattle.std.proofs.lemmas.Bool.Decides.{nat_tests}
use Rattle.nq_cache.specs.contracts.entries.KeyPartialEq.TheImpl as keys
use Rattle.nq_cache.proofs.Kept.{IsKeyEquality}

flipped : (a b m n : ℕ) → ((a == b) && (m == n)) ≡ ((b == a) && (n == m))
flipped a b m n = grind (arith, nat_tests)

pub key_laws : IsKeyEquality keys.eq-value.it
key_laws j k = flipped j.file k.file j.block k.block
