-- The words of a block that repeats one.
use Rattle.std.proofs.Common.{◌≡◌, ◌++◌, ℕ, zero, suc, refl, ap}
use Rattle.nq_base.specs.Block.{filled, repeated, word}
use Rattle.nq_xdr.specs.Words.{repeats}

same-words : (times v : ℕ) → repeats times (word v) ≡ repeated times v
same-words zero v = refl
same-words (suc times) v = ap (λ rest. word v ++ rest) (same-words times v)

-- a word, so often as a block has it
pub filled-words : (v : ℕ) → repeats 1024 (word v) ≡ filled v
unfolding filled
filled-words v = same-words 1024 v
