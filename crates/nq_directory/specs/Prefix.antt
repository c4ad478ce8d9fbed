-- Directories, and the prefixes that name them.
use Rattle.std.specs.Prelude.{◌≡◌, ◌≤◌, ◌-◌, ◌==◌, ◌++◌, ℕ, List, [], ◌∷◌, length, take, drop, replicate, if◌then◌else◌}
use Rattle.std.proofs.Common.{arith, length-take}
use Rattle.std.proofs.lemmas.List.{take-append-drop}

-- a prefix is at most 64 bytes
abbrev pub IsPrefix : List ℕ → Type 0
IsPrefix bytes = length bytes ≤ 64

-- 64 bytes of which the first ones are a prefix and the others zeros
pub record IsStored (bytes : List ℕ) (used : ℕ) : Type 0 where
  pub size : length bytes ≡ 64
  pub fits : used ≤ 64
  pub rest : drop used bytes ≡ replicate (64 - used) 0

-- the prefix that is stored is as long as is said
pub stored-used : (bytes : List ℕ) (used : ℕ) → IsStored bytes used → length (take used bytes) ≡ used
stored-used bytes used h = let size = h.size in let fits = h.fits in omega (arith, length-take used bytes)

-- the bytes that are stored are the prefix and zeros
pub stored-bytes : (bytes : List ℕ) (used : ℕ) → IsStored bytes used → take used bytes ++ replicate (64 - length (take used bytes)) 0 ≡ bytes
stored-bytes bytes used h = rw (stored-used bytes used h, ← h.rest) (take-append-drop used bytes)

-- a byte before the directory of the bytes behind it; where these have no dot, it counts only if it is one
abbrev pub with_first : ℕ → List ℕ → List ℕ
with_first b [] = if b == 46 then b ∷ [] else []
with_first b (d ∷ ds) = b ∷ d ∷ ds

-- the directory of a name: its part up to and with its last dot, and the empty prefix where it has none
abbrev pub directory : List ℕ → List ℕ
directory [] = []
directory (b ∷ bs) = with_first b (directory bs)
