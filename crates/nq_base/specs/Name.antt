use Rattle.std.specs.Prelude.{◌≡◌, ◌≢◌, ◌≤◌, ◌-◌, ◌==◌, ◌∷◌, ◌++◌, ℕ, nat_le, Bool, ◌&&◌, not, List, [], length, take, drop, replicate, All}
use Rattle.std.specs.List.{list_all}
use Rattle.std.proofs.Common.{arith, length-take}
use Rattle.std.proofs.lemmas.List.{take-append-drop}

-- a byte that a name may have: printable ASCII but the blank and the slash
abbrev pub IsNameByte : ℕ → Type 0
IsNameByte b = (33 ≤ b) × (b ≤ 126) × (b ≢ 47)

-- a name is 1 to 64 such bytes
abbrev pub IsName : List ℕ → Type 0
IsName bytes = (1 ≤ length bytes) × (length bytes ≤ 64) × All IsNameByte bytes

-- none of these files, each with its name first, has the name
abbrev pub IsNew : List ℕ → List (List ℕ × ℕ) → Type 0
IsNew name [] = Unit {0}
IsNew name (f ∷ files) = (f.0 ≢ name) × IsNew name files

-- no two of the files have one name
abbrev pub AreDistinct : List (List ℕ × ℕ) → Type 0
AreDistinct [] = Unit {0}
AreDistinct (f ∷ files) = IsNew f.0 files × AreDistinct files

-- the tests of a name
abbrev pub is_name_byte : ℕ → Bool
is_name_byte b = nat_le 33 b && nat_le b 126 && not (b == 47)

unfoldable pub is_name : List ℕ → Bool
is_name bytes = nat_le 1 (length bytes) && nat_le (length bytes) 64 && list_all is_name_byte bytes

-- 64 bytes of which the first ones are a name and the others zeros
pub record IsStored (bytes : List ℕ) (used : ℕ) : Type 0 where
  pub size : length bytes ≡ 64
  pub fits : used ≤ 64
  pub name : IsName (take used bytes)
  pub rest : drop used bytes ≡ replicate (64 - used) 0

-- the name that is stored is as long as is said
pub stored-used : (bytes : List ℕ) (used : ℕ) → IsStored bytes used → length (take used bytes) ≡ used
stored-used bytes used h = let size = h.size in let fits = h.fits in omega (arith, length-take used bytes)

-- the bytes that are stored are the name and zeros
pub stored-bytes : (bytes : List ℕ) (used : ℕ) → IsStored bytes used → take used bytes ++ replicate (64 - length (take used bytes)) 0 ≡ bytes
stored-bytes bytes used h = rw (stored-used bytes used h, ← h.rest) (take-append-drop used bytes)
