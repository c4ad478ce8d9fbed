-- Parts of names as numbers, by which a name is found faster than by itself.
use Rattle.std.specs.List.Sorted.{IsNonDecreasing}
use Rattle.std.specs.Prelude.{◌≡◌, ◌+◌, ◌*◌, ℕ, suc, zero, Bool, true, List, [], ◌∷◌, drop, map}
use Rattle.nq_directory.specs.declared.names.FileName.{FileName}
use Rattle.nq_directory.specs.Names.{AreInOrder}

-- a number with the next n bytes as further digits, with zeros behind fewer bytes
abbrev pub with_digits : (n number : ℕ) → (bytes : List ℕ) → ℕ
with_digits zero number bytes = number
with_digits (suc n) number [] = with_digits n (number * 256) []
with_digits (suc n) number (b ∷ bs) = with_digits n (number * 256 + b) bs

-- the number that the first eight bytes spell, the highest digit first
abbrev pub number_of : (bytes : List ℕ) → ℕ
number_of bytes = with_digits 8 0 bytes

-- the front of a name: the number that its eight bytes behind the first ones spell
abbrev pub front : (skip : ℕ) → (name : List ℕ) → ℕ
front skip name = number_of (drop skip name)

-- the fronts of the names of files
abbrev pub fronts_of : (skip : ℕ) → List FileName → List ℕ
fronts_of skip names = map (λ e. front skip e.name) names

-- names in order, with the front of each
pub record AreFronted (skip : ℕ) (fronts : List ℕ) (names : List FileName) : Type 0 where
  pub order : AreInOrder names
  pub spelled : fronts ≡ fronts_of skip names

-- names in order, with the front of each, which do not fall where that is said
pub record AreKept (skip : ℕ) (rise : Bool) (fronts : List ℕ) (names : List FileName) : Type 0 where
  pub fronted : AreFronted skip fronts names
  pub rising : rise ≡ true → IsNonDecreasing fronts
