-- What stands in order of files, one for each.
use Rattle.std.specs.Prelude.{ℕ, ◌<◌, ◌≤◌, List, [], ◌∷◌, Option, Some, None, ◌==◌, if◌then◌else◌, take, drop, length}
use Rattle.std.specs.List.{AllByRecursion}

-- each stands before those of later files
abbrev pub Ascends : {A : Type 0} → (A → ℕ) → List A → Type 0
Ascends file_of [] = Unit {0}
Ascends file_of (x ∷ xs) = AllByRecursion (λ later. file_of x < file_of later) xs × Ascends file_of xs

-- the place of a file: those of earlier files stand before it, and no others
pub record IsPlace {A : Type 0} (file_of : A → ℕ) (file : ℕ) (xs : List A) (place : ℕ) : Type 0 where
  pub within : place ≤ length xs
  pub before : AllByRecursion (λ x. file_of x < file) (take place xs)
  pub behind : AllByRecursion (λ x. file ≤ file_of x) (drop place xs)

-- what stands at the place of a file, if that is of the file
abbrev pub of_file : {A : Type 0} → (A → ℕ) → ℕ → Option A → Option A
of_file file_of file None = None
of_file file_of file (Some x) = if file_of x == file then Some x else None
