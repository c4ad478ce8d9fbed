-- What reading to the end gives. Below, `left` is what was left before it and `rest` is what is left after it, where the source tells them.
use Rattle.std.specs.Prelude.{◌≡◌, ℕ, ◌+◌, ◌<◌, ◌≤◌, List, [], length, Option, IfSome}
use Rattle.nq_io.specs.declared.whole.Whole.{Whole}
use Rattle.nq_io.specs.declared.whole.Whole.TheVariants.{All, Over, Failed, Memory}
use Rattle.nq_io.specs.Faults.{Rose}
use Rattle.nq_io.specs.Told.{with_front}

-- these are all the bytes that were left, within the limit, and none is left now
pub record IsAll (bytes : List ℕ) (limit : ℕ) (left rest : Option (List ℕ)) : Type 0 where
  pub within : length bytes ≤ limit
  pub taken : left ≡ with_front bytes rest
  pub all : IfSome left (λ input. bytes ≡ input)
  pub nothing : IfSome rest (λ more. more ≡ [])

-- these are the first of the bytes that were left, one more than the limit
pub record IsOver (bytes : List ℕ) (limit : ℕ) (left rest : Option (List ℕ)) : Type 0 where
  pub passes : length bytes ≡ limit + 1
  pub taken : left ≡ with_front bytes rest
  pub longer : IfSome left (λ input. limit < length input)

-- some of the bytes that were left were taken, from the first on, and no more than the limit
pub record TakesSome (limit : ℕ) (left rest : Option (List ℕ)) : Type 0 where
  pub bytes : List ℕ
  pub within : length bytes ≤ limit
  pub taken : left ≡ with_front bytes rest

-- what reading to the end gave, by its answer
abbrev pub ReadsWhole : Whole → (limit : ℕ) → (left rest : Option (List ℕ)) → Type 0
ReadsWhole (All bytes) limit left rest = IsAll bytes.items limit left rest
ReadsWhole (Over bytes) limit left rest = IsOver bytes.items limit left rest
ReadsWhole Failed limit left rest = TakesSome limit left rest
ReadsWhole Memory limit left rest = rest ≡ left

-- only a fault raises the count of faults
abbrev pub CountsWhole : Whole → (before now : ℕ) → Type 0
CountsWhole (All bytes) before now = now ≡ before
CountsWhole (Over bytes) before now = now ≡ before
CountsWhole Failed before now = Rose before now
CountsWhole Memory before now = now ≡ before
