-- What is read of an image of version 1.
use Rattle.std.specs.Prelude.{◌≡◌, ◌≤◌, ℕ, All, List, Option, Result, Ok, Err, length, sum_by}
use Rattle.nq_image.specs.Image.{FoundOne}
use Rattle.nq_image.specs.Rows.{blocks_of}
use Rattle.nq_image.specs.Seen.{seen_one}
use Rattle.nq_image.specs.declared.ImageOne.{ImageOne}
use Rattle.nq_image.specs.declared.Slot.{Slot}
use Rattle.nq_store.specs.declared.fault.Fault.{Fault}
use Rattle.nq_store.specs.declared.fault.Fault.TheVariants.{NotAnImage, BadField, Failed, Memory}

-- there is a row for each file that there can be, and their blocks are not too many
pub record IsSized (slots : List (Option Slot)) : Type 0 where
  pub all : length slots ≡ 256
  pub few : sum_by blocks_of slots ≤ 16384
  pub short : All (λ slot. blocks_of slot ≤ 1024) slots

-- a call that tests answers as its test does, or that the disk failed
abbrev pub Tests : Result Unit Fault → Result Unit ℕ → Type 0
Tests (Ok done) told = told ≡ Ok tt
Tests (Err NotAnImage) told = ⊥
Tests (Err (BadField place)) told = told ≡ Err place
Tests (Err Failed) told = Unit {0}
Tests (Err Memory) told = ⊥

-- a call that reads an image of version 1 answers what is found there, or the place of the first field that is wrong
abbrev pub Examines : Result ImageOne Fault → Result FoundOne ℕ → Type 0
Examines (Ok image) told = told ≡ Ok (seen_one image)
Examines (Err NotAnImage) told = ⊥
Examines (Err (BadField place)) told = told ≡ Err place
Examines (Err Failed) told = Unit {0}
Examines (Err Memory) told = Unit {0}
