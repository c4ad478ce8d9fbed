-- One file as a disk, as contracts see it.
use Rattle.std.specs.Prelude.{◌≡◌, ◌+◌, ◌-◌, ◌^◌, ◌≤◌, ℕ, Bool, false, List, Option, None, min}

-- what was asked of the file: the place behind the last byte that it took, how many bytes it took, a count that stands still at the end of
-- its type, and whether a sync went well since it was asked to take any
pub record Asked : Type 0 where
  pub end : ℕ
  pub taken : ℕ
  pub is_synced : Bool

-- nothing was asked yet
abbrev pub unasked : Asked
unasked = record { end = 0; taken = 0; is_synced = false }

-- the file took so many bytes more, the last of them right before the end of this range
pub record TookAll (place n : ℕ) (before after : Asked) : Type 0 where
  pub end : after.end ≡ place + n
  pub taken : after.taken ≡ min (before.taken + n) (2 ^ 64 - 1)

-- where the file is, whether it was opened, whether its name was synced, what was asked of it, and the count of faults
pub record SeenFile : Type 0 where
  pub path : List ℕ
  pub is_open : Bool
  pub name_lasts : Bool
  pub asked : Asked
  pub faults : ℕ

-- the second disk is the first one after some calls
pub record StaysFile (first last : SeenFile) : Type 0 where
  pub path : last.path ≡ first.path
  pub rises : first.faults ≤ last.faults

-- a file tells nothing of its bytes
abbrev pub untold : SeenFile → Option (List ℕ)
untold disk = None

-- anything may be left
abbrev pub Anything : List ℕ → Type 0
Anything image = Unit
