-- The entries of a step.
use Rattle.std.specs.Prelude.{◌≡◌, ℕ, List, ◌++◌, map, reverse}
use Rattle.nq_base.specs.Plain.{plain}
use Rattle.nq_base.specs.declared.Entry.{Entry}

-- The entries of a step with the newest first, and for how many more there is room.
pub record Noted : Type 0 where
  pub items : List Entry
  pub spare : ℕ

-- a journal grew by the entries of a step, the oldest first
pub record Tells (items before after : List Entry) : Type 0 where
  pub more : List Entry
  pub behind : after ≡ before ++ more
  pub are : map plain more ≡ reverse items
