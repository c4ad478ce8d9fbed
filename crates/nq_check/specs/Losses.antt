-- The parts of what is asked of losses and of their names, each at a place of a journal, the oldest entry first.
use Rattle.std.specs.Prelude.{◌≡◌, ◌<◌, ◌≤◌, ◌+◌, ℕ, List, ◌∷◌, Some, Bool, true, take, drop, reverse}
use Rattle.std.specs.List.{slice_get}
use Rattle.nq_base.specs.declared.Entry.{Entry}
use Rattle.nq_base.specs.declared.Entry.TheVariants.{L, A}
use Rattle.nq_base.specs.declared.Said.TheVariants.{Lost}
use Rattle.nq_rules.specs.Named.{is_reported}
use Rattle.nq_model.specs.laws.CutOffTest.{is_cut_off}
use Rattle.nq_model.specs.laws.Journal.{call_of}
use Rattle.nq_model.specs.laws.Reported.{loss_told}
use Rattle.nq_model.specs.laws.ReportedTest.{name_losses}

-- each entry from a place on and before another passes a test at its place
abbrev pub PassBetween : (test : (place : ℕ) → Entry → Bool) (whole : List Entry) (from to : ℕ) → Type 0
PassBetween test whole from to = (place : ℕ) (entry : Entry) → from ≤ place → place < to → slice_get whole place ≡ Some entry → test place entry ≡ true

-- an A `lost` names earlier losses, each for the first time
abbrev pub is_naming : (whole : List Entry) (place : ℕ) → Entry → Bool
is_naming whole place (A who q (Lost spans)) = name_losses (reverse whole) (reverse (take place whole)) who (call_of (reverse whole) who q) spans.items
is_naming whole place other = true

-- an L is named by the first call that has to, or before it
abbrev pub is_told : (whole : List Entry) (place : ℕ) → Entry → Bool
is_told whole place (L who file block first last) =
    is_reported (reverse whole) (L who file block first last ∷ reverse (take place whole)) who (loss_told file block first last) (drop (place + 1) whole)
is_told whole place other = true

-- an L is cut off
abbrev pub is_ended : (whole : List Entry) (place : ℕ) → Entry → Bool
is_ended whole place entry = is_cut_off (drop (place + 1) whole) entry (reverse (take place whole))
