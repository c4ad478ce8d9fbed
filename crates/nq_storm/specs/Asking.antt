-- How often a fate is asked. Below, `before` is how often it was asked before a call, and `now` is how often after it.
use Rattle.std.specs.Prelude.{◌≡◌, ◌⊎◌, ◌≤◌, ℕ, ◌+◌}
use Rattle.nq_base.specs.declared.ending.ending.Ending.{Ending}
use Rattle.nq_storm.specs.declared.stormed.Stormed.{Stormed}
use Rattle.nq_storm.specs.Rules.{asked_for}

-- a fate was asked once for each of so many events, or for one more
abbrev pub AsksForNext : (events before now : ℕ) → Type 0
AsksForNext events before now = (now ≡ asked_for events before) ⊎ (now ≡ asked_for (events + 1) before)

-- a fate was asked once for each event of a storm; where the storm ended early, maybe for the next one, which did not come
abbrev pub AsksOnce : Stormed → (events before now : ℕ) → Type 0
AsksOnce Stormed.Done events before now = now ≡ asked_for events before
AsksOnce other events before now = AsksForNext events before now

-- a fate was asked once for each of some events, which are at most so many
pub record AsksFew (most before now : ℕ) : Type 0 where
  pub events : ℕ
  pub few : events ≤ most
  pub asked : now ≡ asked_for events before

-- how often a storm that was to have so many events asked its fate, by how it ended: once for each, where it had all
abbrev pub AsksWanted : Stormed → (wanted before now : ℕ) → Type 0
AsksWanted Stormed.Done wanted before now = now ≡ asked_for wanted before
AsksWanted other wanted before now = AsksFew wanted before now

-- the same, by the end of the command that prints it
abbrev pub AsksFor : Ending → (wanted before now : ℕ) → Type 0
AsksFor Ending.Done wanted before now = now ≡ asked_for wanted before
AsksFor Ending.WriteFault wanted before now = now ≡ asked_for wanted before
AsksFor other wanted before now = AsksFew wanted before now
