-- The headline holds of torn runs.
use Rattle.std.specs.Prelude.{◌≡◌, ◌⊎◌, ◌++◌, ◌∷◌, false, ℕ, List, None, map}
use Rattle.nq_base.specs.declared.Entry.{Entry}
use Rattle.nq_base.specs.declared.Event.{Event}
use Rattle.nq_model.specs.protocol.Kept.{Kept}
use Rattle.nq_model.specs.protocol.ServerStep.{boot}
use Rattle.nq_model.specs.protocol.Skew.{IsWithinSkew}
use Rattle.nq_model.specs.protocol.World.{Head, first_kept, start, step, run}
use Rattle.nq_model.specs.laws.Bounds.{KeepsBounds}
use Rattle.nq_model.specs.laws.AnswersHaveCauses.{HaveCauses}
use Rattle.nq_model.specs.laws.AnswersTellWhatWas.{TellWhatWas}
use Rattle.nq_model.specs.laws.FullHasItsCause.{FullHaveCauses}
use Rattle.nq_model.specs.laws.Headline.{HeadlineHolds}
use Rattle.nq_laws.specs.TornRuns.{Happening, whole, torn_before, torn_after, TornWorld, brings_unsent, torn_step, torn_run, schedule, without_last}

-- at a moment of a torn run the headline holds of its own world; what answers say was so between each call and its answer in the run of
-- its schedule, which has the same journal; and from there on its journal only grows
pub record TornHoldsAt (head : Head) (later earlier : List Happening) : Type 0 where
  pub holds : HeadlineHolds (torn_run head earlier).world
  pub same : (torn_run head earlier).world.journal ≡ (run head (schedule head earlier)).journal
  pub told : TellWhatWas head (schedule head earlier)
  pub caused : HaveCauses head (schedule head earlier)
  pub full : FullHaveCauses head (schedule head earlier)
  pub more : List Entry
  pub grows : (torn_run head (later ++ earlier)).world.journal ≡ more ++ (torn_run head earlier).world.journal

-- this holds at each moment of every torn run whose schedule keeps to the bounds and is within skew
abbrev pub TornAtEveryMoment : Type 0
TornAtEveryMoment =
    (most : ℕ) (head : Head) (later earlier : List Happening)
    → KeepsBounds most head (schedule head (later ++ earlier))
    → IsWithinSkew head.hosts most (schedule head (later ++ earlier))
    → TornHoldsAt head later earlier

-- an event that is torn after others came whole: its run is that of the event left out and then a crash, or that of the event and
-- then a crash
abbrev pub OneIsTorn : Type 0
OneIsTorn =
    (head : Head) (earlier : List Event) (event : Event) (longest : ℕ)
    → (schedule head (torn_before event longest ∷ map whole earlier) ≡ Event.Crash longest ∷ earlier)
    × (schedule head (torn_after event longest ∷ map whole earlier) ≡ Event.Crash longest ∷ event ∷ earlier)

-- what a stop within the server's handling of an event leaves: what is kept as it was before the event, or as it is after it. The
-- calls of a server say that a stop at any moment of theirs leaves nothing else
abbrev pub IsLeft : TornWorld → Event → (found : Kept) → Type 0
IsLeft t event found = (found ≡ t.world.server.kept) ⊎ (found ≡ (step t.world event).server.kept)

-- the server of a torn run, after the event was torn, is the one that boots over what was found, at the time before the event or after it
pub record BootsTorn (t : TornWorld) (event : Event) (longest : ℕ) (found : Kept) : Type 0 where
  pub happens : Happening
  pub tears : (happens ≡ torn_before event longest) ⊎ (happens ≡ torn_after event longest)
  pub time : ℕ
  pub shown : (time ≡ t.world.server.now) ⊎ (time ≡ (step t.world event).server.now)
  pub boots : (torn_step t happens).world.server ≡ boot found longest time None

-- so whatever a stop leaves of an event that can come, the run goes on as one that is torn there
abbrev pub EachStopTears : Type 0
EachStopTears =
    (t : TornWorld) (event : Event) (longest : ℕ) (found : Kept)
    → brings_unsent t.unsent event ≡ false
    → IsLeft t event found
    → BootsTorn t event longest found

-- a stop within the first boot of all: where its number was not kept, the run begins with the next boot; where it was, a crash follows it
abbrev pub FirstBootTears : Type 0
FirstBootTears =
    (head : Head) (longest : ℕ)
    → (boot (first_kept head) longest 0 None ≡ (start (record head { longest = longest })).server)
    × (without_last (boot (start head).server.kept longest 0 None) ≡ without_last (step (start head) (Event.Crash longest)).server)
