-- What a storm prints. Below, `held` is what the sink held before it and `now` is what it holds after it, where the sink tells them; `w`
-- and `w'` are the sink's counts of faults before and after.
use Rattle.std.specs.List.{count_by}
use Rattle.std.specs.Prelude.{◌≡◌, ◌⊎◌, ℕ, ◌<◌, List, ◌++◌, length, map, reverse, Option, Some}
use Rattle.nq_base.specs.declared.Event.{Event}
use Rattle.nq_base.specs.declared.ending.ending.Ending.{Ending}
use Rattle.nq_io.specs.Told.{with_end}
use Rattle.nq_model.specs.protocol.Kept.{Kept}
use Rattle.nq_model.specs.protocol.World.{run}
use Rattle.nq_replay.specs.Playing.{beginning}
use Rattle.nq_replay.specs.Reaching.{IsReached}
use Rattle.nq_replay.specs.Lines.{limit_line}
use Rattle.nq_io.specs.Sink.{PrintsLine}
use Rattle.nq_replay.specs.Replay.{journal_of, journal_printed, kept_of}
use Rattle.nq_replay.specs.Schedules.{PrintsBytes, bound_of}
use Rattle.nq_script.specs.Lines.{once}
use Rattle.nq_script.specs.Schedule.{SpellsSchedule}
use Rattle.nq_storm.specs.Counts.{is_loss, storm_line}
use Rattle.nq_storm.specs.Heads.{storm_head}
use Rattle.nq_storm.specs.Storming.{IsStorm}
use Rattle.nq_storm.specs.Whole.{IsWholeStorm}
use Rattle.nq_storm.specs.Rules.{Rule}
use Rattle.nq_world.specs.declared.Limit.{Limit}

-- the counts of a run of these events
abbrev pub counts_of : List Event → List ℕ
counts_of events =
    storm_line (length events) (length (run (beginning storm_head) events).packets) (count_by is_loss (journal_of storm_head events))

-- all that a storm prints: the text of its schedule, the text of its journal, and its counts
abbrev pub storm_text : (text : List ℕ) → List Event → List ℕ
storm_text text events = text ++ (journal_printed storm_head events ++ counts_of events)

-- what spells these events, of which the oldest is told first, was printed with their journal and their counts, by the end
pub record PrintsSpelled (end : Ending) (ran : List Event) (held now : Option (List ℕ)) (w w' : ℕ) : Type 0 where
  pub text : List ℕ
  pub spelled : SpellsSchedule storm_head (map once ran) text
  pub printed : PrintsBytes end (storm_text text (reverse ran)) held now w w'

-- the same, or nothing was printed for want of memory
abbrev pub PrintsRan : Ending → (ran : List Event) → (held now : Option (List ℕ)) → (w w' : ℕ) → Type 0
PrintsRan end ran held now w w' = PrintsSpelled end ran held now w w' ⊎ ((end ≡ Ending.Memory) × (now ≡ held))

-- a storm of so many events printed, by its end, all of that
pub record PrintsStorm (end : Ending) (start count : ℕ) (first : Option Rule) (held now : Option (List ℕ)) (w w' : ℕ) : Type 0 where
  pub text : List ℕ
  pub events : List Event
  pub whole : IsWholeStorm start count first text events
  pub printed : PrintsBytes end (storm_text text events) held now w w'

-- a storm of so many events printed all of that, and what its run keeps is told
pub record KeepsStorm (start count : ℕ) (first : Option Rule) (held now : Option (List ℕ)) (told : Option Kept) : Type 0 where
  pub text : List ℕ
  pub events : List Event
  pub whole : IsWholeStorm start count first text events
  pub printed : now ≡ with_end held (storm_text text events)
  pub keeps : told ≡ Some (kept_of storm_head events)

-- a storm came to a limit before it had so many events, and that was printed
pub record PrintsReached (start count : ℕ) (first : Option Rule) (held now : Option (List ℕ)) (w w' : ℕ) : Type 0 where
  pub last : Option Rule
  pub events : List Event
  pub storm : IsStorm (beginning storm_head) start first events last
  pub fewer : length events < count
  pub limit : Limit
  pub reached : IsReached limit (length events) (length (run (beginning storm_head) events).packets)
  pub printed : PrintsLine (limit_line 0 (bound_of limit)) held now w w'

-- what the words of a storm did, by the end: the number that the storm starts with, how many events it is to have, and what the fate tells
abbrev pub StormEnds : Ending → (start count : ℕ) → (first : Option Rule) → (held now : Option (List ℕ)) → (w w' : ℕ) → Type 0
StormEnds Ending.Done start count first held now w w' = PrintsStorm Ending.Done start count first held now w w'
StormEnds Ending.WriteFault start count first held now w w' = PrintsStorm Ending.WriteFault start count first held now w w'
StormEnds Ending.KeepFault start count first held now w w' = now ≡ held
StormEnds Ending.Memory start count first held now w w' = (now ≡ held) ⊎ PrintsStorm Ending.Memory start count first held now w w'
StormEnds Ending.Limit start count first held now w w' = PrintsReached start count first held now w w'
StormEnds other start count first held now w w' = ⊥
