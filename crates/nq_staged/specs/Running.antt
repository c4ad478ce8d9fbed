-- What `staged` reads and prints. Below, `left` is what was left in the source before it and `rest` is what is left after it, where the
-- source tells them; `held` is what the sink held before it and `now` is what it holds after it, where the sink tells them; `r` and `r'`
-- are the source's counts of faults before and after, and `w` and `w'` the sink's.
use Rattle.std.specs.Fmt.{decimal}
use Rattle.std.specs.List.{AllByRecursion}
use Rattle.std.specs.Prelude.{◌≡◌, ℕ, List, ◌++◌, Option, codes, map, reverse}
use Rattle.nq_replay.specs.Texts.{IsTellable}
use Rattle.nq_staged.specs.Worlds.{PlaysOutside, StagedOver}
use Rattle.nq_base.specs.declared.ending.ending.Ending.{Ending}
use Rattle.nq_journal.specs.Text.{journal_text}
use Rattle.nq_model.specs.protocol.Kept.{Kept}
use Rattle.nq_played.specs.Running.{Ends, EndsByInput, EndsPlayed, Prints, PrintsRun as PrintsAll, Runs}
use Rattle.nq_replay.specs.Lawful.{IsLawful}
use Rattle.nq_replay.specs.Playing.{beginning}
use Rattle.nq_script.specs.Lines.{once}
use Rattle.nq_script.specs.Schedule.{SpellsSchedule}
use Rattle.nq_script.specs.declared.heads.Head.{Head}
use Rattle.nq_replay.specs.AsidesPlaying.{Ended}
use Rattle.nq_staged.specs.Playing.{play}
use Rattle.nq_staged.specs.Text.{FirstBadStaged, SpellsStaged}
use Rattle.nq_stage.specs.declared.run.event.StagedEvent.{StagedEvent}
use Rattle.nq_stage.specs.Outer.{Counts, Outside}
use Rattle.nq_stage.specs.Outside.{outside_run}
use Rattle.nq_stage.specs.Theorem.{IsStagedSchedule}

-- ---- what is printed

-- the line of what was counted: STAGE packets taken in, COMMITs rebuilt, and replies UNSTAGED
unfoldable pub count_line : Counts → List ℕ
count_line c =
    codes "staged " ++ decimal c.staged ++ codes " commits " ++ decimal c.commits ++ codes " unstaged " ++ decimal c.unstaged ++ codes "\n"

-- the journal of the inner world, and what was counted
abbrev pub behind_schedule : Outside → List ℕ
behind_schedule o = journal_text 2 (reverse o.world.journal) ++ count_line o.counts

-- what a staged run of this head shows at its end
abbrev pub end_of : Head → List StagedEvent → Outside
end_of head events = outside_run (beginning head) events

-- The text of the inner schedule, each of whose events has a line, the journal of its run, and what was counted. The inner schedule is
-- within skew and keeps to the bounds; the staged one has no more hosts and events than there may be, and its calls bring blocks.
pub record IsPrinted (head : Head) (events : List StagedEvent) (bytes : List ℕ) : Type 0 where
  pub schedule : IsStagedSchedule (beginning head) events
  pub lawful : IsLawful (beginning head) (end_of head events).ran
  pub text : List ℕ
  pub spelled : SpellsSchedule head (map once (reverse (end_of head events).ran)) text
  pub bytes_are : bytes ≡ text ++ behind_schedule (end_of head events)

-- ---- how it ends

-- the text is a staged schedule with this head, and playing all of its lines comes to this
abbrev pub RunsStaged : (text : List ℕ) → Head → List StagedEvent → Type 0
RunsStaged text head reached = Runs SpellsStaged FirstBadStaged play IsPrinted text head reached

-- running this text printed all of that
abbrev pub PrintsStaged : (text : List ℕ) → (held now : Option (List ℕ)) → Type 0
PrintsStaged text held now = Prints SpellsStaged FirstBadStaged play IsPrinted text held now

-- what a run read and printed, by its end
abbrev pub EndsStaged : Ending → (limit : ℕ) → (left rest held now : Option (List ℕ)) → (r r' w w' : ℕ) → Type 0
EndsStaged end limit left rest held now r r' w w' = Ends SpellsStaged FirstBadStaged play IsPrinted end limit left rest held now r r' w w'

-- how a run ends by its input
abbrev pub EndsStagedByInput : Ending → (limit : ℕ) → (left : Option (List ℕ)) → (r r' w w' : ℕ) → Type 0
EndsStagedByInput end limit left r r' w w' = EndsByInput SpellsStaged FirstBadStaged play IsPrinted end limit left r r' w w'

-- ---- the parts of a run

-- a world plays the staged run of events whose inner events a schedule can tell
pub record IsTold {K : Type 0} (head : Head) (w : StagedOver K) (told : Option Kept) : Type 0 where
  pub events : List StagedEvent
  pub plays : PlaysOutside (beginning head) events w told
  pub tellable : AllByRecursion (IsTellable head) (end_of head events).ran

-- all that is printed of this was printed, or a front of it, or nothing, by the end
abbrev pub PrintsRun : Ending → Head → List StagedEvent → (held now : Option (List ℕ)) → (w w' : ℕ) → Type 0
PrintsRun end head reached held now w w' = PrintsAll SpellsStaged FirstBadStaged play IsPrinted end head reached held now w w'

-- what running lines printed, by what is due and the end
abbrev pub EndsStagedPlayed : Ending → Head → Ended (List StagedEvent) → (held now : Option (List ℕ)) → (w w' : ℕ) → Type 0
EndsStagedPlayed end head due held now w w' = EndsPlayed SpellsStaged FirstBadStaged play IsPrinted end head due held now w w'
