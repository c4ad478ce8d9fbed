-- What `names` reads and prints. Below, `left` is what was left in the source before it and `rest` is what is left after it, where the
-- source tells them; `held` is what the sink held before it and `now` is what it holds after it, where the sink tells them; `r` and `r'`
-- are the source's counts of faults before and after, and `w` and `w'` the sink's.
use Rattle.std.specs.List.{AllByRecursion}
use Rattle.std.specs.Prelude.{◌≡◌, ℕ, List, ◌++◌, Option, map, reverse}
use Rattle.nq_replay.specs.Texts.{IsTellable}
use Rattle.nq_names.specs.Playing.{PlaysOutside, NamesOver}
use Rattle.nq_base.specs.declared.ending.ending.Ending.{Ending}
use Rattle.nq_journal.specs.Text.{journal_text}
use Rattle.nq_model.specs.protocol.Kept.{Kept}
use Rattle.nq_played.specs.Running.{Ends, EndsByInput, EndsPlayed, Prints, Runs}
use Rattle.nq_replay.specs.Lawful.{IsLawful}
use Rattle.nq_replay.specs.Playing.{beginning}
use Rattle.nq_script.specs.Lines.{once}
use Rattle.nq_script.specs.Schedule.{SpellsSchedule}
use Rattle.nq_script.specs.declared.heads.Head.{Head}
use Rattle.nq_naming.specs.Finding.{FindsAreTrue, lines_of}
use Rattle.nq_replay.specs.AsidesPlaying.{Ended}
use Rattle.nq_naming.specs.Playing.{Moment, play}
use Rattle.nq_naming.specs.Text.{FirstBadNames, SpellsNames}
use Rattle.nq_name_server.specs.Outer.{Outside}
use Rattle.nq_name_server.specs.Outside.{outside_run}

-- ---- what is printed

-- what a run with lists of this head shows at its end
abbrev pub end_of : Head → Moment → Outside
end_of head m = outside_run (beginning head) m.events

-- the journal of the inner world, and the lines of what was found
abbrev pub behind_schedule : Head → Moment → List ℕ
behind_schedule head m = journal_text 2 (reverse (end_of head m).world.journal) ++ lines_of (beginning head) m.finds

-- The text of the inner schedule, each of whose events has a line, the journal of its run, and the lines of what was found. The inner
-- schedule is within skew and keeps to the bounds, and each find is true.
pub record IsPrinted (head : Head) (m : Moment) (bytes : List ℕ) : Type 0 where
  pub lawful : IsLawful (beginning head) (end_of head m).ran
  pub finds : FindsAreTrue (beginning head) m
  pub text : List ℕ
  pub spelled : SpellsSchedule head (map once (reverse (end_of head m).ran)) text
  pub bytes_are : bytes ≡ text ++ behind_schedule head m

-- ---- how it ends

-- the text is a schedule with lists with this head, and playing all of its lines comes to this
abbrev pub RunsNames : (text : List ℕ) → Head → Moment → Type 0
RunsNames text head reached = Runs SpellsNames FirstBadNames play IsPrinted text head reached

-- running this text printed all of that
abbrev pub PrintsNames : (text : List ℕ) → (held now : Option (List ℕ)) → Type 0
PrintsNames text held now = Prints SpellsNames FirstBadNames play IsPrinted text held now

-- what a run read and printed, by its end
abbrev pub EndsNames : Ending → (limit : ℕ) → (left rest held now : Option (List ℕ)) → (r r' w w' : ℕ) → Type 0
EndsNames end limit left rest held now r r' w w' = Ends SpellsNames FirstBadNames play IsPrinted end limit left rest held now r r' w w'

-- how a run ends by its input
abbrev pub EndsNamesByInput : Ending → (limit : ℕ) → (left : Option (List ℕ)) → (r r' w w' : ℕ) → Type 0
EndsNamesByInput end limit left r r' w w' = EndsByInput SpellsNames FirstBadNames play IsPrinted end limit left r r' w w'

-- ---- the parts of a run

-- a world plays the run with lists of events whose inner events a schedule can tell
pub record IsTold {K : Type 0} (head : Head) (w : NamesOver K) (told : Option Kept) : Type 0 where
  pub moment : Moment
  pub plays : PlaysOutside (beginning head) moment.events w told
  pub tellable : AllByRecursion (IsTellable head) (end_of head moment).ran

-- what running lines printed, by what is due and the end
abbrev pub EndsNamesPlayed : Ending → Head → Ended Moment → (held now : Option (List ℕ)) → (w w' : ℕ) → Type 0
EndsNamesPlayed end head due held now w w' = EndsPlayed SpellsNames FirstBadNames play IsPrinted end head due held now w w'
