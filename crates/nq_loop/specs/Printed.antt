-- What a loop prints. Below, `held` is what the sink held before it and `now` is what it holds after it, where the sink tells them; `w`
-- and `w'` are the sink's counts of faults before and after.
use Rattle.std.specs.List.{count_by}
use Rattle.std.specs.Prelude.{◌≡◌, ◌⊎◌, ℕ, List, ◌++◌, map, reverse, Option}
use Rattle.nq_base.specs.declared.Event.{Event}
use Rattle.nq_base.specs.declared.ending.ending.Ending.{Ending}
use Rattle.nq_loop.specs.Counts.{is_answer, is_call, loop_line}
use Rattle.nq_replay.specs.Replay.{journal_of, journal_printed}
use Rattle.nq_replay.specs.Schedules.{PrintsBytes}
use Rattle.nq_script.specs.Lines.{once}
use Rattle.nq_script.specs.Schedule.{SpellsSchedule}
use Rattle.nq_script.specs.declared.heads.Head.{Head}

-- the counts of the calls and of the answers that the journal of these events tells
abbrev pub counts_of : Head → List Event → List ℕ
counts_of head events = loop_line (count_by is_call (journal_of head events)) (count_by is_answer (journal_of head events))

-- all that a loop prints: the text of its schedule, the text of its journal, and its counts
abbrev pub loop_text : Head → (text : List ℕ) → List Event → List ℕ
loop_text head text events = text ++ (journal_printed head events ++ counts_of head events)

-- what spells these events, of which the oldest is told first, was printed with their journal and their counts, by the end
pub record PrintsSpelled (end : Ending) (head : Head) (ran : List Event) (held now : Option (List ℕ)) (w w' : ℕ) : Type 0 where
  pub text : List ℕ
  pub spelled : SpellsSchedule head (map once ran) text
  pub printed : PrintsBytes end (loop_text head text (reverse ran)) held now w w'

-- the same, or nothing was printed for want of memory
abbrev pub PrintsRan : Ending → Head → (ran : List Event) → (held now : Option (List ℕ)) → (w w' : ℕ) → Type 0
PrintsRan end head ran held now w w' = PrintsSpelled end head ran held now w w' ⊎ ((end ≡ Ending.Memory) × (now ≡ held))
