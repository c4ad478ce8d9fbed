-- What reading a schedule comes to. The names of what stands in the source and in the sink before and after, and of the counts of
-- faults, are those of `Ending`.
use Rattle.std.specs.Prelude.{◌≡◌, ℕ, List, Option, Result, Ok, Err}
use Rattle.nq_base.specs.declared.ending.ending.Ending.{Ending}
use Rattle.nq_io.specs.Faults.{Rose}
use Rattle.nq_io.specs.Whole.{TakesSome}
use Rattle.nq_replay.specs.Ending.{CountsSource, IsUnlessFault}
use Rattle.nq_replay.specs.Lines.{script_line}
use Rattle.nq_io.specs.Sink.{PrintsLine}
use Rattle.nq_replay.specs.Replay.{OfInput, PrintsLimit, TakesInput}
use Rattle.nq_script.specs.Schedule.{FirstBadLine, SpellsSchedule}
use Rattle.nq_script.specs.declared.heads.Head.{Head}
use Rattle.nq_script.specs.declared.lines.Line.{Line}
use Rattle.nq_script.specs.declared.scripts.Script.{Script}

-- this is the schedule that the text spells, and there is no other; no line of the text is outside the grammar
pub record IsReadAs (script : Script) (text : List ℕ) : Type 0 where
  pub spelled : SpellsSchedule script.head script.lines text
  pub only : (head : Head) (lines : List Line) → SpellsSchedule head lines text → (script.head ≡ head) × (script.lines ≡ lines)
  pub good : (number : ℕ) → FirstBadLine text number → ⊥

-- it was printed which line of the text is the first outside the grammar
pub record PrintsBad (text : List ℕ) (held now : Option (List ℕ)) (w w' : ℕ) : Type 0 where
  pub number : ℕ
  pub bad : FirstBadLine text number
  pub printed : PrintsLine (script_line number) held now w w'

-- why a text is not read as a schedule, by the end, and what was printed
abbrev pub RefusesText : Ending → (text : List ℕ) → (held now : Option (List ℕ)) → (w w' : ℕ) → Type 0
RefusesText Ending.Script text held now w w' = PrintsBad text held now w w'
RefusesText Ending.Memory text held now w w' = now ≡ held
RefusesText other text held now w w' = ⊥

-- why no schedule was read, by the end, and what was printed
abbrev pub Refuses : Ending → (limit : ℕ) → (left rest held now : Option (List ℕ)) → (r r' w w' : ℕ) → Type 0
Refuses Ending.Script limit left rest held now r r' w w' = OfInput limit left rest (λ text. PrintsBad text held now w w')
Refuses Ending.ReadFault limit left rest held now r r' w w' = (now ≡ held) × Rose r r' × TakesSome limit left rest
Refuses Ending.Memory limit left rest held now r r' w w' = (now ≡ held) × TakesInput limit left rest
Refuses Ending.Limit limit left rest held now r r' w w' = PrintsLimit limit left rest held now w w'
Refuses other limit left rest held now r r' w w' = ⊥

-- the source's count of faults, by what came of reading: where a schedule was read it stands still. This refuses one that is made of what a
-- source gave before it failed
abbrev pub CountsInput : Result Script Ending → (before count : ℕ) → Type 0
CountsInput (Ok script) before count = count ≡ before
CountsInput (Err end) before count = CountsSource end before count

-- no schedule was read, for this end, if no fault came in its place
abbrev pub RefusedUnlessFault : Result Script Ending → (wanted : Ending) → (r r' w w' : ℕ) → Type 0
RefusedUnlessFault (Ok script) wanted r r' w w' = ⊥
RefusedUnlessFault (Err end) wanted r r' w w' = IsUnlessFault end wanted r r' w w'
