-- How a run ends. Below, `left` is what was left in the source before it and `rest` is what is left after it, where the
-- source tells them; `held` is what the sink held before it and `now` is what it holds after it, where the sink tells
-- them; `r` and `r'` are the source's counts of faults before and after, `w` and `w'` the sink's, and `k` and `k'` a keeper's.
use Rattle.std.specs.Prelude.{◌≡◌, ◌⊎◌, ◌<◌, ◌≤◌, ℕ, List, Option, Some, length}
use Rattle.nq_base.specs.declared.Event.{Event}
use Rattle.nq_base.specs.declared.SkewBroken.{SkewBroken}
use Rattle.nq_base.specs.declared.ending.ending.Ending.{Ending}
use Rattle.nq_io.specs.Faults.{Rose}
use Rattle.nq_io.specs.Whole.{TakesSome}
use Rattle.nq_replay.specs.Lines.{last_line, limit_line}
use Rattle.nq_io.specs.Sink.{PrintsLine}
use Rattle.nq_replay.specs.Replay.{BreaksSkew, FaultyLine, IsSchedule, OfInput, Passes, PrintsFaulty, PrintsJournal, PrintsLimit, PrintsPart}
use Rattle.nq_replay.specs.Replay.{PrintsPassing, PrintsSkew, Runs, TakesInput}
use Rattle.nq_replay.specs.declared.printing.Bound.{Bound}
use Rattle.nq_script.specs.declared.heads.Head.{Head}

-- what running a text that was read printed, by the end
abbrev pub EndsText : Ending → (text : List ℕ) → (held now : Option (List ℕ)) → (w w' : ℕ) → Type 0
EndsText Ending.Done text held now w w' = PrintsJournal text held now
EndsText Ending.Script text held now w w' = PrintsFaulty text held now w w'
EndsText Ending.Skew text held now w w' = PrintsSkew text held now w w'
EndsText Ending.Limit text held now w w' = PrintsPassing text held now w w'
EndsText Ending.WriteFault text held now w w' = PrintsPart text held now × Rose w w'
EndsText Ending.KeepFault text held now w w' = IsSchedule text × (now ≡ held)
EndsText Ending.Memory text held now w w' = (now ≡ held) ⊎ PrintsPart text held now
EndsText other text held now w w' = ⊥

-- what a run read and printed, by its end
abbrev pub Ends : Ending → (limit : ℕ) → (left rest held now : Option (List ℕ)) → (r r' w w' : ℕ) → Type 0
Ends Ending.Done limit left rest held now r r' w w' = OfInput limit left rest (λ text. PrintsJournal text held now)
Ends Ending.Script limit left rest held now r r' w w' = OfInput limit left rest (λ text. PrintsFaulty text held now w w')
Ends Ending.Skew limit left rest held now r r' w w' = OfInput limit left rest (λ text. PrintsSkew text held now w w')
Ends Ending.ReadFault limit left rest held now r r' w w' = (now ≡ held) × Rose r r' × TakesSome limit left rest
Ends Ending.WriteFault limit left rest held now r r' w w' =
    OfInput limit left rest (λ text. PrintsPart text held now × Rose w w')
Ends Ending.KeepFault limit left rest held now r r' w w' = OfInput limit left rest (λ text. IsSchedule text × (now ≡ held))
Ends Ending.Memory limit left rest held now r r' w w' =
    ((now ≡ held) × TakesInput limit left rest) ⊎ OfInput limit left rest (λ text. PrintsPart text held now)
Ends Ending.Limit limit left rest held now r r' w w' =
    PrintsLimit limit left rest held now w w' ⊎ OfInput limit left rest (λ text. PrintsPassing text held now w w')
Ends other limit left rest held now r r' w w' = ⊥

-- what telling that the input passes the limit did, by the end; the front has one byte more than the limit
abbrev pub TellsOver : Ending → (front : List ℕ) → (held now : Option (List ℕ)) → (w w' : ℕ) → Type 0
TellsOver Ending.Limit front held now w w' = PrintsLine (limit_line (last_line front) Bound.Bytes) held now w w'
TellsOver Ending.Memory front held now w w' = now ≡ held
TellsOver other front held now w w' = ⊥

-- an end that may come in place of another: memory was wanting, or an object's count of faults rose
abbrev pub IsFault : Ending → (r r' w w' : ℕ) → Type 0
IsFault Ending.Memory r r' w w' = Unit {0}
IsFault Ending.ReadFault r r' w w' = Rose r r'
IsFault Ending.WriteFault r r' w w' = Rose w w'
IsFault other r r' w w' = ⊥

-- the end is this one, if no fault came in its place
abbrev pub IsUnlessFault : (end wanted : Ending) → (r r' w w' : ℕ) → Type 0
IsUnlessFault end wanted r r' w w' = (end ≡ wanted) ⊎ IsFault end r r' w w'

-- the same over a keeper, whose fault may come in its place too
abbrev pub IsUnlessFaultOver : (end wanted : Ending) → (r r' w w' k k' : ℕ) → Type 0
IsUnlessFaultOver end wanted r r' w w' k k' = IsUnlessFault end wanted r r' w w' ⊎ ((end ≡ Ending.KeepFault) × Rose k k')

-- the keeper's count of faults rose where it failed, and stands still at every other end
abbrev pub CountsKeeper : Ending → (before count : ℕ) → Type 0
CountsKeeper Ending.KeepFault before count = Rose before count
CountsKeeper other before count = count ≡ before

-- The source's count of faults rose where the end is that it failed, and stands still at every other end. This refuses a run that goes on with
-- what it read before its source failed
abbrev pub CountsSource : Ending → (before count : ℕ) → Type 0
CountsSource Ending.ReadFault before count = Rose before count
CountsSource other before count = count ≡ before

-- The sink's count of faults rose where the end is that it failed. Where a line tells the end, what became of that line says what the count
-- did; at every other end it stands still. This refuses a run that ends with `Done`, or for want of memory, though its sink failed
abbrev pub CountsSink : Ending → (before count : ℕ) → Type 0
CountsSink Ending.WriteFault before count = Rose before count
CountsSink Ending.Usage before count = Unit {0}
CountsSink Ending.Script before count = Unit {0}
CountsSink Ending.Skew before count = Unit {0}
CountsSink Ending.Limit before count = Unit {0}
CountsSink Ending.NotSound before count = Unit {0}
CountsSink other before count = count ≡ before

-- How a replay over a keeper ends that is to end as its input says: an input that passes the limit, a faulty line, a tick that breaks the
-- rule on skew, too many events or packets, or all events taken. A fault that was counted, or want of memory, may come in the place of that
pub record EndsByInput (end : Ending) (limit : ℕ) (left : Option (List ℕ)) (r r' w w' k k' : ℕ) : Type 0 where
  pub over : (text : List ℕ) → left ≡ Some text → limit < length text → IsUnlessFaultOver end Ending.Limit r r' w w' k k'
  pub script : (text : List ℕ) → left ≡ Some text → length text ≤ limit → (number : ℕ) → FaultyLine text number → IsUnlessFaultOver end Ending.Script
      r r' w w' k k'
  pub skew : (text : List ℕ) → left ≡ Some text → length text ≤ limit → (number : ℕ) (broken : SkewBroken) → BreaksSkew text number broken
      → IsUnlessFaultOver end Ending.Skew r r' w w' k k'
  pub passes : (text : List ℕ) → left ≡ Some text → length text ≤ limit → (number : ℕ) (bound : Bound) → Passes text number bound
      → IsUnlessFaultOver end Ending.Limit r r' w w' k k'
  pub done : (text : List ℕ) → left ≡ Some text → length text ≤ limit → (head : Head) (events : List Event) → Runs text head events
      → IsUnlessFaultOver end Ending.Done r r' w w' k k'
