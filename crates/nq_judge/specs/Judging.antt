-- What `check` reads and prints. The names of what stands in the source and in the sink before and after, and of the counts
-- of faults, are those of `Ending`.
use Rattle.std.specs.Fmt.{decimal}
use Rattle.std.specs.Prelude.{◌≡◌, ◌⊎◌, ℕ, ◌+◌, List, ◌++◌, Option, Some, None, reverse, codes}
use Rattle.nq_base.specs.declared.Entry.{Entry}
use Rattle.nq_check.specs.Verdict.{Fault, verdict}
use Rattle.nq_check.specs.Words.{word_of}
use Rattle.nq_check.specs.declared.Judged.{Judged}
use Rattle.nq_check.specs.declared.Rule.{Rule}
use Rattle.nq_base.specs.declared.ending.ending.Ending.{Ending}
use Rattle.nq_io.specs.Faults.{Rose}
use Rattle.nq_io.specs.Sink.{AppendsFront, PrintsLine}
use Rattle.nq_io.specs.Told.{with_end}
use Rattle.nq_io.specs.Whole.{TakesSome}
use Rattle.nq_journal.specs.Fault.{IsFaultyAt}
use Rattle.nq_journal.specs.Text.{IsText}
use Rattle.nq_replay.specs.Ending.{IsFault}
use Rattle.nq_replay.specs.Lines.{script_line}
use Rattle.nq_replay.specs.Replay.{OfInput, PrintsLimit, TakesInput}

-- the line of a sound journal
unfoldable pub yes_line : List ℕ
yes_line = codes "yes\n"

-- the line that tells the first entry at fault: it stands in the text behind the first line and those of the entries before
unfoldable pub no_line : (place : ℕ) → Rule → List ℕ
no_line place rule = codes "no line " ++ decimal (place + 2) ++ codes " " ++ word_of rule ++ codes "\n"

-- the text is that of a journal, in one of the versions, and this is the verdict on it
pub record IsJudged (text : List ℕ) (found : Option Fault) : Type 0 where
  pub version : ℕ
  pub entries : List Entry
  pub spelled : IsText version entries text
  pub judged : verdict (reverse entries) ≡ found

-- it was printed which entry is the first at fault, and the first rule under which it is
pub record PrintsNo (text : List ℕ) (held now : Option (List ℕ)) (w w' : ℕ) : Type 0 where
  pub fault : Fault
  pub judged : IsJudged text (Some fault)
  pub printed : PrintsLine (no_line fault.place fault.rule) held now w w'

-- it was printed which line is the first outside the grammar
pub record PrintsWrong (text : List ℕ) (held now : Option (List ℕ)) (w w' : ℕ) : Type 0 where
  pub number : ℕ
  pub faulty : IsFaultyAt number text
  pub printed : PrintsLine (script_line number) held now w w'

-- what a verdict printed, by the end
abbrev pub TellsVerdict : Ending → Judged → (held now : Option (List ℕ)) → (w w' : ℕ) → Type 0
TellsVerdict Ending.Done Judged.Yes held now w w' = now ≡ with_end held yes_line
TellsVerdict Ending.WriteFault Judged.Yes held now w w' = AppendsFront yes_line held now × Rose w w'
TellsVerdict Ending.NotSound (Judged.No place rule) held now w w' = PrintsLine (no_line place rule) held now w w'
TellsVerdict Ending.Memory judged held now w w' = now ≡ held
TellsVerdict other judged held now w w' = ⊥

-- what judging a text that was read printed, by the end
abbrev pub JudgesText : Ending → (text : List ℕ) → (held now : Option (List ℕ)) → (w w' : ℕ) → Type 0
JudgesText Ending.Done text held now w w' = IsJudged text None × (now ≡ with_end held yes_line)
JudgesText Ending.NotSound text held now w w' = PrintsNo text held now w w'
JudgesText Ending.Script text held now w w' = PrintsWrong text held now w w'
JudgesText Ending.WriteFault text held now w w' = IsJudged text None × AppendsFront yes_line held now × Rose w w'
JudgesText Ending.Memory text held now w w' = now ≡ held
JudgesText other text held now w w' = ⊥

-- what judging read and printed, by its end
abbrev pub Judges : Ending → (limit : ℕ) → (left rest held now : Option (List ℕ)) → (r r' w w' : ℕ) → Type 0
Judges Ending.ReadFault limit left rest held now r r' w w' = (now ≡ held) × Rose r r' × TakesSome limit left rest
Judges Ending.Memory limit left rest held now r r' w w' = (now ≡ held) × TakesInput limit left rest
Judges Ending.Limit limit left rest held now r r' w w' = PrintsLimit limit left rest held now w w'
Judges Ending.Usage limit left rest held now r r' w w' = ⊥
Judges end limit left rest held now r r' w w' = OfInput limit left rest (λ text. JudgesText end text held now w w')

-- the verdict was said, if no fault came in its place
abbrev pub IsSaidUnlessFault : (end : Ending) → (r r' w w' : ℕ) → Type 0
IsSaidUnlessFault end r r' w w' = (end ≡ Ending.Done) ⊎ ((end ≡ Ending.NotSound) ⊎ IsFault end r r' w w')
