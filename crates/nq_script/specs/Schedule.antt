-- The text of a schedule, and the first line at which a text is outside the grammar.
use Rattle.std.specs.Prelude.{◌≡◌, ℕ, ◌+◌, List, [], ◌∷◌, ◌++◌, length, drop, codes}
use Rattle.std.specs.List.{AllByRecursion}
use Rattle.nq_script.specs.Heads.{FitsHead, head_lines}
use Rattle.nq_script.specs.Lines.{SpellsLine}
use Rattle.nq_script.specs.Text.{Lacks, text_of}
use Rattle.nq_script.specs.declared.heads.Head.{Head}
use Rattle.nq_script.specs.declared.lines.Line.{Line}

-- a line that names events: each but `end`
abbrev pub NamesEvents : Line → Type 0
NamesEvents Line.End = ⊥
NamesEvents other = Unit {0}

-- texts that spell lines one by one, each of which names events
abbrev pub SpellsLines : Head → List Line → List (List ℕ) → Type 0
SpellsLines head [] [] = Unit {0}
SpellsLines head [] (text ∷ texts) = ⊥
SpellsLines head (line ∷ lines) [] = ⊥
SpellsLines head (line ∷ lines) (text ∷ texts) = NamesEvents line × SpellsLine head line text × SpellsLines head lines texts

-- the lines of a schedule: its head, the lines of its events, and `end`
abbrev pub SpellsWhole : Head → List Line → List (List ℕ) → Type 0
SpellsWhole head lines whole =
    FitsHead head × ((texts : List (List ℕ)) × SpellsLines head lines texts
    × (whole ≡ head_lines head ++ (texts ++ codes "end" ∷ [])))

-- the text spells a schedule of this head and these lines
abbrev pub SpellsSchedule : Head → List Line → List ℕ → Type 0
SpellsSchedule head lines text = (whole : List (List ℕ)) × SpellsWhole head lines whole × (text ≡ text_of whole)

-- lines that are a head
abbrev pub IsHead : List (List ℕ) → Type 0
IsHead lines = (head : Head) × FitsHead head × (lines ≡ head_lines head)

-- lines that are a schedule
abbrev pub IsSchedule : List (List ℕ) → Type 0
IsSchedule whole = (head : Head) × (lines : List Line) × SpellsWhole head lines whole

-- lines with which such lines begin
abbrev pub Begins : (Is : List (List ℕ) → Type 0) → List (List ℕ) → Type 0
Begins Is lines = (more : List (List ℕ)) × Is (lines ++ more)

-- line `number` is the first that is wrong: such lines begin with the ones before it, which are not whole with what is
-- left of the text, and none begin with it behind them, if it is there
pub record GoesWrong (Is : List (List ℕ) → Type 0) (Whole : List (List ℕ) → List ℕ → Type 0) (text : List ℕ) (number : ℕ) : Type 0 where
  pub before : List (List ℕ)
  pub rest : List ℕ
  pub split : text ≡ text_of before ++ rest
  pub lines : AllByRecursion (Lacks 10) before
  pub place : number ≡ length before + 1
  pub begun : Begins Is before
  pub unfinished : Whole before rest → ⊥
  pub stuck : (line after : List ℕ) → rest ≡ line ++ 10 ∷ after → Lacks 10 line → Begins Is (before ++ line ∷ []) → ⊥

-- the head stands in front of the text, on `count` lines of `size` bytes together
pub record StandsInFront (head : Head) (count size : ℕ) (text : List ℕ) : Type 0 where
  pub fits : FitsHead head
  pub split : text ≡ text_of (head_lines head) ++ drop size text
  pub bytes : size ≡ length (text_of (head_lines head))
  pub lines : count ≡ length (head_lines head)

-- the first line that is wrong in a text that has no head in front
abbrev pub FirstBadHeadLine : (text : List ℕ) → (number : ℕ) → Type 0
FirstBadHeadLine text number = GoesWrong IsHead (λ before rest. IsHead before) text number

-- the first line that is wrong in a text that is no schedule
abbrev pub FirstBadLine : (text : List ℕ) → (number : ℕ) → Type 0
FirstBadLine text number = GoesWrong IsSchedule (λ before rest. IsSchedule before × (rest ≡ [])) text number
