-- The text of a schedule with asides: that of a schedule of version 2 in which lines of another kind, its *asides*, may stand where lines
-- `flow` may. Below, `A` is what an aside says, and `read` tells what a line says, if it is an aside.
use Rattle.std.specs.List.{AllByRecursion}
use Rattle.std.specs.Prelude.{◌≡◌, ◌⊎◌, ◌<◌, ◌^◌, ℕ, ◌+◌, ◌==◌, List, [], ◌∷◌, ◌++◌, length, map, Option, Some, None, is_some, codes, if◌then◌else◌, zero, suc}
use Rattle.nq_script.specs.Heads.{FitsHead, head_lines}
use Rattle.nq_script.specs.Schedule.{FirstBadHeadLine, FirstBadLine, SpellsSchedule}
use Rattle.nq_script.specs.Text.{text_of}
use Rattle.nq_script.specs.declared.heads.Head.{Head}
use Rattle.nq_script.specs.declared.lines.Line.{Line}
use Rattle.nq_script.specs.declared.scripts.Script.{Script}

-- a line of a schedule with asides: one of a schedule, or an aside
pub data MixedLine (A : Type 0) : Type 0 where
  plain : Line → MixedLine A
  beside : A → MixedLine A

-- ---- lines of a text

-- a byte in front of lines, and of what is left behind the last line feed
abbrev pub in_lines : ℕ → List (List ℕ) → (rest : List ℕ) → List (List ℕ) × List ℕ
in_lines b [] rest = ([], b ∷ rest)
in_lines b (line ∷ lines) rest = ((b ∷ line) ∷ lines, rest)

abbrev pub in_front : ℕ → List (List ℕ) × List ℕ → List (List ℕ) × List ℕ
in_front b p = in_lines b p.0 p.1

-- an empty line in front of them
abbrev pub new_line : List (List ℕ) × List ℕ → List (List ℕ) × List ℕ
new_line p = ([] ∷ p.0, p.1)

-- the lines of bytes, and what is left behind the last line feed
abbrev pub lines_in : List ℕ → List (List ℕ) × List ℕ
lines_in [] = ([], [])
lines_in (b ∷ bytes) = if b == 10 then new_line (lines_in bytes) else in_front b (lines_in bytes)

-- ---- asides

-- a line as it would stand in a schedule: `flow` for an aside
abbrev pub plain_line : {A : Type 0} → (read : List ℕ → Option A) → List ℕ → List ℕ
plain_line read line = if is_some (read line) then codes "flow" else line

-- bytes with such lines
abbrev pub plain_bytes : {A : Type 0} → (read : List ℕ → Option A) → List ℕ → List ℕ
plain_bytes read bytes = text_of (map (plain_line read) (lines_in bytes).0) ++ (lines_in bytes).1

-- of each line what it says, if it is an aside
abbrev pub asides_in : {A : Type 0} → (read : List ℕ → Option A) → List ℕ → List (Option A)
asides_in read bytes = map read (lines_in bytes).0

-- lines, where some are asides
abbrev pub mixed : {A : Type 0} → List (Option A) → List Line → List (MixedLine A)
mixed asides [] = []
mixed [] (line ∷ lines) = plain line ∷ mixed [] lines
mixed (None ∷ asides) (line ∷ lines) = plain line ∷ mixed asides lines
mixed (Some aside ∷ asides) (line ∷ lines) = beside aside ∷ mixed asides lines

-- what the line at a place says, if it is an aside
abbrev pub aside_at : {A : Type 0} → List (Option A) → (place : ℕ) → Option A
aside_at [] place = None
aside_at (first ∷ asides) zero = first
aside_at (first ∷ asides) (suc place) = aside_at asides place

-- the text of a schedule with this head, and these bytes behind it as they would stand there
abbrev pub plain_text : {A : Type 0} → (read : (hosts : ℕ) → List ℕ → Option A) → Head → (body : List ℕ) → List ℕ
plain_text read head body = text_of (head_lines head) ++ plain_bytes (read head.hosts) body

-- ---- a schedule with asides

-- this head stands in front of a text, and these bytes behind it
pub record HasHead (head : Head) (body text : List ℕ) : Type 0 where
  pub fits : FitsHead head
  pub split : text ≡ text_of (head_lines head) ++ body

-- the text is a schedule with asides of this head and these lines
pub record SpellsMixed {A : Type 0} (read : (hosts : ℕ) → List ℕ → Option A) (head : Head) (lines : List (MixedLine A)) (text : List ℕ) : Type 0 where
  pub body : List ℕ
  pub has : HasHead head body text
  pub version : head.version ≡ 2
  pub plainly : List Line
  pub spelled : SpellsSchedule head plainly (plain_text read head body)
  pub mixes : lines ≡ mixed (asides_in (read head.hosts) body) plainly

-- the head is of version 1, which line 1 says
pub record IsOfVersionOne (text : List ℕ) (number : ℕ) : Type 0 where
  pub head : Head
  pub body : List ℕ
  pub has : HasHead head body text
  pub version : head.version ≡ 1
  pub first : number ≡ 1

-- behind the head this line is the first that is wrong
pub record GoesWrongBehind {A : Type 0} (read : (hosts : ℕ) → List ℕ → Option A) (text : List ℕ) (number : ℕ) : Type 0 where
  pub head : Head
  pub body : List ℕ
  pub has : HasHead head body text
  pub version : head.version ≡ 2
  pub wrong : FirstBadLine (plain_text read head body) number

-- the first line that is wrong in a text that is no schedule with asides
abbrev pub FirstBadMixed : {A : Type 0} → (read : (hosts : ℕ) → List ℕ → Option A) → (text : List ℕ) → (number : ℕ) → Type 0
FirstBadMixed read text number = FirstBadHeadLine text number ⊎ (IsOfVersionOne text number ⊎ GoesWrongBehind read text number)

-- ---- as the program has it

-- this holds of an aside, if there is one
abbrev pub HoldsOfAside : {A : Type 0} → (A → Type 0) → Option A → Type 0
HoldsOfAside P None = Unit {0}
HoldsOfAside P (Some aside) = P aside

-- this holds of all asides
abbrev pub HoldsOfAsides : {A : Type 0} → (A → Type 0) → List (Option A) → Type 0
HoldsOfAsides P asides = AllByRecursion (HoldsOfAside P) asides

-- a schedule with asides as a text of fewer than 2^31 bytes gives it: a schedule, and of each line what it says, if it is an aside
pub record IsReadyMixed {A : Type 0} (fits : (hosts : ℕ) → A → Type 0) (s : Script) (asides : List (Option A)) : Type 0 where
  pub text : List ℕ
  pub spelled : SpellsSchedule s.head s.lines text
  pub short : length text < 2 ^ 31
  pub version : s.head.version ≡ 2
  pub first : s.first ≡ length (head_lines s.head) + 1
  pub asides_are : HoldsOfAsides (fits s.head.hosts) asides
