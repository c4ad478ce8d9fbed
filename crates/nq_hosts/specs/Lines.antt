-- Lines that spell calls.
use Rattle.std.specs.Prelude.{◌≡◌, ℕ, ◌+◌, List, [], ◌∷◌, ◌++◌, length, Option, Some, None}
use Rattle.std.specs.List.{AllByRecursion}
use Rattle.nq_base.specs.declared.Call.{Call}
use Rattle.nq_script.specs.Calls.{SpellsCall}
use Rattle.nq_script.specs.Text.{Lacks, text_of}

-- a line that spells a call of version 1; a line has no line feed in it
abbrev pub IsCall : (line : List ℕ) → Type 0
IsCall line = Lacks 10 line × ((call : Call) × SpellsCall 1 call line)

-- these are the lines of the text, and each spells a call
pub record AreCalls (lines : List (List ℕ)) (text : List ℕ) : Type 0 where
  pub each : AllByRecursion IsCall lines
  pub split : text ≡ text_of lines

-- line `number` is the first that spells no call: those before it do, something follows them, and no line in front of that does
pub record FirstFault (text : List ℕ) (number : ℕ) : Type 0 where
  pub before : List (List ℕ)
  pub rest : List ℕ
  pub each : AllByRecursion IsCall before
  pub split : text ≡ text_of before ++ rest
  pub place : number ≡ length before + 1
  pub more : rest ≡ [] → ⊥
  pub stuck : (line after : List ℕ) → rest ≡ line ++ 10 ∷ after → IsCall line → ⊥

-- what is told of a text: its first fault, or nothing where each line spells a call
abbrev pub Tells : Option ℕ → (text : List ℕ) → Type 0
Tells None text = (lines : List (List ℕ)) × AreCalls lines text
Tells (Some number) text = FirstFault text number

-- a step over the first line of a text, where that spells a call
abbrev pub StepsOver : (text : List ℕ) → Option (List ℕ) → Type 0
StepsOver text None = (line after : List ℕ) → text ≡ line ++ 10 ∷ after → IsCall line → ⊥
StepsOver text (Some after) = (line : List ℕ) × (text ≡ line ++ 10 ∷ after) × IsCall line

-- lines that spell calls were stepped over, and the rest begins in line `number`
pub record SoFar (text rest : List ℕ) (number : ℕ) : Type 0 where
  pub before : List (List ℕ)
  pub each : AllByRecursion IsCall before
  pub split : text ≡ text_of before ++ rest
  pub place : number ≡ length before + 1
