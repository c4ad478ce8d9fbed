-- How far a text was read when it went wrong.
use Rattle.std.specs.Prelude.{◌≡◌, ℕ, ◌+◌, ◌≤◌, List, [], ◌∷◌, ◌++◌, length, map, codes}
use Rattle.std.specs.Fmt.{decimal}
use Rattle.nq_script.specs.Heads.{FitFiles, file_line}
use Rattle.nq_script.specs.Lines.{SpellsLine}
use Rattle.nq_script.specs.Schedule.{SpellsLines}
use Rattle.nq_script.specs.Text.{Lacks, text_of}
use Rattle.nq_script.specs.declared.heads.Head.{Head}
use Rattle.nq_script.specs.declared.lines.Line.{Line}

-- among the lines of files, which begin at line `first`, line `number` is the first that is wrong: the files before it
-- fit, and it is not there, or neither `begin` nor the line of a file that fits behind them
pub record WrongFile (first : ℕ) (text : List ℕ) (number : ℕ) : Type 0 where
  pub files : List (List ℕ × ℕ)
  pub rest : List ℕ
  pub split : text ≡ text_of (map file_line files) ++ rest
  pub fit : FitFiles files
  pub place : number ≡ first + length files
  pub stuck : (line after : List ℕ) → rest ≡ line ++ 10 ∷ after → Lacks 10 line
      → (line ≡ codes "begin" → ⊥) × ((f : List ℕ × ℕ) → line ≡ file_line f → FitFiles (files ++ f ∷ []) → ⊥)

-- the first line, if there is one, is no number from `least` to `most` behind the prefix
abbrev pub NoNumber : (prefix : List ℕ) → (least most : ℕ) → (text : List ℕ) → Type 0
NoNumber prefix least most text = (value : ℕ) (line after : List ℕ) → least ≤ value → value ≤ most → text ≡ line ++ 10 ∷ after → Lacks 10 line
    → line ≡ prefix ++ decimal value → ⊥

-- the lines of events so far: texts that spell them, and what is left
pub record ReadSoFar (head : Head) (lines : List Line) (text rest : List ℕ) : Type 0 where
  pub texts : List (List ℕ)
  pub spelled : SpellsLines head lines texts
  pub split : text ≡ text_of texts ++ rest

-- the text is that of lines of events, and `end`
abbrev pub EndsWith : Head → List Line → (text : List ℕ) → Type 0
EndsWith head lines text = (texts : List (List ℕ)) × SpellsLines head lines texts × (text ≡ text_of (texts ++ codes "end" ∷ []))

-- behind lines of events, of which the first is line `first`, line `number` is not there, or spells nothing
pub record WrongLine (head : Head) (first : ℕ) (text : List ℕ) (number : ℕ) : Type 0 where
  pub lines : List Line
  pub rest : List ℕ
  pub read : ReadSoFar head lines text rest
  pub place : number ≡ first + length lines
  pub stuck : (line after : List ℕ) → rest ≡ line ++ 10 ∷ after → Lacks 10 line → (spelled : Line) → SpellsLine head spelled line → ⊥

-- bytes follow `end`, in line `number`
pub record WrongEnd (head : Head) (first : ℕ) (text : List ℕ) (number : ℕ) : Type 0 where
  pub lines : List Line
  pub texts : List (List ℕ)
  pub rest : List ℕ
  pub spelled : SpellsLines head lines texts
  pub split : text ≡ text_of (texts ++ codes "end" ∷ []) ++ rest
  pub place : number ≡ first + length lines + 1
  pub more : rest ≡ [] → ⊥
