-- The lines between a prompt and a host: an ask has a number, and its answer has the same.
use Rattle.std.specs.Fmt.{decimal}
use Rattle.std.specs.Prelude.{ℕ, List, ◌∷◌, ◌++◌, Option, Some, None, if◌then◌else◌, codes, bytes_eq}
use Rattle.nq_asks.specs.declared.lines.AnswerKind.{AnswerKind}
use Rattle.nq_base.specs.Steps.{◌>>=◌}
use Rattle.nq_script.specs.Reading.{number_then}
use Rattle.nq_script.specs.WordsReading.{cut}

-- the line of an ask: its number, and what a person wrote
abbrev pub ask_line : (number : ℕ) → (text : List ℕ) → List ℕ
ask_line number text = decimal number ++ 32 ∷ text

-- the word of a kind of answer
abbrev pub kind_word : AnswerKind → List ℕ
kind_word AnswerKind.Done = codes "ok"
kind_word AnswerKind.Refused = codes "no"
kind_word AnswerKind.Bytes = codes "bytes"
kind_word AnswerKind.Note = codes "note"
kind_word AnswerKind.Wait = codes "wait"

-- the kind of answer that a word tells
unfoldable pub kind_of : List ℕ → Option AnswerKind
kind_of word =
    if bytes_eq word (codes "ok") then Some AnswerKind.Done
    else if bytes_eq word (codes "no") then Some AnswerKind.Refused
    else if bytes_eq word (codes "bytes") then Some AnswerKind.Bytes
    else if bytes_eq word (codes "note") then Some AnswerKind.Note
    else if bytes_eq word (codes "wait") then Some AnswerKind.Wait
    else None

-- the line of an answer: the number of its ask, its kind, and words; behind `bytes` stands how many bytes follow the line
abbrev pub answer_line : (number : ℕ) → AnswerKind → (text : List ℕ) → List ℕ
answer_line number kind text = decimal number ++ 32 ∷ (kind_word kind ++ 32 ∷ text)

-- the kind and the words in front of which it stands
unfoldable pub kind_then : List ℕ → Option (AnswerKind × List ℕ)
kind_then text = do
  parts ← cut 32 text
  kind ← kind_of parts.0
  Some (kind, parts.1)

-- the answer that a line tells
unfoldable pub answer_told : List ℕ → Option (ℕ × (AnswerKind × List ℕ))
answer_told line = do
  numbered ← number_then line
  kind ← kind_then numbered.1
  Some (numbered.0, kind)
