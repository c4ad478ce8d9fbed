-- Reading the words of an answer.
use Rattle.nq_base.specs.Steps.{◌>>=◌}
use Rattle.std.specs.Prelude.{ℕ, List, [], ◌∷◌, Option, Some, None, codes, if◌then◌else◌}
use Rattle.std.specs.Str.{bytes_eq}
use Rattle.nq_base.specs.declared.Said.{Said}
use Rattle.nq_base.specs.declared.Span.{Span}
use Rattle.nq_script.specs.WordsReading.{only_if, cut, u64_of, u32_of, word_at, u64_at, u32_at, is_done}
use Rattle.nq_script.specs.ReadingCalls.{}

-- a span
unfoldable pub span_of : List ℕ → Option Span
span_of word = do
  parts ← cut 58 word
  ends ← cut 45 parts.1
  block ← u32_of parts.0
  first ← u64_of ends.0
  last ← u64_of ends.1
  Some (record { block = block; first = first; last = last })

-- spans to the end of the line
unfoldable pub spans_of : List (List ℕ) → Option (List Span)
spans_of [] = Some []
spans_of (word ∷ words) = do
  span ← span_of word
  spans ← spans_of words
  Some (span ∷ spans)

-- what stands behind the word `lost`
unfoldable pub lost_at : List (List ℕ) → Option (Said × List (List ℕ))
lost_at words = do
  spans ← spans_of words
  Some (Said.Lost (record { items = spans; spare = 0 }), [])

-- the packet that brought a value
unfoldable pub by_at : (value : ℕ) → List (List ℕ) → Option (Said × List (List ℕ))
by_at value words = do
  by ← word_at words
  packet ← u64_at by.1
  only_if (bytes_eq by.0 (codes "by")) (Said.OkBy value packet.0, packet.1)

-- a value, and the packet that brought it, if one did
unfoldable pub value_at : List (List ℕ) → Option (Said × List (List ℕ))
value_at words = do
  value ← u32_at words
  if is_done value.1 then Some (Said.OkValue value.0, value.1) else by_at value.0 value.1

-- what stands behind the word `ok`
unfoldable pub ok_at : List (List ℕ) → Option (Said × List (List ℕ))
ok_at words = if is_done words then Some (Said.Ok, words) else value_at words

-- an answer of one word
unfoldable pub bare_of : List ℕ → Option Said
bare_of word =
    if bytes_eq word (codes "busy") then Some Said.Busy
    else (if bytes_eq word (codes "stale") then Some Said.Stale
    else (if bytes_eq word (codes "noentry") then Some Said.NoEntry
    else (if bytes_eq word (codes "exists") then Some Said.Exists
    else (if bytes_eq word (codes "nospace") then Some Said.NoSpace
    else (if bytes_eq word (codes "range") then Some Said.Range
    else (if bytes_eq word (codes "dirtyfull") then Some Said.DirtyFull
    else None))))))

-- an answer of this one word
unfoldable pub bare_at : List ℕ → List (List ℕ) → Option (Said × List (List ℕ))
bare_at word words = do
  said ← bare_of word
  Some (said, words)

-- an answer behind its first word
abbrev pub said_by : List ℕ → List (List ℕ) → Option (Said × List (List ℕ))
said_by word words =
    if bytes_eq word (codes "ok") then ok_at words
    else (if bytes_eq word (codes "lost") then lost_at words
    else bare_at word words)

-- the words of an answer
unfoldable pub said_at : List (List ℕ) → Option (Said × List (List ℕ))
said_at words = do
  word ← word_at words
  said_by word.0 word.1
