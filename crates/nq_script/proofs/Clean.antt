-- The words of calls and of answers are words: no blank and no line feed is in them.
use Rattle.std.proofs.Common.{◌≡◌, ℕ, ◌<◌, ◌^◌, true, nat_lt, List, [], ◌∷◌, ◌++◌, map, refl, codes, arith}
use Rattle.std.specs.Fmt.{decimal}
use Rattle.std.specs.List.{AllByRecursion, list_all}
use Rattle.std.proofs.lemmas.Bool.{ltb-true, and_parts}
use Rattle.std.proofs.lemmas.List.Elements.{recursion_from_All}
use Rattle.nq_base.specs.Name.{IsName, IsNameByte}
use Rattle.nq_base.specs.declared.Said.{Said}
use Rattle.nq_base.specs.declared.Span.{Span}
use Rattle.nq_base.specs.declared.Told.{Told}
use Rattle.nq_script.specs.Forms.{told_words, span_word, said_words, FitsTold, FitsSpan, FitsSaid}
use Rattle.nq_script.specs.WordsReading.{words_of}
use Rattle.nq_script.specs.Words.{joined}
use Rattle.nq_script.proofs.LineWords.{IsWord, words_of-joined}
use Rattle.nq_script.proofs.Numerals.{word_decimal}

-- all words of a list are words
abbrev pub AreWords : List (List ℕ) → Type 0
AreWords words = AllByRecursion IsWord words

-- a text without blanks is a word, by a test
pub literal : (text : List ℕ) → list_all (λ b. nat_lt 32 b) text ≡ true → IsWord text
literal [] test = tt
literal (b ∷ text) test =
    let parts = and_parts (nat_lt 32 b) (list_all (λ c. nat_lt 32 c) text) test in
    (ltb-true 32 b parts.0, literal text parts.1)

pub small : (n : ℕ) → n < 2 ^ 32 → IsWord (decimal n)
small n fits = word_decimal n (omega arith)

bytes_of_name : (name : List ℕ) → AllByRecursion IsNameByte name → IsWord name
bytes_of_name [] are = tt
bytes_of_name (b ∷ name) are = (let low = are.0.0 in omega arith, bytes_of_name name are.1)

pub of_name : (name : List ℕ) → IsName name → IsWord name
of_name name is = bytes_of_name name (recursion_from_All IsNameByte name is.2)

pub word-append : (xs ys : List ℕ) → IsWord xs → IsWord ys → IsWord (xs ++ ys)
word-append [] ys front rest = rest
word-append (b ∷ xs) ys front rest = (front.0, word-append xs ys front.1 rest)

pub of_told : (told : Told) → FitsTold told → AreWords (told_words told)
of_told (Told.Create name blocks) fits = (literal (codes "create") refl, (of_name name fits.0, (small blocks fits.1, tt)))
of_told (Told.Lookup name) fits = (literal (codes "lookup") refl, (of_name name fits, tt))
of_told (Told.Attr file) fits = (literal (codes "attr") refl, (small file fits, tt))
of_told (Told.Read file block) fits = (literal (codes "read") refl, (small file fits.0, (small block fits.1, tt)))
of_told (Told.Fetch file block) fits = (literal (codes "fetch") refl, (small file fits.0, (small block fits.1, tt)))
of_told (Told.Write file block value) fits = (literal (codes "write") refl, (small file fits.0, (small block fits.1, (small value fits.2, tt))))
of_told (Told.Put file block value) fits = (literal (codes "put") refl, (small file fits.0, (small block fits.1, (small value fits.2, tt))))
of_told (Told.Sync file) fits = (literal (codes "sync") refl, (small file fits, tt))
of_told (Told.Resize file blocks) fits = (literal (codes "resize") refl, (small file fits.0, (small blocks fits.1, tt)))
of_told (Told.Remove file) fits = (literal (codes "remove") refl, (small file fits, tt))

pub of_span : (span : Span) → FitsSpan span → IsWord (span_word span)
unfolding span_word
of_span span fits =
    let block = small span.block fits.0 in
    let first = word_decimal span.first fits.1 in
    let last = word_decimal span.last fits.2 in
    let colon : IsWord (codes ":") = literal (codes ":") refl in
    let dash : IsWord (codes "-") = literal (codes "-") refl in
    let front = word-append (decimal span.block) (codes ":") block colon in
    let middle = word-append (decimal span.block ++ codes ":") (decimal span.first) front first in
    let end = word-append (decimal span.block ++ codes ":" ++ decimal span.first) (codes "-") middle dash in
    word-append (decimal span.block ++ codes ":" ++ decimal span.first ++ codes "-") (decimal span.last) end last

pub of_spans : (spans : List Span) → AllByRecursion FitsSpan spans → AreWords (map span_word spans)
of_spans [] fit = tt
of_spans (span ∷ spans) fit = (of_span span fit.0, of_spans spans fit.1)

pub of_said : (said : Said) → FitsSaid said → AreWords (said_words said)
of_said Said.Ok fits = (literal (codes "ok") refl, tt)
of_said (Said.OkValue value) fits = (literal (codes "ok") refl, (small value fits, tt))
of_said (Said.OkBy value packet) fits = (literal (codes "ok") refl, (small value fits.0, (literal (codes "by") refl, (word_decimal packet fits.1, tt))))
of_said (Said.Lost spans) fits = (literal (codes "lost") refl, of_spans spans.items (recursion_from_All FitsSpan spans.items fits))
of_said Said.Busy fits = (literal (codes "busy") refl, tt)
of_said Said.Stale fits = (literal (codes "stale") refl, tt)
of_said Said.NoEntry fits = (literal (codes "noentry") refl, tt)
of_said Said.Exists fits = (literal (codes "exists") refl, tt)
of_said Said.NoSpace fits = (literal (codes "nospace") refl, tt)
of_said Said.Range fits = (literal (codes "range") refl, tt)
of_said Said.DirtyFull fits = (literal (codes "dirtyfull") refl, tt)

-- the words of a call stand apart in their text
pub told_apart : (told : Told) → FitsTold told → words_of (joined (told_words told)) ≡ told_words told
told_apart told fits = some told (of_told told fits) where
  some : (told : Told) → AreWords (told_words told) → words_of (joined (told_words told)) ≡ told_words told
  some (Told.Create name blocks) are = words_of-joined (codes "create") (name ∷ decimal blocks ∷ []) are
  some (Told.Lookup name) are = words_of-joined (codes "lookup") (name ∷ []) are
  some (Told.Attr file) are = words_of-joined (codes "attr") (decimal file ∷ []) are
  some (Told.Read file block) are = words_of-joined (codes "read") (decimal file ∷ decimal block ∷ []) are
  some (Told.Fetch file block) are = words_of-joined (codes "fetch") (decimal file ∷ decimal block ∷ []) are
  some (Told.Write file block value) are = words_of-joined (codes "write") (decimal file ∷ decimal block ∷ decimal value ∷ []) are
  some (Told.Put file block value) are = words_of-joined (codes "put") (decimal file ∷ decimal block ∷ decimal value ∷ []) are
  some (Told.Sync file) are = words_of-joined (codes "sync") (decimal file ∷ []) are
  some (Told.Resize file blocks) are = words_of-joined (codes "resize") (decimal file ∷ decimal blocks ∷ []) are
  some (Told.Remove file) are = words_of-joined (codes "remove") (decimal file ∷ []) are
