-- The words of spans, one more of them.
use Rattle.std.proofs.Common.{◌≡◌, ℕ, ◌+◌, ◌<◌, List, [], ◌∷◌, ◌++◌, All, length, map, take, Option, Some, None, refl, ap, sym, ◌∙◌, subst}
use Rattle.std.proofs.Common.{append_assoc, append-nil, inl, inr, arith}
use Rattle.std.specs.Fmt.{decimal}
use Rattle.std.specs.List.{flat_map, slice_get}
use Rattle.std.proofs.lemmas.List.{take_more, map-append, flat_map_more}
use Rattle.std.proofs.lemmas.List.Elements.{All-push}
use Rattle.std.proofs.lemmas.Option.{slice_get_cases, slice_get_within, get_or_from_slice_get}
use Rattle.nq_base.specs.declared.Span.{Span}
use Rattle.nq_base.specs.Steps.{◌>>=◌}
use Rattle.nq_script.specs.WordsReading.{cut, word_at}
use Rattle.nq_script.specs.ReadingAnswers.{span_of, spans_of}
use Rattle.nq_script.specs.Forms.{FitsSpan, span_word}
use Rattle.nq_script.specs.Words.{spaced}
use Rattle.nq_script.proofs.LineWords.{IsCut, cut_found}

pub taken_more : (spans : List Span) (place : ℕ) (s : Span) → slice_get spans place ≡ Some s → take (place + 1) spans ≡ take place spans ++ s ∷ []
taken_more spans place s found =
    take_more spans place s (slice_get_within spans place s found)
    ∙ ap (λ x. take place spans ++ x ∷ []) (get_or_from_slice_get spans place s s found)

pub one_more : (spans : List Span) (place : ℕ) (s : Span) (old now new : List ℕ) → slice_get spans place ≡ Some s → now ≡ old ++ flat_map spaced
    (map span_word (take place spans)) → new ≡ now ++ spaced (span_word s) → new ≡ old ++ flat_map spaced (map span_word (take (place + 1) spans))
one_more spans place s old now new found before added =
    added
    ∙ ap (λ xs. xs ++ spaced (span_word s)) before
    ∙ flat_map_more spaced old (map span_word (take place spans)) (span_word s)
    ∙ ap (λ ws. old ++ flat_map spaced ws) (sym (map-append span_word (take place spans) (s ∷ [])))
    ∙ ap (λ ss. old ++ flat_map spaced (map span_word ss)) (sym (taken_more spans place s found))

-- a place within the list has an item
pub within_has : {X : Type 0} (xs : List X) (place : ℕ) → place < length xs → slice_get xs place ≡ None → ⊥
within_has xs place within none = elim (slice_get_cases xs place).1 [
  | inl found ↦ cc (sym found.2 ∙ none)
  | inr past ↦ omega (arith, past.0)
]

-- spans in front of those that are read
abbrev pub with_spans : List Span → Option (List Span) → Option (List Span)
with_spans front None = None
with_spans front (Some spans) = Some (front ++ spans)

-- the first word taken is in front
pub word_in_front : (words left : List (List ℕ)) (word : List ℕ) → word_at words ≡ Some (word, left) → words ≡ word ∷ left
word_in_front [] left word taken = cc
word_in_front (first ∷ words) left word taken =
    let same : ◌≡◌ {A = List ℕ × List (List ℕ)} (first, words) (word, left) = cc in
    ap (λ (taken : List ℕ × List (List ℕ)). taken.0 ∷ taken.1) same

with_spans-more : (front : List Span) (span : Span) (spans : Option (List Span)) → with_spans front (spans >>= λ more. Some (span ∷ more))
    ≡ with_spans (front ++ span ∷ []) spans
with_spans-more front span None = refl
with_spans-more front span (Some spans) = ap Some (sym (append_assoc front (span ∷ []) spans))

pub spans_more : (words left : List (List ℕ)) (word : List ℕ) (front : List Span) (span : Span) → word_at words ≡ Some (word, left) → Some span
    ≡ span_of word → with_spans front (spans_of words) ≡ with_spans (front ++ span ∷ []) (spans_of left)
unfolding spans_of
spans_more words left word front span taken read =
    ap (λ ws. with_spans front (spans_of ws)) (word_in_front words left word taken)
    ∙ ap (λ o. with_spans front (o >>= λ first. (spans_of left >>= λ more. Some (first ∷ more)))) (sym read)
    ∙ with_spans-more front span (spans_of left)

pub spans_none : (words left : List (List ℕ)) (word : List ℕ) (front : List Span) → word_at words ≡ Some (word, left) → None ≡ span_of word
    → with_spans front (spans_of words) ≡ None
unfolding spans_of
spans_none words left word front taken none =
    ap (λ ws. with_spans front (spans_of ws)) (word_in_front words left word taken)
    ∙ ap (λ o. with_spans front (o >>= λ first. (spans_of left >>= λ more. Some (first ∷ more)))) (sym none)

pub spans_end : (words : List (List ℕ)) (front : List Span) → word_at words ≡ None → with_spans front (spans_of words) ≡ Some front
unfolding spans_of
spans_end [] front none = ap Some (append-nil front)
spans_end (word ∷ words) front none = cc

-- the word of a span, by its parts
pub span_spelled : (word block ends first last : List ℕ) (span : Span) → Some (block, ends) ≡ cut 58 word → Some (first, last) ≡ cut 45 ends
    → block ≡ decimal span.block → first ≡ decimal span.first → last ≡ decimal span.last → word ≡ span_word span
unfolding span_word
span_spelled word block ends first last span outer inner is_block is_first is_last =
    let front = (let P : Option (List ℕ × List ℕ) → Type 0 = IsCut 58 word in subst P (sym outer) (cut_found 58 word)).0 in
    let back = (let P : Option (List ℕ × List ℕ) → Type 0 = IsCut 45 ends in subst P (sym inner) (cut_found 45 ends)).0 in
    front
    ∙ ap (λ xs. block ++ 58 ∷ xs) back
    ∙ ap (λ xs. xs ++ 58 ∷ (first ++ 45 ∷ last)) is_block
    ∙ ap (λ xs. decimal span.block ++ 58 ∷ (xs ++ 45 ∷ last)) is_first
    ∙ ap (λ xs. decimal span.block ++ 58 ∷ (decimal span.first ++ 45 ∷ xs)) is_last
    ∙ simp append_assoc

-- one span more fits
pub fit_more : (spans : List Span) (place : ℕ) (span : Span) → slice_get spans place ≡ Some span → All FitsSpan (take place spans) → FitsSpan span
    → All FitsSpan (take (place + 1) spans)
fit_more spans place span found fit fits =
    let P : List Span → Type 0 = All FitsSpan in
    subst P (sym (taken_more spans place span found)) (All-push FitsSpan (take place spans) span fit fits)
