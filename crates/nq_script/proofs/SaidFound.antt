-- What is read as an answer is spelled so.
use Rattle.std.proofs.Common.{◌≡◌, ℕ, ◌<◌, ◌^◌, true, false, Bool, List, [], ◌∷◌, ◌++◌, All, map, Option, Some, None, Result, Ok, Err, refl, ap, sym}
use Rattle.std.proofs.Common.{◌∙◌, subst, codes, append-nil, if◌then◌else◌}
use Rattle.std.specs.Prelude.{IfOk}
use Rattle.std.specs.Fmt.{decimal}
use Rattle.std.specs.Option.{IfSome}
use Rattle.std.specs.Str.{bytes_eq}
use Rattle.std.proofs.lemmas.List.Elements.{All-nil, All-cons}
use Rattle.std.proofs.lemmas.Option.{same_Some, some_pair_parts}
use Rattle.std.proofs.lemmas.Slice.Eq.{bytes_eq-Decides}
use Rattle.nq_base.specs.Plain.{plain_said}
use Rattle.nq_base.specs.Steps.{◌>>=◌}
use Rattle.nq_base.specs.declared.Said.{Said}
use Rattle.nq_base.specs.declared.Span.{Span}
use Rattle.nq_base.proofs.Options.{bind_some}
use Rattle.nq_script.specs.Forms.{said_words, span_word, FitsSaid, FitsSpan}
use Rattle.nq_script.specs.WordsReading.{Takes, only_if, is_done, cut, u64_of, u32_of, word_at, u64_at, u32_at}
use Rattle.nq_script.specs.ReadingAnswers.{span_of, spans_of, lost_at, by_at, value_at, ok_at, bare_of, bare_at, said_by, said_at}
use Rattle.nq_script.proofs.Found.{found_u32}
use Rattle.nq_script.proofs.Numerals.{u32_found, u64_found}
use Rattle.nq_script.proofs.Options.{only_if_some}
use Rattle.nq_script.proofs.SpanWords.{span_spelled, word_in_front}

-- these words begin with those of the answer, whose numbers are in their ranges
abbrev Says : Said → (words left : List (List ℕ)) → Type 0
Says said words left = (words ≡ said_words said ++ left) × FitsSaid said

-- a choice by a word
picked : {A : Type 0} (word text : List ℕ) (x y : Option A) (z : A) (P : Type 0) → (if bytes_eq word text then x else y) ≡ Some z
    → (word ≡ text → x ≡ Some z → P) → (y ≡ Some z → P) → P
picked word text x y z P e here there = by_test (bytes_eq word text) refl e where
  by_test : (test : Bool) → bytes_eq word text ≡ test → (if test then x else y) ≡ Some z → P
  by_test true t e = here ((bytes_eq-Decides word text).0 t) e
  by_test false t e = there e

-- ---- spans

abbrev span_by : (block first last : ℕ) → Span
span_by block first last = record { block = block; first = first; last = last }

span_found : (word : List ℕ) (span : Span) → span_of word ≡ Some span → (word ≡ span_word span) × FitsSpan span
unfolding span_of
span_found word span e =
    let outer = bind_some (cut 58 word) (λ parts. cut 45 parts.1 >>= λ ends. u32_of parts.0 >>= λ block. u64_of ends.0 >>= λ first. u64_of ends.1 >>=
    λ last. Some (span_by block first last)) span e in
    let inner = bind_some (cut 45 outer.0.1) (λ ends. u32_of outer.0.0 >>= λ block. u64_of ends.0 >>= λ first. u64_of ends.1 >>= λ last.
    Some (span_by block first last)) span outer.2 in
    let block = bind_some (u32_of outer.0.0) (λ block. u64_of inner.0.0 >>= λ first. u64_of inner.0.1 >>= λ last. Some (span_by block first last))
    span inner.2 in
    let first = bind_some (u64_of inner.0.0) (λ first. u64_of inner.0.1 >>= λ last. Some (span_by block.0 first last)) span block.2 in
    let last = bind_some (u64_of inner.0.1) (λ last. Some (span_by block.0 first.0 last)) span first.2 in
    let b = u32_found outer.0.0 block.0 block.1 in
    let f = u64_found inner.0.0 first.0 first.1 in
    let l = u64_found inner.0.1 last.0 last.1 in
    let made = span_by block.0 first.0 last.0 in
    let Q : Span → Type 0 = λ s. (word ≡ span_word s) × FitsSpan s in
    subst Q (same_Some made span last.2) (
      span_spelled word outer.0.0 outer.0.1 inner.0.0 inner.0.1 made (sym outer.1) (sym inner.1) b.0 f.0 l.0,
      (b.1, f.1, l.1),
    )

spans_found : (words : List (List ℕ)) (spans : List Span) → spans_of words ≡ Some spans → (words ≡ map span_word spans) × All FitsSpan spans
unfolding spans_of
spans_found [] spans e =
    let P : List Span → Type 0 = λ ss. ([] ≡ map span_word ss) × All FitsSpan ss in subst P (same_Some [] spans e) (refl, All-nil FitsSpan)
spans_found (word ∷ words) spans e =
    let span = bind_some (span_of word) (λ span. spans_of words >>= λ more. Some (span ∷ more)) spans e in
    let more = bind_some (spans_of words) (λ more. Some (span.0 ∷ more)) spans span.2 in
    let first = span_found word span.0 span.1 in
    let rest = spans_found words more.0 more.1 in
    let P : List Span → Type 0 = λ ss. ((word ∷ words) ≡ map span_word ss) × All FitsSpan ss in
    subst P (same_Some (span.0 ∷ more.0) spans more.2) (
      ap (λ w. w ∷ words) first.0 ∙ ap (λ ws. span_word span.0 ∷ ws) rest.0,
      All-cons FitsSpan span.0 more.0 first.1 rest.1,
    )

lost_found : (words left : List (List ℕ)) (said : Said) → lost_at words ≡ Some (said, left) → Says said (codes "lost" ∷ words) left
unfolding lost_at
lost_found words left said e =
    let spans = bind_some (spans_of words) (λ spans. Some (Said.Lost (record { items = spans; spare = 0 }), [])) (said, left) e in
    let found = spans_found words spans.0 spans.1 in
    let same = some_pair_parts (Said.Lost (record { items = spans.0; spare = 0 })) said [] left spans.2 in
    let Q : Said → Type 0 = λ s. Says s (codes "lost" ∷ words) left in
    let front = map span_word spans.0 in
    subst Q same.0 (ap (λ ws. codes "lost" ∷ ws) (found.0 ∙ sym (append-nil front) ∙ ap (λ ws. front ++ ws) same.1), found.1)

-- ---- values

found_u64 : (words left : List (List ℕ)) (n : ℕ) → u64_at words ≡ Some (n, left) → (words ≡ decimal n ∷ left) × (n < 2 ^ 64)
unfolding u64_at
found_u64 words left n e =
    let word = bind_some (word_at words) (λ w. u64_of w.0 >>= λ k. Some (k, w.1)) (n, left) e in
    let number = bind_some (u64_of word.0.0) (λ k. Some (k, word.0.1)) (n, left) word.2 in
    let same = some_pair_parts number.0 n word.0.1 left number.2 in
    let spelled = u64_found word.0.0 number.0 number.1 in
    let P : ℕ → Type 0 = λ k. k < 2 ^ 64 in (
      word_in_front words word.0.1 word.0.0 word.1 ∙ ap (λ w. w ∷ word.0.1) (spelled.0 ∙ ap decimal same.0) ∙ ap (λ ws. decimal n ∷ ws) same.1,
      subst P same.0 spelled.1,
    )

by_found : (n : ℕ) (words left : List (List ℕ)) (said : Said) → n < 2 ^ 32 → by_at n words ≡ Some (said, left) → Says said (codes "ok" ∷ decimal n
    ∷ words) left
unfolding by_at
by_found n words left said fits e =
    let by = bind_some (word_at words) (λ by. u64_at by.1 >>= λ packet. only_if (bytes_eq by.0 (codes "by")) (Said.OkBy n packet.0, packet.1))
    (said, left) e in
    let packet = bind_some (u64_at by.0.1) (λ packet. only_if (bytes_eq by.0.0 (codes "by")) (Said.OkBy n packet.0, packet.1)) (said, left) by.2 in
    let passed = only_if_some (bytes_eq by.0.0 (codes "by")) (Said.OkBy n packet.0.0, packet.0.1) (said, left) packet.2 in
    let is = (bytes_eq-Decides by.0.0 (codes "by")).0 passed.0 in
    let spelled = found_u64 by.0.1 packet.0.1 packet.0.0 packet.1 in
    let same = some_pair_parts (Said.OkBy n packet.0.0) said packet.0.1 left (ap (λ (x : Said × List (List ℕ)). Some x) passed.1) in
    let Q : Said → Type 0 = λ s. Says s (codes "ok" ∷ decimal n ∷ words) left in
    subst Q same.0 (
      ap (λ ws. codes "ok" ∷ decimal n ∷ ws)
          (word_in_front words by.0.1 by.0.0 by.1 ∙ ap (λ w. w ∷ by.0.1) is ∙ ap (λ ws. codes "by" ∷ ws) (spelled.0
          ∙ ap (λ ws. decimal packet.0.0 ∷ ws) same.1)),
      (fits, spelled.1),
    )

after_value : (n : ℕ) (words left : List (List ℕ)) (said : Said) → n < 2 ^ 32 → (if is_done words then Some (Said.OkValue n, words)
    else by_at n words) ≡ Some (said, left)
    → Says said (codes "ok" ∷ decimal n ∷ words) left
after_value n [] left said fits e =
    let same = some_pair_parts (Said.OkValue n) said [] left e in
    let Q : Said → Type 0 = λ s. Says s (codes "ok" ∷ decimal n ∷ []) left in
    subst Q same.0 (ap (λ ws. codes "ok" ∷ decimal n ∷ ws) same.1, fits)
after_value n (word ∷ words) left said fits e = by_found n (word ∷ words) left said fits e

value_found : (words left : List (List ℕ)) (said : Said) → value_at words ≡ Some (said, left) → Says said (codes "ok" ∷ words) left
unfolding value_at
value_found words left said e =
    let value = bind_some (u32_at words) (λ v. if is_done v.1 then Some (Said.OkValue v.0, v.1) else by_at v.0 v.1) (said, left) e in
    let spelled = found_u32 words value.0.1 value.0.0 value.1 in
    let P : List (List ℕ) → Type 0 = λ ws. Says said (codes "ok" ∷ ws) left in
    subst P (sym spelled.0) (after_value value.0.0 value.0.1 left said spelled.1 value.2)

ok_found : (words left : List (List ℕ)) (said : Said) → ok_at words ≡ Some (said, left) → Says said (codes "ok" ∷ words) left
unfolding ok_at
ok_found [] left said e =
    let same = some_pair_parts Said.Ok said [] left e in
    let Q : Said → Type 0 = λ s. Says s (codes "ok" ∷ []) left in
    subst Q same.0 (ap (λ ws. codes "ok" ∷ ws) same.1, tt)
ok_found (word ∷ words) left said e = value_found (word ∷ words) left said e

-- ---- the answer behind its word

bare_spelled : (word : List ℕ) (said : Said) → bare_of word ≡ Some said → ((word ∷ []) ≡ said_words said) × FitsSaid said
unfolding bare_of
bare_spelled word said e =
    picked word (codes "busy") (Some Said.Busy) _ said (P said) e (is Said.Busy (codes "busy") (refl, tt)) (λ e.
    picked word (codes "stale") (Some Said.Stale) _ said (P said) e (is Said.Stale (codes "stale") (refl, tt)) (λ e.
    picked word (codes "noentry") (Some Said.NoEntry) _ said (P said) e (is Said.NoEntry (codes "noentry") (refl, tt)) (λ e.
    picked word (codes "exists") (Some Said.Exists) _ said (P said) e (is Said.Exists (codes "exists") (refl, tt)) (λ e.
    picked word (codes "nospace") (Some Said.NoSpace) _ said (P said) e (is Said.NoSpace (codes "nospace") (refl, tt)) (λ e.
    picked word (codes "range") (Some Said.Range) _ said (P said) e (is Said.Range (codes "range") (refl, tt)) (λ e.
    picked word (codes "dirtyfull") (Some Said.DirtyFull) None said (P said) e (is Said.DirtyFull (codes "dirtyfull") (refl, tt)) (λ e. absurd cc)))))))
  where
    P : Said → Type 0
    P s = ((word ∷ []) ≡ said_words s) × FitsSaid s

    is : (x : Said) (text : List ℕ) → ((text ∷ []) ≡ said_words x) × FitsSaid x → word ≡ text → Some x ≡ Some said → P said
    is x text spelled same which = subst P (same_Some x said which) (ap (λ w. w ∷ []) same ∙ spelled.0, spelled.1)

bare_found : (word : List ℕ) (words left : List (List ℕ)) (said : Said) → bare_at word words ≡ Some (said, left) → Says said (word ∷ words) left
unfolding bare_at
bare_found word words left said e =
    let bare = bind_some (bare_of word) (λ s. Some (s, words)) (said, left) e in
    let same = some_pair_parts bare.0 said words left bare.2 in
    let found = bare_spelled word bare.0 bare.1 in
    let Q : Said → Type 0 = λ s. Says s (word ∷ words) left in
    subst Q same.0 (ap (λ ws. word ∷ ws) same.1 ∙ ap (λ (front : List (List ℕ)). front ++ left) found.0, found.1)

first_found : (word : List ℕ) (words left : List (List ℕ)) (said : Said) → said_by word words ≡ Some (said, left) → Says said (word ∷ words) left
first_found word words left said e =
    let P : List ℕ → Type 0 = λ w. Says said (w ∷ words) left in
    picked word (codes "ok") (ok_at words) _ (said, left) (P word) e (λ is e. subst P (sym is) (ok_found words left said e)) (λ e.
    picked word (codes "lost") (lost_at words) (bare_at word words) (said, left) (P word) e (λ is e. subst P (sym is) (lost_found words left said e)) (λ e.
    bare_found word words left said e))

said_found : (words left : List (List ℕ)) (said : Said) → said_at words ≡ Some (said, left) → Says said words left
unfolding said_at
said_found words left said e =
    let word = bind_some (word_at words) (λ w. said_by w.0 w.1) (said, left) e in
    let P : List (List ℕ) → Type 0 = λ ws. Says said ws left in
    subst P (sym (word_in_front words word.0.1 word.0.0 word.1)) (first_found word.0.0 word.0.1 left said word.2)

-- room that is reserved is not told
plain_says : (said : Said) (words left : List (List ℕ)) → Says (plain_said said) words left → Says said words left
plain_says (Said.Lost spans) words left says = says
plain_says said words left says = says

pub said_taken : {E : Type 0} (words left : List (List ℕ)) (r : Result (Option Said) E) → IfOk r (λ said. Takes plain_said said left (said_at words))
    → IfOk r (λ said. IfSome said (λ s. Says s words left))
said_taken words left (Err e) read = tt
said_taken words left (Ok None) read = tt
said_taken words left (Ok (Some said)) read = plain_says said words left (said_found words left (plain_said said) read)
