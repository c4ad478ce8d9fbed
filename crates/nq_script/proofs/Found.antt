-- What is read as a call is spelled so.
use Rattle.std.proofs.Common.{◌≡◌, ℕ, ◌<◌, ◌^◌, true, false, Bool, ◌&&◌, List, [], ◌∷◌, ◌++◌, Option, Some, None, refl, ap, sym, ◌∙◌, subst, codes}
use Rattle.std.proofs.Common.{append-nil, if◌then◌else◌}
use Rattle.std.specs.Fmt.{decimal}
use Rattle.std.specs.Option.{IfSome}
use Rattle.std.specs.Str.{bytes_eq}
use Rattle.std.proofs.lemmas.Bool.{and_parts, eqb-true}
use Rattle.std.proofs.lemmas.Option.{none-some, same_Some, some_pair_parts}
use Rattle.std.proofs.lemmas.Slice.Eq.{bytes_eq-Decides}
use Rattle.nq_base.specs.Name.{IsName}
use Rattle.nq_base.specs.Steps.{◌>>=◌}
use Rattle.nq_base.specs.declared.Told.{Told}
use Rattle.nq_base.proofs.Options.{bind_some}
use Rattle.nq_script.specs.Forms.{told_words, FitsTold, HasTold, SpellsTold}
use Rattle.nq_script.specs.WordsReading.{Takes, only_if, is_done, word_at, u32_of, u32_at, name_of, name_at, place_at, words_of}
use Rattle.nq_script.specs.ReadingCalls.{told_at, told_by, told_in, verb_of, verb_word, has_told, create_at, lookup_at, attr_at, read_at, fetch_at}
use Rattle.nq_script.specs.ReadingCalls.{write_at, put_at, sync_at, resize_at, remove_at}
use Rattle.nq_script.specs.Words.{joined}
use Rattle.nq_script.specs.declared.words.calls.Verb.{Verb}
use Rattle.nq_script.proofs.LineWords.{joined-words_of}
use Rattle.nq_script.proofs.Names.{name_found}
use Rattle.nq_script.proofs.Numerals.{u32_found}
use Rattle.nq_script.proofs.Options.{only_if_some}

-- ---- fields

word_found : (words left : List (List ℕ)) (word : List ℕ) → word_at words ≡ Some (word, left) → words ≡ word ∷ left
word_found [] left word e = absurd (none-some (word, left) e)
word_found (first ∷ words) left word e =
    let parts = some_pair_parts first word words left e in rw (parts.0, parts.1) refl

pub found_u32 : (words left : List (List ℕ)) (n : ℕ) → u32_at words ≡ Some (n, left) → (words ≡ decimal n ∷ left) × (n < 2 ^ 32)
unfolding u32_at
found_u32 words left n e =
    let word = bind_some (word_at words) (λ w. u32_of w.0 >>= λ k. Some (k, w.1)) (n, left) e in
    let number = bind_some (u32_of word.0.0) (λ k. Some (k, word.0.1)) (n, left) word.2 in
    let same = some_pair_parts number.0 n word.0.1 left number.2 in
    let spelled = u32_found word.0.0 number.0 number.1 in
    let P : ℕ → Type 0 = λ k. k < 2 ^ 32 in (
      word_found words word.0.1 word.0.0 word.1 ∙ ap (λ w. w ∷ word.0.1) (spelled.0 ∙ ap decimal same.0) ∙ ap (λ ws. decimal n ∷ ws) same.1,
      subst P same.0 spelled.1,
    )

found_name : (words left : List (List ℕ)) (name : List ℕ) → name_at words ≡ Some (name, left) → (words ≡ name ∷ left) × IsName name
unfolding name_at
found_name words left name e =
    let word = bind_some (word_at words) (λ w. name_of w.0 >>= λ k. Some (k, w.1)) (name, left) e in
    let found = bind_some (name_of word.0.0) (λ k. Some (k, word.0.1)) (name, left) word.2 in
    let same = some_pair_parts found.0 name word.0.1 left found.2 in
    let spelled = name_found word.0.0 found.0 found.1 in
    let P : List ℕ → Type 0 = IsName in
    (word_found words word.0.1 word.0.0 word.1 ∙ ap (λ w. w ∷ word.0.1) (spelled.0 ∙ same.0) ∙ ap (λ ws. name ∷ ws) same.1, subst P same.0 spelled.1)

found_place : (words left : List (List ℕ)) (place : ℕ × ℕ) → place_at words ≡ Some (place, left)
    → (words ≡ decimal place.0 ∷ decimal place.1 ∷ left) × (place.0 < 2 ^ 32) × (place.1 < 2 ^ 32)
unfolding place_at
found_place words left place e =
    let file = bind_some (u32_at words) (λ f. u32_at f.1 >>= λ b. Some ((f.0, b.0), b.1)) (place, left) e in
    let block = bind_some (u32_at file.0.1) (λ b. Some ((file.0.0, b.0), b.1)) (place, left) file.2 in
    let same = some_pair_parts (file.0.0, block.0.0) place block.0.1 left block.2 in
    let first = found_u32 words file.0.1 file.0.0 file.1 in
    let second = found_u32 file.0.1 block.0.1 block.0.0 block.1 in
    let P : ℕ × ℕ → Type 0 = λ p. (words ≡ decimal p.0 ∷ decimal p.1 ∷ left) × (p.0 < 2 ^ 32) × (p.1 < 2 ^ 32) in
    subst P same.0 (first.0 ∙ ap (λ ws. decimal file.0.0 ∷ ws) (second.0 ∙ ap (λ ws. decimal block.0.0 ∷ ws) same.1), first.1, second.1)

-- ---- calls of one shape

-- a call that one number tells
abbrev one_by : (tell : ℕ → Told) → List (List ℕ) → Option (Told × List (List ℕ))
one_by tell words = do
  n ← u32_at words
  Some (tell n.0, n.1)

-- a call that a file and a block tell
abbrev place_by : (tell : ℕ → ℕ → Told) → List (List ℕ) → Option (Told × List (List ℕ))
place_by tell words = do
  place ← place_at words
  Some (tell place.0.0 place.0.1, place.1)

-- a call that a file, a block and a value tell
abbrev value_by : (tell : ℕ → ℕ → ℕ → Told) → List (List ℕ) → Option (Told × List (List ℕ))
value_by tell words = do
  place ← place_at words
  value ← u32_at place.1
  Some (tell place.0.0 place.0.1 value.0, value.1)

-- what a call names, and the call that is told by it
abbrev IsOne : (words left : List (List ℕ)) → (tell : ℕ → Told) → Told → Type 0
IsOne words left tell told = (n : ℕ) × (words ≡ decimal n ∷ left) × (n < 2 ^ 32) × (tell n ≡ told)

of_one : (tell : ℕ → Told) (words left : List (List ℕ)) (told : Told) → one_by tell words ≡ Some (told, left) → IsOne words left tell told
of_one tell words left told e =
    let n = bind_some (u32_at words) (λ n. Some (tell n.0, n.1)) (told, left) e in
    let same = some_pair_parts (tell n.0.0) told n.0.1 left n.2 in
    let spelled = found_u32 words n.0.1 n.0.0 n.1 in
    (n.0.0, spelled.0 ∙ ap (λ ws. decimal n.0.0 ∷ ws) same.1, spelled.1, same.0)

abbrev IsTwo : (words left : List (List ℕ)) → (tell : ℕ → ℕ → Told) → Told → Type 0
IsTwo words left tell told = (m : ℕ) × (n : ℕ) × (words ≡ decimal m ∷ decimal n ∷ left) × (m < 2 ^ 32) × (n < 2 ^ 32) × (tell m n ≡ told)

of_place : (tell : ℕ → ℕ → Told) (words left : List (List ℕ)) (told : Told) → place_by tell words ≡ Some (told, left) → IsTwo words left tell told
of_place tell words left told e =
    let p = bind_some (place_at words) (λ p. Some (tell p.0.0 p.0.1, p.1)) (told, left) e in
    let same = some_pair_parts (tell p.0.0.0 p.0.0.1) told p.0.1 left p.2 in
    let spelled = found_place words p.0.1 p.0.0 p.1 in
    (p.0.0.0, p.0.0.1, spelled.0 ∙ ap (λ ws. decimal p.0.0.0 ∷ decimal p.0.0.1 ∷ ws) same.1, spelled.1, spelled.2, same.0)

abbrev IsThree : (words left : List (List ℕ)) → (tell : ℕ → ℕ → ℕ → Told) → Told → Type 0
IsThree words left tell told =
    (l : ℕ) × (m : ℕ) × (n : ℕ) × (words ≡ decimal l ∷ decimal m ∷ decimal n ∷ left) × (l < 2 ^ 32) × (m < 2 ^ 32) × (n < 2 ^ 32) × (tell l m n ≡ told)

of_value : (tell : ℕ → ℕ → ℕ → Told) (words left : List (List ℕ)) (told : Told)
    → value_by tell words ≡ Some (told, left) → IsThree words left tell told
of_value tell words left told e =
    let p = bind_some (place_at words) (λ p. u32_at p.1 >>= λ v. Some (tell p.0.0 p.0.1 v.0, v.1)) (told, left) e in
    let v = bind_some (u32_at p.0.1) (λ v. Some (tell p.0.0.0 p.0.0.1 v.0, v.1)) (told, left) p.2 in
    let same = some_pair_parts (tell p.0.0.0 p.0.0.1 v.0.0) told v.0.1 left v.2 in
    let front = found_place words p.0.1 p.0.0 p.1 in
    let value = found_u32 p.0.1 v.0.1 v.0.0 v.1 in (
      p.0.0.0,
      p.0.0.1,
      v.0.0,
      front.0 ∙ ap (λ ws. decimal p.0.0.0 ∷ decimal p.0.0.1 ∷ ws) (value.0 ∙ ap (λ ws. decimal v.0.0 ∷ ws) same.1),
      front.1,
      front.2,
      value.1,
      same.0,
    )

-- ---- the call behind its word

-- these words begin with those of the call, whose numbers are in their ranges
abbrev Tells : Told → (words left : List (List ℕ)) → Type 0
Tells told words left = (words ≡ told_words told ++ left) × FitsTold told

one_tells : (tell : ℕ → Told) (verb : List ℕ) (words left : List (List ℕ)) (told : Told)
    → ((n : ℕ) → n < 2 ^ 32 → Tells (tell n) (verb ∷ decimal n ∷ left) left) → IsOne words left tell told → Tells told (verb ∷ words) left
one_tells tell verb words left told tells is =
    let P : List (List ℕ) → Type 0 = λ ws. Tells told (verb ∷ ws) left in
    let Q : Told → Type 0 = λ t. Tells t (verb ∷ decimal is.0 ∷ left) left in
    subst P (sym is.1) (subst Q is.3 (tells is.0 is.2))

two_tells : (tell : ℕ → ℕ → Told) (verb : List ℕ) (words left : List (List ℕ)) (told : Told)
    → ((m n : ℕ) → m < 2 ^ 32 → n < 2 ^ 32 → Tells (tell m n) (verb ∷ decimal m ∷ decimal n ∷ left) left) → IsTwo words left tell told
    → Tells told (verb ∷ words) left
two_tells tell verb words left told tells is =
    let P : List (List ℕ) → Type 0 = λ ws. Tells told (verb ∷ ws) left in
    let Q : Told → Type 0 = λ t. Tells t (verb ∷ decimal is.0 ∷ decimal is.1 ∷ left) left in
    subst P (sym is.2) (subst Q is.5 (tells is.0 is.1 is.3 is.4))

three_tells : (tell : ℕ → ℕ → ℕ → Told) (verb : List ℕ) (words left : List (List ℕ)) (told : Told)
    → ((l m n : ℕ) → l < 2 ^ 32 → m < 2 ^ 32 → n < 2 ^ 32 → Tells (tell l m n) (verb ∷ decimal l ∷ decimal m ∷ decimal n ∷ left) left)
    → IsThree words left tell told → Tells told (verb ∷ words) left
three_tells tell verb words left told tells is =
    let P : List (List ℕ) → Type 0 = λ ws. Tells told (verb ∷ ws) left in
    let Q : Told → Type 0 = λ t. Tells t (verb ∷ decimal is.0 ∷ decimal is.1 ∷ decimal is.2 ∷ left) left in
    subst P (sym is.3) (subst Q is.7 (tells is.0 is.1 is.2 is.4 is.5 is.6))

create_found : (words left : List (List ℕ)) (told : Told) → create_at words ≡ Some (told, left) → Tells told (codes "create" ∷ words) left
unfolding create_at
create_found words left told e =
    let name = bind_some (name_at words) (λ n. u32_at n.1 >>= λ b. Some (Told.Create n.0 b.0, b.1)) (told, left) e in
    let blocks = bind_some (u32_at name.0.1) (λ b. Some (Told.Create name.0.0 b.0, b.1)) (told, left) name.2 in
    let same = some_pair_parts (Told.Create name.0.0 blocks.0.0) told blocks.0.1 left blocks.2 in
    let first = found_name words name.0.1 name.0.0 name.1 in
    let second = found_u32 name.0.1 blocks.0.1 blocks.0.0 blocks.1 in
    let Q : Told → Type 0 = λ t. Tells t (codes "create" ∷ words) left in
    subst Q same.0 (
      ap (λ ws. codes "create" ∷ ws) (first.0 ∙ ap (λ ws. name.0.0 ∷ ws) (second.0 ∙ ap (λ ws. decimal blocks.0.0 ∷ ws) same.1)),
      (first.1, second.1),
    )

lookup_found : (words left : List (List ℕ)) (told : Told) → lookup_at words ≡ Some (told, left) → Tells told (codes "lookup" ∷ words) left
unfolding lookup_at
lookup_found words left told e =
    let name = bind_some (name_at words) (λ n. Some (Told.Lookup n.0, n.1)) (told, left) e in
    let same = some_pair_parts (Told.Lookup name.0.0) told name.0.1 left name.2 in
    let first = found_name words name.0.1 name.0.0 name.1 in
    let Q : Told → Type 0 = λ t. Tells t (codes "lookup" ∷ words) left in
    subst Q same.0 (ap (λ ws. codes "lookup" ∷ ws) (first.0 ∙ ap (λ ws. name.0.0 ∷ ws) same.1), first.1)

resize_found : (words left : List (List ℕ)) (told : Told) → resize_at words ≡ Some (told, left) → Tells told (codes "resize" ∷ words) left
unfolding resize_at
resize_found words left told e =
    let file = bind_some (u32_at words) (λ f. u32_at f.1 >>= λ b. Some (Told.Resize f.0 b.0, b.1)) (told, left) e in
    let blocks = bind_some (u32_at file.0.1) (λ b. Some (Told.Resize file.0.0 b.0, b.1)) (told, left) file.2 in
    let same = some_pair_parts (Told.Resize file.0.0 blocks.0.0) told blocks.0.1 left blocks.2 in
    let first = found_u32 words file.0.1 file.0.0 file.1 in
    let second = found_u32 file.0.1 blocks.0.1 blocks.0.0 blocks.1 in
    let Q : Told → Type 0 = λ t. Tells t (codes "resize" ∷ words) left in
    subst Q same.0 (
      ap (λ ws. codes "resize" ∷ ws) (first.0 ∙ ap (λ ws. decimal file.0.0 ∷ ws) (second.0 ∙ ap (λ ws. decimal blocks.0.0 ∷ ws) same.1)),
      (first.1, second.1),
    )

by_found : (verb : Verb) (words left : List (List ℕ)) (told : Told) → told_by verb words ≡ Some (told, left) → Tells told (verb_word verb ∷ words) left
unfolding attr_at read_at fetch_at write_at put_at sync_at remove_at
by_found Verb.Create words left told e = create_found words left told e
by_found Verb.Lookup words left told e = lookup_found words left told e
by_found Verb.Attr words left told e = one_tells Told.Attr (codes "attr") words left told (λ n a. (refl, a)) (of_one Told.Attr words left told e)
by_found Verb.Read words left told e = two_tells Told.Read (codes "read") words left told (λ m n a b. (refl, (a, b))) (of_place Told.Read words left told e)
by_found Verb.Fetch words left told e = two_tells Told.Fetch (codes "fetch") words left told (λ m n a b. (refl, (a, b))) (of_place Told.Fetch words
    left told e)
by_found Verb.Write words left told e = three_tells Told.Write (codes "write") words left told (λ l m n a b c. (refl, (a, b, c)))
    (of_value Told.Write words left told e)
by_found Verb.Put words left told e = three_tells Told.Put (codes "put") words left told (λ l m n a b c. (refl, (a, b, c)))
    (of_value Told.Put words left told e)
by_found Verb.Sync words left told e = one_tells Told.Sync (codes "sync") words left told (λ n a. (refl, a)) (of_one Told.Sync words left told e)
by_found Verb.Resize words left told e = resize_found words left told e
by_found Verb.Remove words left told e = one_tells Told.Remove (codes "remove") words left told (λ n a. (refl, a)) (of_one Told.Remove words left told e)

-- a choice by a word
picks : (word text : List ℕ) (x y : Verb) (rest : Option Verb) (P : Type 0) → (if bytes_eq word text then Some x else rest) ≡ Some y
    → (word ≡ text → x ≡ y → P) → (rest ≡ Some y → P) → P
picks word text x y rest P e here there = by_test (bytes_eq word text) refl e where
  by_test : (test : Bool) → bytes_eq word text ≡ test → (if test then Some x else rest) ≡ Some y → P
  by_test true t e = here ((bytes_eq-Decides word text).0 t) (same_Some x y e)
  by_test false t e = there e

verb_found : (word : List ℕ) (verb : Verb) → verb_of word ≡ Some verb → word ≡ verb_word verb
unfolding verb_of
verb_found word verb e =
    picks word (codes "create") Verb.Create verb _ P e (is Verb.Create) (λ e.
    picks word (codes "lookup") Verb.Lookup verb _ P e (is Verb.Lookup) (λ e.
    picks word (codes "attr") Verb.Attr verb _ P e (is Verb.Attr) (λ e.
    picks word (codes "read") Verb.Read verb _ P e (is Verb.Read) (λ e.
    picks word (codes "fetch") Verb.Fetch verb _ P e (is Verb.Fetch) (λ e.
    picks word (codes "write") Verb.Write verb _ P e (is Verb.Write) (λ e.
    picks word (codes "put") Verb.Put verb _ P e (is Verb.Put) (λ e.
    picks word (codes "sync") Verb.Sync verb _ P e (is Verb.Sync) (λ e.
    picks word (codes "resize") Verb.Resize verb _ P e (is Verb.Resize) (λ e.
    picks word (codes "remove") Verb.Remove verb None P e (is Verb.Remove) (λ e. absurd (none-some verb e)))))))))))
  where
    P : Type 0
    P = word ≡ verb_word verb

    is : (x : Verb) → word ≡ verb_word x → x ≡ verb → P
    is x same which = same ∙ ap verb_word which

-- what is read as a call stands in front
at_found : (words left : List (List ℕ)) (told : Told) → told_at words ≡ Some (told, left) → Tells told words left
unfolding told_at
at_found words left told e =
    let word = bind_some (word_at words) (λ w. verb_of w.0 >>= λ verb. told_by verb w.1) (told, left) e in
    let verb = bind_some (verb_of word.0.0) (λ verb. told_by verb word.0.1) (told, left) word.2 in
    let first = word_found words word.0.1 word.0.0 word.1 ∙ ap (λ w. w ∷ word.0.1) (verb_found word.0.0 verb.0 verb.1) in
    let P : List (List ℕ) → Type 0 = λ ws. Tells told ws left in
    subst P (sym first) (by_found verb.0 word.0.1 left told verb.2)

-- so is what is taken as a call
pub told_taken : (words left : List (List ℕ)) (r : Option Told) → Takes (λ (told : Told). told) r left (told_at words)
    → IfSome r (λ told. Tells told words left)
told_taken words left None read = tt
told_taken words left (Some told) read = at_found words left told read

has_found : (version : ℕ) (told : Told) → has_told version told ≡ true → HasTold version told
has_found version (Told.Resize file blocks) test = eqb-true version 2 test
has_found version (Told.Remove file) test = eqb-true version 2 test
has_found version (Told.Create name blocks) test = tt
has_found version (Told.Lookup name) test = tt
has_found version (Told.Attr file) test = tt
has_found version (Told.Read file block) test = tt
has_found version (Told.Fetch file block) test = tt
has_found version (Told.Write file block value) test = tt
has_found version (Told.Put file block value) test = tt
has_found version (Told.Sync file) test = tt

none_left : (words : List (List ℕ)) → is_done words ≡ true → words ≡ []
none_left [] done = refl
none_left (word ∷ words) done = absurd cc

-- the call that a text is read as is spelled by it
pub told_read : (version : ℕ) (told : Told) (text : List ℕ) → told_in version (words_of text) ≡ Some told → SpellsTold version told text
unfolding told_in
told_read version told text e =
    let at = bind_some (told_at (words_of text)) (λ t. only_if (is_done t.1 && has_told version t.0) t.0) told e in
    let passed = only_if_some (is_done at.0.1 && has_told version at.0.0) at.0.0 told at.2 in
    let tests = and_parts (is_done at.0.1) (has_told version at.0.0) passed.0 in
    let found = at_found (words_of text) at.0.1 at.0.0 at.1 in
    let words = found.0 ∙ ap (λ ws. told_words at.0.0 ++ ws) (none_left at.0.1 tests.0) ∙ append-nil (told_words at.0.0) in
    let P : Told → Type 0 = λ t. SpellsTold version t text in
    subst P passed.1 (has_found version at.0.0 tests.1, found.1, sym (joined-words_of text) ∙ ap joined words)

pub read_is : (version : ℕ) (text : List ℕ) (r : Option Told) → r ≡ told_in version (words_of text) → IfSome r (λ told. SpellsTold version told text)
read_is version text None read = tt
read_is version text (Some told) read = told_read version told text (sym read)
