-- Lines and their words, lines and the text behind them.
use Rattle.std.proofs.Common.{◌≡◌, ◌≢◌, ℕ, ◌<◌, lit<, List, [], ◌∷◌, ◌++◌, Option, Some, None, refl, ap, sym, ◌∙◌, inl, inr, arith}
use Rattle.std.specs.List.{AllByRecursion, flat_map}
use Rattle.std.proofs.lemmas.Bool.{ne_eqb}
use Rattle.std.proofs.lemmas.Bool.Decides.{eqb_tells}
use Rattle.nq_script.specs.WordsReading.{cut, with_front, words_of, with_first}
use Rattle.nq_script.specs.Words.{spaced, joined}
use Rattle.nq_script.proofs.WordsCuts.{cut_past, cut_here}

-- bytes that stand behind the blank
abbrev pub IsWord : List ℕ → Type 0
IsWord word = AllByRecursion (λ b. 32 < b) word

-- bytes among which this one is not
abbrev pub IsFree : (stop : ℕ) → List ℕ → Type 0
IsFree stop bytes = AllByRecursion (λ b. b ≢ stop) bytes

pub free-append : (stop : ℕ) (xs ys : List ℕ) → IsFree stop xs → IsFree stop ys → IsFree stop (xs ++ ys)
free-append stop [] ys front rest = rest
free-append stop (b ∷ xs) ys front rest = (front.0, free-append stop xs ys front.1 rest)

pub free_word : (stop : ℕ) (word : List ℕ) → stop < 33 → IsWord word → IsFree stop word
free_word stop [] low is = is
free_word stop (b ∷ word) low is = (let above = is.0 in omega arith, free_word stop word low is.1)

-- a text is cut at the first byte of a kind
pub cut_again : (stop : ℕ) (front rest : List ℕ) → IsFree stop front → cut stop (front ++ stop ∷ rest) ≡ Some (front, rest)
cut_again stop [] rest free = cut_here stop stop rest refl
cut_again stop (b ∷ front) rest free =
    cut_past stop b (front ++ stop ∷ rest) free.0 ∙ ap (with_front (b ∷ [])) (cut_again stop front rest free.1)

-- what a cut gives
abbrev pub IsCut : (stop : ℕ) → List ℕ → Option (List ℕ × List ℕ) → Type 0
IsCut stop bytes None = IsFree stop bytes
IsCut stop bytes (Some parts) = (bytes ≡ parts.0 ++ stop ∷ parts.1) × IsFree stop parts.0

cut_more : (stop b : ℕ) (bytes : List ℕ) (parts : Option (List ℕ × List ℕ)) → b ≢ stop → IsCut stop bytes parts → IsCut stop (b ∷ bytes)
    (with_front (b ∷ []) parts)
cut_more stop b bytes None other is = (other, is)
cut_more stop b bytes (Some parts) other is = (ap (λ xs. b ∷ xs) is.0, (other, is.1))

pub cut_found : (stop : ℕ) (bytes : List ℕ) → IsCut stop bytes (cut stop bytes)
unfolding cut
cut_found stop [] = tt
cut_found stop (b ∷ bytes) = elim (eqb_tells b stop) [
  | inl same ↦ rw same.0 (ap (λ x. x ∷ bytes) same.1, tt)
  | inr other ↦ rw other.0 (cut_more stop b bytes (cut stop bytes) other.1 (cut_found stop bytes))
]

-- no line is without a word
with_first_words : (b : ℕ) (words : List (List ℕ)) → (first : List ℕ) × (rest : List (List ℕ)) × (with_first b words ≡ first ∷ rest)
with_first_words b [] = (b ∷ [], [], refl)
with_first_words b (word ∷ words) = (b ∷ word, words, refl)

pub some_words : (bytes : List ℕ) → (first : List ℕ) × (rest : List (List ℕ)) × (words_of bytes ≡ first ∷ rest)
unfolding words_of
some_words [] = ([], [], refl)
some_words (b ∷ bytes) = elim (eqb_tells b 32) [
  | inl same ↦ ([], words_of bytes, rw same.0 refl)
  | inr other ↦ let some = with_first_words b (words_of bytes) in (some.0, some.1, rw other.0 some.2)
]

-- a blank, then the words
blank_joined : (words rest : List (List ℕ)) (first : List ℕ) → words ≡ first ∷ rest → flat_map spaced words ≡ 32 ∷ joined words
unfolding joined
blank_joined words rest first some = rw some refl

first_joined : (b : ℕ) (words rest : List (List ℕ)) (first : List ℕ) → words ≡ first ∷ rest → joined (with_first b words) ≡ b ∷ joined words
unfolding joined
first_joined b words rest first some = rw some refl

-- a line is its words
pub joined-words_of : (bytes : List ℕ) → joined (words_of bytes) ≡ bytes
unfolding words_of joined
joined-words_of [] = refl
joined-words_of (b ∷ bytes) =
    let some = some_words bytes in
    elim (eqb_tells b 32) [
      | inl same ↦
          rw same.0
          (blank_joined (words_of bytes) some.1 some.0 some.2 ∙ ap (λ xs. 32 ∷ xs) (joined-words_of bytes) ∙ ap (λ x. x ∷ bytes) (sym same.1))
      | inr other ↦
          rw other.0 (first_joined b (words_of bytes) some.1 some.0 some.2 ∙ ap (λ xs. b ∷ xs) (joined-words_of bytes))
    ]

words_of-append : (word rest : List ℕ) (words : List (List ℕ)) → IsWord word → words_of rest ≡ [] ∷ words → words_of (word ++ rest) ≡ word ∷ words
unfolding words_of
words_of-append [] rest words is given = given
words_of-append (b ∷ word) rest words is given =
    let above = is.0 in
    let other = ne_eqb b 32 (λ same. omega arith) in
    rw other (ap (with_first b) (words_of-append word rest words is.1 given))

words_of-spaced : (words : List (List ℕ)) → AllByRecursion IsWord words → words_of (flat_map spaced words) ≡ [] ∷ words
unfolding words_of
words_of-spaced [] are = refl
words_of-spaced (word ∷ words) are =
    ap (λ ws. [] ∷ ws) (words_of-append word (flat_map spaced words) words are.0 (words_of-spaced words are.1))

-- the words of a line are found again
pub words_of-joined : (word : List ℕ) (words : List (List ℕ)) → AllByRecursion IsWord (word ∷ words) → words_of (joined (word ∷ words)) ≡ word ∷ words
unfolding joined
words_of-joined word words are = words_of-append word (flat_map spaced words) words are.0 (words_of-spaced words are.1)

free_spaced : (words : List (List ℕ)) → AllByRecursion IsWord words → IsFree 10 (flat_map spaced words)
free_spaced [] are = tt
free_spaced (word ∷ words) are =
    (omega arith, free-append 10 word (flat_map spaced words) (free_word 10 word (lit< tt) are.0) (free_spaced words are.1))

-- no line feed is among words and blanks
pub free_joined : (words : List (List ℕ)) → AllByRecursion IsWord words → IsFree 10 (joined words)
unfolding joined
free_joined [] are = tt
free_joined (word ∷ words) are =
    free-append 10 word (flat_map spaced words) (free_word 10 word (lit< tt) are.0) (free_spaced words are.1)
