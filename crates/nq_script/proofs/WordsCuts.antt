-- Cutting a text at the first byte of a kind, and a line into its words.
use Rattle.std.proofs.Common.{◌≡◌, ◌≢◌, ℕ, ◌+◌, ◌-◌, ◌<◌, ◌≤◌, List, [], ◌∷◌, ◌++◌, length, take, drop, get_or, Option, Some, None, option_map, Bool}
use Rattle.std.proofs.Common.{true, false, not, refl, ap, sym, ◌∙◌, inl, inr, append_assoc, append-nil, add-one, drop-cons, arith}
use Rattle.std.proofs.lemmas.Bool.{ne_eqb, eq-eqb}
use Rattle.std.proofs.lemmas.Bool.Decides.{eqb_tells}
use Rattle.std.proofs.lemmas.List.{take_more, take_all, drop_all, length-drop}
use Rattle.std.specs.Option.{is_some}
use Rattle.nq_script.specs.WordsReading.{cut, with_front, words_of, words_left, with_first, is_done}

-- at a byte of another kind the first part grows
pub cut_past : (stop b : ℕ) (bytes : List ℕ) → b ≢ stop → cut stop (b ∷ bytes) ≡ with_front (b ∷ []) (cut stop bytes)
unfolding cut
cut_past stop b bytes other = rw (ne_eqb b stop other) refl

-- at a byte of this kind it ends
pub cut_here : (stop b : ℕ) (bytes : List ℕ) → b ≡ stop → cut stop (b ∷ bytes) ≡ Some ([], bytes)
unfolding cut
cut_here stop b bytes same = rw (eq-eqb b stop same) refl

pub with_front-with_front : (xs ys : List ℕ) (parts : Option (List ℕ × List ℕ)) → with_front xs (with_front ys parts) ≡ with_front (xs ++ ys) parts
with_front-with_front xs ys None = refl
with_front-with_front xs ys (Some parts) = ap (λ zs. Some (zs, parts.1)) (sym (append_assoc xs ys parts.0))

-- what is left at a place begins with its byte
pub drop_at_place : (bytes : List ℕ) (place : ℕ) → place < length bytes → drop place bytes ≡ get_or bytes place 0 ∷ drop (place + 1) bytes
drop_at_place bytes place within = rw add-one (drop-cons bytes place 0 within)

-- a place with a byte of another kind
pub past : (stop : ℕ) (bytes : List ℕ) (place : ℕ) → place < length bytes → get_or bytes place 0 ≢ stop → with_front (take place bytes)
    (cut stop (drop place bytes)) ≡ with_front (take (place + 1) bytes) (cut stop (drop (place + 1) bytes))
past stop bytes place within other =
    let b = get_or bytes place 0 in
    let rest = drop (place + 1) bytes in
    ap (λ xs. with_front (take place bytes) (cut stop xs)) (drop_at_place bytes place within)
    ∙ ap (with_front (take place bytes)) (cut_past stop b rest other)
    ∙ with_front-with_front (take place bytes) (b ∷ []) (cut stop rest)
    ∙ ap (λ xs. with_front xs (cut stop rest)) (sym (take_more bytes place 0 within))

-- a place with a byte of this kind
pub here : (stop : ℕ) (bytes : List ℕ) (place : ℕ) → place < length bytes → get_or bytes place 0 ≡ stop → with_front (take place bytes)
    (cut stop (drop place bytes)) ≡ Some (take place bytes, drop (place + 1) bytes)
here stop bytes place within same =
    let rest = drop (place + 1) bytes in
    ap (λ xs. with_front (take place bytes) (cut stop xs)) (drop_at_place bytes place within)
    ∙ ap (with_front (take place bytes)) (cut_here stop (get_or bytes place 0) rest same)
    ∙ ap (λ xs. Some (xs, rest)) (append-nil (take place bytes))

-- the end
pub nowhere : (stop : ℕ) (bytes : List ℕ) (place : ℕ) → length bytes ≤ place → with_front (take place bytes) (cut stop (drop place bytes)) ≡ None
unfolding cut
nowhere stop bytes place over = ap (λ xs. with_front (take place bytes) (cut stop xs)) (drop_all place bytes over)

-- a slice to the end
pub to_end : (bytes : List ℕ) (from : ℕ) → take (length bytes - from) (drop from bytes) ≡ drop from bytes
to_end bytes from = take_all (length bytes - from) (drop from bytes) (omega (arith, length-drop from bytes))

-- the words of a line, by its first cut
abbrev pub words_by : List ℕ → Option (List ℕ × List ℕ) → List (List ℕ)
words_by line None = line ∷ []
words_by line (Some parts) = parts.0 ∷ words_of parts.1

words_by-more : (b : ℕ) (line : List ℕ) (words : List (List ℕ)) (parts : Option (List ℕ × List ℕ)) → words ≡ words_by line parts → with_first b words
    ≡ words_by (b ∷ line) (with_front (b ∷ []) parts)
words_by-more b line words None same = ap (with_first b) same
words_by-more b line words (Some parts) same = ap (with_first b) same

pub words_of-cut : (line : List ℕ) → words_of line ≡ words_by line (cut 32 line)
unfolding words_of cut
words_of-cut [] = refl
words_of-cut (b ∷ line) = elim (eqb_tells b 32) [
  | inl same ↦ rw same.0 refl
  | inr other ↦ rw other.0 (words_by-more b line (words_of line) (cut 32 line) (words_of-cut line))
]

-- a line has a word
with_first_some : (b : ℕ) (words : List (List ℕ)) → with_first b words ≡ [] → ⊥
with_first_some b [] none = cc
with_first_some b (word ∷ words) none = cc

pub words_of_some : (line : List ℕ) → words_of line ≡ [] → ⊥
unfolding words_of
words_of_some [] none = cc
words_of_some (b ∷ line) none = elim (eqb_tells b 32) [
  | inl same ↦ let e = rw same.0 at none in cc
  | inr other ↦ with_first_some b (words_of line) (rw other.0 at none)
]

-- whether no word is left
some_left : (words : List (List ℕ)) → (words ≡ [] → ⊥) → is_done words ≡ false
some_left [] some = absurd (some refl)
some_left (word ∷ words) some = refl

pub emptied : {X : Type 0} (f : X → List ℕ) (rest : Option X) (r : Bool) (now : List (List ℕ)) → words_left (option_map f rest) ≡ now → is_some rest
    ≡ not r → r ≡ is_done now
emptied f None true now left none = ap is_done left
emptied f None false now left none = cc
emptied f (Some line) true now left some = cc
emptied f (Some line) false now left some = sym (some_left (words_of (f line)) (words_of_some (f line))) ∙ ap is_done left

-- the words that are left, by the next cut
pub next_words : {X : Type 0} (f : X → List ℕ) (rest : Option X) (line : X) (now : List (List ℕ)) (parts : Option (List ℕ × List ℕ))
    → words_left (option_map f rest) ≡ now → rest ≡ Some line → parts ≡ cut 32 (f line) → now ≡ words_by (f line) parts
next_words f rest line now parts left some cuts =
    sym left ∙ ap (λ r. words_left (option_map f r)) some ∙ words_of-cut (f line) ∙ ap (words_by (f line)) (sym cuts)
