-- A text is split into lines in one way, and goes wrong at one line.
use Rattle.std.proofs.Common.{◌≡◌, ◌⊎◌, inl, inr, ℕ, ◌==◌, ◌&&◌, not, Bool, true, List, [], ◌∷◌, ◌++◌, length, get_or, drop, refl, ap, sym, ◌∙◌}
use Rattle.std.proofs.Common.{arith, subst, append_assoc}
use Rattle.std.specs.List.{AllByRecursion}
use Rattle.std.proofs.lemmas.Bool.{and_parts, not-true, eqb-false}
use Rattle.std.proofs.lemmas.List.{append-nil}
use Rattle.std.proofs.lemmas.Option.{some_pair_parts}
use Rattle.nq_script.specs.WordsReading.{cut as cut_at}
use Rattle.nq_script.specs.Schedule.{Begins, GoesWrong}
use Rattle.nq_script.specs.Text.{Lacks, text_of}
use Rattle.nq_script.proofs.Cuts.{cut-again}
use Rattle.nq_script.proofs.Fitting.{each-back}

-- lists that are one have one first element, and the rest of one is that of the other
pub first-same : {A : Type 0} {x y : A} {xs ys : List A} → x ∷ xs ≡ y ∷ ys → x ≡ y
first-same {A} {x} e = ap (λ l. get_or l 0 x) e

pub rest-same : {A : Type 0} {x y : A} {xs ys : List A} → x ∷ xs ≡ y ∷ ys → xs ≡ ys
rest-same e = ap (λ l. drop 1 l) e

pub nil-cons : {A : Type 0} {x : A} {xs : List A} → [] ≡ x ∷ xs → ⊥
nil-cons {A} {x} {xs} e = let long = ap length e in absurd (omega arith)

-- a list with an element is not empty
pub not-nil : {A : Type 0} (xs : List A) (y : A) (ys : List A) → xs ++ y ∷ ys ≡ [] → ⊥
not-nil [] y ys e = nil-cons (sym e)
not-nil (x ∷ xs) y ys e = nil-cons (sym e)

-- of two parts with which one list begins, the one begins the other
pub parts : {A : Type 0} (xs ys more more' : List A) → xs ++ more ≡ ys ++ more'
    → ((part : List A) × (ys ≡ xs ++ part)) ⊎ ((part : List A) × (xs ≡ ys ++ part))
parts [] ys more more' e = inl (ys, refl)
parts (x ∷ xs) [] more more' e = inr (x ∷ xs, refl)
parts {A = A} (x ∷ xs) (y ∷ ys) more more' e = behind (first-same e) (parts xs ys more more' (rest-same e)) where
  behind : x ≡ y → ((part : List A) × (ys ≡ xs ++ part)) ⊎ ((part : List A) × (xs ≡ ys ++ part))
      → ((part : List A) × (y ∷ ys ≡ x ∷ xs ++ part)) ⊎ ((part : List A) × (x ∷ xs ≡ y ∷ ys ++ part))
  behind same (inl p) = inl (p.0, rw (same, p.1) refl)
  behind same (inr p) = inr (p.0, rw (same, p.1) refl)

-- whether a byte stands nowhere in a text, as a test
abbrev pub lacks : ℕ → List ℕ → Bool
lacks at [] = true
lacks at (b ∷ text) = not (b == at) && lacks at text

pub lacks-tested : (at : ℕ) (text : List ℕ) → lacks at text ≡ true → Lacks at text
lacks-tested at [] t = tt
lacks-tested at (b ∷ text) t =
    let parts = and_parts (not (b == at)) (lacks at text) t in
    (eqb-false b at (not-true (b == at) parts.0), lacks-tested at text parts.1)

pub lacks-append : (at : ℕ) (xs ys : List ℕ) → Lacks at xs → Lacks at ys → Lacks at (xs ++ ys)
lacks-append at [] ys a b = b
lacks-append at (x ∷ xs) ys a b = (a.0, lacks-append at xs ys a.1 b)

-- two ways to split a text after its first line are one
pub next-line : (line line' rest rest' : List ℕ) → Lacks 10 line → Lacks 10 line' → line ++ 10 ∷ rest ≡ line' ++ 10 ∷ rest'
    → (line ≡ line') × (rest ≡ rest')
next-line line line' rest rest' a b e =
    some_pair_parts line line' rest rest' (sym (cut-again 10 line rest a) ∙ ap (cut_at 10) e ∙ cut-again 10 line' rest' b)

-- of two lists of lines with which a text begins, the one begins the other
abbrev pub Splits : (xs ys : List (List ℕ)) → (rest rest' : List ℕ) → Type 0
Splits xs ys rest rest' =
    ((more : List (List ℕ)) × (ys ≡ xs ++ more) × (rest ≡ text_of more ++ rest'))
    ⊎ ((more : List (List ℕ)) × (xs ≡ ys ++ more) × (rest' ≡ text_of more ++ rest))

splits-more : (x y : List ℕ) (xs ys : List (List ℕ)) (rest rest' : List ℕ) → x ≡ y → Splits xs ys rest rest' → Splits (x ∷ xs) (y ∷ ys) rest rest'
splits-more x y xs ys rest rest' same (inl s) = inl (s.0, rw (same, s.1) refl, s.2)
splits-more x y xs ys rest rest' same (inr s) = inr (s.0, rw (same, s.1) refl, s.2)

pub splits : (xs ys : List (List ℕ)) (rest rest' : List ℕ) → AllByRecursion (Lacks 10) xs → AllByRecursion (Lacks 10) ys
    → text_of xs ++ rest ≡ text_of ys ++ rest' → Splits xs ys rest rest'
splits [] ys rest rest' a b e = inl (ys, refl, e)
splits (x ∷ xs) [] rest rest' a b e = inr (x ∷ xs, refl, sym e)
splits (x ∷ xs) (y ∷ ys) rest rest' a b e =
    let same = next-line x y (text_of xs ++ rest) (text_of ys ++ rest') a.0 b.0
    (sym (append_assoc x (10 ∷ text_of xs) rest) ∙ e ∙ append_assoc y (10 ∷ text_of ys) rest') in
    splits-more x y xs ys rest rest' same.0 (splits xs ys rest rest' a.1 b.1 same.1)

-- lines that begin such a list begin one with fewer at their end
pub begins-front : (Is : List (List ℕ) → Type 0) (xs : List (List ℕ)) (line : List ℕ) (ys : List (List ℕ))
    → Begins Is (xs ++ line ∷ ys) → Begins Is (xs ++ line ∷ [])
begins-front Is xs line ys begun = (
  ys ++ begun.0,
  subst Is (append_assoc xs (line ∷ ys) begun.0 ∙ sym (append_assoc xs (line ∷ []) (ys ++ begun.0))) begun.1,
)

-- where a text goes wrong, no more of its lines begin such a list
pub wrong-stuck : (Is : List (List ℕ) → Type 0) (Whole : List (List ℕ) → List ℕ → Type 0) (text : List ℕ) (number : ℕ)
    (w : GoesWrong Is Whole text number) (line : List ℕ) (more : List (List ℕ)) (rest : List ℕ) → AllByRecursion (Lacks 10) (line ∷ more)
    → w.rest ≡ text_of (line ∷ more) ++ rest → Begins Is (w.before ++ line ∷ more) → ⊥
wrong-stuck Is Whole text number w line more rest lines split begun =
    w.stuck line (text_of more ++ rest) (split ∙ append_assoc line (10 ∷ text_of more) rest) lines.0 (begins-front Is w.before line more begun)

wrong-order : (Is : List (List ℕ) → Type 0) (Whole : List (List ℕ) → List ℕ → Type 0) (text : List ℕ) (m n : ℕ)
    (v : GoesWrong Is Whole text m) (w : GoesWrong Is Whole text n) (more : List (List ℕ)) → w.before ≡ v.before ++ more
    → v.rest ≡ text_of more ++ w.rest → m ≡ n
wrong-order Is Whole text m n v w [] same split =
    let here = v.place in let there = w.place in
    let long : length w.before ≡ length v.before = ap length (same ∙ append-nil v.before) in omega arith
wrong-order Is Whole text m n v w (line ∷ more) same split =
    absurd (wrong-stuck Is Whole text m v line more w.rest
    (each-back (Lacks 10) v.before (line ∷ more) (subst (AllByRecursion (Lacks 10)) same w.lines))
    split (subst (λ xs. Begins Is xs) same w.begun))

-- a text goes wrong at one line
pub wrong-once : (Is : List (List ℕ) → Type 0) (Whole : List (List ℕ) → List ℕ → Type 0) (text : List ℕ) (m n : ℕ)
    → GoesWrong Is Whole text m → GoesWrong Is Whole text n → m ≡ n
wrong-once Is Whole text m n v w = by_order (splits v.before w.before v.rest w.rest v.lines w.lines (sym v.split ∙ w.split)) where
  by_order : Splits v.before w.before v.rest w.rest → m ≡ n
  by_order (inl s) = wrong-order Is Whole text m n v w s.0 s.1 s.2
  by_order (inr s) = sym (wrong-order Is Whole text n m w v s.0 s.1 s.2)
