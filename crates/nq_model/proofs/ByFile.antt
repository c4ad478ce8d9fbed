-- What is in a list in order of files after one more, or several of a file, were put there.
use Rattle.std.proofs.Common.{◌≡◌, ◌≢◌, ◌<◌, ◌≤◌, ℕ, Bool, true, false, not, ◌==◌, List, [], ◌∷◌, ◌++◌, Option, Some, None, nat_lt, nat_le}
use Rattle.std.proofs.Common.{if◌then◌else◌, refl, sym, ap, ◌∙◌, append-nil, arith}
use Rattle.std.specs.List.{find, filter}
use Rattle.std.proofs.lemmas.Bool.Decides.{nat_tests}
use Rattle.std.proofs.lemmas.List.Elements.{filter-append}
use Rattle.nq_model.proofs.Finding.{same-number, number-same, number-other, filter-within, filter-apart}
use Rattle.nq_model.specs.protocol.ByFile.{insert_by, up_to, past, add_by}
use Rattle.nq_model.specs.laws.Journal.{Each}

abbrev found : {A : Type 0} → (A → ℕ) → ℕ → List A → Option A
found file_of file xs = find (λ x. file_of x == file) xs

inserted-step : {A : Type 0} (file_of : A → ℕ) (x y : A) (file : ℕ) (ys : List A) (b c : Bool) → (file_of x == file) ≡ true → (file_of y == file) ≡ c
    → (found file_of file ys ≡ None → found file_of file (insert_by file_of x ys) ≡ Some x) → (if c then Some y else found file_of file ys) ≡ None
    → found file_of file (if b then x ∷ y ∷ ys else y ∷ insert_by file_of x ys) ≡ Some x
inserted-step file_of x y file ys true c here f rest none = rw here refl
inserted-step file_of x y file ys false true here f rest none = cc
inserted-step file_of x y file ys false false here f rest none = rw f (rest none)

-- what is put is found under its file, where nothing was
pub find-inserted : {A : Type 0} (file_of : A → ℕ) (x : A) (file : ℕ) (xs : List A) → file ≡ file_of x → found file_of file xs ≡ None
    → found file_of file (insert_by file_of x xs) ≡ Some x
find-inserted file_of x file [] e none = rw (number-same (file_of x) file (sym e)) refl
find-inserted file_of x file (y ∷ ys) e none = inserted-step file_of x y file ys (nat_lt (file_of x) (file_of y)) (file_of y == file)
    (number-same (file_of x) file (sym e)) refl (find-inserted file_of x file ys e) none

besides-step : {A : Type 0} (file_of : A → ℕ) (x y : A) (other : ℕ) (ys : List A) (b : Bool) → (file_of x == other) ≡ false
    → found file_of other (insert_by file_of x ys) ≡ found file_of other ys → found file_of other (if b then x ∷ y ∷ ys else y ∷ insert_by file_of x
    ys) ≡ found file_of other (y ∷ ys)
besides-step file_of x y other ys true away rest = rw away refl
besides-step file_of x y other ys false away rest = rw rest refl

-- and the others are found as before
pub find-besides : {A : Type 0} (file_of : A → ℕ) (x : A) (other : ℕ) (xs : List A) → other ≢ file_of x → found file_of other (insert_by file_of x xs)
    ≡ found file_of other xs
find-besides file_of x other [] apart = rw (number-other (file_of x) other (λ e. apart (sym e))) refl
find-besides file_of x other (y ∷ ys) apart = besides-step file_of x y other ys (nat_lt (file_of x) (file_of y)) (number-other (file_of x) other
    (λ e. apart (sym e))) (find-besides file_of x other ys apart)

-- ---- several elements of a file

abbrev pub of_file : {A : Type 0} → (A → ℕ) → ℕ → List A → List A
of_file file_of file xs = filter (λ x. file_of x == file) xs

none-of : {A : Type 0} (file_of : A → ℕ) (file g : ℕ) (xs : List A) → g ≢ file → Each (λ x. file_of x ≡ file) xs → of_file file_of g xs ≡ []
none-of file_of file g [] apart all = refl
none-of file_of file g (x ∷ xs) apart all = rw (number-other (file_of x) g (λ e. apart (sym e ∙ all.0))) (none-of file_of file g xs apart all.1)

module _ {A : Type 0} (file_of : A → ℕ) (file g : ℕ) (more xs : List A) where
  parts : of_file file_of g (add_by file_of file more xs) ≡ of_file file_of g (up_to file_of file xs) ++ of_file file_of g more ++ of_file file_of g
      (past file_of file xs)
  parts =
      filter-append (λ x. file_of x == g) (up_to file_of file xs ++ more) (past file_of file xs)
      ∙ ap (λ ys. ys ++ of_file file_of g (past file_of file xs)) (filter-append (λ x. file_of x == g) (up_to file_of file xs) more)

  early : g ≤ file → of_file file_of g (add_by file_of file more xs) ≡ of_file file_of g xs ++ of_file file_of g more
  early below =
      let before : of_file file_of g (up_to file_of file xs) ≡ of_file file_of g xs = filter-within (λ x. file_of x == g)
      (λ x. nat_le (file_of x) file) xs (λ x e. let same : file_of x ≡ g = same-number (file_of x) g e in grind (arith, nat_tests)) in
      let after : of_file file_of g (past file_of file xs) ≡ [] = filter-apart (λ x. file_of x == g) (λ x. not (nat_le (file_of x) file)) xs
      (λ x e. let same : file_of x ≡ g = same-number (file_of x) g e in grind (arith, nat_tests)) in
      parts ∙ rw (before, after) (append-nil (of_file file_of g xs ++ of_file file_of g more))

  late : file < g → of_file file_of g more ≡ [] → of_file file_of g (add_by file_of file more xs) ≡ of_file file_of g xs ++ of_file file_of g more
  late above none =
      let before : of_file file_of g (up_to file_of file xs) ≡ [] = filter-apart (λ x. file_of x == g) (λ x. nat_le (file_of x) file) xs
      (λ x e. let same : file_of x ≡ g = same-number (file_of x) g e in grind (arith, nat_tests)) in
      let after : of_file file_of g (past file_of file xs) ≡ of_file file_of g xs = filter-within (λ x. file_of x == g)
      (λ x. not (nat_le (file_of x) file)) xs (λ x e. let same : file_of x ≡ g = same-number (file_of x) g e in grind (arith, nat_tests)) in
      parts ∙ rw (before, after, none) (sym (append-nil (of_file file_of g xs)))

  -- of each file those that come go behind those that are there
  pub of-added : Each (λ x. file_of x ≡ file) more → of_file file_of g (add_by file_of file more xs) ≡ of_file file_of g xs ++ of_file file_of g more
  of-added all = step (nat_le g file) refl
    where
      step : (b : Bool) → nat_le g file ≡ b → of_file file_of g (add_by file_of file more xs) ≡ of_file file_of g xs ++ of_file file_of g more
      step true e = early (let below : g ≤ file = grind (arith, nat_tests) in below)
      step false e = let above : file < g = grind (arith, nat_tests) in late above (none-of file_of file g more (λ same. omega arith) all)
