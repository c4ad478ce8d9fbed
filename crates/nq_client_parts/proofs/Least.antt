-- The least file of some rows that stand in order of files is that of the first.
use Rattle.std.proofs.Common.{◌≡◌, ◌<◌, ℕ, Bool, true, false, List, [], ◌∷◌, map, Option, Some, None, if◌then◌else◌, ◌==◌, nat_lt, refl, sym, subst}
use Rattle.std.proofs.Common.{◌∙◌, arith}
use Rattle.std.specs.List.{filter, find, AllByRecursion}
use Rattle.std.proofs.lemmas.Bool.Decides.{nat_tests}
use Rattle.nq_client_parts.specs.ByFile.{Ascends}
use Rattle.nq_model.specs.protocol.Send.{least, least_with}

module _ {A B : Type 0} (file_of : B → ℕ) (view : A → B) where
  -- the file of a row
  abbrev key : A → ℕ
  key x = file_of (view x)

  -- whether there is no number, or it is above this one
  abbrev IsAbove : ℕ → Option ℕ → Type 0
  IsAbove n None = Unit {0}
  IsAbove n (Some m) = n < m

  lesser : (n m j : ℕ) → n < m → n < j → n < (if nat_lt j m then j else m)
  lesser n m j a b = by (nat_lt j m)
    where
      by : (t : Bool) → n < (if t then j else m)
      by true = b
      by false = a

  above-with : (n m : ℕ) (o : Option ℕ) → n < m → IsAbove n o → IsAbove n (least_with m o)
  above-with n m None lt h = lt
  above-with n m (Some j) lt h = lesser n m j lt h

  not-below : (n m : ℕ) → n < m → nat_lt m n ≡ false
  not-below n m lt = grind (arith, nat_tests)

  with-above : (n : ℕ) (o : Option ℕ) → IsAbove n o → least_with n o ≡ Some n
  with-above n None h = refl
  with-above n (Some m) h = rw (not-below n m h) refl

  -- the least file of those rows that pass a test
  abbrev pub least_file : (B → Bool) → List A → Option ℕ
  least_file test rows = least (map file_of (filter test (map view rows)))

  above-step : (test : B → Bool) (n : ℕ) (row : A) (rows : List A) (b : Bool) → n < key row → IsAbove n (least_file test rows)
      → IsAbove n (least (map file_of (if b then view row ∷ filter test (map view rows) else filter test (map view rows))))
  above-step test n row rows true lt h = above-with n (key row) (least_file test rows) lt h
  above-step test n row rows false lt h = h

  above-all : (test : B → Bool) (n : ℕ) (rows : List A) → AllByRecursion (λ later. n < key later) rows → IsAbove n (least_file test rows)
  above-all test n [] h = tt
  above-all test n (row ∷ rows) h = above-step test n row rows (test (view row)) h.0 (above-all test n rows h.1)

  -- a first row that passes has the least file
  pub least-first : (test : B → Bool) (row : A) (rows : List A) → Ascends key (row ∷ rows) → test (view row) ≡ true → least_file test (row ∷ rows)
      ≡ Some (key row)
  least-first test row rows a e = rw e (with-above (key row) (least_file test rows) (above-all test (key row) rows a.0))

  above-files : (n : ℕ) (rows : List A) → AllByRecursion (λ later. n < key later) rows → IsAbove n (least (map file_of (map view rows)))
  above-files n [] h = tt
  above-files n (row ∷ rows) h = above-with n (key row) (least (map file_of (map view rows))) h.0 (above-files n rows h.1)

  -- the first row has the least file of all
  pub least-of_all : (row : A) (rows : List A) → Ascends key (row ∷ rows) → least (map file_of (map view (row ∷ rows))) ≡ Some (key row)
  least-of_all row rows a = with-above (key row) (least (map file_of (map view rows))) (above-files (key row) rows a.0)

  -- whether there is an element, and it passes a test
  abbrev pub passes : (B → Bool) → Option B → Bool
  passes test None = false
  passes test (Some x) = test x

  differs : (m n : ℕ) → m < n → (m == n) ≡ false
  differs m n lt = grind (arith, nat_tests)

  same : (m n : ℕ) → m ≡ n → (m == n) ≡ true
  same m n e = grind (arith, nat_tests)

  passes-step : (test : B → Bool) (row : A) (rows : List A) (file : ℕ) (b : Bool) → test (view row) ≡ b → IsAbove (key row) (least_file test rows)
      → least (map file_of (if b then view row ∷ filter test (map view rows) else filter test (map view rows))) ≡ Some file
      → (least_file test rows ≡ Some file → passes test (find (λ x. file_of x == file) (map view rows)) ≡ true)
      → passes test (find (λ x. file_of x == file) (map view (row ∷ rows))) ≡ true
  passes-step test row rows file true e above h next =
      let is : key row ≡ file = some-same (sym (with-above (key row) (least_file test rows) above) ∙ h) in
      rw (same (key row) file is) e
    where
      some-same : {m n : ℕ} → Some m ≡ Some n → m ≡ n
      some-same h = cc
  passes-step test row rows file false e above h next =
      let lt : key row < file = subst (λ (o : Option ℕ). IsAbove (key row) o) h above in
      rw (differs (key row) file lt) (next h)

  -- the row of the least file of those that pass passes
  pub least-passes : (test : B → Bool) (rows : List A) (file : ℕ) → Ascends key rows → least_file test rows ≡ Some file
      → passes test (find (λ x. file_of x == file) (map view rows)) ≡ true
  least-passes test [] file a h = absurd cc
  least-passes test (row ∷ rows) file a h =
      passes-step test row rows file (test (view row)) refl (above-all test (key row) rows a.0) h (least-passes test rows file a.1)
