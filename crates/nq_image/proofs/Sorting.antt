-- The files of rows in order of their ids, once one row is another.
use Rattle.std.proofs.Common.{◌≡◌, ◌≢◌, ◌≤◌, ◌<◌, ◌==◌, ℕ, Bool, true, false, List, [], ◌∷◌, ◌++◌, Option, Some, None, map, if◌then◌else◌, refl, sym}
use Rattle.std.proofs.Common.{ap, ◌∙◌, arith}
use Rattle.std.specs.List.{All, filter}
use Rattle.std.specs.Prelude.{nat_lt, not}
use Rattle.std.proofs.lemmas.Bool.Decides.{nat_tests}
use Rattle.std.proofs.lemmas.List.Elements.{All-head, All-tail}
use Rattle.nq_image.specs.Standing.{PlacedFile, put_file, with_rows}
use Rattle.nq_image.proofs.Agreeing.{all-put}
use Rattle.nq_image.proofs.Numbering.{IsOtherId, not-equal}

-- ---- a file in two places of a list

lt-true : (m n : ℕ) → m < n → nat_lt m n ≡ true
lt-true m n lt = grind (arith, nat_tests)

lt-false : (m n : ℕ) → n ≤ m → nat_lt m n ≡ false
lt-false m n le = grind (arith, nat_tests)

lt-of : (m n : ℕ) → nat_lt m n ≡ true → m < n
lt-of m n h = grind (arith, nat_tests)

ge-of : (m n : ℕ) → nat_lt m n ≡ false → n ≤ m
ge-of m n h = grind (arith, nat_tests)

abbrev chosen : Bool → List PlacedFile → List PlacedFile → List PlacedFile
chosen b one two = if b then one else two

put-before : (x f : PlacedFile) (files : List PlacedFile) → x.id < f.id → put_file x (f ∷ files) ≡ x ∷ f ∷ files
put-before x f files lt = ap (λ (b : Bool). chosen b (x ∷ f ∷ files) (f ∷ put_file x files)) (lt-true x.id f.id lt)

put-after : (x f : PlacedFile) (files : List PlacedFile) → f.id ≤ x.id → put_file x (f ∷ files) ≡ f ∷ put_file x files
put-after x f files le = ap (λ (b : Bool). chosen b (x ∷ f ∷ files) (f ∷ put_file x files)) (lt-false x.id f.id le)

-- of two files with other ids the order in which they are put does not matter
module _ (x y : PlacedFile) (lt : x.id < y.id) where
  put-swap : (files : List PlacedFile) → put_file x (put_file y files) ≡ put_file y (put_file x files)
  put-swap [] = put-before x y [] lt ∙ sym (put-after y x [] (omega arith))
  put-swap (f ∷ files) = by (nat_lt x.id f.id) (nat_lt y.id f.id) refl refl (put-swap files)
    where
      by : (a b : Bool) → nat_lt x.id f.id ≡ a → nat_lt y.id f.id ≡ b → put_file x (put_file y files) ≡ put_file y (put_file x files)
          → put_file x (put_file y (f ∷ files)) ≡ put_file y (put_file x (f ∷ files))
      by true true a b more =
          ap (λ (l : List PlacedFile). put_file x l) (put-before y f files (lt-of y.id f.id b))
          ∙ put-before x y (f ∷ files) lt
          ∙ sym (ap (λ (l : List PlacedFile). put_file y l) (put-before x f files (lt-of x.id f.id a))
          ∙ put-after y x (f ∷ files) (omega arith)
          ∙ ap (λ (l : List PlacedFile). x ∷ l) (put-before y f files (lt-of y.id f.id b)))
      by true false a b more =
          ap (λ (l : List PlacedFile). put_file x l) (put-after y f files (ge-of y.id f.id b))
          ∙ put-before x f (put_file y files) (lt-of x.id f.id a)
          ∙ sym (ap (λ (l : List PlacedFile). put_file y l) (put-before x f files (lt-of x.id f.id a))
          ∙ put-after y x (f ∷ files) (omega arith)
          ∙ ap (λ (l : List PlacedFile). x ∷ l) (put-after y f files (ge-of y.id f.id b)))
      by false true a b more = let c = ge-of x.id f.id a in let d = lt-of y.id f.id b in absurd (omega (arith, lt))
      by false false a b more =
          ap (λ (l : List PlacedFile). put_file x l) (put-after y f files (ge-of y.id f.id b))
          ∙ put-after x f (put_file y files) (ge-of x.id f.id a)
          ∙ ap (λ (l : List PlacedFile). f ∷ l) more
          ∙ sym (ap (λ (l : List PlacedFile). put_file y l) (put-after x f files (ge-of x.id f.id a))
          ∙ put-after y f (put_file x files) (ge-of y.id f.id b))

put-either : (x y : PlacedFile) (files : List PlacedFile) → y.id ≢ x.id → put_file x (put_file y files) ≡ put_file y (put_file x files)
put-either x y files other = by (nat_lt x.id y.id) refl
  where
    by : (b : Bool) → nat_lt x.id y.id ≡ b → put_file x (put_file y files) ≡ put_file y (put_file x files)
    by true is = put-swap x y (lt-of x.id y.id is) files
    by false is = let le = ge-of x.id y.id is in let lt : y.id < x.id = omega arith in sym (put-swap y x lt files)

-- ---- the file of one row is put last

put-later : (x : PlacedFile) (rows : List (Option PlacedFile)) (files : List PlacedFile) → All (IsOtherId x.id) rows → with_rows (put_file x files)
    rows ≡ put_file x (with_rows files rows)
unfolding with_rows
put-later x [] files other = refl
put-later x (None ∷ rows) files other = put-later x rows files (All-tail (IsOtherId x.id) None rows other)
put-later x (Some y ∷ rows) files other =
    let ne = All-head (IsOtherId x.id) (Some y) rows other in
    ap (λ (l : List PlacedFile). with_rows l rows) (sym (put-either x y files ne)) ∙ put-later x rows (put_file y files) (All-tail (IsOtherId x.id)
    (Some y) rows other)

pub row-put : (x : PlacedFile) (front rest : List (Option PlacedFile)) (files : List PlacedFile) → All (IsOtherId x.id) rest
    → with_rows files (front ++ Some x ∷ rest) ≡ put_file x (with_rows files (front ++ rest))
unfolding with_rows
row-put x [] rest files other = put-later x rest files other
row-put x (None ∷ front) rest files other = row-put x front rest files other
row-put x (Some y ∷ front) rest files other = row-put x front rest (put_file y files) other

pub row-gone : (front rest : List (Option PlacedFile)) (files : List PlacedFile) → with_rows files (front ++ None ∷ rest) ≡ with_rows files (front ++ rest)
unfolding with_rows
row-gone [] rest files = refl
row-gone (None ∷ front) rest files = row-gone front rest files
row-gone (Some y ∷ front) rest files = row-gone front rest (put_file y files)

-- ---- what holds of each row

abbrev pub OfRow : (PlacedFile → Type 0) → Option PlacedFile → Type 0
OfRow P None = Unit {0}
OfRow P (Some file) = P file

pub of-rows : (P : PlacedFile → Type 0) (rows : List (Option PlacedFile)) (files : List PlacedFile) → All P files → All (OfRow P) rows
    → All P (with_rows files rows)
unfolding with_rows
of-rows P [] files done all = done
of-rows P (None ∷ rows) files done all = of-rows P rows files done (All-tail (OfRow P) None rows all)
of-rows P (Some x ∷ rows) files done all =
    of-rows P rows (put_file x files) (all-put P x files (All-head (OfRow P) (Some x) rows all) done) (All-tail (OfRow P) (Some x) rows all)

-- ---- a put among files with other ids

pub put-last : (x : PlacedFile) (files : List PlacedFile) → All (λ f. f.id < x.id) files → put_file x files ≡ files ++ x ∷ []
put-last x [] all = refl
put-last x (f ∷ files) all =
    let lt = All-head (λ g. g.id < x.id) f files all in
    put-after x f files (omega arith) ∙ ap (λ (l : List PlacedFile). f ∷ l) (put-last x files (All-tail (λ g. g.id < x.id) f files all))

same-id : (n : ℕ) → (n == n) ≡ true
same-id n = grind (arith, nat_tests)

-- the file of an id, with another in its place
abbrev pub replaced : PlacedFile → List PlacedFile → List PlacedFile
replaced x files = map (λ f. if f.id == x.id then x else f) files

one-replaced : (x f : PlacedFile) (b : Bool) → (f.id == x.id) ≡ b → b ≡ false → (if f.id == x.id then x else f) ≡ f
one-replaced x f b is never = ap (λ (c : Bool). if c then x else f) (is ∙ never)

none-replaced : (x : PlacedFile) (files : List PlacedFile) → All (λ f. f.id ≢ x.id) files → replaced x files ≡ files
none-replaced x [] all = refl
none-replaced x (f ∷ files) all =
    let own = one-replaced x f (f.id == x.id) refl (not-equal f.id x.id (λ e. All-head (λ g. g.id ≢ x.id) f files all (sym e))) in
    ap (λ (g : PlacedFile). g ∷ replaced x files) own ∙ ap (λ (l : List PlacedFile). f ∷ l) (none-replaced x files (All-tail (λ g. g.id ≢ x.id) f files all))

the-replaced : (was x : PlacedFile) → was.id ≡ x.id → (if was.id == x.id then x else was) ≡ x
the-replaced was x same =
    ap (λ (n : ℕ). if n == x.id then x else was) same ∙ ap (λ (c : Bool). if c then x else was) (same-id x.id)

pub put-replaced : (was x : PlacedFile) (files : List PlacedFile) → was.id ≡ x.id → All (λ f. f.id ≢ x.id) files → put_file x files
    ≡ replaced x (put_file was files)
put-replaced was x [] same all = ap (λ (g : PlacedFile). g ∷ []) (sym (the-replaced was x same))
put-replaced was x (f ∷ files) same all = by (nat_lt x.id f.id) refl (put-replaced was x files same (All-tail (λ g. g.id ≢ x.id) f files all))
  where
    own : (if f.id == x.id then x else f) ≡ f
    own = one-replaced x f (f.id == x.id) refl (not-equal f.id x.id (λ e. All-head (λ g. g.id ≢ x.id) f files all (sym e)))

    by : (b : Bool) → nat_lt x.id f.id ≡ b → put_file x files ≡ replaced x (put_file was files) → put_file x (f ∷ files)
        ≡ replaced x (put_file was (f ∷ files))
    by true is more =
        let lt = lt-of x.id f.id is in
        put-before x f files lt
        ∙ ap (λ (g : PlacedFile). g ∷ f ∷ files) (sym (the-replaced was x same))
        ∙ ap (λ (l : List PlacedFile). (if was.id == x.id then x else was) ∷ l) (sym (none-replaced x (f ∷ files) all))
        ∙ ap (λ (l : List PlacedFile). replaced x l) (sym (put-before was f files (omega arith)))
    by false is more =
        let le = ge-of x.id f.id is in
        put-after x f files le
        ∙ ap (λ (l : List PlacedFile). f ∷ l) more
        ∙ ap (λ (g : PlacedFile). g ∷ replaced x (put_file was files)) (sym own)
        ∙ ap (λ (l : List PlacedFile). replaced x l) (sym (put-after was f files (omega arith)))

-- the files without that of an id
abbrev pub without : ℕ → List PlacedFile → List PlacedFile
without id files = filter (λ f. not (f.id == id)) files
