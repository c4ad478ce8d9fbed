-- What is found in the rows of an image is found among its files in order of their ids.
use Rattle.std.proofs.Common.{◌≡◌, ◌≢◌, ◌≤◌, ◌<◌, ◌+◌, ◌==◌, ◌&&◌, ℕ, zero, suc, Bool, true, false, List, [], ◌∷◌, Option, Some, None, get_or, length}
use Rattle.std.proofs.Common.{if◌then◌else◌, refl, sym, ap, subst, ◌∙◌, inl, inr, arith}
use Rattle.std.specs.List.{All, find, position, position_or_len, slice_get, sum_by}
use Rattle.std.specs.Prelude.{nat_lt}
use Rattle.std.proofs.lemmas.Bool.{cases_lt}
use Rattle.std.proofs.lemmas.Bool.Decides.{nat_tests}
use Rattle.std.proofs.lemmas.List.Elements.{All-cons, All-nil, All-head, All-tail}
use Rattle.std.proofs.lemmas.List.Folds.{find_at}
use Rattle.std.proofs.lemmas.List.Sums.{sum_by-cons}
use Rattle.std.proofs.lemmas.Option.{slice_get_past}
use Rattle.nq_image.specs.Standing.{PlacedFile, put_file, with_rows}
use Rattle.nq_plan.specs.Finding.{file_in, nearer, nearest}

-- ---- a row that is found

abbrev pub joined : {X : Type 0} → Option (Option X) → Option X
joined None = None
joined (Some o) = o

get-some : {X : Type 0} (xs : List X) (i : ℕ) (d : X) → i < length xs → slice_get xs i ≡ Some (get_or xs i d)
get-some [] i d lt = absurd (omega arith)
get-some (x ∷ xs) zero d lt = refl
get-some (x ∷ xs) (suc i) d lt = get-some xs i d (omega arith)

lt-true : (m n : ℕ) → m < n → nat_lt m n ≡ true
lt-true m n lt = grind (arith, nat_tests)

lt-false : (m n : ℕ) → n ≤ m → nat_lt m n ≡ false
lt-false m n le = grind (arith, nat_tests)

-- what stands in the row of a position is what a search finds
pub row-found : (q : Option PlacedFile → Bool) (rows : List (Option PlacedFile)) → file_in rows (position q rows) ≡ joined (find q rows)
row-found q rows =
    let n = position_or_len q rows in
    let Found : Bool → Type 0 = λ b. file_in rows (if b then Some n else None) ≡ joined (slice_get rows n) in
    let by : Found (nat_lt n (length rows)) = elim (cases_lt n (length rows)) [
      | inl lt ↦ subst Found (sym (lt-true n (length rows) lt)) (sym (ap joined (get-some rows n None lt)))
      | inr le ↦ subst Found (sym (lt-false n (length rows) le)) (sym (ap joined (slice_get_past rows n le)))
    ] in
    by ∙ sym (ap joined (find_at q rows))

-- ---- a file put among files

module _ (p : PlacedFile → Bool) where
  -- the search among a file and others
  pub find-first : (x : PlacedFile) (files : List PlacedFile) → p x ≡ true → find p (x ∷ files) ≡ Some x
  find-first x files is = ap (λ (b : Bool). if b then Some x else find p files) is

  pub find-later : (x : PlacedFile) (files : List PlacedFile) → p x ≡ false → find p (x ∷ files) ≡ find p files
  find-later x files is = ap (λ (b : Bool). if b then Some x else find p files) is

  pub all-put : (P : PlacedFile → Type 0) (x : PlacedFile) (files : List PlacedFile) → P x → All P files → All P (put_file x files)
  all-put P x [] own all = All-cons P x [] own (All-nil P)
  all-put P x (f ∷ files) own all = either (nat_lt x.id f.id) (All-cons P x (f ∷ files) own all) (All-cons P f (put_file x files)
      (All-head P f files all) (all-put P x files own (All-tail P f files all)))
    where
      either : (b : Bool) → All P (x ∷ f ∷ files) → All P (f ∷ put_file x files) → All P (if b then x ∷ f ∷ files else f ∷ put_file x files)
      either true a c = a
      either false a c = c

  -- none of these is found
  abbrev pub Misses : PlacedFile → Type 0
  Misses f = p f ≡ false

  find-none : (files : List PlacedFile) → All Misses files → find p files ≡ None
  find-none [] all = refl
  find-none (f ∷ files) all = find-later f files (All-head Misses f files all) ∙ find-none files (All-tail Misses f files all)

  -- one that is not sought makes no difference
  put-other : (y : PlacedFile) (files : List PlacedFile) → p y ≡ false → find p (put_file y files) ≡ find p files
  put-other y [] other = find-later y [] other
  put-other y (f ∷ files) other = by (nat_lt y.id f.id) (p f) refl (put-other y files other)
    where
      by : (b c : Bool) → p f ≡ c → find p (put_file y files) ≡ find p files → find p (if b then y ∷ f ∷ files else f ∷ put_file y files) ≡ find p (f ∷ files)
      by true c is more = find-later y (f ∷ files) other
      by false true is more = find-first f (put_file y files) is ∙ sym (find-first f files is)
      by false false is more = find-later f (put_file y files) is ∙ more ∙ sym (find-later f files is)

  -- the one that is sought is found
  put-sought : (x : PlacedFile) (files : List PlacedFile) → p x ≡ true → All Misses files → find p (put_file x files) ≡ Some x
  put-sought x [] is all = find-first x [] is
  put-sought x (f ∷ files) is all = by (nat_lt x.id f.id) (put-sought x files is (All-tail Misses f files all))
    where
      by : (b : Bool) → find p (put_file x files) ≡ Some x → find p (if b then x ∷ f ∷ files else f ∷ put_file x files) ≡ Some x
      by true more = find-first x (f ∷ files) is
      by false more = find-later f (put_file x files) (All-head Misses f files all) ∙ more

  -- a test of rows that is that of their files
  module _ (q : Option PlacedFile → Bool) (none : q None ≡ false) (some : (f : PlacedFile) → q (Some f) ≡ p f) where
    abbrev pub MissesRow : Option PlacedFile → Type 0
    MissesRow row = q row ≡ false

    -- at most one row is sought
    abbrev pub IsOne : List (Option PlacedFile) → Type 0
    IsOne [] = Unit {0}
    IsOne (row ∷ rows) = (q row ≡ true → All MissesRow rows) × IsOne rows

    row-first : (row : Option PlacedFile) (rows : List (Option PlacedFile)) → q row ≡ true → find q (row ∷ rows) ≡ Some row
    row-first row rows is = ap (λ (b : Bool). if b then Some row else find q rows) is

    row-later : (row : Option PlacedFile) (rows : List (Option PlacedFile)) → q row ≡ false → find q (row ∷ rows) ≡ find q rows
    row-later row rows is = ap (λ (b : Bool). if b then Some row else find q rows) is

    -- rows that are not sought make no difference
    rows-other : (rows : List (Option PlacedFile)) (files : List PlacedFile) → All MissesRow rows → find p (with_rows files rows) ≡ find p files
    unfolding with_rows
    rows-other [] files all = refl
    rows-other (None ∷ rows) files all = rows-other rows files (All-tail MissesRow None rows all)
    rows-other (Some y ∷ rows) files all =
        rows-other rows (put_file y files) (All-tail MissesRow (Some y) rows all)
        ∙ put-other y files (sym (some y) ∙ All-head MissesRow (Some y) rows all)

    pub rows-found : (rows : List (Option PlacedFile)) (files : List PlacedFile) → All Misses files → IsOne rows → find p (with_rows files rows)
        ≡ joined (find q rows)
    unfolding with_rows
    rows-found [] files all one = find-none files all
    rows-found (None ∷ rows) files all one = rows-found rows files all one.1 ∙ sym (ap joined (row-later None rows none))
    rows-found (Some x ∷ rows) files all one = by (p x) refl (λ is. rows-found rows (put_file x files) (all-put Misses x files is all) one.1)
      where
        by : (b : Bool) → p x ≡ b → (p x ≡ false → find p (with_rows (put_file x files) rows) ≡ joined (find q rows))
            → find p (with_rows (put_file x files) rows) ≡ joined (find q (Some x ∷ rows))
        by true is more =
            rows-other rows (put_file x files) (one.0 (some x ∙ is))
            ∙ put-sought x files is all
            ∙ sym (ap joined (row-first (Some x) rows (some x ∙ is)))
        by false is more =
            more is
            ∙ sym (ap joined (row-later (Some x) rows (some x ∙ is)))

    -- what stands in the row that is sought is the file that is sought
    pub in-order : (rows : List (Option PlacedFile)) → IsOne rows → file_in rows (position q rows) ≡ find p (with_rows [] rows)
    in-order rows one = row-found q rows ∙ sym (rows-found rows [] (All-nil Misses) one)

-- ---- the next file

-- of a file and the nearest so far the nearer one above an id
abbrev pub closer : (after : ℕ) → PlacedFile → Option PlacedFile → Option PlacedFile
closer after f None = if nat_lt after f.id then Some f else None
closer after f (Some g) = if nat_lt after f.id && nat_lt f.id g.id then Some f else Some g

abbrev pub id_if : Option PlacedFile → Option ℕ
id_if None = None
id_if (Some f) = Some f.id

lt-of : (m n : ℕ) → nat_lt m n ≡ true → m < n
lt-of m n h = grind (arith, nat_tests)

ge-of : (m n : ℕ) → nat_lt m n ≡ false → n ≤ m
ge-of m n h = grind (arith, nat_tests)

and-false : (a b : Bool) → b ≡ false → (a && b) ≡ false
and-false true b is = is
and-false false b is = refl

module _ (after : ℕ) where
  abbrev pub above : PlacedFile → Bool
  above f = nat_lt after f.id

  -- a file that is not above is none to be found
  closer-below : (f : PlacedFile) (o : Option PlacedFile) → nat_lt after f.id ≡ false → closer after f o ≡ o
  closer-below f None is = ap (λ (b : Bool). if b then Some f else None) is
  closer-below f (Some g) is = ap (λ (b : Bool). if b && nat_lt f.id g.id then Some f else Some g) is

  closer-above : (f g : PlacedFile) → nat_lt after f.id ≡ true → nat_lt f.id g.id ≡ true → closer after f (Some g) ≡ Some f
  closer-above f g one two = ap (λ (b : Bool). if b && nat_lt f.id g.id then Some f else Some g) one ∙ ap (λ (b : Bool). if b then Some f else Some g) two

  closer-later : (f g : PlacedFile) → nat_lt f.id g.id ≡ false → closer after f (Some g) ≡ Some g
  closer-later f g is = ap (λ (b : Bool). if b then Some f else Some g) (and-false (nat_lt after f.id) (nat_lt f.id g.id) is)

  put-closer : (f : PlacedFile) (files : List PlacedFile) → find above (put_file f files) ≡ closer after f (find above files)
  put-closer f [] = refl
  put-closer f (g ∷ gs) = by (nat_lt f.id g.id) (nat_lt after f.id) (nat_lt after g.id) refl refl refl (put-closer f gs)
    where
      by : (a b c : Bool) → nat_lt f.id g.id ≡ a → nat_lt after f.id ≡ b → nat_lt after g.id ≡ c → find above (put_file f gs) ≡ closer after f
          (find above gs) → find above (if a then f ∷ g ∷ gs else g ∷ put_file f gs) ≡ closer after f (find above (g ∷ gs))
      by true true true a b c more =
          find-first above f (g ∷ gs) b ∙ sym (closer-above f g b a) ∙ ap (λ (o : Option PlacedFile). closer after f o) (sym (find-first above g gs c))
      by true true false a b c more = let p = lt-of f.id g.id a in let q = lt-of after f.id b in let r = ge-of after g.id c in absurd (omega arith)
      by true false c a b is more = find-later above f (g ∷ gs) b ∙ sym (closer-below f (find above (g ∷ gs)) b)
      by false b true a is c more =
          find-first above g (put_file f gs) c ∙ sym (closer-later f g a) ∙ ap (λ (o : Option PlacedFile). closer after f o) (sym (find-first above g gs c))
      by false b false a is c more =
          find-later above g (put_file f gs) c ∙ more ∙ ap (λ (o : Option PlacedFile). closer after f o) (sym (find-later above g gs c))

  -- the same of ids
  nearer-zero : (best : Option ℕ) → nearer after 0 best ≡ best
  nearer-zero None = ap (λ (b : Bool). if b then Some 0 else None) (lt-false after 0 (omega arith))
  nearer-zero (Some n) = ap (λ (b : Bool). if b && nat_lt 0 n then Some 0 else Some n) (lt-false after 0 (omega arith))

  nearer-one : (f : PlacedFile) (o : Option PlacedFile) → nearer after f.id (id_if o) ≡ id_if (closer after f o)
  nearer-one f None = by (nat_lt after f.id)
    where
      by : (b : Bool) → (if b then Some f.id else None) ≡ id_if (if b then Some f else None)
      by true = refl
      by false = refl
  nearer-one f (Some g) = by (nat_lt after f.id && nat_lt f.id g.id)
    where
      by : (b : Bool) → (if b then Some f.id else Some g.id) ≡ id_if (if b then Some f else Some g)
      by true = refl
      by false = refl

  pub rows-nearest : (rows : List (Option PlacedFile)) (files : List PlacedFile) → nearest after (id_if (find above files)) rows
      ≡ id_if (find above (with_rows files rows))
  unfolding with_rows
  rows-nearest [] files = refl
  rows-nearest (None ∷ rows) files =
      ap (λ (best : Option ℕ). nearest after best rows) (nearer-zero (id_if (find above files))) ∙ rows-nearest rows files
  rows-nearest (Some f ∷ rows) files =
      ap (λ (best : Option ℕ). nearest after best rows) (nearer-one f (find above files) ∙ ap id_if (sym (put-closer f files)))
      ∙ rows-nearest rows (put_file f files)

  same-number : (n : ℕ) → (n == n) ≡ true
  same-number n = grind (arith, nat_tests)

  other-number : (m n : ℕ) → m ≢ n → (m == n) ≡ false
  other-number m n other = grind (arith, nat_tests)

  found-above : (files : List PlacedFile) (f : PlacedFile) → find above files ≡ Some f → after < f.id
  found-above [] f e = absurd (cc)
  found-above (g ∷ gs) f e = by (nat_lt after g.id) refl (λ rest. found-above gs f rest)
    where
      by : (b : Bool) → nat_lt after g.id ≡ b → (find above gs ≡ Some f → after < f.id) → after < f.id
      by true is more =
          let same : Some g ≡ Some f = sym (find-first above g gs is) ∙ e in
          let one : g ≡ f = cc in
          subst (λ (x : PlacedFile). after < x.id) one (lt-of after g.id is)
      by false is more = more (sym (find-later above g gs is) ∙ e)

  -- the first file above an id is the first of its own id
  pub found-again : (files : List PlacedFile) (f : PlacedFile) → find above files ≡ Some f → find (λ g. g.id == f.id) files ≡ Some f
  found-again [] f e = absurd (cc)
  found-again (g ∷ gs) f e = by (nat_lt after g.id) refl (λ rest. found-again gs f rest)
    where
      by : (b : Bool) → nat_lt after g.id ≡ b → (find above gs ≡ Some f → find (λ x. x.id == f.id) gs ≡ Some f) → find (λ x. x.id == f.id) (g ∷ gs) ≡ Some f
      by true is more =
          let same : Some g ≡ Some f = sym (find-first above g gs is) ∙ e in
          let one : g ≡ f = cc in
          let test : (g.id == f.id) ≡ true = subst (λ (x : PlacedFile). (g.id == x.id) ≡ true) one (same-number g.id) in
          find-first (λ x. x.id == f.id) g gs test ∙ same
      by false is more =
          let rest : find above gs ≡ Some f = sym (find-later above g gs is) ∙ e in
          let far = found-above gs f rest in
          let near = ge-of after g.id is in
          let test : (g.id == f.id) ≡ false = other-number g.id f.id (λ same. absurd (omega arith)) in
          find-later (λ x. x.id == f.id) g gs test ∙ more rest

-- ---- how many there are

put-sum : (v : PlacedFile → ℕ) (f : PlacedFile) (files : List PlacedFile) → sum_by v (put_file f files) ≡ v f + sum_by v files
put-sum v f [] = sum_by-cons v f []
put-sum v f (g ∷ gs) = by (nat_lt f.id g.id) (put-sum v f gs)
  where
    by : (b : Bool) → sum_by v (put_file f gs) ≡ v f + sum_by v gs → sum_by v (if b then f ∷ g ∷ gs else g ∷ put_file f gs) ≡ v f + sum_by v (g ∷ gs)
    by true more = sum_by-cons v f (g ∷ gs)
    by false more = let a = sum_by-cons v g (put_file f gs) in let c = sum_by-cons v g gs in omega (arith, more)

module _ (v : PlacedFile → ℕ) (w : Option PlacedFile → ℕ) (none : w None ≡ 0) (some : (f : PlacedFile) → w (Some f) ≡ v f) where
  pub rows-sum : (rows : List (Option PlacedFile)) (files : List PlacedFile) → sum_by v (with_rows files rows) ≡ sum_by v files + sum_by w rows
  unfolding with_rows
  rows-sum [] files = omega arith
  rows-sum (None ∷ rows) files = let a = rows-sum rows files in let b = sum_by-cons w None rows in omega (arith, none)
  rows-sum (Some f ∷ rows) files =
      let a = rows-sum rows (put_file f files) in
      let b = sum_by-cons w (Some f) rows in
      let c = put-sum v f files in
      let d = some f in
      omega arith

pub length-sum : (files : List PlacedFile) → length files ≡ sum_by (λ f. 1) files
length-sum [] = refl
length-sum (f ∷ files) = let a = sum_by-cons (λ (g : PlacedFile). 1) f files in let b = length-sum files in omega arith
