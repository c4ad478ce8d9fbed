-- The file of an id, and of a name: in the rows of an image, and in what is kept.
use Rattle.std.proofs.Common.{◌≡◌, ◌≢◌, ◌≤◌, ◌<◌, ◌+◌, ◌==◌, ◌&&◌, ℕ, zero, suc, Bool, true, false, List, [], ◌∷◌, Option, Some, None, map, length}
use Rattle.std.proofs.Common.{get_or, if◌then◌else◌, refl, sym, ap, subst, ◌∙◌, arith}
use Rattle.std.specs.List.{All, position, position_or_len}
use Rattle.std.specs.Prelude.{nat_lt, not}
use Rattle.std.proofs.lemmas.Bool.Decides.{nat_tests}
use Rattle.std.proofs.lemmas.List.{get_or_past}
use Rattle.std.proofs.lemmas.List.Elements.{All-cons, All-head, All-nil, All-tail, All-weaker}
use Rattle.std.proofs.lemmas.List.Sums.{prefix_len_passes, prefix_len_stops}
use Rattle.nq_model.specs.protocol.Kept.{File, find_file, find_name}
use Rattle.nq_model.specs.protocol.Profile.{same_bytes}
use Rattle.nq_image.specs.Standing.{AreNumbered, PlacedFile, Standing, Stands, file_at, files_in, kept_at, put_file, row_at, with_rows}
use Rattle.nq_image.proofs.Owning.{rows-of, standing-apart}
use Rattle.nq_image.proofs.Retaining.{apart-ids, files-some, find-none, find-put, kept-files, others-apart, other-files}
use Rattle.nq_image.proofs.Sorting.{OfRow, of-rows}
use Rattle.nq_plan.specs.Finding.{has_id, slot_of}

-- ---- the first place at which a test passes

not-false : (b : Bool) → not b ≡ false → b ≡ true
not-false true h = refl
not-false false h = cc

not-true : (b : Bool) → not b ≡ true → b ≡ false
not-true true h = cc
not-true false h = refl

pub record PassesAt {X : Type 0} (p : X → Bool) (xs : List X) (n : ℕ) (d : X) : Type 0 where
  pub within : n < length xs
  pub passes : p (get_or xs n d) ≡ true

is-below : (m n : ℕ) → nat_lt m n ≡ true → m < n
is-below m n test = grind (arith, nat_tests)

is-above : (m n : ℕ) → nat_lt m n ≡ false → n ≤ m
is-above m n test = grind (arith, nat_tests)

module _ {X : Type 0} (p : X → Bool) (xs : List X) where
  some-at : (b : Bool) (n : ℕ) (d : X) → nat_lt (position_or_len p xs) (length xs) ≡ b → (if b then Some (position_or_len p xs) else None) ≡ Some n
      → PassesAt p xs n d
  some-at true n d test is =
      let e : position_or_len p xs ≡ n = cc in
      let lt = is-below (position_or_len p xs) (length xs) test in
      let Passes : ℕ → Type 0 = λ i. p (get_or xs i d) ≡ true in
      record {
        within = omega (arith, e, lt);
        passes = subst Passes e (not-false (p (get_or xs (position_or_len p xs) d)) (prefix_len_stops (λ x. not (p x)) xs d lt));
      }
  some-at false n d test is = absurd (cc)

  pub position-some : (n : ℕ) (d : X) → position p xs ≡ Some n → PassesAt p xs n d
  position-some n d is = some-at (nat_lt (position_or_len p xs) (length xs)) n d refl is

  none-at-all : (b : Bool) → nat_lt (position_or_len p xs) (length xs) ≡ b → (if b then Some (position_or_len p xs) else None) ≡ None
      → All (λ x. p x ≡ false) xs
  none-at-all true test is = absurd (cc)
  none-at-all false test is = λ k d lt.
      let le = is-above (position_or_len p xs) (length xs) test in
      not-true (p (get_or xs k d)) (prefix_len_passes (λ x. not (p x)) xs k d (omega (arith, lt, le)))

  pub position-none : position p xs ≡ None → All (λ x. p x ≡ false) xs
  position-none is = none-at-all (nat_lt (position_or_len p xs) (length xs)) refl is

-- ---- what holds of each file holds of each row

put-back-by : (P : PlacedFile → Type 0) (x f : PlacedFile) (files : List PlacedFile) → (All P (put_file x files) → P x × All P files) → (b : Bool)
    → All P (if b then x ∷ f ∷ files else f ∷ put_file x files) → P x × All P (f ∷ files)
put-back-by P x f files rest true all = (All-head P x (f ∷ files) all, All-tail P x (f ∷ files) all)
put-back-by P x f files rest false all =
    let more = rest (All-tail P f (put_file x files) all) in
    (more.0, All-cons P f files (All-head P f (put_file x files) all) more.1)

put-back : (P : PlacedFile → Type 0) (x : PlacedFile) (files : List PlacedFile) → All P (put_file x files) → P x × All P files
put-back P x [] all = (All-head P x [] all, All-nil P)
put-back P x (f ∷ files) all = put-back-by P x f files (λ a. put-back P x files a) (nat_lt x.id f.id) all

rows-back : (P : PlacedFile → Type 0) (rows : List (Option PlacedFile)) (files : List PlacedFile) → All P (with_rows files rows) → All P files
    × All (OfRow P) rows
unfolding with_rows
rows-back P [] files all = (all, All-nil (OfRow P))
rows-back P (None ∷ rows) files all = let more = rows-back P rows files all in (more.0, All-cons (OfRow P) None rows tt more.1)
rows-back P (Some x ∷ rows) files all =
    let more = rows-back P rows (put_file x files) all in
    let own = put-back P x files more.0 in
    (own.1, All-cons (OfRow P) (Some x) rows own.0 more.1)

pub each-row : (P : PlacedFile → Type 0) (s : Standing) → All P (files_in s) → All (OfRow P) s.rows
each-row P s all = (rows-back P s.rows [] all).1

pub each-file : (P : PlacedFile → Type 0) (s : Standing) → All (OfRow P) s.rows → All P (files_in s)
each-file P s all = of-rows P s.rows [] (All-nil P) all

-- ---- ids

none-past : (rows : List (Option PlacedFile)) (slot : ℕ) → length rows ≤ slot → get_or rows slot None ≡ None
none-past rows slot le = get_or_past rows slot None le

pub numbered-at : (rows : List (Option PlacedFile)) (first slot : ℕ) (f : PlacedFile) → AreNumbered first rows → get_or rows slot None ≡ Some f
    → f.slot ≡ first + slot
numbered-at [] first slot f n is = let e = none-past [] slot (omega arith) in absurd (cc)
numbered-at (None ∷ rows) first zero f n is = absurd (cc)
numbered-at (None ∷ rows) first (suc slot) f n is = let more = numbered-at rows (first + 1) slot f n is in omega (arith, more)
numbered-at (Some g ∷ rows) first zero f n is = let e : g.slot ≡ f.slot = cc in let own = n.0 in omega (arith, e, own)
numbered-at (Some g ∷ rows) first (suc slot) f n is = let more = numbered-at rows (first + 1) slot f n.1 is in omega (arith, more)

has-file : (id : ℕ) (row : Option PlacedFile) → has_id id row ≡ true → (f : PlacedFile) × (row ≡ Some f) × (f.id ≡ id)
has-file id None h = absurd (cc)
has-file id (Some f) h = (f, refl, grind (arith, nat_tests))

has-not : (id : ℕ) (row : Option PlacedFile) → has_id id row ≡ false → OfRow (λ f. f.id ≢ id) row
has-not id None h = tt
has-not id (Some f) h = other f.id id h
  where
    other : (m n : ℕ) → (m == n) ≡ false → m ≢ n
    other m n h = grind (arith, nat_tests)

-- a file that stands in a row is found by its id
pub found-at : (bytes : List ℕ) (s : Standing) (f : PlacedFile) → Stands bytes s → f.slot < 256 → row_at s f.slot ≡ Some f
    → find_file f.id (kept_at bytes s).files ≡ Some (file_at bytes f)
found-at bytes s f stands lt is =
    let can = standing-apart bytes s f stands lt is in
    let long = rows-of bytes s stands in
    let ids = apart-ids f _ can.apart in
    ap (λ (l : List File). find_file f.id l) (kept-files bytes s)
    ∙ ap (λ (l : List PlacedFile). find_file f.id (map (file_at bytes) l)) (files-some s f.slot (omega (arith, lt, long)) f is ids)
    ∙ find-put bytes f (other-files s f.slot) (others-apart s f.slot f.id ids)

-- an id that no row has is that of no file
pub none-at : (bytes : List ℕ) (s : Standing) (id : ℕ) → All (λ f. f.id ≢ id) (files_in s) → find_file id (kept_at bytes s).files ≡ None
none-at bytes s id all = ap (λ (l : List File). find_file id l) (kept-files bytes s) ∙ find-none bytes id (files_in s) all

-- no row has an id that is not found
pub row-has-not : (id : ℕ) (rows : List (Option PlacedFile)) → slot_of id rows ≡ None → All (OfRow (λ f. f.id ≢ id)) rows
row-has-not id rows is = All-weaker (λ row. has_id id row ≡ false) (OfRow (λ f. f.id ≢ id)) (λ row h. has-not id row h) rows
    (position-none (has_id id) rows is)

pub unknown-files : (s : Standing) (id : ℕ) → slot_of id s.rows ≡ None → All (λ f. f.id ≢ id) (files_in s)
unknown-files s id is =
    each-file (λ f. f.id ≢ id) s (row-has-not id s.rows is)

-- a row that has an id
pub record HasId (s : Standing) (id slot : ℕ) (was : PlacedFile) : Type 0 where
  pub within : was.slot < 256
  pub at : row_at s was.slot ≡ Some was
  pub own : was.id ≡ id
  pub here : was.slot ≡ slot

pub known-file : (bytes : List ℕ) (s : Standing) (id slot : ℕ) → Stands bytes s → slot_of id s.rows ≡ Some slot → (was : PlacedFile) × HasId s id slot was
known-file bytes s id slot stands is =
    let p = position-some (has_id id) s.rows slot None is in
    let f = has-file id (get_or s.rows slot None) p.passes in
    let number = numbered-at s.rows 0 slot f.0 stands.numbered f.1 in
    let e : f.0.slot ≡ slot = omega (arith, number) in
    let long = rows-of bytes s stands in
    let within = p.within in
    let At : ℕ → Type 0 = λ n. row_at s n ≡ Some f.0 in (
      f.0,
      record { within = omega (arith, e, within, long); at = subst At (sym e) f.1; own = f.2; here = e },
    )

-- ---- names

same-itself : (name : List ℕ) → same_bytes name name ≡ true
same-itself [] = refl
same-itself (x ∷ xs) = both (x == x) (same_bytes xs xs) (same-number x) (same-itself xs)
  where
    both : (a b : Bool) → a ≡ true → b ≡ true → (a && b) ≡ true
    both true b h k = k
    both false b h k = absurd (cc)

    same-number : (n : ℕ) → (n == n) ≡ true
    same-number n = grind (arith, nat_tests)

other-name : (one two : List ℕ) → same_bytes one two ≡ false → one ≢ two
other-name one two h e = let same = ap (λ (n : List ℕ). same_bytes n two) e ∙ same-itself two in absurd (cc)

pub name-of : (bytes : List ℕ) (f : PlacedFile) → (file_at bytes f).name ≡ f.name
unfolding file_at
name-of bytes f = refl

none-named-by : (bytes name : List ℕ) (f : PlacedFile) (files : List PlacedFile) → (find_name name (map (file_at bytes) files) ≡ None
    → All (λ g. g.name ≢ name) files) → (b : Bool) → same_bytes (file_at bytes f).name name ≡ b
    → (if b then Some (file_at bytes f) else find_name name (map (file_at bytes) files)) ≡ None → All (λ g. g.name ≢ name) (f ∷ files)
none-named-by bytes name f files rest true is h = absurd (cc)
none-named-by bytes name f files rest false is h =
    All-cons (λ g. g.name ≢ name) f files (other-name f.name name (sym (ap (λ (n : List ℕ). same_bytes n name) (name-of bytes f)) ∙ is)) (rest h)

none-named : (bytes name : List ℕ) (files : List PlacedFile) → find_name name (map (file_at bytes) files) ≡ None → All (λ f. f.name ≢ name) files
none-named bytes name [] h = All-nil (λ f. f.name ≢ name)
none-named bytes name (f ∷ files) h = none-named-by bytes name f files (λ r. none-named bytes name files r) (same_bytes (file_at bytes f).name name) refl h

pub unnamed-files : (bytes : List ℕ) (s : Standing) (name : List ℕ) → find_name name (kept_at bytes s).files ≡ None → All (λ f. f.name ≢ name) (files_in s)
unnamed-files bytes s name h =
    none-named bytes name (files_in s) (sym (ap (λ (l : List File). find_name name l) (kept-files bytes s)) ∙ h)
