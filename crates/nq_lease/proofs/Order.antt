-- Rows in order, and where each stands.
use Rattle.std.proofs.Common.{◌≡◌, ℕ, ◌+◌, ◌≤◌, ◌<◌, Bool, true, false, not, List, [], ◌∷◌, Some, None, if◌then◌else◌, suc, zero, get_or, set, length}
use Rattle.std.proofs.Common.{refl, sym, subst, ap, ◌∙◌, inl, inr, arith}
use Rattle.std.specs.List.{find, filter, prefix_len, insert}
use Rattle.std.specs.List.Sorted.{IsPartitionedBy, IsPartitionPoint}
use Rattle.std.specs.Fn.{Called, ComputesKey}
use Rattle.std.proofs.lemmas.List.Sorted.{IsPartitionPoint-from_clause}
use Rattle.std.proofs.lemmas.List.Sums.{prefix_len_is}
use denote.Param.Members.{Mut}
use denote.Ref.{Bor}
use Rattle.std.specs.Prelude.{nat_lt, nat_le}
use Rattle.std.proofs.lemmas.Bool.Decides.{nat_tests}
use Rattle.nq_base.specs.declared.Row.{Row}
use Rattle.nq_model.specs.protocol.Table.{is_row_of, find_row, drop_row, row_before, insert_row, put_row}
use Rattle.nq_lease.specs.Rows.{StandsBefore, AreInOrder, is_before}
use Rattle.nq_lease.proofs.Splits.{Passed, Split, decided, find-passed, filter-none}

-- ---- two rows

before-after : (a b c : Row) → row_before a b ≡ true → row_before b c ≡ true → row_before a c ≡ true
before-after a b c h k = grind (arith, nat_tests)

before-is-other : (file host : ℕ) (r : Row) → is_before file host r ≡ true → is_row_of file host r ≡ false
before-is-other file host r h = grind (arith, nat_tests)

behind-is-behind : (file host : ℕ) (a b : Row) → row_before a b ≡ true → is_before file host a ≡ false → (is_before file host b ≡ false)
    × (is_row_of file host b ≡ false)
behind-is-behind file host a b h k = (grind (arith, nat_tests), grind (arith, nat_tests))

-- a row that stands before the place of another does not stand behind it
pub not-behind : (row r : Row) → is_before row.file row.who.host r ≡ true → row_before row r ≡ false
not-behind row r h = grind (arith, nat_tests)

pub is-behind : (row r : Row) → is_before row.file row.who.host r ≡ false → is_row_of row.file row.who.host r ≡ false → row_before row r ≡ true
is-behind row r h k = grind (arith, nat_tests)

is-before-other : (row r : Row) → row_before row r ≡ false → is_row_of row.file row.who.host r ≡ false → row_before r row ≡ true
is-before-other row r h k = grind (arith, nat_tests)

-- ---- tests that hold up to a place

-- a test that holds of each row before one of which it holds
abbrev pub IsClosed : (Row → Bool) → Type 0
IsClosed p = (a b : Row) → row_before a b ≡ true → p b ≡ true → p a ≡ true

pub closed-before : (file host : ℕ) → IsClosed (is_before file host)
closed-before file host a b h k = grind (arith, nat_tests)

pub closed-below : (file : ℕ) → IsClosed (λ r. nat_lt r.file file)
closed-below file a b h k = grind (arith, nat_tests)

pub closed-upto : (file : ℕ) → IsClosed (λ r. nat_le r.file file)
closed-upto file a b h k = grind (arith, nat_tests)

stands-before : (row : Row) (rows : List Row) → StandsBefore row rows → (k : ℕ) (d : Row) → k < length rows → row_before row (get_or rows k d) ≡ true
stands-before row [] h k d lt = absurd (omega arith)
stands-before row (r ∷ rows) h zero d lt = h.0
stands-before row (r ∷ rows) h (suc k) d lt = stands-before row rows h.1 k d (omega arith)

-- such a test parts rows in order
pub parted : (p : Row → Bool) → IsClosed p → (rows : List Row) → AreInOrder rows → IsPartitionedBy p rows
parted p closed [] h i j d le lt k = absurd (omega arith)
parted p closed (r ∷ rows) h zero zero d le lt k = k
parted p closed (r ∷ rows) h zero (suc j) d le lt k =
    closed r (get_or rows j d) (stands-before r rows h.0 j d (omega arith)) k
parted p closed (r ∷ rows) h (suc i) zero d le lt k = absurd (omega arith)
parted p closed (r ∷ rows) h (suc i) (suc j) d le lt k = parted p closed rows h.1 i j d (omega arith) (omega arith) k

-- ---- the place of a file and a host

passed-behind : (file host : ℕ) (row : Row) (rows : List Row) → is_before file host row ≡ false → StandsBefore row rows → Passed (is_before file host)
    (is_row_of file host) rows
passed-behind file host row [] b h = tt
passed-behind file host row (r ∷ rows) b h =
    let e = behind-is-behind file host row r h.0 b in (e.0, e.1, passed-behind file host row rows b h.1)

pub split-at : (file host : ℕ) (rows : List Row) → AreInOrder rows → Split (is_before file host) (is_row_of file host) rows
split-at file host [] h = tt
split-at file host (r ∷ rows) h = elim (decided (is_before file host r)) [
  | inl e ↦ inl (e, before-is-other file host r e, split-at file host rows h.1)
  | inr e ↦ inr (e, passed-behind file host r rows e h.0)
]

-- ---- a row that is put in

insert-behind : (row r : Row) (rows : List Row) → row_before row r ≡ false → insert_row row (r ∷ rows) ≡ r ∷ insert_row row rows
insert-behind row r rows h = step (row_before row r) h
  where
    step : (b : Bool) → b ≡ false → (if b then row ∷ r ∷ rows else r ∷ insert_row row rows) ≡ r ∷ insert_row row rows
    step true e = cc
    step false e = refl

insert-before : (row r : Row) (rows : List Row) → row_before row r ≡ true → insert_row row (r ∷ rows) ≡ row ∷ r ∷ rows
insert-before row r rows h = step (row_before row r) h
  where
    step : (b : Bool) → b ≡ true → (if b then row ∷ r ∷ rows else r ∷ insert_row row rows) ≡ row ∷ r ∷ rows
    step true e = refl
    step false e = cc

one-more : (n : ℕ) → 1 + n ≡ suc n
one-more n = omega arith

-- the tests of the place of a row
record IsPlaceOf (row : Row) (p q : Row → Bool) : Type 0 where
  behind : (r : Row) → p r ≡ true → row_before row r ≡ false
  before : (r : Row) → p r ≡ false → q r ≡ false → row_before row r ≡ true

insert-front : (row : Row) (p q : Row → Bool) → IsPlaceOf row p q → (rows : List Row) → Passed p q rows → insert_row row rows ≡ row ∷ rows
insert-front row p q is [] h = refl
insert-front row p q is (r ∷ rows) h = insert-before row r rows (is.before r h.0 h.1)

insert-split : (row : Row) (p q : Row → Bool) → IsPlaceOf row p q → (rows : List Row) → Split p q rows → find q rows ≡ None → insert_row row rows
    ≡ insert rows (prefix_len p rows) row
insert-split row p q is [] s h = refl
insert-split row p q is (r ∷ rows) (inl s) h =
    let rest : find q rows ≡ None = rw s.1 at h in
    insert-behind row r rows (is.behind r s.0)
    ∙ rw (s.0, one-more (prefix_len p rows)) (ap (λ l. r ∷ l) (insert-split row p q is rows s.2 rest))
insert-split row p q is (r ∷ rows) (inr s) h = elim (decided (q r)) [
  | inl e ↦ let bad : Some r ≡ None = rw e at h in cc
  | inr e ↦ rw s.0 (insert-before row r rows (is.before r s.0 e))
]

set-split : (row : Row) (p q : Row → Bool) → IsPlaceOf row p q → (rows : List Row) (old : Row) → Split p q rows → find q rows ≡ Some old
    → insert_row row (filter (λ r. not (q r)) rows) ≡ set rows (prefix_len p rows) row
set-split row p q is [] old s h = cc
set-split row p q is (r ∷ rows) old (inl s) h =
    let rest : find q rows ≡ Some old = rw s.1 at h in
    rw (s.0, s.1, one-more (prefix_len p rows)) (insert-behind row r (filter (λ x. not (q x)) rows) (is.behind r s.0)
    ∙ ap (λ l. r ∷ l) (set-split row p q is rows old s.2 rest))
set-split row p q is (r ∷ rows) old (inr s) h = elim (decided (q r)) [
  | inl e ↦ rw (s.0, e, filter-none q rows (find-passed p q rows s.1)) (insert-front row p q is rows s.1)
  | inr e ↦ let bad : Some old ≡ None = sym h ∙ rw e (find-passed p q rows s.1) in cc
]

place-of : (row : Row) → IsPlaceOf row (is_before row.file row.who.host) (is_row_of row.file row.who.host)
place-of row = record { behind = not-behind row; before = is-behind row }

-- a row with a key that is not there is put in at its place
pub put-new : (row : Row) (rows : List Row) → AreInOrder rows → find_row row.file row.who.host rows ≡ None → put_row row rows
    ≡ insert rows (prefix_len (is_before row.file row.who.host) rows) row
put-new row rows o none =
    ap (insert_row row) (filter-none (is_row_of row.file row.who.host) rows none)
    ∙ insert-split row _ _ (place-of row) rows (split-at row.file row.who.host rows o) none

-- a row with a key that is there takes its place
pub put-old : (row : Row) (rows : List Row) (old : Row) → AreInOrder rows → find_row row.file row.who.host rows ≡ Some old → put_row row rows
    ≡ set rows (prefix_len (is_before row.file row.who.host) rows) row
put-old row rows old o some =
    set-split row _ _ (place-of row) rows old (split-at row.file row.who.host rows o) some

-- ---- rows stay in order

filter-stands : (p : Row → Bool) (row : Row) (rows : List Row) → StandsBefore row rows → StandsBefore row (filter p rows)
filter-stands p row [] h = tt
filter-stands p row (r ∷ rows) h = step (p r) (filter-stands p row rows h.1)
  where
    step : (b : Bool) → StandsBefore row (filter p rows) → StandsBefore row (if b then r ∷ filter p rows else filter p rows)
    step true rest = (h.0, rest)
    step false rest = rest

pub filter-in-order : (p : Row → Bool) (rows : List Row) → AreInOrder rows → AreInOrder (filter p rows)
filter-in-order p [] h = tt
filter-in-order p (r ∷ rows) h = step (p r) (filter-in-order p rows h.1)
  where
    step : (b : Bool) → AreInOrder (filter p rows) → AreInOrder (if b then r ∷ filter p rows else filter p rows)
    step true rest = (filter-stands p r rows h.0, rest)
    step false rest = rest

stands-further : (a b : Row) (rows : List Row) → row_before a b ≡ true → StandsBefore b rows → StandsBefore a rows
stands-further a b [] h s = tt
stands-further a b (r ∷ rows) h s = (before-after a b r h s.0, stands-further a b rows h s.1)

insert-stands : (a row : Row) (rows : List Row) → row_before a row ≡ true → StandsBefore a rows → StandsBefore a (insert_row row rows)
insert-stands a row [] h s = (h, tt)
insert-stands a row (r ∷ rows) h s = step (row_before row r) (insert-stands a row rows h s.1)
  where
    step : (b : Bool) → StandsBefore a (insert_row row rows) → StandsBefore a (if b then row ∷ r ∷ rows else r ∷ insert_row row rows)
    step true rest = (h, s)
    step false rest = (s.0, rest)

insert-step : (row r : Row) (rows : List Row) (b c : Bool) → row_before row r ≡ b → is_row_of row.file row.who.host r ≡ c → StandsBefore r rows
    → AreInOrder rows → (find_row row.file row.who.host rows ≡ None → AreInOrder (insert_row row rows))
    → (if c then Some r else find_row row.file row.who.host rows) ≡ None → AreInOrder (if b then row ∷ r ∷ rows else r ∷ insert_row row rows)
insert-step row r rows true c e f s o rest none = ((e, stands-further row r rows e s), (s, o))
insert-step row r rows false true e f s o rest none = cc
insert-step row r rows false false e f s o rest none = (insert-stands r row rows (is-before-other row r e f) s, rest none)

insert-in-order : (row : Row) (rows : List Row) → AreInOrder rows → find_row row.file row.who.host rows ≡ None → AreInOrder (insert_row row rows)
insert-in-order row [] o none = (tt, tt)
insert-in-order row (r ∷ rows) o none =
    insert-step row r rows (row_before row r) (is_row_of row.file row.who.host r) refl refl o.0 o.1 (insert-in-order row rows o.1) none

drop-finds-none : {X : Type 0} (q : X → Bool) (xs : List X) → find q (filter (λ x. not (q x)) xs) ≡ None
drop-finds-none q [] = refl
drop-finds-none q (x ∷ xs) = elim (decided (q x)) [
  | inl e ↦ rw e (drop-finds-none q xs)
  | inr e ↦ rw (e, e) (drop-finds-none q xs)
]

pub put-in-order : (row : Row) (rows : List Row) → AreInOrder rows → AreInOrder (put_row row rows)
put-in-order row rows o =
    insert-in-order row (drop_row row.file row.who.host rows) (filter-in-order _ rows o) (drop-finds-none (is_row_of row.file row.who.host) rows)

-- what halving gives, where the test is closed
pub place-from-clause : (p : Row → Bool) → IsClosed p → {F : Type 0} {g : Mut F (Bor Row × Unit {0}) Bool} {f : F} (rows : List Row) (place : ℕ)
    → AreInOrder rows → place ≤ length rows → ((q : Row → Bool) → ComputesKey g q f → IsPartitionedBy q rows → IsPartitionPoint (λ y. q y ≡ true)
    (λ y. q y ≡ false) rows place) → ((a : Bor Row × Unit {0}) (r : Bool) (f' : F) → Called g f a r f' → (r ≡ p a.0.now) × (f' ≡ f))
    → place ≡ prefix_len p rows
place-from-clause p closed [] place o within clause says = omega arith
place-from-clause p closed (d ∷ rows) place o within clause says =
    let point = IsPartitionPoint-from_clause p (d ∷ rows) place clause (parted p closed (d ∷ rows) o) says in
    sym (prefix_len_is p (d ∷ rows) place d within (λ k lt. point.0 k d (omega arith) lt) (λ lt. point.1 place d (omega arith) lt))

-- ---- a row that is found by another test is that of its file and host

own-key : (row : Row) → is_row_of row.file row.who.host row ≡ true
own-key row = grind (arith, nat_tests)

other-key : (a b : Row) → row_before a b ≡ true → is_row_of b.file b.who.host a ≡ false
other-key a b h = grind (arith, nat_tests)

found-behind : (p : Row → Bool) (a row : Row) (rows : List Row) → StandsBefore a rows → find p rows ≡ Some row → row_before a row ≡ true
found-behind p a row [] s h = cc
found-behind p a row (r ∷ rows) s h = elim (decided (p r)) [
  | inl e ↦ let found : Some r ≡ Some row = rw e at h in let same : r ≡ row = cc in rw (← same) s.0
  | inr e ↦ let rest : find p rows ≡ Some row = rw e at h in found-behind p a row rows s.1 rest
]

pub found-is-own : (p : Row → Bool) (row : Row) (rows : List Row) → AreInOrder rows → find p rows ≡ Some row → find_row row.file row.who.host rows ≡ Some row
found-is-own p row [] o h = cc
found-is-own p row (r ∷ rows) o h = elim (decided (p r)) [
  | inl e ↦ let found : Some r ≡ Some row = rw e at h in let same : r ≡ row = cc in subst (λ x. find_row x.file x.who.host (r ∷ rows) ≡ Some x) same
      (here r rows)
  | inr e ↦
      let rest : find p rows ≡ Some row = rw e at h in
      let other = other-key r row (found-behind p r row rows o.0 rest) in
      later row r rows other (found-is-own p row rows o.1 rest)
]
  where
    here : (r : Row) (rows : List Row) → find_row r.file r.who.host (r ∷ rows) ≡ Some r
    here r rows = step (is_row_of r.file r.who.host r) (own-key r)
      where
        step : (b : Bool) → b ≡ true → (if b then Some r else find_row r.file r.who.host rows) ≡ Some r
        step true e = refl
        step false e = cc

    later : (row r : Row) (rows : List Row) → is_row_of row.file row.who.host r ≡ false → find_row row.file row.who.host rows ≡ Some row
        → find_row row.file row.who.host (r ∷ rows) ≡ Some row
    later row r rows e h = step (is_row_of row.file row.who.host r) e
      where
        step : (b : Bool) → b ≡ false → (if b then Some r else find_row row.file row.who.host rows) ≡ Some row
        step true f = cc
        step false f = h
