-- What is found in a lease table's rows after each change of them.
use Rattle.std.proofs.Common.{◌≡◌, ◌≢◌, ◌⊎◌, ℕ, Bool, true, false, not, ◌&&◌, ◌==◌, List, [], ◌∷◌, Option, Some, None, if◌then◌else◌, map, refl, sym}
use Rattle.std.proofs.Common.{subst, ap, ◌∙◌, inl, inr}
use Rattle.std.specs.List.{find, filter}
use Rattle.std.specs.Option.{option_map}
use Rattle.std.proofs.lemmas.Bool.{and_parts, and_from}
use Rattle.nq_base.specs.declared.Access.{Access}
use Rattle.nq_base.specs.declared.Row.{Row}
use Rattle.nq_base.specs.declared.Tag.{Tag}
use Rattle.nq_base.specs.declared.Who.{Who}
use Rattle.nq_model.specs.protocol.Ask.{mode_conflicts, conflicts, marked}
use Rattle.nq_model.specs.protocol.ServerStep.{vacated_rows}
use Rattle.nq_model.specs.protocol.Table.{same_tag, is_row_of, find_row, drop_row, drop_host, drop_rows_of, row_before, insert_row, put_row}
use Rattle.walk_steps.proofs.Rows.{same-number, number-same, find-passes, find-none, find-filter, find-dropped, find-map, insert-step}

-- no two rows are of one file and host
abbrev pub HasUniqueKeys : List Row → Type 0
HasUniqueKeys [] = Unit {0}
HasUniqueKeys (r ∷ rows) = (find_row r.file r.who.host rows ≡ None) × HasUniqueKeys rows

-- a row, if it passes
abbrev pub kept_if : (Row → Bool) → Option Row → Option Row
kept_if q None = None
kept_if q (Some row) = if q row then Some row else None

-- a row that may be marked as evicting
abbrev pub mark : (file host : ℕ) → Access → Row → Row
mark file host access r = if conflicts file host access r then record r { evicting = true } else r

pub of-key : (file host : ℕ) (row : Row) → is_row_of file host row ≡ true → (row.file ≡ file) × (row.who.host ≡ host)
of-key file host row h = let e = and_parts _ _ h in (same-number _ _ e.0, same-number _ _ e.1)

pub has-key : (file host : ℕ) (row : Row) → row.file ≡ file → row.who.host ≡ host → is_row_of file host row ≡ true
has-key file host row e f = and_from _ _ (number-same _ _ e) (number-same _ _ f)

pub own-key : (row : Row) → is_row_of row.file row.who.host row ≡ true
own-key row = has-key row.file row.who.host row refl refl

-- rows that have one key are rows of the same keys
pub same-keys : (file host : ℕ) (row r : Row) → is_row_of file host row ≡ true → is_row_of row.file row.who.host r ≡ is_row_of file host r
same-keys file host row r h = let e = of-key file host row h in rw (e.0, e.1) refl

none-head : (b : Bool) (r : Row) (rest : Option Row) → (if b then Some r else rest) ≡ None → (b ≡ false) × (rest ≡ None)
none-head true r rest h = cc
none-head false r rest h = (refl, h)

find-inserted : (file host : ℕ) (row : Row) (rows : List Row) → find_row row.file row.who.host rows ≡ None
    → find_row file host (insert_row row rows) ≡ (if is_row_of file host row then Some row else find_row file host rows)
find-inserted file host row [] none = refl
find-inserted file host row (r ∷ rows) none =
    let e = none-head (is_row_of row.file row.who.host r) r (find_row row.file row.who.host rows) none in
    insert-step file host row r rows (row_before row r) (find-inserted file host row rows e.1) (λ h. sym (same-keys file host row r h) ∙ e.0)

-- a key is not found once its row was dropped, and others are found as before
pub find-row-dropped : (file host : ℕ) (rows : List Row) → find_row file host (drop_row file host rows) ≡ None
find-row-dropped file host rows = find-dropped (is_row_of file host) (λ r. not (is_row_of file host r)) rows (λ r h. rw h refl)

other-key : (file host f h : ℕ) (r : Row) → (f ≡ file → h ≢ host) → is_row_of f h r ≡ true → not (is_row_of file host r) ≡ true
other-key file host f h r other e = keyed (is_row_of file host r) refl
  where
    keyed : (b : Bool) → is_row_of file host r ≡ b → not b ≡ true
    keyed false g = refl
    keyed true g =
        let x = of-key f h r e in
        let y = of-key file host r g in
        absurd (other (sym x.0 ∙ y.0) (sym x.1 ∙ y.1))

pub find-other-dropped : (file host f h : ℕ) (rows : List Row) → (f ≡ file → h ≢ host) → find_row f h (drop_row file host rows) ≡ find_row f h rows
find-other-dropped file host f h rows other = find-filter (is_row_of f h) (λ r. not (is_row_of file host r)) rows (λ r e. other-key file host f h r other e)

put-step : (file host : ℕ) (row : Row) (rows : List Row) (b : Bool) → is_row_of file host row ≡ b
    → (if b then Some row else find_row file host (drop_row row.file row.who.host rows)) ≡ (if b then Some row else find_row file host rows)
put-step file host row rows true e = refl
put-step file host row rows false e = find-other-dropped row.file row.who.host file host rows (λ f h. elsewhere (has-key file host row (sym f) (sym h)))
  where
    elsewhere : is_row_of file host row ≡ true → ⊥
    elsewhere g = let bad : true ≡ false = cc in cc

-- a row that was put is found under its key, and the others are found as before
pub find-put : (file host : ℕ) (row : Row) (rows : List Row)
    → find_row file host (put_row row rows) ≡ (if is_row_of file host row then Some row else find_row file host rows)
find-put file host row rows =
    find-inserted file host row (drop_row row.file row.who.host rows) (find-row-dropped row.file row.who.host rows)
    ∙ put-step file host row rows (is_row_of file host row) refl

pub find-put-same : (row : Row) (rows : List Row) → find_row row.file row.who.host (put_row row rows) ≡ Some row
find-put-same row rows = find-put row.file row.who.host row rows ∙ ap (λ b. if b then Some row else find_row row.file row.who.host rows) (own-key row)

-- what is found after a row was put
pub found-put : (file host : ℕ) (row r : Row) (rows : List Row) → find_row file host (put_row row rows) ≡ Some r
    → ((is_row_of file host row ≡ true) × (r ≡ row)) ⊎ ((is_row_of file host row ≡ false) × (find_row file host rows ≡ Some r))
found-put file host row r rows h = by (is_row_of file host row) refl (sym (find-put file host row rows) ∙ h)
  where
    by : (b : Bool) → is_row_of file host row ≡ b → (if b then Some row else find_row file host rows) ≡ Some r
        → ((is_row_of file host row ≡ true) × (r ≡ row)) ⊎ ((is_row_of file host row ≡ false) × (find_row file host rows ≡ Some r))
    by true e g = inl (e, cc)
    by false e g = inr (e, g)

-- rows without those of a host
pub find-host-dropped : (file host : ℕ) (rows : List Row) → find_row file host (drop_host host rows) ≡ None
find-host-dropped file host rows = find-dropped (is_row_of file host) (λ r. not (r.who.host == host)) rows (λ r h. ap not (and_parts _ _ h).1)

other-host : (file host h : ℕ) (r : Row) → h ≢ host → is_row_of file h r ≡ true → not (r.who.host == host) ≡ true
other-host file host h r other e = by (r.who.host == host) refl
  where
    by : (b : Bool) → (r.who.host == host) ≡ b → not b ≡ true
    by false g = refl
    by true g = absurd (other (sym (of-key file h r e).1 ∙ same-number _ _ g))

pub find-other-host-dropped : (file host h : ℕ) (rows : List Row) → h ≢ host → find_row file h (drop_host host rows) ≡ find_row file h rows
find-other-host-dropped file host h rows other = find-filter (is_row_of file h) (λ r. not (r.who.host == host)) rows (λ r e. other-host file host h r other e)

-- rows without those of a file
pub find-file-dropped : (file host : ℕ) (rows : List Row) → find_row file host (drop_rows_of file rows) ≡ None
find-file-dropped file host rows = find-dropped (is_row_of file host) (λ r. not (r.file == file)) rows (λ r h. ap not (and_parts _ _ h).0)

other-file : (file host f : ℕ) (r : Row) → f ≢ file → is_row_of f host r ≡ true → not (r.file == file) ≡ true
other-file file host f r other e = by (r.file == file) refl
  where
    by : (b : Bool) → (r.file == file) ≡ b → not b ≡ true
    by false g = refl
    by true g = absurd (other (sym (of-key f host r e).0 ∙ same-number _ _ g))

pub find-other-file-dropped : (file host f : ℕ) (rows : List Row) → f ≢ file → find_row f host (drop_rows_of file rows) ≡ find_row f host rows
find-other-file-dropped file host f rows other = find-filter (is_row_of f host) (λ r. not (r.file == file)) rows (λ r e. other-file file host f r other e)

-- where keys are unique, a filter keeps the row that is found, or drops it
kept-step : (q : Row → Bool) (file host : ℕ) (r : Row) (rows : List Row) → (is_row_of file host r ≡ true → find_row file host rows ≡ None)
    → find_row file host (filter q rows) ≡ kept_if q (find_row file host rows) → (b c : Bool) → is_row_of file host r ≡ b → q r ≡ c
    → find_row file host (if c then r ∷ filter q rows else filter q rows) ≡ kept_if q (if b then Some r else find_row file host rows)
kept-step q file host r rows alone rest true true e f = rw (e, f) refl
kept-step q file host r rows alone rest true false e f = rw f (rest ∙ ap (kept_if q) (alone e))
kept-step q file host r rows alone rest false true e f = rw e rest
kept-step q file host r rows alone rest false false e f = rest

pub find-kept : (q : Row → Bool) (file host : ℕ) (rows : List Row) → HasUniqueKeys rows
    → find_row file host (filter q rows) ≡ kept_if q (find_row file host rows)
find-kept q file host [] unique = refl
find-kept q file host (r ∷ rows) unique =
    kept-step q file host r rows (λ h. subst (λ k. find_row k host rows ≡ None) (of-key file host r h).0
    (subst (λ k. find_row r.file k rows ≡ None) (of-key file host r h).1 unique.0)) (find-kept q file host rows unique.1) (is_row_of file host r)
    (q r) refl refl

-- what is found after a filter
pub found-kept : (q : Row → Bool) (file host : ℕ) (rows : List Row) (r : Row) → HasUniqueKeys rows → find_row file host (filter q rows) ≡ Some r
    → (find_row file host rows ≡ Some r) × (q r ≡ true)
found-kept q file host rows r unique h = by (find_row file host rows) refl (sym (find-kept q file host rows unique) ∙ h)
  where
    passed : (o : Row) → find_row file host rows ≡ Some o → (b : Bool) → q o ≡ b → (if b then Some o else None) ≡ Some r
        → (find_row file host rows ≡ Some r) × (q r ≡ true)
    passed o e true f g = let same : o ≡ r = cc in (e ∙ ap Some same, subst (λ x. q x ≡ true) same f)
    passed o e false f g = absurd (cc)

    by : (o : Option Row) → find_row file host rows ≡ o → kept_if q o ≡ Some r → (find_row file host rows ≡ Some r) × (q r ≡ true)
    by None e g = absurd (cc)
    by (Some o) e g = passed o e (q o) refl g

-- a search that finds nothing finds nothing after a filter
none-filtered-step : {A : Type 0} (p q : A → Bool) (x : A) (xs : List A) (b : Bool) → (find p xs ≡ None → find p (filter q xs) ≡ None)
    → (if p x then Some x else find p xs) ≡ None → find p (if b then x ∷ filter q xs else filter q xs) ≡ None
none-filtered-step p q x xs b rest h = by (p x) refl h b
  where
    by : (a : Bool) → p x ≡ a → (if a then Some x else find p xs) ≡ None → (b : Bool) → find p (if b then x ∷ filter q xs else filter q xs) ≡ None
    by true e g b = absurd (cc)
    by false e g true = rw e (rest g)
    by false e g false = rest g

pub none-filtered : {A : Type 0} (p q : A → Bool) (xs : List A) → find p xs ≡ None → find p (filter q xs) ≡ None
none-filtered p q [] h = refl
none-filtered p q (x ∷ xs) h = none-filtered-step p q x xs (q x) (none-filtered p q xs) h

unique-step : (q : Row → Bool) (r : Row) (rows : List Row) (b : Bool) → find_row r.file r.who.host (filter q rows) ≡ None
    → HasUniqueKeys (filter q rows) → HasUniqueKeys (if b then r ∷ filter q rows else filter q rows)
unique-step q r rows true none unique = (none, unique)
unique-step q r rows false none unique = unique

-- keys stay unique
pub unique-filtered : (q : Row → Bool) (rows : List Row) → HasUniqueKeys rows → HasUniqueKeys (filter q rows)
unique-filtered q [] unique = tt
unique-filtered q (r ∷ rows) unique = unique-step q r rows (q r) (none-filtered (is_row_of r.file r.who.host) q rows unique.0)
    (unique-filtered q rows unique.1)

key-either-way : (r row : Row) → is_row_of row.file row.who.host r ≡ false → is_row_of r.file r.who.host row ≡ false
key-either-way r row e = by (is_row_of r.file r.who.host row) refl
  where
    by : (b : Bool) → is_row_of r.file r.who.host row ≡ b → b ≡ false
    by false g = refl
    by true g =
        let x = of-key r.file r.who.host row g in
        let y : is_row_of row.file row.who.host r ≡ true = has-key row.file row.who.host r (sym x.0) (sym x.1) in
        cc

unique-inserted-step : (row r : Row) (rows : List Row) (b : Bool) → find_row row.file row.who.host (r ∷ rows) ≡ None → HasUniqueKeys (r ∷ rows)
    → find_row r.file r.who.host (insert_row row rows) ≡ None → HasUniqueKeys (insert_row row rows)
    → HasUniqueKeys (if b then row ∷ r ∷ rows else r ∷ insert_row row rows)
unique-inserted-step row r rows true none unique later rest = (none, unique)
unique-inserted-step row r rows false none unique later rest = (later, rest)

unique-inserted : (row : Row) (rows : List Row) → find_row row.file row.who.host rows ≡ None → HasUniqueKeys rows → HasUniqueKeys (insert_row row rows)
unique-inserted row [] none unique = (refl, tt)
unique-inserted row (r ∷ rows) none unique =
    let e = none-head (is_row_of row.file row.who.host r) r (find_row row.file row.who.host rows) none in
    let other : is_row_of r.file r.who.host row ≡ false = key-either-way r row e.0 in
    unique-inserted-step row r rows (row_before row r) none unique (find-inserted r.file r.who.host row rows e.1 ∙ rw other unique.0)
    (unique-inserted row rows e.1 unique.1)

pub unique-put : (row : Row) (rows : List Row) → HasUniqueKeys rows → HasUniqueKeys (put_row row rows)
unique-put row rows unique =
    unique-inserted row (drop_row row.file row.who.host rows) (find-row-dropped row.file row.who.host rows) (unique-filtered _ rows unique)

-- the marked rows are found as before, marked
mark-key : (f h file host : ℕ) (access : Access) (r : Row) → is_row_of f h (mark file host access r) ≡ is_row_of f h r
mark-key f h file host access r = by (conflicts file host access r)
  where
    by : (b : Bool) → is_row_of f h (if b then record r { evicting = true } else r) ≡ is_row_of f h r
    by true = refl
    by false = refl

pub find-marked : (f h file host : ℕ) (access : Access) (rows : List Row)
    → find_row f h (marked file host access rows) ≡ option_map (mark file host access) (find_row f h rows)
find-marked f h file host access rows = find-map (is_row_of f h) (mark file host access) rows (mark-key f h file host access)

-- a row is another, but for its mark
pub record IsButMarked (was r : Row) : Type 0 where
  pub file : r.file ≡ was.file
  pub who : r.who ≡ was.who
  pub mode : r.mode ≡ was.mode
  pub tag : r.tag ≡ was.tag
  pub since : r.since ≡ was.since
  pub until : r.until ≡ was.until
  pub heard : r.heard ≡ was.heard
  pub evicts : was.evicting ≡ true → r.evicting ≡ true

but-marked : (r : Row) (b : Bool) → IsButMarked r (if b then record r { evicting = true } else r)
but-marked r true = record { file = refl; who = refl; mode = refl; tag = refl; since = refl; until = refl; heard = refl; evicts = λ h. refl }
but-marked r false = record { file = refl; who = refl; mode = refl; tag = refl; since = refl; until = refl; heard = refl; evicts = λ h. h }

pub mark-is : (file host : ℕ) (access : Access) (r : Row) → IsButMarked r (mark file host access r)
mark-is file host access r = but-marked r (conflicts file host access r)

-- what is found after the rows were marked
pub record WasMarked (file host : ℕ) (access : Access) (f h : ℕ) (rows : List Row) (r : Row) : Type 0 where
  pub was : Row
  pub found : find_row f h rows ≡ Some was
  pub is : r ≡ mark file host access was

pub found-marked : (file host : ℕ) (access : Access) (f h : ℕ) (rows : List Row) (r : Row) → find_row f h (marked file host access rows) ≡ Some r
    → WasMarked file host access f h rows r
found-marked file host access f h rows r e = by (find_row f h rows) refl (sym (find-marked f h file host access rows) ∙ e)
  where
    by : (o : Option Row) → find_row f h rows ≡ o → option_map (mark file host access) o ≡ Some r → WasMarked file host access f h rows r
    by None g m = absurd (cc)
    by (Some was) g m = record { was = was; found = g; is = cc }

unique-mapped : (f : Row → Row) (rows : List Row) → ((file host : ℕ) (r : Row) → is_row_of file host (f r) ≡ is_row_of file host r)
    → ((r : Row) → (f r).file ≡ r.file) → ((r : Row) → (f r).who ≡ r.who) → HasUniqueKeys rows → HasUniqueKeys (map f rows)
unique-mapped f [] keys file who unique = tt
unique-mapped f (r ∷ rows) keys file who unique = (
  subst (λ w. find_row (f r).file w.host (map f rows) ≡ None) (sym (who r))
      (subst (λ k. find_row k r.who.host (map f rows) ≡ None) (sym (file r))
      (find-map (is_row_of r.file r.who.host) f rows (keys r.file r.who.host) ∙ ap (option_map f) unique.0)),
  unique-mapped f rows keys file who unique.1,
)

pub unique-marked : (file host : ℕ) (access : Access) (rows : List Row) → HasUniqueKeys rows → HasUniqueKeys (marked file host access rows)
unique-marked file host access rows unique =
    unique-mapped (mark file host access) rows (λ f h r. mark-key f h file host access r) (λ r. (mark-is file host access r).file)
    (λ r. (mark-is file host access r).who) unique

-- a lease that was given up
pub found-vacated : (who : Who) (file : ℕ) (tag : Tag) (rows : List Row) (own : Option Row) (f h : ℕ) (r : Row) → HasUniqueKeys rows
    → find_row f h (vacated_rows who file tag rows own) ≡ Some r → find_row f h rows ≡ Some r
found-vacated who file tag rows None f h r unique e = e
found-vacated who file tag rows (Some row) f h r unique e = by (row.who.inc == who.inc && same_tag row.tag tag) e
  where
    by : (b : Bool) → find_row f h (if b then drop_row file who.host rows else rows) ≡ Some r → find_row f h rows ≡ Some r
    by true g = (found-kept (λ x. not (is_row_of file who.host x)) f h rows r unique g).0
    by false g = g

pub find-not-vacated : (who : Who) (file : ℕ) (tag : Tag) (rows : List Row) (own : Option Row) (f h : ℕ) → (f ≡ file → h ≢ who.host)
    → find_row f h (vacated_rows who file tag rows own) ≡ find_row f h rows
find-not-vacated who file tag rows None f h other = refl
find-not-vacated who file tag rows (Some row) f h other = by (row.who.inc == who.inc && same_tag row.tag tag)
  where
    by : (b : Bool) → find_row f h (if b then drop_row file who.host rows else rows) ≡ find_row f h rows
    by true = find-other-dropped file who.host f h rows other
    by false = refl

pub unique-vacated : (who : Who) (file : ℕ) (tag : Tag) (rows : List Row) (own : Option Row) → HasUniqueKeys rows
    → HasUniqueKeys (vacated_rows who file tag rows own)
unique-vacated who file tag rows None unique = unique
unique-vacated who file tag rows (Some row) unique = by (row.who.inc == who.inc && same_tag row.tag tag)
  where
    by : (b : Bool) → HasUniqueKeys (if b then drop_row file who.host rows else rows)
    by true = unique-filtered _ rows unique
    by false = unique

-- what any search finds is found under its key
any-step : (p : Row → Bool) (y r : Row) (rows : List Row) → find_row y.file y.who.host rows ≡ None
    → (find p rows ≡ Some r → find_row r.file r.who.host rows ≡ Some r) → (b : Bool) → (if b then Some y else find p rows) ≡ Some r
    → find_row r.file r.who.host (y ∷ rows) ≡ Some r
any-step p y r rows alone rest true h =
    let same : y ≡ r = cc in
    subst (λ x. find_row x.file x.who.host (y ∷ rows) ≡ Some x) same (ap (λ b. if b then Some y else find_row y.file y.who.host rows) (own-key y))
any-step p y r rows alone rest false h = by (is_row_of r.file r.who.host y) refl
  where
    by : (b : Bool) → is_row_of r.file r.who.host y ≡ b → (if b then Some y else find_row r.file r.who.host rows) ≡ Some r
    by false e = rest h
    by true e =
        let k = of-key r.file r.who.host y e in
        let none : find_row r.file r.who.host rows ≡ None = subst (λ f. find_row f r.who.host rows ≡ None) k.0
        (subst (λ g. find_row y.file g rows ≡ None) k.1 alone) in
        let some : find_row r.file r.who.host rows ≡ Some r = rest h in
        absurd (cc)

pub found-any : (p : Row → Bool) (rows : List Row) (r : Row) → HasUniqueKeys rows → find p rows ≡ Some r → find_row r.file r.who.host rows ≡ Some r
found-any p [] r unique h = cc
found-any p (y ∷ rows) r unique h = any-step p y r rows unique.0 (λ e. found-any p rows r unique.1 e) (p y) h

-- a row of another host is not the asker's
not-holder : (r : Row) (h host : ℕ) → h ≢ host → r.who.host ≡ h → not (r.who.host == host) ≡ true
not-holder r h host other e = by (r.who.host == host) refl
  where
    by : (b : Bool) → (r.who.host == host) ≡ b → not b ≡ true
    by false g = refl
    by true g = absurd (other (sym e ∙ same-number _ _ g))

-- where two parts of a test hold, it fails by the third
third-false : (a b c : Bool) → a ≡ true → b ≡ true → (a && b && c) ≡ false → c ≡ false
third-false true true c x y z = z
third-false true false c x y z = absurd (cc)
third-false false b c x y z = absurd (cc)

-- where no row conflicts, each other host's row of the file lets the asker go on
pub no-clash : (file host : ℕ) (access : Access) (h : ℕ) (rows : List Row) (r : Row) → find (conflicts file host access) rows ≡ None
    → find_row file h rows ≡ Some r → h ≢ host → mode_conflicts access r.mode ≡ false
no-clash file host access h rows r none found other =
    let out : conflicts file host access r ≡ false = find-none (conflicts file host access) (is_row_of file h) r rows none found in
    let k = of-key file h r (find-passes (is_row_of file h) r rows found) in
    third-false (r.file == file) (not (r.who.host == host)) (mode_conflicts access r.mode) (number-same _ _ k.0) (not-holder r h host other k.1) out

-- a row that conflicts is another host's row of the file
pub record IsClash (file host : ℕ) (access : Access) (r : Row) : Type 0 where
  pub of_file : r.file ≡ file
  pub other : r.who.host ≢ host
  pub kind : mode_conflicts access r.mode ≡ true

pub is-clash : (file host : ℕ) (access : Access) (r : Row) → conflicts file host access r ≡ true → IsClash file host access r
is-clash file host access r h =
    let a = and_parts _ _ h in
    let b = and_parts _ _ a.0 in
    record { of_file = same-number _ _ b.0; other = λ e. differs e b.1; kind = a.1 }
  where
    differs : r.who.host ≡ host → not (r.who.host == host) ≡ true → ⊥
    differs e g = let same : (r.who.host == host) ≡ true = number-same _ _ e in let bad : not true ≡ true = rw same at g in cc
