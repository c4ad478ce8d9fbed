-- One row of a file in place of another: the rows are right still.
use Rattle.std.proofs.Common.{◌≡◌, ◌≢◌, ◌≤◌, ◌<◌, ◌+◌, ◌-◌, ◌*◌, ◌||◌, ℕ, zero, suc, Bool, true, false, List, [], ◌∷◌, ◌++◌, Option, Some, None, take}
use Rattle.std.proofs.Common.{drop, set, length, if◌then◌else◌, refl, sym, ap, subst, ◌∙◌, arith, length-drop}
use Rattle.std.specs.List.{All, sum_by}
use Rattle.std.specs.Prelude.{nat_eq, nat_le, not}
use Rattle.std.specs.Cmp.Lexicographic.{pointwise}
use Rattle.std.proofs.lemmas.List.{append-nil, append_assoc}
use Rattle.std.proofs.lemmas.List.Elements.{All-head, All-tail}
use Rattle.std.proofs.lemmas.List.Folds.{list_any-append, list_any_none}
use Rattle.std.proofs.lemmas.List.Sums.{sum_by-append, sum_by-cons}
use Rattle.std.proofs.lemmas.Slice.Eq.{bytes_eq-Decides}
use Rattle.nq_base.specs.Name.{is_name}
use Rattle.nq_image.specs.Layout.{word_in, are_zeros}
use Rattle.nq_image.specs.Rows.{behind_name, blocks_of, has_name, is_named, name_holds, name_in, row_checks, rows_checks, slot_of, slots_of}
use Rattle.nq_image.specs.Rows.{used_checks, used_slot}
use Rattle.nq_image.specs.Standing.{overwritten}
use Rattle.nq_image.specs.declared.rows.Slot.{Slot}
use Rattle.nq_image.specs.declared.rows.Version.{Version}
use Rattle.nq_image.proofs.Agreeing.{hold-behind, hold-front}
use Rattle.nq_image.proofs.FileRows.{false-unless}
use Rattle.nq_image.proofs.Holding.{each-three, not-true, test-le}
use Rattle.nq_image.proofs.Pieces.{drop-first, drop-over, take-first, take-over}
use Rattle.nq_image.proofs.ReadBack.{Hold, and-three, hold-append, le-true, subst-two}

-- ---- rows that are new

-- a row has a name that none of these has, and its blocks are not too many with theirs
abbrev pub IsNewTo : (before : List (Option Slot)) → Option Slot → Type 0
IsNewTo before None = Unit {0}
IsNewTo before (Some slot) = (is_named slot.name before ≡ false) × (sum_by blocks_of before + slot.blocks ≤ 16384)

abbrev pub AllNew : (before slots : List (Option Slot)) → Type 0
AllNew before [] = Unit {0}
AllNew before (slot ∷ slots) = IsNewTo before slot × AllNew (before ++ slot ∷ []) slots

used-new : (place : ℕ) (before : List (Option Slot)) (row : List ℕ) → Hold (used_checks Version.Two place before row) → IsNewTo before (Some (used_slot row))
unfolding used_checks used_slot name_holds
used-new place before row h =
    let name = each-three (is_name (name_in row)) (are_zeros (behind_name row)) (not (is_named (name_in row) before)) h.1.0 in
    let count = each-three (nat_le 1 (word_in 68 row)) (nat_le (word_in 68 row) 1024) (nat_le (sum_by blocks_of before + word_in 68 row) 16384) h.1.1.0 in
    (not-true (is_named (name_in row) before) name.2, test-le (sum_by blocks_of before + word_in 68 row) 16384 count.2)

row-new-by : (zeros : Bool) (place : ℕ) (before : List (Option Slot)) (row : List ℕ) → Hold (if zeros then [] else used_checks Version.Two place
    before row) → IsNewTo before (if zeros then None else Some (used_slot row))
row-new-by true place before row h = tt
row-new-by false place before row h = used-new place before row h

row-new : (place : ℕ) (before : List (Option Slot)) (row : List ℕ) → Hold (row_checks Version.Two place before row) → IsNewTo before (slot_of row)
unfolding row_checks slot_of
row-new place before row h = row-new-by (are_zeros row) place before row h

pub rows-new : (count place : ℕ) (before : List (Option Slot)) (rows : List ℕ) → Hold (rows_checks Version.Two count place before rows)
    → AllNew before (slots_of count rows)
unfolding rows_checks slots_of
rows-new zero place before rows h = tt
rows-new (suc count) place before rows h =
    let front = row_checks Version.Two place before (take 96 rows) in
    let more = before ++ slot_of (take 96 rows) ∷ [] in
    let behind = rows_checks Version.Two count (place + 96) more (drop 96 rows) in
    (row-new place before (take 96 rows) (hold-front front behind h), rows-new count (place + 96) more (drop 96 rows) (hold-behind front behind h))

-- ---- rows behind others

used-behind : (place : ℕ) (before other : List (Option Slot)) (row : List ℕ) → IsNewTo other (Some (used_slot row))
    → Hold (used_checks Version.Two place before row) → Hold (used_checks Version.Two place other row)
unfolding used_checks used_slot name_holds
used-behind place before other row new h =
    let name = each-three (is_name (name_in row)) (are_zeros (behind_name row)) (not (is_named (name_in row) before)) h.1.0 in
    let count = each-three (nat_le 1 (word_in 68 row)) (nat_le (word_in 68 row) 1024) (nat_le (sum_by blocks_of before + word_in 68 row) 16384) h.1.1.0 in (
      h.0,
      (
        and-three (is_name (name_in row)) (are_zeros (behind_name row)) (not (is_named (name_in row) other)) name.0 name.1 (ap not new.0),
        (
          and-three (nat_le 1 (word_in 68 row)) (nat_le (word_in 68 row) 1024) (nat_le (sum_by blocks_of other + word_in 68 row) 16384) count.0
              count.1 (le-true (sum_by blocks_of other + word_in 68 row) (sum_by blocks_of other + word_in 68 row) 16384 refl new.1),
          h.1.1.1,
        ),
      ),
    )

row-behind-by : (zeros : Bool) (place : ℕ) (before other : List (Option Slot)) (row : List ℕ) → IsNewTo other (if zeros then None
    else Some (used_slot row)) → Hold (if zeros then [] else used_checks Version.Two place before row)
    → Hold (if zeros then [] else used_checks Version.Two place other row)
row-behind-by true place before other row new h = tt
row-behind-by false place before other row new h = used-behind place before other row new h

row-behind : (place : ℕ) (before other : List (Option Slot)) (row : List ℕ) → IsNewTo other (slot_of row)
    → Hold (row_checks Version.Two place before row) → Hold (row_checks Version.Two place other row)
unfolding row_checks slot_of
row-behind place before other row new h = row-behind-by (are_zeros row) place before other row new h

pub rows-behind : (count place : ℕ) (before other : List (Option Slot)) (rows : List ℕ) → AllNew other (slots_of count rows)
    → Hold (rows_checks Version.Two count place before rows) → Hold (rows_checks Version.Two count place other rows)
unfolding rows_checks slots_of
rows-behind zero place before other rows new h = tt
rows-behind (suc count) place before other rows new h =
    let row = take 96 rows in
    let front = row_checks Version.Two place before row in
    let behind = rows_checks Version.Two count (place + 96) (before ++ slot_of row ∷ []) (drop 96 rows) in
    hold-append (row_checks Version.Two place other row) (rows_checks Version.Two count (place + 96) (other ++ slot_of row ∷ []) (drop 96 rows))
    (row-behind place before other row new.0 (hold-front front behind h))
    (rows-behind count (place + 96) (before ++ slot_of row ∷ []) (other ++ slot_of row ∷ []) (drop 96 rows) new.1 (hold-behind front behind h))

-- ---- one row overwritten

module _ (part : List ℕ) (slot : Option Slot) (size : length part ≡ 96) (is : slot_of part ≡ slot) (own : (place : ℕ) (before : List (Option Slot))
    → IsNewTo before slot → Hold (row_checks Version.Two place before part)) where
  pub rows-over : (count i at place : ℕ) (before other : List (Option Slot)) (rows : List ℕ) → at ≡ 96 * i → i < count → length rows ≡ 96 * count
      → AllNew other (set (slots_of count rows) i slot) → Hold (rows_checks Version.Two count place before rows)
      → Hold (rows_checks Version.Two count place other (overwritten at part rows))
  unfolding rows_checks slots_of
  rows-over zero i at place before other rows at_is lt long new h = absurd (omega arith)
  rows-over (suc count) zero at place before other rows at_is lt long new h =
      let over = overwritten at part rows in
      let front = row_checks Version.Two place before (take 96 rows) in
      let behind = rows_checks Version.Two count (place + 96) (before ++ slot_of (take 96 rows) ∷ []) (drop 96 rows) in
      let P : List ℕ → List ℕ → Type 0 = λ t d. Hold (row_checks Version.Two place other t ++ rows_checks Version.Two count (place + 96)
      (other ++ slot_of t ∷ []) d) in
      let Q : Option Slot → Type 0 = λ x. Hold (rows_checks Version.Two count (place + 96) (other ++ x ∷ []) (drop 96 rows)) in
      subst-two P (take 96 over) part (drop 96 over) (drop 96 rows)
      (take-first 96 at part rows (omega (arith, at_is)) size) (drop-first 96 at part rows (omega (arith, at_is)) size)
      (hold-append (row_checks Version.Two place other part) (rows_checks Version.Two count (place + 96) (other ++ slot_of part ∷ []) (drop 96 rows))
      (own place other new.0)
      (subst Q (sym is) (rows-behind count (place + 96) (before ++ slot_of (take 96 rows) ∷ []) (other ++ slot ∷ []) (drop 96 rows) new.1
      (hold-behind front behind h))))
  rows-over (suc count) (suc i) at place before other rows at_is lt long new h =
      let over = overwritten at part rows in
      let row = take 96 rows in
      let front = row_checks Version.Two place before row in
      let behind = rows_checks Version.Two count (place + 96) (before ++ slot_of row ∷ []) (drop 96 rows) in
      let fits : at + length part ≤ length rows = omega (arith, at_is, lt, long, size) in
      let P : List ℕ → List ℕ → Type 0 = λ t d. Hold (row_checks Version.Two place other t ++ rows_checks Version.Two count (place + 96)
      (other ++ slot_of t ∷ []) d) in
      subst-two P (take 96 over) row (drop 96 over) (overwritten (at - 96) part (drop 96 rows))
      (take-over 96 at part rows (omega (arith, at_is)) fits) (drop-over 96 at part rows (omega (arith, at_is)) fits)
      (hold-append (row_checks Version.Two place other row) (rows_checks Version.Two count (place + 96) (other ++ slot_of row ∷ [])
      (overwritten (at - 96) part (drop 96 rows)))
      (row-behind place before other row new.0 (hold-front front behind h))
      (rows-over count i (at - 96) (place + 96) (before ++ slot_of row ∷ []) (other ++ slot_of row ∷ []) (drop 96 rows) (omega (arith, at_is))
      (omega (arith, lt)) (omega (arith, long, length-drop 96 rows)) new.1 (hold-behind front behind h)))

  pub slots-over : (count i at : ℕ) (rows : List ℕ) → at ≡ 96 * i → i < count → length rows ≡ 96 * count → slots_of count (overwritten at part rows)
      ≡ set (slots_of count rows) i slot
  unfolding slots_of
  slots-over zero i at rows at_is lt long = absurd (omega arith)
  slots-over (suc count) zero at rows at_is lt long =
      ap (λ (t : List ℕ). slot_of t ∷ slots_of count (drop 96 (overwritten at part rows))) (take-first 96 at part rows (omega (arith, at_is)) size)
      ∙ ap (λ (d : List ℕ). slot_of part ∷ slots_of count d) (drop-first 96 at part rows (omega (arith, at_is)) size)
      ∙ ap (λ (x : Option Slot). x ∷ slots_of count (drop 96 rows)) is
  slots-over (suc count) (suc i) at rows at_is lt long =
      let fits : at + length part ≤ length rows = omega (arith, at_is, lt, long, size) in
      ap (λ (t : List ℕ). slot_of t ∷ slots_of count (drop 96 (overwritten at part rows))) (take-over 96 at part rows (omega (arith, at_is)) fits)
      ∙ ap (λ (d : List ℕ). slot_of (take 96 rows) ∷ slots_of count d) (drop-over 96 at part rows (omega (arith, at_is)) fits)
      ∙ ap (λ (l : List (Option Slot)). slot_of (take 96 rows) ∷ l) (slots-over count i (at - 96) (drop 96 rows) (omega (arith, at_is))
      (omega (arith, lt)) (omega (arith, long, length-drop 96 rows)))

-- ---- one of them is another

-- two rows are not of one name
abbrev pub IsApartRow : (one two : Option Slot) → Type 0
IsApartRow None two = Unit {0}
IsApartRow (Some a) None = Unit {0}
IsApartRow (Some a) (Some b) = b.name ≢ a.name

not-that : (a b : List ℕ) → a ≢ b → pointwise nat_eq a b ≡ false
not-that a b other = false-unless (pointwise nat_eq a b) (λ granted. other ((bytes_eq-Decides a b).0 granted))

pub apart-named : (name : List ℕ) (slots : List (Option Slot)) → All (λ x. has_name name x ≡ false) slots → is_named name slots ≡ false
apart-named name slots all = list_any_none (has_name name) slots all

pub has-not : (a : Slot) (x : Option Slot) → IsApartRow (Some a) x → has_name a.name x ≡ false
has-not a None apart = refl
has-not a (Some b) apart = not-that b.name a.name apart

has-not-back : (a : Option Slot) (b : Slot) → IsApartRow a (Some b) → has_name b.name a ≡ false
has-not-back None b apart = refl
has-not-back (Some a) b apart = not-that a.name b.name (λ e. apart (sym e))

or-parts : (a b : Bool) → (a || b) ≡ false → (a ≡ false) × (b ≡ false)
or-parts true b h = cc
or-parts false b h = (refl, h)

or-none : (a b : Bool) → a ≡ false → b ≡ false → (a || b) ≡ false
or-none true b e f = cc
or-none false b e f = f

swap-named : (name : List ℕ) (front mid : List (Option Slot)) (one two : Option Slot) → has_name name two ≡ false → is_named name (front ++ one ∷ mid)
    ≡ false → is_named name (front ++ two ∷ mid) ≡ false
swap-named name front mid one two never h =
    let p = has_name name in
    let parts = or-parts (is_named name front) (is_named name (one ∷ mid)) (sym (list_any-append p front (one ∷ mid)) ∙ h) in
    let rest = or-parts (has_name name one) (is_named name mid) parts.1 in
    list_any-append p front (two ∷ mid) ∙ or-none (is_named name front) (is_named name (two ∷ mid)) parts.0 (or-none (has_name name two)
    (is_named name mid) never rest.1)

swap-one : (front mid : List (Option Slot)) (one two x : Option Slot) → IsApartRow two x → sum_by blocks_of (front ++ two ∷ mid) + blocks_of x ≤ 16384
    → IsNewTo (front ++ one ∷ mid) x → IsNewTo (front ++ two ∷ mid) x
swap-one front mid one two None apart few new = tt
swap-one front mid one two (Some b) apart few new = (swap-named b.name front mid one two (has-not-back two b apart) new.0, few)

swap-rest : (front mid rest : List (Option Slot)) (one two : Option Slot) → All (IsApartRow two) rest → sum_by blocks_of (front ++ two ∷ mid)
    + sum_by blocks_of rest ≤ 16384 → AllNew (front ++ one ∷ mid) rest → AllNew (front ++ two ∷ mid) rest
swap-rest front mid [] one two apart few new = tt
swap-rest front mid (x ∷ rest) one two apart few new =
    let sums = sum_by-cons blocks_of x rest in
    let One : List (Option Slot) → Type 0 = λ l. AllNew l rest in
    let more = front ++ two ∷ (mid ++ x ∷ []) in
    let long = sum_by-append blocks_of (front ++ two ∷ mid) (x ∷ []) in
    let same = ap (λ (l : List (Option Slot)). sum_by blocks_of l) (append_assoc front (two ∷ mid) (x ∷ [])) in (
      swap-one front mid one two x (All-head (IsApartRow two) x rest apart) (omega (arith, few, sums)) new.0,
      subst One (sym (append_assoc front (two ∷ mid) (x ∷ [])))
          (swap-rest front (mid ++ x ∷ []) rest one two (All-tail (IsApartRow two) x rest apart) (omega (
            arith,
            few,
            sums,
            long,
            same,
            sum_by-cons blocks_of x [],
          ))
          (subst One (append_assoc front (one ∷ mid) (x ∷ [])) new.1)),
    )

pub swap : (done front rest : List (Option Slot)) (one two : Option Slot) → IsNewTo (done ++ front) two → All (IsApartRow two) rest
    → sum_by blocks_of (done ++ front) + blocks_of two + sum_by blocks_of rest ≤ 16384 → AllNew done (front ++ one ∷ rest) → AllNew done (front ++ two ∷ rest)
swap done [] rest one two own apart few new =
    let Own : List (Option Slot) → Type 0 = λ l. IsNewTo l two in
    let same = ap (λ (l : List (Option Slot)). sum_by blocks_of l) (append-nil done) in (
      subst Own (append-nil done) own,
      swap-rest done [] rest one two apart (omega (arith, few, same, sum_by-append blocks_of done (two ∷ []), sum_by-cons blocks_of two [])) new.1,
    )
swap done (x ∷ front) rest one two own apart few new =
    let Own : List (Option Slot) → Type 0 = λ l. IsNewTo l two in
    let e = append_assoc done (x ∷ []) front in
    let same = ap (λ (l : List (Option Slot)). sum_by blocks_of l) e in
    (new.0, swap (done ++ x ∷ []) front rest one two (subst Own (sym e) own) apart (omega (arith, few, same)) new.1)
