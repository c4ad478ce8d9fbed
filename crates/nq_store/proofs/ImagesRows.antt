-- The rows of an image of version 1 are rows of version 2.
use Rattle.std.proofs.Common.{◌≡◌, ◌≤◌, ◌+◌, ◌||◌, ℕ, zero, suc, Bool, true, false, List, [], ◌∷◌, ◌++◌, Option, Some, None, take, drop}
use Rattle.std.proofs.Common.{if◌then◌else◌, refl, sym, ap, ◌∙◌, arith}
use Rattle.std.specs.List.{All, list_any, sum_by}
use Rattle.std.specs.Prelude.{nat_le}
use Rattle.std.proofs.lemmas.List.Elements.{All-cons, All-nil}
use Rattle.std.proofs.lemmas.List.Folds.{list_any-append}
use Rattle.std.proofs.lemmas.List.Sums.{sum_by-append, sum_by-cons}
use Rattle.nq_image.specs.Check.{check}
use Rattle.nq_image.specs.Layout.{are_zeros, word_in}
use Rattle.nq_image.specs.Rows.{blocks_of, is_shut, is_unused, least_not_zeros, row_checks, rows_checks, slot_of, slots_of, used_checks, used_slot}
use Rattle.nq_image.specs.declared.Slot.{Slot}
use Rattle.nq_image.specs.declared.Version.{Version}
use Rattle.nq_image.proofs.Agreeing.{hold-behind, hold-front}
use Rattle.nq_image.proofs.Holding.{each-three, test-le}
use Rattle.nq_image.proofs.ReadBack.{Hold, hold-append}
use Rattle.nq_image.proofs.Rowing.{AllNew, IsNewTo, rows-new}

-- ---- each row is right in version 2

used-two : (place : ℕ) (slots : List (Option Slot)) (row : List ℕ) → Hold (used_checks Version.One place slots row)
    → Hold (used_checks Version.Two place slots row)
unfolding used_checks
used-two place slots row h = (h.0, (h.1.0, (h.1.1.0, (refl, (h.1.1.1.1.0, (h.1.1.1.1.1.0, tt))))))

row-two-by : (zeros shut : Bool) (place : ℕ) (slots : List (Option Slot)) (row : List ℕ) → Hold (if zeros then [] else if shut
    then check (least_not_zeros place row) false ∷ [] else used_checks Version.One place slots row)
    → Hold (if zeros then [] else used_checks Version.Two place slots row)
row-two-by true shut place slots row h = tt
row-two-by false true place slots row h = let wrong : false ≡ true = h.0 in cc
row-two-by false false place slots row h = used-two place slots row h

row-two : (place : ℕ) (slots : List (Option Slot)) (row : List ℕ) → Hold (row_checks Version.One place slots row)
    → Hold (row_checks Version.Two place slots row)
unfolding row_checks
row-two place slots row h = row-two-by (are_zeros row) (is_shut Version.One slots) place slots row h

pub rows-two : (count place : ℕ) (before : List (Option Slot)) (rows : List ℕ) → Hold (rows_checks Version.One count place before rows)
    → Hold (rows_checks Version.Two count place before rows)
unfolding rows_checks
rows-two zero place before rows h = tt
rows-two (suc count) place before rows h =
    let more = before ++ slot_of (take 96 rows) ∷ [] in
    let front = row_checks Version.One place before (take 96 rows) in
    let behind = rows_checks Version.One count (place + 96) more (drop 96 rows) in
    hold-append (row_checks Version.Two place before (take 96 rows)) (rows_checks Version.Two count (place + 96) more (drop 96 rows))
    (row-two place before (take 96 rows) (hold-front front behind h))
    (rows-two count (place + 96) more (drop 96 rows) (hold-behind front behind h))

-- ---- the blocks of all files are not too many

few-by : (before : List (Option Slot)) (slot : Option Slot) → sum_by blocks_of before ≤ 16384 → IsNewTo before slot → sum_by blocks_of before
    + blocks_of slot ≤ 16384
few-by before None few new = omega arith
few-by before (Some slot) few new = new.1

all-few : (before slots : List (Option Slot)) → sum_by blocks_of before ≤ 16384 → AllNew before slots → sum_by blocks_of before + sum_by blocks_of
    slots ≤ 16384
all-few before [] few new = omega arith
all-few before (slot ∷ slots) few new =
    let own = few-by before slot few new.0 in
    let long = sum_by-append blocks_of before (slot ∷ []) in
    let one = sum_by-cons blocks_of slot [] in
    let rest = all-few (before ++ slot ∷ []) slots (omega (arith, own, long, one)) new.1 in
    omega (arith, rest, long, one, sum_by-cons blocks_of slot slots)

pub few-blocks : (count place : ℕ) (rows : List ℕ) → Hold (rows_checks Version.One count place [] rows) → sum_by blocks_of (slots_of count rows) ≤ 16384
few-blocks count place rows h =
    let all = all-few [] (slots_of count rows) (omega arith) (rows-new count place [] rows (rows-two count place [] rows h)) in omega (arith, all)

-- ---- no used row stands behind an unused one

-- the used ones of these rows stand in front, and none is used where one before them is unused
abbrev pub AreFirst : (over : Bool) → List (Option Slot) → Type 0
AreFirst over [] = Unit {0}
AreFirst over (None ∷ slots) = AreFirst true slots
AreFirst over (Some slot ∷ slots) = (over ≡ false) × AreFirst over slots

first-step : (zeros over : Bool) (slot : Slot) (slots : List (Option Slot)) → (zeros ≡ false → over ≡ false) → AreFirst (if zeros then true else over)
    slots → AreFirst over ((if zeros then None else Some slot) ∷ slots)
first-step true over slot slots shut rest = rest
first-step false over slot slots shut rest = (shut refl, rest)

over-by : (zeros over : Bool) (slot : Slot) → (over || list_any is_unused ((if zeros then None else Some slot) ∷ [])) ≡ (if zeros then true else over)
over-by true true slot = refl
over-by true false slot = refl
over-by false true slot = refl
over-by false false slot = refl

over-then : (zeros over : Bool) (slot : Slot) (before : List (Option Slot)) → list_any is_unused before ≡ over
    → list_any is_unused (before ++ (if zeros then None else Some slot) ∷ []) ≡ (if zeros then true else over)
over-then zeros over slot before is =
    let last : List (Option Slot) = (if zeros then None else Some slot) ∷ [] in
    list_any-append is_unused before last ∙ ap (λ (b : Bool). b || list_any is_unused last) is ∙ over-by zeros over slot

not-shut : (zeros shut : Bool) (place : ℕ) (slots : List (Option Slot)) (row : List ℕ) → Hold (if zeros then [] else if shut
    then check (least_not_zeros place row) false ∷ [] else used_checks Version.One place slots row) → zeros ≡ false → shut ≡ false
not-shut true shut place slots row h e = cc
not-shut false true place slots row h e = let wrong : false ≡ true = h.0 in cc
not-shut false false place slots row h e = refl

row-shut : (place : ℕ) (before : List (Option Slot)) (row : List ℕ) → Hold (row_checks Version.One place before row) → are_zeros row ≡ false
    → list_any is_unused before ≡ false
unfolding row_checks
row-shut place before row h e = not-shut (are_zeros row) (list_any is_unused before) place before row h e

rows-first : (count place : ℕ) (over : Bool) (before : List (Option Slot)) (rows : List ℕ) → list_any is_unused before ≡ over
    → Hold (rows_checks Version.One count place before rows) → AreFirst over (slots_of count rows)
unfolding rows_checks slots_of slot_of
rows-first zero place over before rows is h = tt
rows-first (suc count) place over before rows is h =
    let row = take 96 rows in
    let zeros = are_zeros row in
    let more = before ++ (if zeros then None else Some (used_slot row)) ∷ [] in
    let front = row_checks Version.One place before row in
    let behind = rows_checks Version.One count (place + 96) more (drop 96 rows) in
    first-step zeros over (used_slot row) (slots_of count (drop 96 rows))
    (λ e. sym is ∙ row-shut place before row (hold-front front behind h) e)
    (rows-first count (place + 96) (if zeros then true else over) more (drop 96 rows) (over-then zeros over (used_slot row) before is)
    (hold-behind front behind h))

pub used-first : (count place : ℕ) (rows : List ℕ) → Hold (rows_checks Version.One count place [] rows) → AreFirst false (slots_of count rows)
used-first count place rows h = rows-first count place false [] rows refl h

-- ---- no file is too long

row-short-by : (zeros : Bool) (place : ℕ) (before : List (Option Slot)) (row : List ℕ) → Hold (if zeros then [] else used_checks Version.Two place
    before row) → blocks_of (if zeros then None else Some (used_slot row)) ≤ 1024
unfolding used_checks used_slot
row-short-by true place before row h = omega arith
row-short-by false place before row h =
    let count = each-three (nat_le 1 (word_in 68 row)) (nat_le (word_in 68 row) 1024) (nat_le (sum_by blocks_of before + word_in 68 row) 16384) h.1.1.0 in
    test-le (word_in 68 row) 1024 count.1

row-short : (place : ℕ) (before : List (Option Slot)) (row : List ℕ) → Hold (row_checks Version.Two place before row) → blocks_of (slot_of row) ≤ 1024
unfolding row_checks slot_of
row-short place before row h = row-short-by (are_zeros row) place before row h

rows-short : (count place : ℕ) (before : List (Option Slot)) (rows : List ℕ) → Hold (rows_checks Version.Two count place before rows)
    → All (λ slot. blocks_of slot ≤ 1024) (slots_of count rows)
unfolding rows_checks slots_of
rows-short zero place before rows h = All-nil (λ (slot : Option Slot). blocks_of slot ≤ 1024)
rows-short (suc count) place before rows h =
    let more = before ++ slot_of (take 96 rows) ∷ [] in
    let front = row_checks Version.Two place before (take 96 rows) in
    let behind = rows_checks Version.Two count (place + 96) more (drop 96 rows) in
    All-cons (λ (slot : Option Slot). blocks_of slot ≤ 1024) (slot_of (take 96 rows)) (slots_of count (drop 96 rows))
    (row-short place before (take 96 rows) (hold-front front behind h)) (rows-short count (place + 96) more (drop 96 rows) (hold-behind front behind h))

pub short-rows : (count place : ℕ) (before : List (Option Slot)) (rows : List ℕ) → Hold (rows_checks Version.One count place before rows)
    → All (λ slot. blocks_of slot ≤ 1024) (slots_of count rows)
short-rows count place before rows h = rows-short count place before rows (rows-two count place before rows h)
