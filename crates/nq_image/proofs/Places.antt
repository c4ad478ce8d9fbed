-- Fields in the order of their places.
use Rattle.std.proofs.Common.{◌≡◌, ◌≤◌, ◌+◌, ◌*◌, ◌==◌, inl, inr, ℕ, zero, suc, Bool, true, false, List, [], ◌∷◌, ◌++◌, Option, Some, None, Err, take}
use Rattle.std.proofs.Common.{drop, length, if◌then◌else◌, refl, subst, arith}
use Rattle.std.proofs.lemmas.List.Elements.{All-tail}
use Rattle.std.specs.List.{All}
use Rattle.std.specs.Prelude.{not}
use Rattle.nq_image.specs.Check.{AreInOrder, Check, IsLeastWrong, IsWrongAt, check, judged}
use Rattle.nq_image.specs.Heads.{boots_checks, front_checks}
use Rattle.nq_image.specs.Hosts.{host_checks, hosts_checks}
use Rattle.nq_image.specs.Layout.{piece, word_in, hyper_in, are_zeros}
use Rattle.nq_image.specs.Rows.{blocks_of, is_shut, least_not_zeros, row_checks, rows_checks, slot_of, used_checks}
use Rattle.nq_image.specs.Tables.{ids_checks, marked, slot_checks, slot_marks, table_checks, tables_checks}
use Rattle.nq_image.specs.declared.rows.Slot.{Slot}
use Rattle.nq_image.specs.declared.rows.Version.{Version}

-- no wrong field stands before the first place
not-before : (first last other : ℕ) (checks : List Check) → AreInOrder first last checks → IsWrongAt other checks → first ≤ other
not-before first last other [] order wrong = absurd wrong
not-before first last other (c ∷ checks) order (inl here) = let a = order.0 in let b = here.0 in omega arith
not-before first last other (c ∷ checks) order (inr behind) =
    let a = order.0 in
    let b = not-before c.place last other checks order.1 behind in
    omega arith

here-least : (place last other : ℕ) (c : Check) (checks : List Check) → c.place ≡ place → AreInOrder c.place last checks
    → IsWrongAt other (c ∷ checks) → place ≤ other
here-least place last other c checks at order (inl here) = let a = here.0 in omega arith
here-least place last other c checks at order (inr behind) = let a = not-before c.place last other checks order behind in omega arith

behind-least : (place other : ℕ) (c : Check) (checks : List Check) → c.holds ≡ true → IsLeastWrong place checks → IsWrongAt other (c ∷ checks) → place ≤ other
behind-least place other c checks right least (inl here) = let a = here.1 in cc
behind-least place other c checks right least (inr behind) = least.least other behind

least-step : (first last place : ℕ) (c : Check) (checks : List Check) (holds : Bool) → c.holds ≡ holds → AreInOrder first last (c ∷ checks)
    → (judged checks ≡ Err place → IsLeastWrong place checks) → (if holds then judged checks else Err c.place) ≡ Err place → IsLeastWrong place (c ∷ checks)
least-step first last place c checks true is order more h =
    let own = more h in
    record { wrong = inr own.wrong; least = λ other wrong. behind-least place other c checks is own wrong }
least-step first last place c checks false is order more h =
    let at : c.place ≡ place = cc in
    record { wrong = inl (at, is); least = λ other wrong. here-least place last other c checks at order.1 wrong }

pub first-is-least : (first last place : ℕ) (checks : List Check) → AreInOrder first last checks → judged checks ≡ Err place → IsLeastWrong place checks
first-is-least first last place [] order h = cc
first-is-least first last place (c ∷ checks) order h =
    least-step first last place c checks c.holds refl order (first-is-least c.place last place checks order.1) h

-- a list behind another
wider : (first middle last : ℕ) (checks : List Check) → first ≤ middle → AreInOrder middle last checks → AreInOrder first last checks
wider first middle last [] le order = omega arith
wider first middle last (c ∷ checks) le order = let a = order.0 in (omega arith, order.1)

joined : (first middle last : ℕ) (front behind : List Check) → AreInOrder first middle front → AreInOrder middle last behind → AreInOrder first last
    (front ++ behind)
joined first middle last [] behind front-order order = wider first middle last behind front-order order
joined first middle last (c ∷ front) behind front-order order =
    (front-order.0, joined c.place middle last front behind front-order.1 order)

up-to : (first last further : ℕ) (checks : List Check) → last ≤ further → AreInOrder first last checks → AreInOrder first further checks
up-to first last further [] le order = omega arith
up-to first last further (c ∷ checks) le order = (order.0, up-to c.place last further checks le order.1)

ends-at : (first last other : ℕ) (checks : List Check) → last ≡ other → AreInOrder first last checks → AreInOrder first other checks
ends-at first last other checks e order = let P : ℕ → Type 0 = λ n. AreInOrder first n checks in subst P e order

either : (b : Bool) (first last : ℕ) (xs ys : List Check) → AreInOrder first last xs → AreInOrder first last ys → AreInOrder first last (if b then xs else ys)
either true first last xs ys one two = one
either false first last xs ys one two = two

host-in-order : (place : ℕ) (row : List ℕ) → AreInOrder place (place + 32) (host_checks place row)
host-in-order place row = (omega arith, (omega arith, (omega arith, (omega arith, omega arith))))

pub hosts-in-order : (count place : ℕ) (rows : List ℕ) → AreInOrder place (place + 32 * count) (hosts_checks count place rows)
unfolding hosts_checks
hosts-in-order zero place rows = omega arith
hosts-in-order (suc count) place rows =
    let behind = hosts_checks count (place + 32) (drop 32 rows) in
    let end : (place + 32) + 32 * count ≡ place + 32 * suc count = omega arith in
    joined place (place + 32) (place + 32 * suc count) (host_checks place (take 32 rows)) behind (host-in-order place (take 32 rows))
    (ends-at (place + 32) ((place + 32) + 32 * count) (place + 32 * suc count) behind end (hosts-in-order count (place + 32) (drop 32 rows)))

within : (b : Bool) (low high x y : ℕ) → low ≤ x → x ≤ high → (low ≤ y) × (y ≤ high) → (low ≤ (if b then x else y)) × ((if b then x else y) ≤ high)
within true low high x y a b more = (a, b)
within false low high x y a b more = more

least-within : (place : ℕ) (row : List ℕ) → (place ≤ least_not_zeros place row) × (least_not_zeros place row ≤ place + 96)
least-within place row =
    within (not (word_in 0 row == 0)) place (place + 96) place _ (omega arith) (omega arith)
    (within (not (are_zeros (piece 4 64 row))) place (place + 96) (place + 4) _ (omega arith) (omega arith)
    (within (not (word_in 68 row == 0)) place (place + 96) (place + 68) _ (omega arith) (omega arith)
    (within (not (word_in 72 row == 0)) place (place + 96) (place + 72) _ (omega arith) (omega arith)
    (within (not (hyper_in 76 row == 0)) place (place + 96) (place + 76) (place + 84) (omega arith) (omega arith) (omega arith, omega arith)))))

used-in-order : (version : Version) (place : ℕ) (slots : List (Option Slot)) (row : List ℕ) → AreInOrder place (place + 96) (used_checks version place
    slots row)
unfolding used_checks
used-in-order version place slots row = (omega arith, (omega arith, (omega arith, (omega arith, (omega arith, (omega arith, omega arith))))))

row-in-order : (version : Version) (place : ℕ) (slots : List (Option Slot)) (row : List ℕ) → AreInOrder place (place + 96) (row_checks version place slots row)
unfolding row_checks
row-in-order version place slots row =
    let shut = check (least_not_zeros place row) false ∷ [] in
    let used = used_checks version place slots row in
    either (are_zeros row) place (place + 96) [] (if is_shut version slots then shut else used) (omega arith)
    (either (is_shut version slots) place (place + 96) shut used (least-within place row) (used-in-order version place slots row))

pub rows-in-order : (version : Version) (count place : ℕ) (slots : List (Option Slot)) (rows : List ℕ) → AreInOrder place (place + 96 * count)
    (rows_checks version count place slots rows)
unfolding rows_checks
rows-in-order version zero place slots rows = omega arith
rows-in-order version (suc count) place slots rows =
    let more = slots ++ slot_of (take 96 rows) ∷ [] in
    let behind = rows_checks version count (place + 96) more (drop 96 rows) in
    let end : (place + 96) + 96 * count ≡ place + 96 * suc count = omega arith in
    joined place (place + 96) (place + 96 * suc count) (row_checks version place slots (take 96 rows)) behind (row-in-order version place slots (take 96 rows))
    (ends-at (place + 96) ((place + 96) + 96 * count) (place + 96 * suc count) behind end (rows-in-order version count (place + 96) more (drop 96 rows)))

table-in-order : (count tables place : ℕ) (marks : List Bool) (rest : List ℕ) → AreInOrder place (place + 4 * count) (table_checks count tables place
    marks rest)
unfolding table_checks
table-in-order zero tables place marks rest = (omega arith, omega arith)
table-in-order (suc count) tables place marks rest =
    let own = marked marks (word_in 0 rest) in
    let behind = table_checks count tables (place + 4) own (drop 4 rest) in
    let end : (place + 4) + 4 * count ≡ place + 4 * suc count = omega arith in (
      omega arith,
      wider place (place + 4) (place + 4 * suc count) behind (omega arith)
          (ends-at (place + 4) ((place + 4) + 4 * count) (place + 4 * suc count) behind end (table-in-order count tables (place + 4) own (drop 4 rest))),
    )

slot-in-order : (tables place : ℕ) (slot : Option Slot) (marks : List Bool) (table : List ℕ) → blocks_of slot ≤ 1024 → AreInOrder place (place + 4096)
    (slot_checks tables place slot marks table)
unfolding slot_checks
slot-in-order tables place None marks table short = omega arith
slot-in-order tables place (Some slot) marks table short =
    up-to place (place + 4 * slot.blocks) (place + 4096) (table_checks slot.blocks tables place marks table) (omega arith) (table-in-order slot.blocks
    tables place marks table)

pub tables-in-order : (tables place : ℕ) (slots : List (Option Slot)) (marks : List Bool) (bytes : List ℕ) → All (λ slot. blocks_of slot ≤ 1024) slots
    → AreInOrder place (place + 4096 * length slots) (tables_checks tables place slots marks bytes)
unfolding tables_checks
tables-in-order tables place [] marks bytes short = omega arith
tables-in-order tables place (slot ∷ slots) marks bytes short =
    let own = slot_marks slot marks (piece place 4096 bytes) in
    let front = slot_checks tables place slot marks (piece place 4096 bytes) in
    let behind = tables_checks tables (place + 4096) slots own bytes in
    let end : (place + 4096) + 4096 * length slots ≡ place + 4096 * length (slot ∷ slots) = omega arith in
    let first : blocks_of slot ≤ 1024 = short 0 slot (omega arith) in (
      omega arith,
      joined place (place + 4096) (place + 4096 * length (slot ∷ slots)) front behind
          (slot-in-order tables place slot marks (piece place 4096 bytes) first)
          (ends-at (place + 4096) ((place + 4096) + 4096 * length slots) (place + 4096 * length (slot ∷ slots)) behind end
          (tables-in-order tables (place + 4096) slots own bytes (All-tail (λ s. blocks_of s ≤ 1024) slot slots short))),
    )

pub ids-in-order : (next place : ℕ) (ids : List ℕ) (slots : List (Option Slot)) (rest : List ℕ) → AreInOrder place (place + 4 * length slots)
    (ids_checks next place ids slots rest)
unfolding ids_checks
ids-in-order next place ids [] rest = (omega arith, omega arith)
ids-in-order next place ids (slot ∷ slots) rest =
    let more = ids ++ word_in 0 rest ∷ [] in
    let behind = ids_checks next (place + 4) more slots (drop 4 rest) in
    let end : (place + 4) + 4 * length slots ≡ place + 4 * length (slot ∷ slots) = omega arith in (
      omega arith,
      wider place (place + 4) (place + 4 * length (slot ∷ slots)) behind (omega arith)
          (ends-at (place + 4) ((place + 4) + 4 * length slots) (place + 4 * length (slot ∷ slots)) behind end (ids-in-order next (place + 4) more
          slots (drop 4 rest))),
    )

pub boots-in-order : (front : List ℕ) → AreInOrder 8 64 (boots_checks front)
boots-in-order front = (omega arith, (omega arith, (omega arith, omega arith)))

pub front-in-order : (front : List ℕ) → AreInOrder 8 64 (front_checks front)
front-in-order front = (omega arith, (omega arith, (omega arith, (omega arith, (omega arith, (omega arith, omega arith))))))
