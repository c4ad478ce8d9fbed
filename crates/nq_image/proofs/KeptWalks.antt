-- Walks over numbers and over the files of an image, one at a time.
use Rattle.std.proofs.Common.{◌≡◌, ◌<◌, ◌≤◌, ◌+◌, ◌-◌, ℕ, List, [], ◌∷◌, ◌++◌, Option, drop, get_or, length, sym, subst, ◌∙◌, arith}
use Rattle.std.proofs.lemmas.List.{append_assoc, append-nil}
use Rattle.std.proofs.lemmas.List.Sums.{sum_by-append}
use Rattle.std.specs.List.{sum_by}
use Rattle.std.specs.Prelude.{slice_index_or}
use Rattle.nq_image.specs.Kept.{files_of, numbers_from, with_slot}
use Rattle.nq_image.specs.Rows.{blocks_of}
use Rattle.nq_image.specs.declared.kept.FoundFile.{FoundFile}
use Rattle.nq_image.specs.declared.rows.Slot.{Slot}
use Rattle.nq_image.proofs.Walks.{drop-all, one-less, one-more}

pub number-passes : (count i number : ℕ) (numbers whole : List ℕ) → i < count → numbers ++ numbers_from number (count - i) ≡ whole
    → (numbers ++ number ∷ []) ++ numbers_from (number + 1) (count - (i + 1)) ≡ whole
unfolding numbers_from
number-passes count i number numbers whole lt same =
    let P : ℕ → Type 0 = λ m. numbers ++ numbers_from number m ≡ whole in
    append_assoc numbers (number ∷ []) (numbers_from (number + 1) (count - (i + 1))) ∙ subst P (one-less count i lt) same

pub no-number-left : (count i number : ℕ) (numbers whole : List ℕ) → count ≤ i → numbers ++ numbers_from number (count - i) ≡ whole → numbers ≡ whole
unfolding numbers_from
no-number-left count i number numbers whole le same =
    let P : ℕ → Type 0 = λ m. numbers ++ numbers_from number m ≡ whole in
    let none : count - i ≡ 0 = omega arith in
    sym (append-nil numbers) ∙ subst P none same

pub file-passes : (i start : ℕ) (files : List FoundFile) (slots : List (Option Slot)) (slot : Option Slot) (ids : List ℕ) (whole : List FoundFile)
    → i < length slots → slot ≡ get_or slots i slot → files_of files start (drop i slots) ids ≡ whole
    → files_of (with_slot (slice_index_or ids 0 0) start slot files) (start + blocks_of slot) (drop (i + 1) slots) (drop 1 ids) ≡ whole
unfolding files_of
file-passes i start files slots slot ids whole lt is same =
    let P : List (Option Slot) → Type 0 = λ left. files_of files start left ids ≡ whole in
    subst P (one-more slots i slot lt is) same

pub no-file-left : (i start : ℕ) (files : List FoundFile) (slots : List (Option Slot)) (ids : List ℕ) (whole : List FoundFile) → length slots ≤ i
    → files_of files start (drop i slots) ids ≡ whole → files ≡ whole
unfolding files_of
no-file-left i start files slots ids whole le same =
    let P : List (Option Slot) → Type 0 = λ left. files_of files start left ids ≡ whole in
    subst P (drop-all slots i le) same

pub blocks-left : (i start total : ℕ) (slots : List (Option Slot)) (slot : Option Slot) → i < length slots → slot ≡ get_or slots i slot
    → start + sum_by blocks_of (drop i slots) ≡ total → (start + blocks_of slot) + sum_by blocks_of (drop (i + 1) slots) ≡ total
blocks-left i start total slots slot lt is same =
    let P : List (Option Slot) → Type 0 = λ left. start + sum_by blocks_of left ≡ total in
    let left = drop (i + 1) slots in
    let s : start + sum_by blocks_of (slot ∷ left) ≡ total = subst P (one-more slots i slot lt is) same in
    let e : sum_by blocks_of (slot ∷ left) ≡ sum_by blocks_of (slot ∷ []) + sum_by blocks_of left = sum_by-append blocks_of (slot ∷ []) left in
    omega (arith, s, e)

pub file-goes-on : (i start id more : ℕ) (files new : List FoundFile) (slots : List (Option Slot)) (slot : Option Slot) (ids behind : List ℕ)
    (whole : List FoundFile) → i < length slots → slot ≡ get_or slots i slot → id ≡ slice_index_or ids 0 0 → more ≡ blocks_of slot
    → new ≡ with_slot id start slot files → behind ≡ drop 1 ids → files_of files start (drop i slots) ids ≡ whole → files_of new (start + more)
    (drop (i + 1) slots) behind ≡ whole
file-goes-on i start id more files new slots slot ids behind whole lt is id-is more-is new-is behind-is same =
    rw (new-is, behind-is, id-is, more-is) (file-passes i start files slots slot ids whole lt is same)

pub start-goes-on : (i start more total : ℕ) (slots : List (Option Slot)) (slot : Option Slot) → i < length slots → slot ≡ get_or slots i slot
    → more ≡ blocks_of slot → start + sum_by blocks_of (drop i slots) ≡ total → (start + more) + sum_by blocks_of (drop (i + 1) slots) ≡ total
start-goes-on i start more total slots slot lt is more-is same = rw more-is (blocks-left i start total slots slot lt is same)
