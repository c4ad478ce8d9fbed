-- The ids that a migration writes are those of version 1: row n has the id n + 1.
use Rattle.std.proofs.Common.{◌≡◌, ◌≤◌, ◌<◌, ◌^◌, ◌+◌, ◌-◌, ◌*◌, ◌==◌, ℕ, suc, true, false, List, [], ◌∷◌, ◌++◌, Option, Some, None, cond, length}
use Rattle.std.proofs.Common.{drop, refl, sym, ap, subst, ◌∙◌, arith}
use Rattle.std.specs.List.{All, list_any}
use Rattle.std.specs.Prelude.{is_some, nat_le, nat_lt, not, replicate, slice_index_or}
use Rattle.std.specs.Int.{w32, to_be_bytes}
use Rattle.std.proofs.lemmas.Bool.Decides.{nat_tests}
use Rattle.std.proofs.lemmas.List.Elements.{All-append, All-cons, All-nil, All-weaker}
use Rattle.std.proofs.lemmas.List.Folds.{list_any_none}
use Rattle.std.proofs.lemmas.List.Sums.{sum_by-cons}
use Rattle.nq_image.specs.Check.{check}
use Rattle.nq_image.specs.Kept.{files_of, found_file, numbers_from, with_slot}
use Rattle.nq_image.specs.Layout.{word_in}
use Rattle.nq_image.specs.Rows.{blocks_of}
use Rattle.nq_image.specs.Tables.{ids_checks, ids_of, is_id}
use Rattle.nq_image.specs.Writing.{entries_bytes, zeros_of}
use Rattle.nq_image.specs.declared.FoundFile.{FoundFile}
use Rattle.nq_image.specs.declared.Slot.{Slot}
use Rattle.nq_image.proofs.Filing.{insert-is-put, length-put}
use Rattle.nq_image.proofs.ReadBack.{Hold, and-three, ge-true, lt-true, zeros-are}
use Rattle.nq_image.proofs.Tabling.{id-word, zero-word}
use Rattle.nq_store.specs.Migrated.{files_in}
use Rattle.nq_store.proofs.ImagesRows.{AreFirst}

-- ---- how many files there are

files-cons : (slot : Option Slot) (slots : List (Option Slot)) → files_in (slot ∷ slots) ≡ cond (is_some slot) 1 0 + files_in slots
files-cons slot slots = sum_by-cons (λ (s : Option Slot). cond (is_some s) 1 0) slot slots

one-more-file : (slot : Option Slot) (id start : ℕ) (files : List FoundFile) → length (with_slot id start slot files) ≡ length files + cond (is_some slot) 1 0
one-more-file None id start files = omega arith
one-more-file (Some slot) id start files =
    let x = found_file id start slot in ap length (insert-is-put id x files) ∙ length-put id x files

pub length-files : (files : List FoundFile) (start : ℕ) (slots : List (Option Slot)) (ids : List ℕ) → length (files_of files start slots ids)
    ≡ length files + files_in slots
unfolding files_of
length-files files start [] ids = omega arith
length-files files start (slot ∷ slots) ids =
    let a = length-files (with_slot (slice_index_or ids 0 0) start slot files) (start + blocks_of slot) slots (drop 1 ids) in
    let b = one-more-file slot (slice_index_or ids 0 0) start files in
    omega (arith, a, b, files-cons slot slots)

none-used : (slots : List (Option Slot)) → AreFirst true slots → files_in slots ≡ 0
none-used [] first = refl
none-used (None ∷ slots) first = let rest = none-used slots first in omega (arith, rest, files-cons None slots)
none-used (Some slot ∷ slots) first = let wrong : true ≡ false = first.0 in cc

pub few-files : (slots : List (Option Slot)) → files_in slots ≤ length slots
few-files [] = omega arith
few-files (None ∷ slots) = omega (arith, few-files slots, files-cons None slots)
few-files (Some slot ∷ slots) = omega (arith, few-files slots, files-cons (Some slot) slots)

-- ---- one id

one-id : (next place word : ℕ) (known : List ℕ) (slot : Option Slot) (slots : List (Option Slot)) (bytes rest : List ℕ) → word_in 0 bytes ≡ word
    → drop 4 bytes ≡ rest → is_id next known slot word ≡ true → Hold (ids_checks next (place + 4) (known ++ word ∷ []) slots rest)
    → Hold (ids_checks next place known (slot ∷ slots) bytes)
unfolding ids_checks
one-id next place word known slot slots bytes rest is behind own more =
    let P : ℕ → List ℕ → Type 0 = λ w d. Hold (check place (is_id next known slot w) ∷ ids_checks next (place + 4) (known ++ w ∷ []) slots d) in
    subst (λ (w : ℕ). P w (drop 4 bytes)) (sym is) (subst (λ (d : List ℕ). P word d) (sym behind) (own, more))

one-id-is : (word : ℕ) (slot : Option Slot) (slots : List (Option Slot)) (bytes rest : List ℕ) → word_in 0 bytes ≡ word → drop 4 bytes ≡ rest
    → ids_of (slot ∷ slots) bytes ≡ word ∷ ids_of slots rest
unfolding ids_of
one-id-is word slot slots bytes rest is behind =
    ap (λ (w : ℕ). w ∷ ids_of slots (drop 4 bytes)) is ∙ ap (λ (d : List ℕ). word ∷ ids_of slots d) behind

unused-id : (next : ℕ) (known : List ℕ) → is_id next known None 0 ≡ true
unfolding is_id
unused-id next known = refl

not-known : (known : List ℕ) (first : ℕ) → All (λ k. k ≤ first) known → not (list_any (λ k. k == first + 1) known) ≡ true
not-known known first all = ap not (list_any_none (λ k. k == first + 1) known (All-weaker (λ k. k ≤ first) (λ k. (k == first + 1) ≡ false)
    (λ k le. other k first le) known all))
  where
    other : (k first : ℕ) → k ≤ first → (k == first + 1) ≡ false
    other k first le = grind (arith, nat_tests)

used-id : (next first : ℕ) (known : List ℕ) (slot : Slot) → first + 1 < next → All (λ k. k ≤ first) known → is_id next known (Some slot) (first + 1) ≡ true
unfolding is_id
used-id next first known slot lt all =
    and-three (nat_le 1 (first + 1)) (nat_lt (first + 1) next) (not (list_any (λ k. k == first + 1) known))
    (ge-true (first + 1) (first + 1) 1 refl (omega arith)) (lt-true (first + 1) (first + 1) next refl lt) (not-known known first all)

-- ---- all ids

-- what is known of the ids of these rows, before which there are so many used ones: they are right, and those that count
-- are those of version 1
pub record AreIdsBack (next place first : ℕ) (known : List ℕ) (slots : List (Option Slot)) (rest : List ℕ) : Type 0 where
  pub holds : Hold (ids_checks next place known slots rest)
  pub files : (done : List FoundFile) (start : ℕ) → files_of done start slots (ids_of slots rest) ≡ files_of done start slots
      (numbers_from (first + 1) (length slots))

no-ids : (next place first zeros : ℕ) (known : List ℕ) → AreIdsBack next place first known [] (zeros_of zeros)
unfolding ids_checks files_of
no-ids next place first zeros known = record { holds = (zeros-are zeros, tt); files = λ done start. refl }

-- an id of an unused row may be any
unused-files : (done : List FoundFile) (start first word : ℕ) (slots : List (Option Slot)) (ids : List ℕ) → files_of done (start + 0) slots ids
    ≡ files_of done (start + 0) slots (numbers_from (first + 1 + 1) (length slots)) → files_of done start (None ∷ slots) (word ∷ ids) ≡ files_of done
    start (None ∷ slots) (numbers_from (first + 1) (suc (length slots)))
unfolding files_of numbers_from
unused-files done start first word slots ids same = same

used-files : (done : List FoundFile) (start first : ℕ) (slot : Slot) (slots : List (Option Slot)) (ids : List ℕ) → ((all : List FoundFile) (from : ℕ)
    → files_of all from slots ids ≡ files_of all from slots (numbers_from (first + 1 + 1) (length slots))) → files_of done start (Some slot ∷ slots)
    ((first + 1) ∷ ids) ≡ files_of done start (Some slot ∷ slots) (numbers_from (first + 1) (suc (length slots)))
unfolding files_of numbers_from
used-files done start first slot slots ids same = same (with_slot (first + 1) start (Some slot) done) (start + slot.blocks)

unused-back : (next place first : ℕ) (known : List ℕ) (slots : List (Option Slot)) (rest : List ℕ) → AreIdsBack next (place + 4) (first + 1)
    (known ++ 0 ∷ []) slots rest → AreIdsBack next place first known (None ∷ slots) (0 ∷ 0 ∷ 0 ∷ 0 ∷ rest)
unused-back next place first known slots rest more = record {
  holds = one-id next place 0 known None slots (0 ∷ 0 ∷ 0 ∷ 0 ∷ rest) rest (zero-word rest) refl (unused-id next known) more.holds;
  files = λ done start.
      ap (λ (ids : List ℕ). files_of done start (None ∷ slots) ids) (one-id-is 0 None slots (0 ∷ 0 ∷ 0 ∷ 0 ∷ rest) rest (zero-word rest) refl)
      ∙ unused-files done start first 0 slots (ids_of slots rest) (more.files done (start + 0));
}

zeros-front : (n zeros : ℕ) → zeros_of (4 * suc n + zeros) ≡ 0 ∷ 0 ∷ 0 ∷ 0 ∷ zeros_of (4 * n + zeros)
unfolding zeros_of
zeros-front n zeros = let e : 4 * suc n + zeros ≡ suc (suc (suc (suc (4 * n + zeros)))) = omega arith in ap (λ (k : ℕ). replicate k 0) e

unused-ids : (next place first zeros : ℕ) (known : List ℕ) (slots : List (Option Slot)) → AreFirst true slots → AreIdsBack next place first known
    slots (zeros_of (4 * length slots + zeros))
unused-ids next place first zeros known [] are = no-ids next place first (4 * 0 + zeros) known
unused-ids next place first zeros known (None ∷ slots) are =
    let Back : List ℕ → Type 0 = λ b. AreIdsBack next place first known (None ∷ slots) b in
    subst Back (sym (zeros-front (length slots) zeros))
    (unused-back next place first known slots (zeros_of (4 * length slots + zeros)) (unused-ids next (place + 4) (first + 1) zeros (known ++ 0 ∷ [])
    slots are))
unused-ids next place first zeros known (Some slot ∷ slots) are = let wrong : true ≡ false = are.0 in cc

used-back : (next place first : ℕ) (known : List ℕ) (slot : Slot) (slots : List (Option Slot)) (rest : List ℕ) → first + 1 < next → first + 1 < 2 ^ 32
    → All (λ k. k ≤ first) known → AreIdsBack next (place + 4) (first + 1) (known ++ (first + 1) ∷ []) slots rest → AreIdsBack next place first known
    (Some slot ∷ slots) (to_be_bytes w32 (first + 1) ++ rest)
used-back next place first known slot slots rest lt fits all more =
    let bytes = to_be_bytes w32 (first + 1) ++ rest in
    record {
      holds = one-id next place (first + 1) known (Some slot) slots bytes rest (id-word (first + 1) rest fits) refl (used-id next first known slot lt
          all) more.holds;
      files = λ done start.
          ap (λ (ids : List ℕ). files_of done start (Some slot ∷ slots) ids) (one-id-is (first + 1) (Some slot) slots bytes rest
          (id-word (first + 1) rest fits) refl)
          ∙ used-files done start first slot slots (ids_of slots rest) more.files;
    }

entries-front : (count first zeros : ℕ) → entries_bytes (suc count) first ++ zeros_of zeros ≡ to_be_bytes w32 (first + 1)
    ++ (entries_bytes count (first + 1) ++ zeros_of zeros)
unfolding entries_bytes
entries-front count first zeros = refl

no-entries : (first zeros : ℕ) → entries_bytes 0 first ++ zeros_of zeros ≡ zeros_of zeros
unfolding entries_bytes
no-entries first zeros = refl

pub ids-back : (next place first zeros : ℕ) (known : List ℕ) (slots : List (Option Slot)) → AreFirst false slots → All (λ k. k ≤ first) known
    → first + files_in slots < next → next ≤ 2147483648 → 4 * length slots ≤ 4 * files_in slots + zeros → AreIdsBack next place first known slots
    (entries_bytes (files_in slots) first ++ zeros_of zeros)
ids-back next place first zeros known [] are all lt few long =
    let Back : List ℕ → Type 0 = λ b. AreIdsBack next place first known [] b in
    subst Back (sym (no-entries first zeros)) (no-ids next place first zeros known)
ids-back next place first zeros known (None ∷ slots) are all lt few long =
    let none = none-used (None ∷ slots) are in
    let Back : List ℕ → Type 0 = λ b. AreIdsBack next place first known (None ∷ slots) b in
    let more = zeros - 4 * length (None ∷ slots) in
    let e : 4 * length (None ∷ slots) + more ≡ zeros = omega (arith, none, long) in
    subst Back (sym (ap (λ (n : ℕ). entries_bytes n first ++ zeros_of zeros) none ∙ no-entries first zeros ∙ sym (ap zeros_of e)))
    (unused-ids next place first more known (None ∷ slots) are)
ids-back next place first zeros known (Some slot ∷ slots) are all lt few long =
    let more = files-cons (Some slot) slots in
    let count : files_in (Some slot ∷ slots) ≡ suc (files_in slots) = omega (arith, more) in
    let Back : List ℕ → Type 0 = λ b. AreIdsBack next place first known (Some slot ∷ slots) b in
    let Below : ℕ → Type 0 = λ k. k ≤ first in
    let Next : ℕ → Type 0 = λ k. k ≤ first + 1 in
    let wider = All-weaker Below Next (λ k le. omega arith) known all in
    let then_known = All-append Next known ((first + 1) ∷ []) wider (All-cons Next (first + 1) [] (omega arith) (All-nil Next)) in
    subst Back (sym (ap (λ (n : ℕ). entries_bytes n first ++ zeros_of zeros) count ∙ entries-front (files_in slots) first zeros))
    (used-back next place first known slot slots (entries_bytes (files_in slots) (first + 1) ++ zeros_of zeros) (omega (arith, count))
    (omega (arith, count)) all
    (ids-back next (place + 4) (first + 1) zeros (known ++ (first + 1) ∷ []) slots are.1 then_known (omega (arith, count)) few (omega (arith, count))))
