-- The steps of a migration.
use Rattle.std.proofs.Common.{◌≡◌, ◌⊎◌, ◌≤◌, ◌<◌, ◌+◌, ℕ, List, ◌∷◌, Option, Some, None, Result, Ok, Err, length, get_or, drop, refl, sym, ap, subst}
use Rattle.std.proofs.Common.{◌∙◌, inl, inr, arith}
use Rattle.std.specs.List.{sum_by}
use Rattle.std.specs.Prelude.{OnOk}
use Rattle.std.proofs.lemmas.List.{at_drop_all, at_drop_more}
use Rattle.std.proofs.lemmas.List.Sums.{sum_by-cons}
use Rattle.nq_disk.specs.Bytes.{Torn, written}
use Rattle.nq_plan.specs.Standing.{image_area, stands_as}
use Rattle.nq_image.specs.Image.{FoundOne, ◌>>=◌, reached}
use Rattle.nq_image.specs.Kept.{kept_in, kept_one, numbers_from}
use Rattle.nq_image.specs.Layout.{block_place}
use Rattle.nq_image.specs.Reading.{Reads}
use Rattle.nq_image.specs.Rows.{blocks_of}
use Rattle.nq_image.specs.Seen.{seen_one}
use Rattle.nq_image.specs.Writing.{table_of_blocks}
use Rattle.nq_image.specs.declared.ImageFault.{ImageFault}
use Rattle.nq_image.specs.declared.ImageFault.TheVariants as image
use Rattle.nq_image.specs.declared.ImageOne.{ImageOne}
use Rattle.nq_image.specs.declared.Slot.{Slot}
use Rattle.nq_disk.specs.Batch.{IsFit}
use Rattle.nq_disk.specs.Saying.{Each}
use Rattle.nq_disk.specs.Whole.{IsClosed, OpensAfter, OpensAsOne, Settled, after}
use Rattle.nq_store.specs.Head.{if_reached}
use Rattle.nq_store.specs.Migrated.{blocks_in}
use Rattle.nq_store.specs.Prepared.{SameBelow, change_of, prepared, tabled}
use Rattle.nq_store.proofs.Leaving.{as-before, below-closed, below-stands, fits, mid-long, stands-one, then-begins, then-stands, then-two}
use Rattle.nq_store.proofs.Parts.{parts-of-one}
use Rattle.nq_store.proofs.Same.{opens-as-one, reaches-end}
use Rattle.nq_store.specs.Examining.{Examines, Tests}
use Rattle.nq_store.specs.Migrating.{CountsWriting, IsMigrated, IsOldImage, Migrates}
use Rattle.nq_store.specs.Opening.{CountsFault}
use Rattle.nq_store.specs.Storing.{kept_of, kept_on}
use Rattle.nq_store.specs.Telling.{fault_of}
use Rattle.nq_store.specs.declared.fault.Fault.{Fault}
use Rattle.nq_store.specs.declared.fault.Fault.TheVariants.{NotAnImage, BadField, Failed, Memory}

-- ---- what is so where a call answered Ok

pub on-ok : {E : Type 0} (result : Result Unit E) (P : Type 0) → (result ≡ Ok tt → P) → OnOk result P
on-ok (Ok tt) P f = f refl
on-ok (Err fault) P f = tt

pub then-ok : {E : Type 0} (result : Result Unit E) (P : Type 0) → result ≡ Ok tt → OnOk result P → P
then-ok {E} result P is known = subst (λ (r : Result Unit E). OnOk r P) is known

-- ---- the tables

pub sum-drop : (i : ℕ) (slots : List (Option Slot)) → i < length slots → sum_by blocks_of (drop i slots) ≡ blocks_of (get_or slots i None)
    + sum_by blocks_of (drop (i + 1) slots)
sum-drop i slots lt =
    let F : List (Option Slot) → ℕ = λ s. sum_by blocks_of s in
    let step : F (drop i slots) ≡ F (get_or slots i None ∷ drop (i + 1) slots) = at_drop_more F slots i None lt in
    step ∙ sum_by-cons blocks_of (get_or slots i None) (drop (i + 1) slots)

pub tabled-passes : (i place block : ℕ) (slots : List (Option Slot)) (now table whole : List ℕ) → i < length slots → table ≡ table_of_blocks
    (numbers_from block (blocks_of (get_or slots i None))) → tabled place block (drop i slots) now ≡ whole → tabled (place + 4096)
    (block + blocks_of (get_or slots i None)) (drop (i + 1) slots) (written place table now) ≡ whole
tabled-passes i place block slots now table whole lt is so =
    let F : List (Option Slot) → List ℕ = λ s. tabled place block s now in
    let step : F (drop i slots) ≡ F (get_or slots i None ∷ drop (i + 1) slots) = at_drop_more F slots i None lt in
    ap (λ (t : List ℕ). tabled (place + 4096) (block + blocks_of (get_or slots i None)) (drop (i + 1) slots) (written place t now)) is ∙ sym step ∙ so

pub no-table-left : (i place block : ℕ) (slots : List (Option Slot)) (now whole : List ℕ) → length slots ≤ i → tabled place block (drop i slots) now
    ≡ whole → now ≡ whole
no-table-left i place block slots now whole le so =
    let F : List (Option Slot) → List ℕ = λ s. tabled place block s now in
    let step : F (drop i slots) ≡ now = at_drop_all F slots i le in
    sym step ∙ so

pub same-itself : (end : ℕ) (bytes : List ℕ) → SameBelow end bytes bytes
same-itself end bytes = record { no_shorter = omega arith; same = λ k lt. refl }

pub torn-below : (end place n : ℕ) (old mid image : List ℕ) → end ≤ place → end ≤ length old → SameBelow end old mid → Torn place n mid image
    → SameBelow end old image
torn-below end place n old mid image le long same torn =
    let more = torn.no_shorter in
    let longer = same.no_shorter in
    record {
      no_shorter = omega arith;
      same = λ k lt. torn.outside k (omega (arith, lt, long, longer)) (inl (omega (arith, lt, le))) ∙ same.same k lt;
    }

-- ---- the whole

pub kept-same : (image bytes : List ℕ) → stands_as image ≡ stands_as bytes → kept_on image ≡ kept_on bytes
unfolding kept_on
kept-same image bytes same = ap kept_of same

pub counts-as : (result : Result (Unit {0}) Fault) (before now : ℕ) → CountsWriting result before now → CountsFault result before now
counts-as (Ok done) before now so = so
counts-as (Err NotAnImage) before now so = absurd so
counts-as (Err (BadField place)) before now so = absurd so
counts-as (Err Failed) before now so = so
counts-as (Err Memory) before now so = so

module _ (found : FoundOne) (may : List ℕ → Type 0) (old : List ℕ) (is : IsOldImage found may old) where
  abbrev end : ℕ
  end = block_place (blocks_in found.rows.slots)

  pub reach : block_place (blocks_in found.rows.slots) ≤ length old
  reach = let p = parts-of-one old found is.image in reaches-end (length old) (blocks_in found.rows.slots) p.long p.reaches

  pub below-kept : (image : List ℕ) → SameBelow (block_place (blocks_in found.rows.slots)) old image → kept_on image ≡ kept_on old
  below-kept image same = kept-same image old (below-stands found old is.image is.closed image same)

  -- the change of the numbers, on the disk with the tables
  module _ (middle : List ℕ → Type 0) (below : Each middle (SameBelow (block_place (blocks_in found.rows.slots)) old)) where
    pub all-closed : Each middle (IsClosed image_area)
    all-closed image left = below-closed found old is.image is.closed image (below image left)

    pub is-fit : IsFit image_area (length (prepared found.rows.slots old)) (change_of found)
    is-fit = fits found old is.image is.closed

    pub either-kept : (image : List ℕ) → OpensAsOne image_area middle image ⊎ OpensAfter image_area (change_of found) (prepared found.rows.slots old)
        image → kept_on image ≡ kept_on old
    either-kept image (inl before) =
        kept-same image old (as-before found old is.image is.closed before.0 image (below before.0 before.1) before.2)
    either-kept image (inr behind) =
        let size = mid-long found old is.image is.closed in
        let more = behind.0 in
        kept-same image old (then-stands found old is.image is.closed image (omega arith) behind.1)

  pub migrated-so : (tells : Option (List ℕ)) (then : List ℕ → Type 0) → Settled image_area (after image_area (change_of found)
      (prepared found.rows.slots old)) tells then → IsMigrated old tells then
  migrated-so tells then so =
      let long = so.closed.long in
      let same = then-stands found old is.image is.closed so.now (omega arith) so.opens in
      record {
        now = so.now;
        told = so.tells;
        closed = so.closed;
        alone = so.alone;
        named = then-begins found old is.image is.closed so.now (omega arith) so.opens;
        two = then-two found old is.image is.closed so.now (omega arith) so.opens so.closed;
        same = same;
        stands = (kept_in old (kept_one found), same ∙ stands-one found old is.image is.closed ∙ opens-as-one old found is.image);
      }

-- ---- what a migration answers

pub migrates-so : (result : Result (Unit {0}) Fault) (bytes : List ℕ) (tells : Option (List ℕ)) (may : List ℕ → Type 0) (before now : ℕ)
    → OnOk result (IsMigrated bytes tells may) → CountsWriting result before now → Migrates result bytes tells may
migrates-so (Ok done) bytes tells may before now known count = known
migrates-so (Err NotAnImage) bytes tells may before now known count = absurd count
migrates-so (Err (BadField place)) bytes tells may before now known count = absurd count
migrates-so (Err Failed) bytes tells may before now known count = tt
migrates-so (Err Memory) bytes tells may before now known count = tt

pub wrong-so : (fault : Fault) (told : Result FoundOne ℕ) (bytes : List ℕ) (tells : Option (List ℕ)) (may : List ℕ → Type 0) → Examines (Err fault)
    told → ((place : ℕ) → told ≡ Err place → stands_as bytes ≡ Some (Err place)) → tells ≡ Some bytes → Migrates (Err fault) bytes tells may
wrong-so NotAnImage told bytes tells may known wrong same = absurd known
wrong-so (BadField place) told bytes tells may known wrong same = (wrong place known, same)
wrong-so Failed told bytes tells may known wrong same = tt
wrong-so Memory told bytes tells may known wrong same = tt

-- ---- what is read of an image of version 1

pub head-wrong : (wrong : ImageFault) (told whole : Result FoundOne ℕ) (size : ℕ) → Reads seen_one (Err wrong) told
    → whole ≡ (told >>= if_reached size) → Examines (Err (fault_of wrong)) whole
head-wrong image.NotAnImage told whole size read is = absurd read
head-wrong (image.BadField place) told whole size read is = is ∙ ap (λ (r : Result FoundOne ℕ). r >>= if_reached size) read
head-wrong image.Memory told whole size read is = tt

-- the answer of a test of the reach, where the rows were right
pub reach-wrong : (fault : Fault) (read_as : ImageOne) (told whole : Result FoundOne ℕ) (size : ℕ) → Reads seen_one (Ok read_as) told
    → Tests (Err fault) (reached size (blocks_in read_as.rows.slots.items)) → whole ≡ (told >>= if_reached size) → Examines (Err fault) whole
reach-wrong NotAnImage read_as told whole size read test is = absurd test
reach-wrong (BadField place) read_as told whole size read test is =
    is ∙ ap (λ (r : Result FoundOne ℕ). r >>= if_reached size) read ∙ ap (λ (r : Result Unit ℕ). r >>= λ holds. Ok (seen_one read_as)) test
reach-wrong Failed read_as told whole size read test is = tt
reach-wrong Memory read_as told whole size read test is = absurd test

pub both-right : (read_as : ImageOne) (told whole : Result FoundOne ℕ) (size : ℕ) → Reads seen_one (Ok read_as) told
    → reached size (blocks_in read_as.rows.slots.items) ≡ Ok tt → whole ≡ (told >>= if_reached size) → whole ≡ Ok (seen_one read_as)
both-right read_as told whole size read test is =
    is ∙ ap (λ (r : Result FoundOne ℕ). r >>= if_reached size) read ∙ ap (λ (r : Result Unit ℕ). r >>= λ holds. Ok (seen_one read_as)) test
