-- What a migration writes stands where it was written, and nothing below it changes.
use Rattle.std.proofs.Common.{◌≡◌, ◌≤◌, ◌<◌, ◌+◌, ◌-◌, ◌*◌, ℕ, List, [], ◌∷◌, Option, length, get_or, refl, sym, ap, ◌∙◌, inl, inr, arith}
use Rattle.std.specs.List.{All}
use Rattle.std.proofs.lemmas.List.{ext_get_or}
use Rattle.std.proofs.lemmas.List.Elements.{All-head, All-tail}
use Rattle.nq_disk.specs.Bytes.{written}
use Rattle.nq_disk.specs.BytesLaws.{length-written, written-outside, written-within}
use Rattle.nq_image.specs.Kept.{numbers_from}
use Rattle.nq_image.specs.Layout.{block_place, piece}
use Rattle.nq_image.specs.Rows.{blocks_of}
use Rattle.nq_image.specs.Writing.{table_of_blocks}
use Rattle.nq_image.specs.declared.Slot.{Slot}
use Rattle.nq_image.proofs.Giving.{length-numbers}
use Rattle.nq_image.proofs.Overwriting.{length-of-table}
use Rattle.nq_image.proofs.Pieces.{at-piece, length-piece, piece-same}
use Rattle.nq_store.specs.Migrated.{HasTables, blocks_in, files_in}
use Rattle.nq_store.specs.Prepared.{SameBelow, prepared, tabled}

-- ---- one part

back : (p k : ℕ) → p + k - p ≡ k
back p k = omega arith

pub written-there : (place size : ℕ) (part bytes : List ℕ) → 0 < size → length part ≡ size → piece place size (written place part bytes) ≡ part
written-there place size part bytes some long =
    let new = written place part bytes in
    let all = length-written place part bytes (inr (omega (arith, long, some))) in
    let whole : place + size ≤ length new = omega (arith, all, long) in
    ext_get_or 0 (piece place size new) part (length-piece place size new whole ∙ sym long)
    (λ k lt. at k (omega (arith, lt, length-piece place size new whole)))
  where
    at : (k : ℕ) → k < size → get_or (piece place size (written place part bytes)) k 0 ≡ get_or part k 0
    at k lt =
        at-piece place size k (written place part bytes) lt
        ∙ written-within place part bytes (place + k) (omega arith) (omega (arith, lt, long))
        ∙ ap (λ (i : ℕ). get_or part i 0) (back place k)

pub same-on : (end : ℕ) (one two three : List ℕ) → SameBelow end one two → SameBelow end two three → SameBelow end one three
same-on end one two three a b =
    let x = a.no_shorter in
    let y = b.no_shorter in
    record { no_shorter = omega arith; same = λ k lt. b.same k lt ∙ a.same k lt }

pub same-less : (less end : ℕ) (old new : List ℕ) → less ≤ end → SameBelow end old new → SameBelow less old new
same-less less end old new le a = record { no_shorter = a.no_shorter; same = λ k lt. a.same k (omega (arith, le, lt)) }

pub written-below : (end place size : ℕ) (part bytes : List ℕ) → end ≤ place → 0 < size → length part ≡ size → SameBelow end bytes (written place part bytes)
written-below end place size part bytes le some long =
    let all = length-written place part bytes (inr (omega (arith, long, some))) in
    record { no_shorter = omega (arith, all); same = λ k lt. written-outside place part bytes k (inl (omega (arith, le, lt))) }

pub piece-below : (end place size : ℕ) (old new : List ℕ) → place + size ≤ end → end ≤ length old → SameBelow end old new → piece place size new
    ≡ piece place size old
piece-below end place size old new within long same =
    let longer = same.no_shorter in
    piece-same place size new old (omega (arith, within, long, longer)) (omega (arith, within, long)) (λ k lt. same.same (place + k)
    (omega (arith, within, lt)))

-- ---- the tables

pub length-table : (block count : ℕ) → count ≤ 1024 → length (table_of_blocks (numbers_from block count)) ≡ 4096
length-table block count few = length-of-table (numbers_from block count) (omega (arith, few, length-numbers block count))

pub record IsTabled (place block : ℕ) (slots : List (Option Slot)) (old new : List ℕ) : Type 0 where
  pub below : SameBelow place old new
  pub has : HasTables place block slots new
  pub whole : place + 4096 * length slots ≤ length new

pub tabled-is : (place block : ℕ) (slots : List (Option Slot)) (old : List ℕ) → place ≤ length old → All (λ slot. blocks_of slot ≤ 1024) slots
    → IsTabled place block slots old (tabled place block slots old)
tabled-is place block [] old long few = record {
  below = record { no_shorter = omega arith; same = λ k lt. refl };
  has = tt;
  whole = omega (arith, long);
}
tabled-is place block (slot ∷ slots) old long few =
    let n = blocks_of slot in
    let table = table_of_blocks (numbers_from block n) in
    let mid = written place table old in
    let size = length-table block n (All-head (λ (s : Option Slot). blocks_of s ≤ 1024) slot slots few) in
    let all = length-written place table old (inr (omega (arith, size))) in
    let reach : place + 4096 ≤ length mid = omega (arith, all, size) in
    let more = tabled-is (place + 4096) (block + n) slots mid reach (All-tail (λ (s : Option Slot). blocks_of s ≤ 1024) slot slots few) in
    let first = same-on place old mid (tabled (place + 4096) (block + n) slots mid) (written-below place place 4096 table old (omega arith)
    (omega arith) size) (same-less place (place + 4096) mid (tabled (place + 4096) (block + n) slots mid) (omega arith) more.below) in
    let whole = more.whole in
    record {
      below = first;
      has = (
        piece-below (place + 4096) place 4096 mid (tabled (place + 4096) (block + n) slots mid) (omega arith) reach more.below ∙ written-there place
            4096 table old (omega arith) size,
        more.has,
      );
      whole = omega (arith, whole);
    }

-- tables stay where the bytes stay
pub tables-stay : (place block : ℕ) (slots : List (Option Slot)) (old new : List ℕ) → place + 4096 * length slots ≤ length old → place + 4096 * length
    slots ≤ length new → ((k : ℕ) → place ≤ k → k < place + 4096 * length slots → get_or new k 0 ≡ get_or old k 0) → HasTables place block slots old
    → HasTables place block slots new
tables-stay place block [] old new one two same has = tt
tables-stay place block (slot ∷ slots) old new one two same has = (
  piece-same place 4096 new old (omega (arith, two)) (omega (arith, one)) (λ k lt. same (place + k) (omega arith) (omega (arith, lt))) ∙ has.0,
  tables-stay (place + 4096) (block + blocks_of slot) slots old new (omega (arith, one)) (omega (arith, two)) (λ k le lt. same k (omega (arith, le))
      (omega (arith, lt))) has.1,
)

-- ---- all that is written before the change

pub record IsPrepared (slots : List (Option Slot)) (old new : List ℕ) : Type 0 where
  pub below : SameBelow (block_place (blocks_in slots)) old new
  pub has : HasTables (block_place (blocks_in slots)) 0 slots new
  pub ids : piece (block_place (blocks_in slots) + 1048576) 4096 new ≡ table_of_blocks (numbers_from 0 (files_in slots))
  pub whole : block_place (blocks_in slots) + 1052672 ≤ length new

pub prepared-is : (slots : List (Option Slot)) (old : List ℕ) → length slots ≡ 256 → files_in slots ≤ 256 → All (λ slot. blocks_of slot ≤ 1024) slots
    → block_place (blocks_in slots) ≤ length old → IsPrepared slots old (prepared slots old)
prepared-is slots old every few short long =
    let place = block_place (blocks_in slots) in
    let behind = block_place (blocks_in slots + 256) in
    let e : behind ≡ place + 1048576 = omega arith in
    let ids = table_of_blocks (numbers_from 0 (files_in slots)) in
    let size = length-table 0 (files_in slots) (omega (arith, few)) in
    let mid = tabled place 0 slots old in
    let is = tabled-is place 0 slots old long short in
    let whole = is.whole in
    let reach : behind ≤ length mid = omega (arith, whole, every, e) in
    let new = written behind ids mid in
    let all = length-written behind ids mid (inr (omega (arith, size))) in
    let over = written-below behind behind 4096 ids mid (omega arith) (omega arith) size in
    record {
      below = same-on place old mid new is.below (same-less place behind mid new (omega (arith, e)) over);
      has = tables-stay place 0 slots mid new whole (omega (arith, all, size, every, e)) (λ k le lt. over.same k (omega (arith, lt, every, e))) is.has;
      ids = ap (λ (p : ℕ). piece p 4096 new) (sym e) ∙ written-there behind 4096 ids mid (omega arith) size;
      whole = omega (arith, all, size, e);
    }
