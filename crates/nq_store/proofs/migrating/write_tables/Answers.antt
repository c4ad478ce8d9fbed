use Rattle.std.proofs.Common.{◌≡◌, ◌+◌, ℕ, List, Some, None, length, get_or, drop, refl, sym, ap, subst, ◌∙◌, inr, arith}
use Rattle.std.proofs.lemmas.List.{get_or_default}
use Rattle.nq_disk.specs.Bytes.{written}
use Rattle.nq_disk.specs.Calling.{told_after}
use Rattle.nq_image.specs.Kept.{numbers_from}
use Rattle.nq_image.specs.Layout.{block_place}
use Rattle.nq_image.specs.Rows.{blocks_of}
use Rattle.nq_image.specs.Writing.{table_of_blocks}
use Rattle.nq_store.specs.Prepared.{SameBelow, tabled}
use Rattle.nq_store.proofs.Migrated.{no-table-left, same-itself, sum-drop, tabled-passes, torn-below}
use Rattle.nq_store.proofs.Zeroing.{through}
use Rattle.nq_store.proofs.migrating.write_tables.Goals as goal

pub loop-slot-init : goal.loop-slot-init
loop-slot-init g c = record {
  follows = g.met.D.Disk.follows_itself c.args.disk.now;
  faults = refl;
  place = omega (arith, c.block_place-place.ensures);
  left = omega arith;
  told = λ old told. (old, told, ap (λ (p : ℕ). tabled p 0 c.args.slots.now old) c.block_place-place.ensures);
  below = λ old told only long image left.
      subst (λ (i : List ℕ). SameBelow (block_place c.args.tables) old i) (sym (only image (g.met.D.Disk.leaves_now c.args.disk.now image left)))
      (same-itself (block_place c.args.tables) old);
}

pub table_from-requires-clause-few : goal.table_from-requires-clause-few
table_from-requires-clause-few g c =
    let i = c.loop-slot.slot-index in
    let slots = c.args.slots.now in
    let lt = c.loop-slot-test.true in
    let same : c.slot-item.result ≡ get_or slots i None = c.slot-item.is ∙ get_or_default slots i c.slot-item.result None lt in
    let count : c.blocks_of-count.result ≡ blocks_of (get_or slots i None) = c.blocks_of-count.ensures ∙ ap blocks_of same in
    let left = c.loop-slot.invariant.left in
    let few = c.requires.sized.few in
    omega (arith, left, few, count, sum-drop i slots lt)

pub table_from-requires-clause-short : goal.table_from-requires-clause-short
table_from-requires-clause-short g c =
    let i = c.loop-slot.slot-index in
    let slots = c.args.slots.now in
    let lt = c.loop-slot-test.true in
    let same : c.slot-item.result ≡ get_or slots i None = c.slot-item.is ∙ get_or_default slots i c.slot-item.result None lt in
    let count : c.blocks_of-count.result ≡ blocks_of (get_or slots i None) = c.blocks_of-count.ensures ∙ ap blocks_of same in
    omega (arith, count, c.requires.sized.short i None lt)

pub overflow_add-first : goal.overflow_add-first
overflow_add-first g c =
    let i = c.loop-slot.slot-index in
    let slots = c.args.slots.now in
    let lt = c.loop-slot-test.true in
    let same : c.slot-item.result ≡ get_or slots i None = c.slot-item.is ∙ get_or_default slots i c.slot-item.result None lt in
    let count : c.blocks_of-count.result ≡ blocks_of (get_or slots i None) = c.blocks_of-count.ensures ∙ ap blocks_of same in
    let left = c.loop-slot.invariant.left in
    let few = c.requires.sized.few in
    omega (arith, left, few, count, sum-drop i slots lt)

pub loop-slot-preserved : goal.loop-slot-preserved
loop-slot-preserved g c =
    let so = c.loop-slot.invariant in
    let i = c.loop-slot.slot-index in
    let slots = c.args.slots.now in
    let place = c.loop-slot.place in
    let first = c.loop-slot.first in
    let lt = c.loop-slot-test.true in
    let same : c.slot-item.result ≡ get_or slots i None = c.slot-item.is ∙ get_or_default slots i c.slot-item.result None lt in
    let count : c.blocks_of-count.result ≡ blocks_of (get_or slots i None) = c.blocks_of-count.ensures ∙ ap blocks_of same in
    let part = c.deref.result.now in
    let table : part ≡ table_of_blocks (numbers_from first (blocks_of (get_or slots i None))) = c.deref.ensures.value ∙ c.in_ok-table.ensures
    ∙ ap (λ (n : ℕ). table_of_blocks (numbers_from first n)) count in
    let left = so.left in
    let at = so.place in
    record {
      follows = g.met.D.Disk.follows_on c.args.disk.now c.loop-slot.disk c.write_at.new.self so.follows c.write_at.ensures.follows;
      faults = c.in_ok-write_at.ensures.cause ∙ so.faults;
      place = omega (arith, at);
      left = omega (arith, left, count, sum-drop i slots lt);
      told = λ old told.
          let t = so.told old told in (
            written place part t.0,
            c.in_ok-write_at.ensures.writes ∙ ap (told_after place part) t.1,
            ap (λ (n : ℕ). tabled (place + 4096) (first + n) (drop (i + 1) slots) (written place part t.0)) count
                ∙ tabled-passes i place first slots t.0 part (tabled (block_place c.args.tables) 0 slots old) lt table t.2,
          );
      below = λ old told only long image left.
          through (SameBelow (block_place c.args.tables) old) _ _ image
          (g.met.D.Disk.parts c.args.disk.now c.loop-slot.disk c.write_at.new.self image so.follows c.write_at.ensures.follows left)
          (so.below old told only long image)
          (λ l.
          let from = c.write_at.ensures.leaves image l in
          let mid = so.below old told only long from.0 (g.met.D.Disk.leaves_ends c.args.disk.now c.loop-slot.disk from.0 so.follows (inr from.1)) in
          torn-below (block_place c.args.tables) place (length part) old from.0 image (omega (arith, at)) long mid from.2);
    }

pub returns-in_err-table-clause-below : goal.returns-in_err-table-clause-below
returns-in_err-table-clause-below g c = c.loop-slot.invariant.below

pub returns-in_err-write_at-clause-below : goal.returns-in_err-write_at-clause-below
returns-in_err-write_at-clause-below g c =
    let so = c.loop-slot.invariant in
    let place = c.loop-slot.place in
    let part = c.deref.result.now in
    let at = so.place in
    λ old told only long image left.
    through (SameBelow (block_place c.args.tables) old) _ _ image
    (g.met.D.Disk.parts c.args.disk.now c.loop-slot.disk c.write_at.new.self image so.follows c.write_at.ensures.follows left)
    (so.below old told only long image)
    (λ l.
    let from = c.write_at.ensures.leaves image l in
    let mid = so.below old told only long from.0 (g.met.D.Disk.leaves_ends c.args.disk.now c.loop-slot.disk from.0 so.follows (inr from.1)) in
    torn-below (block_place c.args.tables) place (length part) old from.0 image (omega (arith, at)) long mid from.2)

pub returns-clause-below : goal.returns-clause-below
returns-clause-below g c = c.loop-slot.invariant.below

pub returns-clause-written : goal.returns-clause-written
returns-clause-written g c = λ old told.
    let t = c.loop-slot.invariant.told old told in
    t.1 ∙ ap Some (no-table-left c.loop-slot.slot-index c.loop-slot.place c.loop-slot.first c.args.slots.now t.0 (tabled (block_place c.args.tables) 0
    c.args.slots.now old) c.loop-slot-test.false t.2)
