use Rattle.std.proofs.Common.{◌≤◌, ◌+◌, ℕ, List, Some, length, ap, subst, ◌∙◌, inr, arith}
use Rattle.nq_disk.specs.Bytes.{written}
use Rattle.nq_disk.specs.Calling.{told_after}
use Rattle.nq_image.specs.Kept.{numbers_from}
use Rattle.nq_image.specs.Layout.{block_place}
use Rattle.nq_image.specs.Writing.{table_of_blocks}
use Rattle.nq_disk.specs.Saying.{Each}
use Rattle.nq_store.specs.Migrated.{blocks_in}
use Rattle.nq_store.specs.Prepared.{SameBelow, tabled}
use Rattle.nq_store.proofs.Migrated.{torn-below}
use Rattle.nq_store.proofs.Zeroing.{through}
use Rattle.nq_store.proofs.migrating.prepare.Goals as goal

pub returns-in_err-write_tables-clause-below : goal.returns-in_err-write_tables-clause-below
returns-in_err-write_tables-clause-below g c = λ old told only.
    let Below : ℕ → Type 0 = λ n. block_place n ≤ length old → Each (g.D.Disk.leaves c.args.disk.now c.write_tables.new.disk)
    (SameBelow (block_place n) old) in
    subst Below c.blocks_in-tables.ensures (c.write_tables.ensures.below old told only)

pub returns-in_err-ids-clause-below : goal.returns-in_err-ids-clause-below
returns-in_err-ids-clause-below g c = λ old told only.
    let Below : ℕ → Type 0 = λ n. block_place n ≤ length old → Each (g.D.Disk.leaves c.args.disk.now c.write_tables.new.disk)
    (SameBelow (block_place n) old) in
    subst Below c.blocks_in-tables.ensures (c.write_tables.ensures.below old told only)

pub returns-in_err-write_at-clause-below : goal.returns-in_err-write_at-clause-below
returns-in_err-write_at-clause-below g c = λ old told only long image left.
    let end = block_place (blocks_in c.args.slots.now) in
    let Below : ℕ → Type 0 = λ n. block_place n ≤ length old → Each (g.D.Disk.leaves c.args.disk.now c.write_tables.new.disk)
    (SameBelow (block_place n) old) in
    let first = subst Below c.blocks_in-tables.ensures (c.write_tables.ensures.below old told only) long in
    through (SameBelow end old) _ _ image
    (g.met.D.Disk.parts c.args.disk.now c.write_tables.new.disk c.write_at.new.self image c.write_tables.ensures.follows c.write_at.ensures.follows left)
    (first image)
    (λ l.
    let from = c.write_at.ensures.leaves image l in
    let mid = first from.0 (g.met.D.Disk.leaves_ends c.args.disk.now c.write_tables.new.disk from.0 c.write_tables.ensures.follows (inr from.1)) in
    torn-below end c.block_place.result _ old from.0 image (omega (arith, c.block_place.ensures, c.blocks_in-tables.ensures)) long mid from.2)

pub returns-clause-below : goal.returns-clause-below
returns-clause-below g c = λ old told only long image left.
    let end = block_place (blocks_in c.args.slots.now) in
    let Below : ℕ → Type 0 = λ n. block_place n ≤ length old → Each (g.D.Disk.leaves c.args.disk.now c.write_tables.new.disk)
    (SameBelow (block_place n) old) in
    let first = subst Below c.blocks_in-tables.ensures (c.write_tables.ensures.below old told only) long in
    through (SameBelow end old) _ _ image
    (g.met.D.Disk.parts c.args.disk.now c.write_tables.new.disk c.write_at.new.self image c.write_tables.ensures.follows c.write_at.ensures.follows left)
    (first image)
    (λ l.
    let from = c.write_at.ensures.leaves image l in
    let mid = first from.0 (g.met.D.Disk.leaves_ends c.args.disk.now c.write_tables.new.disk from.0 c.write_tables.ensures.follows (inr from.1)) in
    torn-below end c.block_place.result _ old from.0 image (omega (arith, c.block_place.ensures, c.blocks_in-tables.ensures)) long mid from.2)

pub returns-clause-written : goal.returns-clause-written
returns-clause-written g c = λ old told.
    let slots = c.args.slots.now in
    let ids = c.deref.ensures.value ∙ c.in_ok-ids.ensures ∙ ap (λ (n : ℕ). table_of_blocks (numbers_from 0 n)) c.files_in.ensures.count in
    let tables = c.blocks_in-tables.ensures in
    c.in_ok-write_at.ensures.writes
    ∙ ap (told_after c.block_place.result c.deref.result.now) (c.in_ok-write_tables.ensures.written old told)
    ∙ ap (λ (p : ℕ). Some (written p c.deref.result.now (tabled (block_place c.blocks_in-tables.result) 0 slots old))) c.block_place.ensures
    ∙ ap (λ (n : ℕ). Some (written (block_place (n + 256)) c.deref.result.now (tabled (block_place n) 0 slots old))) tables
    ∙ ap (λ (b : List ℕ). Some (written (block_place (blocks_in slots + 256)) b (tabled (block_place (blocks_in slots)) 0 slots old))) ids
