use Rattle.std.proofs.Common.{◌≡◌, ◌≤◌, ◌⊎◌, List, Option, length, sym, ap, subst, inr}
use Rattle.nq_plan.specs.Standing.{image_area}
use Rattle.nq_image.specs.Layout.{block_place}
use Rattle.nq_image.specs.declared.Slot.{Slot}
use Rattle.nq_disk.specs.Batch.{IsFit}
use Rattle.nq_disk.specs.Ranges.{Range}
use Rattle.nq_disk.specs.Saying.{Each}
use Rattle.nq_disk.specs.Whole.{IsClosed, OpensAfter, OpensAsOne, Settled, after}
use Rattle.nq_store.specs.Migrated.{blocks_in}
use Rattle.nq_store.specs.Prepared.{SameBelow, prepared}
use Rattle.nq_store.specs.Storing.{kept_on}
use Rattle.nq_store.proofs.Migrated.{all-closed, below-kept, either-kept, is-fit, migrated-so, on-ok, reach, then-ok}
use Rattle.nq_store.proofs.Zeroing.{through}
use Rattle.nq_store.proofs.migrating.rewrite.Goals as goal

pub returns-in_err-batch-clause-leaves : goal.returns-in_err-batch-clause-leaves
returns-in_err-batch-clause-leaves g c = λ old told found is o image left. ap kept_on (o.alone image (g.met.D.Disk.leaves_now c.args.redo.now.disk image left))

pub returns-in_err-prepare-clause-leaves : goal.returns-in_err-prepare-clause-leaves
returns-in_err-prepare-clause-leaves g c = λ old told found is o image left.
    let may = g.D.Disk.may_leave c.args.redo.now.disk in
    let Reach : List (Option Slot) → Type 0 = λ s. block_place (blocks_in s) ≤ length old in
    let Below : List (Option Slot) → Type 0 = λ s. SameBelow (block_place (blocks_in s)) old image in
    below-kept found may old o image (subst Below (sym is.slots_are) (c.prepare.ensures.below old told o.alone
    (subst Reach is.slots_are (reach found may old o)) image left))

pub returns-clause-migrated : goal.returns-clause-migrated
returns-clause-migrated g c = on-ok c.finish.result _ (λ ok old told found is o.
    let may = g.D.Disk.may_leave c.args.redo.now.disk in
    let middle = g.D.Disk.may_leave c.prepare.new.disk in
    let Reach : List (Option Slot) → Type 0 = λ s. block_place (blocks_in s) ≤ length old in
    let AllBelow : List (Option Slot) → Type 0 = λ s. Each middle (SameBelow (block_place (blocks_in s)) old) in
    let below = subst AllBelow (sym is.slots_are) (λ i m. c.prepare.ensures.below old told o.alone (subst Reach is.slots_are (reach found may old o))
    i (g.met.D.Disk.leaves_ends c.args.redo.now.disk c.prepare.new.disk i c.prepare.ensures.follows (inr m))) in
    let Made : List (Option Slot) → List Range → Type 0 = λ s b. Each middle (IsClosed image_area) → IsFit image_area (length (prepared s old)) b
    → Settled image_area (after image_area b (prepared s old)) (g.D.Disk.told c.finish.new.redo.disk) (g.D.Disk.may_leave c.finish.new.redo.disk) in
    let batch = c.in_ok-batch.ensures found is in
    let made = subst (λ (b : List Range). Made found.rows.slots b) batch (subst (λ (s : List (Option Slot)). Made s c.in_ok-batch.batch)
    (sym is.slots_are) (then-ok c.finish.result _ ok c.finish.ensures.settled (prepared c.args.slots.now old) (c.in_ok-prepare.ensures.written old
    told))) in
    migrated-so found may old o _ _ (made (all-closed found may old o middle below) (is-fit found may old o middle below)))

pub returns-clause-leaves : goal.returns-clause-leaves
returns-clause-leaves g c = λ old told found is o image left.
    let may = g.D.Disk.may_leave c.args.redo.now.disk in
    let middle = g.D.Disk.may_leave c.prepare.new.disk in
    let Reach : List (Option Slot) → Type 0 = λ s. block_place (blocks_in s) ≤ length old in
    let AllBelow : List (Option Slot) → Type 0 = λ s. Each (g.D.Disk.leaves c.args.redo.now.disk c.prepare.new.disk)
    (SameBelow (block_place (blocks_in s)) old) in
    let all = subst AllBelow (sym is.slots_are) (c.prepare.ensures.below old told o.alone (subst Reach is.slots_are (reach found may old o))) in
    let below : Each middle (SameBelow (block_place (blocks_in found.rows.slots)) old) = λ i m. all i (g.met.D.Disk.leaves_ends c.args.redo.now.disk
    c.prepare.new.disk i c.prepare.ensures.follows (inr m)) in
    let Made : List (Option Slot) → List Range → Type 0 = λ s b. Each middle (IsClosed image_area) → IsFit image_area (length (prepared s old)) b
    → Each (g.D.Disk.leaves c.prepare.new.disk c.finish.new.redo.disk) (λ i. OpensAsOne image_area middle i ⊎ OpensAfter image_area b
    (prepared s old) i) in
    let batch = c.in_ok-batch.ensures found is in
    let made = subst (λ (b : List Range). Made found.rows.slots b) batch (subst (λ (s : List (Option Slot)). Made s c.in_ok-batch.batch)
    (sym is.slots_are) (c.finish.ensures.whole (prepared c.args.slots.now old) (c.in_ok-prepare.ensures.written old told))) in
    through (λ i. kept_on i ≡ kept_on old) _ _ image
    (g.met.D.Disk.parts c.args.redo.now.disk c.prepare.new.disk c.finish.new.redo.disk image c.prepare.ensures.follows c.finish.ensures.follows left)
    (λ l. below-kept found may old o image (all image l))
    (λ l. either-kept found may old o middle below image (made (all-closed found may old o middle below) (is-fit found may old o middle below) image l))
