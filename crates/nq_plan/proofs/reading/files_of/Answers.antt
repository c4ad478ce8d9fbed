use Rattle.std.proofs.Common.{◌∷◌, [], ℕ, List, drop, length, take, ap, ◌∙◌, arith, length-append, length-drop}
use Rattle.std.specs.Prelude.{slice_index_or}
use Rattle.nq_plan.proofs.Shifting.{no-row-left, row-passes}
use Rattle.nq_plan.specs.Reading.{row_from, rows_of}
use Rattle.nq_plan.proofs.reading.files_of.Goals as goal

pub first_of-id-requires : goal.first_of-id-requires
first_of-id-requires c = let left = c.loop-slot.invariant.left in let lt = c.loop-slot-test.true in let few = c.requires.few in omega (arith, left, lt, few)

pub loop-slot-preserved : goal.loop-slot-preserved
loop-slot-preserved c =
    let so = c.loop-slot.invariant in
    let slot = c.slot-item.result in
    let number = c.loop-slot.number in
    let left = c.loop-slot.left.now in
    let rest = c.loop-slot.rest.now in
    let own = c.split_blocks.result.0.now in
    let row_is = c.in_ok-row.ensures
    ∙ ap (λ (id : ℕ). row_from number slot id own) c.first_of-id.ensures
    ∙ ap (λ (b : List ℕ). row_from number slot (slice_index_or left 0 0) b) (c.split_blocks.ensures.own ∙ ap (λ (n : ℕ). take n rest) c.blocks_of.ensures) in
    let behind_is = c.split_blocks.ensures.behind ∙ ap (λ (n : ℕ). drop n rest) c.blocks_of.ensures in
    let pushed = c.in_ok-push.ensures.items in
    record {
      number = let n = so.number in omega (arith, n);
      left = let l = so.left in omega (arith, l, ap length c.split_at.ensures.back, length-drop 1 left);
      size = let n = so.size in omega (arith, n, ap length pushed, length-append c.loop-slot.rows.items (c.in_ok-row.row ∷ []));
      same = rw pushed (row-passes c.loop-slot.slot-index number c.args.slots.now slot left c.split_at.result.1.now rest c.split_blocks.result.1.now
          c.in_ok-row.row c.loop-slot.rows.items (rows_of 0 c.args.slots.now c.args.ids.now c.args.blocks.now) c.loop-slot-test.true c.slot-item.is
          row_is c.split_at.ensures.back behind_is so.same);
    }

pub returns-clause-told : goal.returns-clause-told
returns-clause-told c = no-row-left c.loop-slot.slot-index c.loop-slot.number c.args.slots.now c.loop-slot.left.now c.loop-slot.rest.now
    c.loop-slot.rows.items (rows_of 0 c.args.slots.now c.args.ids.now c.args.blocks.now) c.loop-slot-test.false c.loop-slot.invariant.same
