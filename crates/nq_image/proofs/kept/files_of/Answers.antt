use Rattle.std.proofs.Common.{◌≤◌, ◌+◌, [], length, arith}
use Rattle.std.specs.List.{sum_by}
use Rattle.nq_image.specs.Kept.{files_of}
use Rattle.nq_image.specs.Rows.{blocks_of}
use Rattle.nq_image.proofs.KeptWalks.{start-goes-on, file-goes-on, no-file-left}
use Rattle.nq_image.proofs.kept.files_of.Goals as goal

pub overflow_add-start : goal.overflow_add-start
overflow_add-start c =
    let left = start-goes-on c.loop-slot.slot-index c.loop-slot.start c.blocks_of-own.result (sum_by blocks_of c.args.slots.now) c.args.slots.now
    c.slot-item.result c.loop-slot-test.true c.slot-item.is c.blocks_of-own.ensures c.loop-slot.invariant.start in
    let few = c.requires.few in
    omega (arith, left, few)

pub loop-slot-preserved : goal.loop-slot-preserved
loop-slot-preserved c =
    let left = start-goes-on c.loop-slot.slot-index c.loop-slot.start c.blocks_of-own.result (sum_by blocks_of c.args.slots.now) c.args.slots.now
    c.slot-item.result c.loop-slot-test.true c.slot-item.is c.blocks_of-own.ensures c.loop-slot.invariant.start in
    let size = c.in_ok-put_slot.ensures.size in
    let many : length c.put_slot.new.files.items ≤ c.loop-slot.slot-index + 1 = omega (arith, size, c.loop-slot.invariant.many) in
    record {
      size = omega arith;
      start = left;
      many = many;
      same = file-goes-on c.loop-slot.slot-index c.loop-slot.start c.first_of-id.result c.blocks_of-own.result c.loop-slot.files.items
          c.put_slot.new.files.items c.args.slots.now c.slot-item.result c.loop-slot.rest.now c.split_at.result.1.now (files_of [] 0 c.args.slots.now
          c.args.ids.now) c.loop-slot-test.true c.slot-item.is c.first_of-id.ensures c.blocks_of-own.ensures c.in_ok-put_slot.ensures.items
          c.split_at.ensures.back c.loop-slot.invariant.same;
    }

pub returns-clause-told : goal.returns-clause-told
returns-clause-told c = no-file-left c.loop-slot.slot-index c.loop-slot.start c.loop-slot.files.items c.args.slots.now c.loop-slot.rest.now
    (files_of [] 0 c.args.slots.now c.args.ids.now) c.loop-slot-test.false c.loop-slot.invariant.same
