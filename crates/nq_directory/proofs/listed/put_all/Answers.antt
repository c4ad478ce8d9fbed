use Rattle.std.proofs.Common.{◌∙◌, ◌+◌, sym, ap, arith, drop}
use Rattle.nq_directory.specs.Names.{put_names}
use Rattle.nq_directory.proofs.Order.{put-next, put-none}
use Rattle.nq_directory.proofs.listed.put_all.Goals as goal

pub loop-entry-preserved : goal.loop-entry-preserved
loop-entry-preserved c = record {
  same =
      c.loop-entry.invariant.same
      ∙ put-next c.args.more.now c.loop-entry.entry-index c.entry-item.result c.loop-entry.names.items c.loop-entry-test.true c.entry-item.is
      ∙ ap (put_names (drop (c.loop-entry.entry-index + 1) c.args.more.now)) (sym c.put_entry.ensures.items);
  fronted = c.put_entry.ensures.fronted;
  room =
      let len = c.put_entry.ensures.len in
      let capacity = c.put_entry.ensures.capacity in
      let before = c.loop-entry.invariant.room in
      let lt = c.loop-entry-test.true in
      omega arith;
  front_room =
      let len = c.put_entry.ensures.front_len in
      let capacity = c.put_entry.ensures.front_capacity in
      let before = c.loop-entry.invariant.front_room in
      let lt = c.loop-entry-test.true in
      omega arith;
}

pub returns : goal.returns
returns c = record {
  items = sym (c.loop-entry.invariant.same ∙ put-none c.args.more.now c.loop-entry.entry-index c.loop-entry.names.items c.loop-entry-test.false);
  fronted = c.loop-entry.invariant.fronted;
}
