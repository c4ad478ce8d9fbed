use Rattle.std.proofs.Common.{◌<◌, ◌∷◌, [], length, sym, ◌∙◌, arith, length-append}
use Rattle.nq_plan.specs.Placing.{free_blocks}
use Rattle.nq_plan.proofs.Walking.{all-looked-at, free-passes, given-passes, none-looked-at}
use Rattle.nq_plan.proofs.tables.Tables.free_blocks.Goals as goal
use Rattle.nq_plan.proofs.tables.Tables.free_blocks.Goals.{then-is_free+in_ok-push, else-is_free}

pub loop-block-init : goal.loop-block-init
loop-block-init c =
    let none = c.in_ok-free.ensures.items in
    record { few = rw none (omega arith); same = rw none (none-looked-at c.args.self.now c.args.count) }

pub loop-block-preserved : goal.loop-block-preserved
loop-block-preserved c =
    let held = c.args.self.now in
    let count = c.args.count in
    let block = c.loop-block.block in
    let free = c.loop-block.free.items in
    let so = c.loop-block.invariant in
    let below : block < 16641 = omega arith in
    let ok = c.loop-block.free.ok.0 in
    let short : length free < count = omega (arith, so.few) in
    elim c.if-is_free.branch [
      | then-is_free+in_ok-push w ↦
          let pushed = w.in_ok-push.ensures.items in
          record {
            few = rw (w.free-is, pushed) (omega (arith, length-append free (block ∷ []), short));
            same = rw (w.free-is, pushed) (free-passes held count block free (free_blocks held count) below short (sym c.is_free.ensures
                ∙ w.if-is_free.true) so.same);
          }
      | else-is_free w ↦
          record {
            few = rw w.free-is so.few;
            same = rw w.free-is (given-passes held count block free (free_blocks held count) below (sym c.is_free.ensures ∙ w.if-is_free.false) so.same);
          }
    ]

pub returns : goal.returns
returns c = all-looked-at c.args.self.now c.args.count c.loop-block.block c.loop-block.free.items (free_blocks c.args.self.now c.args.count)
    (omega arith) c.loop-block.invariant.same
