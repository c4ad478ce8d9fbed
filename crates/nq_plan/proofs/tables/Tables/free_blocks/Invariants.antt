use Rattle.std.proofs.Common.{◌≡◌, ◌≤◌, ◌-◌, ◌++◌, length, take}
use Rattle.std.specs.Prelude.{filter}
use Rattle.nq_image.specs.Kept.{numbers_from}
use Rattle.nq_plan.specs.Placing.{free_blocks, is_free}
use Rattle.nq_plan.proofs.tables.Tables.free_blocks.Given as goal

abbrev pub invariant-loop-block : goal.invariant-loop-block
invariant-loop-block l = record {
  few : length l.free.items ≤ l.count;
  same : l.free.items ++ take (l.count - length l.free.items) (filter (is_free l.self) (numbers_from l.block (16641 - l.block))) ≡ free_blocks l.self l.count;
}
