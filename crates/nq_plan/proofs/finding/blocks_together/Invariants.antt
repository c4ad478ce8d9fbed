use Rattle.std.proofs.Common.{◌≡◌, ◌≤◌, ◌*◌, Option, length, take}
use Rattle.std.specs.Prelude.{sum_by}
use Rattle.nq_image.specs.Standing.{PlacedFile, row_blocks}
use Rattle.nq_plan.proofs.finding.blocks_together.Given as goal

abbrev pub invariant-loop-row : goal.invariant-loop-row
invariant-loop-row l = record {
  few : l.blocks ≤ 1024 * l.row-index;
  sum : l.blocks ≡ sum_by (λ (row : Option PlacedFile). length (row_blocks row)) (take l.row-index l.rows);
}
