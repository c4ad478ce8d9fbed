-- The ranges of a change, as parts that are overwritten in an image.
use Rattle.std.proofs.Common.{◌≡◌, ◌≤◌, ◌<◌, ◌+◌, ◌-◌, ℕ, List, [], ◌∷◌, ◌++◌, Some, take, drop, length, refl, sym, ap, ◌∙◌, arith}
use Rattle.std.specs.List.{All}
use Rattle.std.specs.Prelude.{replicate}
use Rattle.std.specs.Int.{w32, to_be_bytes}
use Rattle.std.proofs.lemmas.List.{take-append-drop, take-append-le}
use Rattle.std.proofs.lemmas.List.Elements.{All-weaker}
use Rattle.nq_disk.specs.Bytes.{written}
use Rattle.nq_image.specs.Layout.{block_place}
use Rattle.nq_image.specs.Standing.{CanStand, PlacedFile, Standing, Stands, id_place, overwritten, row_for, row_place, with_file_written, with_row_cleared}
use Rattle.nq_image.specs.Writing.{row_bytes, table_of_blocks, zeros_of}
use Rattle.nq_image.proofs.FileRows.{length-row}
use Rattle.nq_image.proofs.Overwriting.{block-behind, long-enough, whole-tables}
use Rattle.nq_image.proofs.Pieces.{length-over}
use Rattle.nq_image.proofs.ReadBack.{length-zeros}
use Rattle.nq_disk.specs.Ranges.{Range, applied}
use Rattle.nq_plan.specs.Ranges.{removal_ranges, whole_ranges}
use Rattle.nq_store.specs.Changing.{HasZeros}
use Rattle.nq_store.proofs.ImagesZeroing.{zeros-held}

-- what is written within a disk, or at its end, is overwritten there
pub written-over : (place : ℕ) (part bytes : List ℕ) → place ≤ length bytes → written place part bytes ≡ overwritten place part bytes
unfolding written overwritten
written-over place [] bytes le =
    let e : place ≡ place + 0 = omega arith in
    sym (take-append-drop place bytes) ∙ ap (λ (k : ℕ). take place bytes ++ drop k bytes) e
written-over place (byte ∷ part) bytes le =
    ap (λ (l : List ℕ). l ++ ((byte ∷ part) ++ drop (place + length (byte ∷ part)) bytes)) (take-append-le place bytes (replicate (place - length bytes) 0) le)

-- ranges, one behind another
pub applied-both : (xs ys : List Range) (bytes : List ℕ) → applied (xs ++ ys) bytes ≡ applied ys (applied xs bytes)
applied-both [] ys bytes = refl
applied-both (x ∷ xs) ys bytes = applied-both xs ys (written x.place x.bytes bytes)

zero-id : to_be_bytes w32 0 ≡ zeros_of 4
unfolding zeros_of
zero-id = refl

module _ (bytes : List ℕ) (s : Standing) (stands : Stands bytes s) where
  -- a row, an id and a table
  pub file-ranges : (file : PlacedFile) → CanStand s file → applied (whole_ranges s.tables (row_for file) file) bytes ≡ with_file_written s file bytes
  file-ranges file can =
      let slot = file.slot in
      let lt = can.row in
      let row = row_bytes file.name (length file.blocks) file.rev in
      let id = to_be_bytes w32 file.id in
      let id_long : length id ≡ 4 = refl in
      let table = table_of_blocks file.blocks in
      let long = long-enough bytes s stands in
      let row_long = length-row file.name (length file.blocks) file.rev can.name can.short can.rev in
      let ids = whole-tables bytes s stands 256 (omega arith) in
      let own = whole-tables bytes s stands slot (omega (arith, lt)) in
      let one = overwritten (row_place slot) row bytes in
      let two = overwritten (id_place s.tables slot) id one in
      let length_one = length-over (row_place slot) row bytes (omega (arith, lt, row_long, long)) in
      let length_two = length-over (id_place s.tables slot) id one (omega (arith, lt, id_long, ids, length_one)) in
      ap (λ (b : List ℕ). written (block_place (s.tables + slot)) table (written (id_place s.tables slot) id b)) (written-over (row_place slot) row
      bytes (omega (arith, lt, long)))
      ∙ ap (λ (b : List ℕ). written (block_place (s.tables + slot)) table b) (written-over (id_place s.tables slot) id one
      (omega (arith, lt, ids, length_one)))
      ∙ written-over (block_place (s.tables + slot)) table two (omega (arith, own, length_two, length_one))

  -- a row and an id of zeros
  pub cleared-ranges : (slot : ℕ) → slot < 256 → applied (removal_ranges s.tables (Some slot)) bytes ≡ with_row_cleared s slot bytes
  cleared-ranges slot lt =
      let row = zeros_of 96 in
      let long = long-enough bytes s stands in
      let row_long = length-zeros 96 in
      let ids = whole-tables bytes s stands 256 (omega arith) in
      let one = overwritten (row_place slot) row bytes in
      let length_one = length-over (row_place slot) row bytes (omega (arith, lt, row_long, long)) in
      ap (λ (b : List ℕ). written (id_place s.tables slot) (to_be_bytes w32 0) b) (written-over (row_place slot) row bytes (omega (arith, lt, long)))
      ∙ written-over (id_place s.tables slot) (to_be_bytes w32 0) one (omega (arith, lt, ids, length_one))
      ∙ ap (λ (z : List ℕ). overwritten (id_place s.tables slot) z one) zero-id

  -- zeros stay where the numbers and rows are written
  pub zeros-behind : (place : ℕ) (part blocks : List ℕ) → place + length part ≤ 40960 → All (HasZeros bytes) blocks
      → All (HasZeros (overwritten place part bytes)) blocks
  zeros-behind place part blocks fits all =
      All-weaker (HasZeros bytes) (HasZeros (overwritten place part bytes))
      (λ block has. block-behind block place part bytes fits (long-enough bytes s stands) (zeros-held bytes block has) ∙ has) blocks all
