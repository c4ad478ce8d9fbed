-- The image in which nothing is kept: a few bytes, and zeros.
use Rattle.std.proofs.Common.{◌≡◌, ◌+◌, ◌*◌, ◌++◌, ℕ, zero, suc, List, [], Some, Ok, refl, ap, subst, ◌∙◌, arith}
use Rattle.std.specs.Prelude.{replicate}
use Rattle.std.proofs.lemmas.List.{append_assoc, length-replicate, replicate-append-replicate}
use Rattle.std.proofs.lemmas.List.Elements.{All-nil, All-replicate}
use Rattle.nq_model.specs.protocol.Change.{IsFileWithin, IsHostWithin, IsWithinBounds}
use Rattle.nq_model.specs.protocol.Kept.{fresh_row}
use Rattle.nq_image.specs.Kept.{opened}
use Rattle.nq_image.specs.Nothing.{first_of_nothing, nothing_kept}
use Rattle.nq_image.specs.Writing.{bodies_of, front_bytes, host_bytes, hosts_bytes, ids_bytes, image_of, rows_bytes, tables_bytes, zeros_of}
use Rattle.nq_image.proofs.Imaging.{image-opens}

pub zeros-join : (m n : ℕ) → zeros_of m ++ zeros_of n ≡ zeros_of (m + n)
unfolding zeros_of
zeros-join m n = replicate-append-replicate m n 0

joined : (m n total : ℕ) (front behind : List ℕ) → front ≡ zeros_of m → behind ≡ zeros_of n → m + n ≡ total → front ++ behind ≡ zeros_of total
joined m n total front behind e f sum =
    ap (λ (b : List ℕ). b ++ behind) e ∙ ap (λ (b : List ℕ). zeros_of m ++ b) f ∙ zeros-join m n ∙ ap zeros_of sum

no-zeros : [] ≡ zeros_of 0
unfolding zeros_of
no-zeros = refl

fresh-host : host_bytes fresh_row ≡ zeros_of 32
unfolding host_bytes zeros_of
fresh-host = refl

fresh-hosts : (count : ℕ) → hosts_bytes (replicate count fresh_row) ≡ zeros_of (32 * count)
unfolding hosts_bytes
fresh-hosts zero = no-zeros
fresh-hosts (suc count) = joined 32 (32 * count) (32 * suc count) (host_bytes fresh_row) (hosts_bytes (replicate count fresh_row)) fresh-host
    (fresh-hosts count) (omega arith)

no-rows : (count : ℕ) → rows_bytes count [] ≡ zeros_of (96 * count)
unfolding rows_bytes
no-rows zero = no-zeros
no-rows (suc count) = joined 96 (96 * count) (96 * suc count) (zeros_of 96) (rows_bytes count []) refl (no-rows count) (omega arith)

no-tables : (count block : ℕ) → tables_bytes count block [] ≡ zeros_of (4096 * count)
unfolding tables_bytes
no-tables zero block = no-zeros
no-tables (suc count) block = joined 4096 (4096 * count) (4096 * suc count) (zeros_of 4096) (tables_bytes count block []) refl (no-tables count block)
    (omega arith)

four : replicate 4 0 ≡ zeros_of 4
unfolding zeros_of
four = refl

no-ids : (count : ℕ) → ids_bytes count [] ≡ zeros_of (4 * count)
unfolding ids_bytes
no-ids zero = no-zeros
no-ids (suc count) = joined 4 (4 * count) (4 * suc count) (replicate 4 0) (ids_bytes count []) four (no-ids count) (omega arith)

first-bytes : front_bytes 0 nothing_kept ≡ first_of_nothing ++ zeros_of 40
unfolding front_bytes nothing_kept zeros_of
first-bytes = refl

no-bodies : bodies_of [] ≡ zeros_of 0
unfolding bodies_of zeros_of
no-bodies = refl

pub empty-image : image_of nothing_kept ≡ first_of_nothing ++ zeros_of 1093608
unfolding image_of nothing_kept
empty-image =
    let ids = joined 1024 3072 4096 (ids_bytes 256 []) (zeros_of 3072) (no-ids 256) refl refl in
    let tables = joined 1048576 4096 1052672 (tables_bytes 256 0 []) _ (no-tables 256 0) ids refl in
    let bodies = joined 0 1052672 1052672 (bodies_of []) _ no-bodies tables refl in
    let area = joined 12288 1052672 1064960 (zeros_of 12288) _ refl bodies refl in
    let gap = joined 1984 1064960 1066944 (zeros_of 1984) _ refl area refl in
    let rows = joined 24576 1066944 1091520 (rows_bytes 256 []) _ (no-rows 256) gap refl in
    let hosts = joined 2048 1091520 1093568 (hosts_bytes (replicate 64 fresh_row)) _ (fresh-hosts 64) rows refl in
    ap (λ (b : List ℕ). front_bytes 0 nothing_kept ++ b) hosts
    ∙ ap (λ (b : List ℕ). b ++ zeros_of 1093568) first-bytes
    ∙ append_assoc first_of_nothing (zeros_of 40) (zeros_of 1093568)
    ∙ ap (λ (b : List ℕ). first_of_nothing ++ b) (joined 40 1093568 1093608 (zeros_of 40) (zeros_of 1093568) refl refl refl)

fresh-within : IsHostWithin fresh_row
fresh-within = record { inc = omega arith; seq = omega arith; value = omega arith }

pub nothing-within : IsWithinBounds nothing_kept
unfolding nothing_kept
nothing-within = record {
  files = All-nil (IsFileWithin 1);
  apart = tt;
  few_files = omega arith;
  few_blocks = omega arith;
  hosts = All-replicate IsHostWithin 64 fresh_row fresh-within;
  all_hosts = length-replicate 64 fresh_row;
  opened = omega arith;
  boot = omega arith;
  long = omega arith;
  short = omega arith;
  ids = omega arith;
  few_ids = omega arith;
}

pub nothing-opens : (rest : List ℕ) → opened (first_of_nothing ++ (zeros_of 1093608 ++ rest)) ≡ Some (Ok nothing_kept)
nothing-opens rest =
    let P : List ℕ → Type 0 = λ b. opened b ≡ Some (Ok nothing_kept) in
    subst P (ap (λ (b : List ℕ). b ++ rest) empty-image ∙ append_assoc first_of_nothing (zeros_of 1093608) rest) (image-opens nothing_kept rest nothing-within)
