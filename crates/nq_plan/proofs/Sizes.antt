-- How long the parts of an image are that a change writes.
use Rattle.std.proofs.Common.{◌≡◌, ◌+◌, ◌-◌, ◌*◌, ◌++◌, ℕ, List, [], ◌∷◌, length, refl, arith, length-append}
use Rattle.std.proofs.lemmas.List.{length-replicate}
use Rattle.nq_base.specs.declared.Heads.{Heads}
use Rattle.nq_base.specs.declared.HostRow.{HostRow}
use Rattle.nq_image.specs.Writing.{entries_of, heads_bytes, host_bytes, numbers_bytes, row_bytes, table_of_blocks, zeros_of}

pub length-heads : (heads : Heads) → length (heads_bytes heads) ≡ 16
unfolding heads_bytes
length-heads heads = refl

pub length-host : (row : HostRow) → length (host_bytes row) ≡ 32
unfolding host_bytes
length-host row = refl

length-zeros : (n : ℕ) → length (zeros_of n) ≡ n
unfolding zeros_of
length-zeros n = length-replicate n 0

length-numbers : (blocks rev : ℕ) → length (numbers_bytes blocks rev) ≡ 28
unfolding numbers_bytes
length-numbers blocks rev = refl

pub length-row : (name : List ℕ) (blocks rev : ℕ) → length (row_bytes name blocks rev) ≡ 32 + length name + (64 - length name)
unfolding row_bytes
length-row name blocks rev =
    omega (
      arith,
      length-append name (zeros_of (64 - length name)),
      length-append (name ++ zeros_of (64 - length name)) (numbers_bytes blocks rev),
      length-zeros (64 - length name),
      length-numbers blocks rev,
    )

pub length-entries : (blocks : List ℕ) → length (entries_of blocks) ≡ 4 * length blocks
unfolding entries_of
length-entries [] = refl
length-entries (block ∷ blocks) = let rest = length-entries blocks in omega (arith, rest)

pub length-table : (blocks : List ℕ) → length (table_of_blocks blocks) ≡ 4 * length blocks + (4096 - 4 * length blocks)
unfolding table_of_blocks
length-table blocks =
    omega (arith, length-append (entries_of blocks) (zeros_of (4096 - 4 * length blocks)), length-entries blocks, length-zeros (4096 - 4 * length blocks))

pub ruleset sizes = (length-heads, length-host, length-row, length-table)
