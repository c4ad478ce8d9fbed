use Rattle.std.proofs.Common.{◌≡◌, ◌+◌, ◌≤◌, ◌++◌}
use Rattle.std.specs.Prelude.{replicate, vec_len, vec_capacity}
use Rattle.nq_base.specs.Block.{zeros}
use Rattle.nq_keeper.proofs.stored_file.add_zeros.Given as goal

abbrev pub invariant-loop-count : goal.invariant-loop-count
invariant-loop-count l =
    (l.blocks.items ≡ l.initial.blocks.items ++ replicate l._count zeros)
    × (vec_len l.blocks ≡ vec_len l.initial.blocks + l._count)
    × (vec_len l.initial.blocks + l.more ≤ vec_capacity l.blocks)
