use Rattle.std.proofs.Common.{◌≡◌, ◌+◌, ◌*◌, ◌/◌, ◌≤◌, ◌++◌, vec_len, vec_capacity}
use Rattle.nq_xdr.specs.Words.{repeats}
use Rattle.nq_xdr.proofs.words.push_words.Given as goal

abbrev pub invariant-loop-round : goal.invariant-loop-round
invariant-loop-round l = (l.out.items ≡ l.fn.out.items ++ repeats (64 * l._round) l.fn.word)
    × (vec_len l.out ≡ vec_len l.fn.out + 256 * l._round)
    × (vec_capacity l.fn.out ≤ vec_capacity l.out)
    × (l._round ≤ l.fn.times / 64)
