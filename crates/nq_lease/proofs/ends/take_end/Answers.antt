use Rattle.std.proofs.Common.{◌-◌, arith, ap}
use Rattle.nq_lease.proofs.Times.{rows_of_end, is-within, stands-there, read-twice, lowered, removed}
use Rattle.nq_lease.proofs.ends.take_end.Goals as goal

pub index-requires : goal.index-requires
index-requires c =
    omega (
      arith,
      is-within _ _ c.args.time c.place_of-place.result c.as_slice.ensures.value c.requires.ends.rise c.place_of-place.ensures.before
          c.place_of-place.ensures.behind c.requires.there,
    )

pub index_mut-requires : goal.index_mut-requires
index_mut-requires c =
    omega (
      arith,
      is-within _ _ c.args.time c.place_of-place.result c.as_slice.ensures.value c.requires.ends.rise c.place_of-place.ensures.before
          c.place_of-place.ensures.behind c.requires.there,
    )

pub remove-requires : goal.remove-requires
remove-requires c =
    omega (
      arith,
      is-within _ _ c.args.time c.place_of-place.result c.as_slice.ensures.value c.requires.ends.rise c.place_of-place.ensures.before
          c.place_of-place.ensures.behind c.requires.there,
    )

pub overflow_sub-index_mut : goal.overflow_sub-index_mut
overflow_sub-index_mut c =
    let at = is-within _ _ c.args.time c.place_of-place.result c.as_slice.ensures.value c.requires.ends.rise c.place_of-place.ensures.before
    c.place_of-place.ensures.behind c.requires.there in
    let same = ap rows_of_end (read-twice _ c.place_of-place.result c.index.result.now c.index_mut.result.now at c.index.ensures c.index_mut.ensures.value) in
    omega (arith, same, c.if-index-gt1.true)

pub returns-then-index-gt1-clause-counts : goal.returns-then-index-gt1-clause-counts
returns-then-index-gt1-clause-counts c = λ other.
    let old = c.index_mut.result.now in
    let at = stands-there _ _ c.args.time c.place_of-place.result old c.as_slice.ensures.value c.requires.ends.rise c.place_of-place.ensures.before
    c.place_of-place.ensures.behind c.requires.there c.index_mut.ensures.value in
    let same = ap rows_of_end (read-twice _ c.place_of-place.result c.index.result.now old at.within c.index.ensures c.index_mut.ensures.value) in
    let many = c.if-index-gt1.true in
    let less = lowered _ c.place_of-place.result c.args.time old (record { time = old.time; rows = old.rows - 1 }) at at.at (omega arith) in
    omega (arith, less.counts other)

pub returns-then-index-gt1-clause-all : goal.returns-then-index-gt1-clause-all
returns-then-index-gt1-clause-all c =
    let old = c.index_mut.result.now in
    let at = stands-there _ _ c.args.time c.place_of-place.result old c.as_slice.ensures.value c.requires.ends.rise c.place_of-place.ensures.before
    c.place_of-place.ensures.behind c.requires.there c.index_mut.ensures.value in
    let same = ap rows_of_end (read-twice _ c.place_of-place.result c.index.result.now old at.within c.index.ensures c.index_mut.ensures.value) in
    let many = c.if-index-gt1.true in
    let less = lowered _ c.place_of-place.result c.args.time old (record { time = old.time; rows = old.rows - 1 }) at at.at (omega arith) in
    omega (arith, less.all)

pub returns-else-index-gt1-clause-counts : goal.returns-else-index-gt1-clause-counts
returns-else-index-gt1-clause-counts c = λ other.
    let old = c.index.result.now in
    let at = stands-there _ _ c.args.time c.place_of-place.result old c.as_slice.ensures.value c.requires.ends.rise c.place_of-place.ensures.before
    c.place_of-place.ensures.behind c.requires.there c.index.ensures in
    let one = c.requires.ends.some c.place_of-place.result old at.within in
    let read = ap rows_of_end c.index.ensures in
    let few = c.if-index-gt1.false in
    let less = removed _ c.place_of-place.result c.args.time old at (omega arith) in
    rw c.remove.ensures.items (omega (arith, less.counts other))
