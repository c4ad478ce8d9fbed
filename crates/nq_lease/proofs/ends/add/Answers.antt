use Rattle.std.proofs.Common.{arith}
use Rattle.nq_lease.proofs.Times.{few-ends, inserted}
use Rattle.nq_lease.proofs.ends.add.Goals as goal

pub unwrap-requires : goal.unwrap-requires
unwrap-requires c =
    let few = few-ends _ c.requires.ends.some in
    c.insert.ensures.succeeds (omega (arith, few, c.requires.few, c.requires.room, c.args.ends.now.ok.0))

pub returns-else-place-len-clause-ends : goal.returns-else-place-len-clause-ends
returns-else-place-len-clause-ends c =
    let items = rw c.unwrap.ensures at c.insert.ensures.items in
    rw items (inserted _ _ c.place_of-place.result c.args.time c.as_slice.ensures.value c.requires.ends c.place_of-place.ensures.bound
    c.place_of-place.ensures.before c.place_of-place.ensures.behind)
