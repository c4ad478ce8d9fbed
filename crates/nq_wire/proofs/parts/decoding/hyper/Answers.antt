use Rattle.nq_wire.proofs.Short.{hyper_left, there}
use Rattle.nq_wire.proofs.parts.decoding.hyper.Goals as goal

pub unwrap-requires : goal.unwrap-requires
unwrap-requires c = there 8 c.args.reader.now c.u64.result c.requires c.u64.ensures.fault

pub returns-clause-left : goal.returns-clause-left
returns-clause-left c = hyper_left c.args.reader.now c.u64.new.self c.unwrap.result (rw c.unwrap.ensures at c.u64.ensures.found)
