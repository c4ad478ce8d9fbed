use Rattle.nq_wire.proofs.Short.{there, word_left}
use Rattle.nq_wire.proofs.parts.decoding.word.Goals as goal

pub unwrap-requires : goal.unwrap-requires
unwrap-requires c = there 4 c.args.reader.now c.u32.result c.requires c.u32.ensures.fault

pub returns-clause-left : goal.returns-clause-left
returns-clause-left c = word_left c.args.reader.now c.u32.new.self c.unwrap.result (rw c.unwrap.ensures at c.u32.ensures.found)
