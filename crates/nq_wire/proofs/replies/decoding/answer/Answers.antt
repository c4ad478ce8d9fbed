use Rattle.nq_wire.proofs.Short.{answer_short, too_few}
use Rattle.nq_wire.proofs.replies.decoding.answer.Goals as goal

pub returns-then-rest-lt8 : goal.returns-then-rest-lt8
returns-then-rest-lt8 c = answer_short c.args.procedure c.args.reader.now (too_few 8 c.rest.result.now c.args.reader.now c.rest.ensures c.if-rest-lt8.true)
