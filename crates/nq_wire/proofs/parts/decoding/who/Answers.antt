use Rattle.nq_wire.proofs.Short.{head_short, too_few}
use Rattle.nq_wire.proofs.parts.decoding.who.Goals as goal

pub returns-then-rest-lt8-clause-step : goal.returns-then-rest-lt8-clause-step
returns-then-rest-lt8-clause-step c = head_short c.args.reader.now (too_few 8 c.rest.result.now c.args.reader.now c.rest.ensures c.if-rest-lt8.true)
