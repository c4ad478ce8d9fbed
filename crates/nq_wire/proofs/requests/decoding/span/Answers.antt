use Rattle.nq_wire.proofs.Short.{span_short, too_few}
use Rattle.nq_wire.proofs.requests.decoding.span.Goals as goal

pub returns-then-rest-lt16 : goal.returns-then-rest-lt16
returns-then-rest-lt16 c = span_short c.args.reader.now (too_few 16 c.rest.result.now c.args.reader.now c.rest.ensures c.if-rest-lt16.true)
