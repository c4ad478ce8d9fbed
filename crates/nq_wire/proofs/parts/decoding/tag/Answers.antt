use Rattle.nq_wire.proofs.Short.{tag_short, too_few}
use Rattle.nq_wire.proofs.parts.decoding.tag.Goals as goal

pub returns-then-rest-lt12-clause-step : goal.returns-then-rest-lt12-clause-step
returns-then-rest-lt12-clause-step c = tag_short c.args.reader.now (too_few 12 c.rest.result.now c.args.reader.now c.rest.ensures c.if-rest-lt12.true)
