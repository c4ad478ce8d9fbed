use Rattle.nq_wire.proofs.Short.{grant_short, too_few}
use Rattle.nq_wire.proofs.parts.decoding.grant.Goals as goal

pub returns-then-rest-lt44-clause-step : goal.returns-then-rest-lt44-clause-step
returns-then-rest-lt44-clause-step c = grant_short c.args.reader.now (too_few 44 c.rest.result.now c.args.reader.now c.rest.ensures c.if-rest-lt44.true)
