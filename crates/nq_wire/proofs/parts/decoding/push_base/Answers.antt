use Rattle.nq_wire.proofs.Short.{base_short, too_few}
use Rattle.nq_wire.proofs.parts.decoding.push_base.Goals as goal

pub returns-then-rest-lt12 : goal.returns-then-rest-lt12
returns-then-rest-lt12 c = base_short c.args.reader.now (too_few 12 c.rest.result.now c.args.reader.now c.rest.ensures c.if-rest-lt12.true)
