use Rattle.nq_image.proofs.Names.{name-test}
use Rattle.nq_image.proofs.rows.name_of.Goals as goal

pub returns-clause-known : goal.returns-clause-known
returns-clause-known c = name-test c.new.result c.args.bytes.now c.new.ensures.name
