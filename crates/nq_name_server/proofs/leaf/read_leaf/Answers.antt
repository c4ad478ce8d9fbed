use Rattle.nq_name_server.specs.Served.{is_in}
use Rattle.nq_name_server.proofs.leaf.read_leaf.Goals as goal

pub returns : goal.returns
returns c = c.read.ensures (is_in c.args.prefix.now) c.is_own-own.ensures
