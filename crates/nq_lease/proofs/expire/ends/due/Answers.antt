use Rattle.std.proofs.Common.{rules}
use Rattle.nq_lease.proofs.Quiet.{due-is-there}
use Rattle.nq_lease.proofs.expire.ends.due.Goals as goal

pub returns-clause-there : goal.returns-clause-there
returns-clause-there c = due-is-there c.args.now c.args.table.now.rows c.map.result c.rows.ensures.ordered (search rules)
