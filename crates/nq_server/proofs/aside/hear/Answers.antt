use Rattle.std.proofs.Common.{sym}
use Rattle.nq_lease.proofs.Within.{own-found}
use Rattle.nq_server.proofs.aside.hear.Goals as goal

pub put_heard-requires : goal.put_heard-requires
put_heard-requires c = own-found c.args.file c.args.host c.in-Some.row c.args.table.now.rows (sym c.in-Some.ensures)
