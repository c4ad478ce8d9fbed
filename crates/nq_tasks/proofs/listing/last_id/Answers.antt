use Rattle.std.proofs.Common.{sym}
use Rattle.nq_directory.proofs.Pages.{last_is}
use Rattle.nq_tasks.proofs.listing.last_id.Goals as goal

pub returns-in-Some : goal.returns-in-Some
returns-in-Some c = sym (last_is c.args.after c.args.names.now c.in-Some.entry.now (sym c.in-Some.ensures.value))
