use Rattle.nq_lister.specs.Listing.{begins_with}
use Rattle.nq_lister.proofs.pages.read_on.Goals as goal

pub returns : goal.returns
returns c = c.read.ensures (begins_with c.args.prefix.now) c.is_own-own.ensures
