use Rattle.nq_model.proofs.Accounts.{stored_or_lost}
use Rattle.nq_model.proofs.journals.no_write_is_stored_and_lost.Goals as goal

pub returns : goal.returns
returns c = stored_or_lost
