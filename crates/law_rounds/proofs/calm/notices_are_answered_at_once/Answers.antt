use Rattle.law_rounds.proofs.SendsAgain.{sends-again}
use Rattle.law_rounds.proofs.calm.notices_are_answered_at_once.Goals as goal

pub returns : goal.returns
returns c = sends-again
