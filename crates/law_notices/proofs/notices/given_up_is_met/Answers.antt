use Rattle.law_notices.proofs.SomeGivenUp.{given-up-is-met}
use Rattle.law_notices.proofs.notices.given_up_is_met.Goals as goal

pub returns : goal.returns
returns c = given-up-is-met
