use Rattle.law_rounds.proofs.GoingOn.{calls-go-on}
use Rattle.law_rounds.proofs.calm.calls_go_on.Goals as goal

pub returns : goal.returns
returns c = calls-go-on
