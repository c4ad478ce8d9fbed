use Rattle.law_rounds.proofs.Meant.{requests-are-meant}
use Rattle.law_rounds.proofs.calm.requests_are_meant.Goals as goal

pub returns : goal.returns
returns c = requests-are-meant
