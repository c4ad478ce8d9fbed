use Rattle.law_rounds.proofs.CalmIsLawful.{calm-is-lawful}
use Rattle.law_rounds.proofs.rounds.calm_rounds_are_lawful.Goals as goal

pub returns : goal.returns
returns c = calm-is-lawful
