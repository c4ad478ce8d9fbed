use Rattle.law_runs.proofs.SomeDeeds.{some-deeds}
use Rattle.law_runs.proofs.legal.deeds.deeds_are_met.Goals as goal

pub returns : goal.returns
returns c = some-deeds
