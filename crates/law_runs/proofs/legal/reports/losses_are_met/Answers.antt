use Rattle.law_runs.proofs.SomeLoss.{lost-and-named}
use Rattle.law_runs.proofs.legal.reports.losses_are_met.Goals as goal

pub returns : goal.returns
returns c = lost-and-named
