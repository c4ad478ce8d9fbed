use Rattle.nq_stage.proofs.Schedules.{inner-runs-are-lawful, headline-holds-outside}
use Rattle.nq_stage.proofs.every_run.inner_runs_are_lawful.Goals as goal

pub returns-clause-lawful : goal.returns-clause-lawful
returns-clause-lawful c = inner-runs-are-lawful

pub returns-clause-headline : goal.returns-clause-headline
returns-clause-headline c = headline-holds-outside
