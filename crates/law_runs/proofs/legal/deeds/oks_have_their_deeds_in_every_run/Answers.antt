use Rattle.law_runs.proofs.OkDeeds.{deeds-in-every-run}
use Rattle.law_runs.proofs.legal.deeds.oks_have_their_deeds_in_every_run.Goals as goal

pub returns : goal.returns
returns c = deeds-in-every-run
