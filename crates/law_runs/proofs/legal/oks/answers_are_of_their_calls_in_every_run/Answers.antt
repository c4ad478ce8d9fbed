use Rattle.law_runs.proofs.Standings.{answers-in-every-run}
use Rattle.law_runs.proofs.legal.oks.answers_are_of_their_calls_in_every_run.Goals as goal

pub returns : goal.returns
returns c = answers-in-every-run
