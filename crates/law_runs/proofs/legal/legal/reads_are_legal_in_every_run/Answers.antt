use Rattle.law_runs.proofs.LegalLaws.{legal-in-every-run}
use Rattle.law_runs.proofs.legal.legal.reads_are_legal_in_every_run.Goals as goal

pub returns : goal.returns
returns c = legal-in-every-run
