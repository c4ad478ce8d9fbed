use Rattle.law_calling.proofs.Answering.{reads-run}
use Rattle.law_calling.proofs.calls.reads_run.Goals as goal

pub returns : goal.returns
returns c = reads-run
