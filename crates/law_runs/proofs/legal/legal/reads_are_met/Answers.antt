use Rattle.law_runs.proofs.SomeReads.{reads-are-met}
use Rattle.law_runs.proofs.legal.legal.reads_are_met.Goals as goal

pub returns : goal.returns
returns c = reads-are-met
