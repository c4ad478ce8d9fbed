use Rattle.law_runs.proofs.BoundOrFenced.{writes-undisturbed}
use Rattle.law_runs.proofs.legal.undisturbed.delayed_writes_are_undisturbed_in_every_run.Goals as goal

pub returns : goal.returns
returns c = writes-undisturbed
