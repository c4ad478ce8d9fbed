use Rattle.law_runs.proofs.SomeFenced.{bound-and-fenced-are-met}
use Rattle.law_runs.proofs.legal.undisturbed.bound_and_fenced_are_met.Goals as goal

pub returns : goal.returns
returns c = bound-and-fenced-are-met
