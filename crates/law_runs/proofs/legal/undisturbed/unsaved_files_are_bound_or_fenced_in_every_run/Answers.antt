use Rattle.law_runs.proofs.BoundOrFenced.{bound-or-fenced-in-every-run}
use Rattle.law_runs.proofs.legal.undisturbed.unsaved_files_are_bound_or_fenced_in_every_run.Goals as goal

pub returns : goal.returns
returns c = bound-or-fenced-in-every-run
