use Rattle.law_runs.proofs.SomeSync.{synced-once}
use Rattle.law_runs.proofs.legal.oks.oks_are_met.Goals as goal

pub returns : goal.returns
returns c = synced-once
