use Rattle.law_runs.proofs.SomeFates.{each-fate}
use Rattle.law_runs.proofs.calls.fates.each_fate_is_met.Goals as goal

pub returns : goal.returns
returns c = each-fate
