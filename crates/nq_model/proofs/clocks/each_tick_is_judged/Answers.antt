use Rattle.nq_model.proofs.SkewNames.{each-tick-is-judged}
use Rattle.nq_model.proofs.clocks.each_tick_is_judged.Goals as goal

pub returns : goal.returns
returns c = each-tick-is-judged
