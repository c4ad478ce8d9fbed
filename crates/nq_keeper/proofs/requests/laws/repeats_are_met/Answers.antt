use Rattle.nq_keeper.proofs.SomeRepeats.{repeats-are-met}
use Rattle.nq_keeper.proofs.requests.laws.repeats_are_met.Goals as goal

pub returns : goal.returns
returns c = repeats-are-met
