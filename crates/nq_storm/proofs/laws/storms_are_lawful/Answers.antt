use Rattle.nq_storm.proofs.Playing.{storms-are-lawful}
use Rattle.nq_storm.proofs.laws.storms_are_lawful.Goals as goal

pub returns : goal.returns
returns c = storms-are-lawful
