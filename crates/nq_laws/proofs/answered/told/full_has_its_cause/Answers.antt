use Rattle.nq_laws.proofs.FullRuns.{full-has-its-cause}
use Rattle.nq_laws.proofs.answered.told.full_has_its_cause.Goals as goal

pub returns : goal.returns
returns c = full-has-its-cause
