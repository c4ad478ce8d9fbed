use Rattle.nq_script.proofs.Whole.{one-schedule}
use Rattle.nq_script.proofs.laws.one_reading.Goals as goal

pub returns : goal.returns
returns c = λ g h ls ms text s t. one-schedule g h ls ms text s t
