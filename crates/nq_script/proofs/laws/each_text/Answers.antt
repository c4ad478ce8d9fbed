use Rattle.nq_script.proofs.Deciding.{decided}
use Rattle.nq_script.proofs.laws.each_text.Goals as goal

pub returns : goal.returns
returns c = λ text. decided text
