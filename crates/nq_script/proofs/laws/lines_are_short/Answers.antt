use Rattle.nq_script.proofs.LineLengths.{whole-short}
use Rattle.nq_script.proofs.laws.lines_are_short.Goals as goal

pub returns : goal.returns
returns c = λ head lines whole s. whole-short head lines whole s
