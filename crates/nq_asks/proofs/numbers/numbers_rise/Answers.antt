use Rattle.nq_asks.proofs.Rising.{rise}
use Rattle.nq_asks.proofs.numbers.numbers_rise.Goals as goal

pub returns : goal.returns
returns c = λ last numbers. rise last numbers
