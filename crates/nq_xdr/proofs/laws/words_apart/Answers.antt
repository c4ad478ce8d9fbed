use Rattle.nq_xdr.proofs.Numbers.{word_apart}
use Rattle.nq_xdr.proofs.laws.words_apart.Goals as goal

pub returns : goal.returns
returns c = word_apart
