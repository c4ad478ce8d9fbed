use Rattle.nq_xdr.proofs.Numbers.{hyper_apart}
use Rattle.nq_xdr.proofs.laws.hypers_apart.Goals as goal

pub returns : goal.returns
returns c = hyper_apart
