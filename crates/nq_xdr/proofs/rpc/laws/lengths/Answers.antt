use Rattle.nq_xdr.proofs.Spellings.{length-spelling}
use Rattle.nq_xdr.proofs.rpc.laws.lengths.Goals as goal

pub returns : goal.returns
returns c = length-spelling
