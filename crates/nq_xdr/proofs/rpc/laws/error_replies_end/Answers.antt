use Rattle.nq_xdr.proofs.Spellings.{error_ends}
use Rattle.nq_xdr.proofs.rpc.laws.error_replies_end.Goals as goal

pub returns : goal.returns
returns c = error_ends
