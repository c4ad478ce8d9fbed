use Rattle.nq_xdr.proofs.Spellings.{spelled}
use Rattle.nq_xdr.proofs.rpc.laws.what_is_written_is_spelled.Goals as goal

pub returns : goal.returns
returns c = spelled
