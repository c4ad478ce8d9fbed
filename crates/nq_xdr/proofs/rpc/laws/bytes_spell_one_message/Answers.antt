use Rattle.nq_xdr.proofs.Spellings.{one_message}
use Rattle.nq_xdr.proofs.rpc.laws.bytes_spell_one_message.Goals as goal

pub returns : goal.returns
returns c = one_message
