use Rattle.nq_xdr.proofs.Opaque.{opaque_apart}
use Rattle.nq_xdr.proofs.laws.opaques_apart.Goals as goal

pub returns : goal.returns
returns c = opaque_apart
