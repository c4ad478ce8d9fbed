use Rattle.nq_xdr.proofs.Opaque.{boolean_apart}
use Rattle.nq_xdr.proofs.laws.booleans_apart.Goals as goal

pub returns : goal.returns
returns c = boolean_apart
