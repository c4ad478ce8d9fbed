use Rattle.std.proofs.Common.{arith}
use Rattle.nq_xdr.proofs.Opaque.{boolean_from}
use Rattle.nq_xdr.proofs.reader.boolean.Goals as goal

pub returns-clause-found : goal.returns-clause-found
returns-clause-found c =
    boolean_from c.in_ok-number.number c.args.bytes.now c.in_ok-number.rest.now (omega arith) c.in_ok-number.ensures.found
