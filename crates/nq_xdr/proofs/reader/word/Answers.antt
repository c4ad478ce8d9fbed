use Rattle.std.proofs.Common.{arith}
use Rattle.nq_xdr.proofs.Numbers.{word_read}
use Rattle.nq_xdr.proofs.reader.word.Goals as goal

pub returns-clause-found : goal.returns-clause-found
returns-clause-found c =
    word_read c.args.bytes.now c.in_ok-front.front.now c.in_ok-front.rest.now c.read_u32.result (λ i. omega (arith, c.type_inv.bytes i))
    c.in_ok-front.ensures.step c.read_u32.ensures
