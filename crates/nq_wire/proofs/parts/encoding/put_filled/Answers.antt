use Rattle.std.proofs.Common.{◌≡◌, ◌++◌, arith, subst, List, ℕ}
use Rattle.nq_xdr.specs.Item.{opaque}
use Rattle.nq_wire.proofs.Filled.{filled-words}
use Rattle.nq_wire.proofs.parts.encoding.put_filled.Goals as goal

pub returns-clause-written : goal.returns-clause-written
returns-clause-written c =
    let words = filled-words c.args.value (omega (arith, c.ranges.value.fits)) in
    subst (λ (body : List ℕ). c.put_opaque_words.new.self.bytes ≡ c.args.out.now.bytes ++ opaque body) words c.put_opaque_words.ensures.written
