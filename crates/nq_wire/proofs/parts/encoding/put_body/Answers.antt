use Rattle.std.proofs.Common.{◌≡◌, ◌++◌, subst, List, ℕ}
use Rattle.nq_xdr.specs.Item.{opaque}
use Rattle.nq_wire.proofs.parts.encoding.put_body.Goals as goal

pub returns-in-Filled-clause-written : goal.returns-in-Filled-clause-written
returns-in-Filled-clause-written c =
    subst (λ (body : List ℕ). c.put_filled.new.out.bytes ≡ c.args.out.now.bytes ++ opaque body) c.in-Filled.ensures.bytes c.put_filled.ensures.written
