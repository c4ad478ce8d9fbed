use Rattle.std.proofs.Common.{arith}
use Rattle.nq_base.proofs.Repeating.{all-go-on, filled-goes-on, goes-on-begun, goes-on-more, is-filled}
use Rattle.nq_base.proofs.blocks.repeats.Goals as goal

pub loop-at-init : goal.loop-at-init
loop-at-init c = goes-on-begun c.args.bytes.now

pub loop-at-preserved : goal.loop-at-preserved
loop-at-preserved c =
    goes-on-more c.args.bytes.now c.loop-at.at c.loop-at.same c.goes_on.result c.both-same.result c.requires c.loop-at-test.true c.loop-at.invariant
    c.goes_on.ensures c.both-same.ensures

pub returns-clause-yes : goal.returns-clause-yes
returns-clause-yes c = λ yes.
    let bytes = c.args.bytes.now in
    is-filled bytes (λ i. omega (arith, c.type_inv.bytes i)) c.requires (all-go-on bytes c.loop-at.at c.loop-at.same c.requires (omega arith)
    (omega arith) c.loop-at.invariant yes)

pub returns-clause-no : goal.returns-clause-no
returns-clause-no c = λ no v filled. c.loop-at.invariant.no no (filled-goes-on c.args.bytes.now v filled)
