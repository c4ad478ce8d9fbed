use Rattle.std.proofs.Common.{◌∙◌, sym}
use Rattle.nq_serving.proofs.Leaves.{tick_leaves}
use Rattle.nq_serving.proofs.node.tick_to.Goals as goal

pub returns-then-is_below-clause-leaves : goal.returns-then-is_below-clause-leaves
returns-then-is_below-clause-leaves g c =
    tick_leaves g.K.Keeper.content g.K.Keeper.faults g.K.Keeper.follows g.K.Keeper.leaves g.met.K.Keeper.follows_on g.met.K.Keeper.parts
    c.args.reading c.args.node.now
    (record { server = c.tick.new.self; out = c.tick.new.out; log = c.tick.new.log }) (sym c.is_below.ensures ∙ c.if-is_below.true) c.tick.ensures.follows
    c.tick.ensures.leaves
