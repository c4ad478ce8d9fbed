use Rattle.std.specs.List.{find}
use Rattle.nq_model.specs.protocol.ServerStep.{is_due}
use Rattle.nq_server.proofs.Ticked.{ended-by, ends-first, or-as}
use Rattle.nq_server.proofs.ticks.end_first.Goals as goal

pub returns-in-Some-clause-ends : goal.returns-in-Some-clause-ends
returns-in-Some-clause-ends g c =
    ends-first c.args.now (find (is_due c.args.now) c.args.table.now.rows) c.in-Some.key c.end_writing.result c.args.table.now c.end_writing.new.table
    (g.K.Keeper.content c.args.keeper.now) (g.K.Keeper.content c.end_writing.new.keeper) (g.K.Keeper.faults c.args.keeper.now)
    (g.K.Keeper.faults c.end_writing.new.keeper) c.in-Some.ensures.first c.end_writing.ensures.fence c.end_writing.ensures.drops
    c.end_writing.ensures.stays c.end_writing.ensures.fences

pub returns-in-Some-clause-leaves : goal.returns-in-Some-clause-leaves
returns-in-Some-clause-leaves g c =
    λ kept told found left.
    or-as found kept _ _ (ended-by c.in-Some.key (find (is_due c.args.now) c.args.table.now.rows) kept c.in-Some.ensures.first)
    (c.end_writing.ensures.leaves kept told found left)
