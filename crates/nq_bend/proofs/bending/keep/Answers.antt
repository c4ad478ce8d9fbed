use Rattle.std.proofs.Common.{refl}
use Rattle.nq_bend.proofs.bending.keep.Goals as goal

pub happen-requires-clause-spared : goal.happen-requires-clause-spared
happen-requires-clause-spared g c = c.in-None.ensures.acts refl c.args.plan.now.bends.now c.args.course.now.lanes.olds.items
