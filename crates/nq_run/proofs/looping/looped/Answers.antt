use Rattle.std.proofs.Common.{subst, sym}
use Rattle.nq_run.proofs.LoopPromises.{loops_for}
use Rattle.nq_run.proofs.Making.{loops_not, loops_on}
use Rattle.nq_run.proofs.looping.looped.Goals as goal

pub returns-in-Ok-clause-loops : goal.returns-in-Ok-clause-loops
returns-in-Ok-clause-loops g c =
    let served = c.run_loop-finished.result.left in
    loops_on g.D.Disk.told g.D.Disk.faults g.D.Disk.follows c.status.result c.args.plan.hosts c.args.plan.turns _ _ _ _ _ _ _ _ c.args.disk c.in-Ok.store served
    c.into_disk.result c.into_disk.ensures
    g.met.D.Disk.rises c.in-Ok.ensures.fresh c.in-Ok.ensures.counts c.run_loop-finished.ensures.follows
    (loops_for c.run_loop-finished.result.end c.status.result c.args.plan.hosts c.args.plan.turns _ _ _ _ _ _ _ _ _ _ _ c.status.ensures
    c.run_loop-finished.ensures.ends c.run_loop-finished.ensures.keeps c.run_loop-finished.ensures.counts c.run_loop-finished.ensures.sink)

pub returns-in-Ok-clause-follows : goal.returns-in-Ok-clause-follows
returns-in-Ok-clause-follows g c =
    subst (λ d. g.D.Disk.follows c.args.disk d) (sym c.into_disk.ensures)
    (g.met.D.Disk.follows_on c.args.disk c.in-Ok.store.disk c.run_loop-finished.result.left.disk c.in-Ok.ensures.follows
    c.run_loop-finished.ensures.follows.disk)

pub returns-in-Err-clause-loops : goal.returns-in-Err-clause-loops
returns-in-Err-clause-loops g c =
    loops_not c.in-Err.ended.end c.status-in-Err.result c.args.plan.hosts c.args.plan.turns _ _ _ _ _ _ _ c.status-in-Err.ensures c.in-Err.ensures.fails
