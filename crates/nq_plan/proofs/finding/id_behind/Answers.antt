use Rattle.std.proofs.Common.{None}
use Rattle.nq_plan.specs.Finding.{nearest}
use Rattle.nq_plan.proofs.Walking.{id-passes, no-id-left}
use Rattle.nq_plan.proofs.finding.id_behind.Goals as goal

pub loop-row-preserved : goal.loop-row-preserved
loop-row-preserved c =
    rw (c.nearer-best.ensures, c.id_of.ensures) (id-passes c.args.after c.loop-row.row-index c.row-item.result c.loop-row.best c.args.rows.now
    (nearest c.args.after None c.args.rows.now) c.loop-row-test.true c.row-item.is c.loop-row.invariant)

pub returns : goal.returns
returns c = no-id-left c.args.after c.loop-row.row-index c.loop-row.best c.args.rows.now (nearest c.args.after None c.args.rows.now)
    c.loop-row-test.false c.loop-row.invariant
