use Rattle.std.proofs.Common.{List}
use Rattle.nq_staged.specs.Worlds.{PlaysOutside}
use Rattle.nq_replay.specs.Playing.{beginning}
use Rattle.nq_played.proofs.Outcomes.{run_ends, stop_ends}
use Rattle.nq_staged.specs.Running.{IsPrinted}
use Rattle.nq_staged.specs.Text.{FirstBadStaged, SpellsStaged}
use Rattle.nq_staged.specs.Playing.{play}
use Rattle.nq_stage.specs.declared.run.event.StagedEvent.{StagedEvent}
use Rattle.nq_staged.proofs.running.tell.Goals as goal

pub returns-in-All-clause-ends : goal.returns-in-All-clause-ends
returns-in-All-clause-ends g c = λ due comes.
    let P : List StagedEvent → Type 0 = λ events. PlaysOutside (beginning c.args.head.now) events c.args.world.now
    (g.L.Keeper.content c.args.world.now.inner.server.keeper) in
    run_ends SpellsStaged FirstBadStaged play IsPrinted c.print_run.result c.args.head.now due P _ _ _ _ (rw c.in-All.is at comes)
    (λ events plays. c.print_run.ensures.prints events plays)

pub returns-in-Stopped-clause-ends : goal.returns-in-Stopped-clause-ends
returns-in-Stopped-clause-ends g c = λ due comes.
    let P : List StagedEvent → Type 0 = λ events. PlaysOutside (beginning c.args.head.now) events c.args.world.now
    (g.L.Keeper.content c.args.world.now.inner.server.keeper) in
    stop_ends SpellsStaged FirstBadStaged play IsPrinted c.tell_stop.result c.args.head.now c.in-Stopped.line c.in-Stopped.answer due P _ _ _ _
    (rw c.in-Stopped.is at comes) c.tell_stop.ensures.tells
