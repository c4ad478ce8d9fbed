use Rattle.std.proofs.Common.{subst, sym}
use Rattle.nq_run.proofs.Playing.{plays_not, plays_store}
use Rattle.nq_run.specs.Running.{PlaysOn}
use Rattle.nq_replay.specs.Playing.{play}
use Rattle.nq_run.proofs.replaying.play_on.Goals as goal

pub returns-in-Ok-clause-plays : goal.returns-in-Ok-clause-plays
returns-in-Ok-clause-plays g c =
    let head = c.args.script.now.head in
    let due = play head c.args.script.now.lines in
    let disk = c.args.disk in
    let served = c.replay-finished.result.left in
    let held = g.K.Sink.held c.args.out.now in
    let now = g.K.Sink.held c.replay-finished.new.out in
    let w = g.K.Sink.faults c.args.out.now in
    let w' = g.K.Sink.faults c.replay-finished.new.out in
    subst (λ d. PlaysOn head due c.status.result held now w w' (g.D.Disk.faults disk) (g.D.Disk.faults d) (g.D.Disk.told d)) (sym c.into_disk.ensures)
    (plays_store g.D.Disk.told g.D.Disk.faults g.D.Disk.follows c.replay-finished.result.end c.status.result head due held now w w' disk c.in-Ok.store served
    c.status.ensures g.met.D.Disk.rises c.in-Ok.ensures.fresh c.in-Ok.ensures.counts c.replay-finished.ensures.follows c.replay-finished.ensures.ends
    c.replay-finished.ensures.keeps c.replay-finished.ensures.counts c.replay-finished.ensures.sink)

pub returns-in-Ok-clause-follows : goal.returns-in-Ok-clause-follows
returns-in-Ok-clause-follows g c =
    subst (λ d. g.D.Disk.follows c.args.disk d) (sym c.into_disk.ensures)
    (g.met.D.Disk.follows_on c.args.disk c.in-Ok.store.disk c.replay-finished.result.left.disk c.in-Ok.ensures.follows
    c.replay-finished.ensures.follows.disk)

pub returns-in-Err-clause-plays : goal.returns-in-Err-clause-plays
returns-in-Err-clause-plays g c =
    plays_not c.in-Err.ended.end c.status-in-Err.result c.args.script.now.head (play c.args.script.now.head c.args.script.now.lines) _ _ _ _ _
    c.status-in-Err.ensures
    c.in-Err.ensures.fails
