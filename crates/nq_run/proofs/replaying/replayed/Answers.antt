use Rattle.std.proofs.Common.{subst}
use Rattle.nq_run.proofs.Playing.{refused_on, replays_on}
use Rattle.nq_run.specs.Running.{ReplaysOn}
use Rattle.nq_run.proofs.replaying.replayed.Goals as goal

pub returns-in-Ok-clause-replays : goal.returns-in-Ok-clause-replays
returns-in-Ok-clause-replays g c =
    let left = g.S.Source.left in
    let reads = g.S.Source.faults in
    let held = g.K.Sink.held in
    let writes = g.K.Sink.faults in
    let faults = g.D.Disk.faults in
    let input = c.args.input.now in
    let input' = c.read_script.new.input in
    let between = c.read_script.new.out in
    let out' = c.play_on.new.out in
    let disk = c.args.disk in
    let disk' = c.play_on.result.left in
    let bytes = g.D.Disk.told disk' in
    subst (λ out. ReplaysOn c.args.limit c.play_on.result.end (left input) (left input') (held out) (held out') (reads input) (reads input')
    (writes out) (writes out') (faults disk) (faults disk') bytes disk disk') c.in-Ok.ensures.quiet
    (replays_on c.in-Ok.script c.args.limit c.play_on.result.end (left input) (left input') (held between) (held out') (reads input) (reads input')
    (writes between) (writes out') (faults disk) (faults disk') bytes disk disk'
    c.in-Ok.ensures.read c.in-Ok.ensures.source c.play_on.ensures.plays c.in-Ok.ensures.limit c.in-Ok.ensures.script)

pub returns-in-Err-clause-replays : goal.returns-in-Err-clause-replays
returns-in-Err-clause-replays g c =
    refused_on c.in-Err.end c.args.limit c.status.result _ _ _ _ _ _ _ _ _ _ c.args.disk c.status.ensures c.in-Err.ensures.refuses
    c.in-Err.ensures.limit c.in-Err.ensures.script c.in-Err.ensures.spelled c.in-Err.ensures.source c.in-Err.ensures.sink
