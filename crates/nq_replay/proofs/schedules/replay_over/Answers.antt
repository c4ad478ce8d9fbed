use Rattle.nq_replay.proofs.Versions.{played_has}
use Rattle.nq_replay.proofs.schedules.replay_over.Goals as goal

pub tell-end-requires-clause-has : goal.tell-end-requires-clause-has
tell-end-requires-clause-has g c = played_has c.args.script.now c.play_over-played.result c.play_over-played.new.world _ c.requires.ready
    (c.play_over-played.ensures.comes c.requires.plays)
