use Rattle.std.proofs.Common.{[], arith, refl}
use Rattle.nq_replay.specs.Playing.{beginning, play}
use Rattle.nq_replay.proofs.Heads.{are_for_world, few_lines}
use Rattle.nq_replay.proofs.schedules.play_over.Goals as goal

pub play-requires : goal.play-requires
play-requires g c = record {
  hosts = let same = c.requires.settings.hosts_are in omega arith;
  asides = rw (c.deref.ensures.value, c.new-asides.ensures.items) tt;
  can = are_for_world c.args.script.now c.args.world.now c.requires.ready c.requires.settings;
  few = few_lines c.args.script.now c.requires.ready;
}

pub returns : goal.returns
unfolding play
returns g c = record {
  comes = λ plays. rw (← c.requires.ready.first, ← c.new-asides.ensures.items, ← c.deref.ensures.value)
      (c.play.ensures.comes (beginning c.args.script.now.head) [] refl refl plays);
  stops = c.play.ensures.stops;
  counts = c.play.ensures.keeps.counts;
  follows = c.play.ensures.keeps.keeper;
}
