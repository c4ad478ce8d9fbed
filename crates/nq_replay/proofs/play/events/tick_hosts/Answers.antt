use Rattle.std.proofs.Common.{◌+◌, ◌-◌, arith}
use Rattle.nq_base.specs.declared.Event.{Event}
use Rattle.nq_replay.proofs.AsidesOnward.{goes-on, stops-here}
use Rattle.nq_replay.proofs.RulesOnward.{ticks-step}
use Rattle.nq_replay.specs.Rules.{play_plainly, play_ticks}
use Rattle.nq_world.specs.declared.stepped.Stepped.{Stepped}
use Rattle.nq_replay.proofs.play.events.tick_hosts.Goals as goal

pub returns-in_default : goal.returns-in_default
returns-in_default g c = record {
  goes = λ head moment at.
      let on = c.loop-host.invariant.on head moment at in
      stops-here (play_plainly g.W.OuterWorld.rules head (Event.ClientTick c.loop-host.host) on.reached)
      (play_ticks g.W.OuterWorld.rules head (c.loop-host.host + 1)
      (c.args.hosts - (c.loop-host.host + 1))) c.take_plainly.result _ _ _ (c.take_plainly.ensures.goes head on.reached on.here) c.in_default.not-Done
      (ticks-step g.W.OuterWorld.rules head c.args.hosts c.loop-host.host on.reached _ c.loop-host-test.true on.same);
  keeps = g.met.W.OuterWorld.goes_further c.take_plainly.result c.args.world.now c.loop-host.world c.take_plainly.new.world c.loop-host.invariant.keeps c.take_plainly.ensures.keeps;
}

pub loop-host-preserved : goal.loop-host-preserved
loop-host-preserved g c = record {
  on = λ head moment at.
      let on = c.loop-host.invariant.on head moment at in
      goes-on (play_plainly g.W.OuterWorld.rules head (Event.ClientTick c.loop-host.host) on.reached)
      (play_ticks g.W.OuterWorld.rules head (c.loop-host.host + 1)
      (c.args.hosts - (c.loop-host.host + 1))) _ _ (c.in-Done.ensures.goes head on.reached on.here)
      (ticks-step g.W.OuterWorld.rules head c.args.hosts c.loop-host.host
      on.reached _ c.loop-host-test.true on.same);
  keeps = g.met.W.OuterWorld.goes_further Stepped.Done c.args.world.now c.loop-host.world c.take_plainly.new.world c.loop-host.invariant.keeps c.in-Done.ensures.keeps;
}

pub take_plainly-requires : goal.take_plainly-requires
take_plainly-requires g c =
    let same = (g.met.W.OuterWorld.keeps_hosts c.args.world.now c.loop-host.world c.loop-host.invariant.keeps).0 in
    let below = c.loop-host-test.true in
    let few = c.requires in
    omega arith
