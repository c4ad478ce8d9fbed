use Rattle.std.proofs.Common.{◌≡◌, ◌+◌, ◌<◌, ◌≤◌, ◌∙◌, length, refl, sym, ap, subst, arith}
use Rattle.nq_replay.proofs.Mixing.{all-later, mixed-length}
use Rattle.nq_replay.specs.Delivering.{Marks}
use Rattle.nq_replay.specs.Text.{mixed}
use Rattle.nq_replay.proofs.AsidesOnward.{comes-here, is-there, line-on, lines-end, lines-step, ran-here, stops-line}
use Rattle.nq_replay.specs.Going.{AreForWorld, said}
use Rattle.nq_replay.specs.Rules.{play_line, play_lines}
use Rattle.nq_world.specs.declared.stepped.Stepped.{Stepped}
use Rattle.nq_replay.proofs.play.lines.play.Goals as goal

pub loop-place-init : goal.loop-place-init
loop-place-init g c = record {
  on = λ head moment hosts none plays.
      let first = c.args.script.now.first in
      let same : first + 0 ≡ first = omega arith in
      record {
        reached = moment;
        here = record { playing = plays; marks = subst (λ es. Marks c.new-delivered.result es) (sym none) c.new-delivered.ensures };
        same = ap (λ n. play_lines g.W.OuterWorld.rules head c.args.most n (mixed c.args.asides.now c.args.script.now.lines) moment) same;
      };
  keeps = g.met.W.OuterWorld.goes_nowhere c.args.world.now;
}

pub play_at-requires-clause-hosts : goal.play_at-requires-clause-hosts
play_at-requires-clause-hosts g c =
    let same = (g.met.W.OuterWorld.keeps_hosts c.args.world.now c.loop-place.world c.loop-place.invariant.keeps).0 in
    let few = c.requires.hosts in
    omega arith

pub play_at-requires-clause-asides : goal.play_at-requires-clause-asides
play_at-requires-clause-asides g c =
    all-later (g.W.OuterWorld.can_act c.args.world.now) (g.W.OuterWorld.can_act c.loop-place.world)
    (λ aside can. g.met.W.OuterWorld.acts_later c.args.world.now c.loop-place.world aside c.loop-place.invariant.keeps can) c.args.asides.now
    c.requires.asides

pub play_at-requires-clause-can : goal.play_at-requires-clause-can
play_at-requires-clause-can g c =
    let same = g.met.W.OuterWorld.keeps_hosts c.args.world.now c.loop-place.world c.loop-place.invariant.keeps in
    subst (λ n. AreForWorld n (g.W.OuterWorld.longest c.loop-place.world) c.args.script.now.lines) (sym same.0)
    (subst (λ l. AreForWorld (g.W.OuterWorld.hosts c.args.world.now) l c.args.script.now.lines) (sym same.1) c.requires.can)

pub returns-in_default : goal.returns-in_default
returns-in_default g c = record {
  comes = λ head moment hosts none plays.
      let on = c.loop-place.invariant.on head moment hosts none plays in
      let many = c.len-place-end.ensures in
      let test = c.loop-place-test.true in
      let all = mixed c.args.asides.now c.args.script.now.lines in
      let same = mixed-length c.args.asides.now c.args.script.now.lines in
      let below : c.loop-place.place < length all = omega arith in
      let there = is-there all c.loop-place.place below in
      comes-here _ _ _ _ _ c.stopped.ensures
      (lines-step (play_line g.W.OuterWorld.rules head c.args.most) c.args.script.now.first c.loop-place.place all there.line
      on.reached _ there.split on.same)
      (stops-line (c.args.script.now.first + c.loop-place.place) _
      (play_line g.W.OuterWorld.rules head c.args.most there.line on.reached) _ c.play_at.result _ _
      refl (c.play_at.ensures.goes there.line there.here head on.reached hosts on.here) c.in_default.not-Done);
  stops = λ done. absurd (c.in_default.not-Done (ap said (sym c.stopped.ensures) ∙ done));
  keeps = rw c.stopped.ensures
      (g.met.W.OuterWorld.goes_further c.play_at.result c.args.world.now c.loop-place.world c.play_at.new.world c.loop-place.invariant.keeps c.play_at.ensures.keeps);
}

pub loop-place-preserved : goal.loop-place-preserved
loop-place-preserved g c = record {
  on = λ head moment hosts none plays.
      let on = c.loop-place.invariant.on head moment hosts none plays in
      let many = c.len-place-end.ensures in
      let test = c.loop-place-test.true in
      let all = mixed c.args.asides.now c.args.script.now.lines in
      let same = mixed-length c.args.asides.now c.args.script.now.lines in
      let below : c.loop-place.place < length all = omega arith in
      let there = is-there all c.loop-place.place below in
      line-on (c.args.script.now.first + c.loop-place.place) (play_line g.W.OuterWorld.rules head c.args.most there.line on.reached) _ _ _
      (c.in-Done.ensures.goes there.line there.here head on.reached hosts on.here)
      (lines-step (play_line g.W.OuterWorld.rules head c.args.most) c.args.script.now.first c.loop-place.place all there.line on.reached _ there.split on.same);
  keeps = g.met.W.OuterWorld.goes_further Stepped.Done c.args.world.now c.loop-place.world c.play_at.new.world c.loop-place.invariant.keeps c.in-Done.ensures.keeps;
}

pub returns-clause-comes : goal.returns-clause-comes
returns-clause-comes g c = λ head moment hosts none plays.
    let on = c.loop-place.invariant.on head moment hosts none plays in
    let all = mixed c.args.asides.now c.args.script.now.lines in
    let same = mixed-length c.args.asides.now c.args.script.now.lines in
    let many = c.len-place-end.ensures in
    let past : length all ≤ c.loop-place.place = omega arith in
    ran-here _ on.reached _ on.here.playing
    (lines-end (play_line g.W.OuterWorld.rules head c.args.most)
    (c.args.script.now.first + c.loop-place.place) c.loop-place.place all on.reached _ past on.same)
