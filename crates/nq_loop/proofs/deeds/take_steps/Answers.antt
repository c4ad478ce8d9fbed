use Rattle.std.proofs.Common.{◌≤◌, ◌∙◌, Err, Ok, length, refl, sym, arith}
use Rattle.nq_loop.proofs.TurnPlaces.{all-below, step-is}
use Rattle.nq_loop.proofs.Whole.{keeps-any, keeps-then, no-steps, step-more, step-stops, steps-whole}
use Rattle.nq_loop.specs.Holding.{loop_of}
use Rattle.nq_loop.specs.Looping.{step_of, turn_steps}
use Rattle.nq_loop.proofs.deeds.take_steps.Goals as goal

pub loop-place-init : goal.loop-place-init
loop-place-init g c = record {
  loops = λ head hosts here. no-steps head _ here;
  keeps = record { faults = refl; clients_are = refl; hosts_are = refl };
  follows = g.met.K.Keeper.follows_itself c.args.looping.now.world.server.keeper;
}

pub take_step-requires-clause-there : goal.take_step-requires-clause-there
take_step-requires-clause-there g c =
    let keeps = c.loop-place.invariant.keeps in
    let was = c.requires.there in
    record { clients_are = omega (arith, keeps, was); few = omega (arith, keeps, was); links_are = omega (arith, keeps, was) }

pub take_step-requires-clause-among : goal.take_step-requires-clause-among
take_step-requires-clause-among g c =
    (step-is (length c.loop-place.looping.state.begun) c.hosts-hosts.result c.args.rounds c.step_count-place-end.result c.loop-place.place
    c.deed_at-deed.result (c.hosts-hosts.ensures ∙ sym c.loop-place.invariant.keeps.hosts_are) c.step_count-place-end.ensures
    c.loop-place-test.true c.deed_at-deed.ensures).among

pub loop-place-preserved : goal.loop-place-preserved
loop-place-preserved g c =
    let before = c.loop-place.invariant in
    record {
      loops = λ head hosts here.
          let first = before.loops head hosts here in
          let second = c.in-Ok.ensures.loops head (hosts ∙ sym before.keeps.hosts_are) first.stands in
          let is = step-is head.hosts c.hosts-hosts.result c.args.rounds c.step_count-place-end.result c.loop-place.place c.deed_at-deed.result
          (c.hosts-hosts.ensures ∙ sym hosts) c.step_count-place-end.ensures c.loop-place-test.true c.deed_at-deed.ensures in
          step-more head (turn_steps head.hosts c.args.rounds) c.loop-place.place (step_of c.deed_at-deed.result) c.loop-place.any c.in-Ok.more
          c.either-any.result (loop_of g.K.Keeper.content g.L.Link.sent g.L.Link.waiting g.L.Link.faults g.L.Link.receives c.args.looping.now.world
          c.args.looping.now.state c.args.looping.now.ran c.args.links.now)
          (loop_of g.K.Keeper.content g.L.Link.sent g.L.Link.waiting g.L.Link.faults g.L.Link.receives c.loop-place.looping.world c.loop-place.looping.state
          c.loop-place.looping.ran c.loop-place.links) (loop_of g.K.Keeper.content g.L.Link.sent g.L.Link.waiting g.L.Link.faults g.L.Link.receives
          c.take_step.new.looping.world c.take_step.new.looping.state c.take_step.new.looping.ran c.take_step.new.links) is.step c.either-any.ensures
          first second;
      keeps = keeps-any c.in-Ok.more c.either-any.result _ _ _ _ _ _ (keeps-then c.loop-place.any (Ok c.in-Ok.more) _ _ _ _ _ _ _ _ _ before.keeps
          c.in-Ok.ensures.keeps);
      follows = g.met.K.Keeper.follows_on _ _ _ before.follows c.take_step.ensures.follows;
    }

pub returns-in-Err : goal.returns-in-Err
returns-in-Err g c =
    let before = c.loop-place.invariant in
    record {
      loops = λ head hosts here.
          let first = before.loops head hosts here in
          let second = c.in-Err.ensures.loops head (hosts ∙ sym before.keeps.hosts_are) first.stands in
          let is = step-is head.hosts c.hosts-hosts.result c.args.rounds c.step_count-place-end.result c.loop-place.place c.deed_at-deed.result
          (c.hosts-hosts.ensures ∙ sym hosts) c.step_count-place-end.ensures c.loop-place-test.true c.deed_at-deed.ensures in
          step-stops head (turn_steps head.hosts c.args.rounds) c.loop-place.place (step_of c.deed_at-deed.result) c.loop-place.any c.in-Err.why
          (loop_of g.K.Keeper.content g.L.Link.sent g.L.Link.waiting g.L.Link.faults g.L.Link.receives c.args.looping.now.world c.args.looping.now.state
          c.args.looping.now.ran c.args.links.now)
          (loop_of g.K.Keeper.content g.L.Link.sent g.L.Link.waiting g.L.Link.faults g.L.Link.receives c.loop-place.looping.world c.loop-place.looping.state
          c.loop-place.looping.ran c.loop-place.links) (loop_of g.K.Keeper.content g.L.Link.sent g.L.Link.waiting g.L.Link.faults g.L.Link.receives
          c.take_step.new.looping.world c.take_step.new.looping.state c.take_step.new.looping.ran c.take_step.new.links) is.step first second;
      keeps = keeps-then c.loop-place.any (Err c.in-Err.why) _ _ _ _ _ _ _ _ _ before.keeps c.in-Err.ensures.keeps;
      follows = g.met.K.Keeper.follows_on _ _ _ before.follows c.take_step.ensures.follows;
    }

pub returns : goal.returns
returns g c = record {
  loops = λ head hosts here.
      let past : c.step_count-place-end.result ≤ c.loop-place.place = omega (arith, c.loop-place-test.false) in
      let all = all-below head.hosts c.hosts-hosts.result c.args.rounds c.step_count-place-end.result c.loop-place.place (c.hosts-hosts.ensures
      ∙ sym hosts) c.step_count-place-end.ensures past in
      steps-whole head (turn_steps head.hosts c.args.rounds) c.loop-place.place (Ok c.loop-place.any) (loop_of g.K.Keeper.content g.L.Link.sent
      g.L.Link.waiting g.L.Link.faults g.L.Link.receives c.args.looping.now.world c.args.looping.now.state c.args.looping.now.ran c.args.links.now)
      (loop_of g.K.Keeper.content g.L.Link.sent g.L.Link.waiting g.L.Link.faults g.L.Link.receives c.loop-place.looping.world c.loop-place.looping.state
      c.loop-place.looping.ran c.loop-place.links) all (c.loop-place.invariant.loops head hosts here);
  keeps = c.loop-place.invariant.keeps;
  follows = c.loop-place.invariant.follows;
}
