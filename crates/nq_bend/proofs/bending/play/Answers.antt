use Rattle.std.proofs.Common.{◌≡◌, arith, length, subst}
use Rattle.nq_bend.proofs.Playing.{begun}
use Rattle.nq_bend.specs.Course.{IsOn}
use Rattle.nq_bend.proofs.bending.play.Goals as goal

pub loop-place-init : goal.loop-place-init
loop-place-init g c = record {
  settings = c.requires.settings;
  few = omega arith;
  goes = c.in_ok-course.ensures.goes c.args.plan.now.head.now c.args.plan.now.bends.now;
  played = begun c.args.plan.now.head.now c.args.world.now _ c.in_ok-course.course c.in_ok-course.ensures.none c.requires.begins;
}

pub loop-place-preserved : goal.loop-place-preserved
loop-place-preserved g c = record {
  settings = c.in_ok-keep.ensures.settings;
  few = omega arith;
  goes = c.in_ok-keep.ensures.goes (c.in_ok-change.ensures.goes c.loop-place.place c.loop-place.invariant.goes);
  played = c.in_ok-keep.ensures.plays (c.in_ok-change.ensures.plays c.loop-place.invariant.played);
}

pub returns-clause-goes : goal.returns-clause-goes
returns-clause-goes g c =
    let is : c.loop-place.place ≡ length c.args.plan.now.old.now.events = omega arith in
    subst (λ n. IsOn c.args.plan.now n c.finish.new.course) is (c.in_ok-finish.ensures.goes c.loop-place.place c.loop-place.invariant.goes)

pub returns-clause-ends : goal.returns-clause-ends
returns-clause-ends g c = (c.in_ok-finish.ensures.plays c.loop-place.invariant.played).ends
