use Rattle.std.proofs.Common.{◌+◌, reverse}
use Rattle.nq_bend.proofs.Playing.{kept-in, kept-out, on_ok, played-on, still-played}
use Rattle.nq_world.specs.Beginning.{beginning}
use Rattle.nq_bend.proofs.course.happen.Goals as goal

pub returns-clause-beside : goal.returns-clause-beside
returns-clause-beside g c = λ count origin is. c.close.ensures.goes count (c.in_ok-enter.ensures.beside c.args.plan.now.head.now
    c.args.plan.now.old.now.events c.args.plan.now.bends.now count c.requires.told c.requires.spared origin is)

pub returns-clause-along : goal.returns-clause-along
returns-clause-along g c = λ count was origin here stands is. c.close.ensures.goes (count + 1) (c.in_ok-enter.ensures.along c.args.plan.now.head.now
    c.args.plan.now.old.now.events c.args.plan.now.bends.now count was c.requires.told c.requires.spared origin here stands is)

pub returns-then-not-branch-clause-beside : goal.returns-then-not-branch-clause-beside
returns-then-not-branch-clause-beside g c = λ count origin is. c.in_ok-enter.ensures.beside c.args.plan.now.head.now
    c.args.plan.now.old.now.events c.args.plan.now.bends.now count c.requires.told c.requires.spared origin is

pub returns-then-not-branch-clause-along : goal.returns-then-not-branch-clause-along
returns-then-not-branch-clause-along g c = λ count was origin here stands is. c.in_ok-enter.ensures.along c.args.plan.now.head.now
    c.args.plan.now.old.now.events c.args.plan.now.bends.now count was c.requires.told c.requires.spared origin here stands is

pub returns-clause-plays : goal.returns-clause-plays
returns-clause-plays g c =
    let is = kept-in _ c.args.event.now c.args.origin c.args.course.now c.enter.new.self c.if-not-branch.false
    c.in_ok-enter.ensures.enters in
    on_ok c.close.result
    (λ closed p. played-on c.args.plan.now.head.now c.args.event.now c.args.origin c.step-stepped.result c.args.world.now c.step-stepped.new.self _ _
    c.args.course.now c.enter.new.self c.close.new.self is.0 is.1 closed
    (c.step-stepped.ensures.steps (beginning c.args.plan.now.head.now) (reverse c.args.course.now.ran) (p.plays is.0)) p)
    c.close.ensures.closes

pub returns-then-not-branch-clause-plays : goal.returns-then-not-branch-clause-plays
returns-then-not-branch-clause-plays g c = λ p.
    still-played c.args.plan.now.head.now c.args.world.now _ c.args.course.now c.enter.new.self
    (kept-out _ c.args.event.now c.args.origin c.args.course.now c.enter.new.self c.if-not-branch.true
    c.in_ok-enter.ensures.enters) p
