use Rattle.std.proofs.Common.{subst, sym}
use Rattle.std.specs.List.{AllByRecursion}
use Rattle.nq_bend.specs.Bending.{EndsSo, Follows, IsSpared}
use Rattle.nq_bend.proofs.bending.bend.Goals as goal

pub returns-clause-follows : goal.returns-clause-follows
returns-clause-follows g c = subst Follows (sym c.whole.ensures) (record {
  many = c.in_ok-course.ensures.goes.many;
  count = c.in_ok-course.ensures.goes.keeps.reached;
  few = c.in_ok-course.ensures.goes.keeps.few;
  order = c.in_ok-course.ensures.goes.keeps.acts;
  told = c.in_ok-course.ensures.goes.keeps.whole;
  leaves = c.in_ok-course.ensures.goes.leaves;
  all = c.in_ok-course.ensures.goes.keeps.all;
})

pub returns-clause-spares : goal.returns-clause-spares
returns-clause-spares g c =
    subst (λ bent. AllByRecursion (IsSpared c.args.bends.now bent.matches.items) bent.ran) (sym c.whole.ensures) c.in_ok-course.ensures.goes.spared

pub returns-clause-ends : goal.returns-clause-ends
returns-clause-ends g c = subst (λ bent. EndsSo c.args.script.now.head bent.is_over bent.ran) (sym c.whole.ensures) c.in_ok-course.ensures.ends
