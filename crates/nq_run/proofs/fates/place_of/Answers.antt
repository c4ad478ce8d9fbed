use Rattle.nq_run.proofs.Finding.{found_at, is_of_kind, lack_kind, not_of, passed_one}
use Rattle.nq_run.proofs.fates.place_of.Goals as goal

pub returns-then-is_of-clause-others : goal.returns-then-is_of-clause-others
returns-then-is_of-clause-others g c =
    c.loop-place.invariant.others

pub returns-then-is_of-clause-found : goal.returns-then-is_of-clause-found
returns-then-is_of-clause-found g c =
    found_at (λ fate. (goal.Fate-dyn g (fate.vtable, fate.value)).told fate.value) c.args.kind c.loop-place.place c.args.fates.now
    c.index-fates-place.result c.loop-place-test.true c.index-fates-place.is
    (is_of_kind _ c.args.kind c.is_of.result c.if-is_of.true c.is_of.ensures)

pub loop-place-preserved : goal.loop-place-preserved
loop-place-preserved g c = record {
  others = passed_one (λ fate. (goal.Fate-dyn g (fate.vtable, fate.value)).told fate.value) c.args.kind c.loop-place.place c.args.fates.now
      c.index-fates-place.result _ c.loop-place-test.true c.index-fates-place.is c.loop-place.invariant.others (not_of _ c.args.kind c.is_of.result
      c.if-is_of.false c.is_of.ensures);
}

pub returns-clause-none : goal.returns-clause-none
returns-clause-none g c = λ none.
    lack_kind (λ fate. (goal.Fate-dyn g (fate.vtable, fate.value)).told fate.value) c.args.kind c.loop-place.place c.args.fates.now
    c.loop-place-test.false c.loop-place.invariant.others
