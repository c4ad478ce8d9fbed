use Rattle.std.proofs.Common.{sym, arith, take, add-one, subst, length, ◌≤◌, refl}
use Rattle.std.proofs.lemmas.Bool.{iff_false}
use Rattle.nq_base.specs.Name.{IsNew}
use Rattle.nq_script.proofs.HeadReading.{new-at, new-more}
use Rattle.nq_script.proofs.heads.is_new.Goals as goal
use Rattle.nq_script.proofs.heads.is_new.Goals.{in-Some+else-is, in_default}

pub returns-then-is : goal.returns-then-is
returns-then-is c = (
  λ e. absurd (grind arith),
  λ new. absurd (new-at c.args.name.now c.args.files.now c.loop-place.place
      (c.in-Some.other.now, c.in-Some.field-0-1) c.in-Some.ensures.some new (c.is.ensures.0 c.if-is.true)),
)

pub loop-place-preserved : goal.loop-place-preserved
loop-place-preserved c = elim c.match-get.branch [
  | in-Some+else-is w ↦
      subst (λ n. IsNew c.args.name.now (take n c.args.files.now)) (sym (add-one c.loop-place.place))
      (new-more c.args.name.now c.args.files.now c.loop-place.place (w.in-Some.other.now, w.in-Some.field-0-1) w.in-Some.ensures.some
      c.loop-place.invariant (iff_false w.is.ensures w.if-is.false))
  | in_default w ↦ (let past : length c.args.files.now ≤ c.loop-place.place = w.in_default.ensures.none.0 refl in absurd (omega arith))
]
