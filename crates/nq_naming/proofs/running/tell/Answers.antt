use Rattle.std.proofs.Common.{inl, map, subst, sym}
use Rattle.std.specs.List.{AllByRecursion}
use Rattle.nq_replay.proofs.Reversing.{all-reverse}
use Rattle.nq_replay.specs.Playing.{beginning}
use Rattle.nq_replay.specs.Texts.{IsTellable}
use Rattle.nq_script.specs.Lines.{once}
use Rattle.nq_script.specs.Schedule.{SpellsSchedule}
use Rattle.nq_played.proofs.Outcomes.{memory_before, run_ends, stop_ends}
use Rattle.nq_naming.specs.Running.{IsPrinted}
use Rattle.nq_naming.specs.Text.{FirstBadNames, SpellsNames}
use Rattle.nq_naming.proofs.Printed.{is-printed}
use Rattle.nq_naming.specs.Going.{IsAtMoment}
use Rattle.nq_naming.specs.Playing.{Moment, play}
use Rattle.nq_naming.proofs.running.tell.Goals as goal

pub schedule_text-requires-clause-told : goal.schedule_text-requires-clause-told
schedule_text-requires-clause-told g c =
    let is = c.requires.told c.in-All.is in
    all-reverse (IsTellable c.args.head.now) c.ran.result.now
    (subst (AllByRecursion (IsTellable c.args.head.now)) (sym (c.ran.ensures (beginning c.args.head.now) is.moment.events _ is.plays)) is.tellable)

pub returns-in_default-clause-ends : goal.returns-in_default-clause-ends
returns-in_default-clause-ends g c = λ due comes. memory_before SpellsNames FirstBadNames play IsPrinted c.args.head.now due _ _

pub returns-in-Ok-clause-ends : goal.returns-in-Ok-clause-ends
returns-in-Ok-clause-ends g c = λ due comes.
    let P : Moment → Type 0 = λ m. IsAtMoment (beginning c.args.head.now) m c.args.world.now (g.L.Keeper.content c.args.world.now.inner.server.keeper)
    c.args.found.now in
    let spelled = subst (SpellsSchedule c.args.head.now (map once c.ran.result.now)) (sym c.deref.ensures.value) c.in-Ok.ensures in
    run_ends SpellsNames FirstBadNames play IsPrinted c.print_parts.result c.args.head.now due P _ _ _ _ (rw c.in-All.is at comes)
    (λ m at. inl (record {
      bytes = _;
      are = is-printed c.args.head.now m c.args.world.now _ c.ran.result.now c.journal.result.now.entries c.deref.result.now c.args.found.now at
          (c.ran.ensures (beginning c.args.head.now) m.events _ at.plays) (c.journal.ensures (beginning c.args.head.now) m.events _ at.plays) spelled;
      printed = c.print_parts.ensures.prints;
    }))

pub returns-in-Stopped-clause-ends : goal.returns-in-Stopped-clause-ends
returns-in-Stopped-clause-ends g c = λ due comes.
    let P : Moment → Type 0 = λ m. IsAtMoment (beginning c.args.head.now) m c.args.world.now (g.L.Keeper.content c.args.world.now.inner.server.keeper)
    c.args.found.now in
    stop_ends SpellsNames FirstBadNames play IsPrinted c.tell_stop.result c.args.head.now c.in-Stopped.line c.in-Stopped.answer due P _ _ _ _
    (rw c.in-Stopped.is at comes) c.tell_stop.ensures.tells
