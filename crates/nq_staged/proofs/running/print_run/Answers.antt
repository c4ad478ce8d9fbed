use Rattle.std.proofs.Common.{◌≡◌, ◌∙◌, inl, map, subst, sym}
use Rattle.std.specs.List.{AllByRecursion}
use Rattle.nq_staged.specs.Around.{counts_of}
use Rattle.nq_replay.specs.Playing.{beginning}
use Rattle.nq_script.specs.Lines.{once}
use Rattle.nq_script.specs.Schedule.{SpellsSchedule}
use Rattle.nq_staged.proofs.Printed.{is-printed}
use Rattle.nq_staged.specs.Running.{count_line}
use Rattle.nq_replay.proofs.Reversing.{all-reverse}
use Rattle.nq_replay.specs.Texts.{IsTellable}
use Rattle.nq_staged.proofs.running.print_run.Goals as goal

pub schedule_text-requires-clause-told : goal.schedule_text-requires-clause-told
schedule_text-requires-clause-told g c =
    let is = c.requires.told in
    all-reverse (IsTellable c.args.head.now) c.ran.result.now
    (subst (AllByRecursion (IsTellable c.args.head.now)) (sym (c.ran.ensures (beginning c.args.head.now) is.events _ is.plays)) is.tellable)

pub returns-clause-prints : goal.returns-clause-prints
returns-clause-prints g c = λ events plays.
    let spelled = subst (SpellsSchedule c.args.head.now (map once c.ran.result.now)) (sym c.deref.ensures.value) c.in-Ok.ensures in
    let said : c.as_bytes.result.now ≡ count_line (counts_of c.counts.result) = c.as_bytes.ensures.value ∙ c.in-Ok-count_text.ensures in
    inl (record {
      bytes = _;
      are = is-printed c.args.head.now events c.args.world.now _ c.ran.result.now c.journal.result.now.entries (counts_of c.counts.result)
          c.deref.result.now c.as_bytes.result.now plays
          (c.ran.ensures (beginning c.args.head.now) events _ plays) (c.journal.ensures (beginning c.args.head.now) events _ plays)
          (c.counts.ensures (beginning c.args.head.now) events _ plays) spelled said;
      printed = c.print_parts.ensures.prints;
    })
