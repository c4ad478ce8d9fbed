use Rattle.std.proofs.Common.{◌≡◌, ◌∙◌, ap, length, map, reverse, subst, sym}
use Rattle.std.specs.List.{AllByRecursion, count_by}
use Rattle.nq_base.specs.Plain.{plain}
use Rattle.nq_replay.proofs.Steps.{as-many}
use Rattle.nq_replay.specs.Playing.{beginning}
use Rattle.nq_replay.specs.Replay.{journal_of}
use Rattle.nq_replay.specs.Texts.{IsTellable}
use Rattle.nq_script.specs.Heads.{FitsHead}
use Rattle.nq_script.specs.Lines.{once}
use Rattle.nq_script.specs.Schedule.{SpellsSchedule}
use Rattle.nq_script.specs.declared.heads.Head.{Head}
use Rattle.nq_storm.proofs.Spelling.{are_told, fits_head}
use Rattle.nq_storm.proofs.Telling.{counted, prints_counted}
use Rattle.nq_storm.specs.Counts.{is_loss, storm_line}
use Rattle.nq_storm.specs.Heads.{storm_head}
use Rattle.nq_storm.proofs.printing.print_storm.Goals as goal

pub schedule_text-requires-clause-fits : goal.schedule_text-requires-clause-fits
schedule_text-requires-clause-fits g c = subst FitsHead (sym c.requires.head) fits_head

pub schedule_text-requires-clause-told : goal.schedule_text-requires-clause-told
schedule_text-requires-clause-told g c =
    subst (λ (h : Head). AllByRecursion (IsTellable h) c.args.ran.now) (sym c.requires.head) (are_told c.args.ran.now c.requires.stormy)

pub returns-clause-prints : goal.returns-clause-prints
returns-clause-prints g c = λ plays.
    let events = reverse c.args.ran.now in
    let spelled = subst (λ (h : Head). SpellsSchedule h (map once c.args.ran.now) c.in-Ok.text.items) c.requires.head c.in-Ok.ensures in
    let shown : map plain c.args.world.now.entries ≡ journal_of storm_head events = plays.shown.shows.entries in
    let line = counted c.args.ran.now c.args.world.now.entries c.len-2.result c.losses-lost.result c.as_bytes.result.now
    (c.as_bytes.ensures.value ∙ c.in-Ok-count_text.ensures ∙ ap (λ n. storm_line n c.len-2.result c.losses-lost.result) c.len.ensures)
    (c.len-2.ensures ∙ ap length c.packets.ensures ∙ as-many (beginning storm_head) events c.args.world.now _ plays)
    shown
    (c.losses-lost.ensures ∙ ap (count_by is_loss) (c.entries.ensures ∙ c.journal.ensures)) in
    prints_counted c.print_parts.result c.args.ran.now c.deref.result.now c.in-Ok.text.items c.journal-2.result.now.entries c.args.world.now.entries
    c.as_bytes.result.now
    _ _ _ _ c.deref.ensures.value c.journal-2.ensures spelled shown line c.print_parts.ensures.prints
