use Rattle.std.proofs.Common.{◌≡◌, ◌∙◌, ap, map, reverse, subst, sym}
use Rattle.std.specs.List.{count_by}
use Rattle.nq_base.specs.Plain.{plain}
use Rattle.nq_loop.proofs.Heads.{fits-head}
use Rattle.nq_loop.proofs.Spelling.{are-told}
use Rattle.nq_loop.proofs.Telling.{counted, prints_counted}
use Rattle.nq_loop.specs.Counts.{is_answer, is_call}
use Rattle.nq_replay.specs.Replay.{journal_of}
use Rattle.nq_script.specs.Heads.{FitsHead}
use Rattle.nq_loop.proofs.printing.print_loop.Goals as goal

pub schedule_text-requires : goal.schedule_text-requires
schedule_text-requires g c = record {
  fits = subst FitsHead (sym c.requires.head) (fits-head c.args.head.now.hosts c.requires.some c.requires.few);
  told = are-told c.args.head.now c.args.ran.now (ap (λ h. h.version) c.requires.head) c.requires.looped;
}

pub returns-clause-prints : goal.returns-clause-prints
returns-clause-prints g c = λ plays.
    let head = c.args.head.now in
    let events = reverse c.args.ran.now in
    let entries = c.args.world.now.entries in
    let shown : map plain entries ≡ journal_of head events = plays.shown.shows.entries in
    let lent = c.entries-entries.ensures ∙ c.journal.ensures in
    let line = counted head events entries c.calls.result c.answers.result c.as_bytes.result.now
    (c.as_bytes.ensures.value ∙ c.in-Ok-count_text.ensures) shown
    (c.calls.ensures ∙ ap (count_by is_call) lent) (c.answers.ensures ∙ ap (count_by is_answer) lent) in
    prints_counted c.print_parts.result head c.args.ran.now c.deref.result.now c.in-Ok.text.items c.journal-2.result.now.entries entries c.as_bytes.result.now
    _ _ _ _ (ap (λ h. h.version) c.requires.head) c.deref.ensures.value c.journal-2.ensures c.in-Ok.ensures shown line c.print_parts.ensures.prints
