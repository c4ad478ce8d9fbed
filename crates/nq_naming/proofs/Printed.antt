-- What a run with lists prints.
use Rattle.std.proofs.Common.{◌≡◌, ℕ, List, ◌++◌, Option, map, reverse, sym, ap, ◌∙◌, subst}
use Rattle.std.proofs.lemmas.List.{reverse-reverse}
use Rattle.nq_base.specs.Plain.{plain}
use Rattle.nq_base.specs.declared.Entry.{Entry}
use Rattle.nq_base.specs.declared.Event.{Event}
use Rattle.nq_names.specs.Playing.{PlaysOutside, NamesOver}
use Rattle.nq_journal.specs.Text.{journal_text}
use Rattle.nq_model.specs.protocol.Kept.{Kept}
use Rattle.nq_model.specs.protocol.World.{Head as Beginning}
use Rattle.nq_replay.specs.Lawful.{IsLawful}
use Rattle.nq_replay.specs.Playing.{beginning}
use Rattle.nq_replay.proofs.Journals.{plain_text}
use Rattle.nq_script.specs.Lines.{once}
use Rattle.nq_script.specs.Schedule.{SpellsSchedule}
use Rattle.nq_script.specs.declared.heads.Head.{Head}
use Rattle.nq_naming.specs.Going.{IsAtMoment}
use Rattle.nq_naming.specs.Playing.{Moment}
use Rattle.nq_naming.specs.Running.{IsPrinted, end_of}
use Rattle.nq_name_server.specs.Outside.{outside_run}
use Rattle.nq_name_server.specs.declared.run.event.NameEvent.{NameEvent}

-- a world that plays a run with lists keeps to the bounds of its inner run, and is within skew
lawful : {K : Type 0} (head : Beginning) (events : List NameEvent) (w : NamesOver K) (told : Option Kept) → PlaysOutside head events w told
    → IsLawful head (outside_run head events).ran
lawful head events w told plays =
    let is = plays.reaches.keeps.schedule in
    record { bounds = is.bounds; skew = is.skew }

-- the bytes that are printed of it
pub is-printed : {K : Type 0} (head : Head) (m : Moment) (w : NamesOver K) (told : Option Kept) (ran : List Event) (entries : List Entry)
    (text found : List ℕ) → IsAtMoment (beginning head) m w told found
    → reverse ran ≡ (end_of head m).ran → map plain entries ≡ reverse (end_of head m).world.journal
    → SpellsSchedule head (map once ran) text
    → IsPrinted head m (text ++ (journal_text 2 entries ++ found))
is-printed head m w told ran entries text found at are shown spelled = record {
  lawful = lawful (beginning head) m.events w told at.plays;
  finds = at.finds;
  text = text;
  spelled = subst (λ es. SpellsSchedule head (map once es) text) (sym (reverse-reverse ran) ∙ ap reverse are) spelled;
  bytes_are =
      ap (λ j. text ++ (j ++ found)) (plain_text 2 entries (reverse (end_of head m).world.journal) shown)
      ∙ ap (λ l. text ++ (journal_text 2 (reverse (end_of head m).world.journal) ++ l)) at.said;
}
