-- What a staged run prints.
use Rattle.std.proofs.Common.{◌≡◌, ℕ, List, ◌++◌, Option, map, reverse, sym, ap, ◌∙◌, subst}
use Rattle.std.proofs.lemmas.List.{reverse-reverse}
use Rattle.nq_base.specs.Plain.{plain}
use Rattle.nq_base.specs.declared.Entry.{Entry}
use Rattle.nq_base.specs.declared.Event.{Event}
use Rattle.nq_staged.specs.Worlds.{PlaysOutside, StagedOver}
use Rattle.nq_journal.specs.Text.{journal_text}
use Rattle.nq_model.specs.protocol.Kept.{Kept}
use Rattle.nq_model.specs.protocol.World.{Head as Beginning}
use Rattle.nq_replay.specs.Lawful.{IsLawful}
use Rattle.nq_replay.specs.Playing.{beginning}
use Rattle.nq_replay.proofs.Journals.{plain_text}
use Rattle.nq_script.specs.Lines.{once}
use Rattle.nq_script.specs.Schedule.{SpellsSchedule}
use Rattle.nq_script.specs.declared.heads.Head.{Head}
use Rattle.nq_staged.specs.Running.{IsPrinted, count_line, end_of}
use Rattle.nq_stage.specs.Outer.{Counts}
use Rattle.nq_stage.specs.Outside.{outside_run}
use Rattle.nq_stage.specs.declared.run.event.StagedEvent.{StagedEvent}

-- a world that plays a staged run keeps to the bounds of its inner run, and is within skew
lawful : {K : Type 0} (head : Beginning) (events : List StagedEvent) (w : StagedOver K) (told : Option Kept) → PlaysOutside head events w told
    → IsLawful head (outside_run head events).ran
lawful head events w told plays =
    let is = plays.reaches.faithful.lawful in
    record { bounds = is.bounds; skew = is.skew }

-- the bytes that are printed of it
pub is-printed : {K : Type 0} (head : Head) (events : List StagedEvent) (w : StagedOver K) (told : Option Kept) (ran : List Event)
    (entries : List Entry) (counts : Counts) (text line : List ℕ) → PlaysOutside (beginning head) events w told
    → reverse ran ≡ (end_of head events).ran → map plain entries ≡ reverse (end_of head events).world.journal → counts ≡ (end_of head events).counts
    → SpellsSchedule head (map once ran) text → line ≡ count_line counts
    → IsPrinted head events (text ++ (journal_text 2 entries ++ line))
is-printed head events w told ran entries counts text line plays are shown counted spelled said = record {
  schedule = plays.reaches.schedule;
  lawful = lawful (beginning head) events w told plays;
  text = text;
  spelled = subst (λ es. SpellsSchedule head (map once es) text) (sym (reverse-reverse ran) ∙ ap reverse are) spelled;
  bytes_are =
      ap (λ j. text ++ (j ++ line)) (plain_text 2 entries (reverse (end_of head events).world.journal) shown)
      ∙ ap (λ l. text ++ (journal_text 2 (reverse (end_of head events).world.journal) ++ l)) (said ∙ ap count_line counted);
}
