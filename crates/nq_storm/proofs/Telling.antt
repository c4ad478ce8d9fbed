-- A storm as a whole.
use Rattle.std.proofs.Common.{◌≡◌, ◌⊎◌, ℕ, List, ◌++◌, length, map, Option, sym, ap, subst, ◌∙◌, inl, inr}
use Rattle.std.proofs.lemmas.List.{length-reverse, reverse-reverse}
use Rattle.std.specs.List.{count_by}
use Rattle.std.specs.Prelude.{reverse}
use Rattle.nq_base.specs.Plain.{plain}
use Rattle.nq_base.specs.declared.Entry.{Entry}
use Rattle.nq_base.specs.declared.Event.{Event}
use Rattle.nq_base.specs.declared.ending.ending.Ending.{Ending}
use Rattle.nq_journal.specs.Text.{journal_text}
use Rattle.nq_model.specs.protocol.Kept.{Kept}
use Rattle.nq_model.specs.protocol.World.{run}
use Rattle.nq_replay.specs.Playing.{beginning}
use Rattle.nq_replay.proofs.Journals.{plain_text}
use Rattle.nq_replay.proofs.Printings.{bytes_end}
use Rattle.nq_replay.specs.Ending.{CountsKeeper}
use Rattle.nq_replay.specs.Replay.{journal_of}
use Rattle.nq_replay.specs.Schedules.{PrintsBytes}
use Rattle.nq_script.specs.Lines.{once}
use Rattle.nq_script.specs.Schedule.{SpellsSchedule}
use Rattle.nq_storm.proofs.Counting.{same_losses}
use Rattle.nq_storm.proofs.Playing.{storms-are-lawful}
use Rattle.nq_storm.specs.Counts.{is_loss, storm_line}
use Rattle.nq_storm.specs.Ending.{Storms}
use Rattle.nq_storm.specs.Heads.{storm_head}
use Rattle.nq_storm.specs.Printed.{KeepsStorm, PrintsRan, PrintsSpelled, PrintsStorm, StormEnds, counts_of, storm_text}
use Rattle.nq_storm.specs.Whole.{IsWholeStorm}
use Rattle.nq_storm.specs.declared.stormed.Stormed.{Stormed}
use Rattle.nq_storm.specs.Rules.{Rule}
use Rattle.nq_world.specs.Playing.{WorldOver}

-- the line that counts what a world shows of a run counts that run
pub counted : (ran : List Event) (entries : List Entry) (sent lost : ℕ) (line : List ℕ) → line ≡ storm_line (length ran) sent lost
    → sent ≡ length (run (beginning storm_head) (reverse ran)).packets
    → map plain entries ≡ journal_of storm_head (reverse ran) → lost ≡ count_by is_loss entries → line ≡ counts_of (reverse ran)
counted ran entries sent lost line is many shown losses =
    let events = reverse ran in
    let packets = length (run (beginning storm_head) events).packets in
    is
    ∙ ap (λ n. storm_line n sent lost) (sym (length-reverse ran))
    ∙ ap (λ n. storm_line (length events) n lost) many
    ∙ ap (λ n. storm_line (length events) packets n) (losses ∙ sym (same_losses entries) ∙ ap (count_by is_loss) shown)

-- a text, a journal's text and a line were printed, which are the run's
pub prints_counted : (end : Ending) (ran : List Event) (before text : List ℕ) (told entries : List Entry) (line : List ℕ) (held now : Option (List ℕ))
    (w w' : ℕ) → before ≡ text → told ≡ entries → SpellsSchedule storm_head (map once ran) text
    → map plain entries ≡ journal_of storm_head (reverse ran) → line ≡ counts_of (reverse ran)
    → PrintsBytes end (before ++ (journal_text 1 told ++ line)) held now w w' → PrintsRan end ran held now w w'
prints_counted end ran before text told entries line held now w w' first second spelled shown counts printed =
    let same : before ++ (journal_text 1 told ++ line) ≡ storm_text text (reverse ran) =
    ap (λ t. t ++ (journal_text 1 told ++ line)) first
    ∙ ap (λ e. text ++ (journal_text 1 e ++ line)) second
    ∙ ap (λ j. text ++ (j ++ line)) (plain_text 1 entries (journal_of storm_head (reverse ran)) shown)
    ∙ ap (λ l. text ++ (journal_text 1 (journal_of storm_head (reverse ran)) ++ l)) counts in
    inl (record { text = text; spelled = spelled; printed = subst (λ bytes. PrintsBytes end bytes held now w w') same printed })

is_whole : {K : Type 0} (start count : ℕ) (first : Option Rule) (ran : List Event) (text : List ℕ) (new : WorldOver K) (tells : Option Kept)
    → SpellsSchedule storm_head (map once ran) text
    → Storms Stormed.Done (beginning storm_head) start count first (reverse ran) new tells → IsWholeStorm start count first text (reverse ran)
is_whole start count first ran text new tells spelled storms =
    let lawfully = storms-are-lawful storm_head start first storms.last ran text storms.storm spelled in
    record {
      last = storms.last;
      storm = storms.storm;
      many = storms.ends;
      spelled = subst (λ es. SpellsSchedule storm_head (map once es) text) (sym (reverse-reverse ran)) spelled;
      runs = record { lines = map once ran; spelled = spelled; played = lawfully.0 };
      lawful = lawfully.1;
    }

prints_whole : {K : Type 0} (end : Ending) (start count : ℕ) (first : Option Rule) (ran : List Event) (new : WorldOver K) (tells : Option Kept)
    (held now : Option (List ℕ)) (w w' : ℕ) → Storms Stormed.Done (beginning storm_head) start count first (reverse ran) new tells
    → PrintsSpelled end ran held now w w' → PrintsStorm end start count first held now w w'
prints_whole end start count first ran new tells held now w w' storms printed =
    record {
      text = printed.text;
      events = reverse ran;
      whole = is_whole start count first ran printed.text new tells printed.spelled storms;
      printed = printed.printed;
    }

by_end : (end : Ending) (start count : ℕ) (first : Option Rule) (held now : Option (List ℕ)) (w w' : ℕ) → PrintsStorm end start count first held now w
    w' → (end ≡ Ending.Done) ⊎ ((end ≡ Ending.WriteFault) ⊎ (end ≡ Ending.Memory))
    → StormEnds end start count first held now w w'
by_end end start count first held now w w' printed (inl done) =
    subst (λ e. StormEnds e start count first held now w w') (sym done) (subst (λ e. PrintsStorm e start count first held now w w') done printed)
by_end end start count first held now w w' printed (inr (inl failed)) =
    subst (λ e. StormEnds e start count first held now w w') (sym failed) (subst (λ e. PrintsStorm e start count first held now w w') failed printed)
by_end end start count first held now w w' printed (inr (inr wanting)) =
    subst (λ e. StormEnds e start count first held now w w') (sym wanting) (inr (subst (λ e. PrintsStorm e start count first held now w w') wanting printed))

prints_by : (end : Ending) (start count : ℕ) (first : Option Rule) (held now : Option (List ℕ)) (w w' : ℕ) → PrintsStorm end start count first held
    now w w' → StormEnds end start count first held now w w'
prints_by end start count first held now w w' printed =
    by_end end start count first held now w w' printed (bytes_end end (storm_text printed.text printed.events) held now w w' printed.printed)

-- what was printed of it
pub prints_storm : {K : Type 0} (end : Ending) (start count : ℕ) (first : Option Rule) (ran : List Event) (new : WorldOver K) (tells : Option Kept)
    (held now : Option (List ℕ)) (w w' : ℕ) → Storms Stormed.Done (beginning storm_head) start count first (reverse ran) new tells
    → PrintsRan end ran held now w w' → StormEnds end start count first held now w w'
prints_storm end start count first ran new tells held now w w' storms (inl printed) =
    prints_by end start count first held now w w' (prints_whole end start count first ran new tells held now w w' storms printed)
prints_storm end start count first ran new tells held now w w' storms (inr none) =
    subst (λ e. StormEnds e start count first held now w w') (sym none.0) (inl none.1)

-- what is kept of it
keeps_whole : {K : Type 0} (start count : ℕ) (first : Option Rule) (ran : List Event) (new : WorldOver K) (tells : Option Kept)
    (held now : Option (List ℕ)) (w w' : ℕ) → Storms Stormed.Done (beginning storm_head) start count first (reverse ran) new tells
    → PrintsSpelled Ending.Done ran held now w w' → KeepsStorm start count first held now tells
keeps_whole start count first ran new tells held now w w' storms printed = record {
  text = printed.text;
  events = reverse ran;
  whole = is_whole start count first ran printed.text new tells printed.spelled storms;
  printed = printed.printed;
  keeps = storms.stands.keeps;
}

pub keeps_storm : {K : Type 0} (end : Ending) (start count : ℕ) (first : Option Rule) (ran : List Event) (new : WorldOver K) (tells : Option Kept)
    (held now : Option (List ℕ)) (w w' : ℕ) → Storms Stormed.Done (beginning storm_head) start count first (reverse ran) new tells
    → PrintsRan end ran held now w w' → end ≡ Ending.Done → KeepsStorm start count first held now tells
keeps_storm end start count first ran new tells held now w w' storms (inl printed) done =
    keeps_whole start count first ran new tells held now w w' storms (subst (λ e. PrintsSpelled e ran held now w w') done printed)
keeps_storm end start count first ran new tells held now w w' storms (inr none) done = let wanting = none.0 in absurd (cc)

-- printing it is no fault of the keeper
counts_by : (end : Ending) (before count : ℕ) → count ≡ before → (end ≡ Ending.Done) ⊎ ((end ≡ Ending.WriteFault) ⊎ (end ≡ Ending.Memory))
    → CountsKeeper end before count
counts_by end before count same (inl is) = rw is same
counts_by end before count same (inr (inl is)) = rw is same
counts_by end before count same (inr (inr is)) = rw is same

pub counts_printed : (end : Ending) (ran : List Event) (held now : Option (List ℕ)) (w w' before count : ℕ) → PrintsRan end ran held now w w'
    → count ≡ before → CountsKeeper end before count
counts_printed end ran held now w w' before count (inl printed) same =
    counts_by end before count same (bytes_end end (storm_text printed.text (reverse ran)) held now w w' printed.printed)
counts_printed end ran held now w w' before count (inr none) same = counts_by end before count same (inr (inr none.0))
