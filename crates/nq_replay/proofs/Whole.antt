-- What reading a schedule and replaying it come to together.
use Rattle.std.proofs.Common.{◌≡◌, ◌<◌, ◌≤◌, ℕ, List, Option, Some, Err, inl, inr, refl, sym, subst, arith, length}
use Rattle.nq_base.specs.declared.Event.{Event}
use Rattle.nq_base.specs.declared.ending.ending.Ending.{Ending}
use Rattle.nq_io.specs.Whole.{IsAll}
use Rattle.nq_model.specs.protocol.Kept.{Kept}
use Rattle.nq_replay.proofs.Lawfully.{played-runs-are-lawful}
use Rattle.nq_replay.specs.AsidesPlaying.{Ended, ran, stopped}
use Rattle.nq_replay.specs.Playing.{play}
use Rattle.nq_replay.proofs.Endings.{told_text}
use Rattle.nq_replay.proofs.Never.{none_rose}
use Rattle.nq_replay.proofs.Outcomes.{ends_done, ends_faulty, ends_passing, ends_skew, is_due, text_of_schedule}
use Rattle.nq_replay.specs.Ending.{CountsKeeper, Ends, EndsByInput, EndsText, IsFault, IsUnlessFault, IsUnlessFaultOver}
use Rattle.nq_replay.specs.Reading.{IsReadAs, PrintsBad, RefusedUnlessFault, Refuses}
use Rattle.nq_replay.specs.Replay.{FaultyLine, OfInput, Passes, PrintsWithin}
use Rattle.nq_replay.specs.Schedules.{EndsOver, EndsPlayed, KeepsPlayed}
use Rattle.nq_replay.specs.declared.printing.Bound.{Bound}
use Rattle.nq_script.specs.Schedule.{FirstBadLine, SpellsSchedule}
use Rattle.nq_script.specs.declared.heads.Head.{Head}
use Rattle.nq_script.specs.declared.lines.Line.{Line}
use Rattle.nq_script.specs.declared.scripts.Script.{Script}

-- ---- where no schedule was read

bad_faulty : (limit : ℕ) (left rest held now : Option (List ℕ)) (r r' w w' : ℕ) → OfInput limit left rest (λ text. PrintsBad text held now w w')
    → Ends Ending.Script limit left rest held now r r' w w'
bad_faulty limit left rest held now r r' w w' bad = record {
  text = bad.text;
  read = bad.read;
  so = record { number = bad.so.number; faulty = inl bad.so.bad; printed = bad.so.printed };
}

pub refused_ends : (end : Ending) (limit : ℕ) (left rest held now : Option (List ℕ)) (r r' w w' : ℕ) → Refuses end limit left rest held now r r' w w'
    → Ends end limit left rest held now r r' w w'
refused_ends Ending.Script limit left rest held now r r' w w' so = bad_faulty limit left rest held now r r' w w' so
refused_ends Ending.ReadFault limit left rest held now r r' w w' so = so
refused_ends Ending.Memory limit left rest held now r r' w w' so = inl so
refused_ends Ending.Limit limit left rest held now r r' w w' so = inl so
refused_ends other limit left rest held now r r' w w' so = absurd so

pub refused_not_done : (end : Ending) (limit : ℕ) (left rest held now : Option (List ℕ)) (r r' w w' : ℕ) → Refuses end limit left rest held now r r' w
    w' → end ≡ Ending.Done → ⊥
refused_not_done end limit left rest held now r r' w w' so done = subst (λ e. Refuses e limit left rest held now r r' w w') done so

pub refused_counts : (end : Ending) (limit : ℕ) (left rest held now : Option (List ℕ)) (r r' w w' k : ℕ) → Refuses end limit left rest held now r r' w
    w' → CountsKeeper end k k
refused_counts Ending.Script limit left rest held now r r' w w' k so = refl
refused_counts Ending.ReadFault limit left rest held now r r' w w' k so = refl
refused_counts Ending.Memory limit left rest held now r r' w w' k so = refl
refused_counts Ending.Limit limit left rest held now r r' w w' k so = refl
refused_counts other limit left rest held now r r' w w' k so = absurd so

refused_script : (end : Ending) (text : List ℕ) (number r r' w w' k k' : ℕ)
    → (FirstBadLine text number → RefusedUnlessFault (Err end) Ending.Script r r' w w') → ((head : Head) (lines : List Line)
    → SpellsSchedule head lines text → IsFault end r r' w w')
    → FaultyLine text number → IsUnlessFaultOver end Ending.Script r r' w w' k k'
refused_script end text number r r' w w' k k' bad spelled (inl is) = inl (bad is)
refused_script end text number r r' w w' k k' bad spelled (inr stops) = inl (inr (spelled stops.head stops.lines stops.spelled))

refused_passes : (end : Ending) (text : List ℕ) (number : ℕ) (bound : Bound) (r r' w w' k k' : ℕ)
    → ((head : Head) (lines : List Line) → SpellsSchedule head lines text → IsFault end r r' w w')
    → Passes text number bound → IsUnlessFaultOver end Ending.Limit r r' w w' k k'
refused_passes end text number Bound.Bytes r r' w w' k k' spelled passes = absurd passes
refused_passes end text number Bound.Events r r' w w' k k' spelled passes = inl (inr (spelled passes.head passes.lines passes.spelled))
refused_passes end text number Bound.Packets r r' w w' k k' spelled passes = inl (inr (spelled passes.head passes.lines passes.spelled))

pub refused_by_input : (end : Ending) (limit : ℕ) (left : Option (List ℕ)) (r r' w w' k k' : ℕ)
    → ((text : List ℕ) → left ≡ Some text → limit < length text → RefusedUnlessFault (Err end) Ending.Limit r r' w w')
    → ((text : List ℕ) → left ≡ Some text → length text ≤ limit → (number : ℕ) → FirstBadLine text number → RefusedUnlessFault (Err end) Ending.Script
    r r' w w')
    → ((text : List ℕ) → left ≡ Some text → length text ≤ limit → (head : Head) (lines : List Line) → SpellsSchedule head lines text → IsFault end r r' w w')
    → EndsByInput end limit left r r' w w' k k'
refused_by_input end limit left r r' w w' k k' over bad spelled = record {
  over = λ text told longer. inl (over text told longer);
  script = λ text told within number faulty. refused_script end text number r r' w w' k k' (bad text told within number) (spelled text told within) faulty;
  skew = λ text told within number broken breaks. inl (inr (spelled text told within breaks.head breaks.lines breaks.spelled));
  passes = λ text told within number bound passes. refused_passes end text number bound r r' w w' k k' (spelled text told within) passes;
  done = λ text told within head events runs. inl (inr (spelled text told within head runs.lines runs.spelled));
}

-- ---- where the keeper did not begin

-- ---- where a schedule was read

-- what was printed of a text that was read is what was printed of the input
ends_text : (end : Ending) (text : List ℕ) (limit : ℕ) (left rest held now : Option (List ℕ)) (r r' w w' : ℕ) → IsAll text limit left rest
    → EndsText end text held now w w' → Ends end limit left rest held now r r' w w'
ends_text Ending.Done text limit left rest held now r r' w w' read ends = record { text = text; read = read; so = ends }
ends_text Ending.Script text limit left rest held now r r' w w' read ends = record { text = text; read = read; so = ends }
ends_text Ending.Skew text limit left rest held now r r' w w' read ends = record { text = text; read = read; so = ends }
ends_text Ending.WriteFault text limit left rest held now r r' w w' read ends = record { text = text; read = read; so = ends }
ends_text Ending.KeepFault text limit left rest held now r r' w w' read ends = record { text = text; read = read; so = ends }
ends_text Ending.Memory text limit left rest held now r r' w w' read ends = elim ends [
  | inl none ↦ inl (none, inr (inl (text, read)))
  | inr part ↦ inr (record { text = text; read = read; so = part })
]
ends_text Ending.Limit text limit left rest held now r r' w w' read ends = inr (record { text = text; read = read; so = ends })
ends_text other text limit left rest held now r r' w w' read ends = absurd ends

over_text : (end : Ending) (script : Script) (text : List ℕ) (held now : Option (List ℕ)) (w w' : ℕ) → IsReadAs script text → EndsOver end script.head
    (play script.head script.lines) held now w w' → EndsText end text held now w w'
over_text end script text held now w w' is (inl ends) = text_of_schedule end script.head script.lines text held now w w' is.spelled ends
over_text end script text held now w w' is (inr failed) =
    subst (λ e. EndsText e text held now w w') (sym failed.0) (record { head = script.head; lines = script.lines; spelled = is.spelled }, failed.1)

pub over_ends : (end : Ending) (script : Script) (limit : ℕ) (left rest held now : Option (List ℕ)) (r r' w w' : ℕ) → OfInput limit left rest
    (λ text. IsReadAs script text)
    → EndsOver end script.head (play script.head script.lines) held now w w' → Ends end limit left rest held now r r' w w'
over_ends end script limit left rest held now r r' w w' input ends =
    ends_text end input.text limit left rest held now r r' w w' input.read (over_text end script input.text held now w w' input.so ends)

within_due : (head : Head) (lines : List Line) (due : Ended (List Event)) (text : List ℕ) (held now : Option (List ℕ)) (told : Option Kept) (w w' : ℕ)
    → SpellsSchedule head lines text → play head lines ≡ due
    → EndsOver Ending.Done head due held now w w' → KeepsPlayed head due told → PrintsWithin text held now told
within_due head lines (ran events) text held now told w w' spelled is (inl printed) keeps = record {
  head = head;
  events = events;
  runs = record { lines = lines; spelled = spelled; played = is };
  printed = printed;
  lawful = played-runs-are-lawful head lines text events spelled is;
  keeps = keeps;
}
within_due head lines (ran events) text held now told w w' spelled is (inr failed) keeps = let same = failed.0 in absurd (cc)
within_due head lines (stopped line answer) text held now told w w' spelled is ends keeps = absurd keeps

-- a journal that was printed is that of a lawful schedule
pub over_within : (end : Ending) (script : Script) (limit : ℕ) (left rest held now : Option (List ℕ)) (told : Option Kept) (w w' : ℕ)
    → OfInput limit left rest (λ text. IsReadAs script text)
    → EndsOver end script.head (play script.head script.lines) held now w w'
    → (end ≡ Ending.Done → KeepsPlayed script.head (play script.head script.lines) told)
    → end ≡ Ending.Done → OfInput limit left rest (λ text. PrintsWithin text held now told)
over_within end script limit left rest held now told w w' input ends keeps done = record {
  text = input.text;
  read = input.read;
  so = within_due script.head script.lines (play script.head script.lines) input.text held now told w w' input.so.spelled refl
      (subst (λ e. EndsOver e script.head (play script.head script.lines) held now w w') done ends) (keeps done);
}

-- playing meets no fault of the source
raised : (end : Ending) (r r' w w' : ℕ) → IsFault end 0 0 w w' → IsFault end r r' w w'
raised Ending.ReadFault r r' w w' fault = absurd (none_rose 0 0 refl refl fault)
raised Ending.WriteFault r r' w w' fault = fault
raised Ending.Memory r r' w w' fault = tt
raised other r r' w w' fault = absurd fault

raised_unless : (end wanted : Ending) (r r' w w' : ℕ) → IsUnlessFault end wanted 0 0 w w' → IsUnlessFault end wanted r r' w w'
raised_unless end wanted r r' w w' (inl same) = inl same
raised_unless end wanted r r' w w' (inr fault) = inr (raised end r r' w w' fault)

over_unless : (end wanted : Ending) (head : Head) (due : Ended (List Event)) (held now : Option (List ℕ)) (r r' w w' k k' : ℕ)
    → (EndsPlayed end head due held now w w' → IsUnlessFault end wanted 0 0 w w')
    → CountsKeeper end k k' → EndsOver end head due held now w w' → IsUnlessFaultOver end wanted r r' w w' k k'
over_unless end wanted head due held now r r' w w' k k' unless counts (inl ends) = inl (raised_unless end wanted r r' w w' (unless ends))
over_unless end wanted head due held now r r' w w' k k' unless counts (inr failed) = inr (failed.0, subst (λ e. CountsKeeper e k k') failed.0 counts)

told_as : (script : Script) (limit : ℕ) (left rest : Option (List ℕ)) (text : List ℕ) → OfInput limit left rest (λ t. IsReadAs script t)
    → left ≡ Some text → IsReadAs script text
told_as script limit left rest text input told = subst (λ t. IsReadAs script t) (told_text input.text limit left rest text input.read told) input.so

not_longer : (limit : ℕ) (left rest : Option (List ℕ)) (bytes text : List ℕ) → IsAll bytes limit left rest → left ≡ Some text → limit < length text → ⊥
not_longer limit left rest bytes text read told longer =
    let within : length text ≤ limit = subst (λ t. length t ≤ limit) (told_text bytes limit left rest text read told) read.within in omega arith

pub over_by_input : (end : Ending) (script : Script) (limit : ℕ) (left rest held now : Option (List ℕ)) (r r' w w' k k' : ℕ) → OfInput limit left rest
    (λ text. IsReadAs script text)
    → EndsOver end script.head (play script.head script.lines) held now w w' → CountsKeeper end k k' → EndsByInput end limit left r r' w w' k k'
over_by_input end script limit left rest held now r r' w w' k k' input ends counts =
    let head = script.head in
    let lines = script.lines in
    let due = play head lines in
    record {
      over = λ text told longer. absurd (not_longer limit left rest input.text text input.read told longer);
      script = λ text told within number faulty.
          let is = told_as script limit left rest text input told in
          over_unless end Ending.Script head due held now r r' w w' k k'
          (λ played. ends_faulty end head lines text number held now w w' played is.only (is.good number) faulty) counts ends;
      skew = λ text told within number broken breaks.
          let is = told_as script limit left rest text input told in
          over_unless end Ending.Skew head due held now r r' w w' k k'
          (λ played. ends_skew end head lines number broken held now w w' played (is_due head breaks.head lines breaks.lines _
          (is.only breaks.head breaks.lines breaks.spelled) breaks.stopped)) counts ends;
      passes = λ text told within number bound passes.
          let is = told_as script limit left rest text input told in
          over_unless end Ending.Limit head due held now r r' w w' k k'
          (λ played. ends_passing end head lines text number bound held now w w' played is.only passes) counts ends;
      done = λ text told within h events runs.
          let is = told_as script limit left rest text input told in
          over_unless end Ending.Done head due held now r r' w w' k k'
          (λ played. ends_done end head lines h runs.lines events held now w w' played (is.only h runs.lines runs.spelled) runs.played) counts ends;
    }
