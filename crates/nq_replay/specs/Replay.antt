-- What a replay reads and prints. Below, `left` is what was left in the source before it and `rest` is what is left
-- after it, where the source tells them; the other names are those of `Lines`.
use Rattle.std.specs.Prelude.{◌≡◌, ◌⊎◌, ℕ, List, Option, Some, reverse}
use Rattle.nq_base.specs.declared.Entry.{Entry}
use Rattle.nq_base.specs.declared.Event.{Event}
use Rattle.nq_base.specs.declared.SkewBroken.{SkewBroken}
use Rattle.nq_io.specs.Sink.{AppendsFront, PrintsLine}
use Rattle.nq_io.specs.Told.{with_end}
use Rattle.nq_io.specs.Whole.{IsAll, IsOver}
use Rattle.nq_journal.specs.Text.{journal_text}
use Rattle.nq_model.specs.protocol.Kept.{Kept}
use Rattle.nq_model.specs.protocol.Stepped.{Stepped, no_packet, out_of_skew, too_many_events, too_many_packets}
use Rattle.nq_model.specs.protocol.World.{run}
use Rattle.nq_replay.specs.Lawful.{IsLawful}
use Rattle.nq_replay.specs.AsidesPlaying.{ran, stopped}
use Rattle.nq_replay.specs.Playing.{beginning, play}
use Rattle.nq_replay.specs.Lines.{last_line, limit_line, script_line, skew_line}
use Rattle.nq_replay.specs.declared.printing.Bound.{Bound}
use Rattle.nq_script.specs.Schedule.{SpellsSchedule, FirstBadLine}
use Rattle.nq_script.specs.declared.heads.Head.{Head}
use Rattle.nq_script.specs.declared.lines.Line.{Line}

-- the text is a schedule of version 1 or 2 with this head, and playing all of its lines makes the run of these events, of which the
-- newest is told first
pub record Runs (text : List ℕ) (head : Head) (events : List Event) : Type 0 where
  pub lines : List Line
  pub spelled : SpellsSchedule head lines text
  pub played : play head lines ≡ ran events

-- the text is a schedule, and the first of its events that is not taken is of this line and is answered so
pub record Stops (text : List ℕ) (number : ℕ) (answer : Stepped) : Type 0 where
  pub head : Head
  pub lines : List Line
  pub spelled : SpellsSchedule head lines text
  pub stopped : play head lines ≡ stopped number answer

-- the text is a schedule
pub record IsSchedule (text : List ℕ) : Type 0 where
  pub head : Head
  pub lines : List Line
  pub spelled : SpellsSchedule head lines text

-- the journal of the run of these events, with the oldest entry first
abbrev pub journal_of : Head → (events : List Event) → List Entry
journal_of head events = reverse (run (beginning head) events).journal

-- its text, in the version of the schedule
abbrev pub journal_printed : Head → (events : List Event) → List ℕ
journal_printed head events = journal_text head.version (journal_of head events)

-- the faulty line: of a text outside the grammar the first that is, and of a schedule the one that delivers a packet which was not sent
abbrev pub FaultyLine : (text : List ℕ) → (number : ℕ) → Type 0
FaultyLine text number = FirstBadLine text number ⊎ Stops text number no_packet

-- the tick of this line breaks the rule on skew
abbrev pub BreaksSkew : (text : List ℕ) → (number : ℕ) → SkewBroken → Type 0
BreaksSkew text number broken = Stops text number (out_of_skew broken)

-- an event of this line comes after too many events or packets
abbrev pub Passes : (text : List ℕ) → (number : ℕ) → Bound → Type 0
Passes text number Bound.Bytes = ⊥
Passes text number Bound.Events = Stops text number too_many_events
Passes text number Bound.Packets = Stops text number too_many_packets

-- running this text printed its journal
pub record PrintsJournal (text : List ℕ) (held now : Option (List ℕ)) : Type 0 where
  pub head : Head
  pub events : List Event
  pub runs : Runs text head events
  pub printed : now ≡ with_end held (journal_printed head events)

-- what is kept at the end of the run of these events
abbrev pub kept_of : Head → (events : List Event) → Kept
kept_of head events = (run (beginning head) events).server.kept

-- running this text printed its journal, the schedule is within skew and keeps to the bounds, and what its run keeps is told
pub record PrintsWithin (text : List ℕ) (held now : Option (List ℕ)) (told : Option Kept) : Type 0 where
  pub head : Head
  pub events : List Event
  pub runs : Runs text head events
  pub printed : now ≡ with_end held (journal_printed head events)
  pub lawful : IsLawful (beginning head) events
  pub keeps : told ≡ Some (kept_of head events)

-- running this text printed a front of its journal
pub record PrintsPart (text : List ℕ) (held now : Option (List ℕ)) : Type 0 where
  pub head : Head
  pub events : List Event
  pub runs : Runs text head events
  pub printed : AppendsFront (journal_printed head events) held now

-- running this text printed which of its lines is faulty
pub record PrintsFaulty (text : List ℕ) (held now : Option (List ℕ)) (w w' : ℕ) : Type 0 where
  pub number : ℕ
  pub faulty : FaultyLine text number
  pub printed : PrintsLine (script_line number) held now w w'

-- running this text printed which tick breaks the rule on skew
pub record PrintsSkew (text : List ℕ) (held now : Option (List ℕ)) (w w' : ℕ) : Type 0 where
  pub number : ℕ
  pub broken : SkewBroken
  pub breaks : BreaksSkew text number broken
  pub printed : PrintsLine (skew_line number broken) held now w w'

-- running this text printed in which line there are too many events or packets
pub record PrintsPassing (text : List ℕ) (held now : Option (List ℕ)) (w w' : ℕ) : Type 0 where
  pub number : ℕ
  pub bound : Bound
  pub passes : Passes text number bound
  pub printed : PrintsLine (limit_line number bound) held now w w'

-- the input passes the limit on bytes, and it was printed in which line the first byte past it stands
pub record PrintsLimit (limit : ℕ) (left rest held now : Option (List ℕ)) (w w' : ℕ) : Type 0 where
  pub front : List ℕ
  pub passes : IsOver front limit left rest
  pub printed : PrintsLine (limit_line (last_line front) Bound.Bytes) held now w w'

-- what was taken of an input behind which memory was wanting: nothing, all of it, or one byte more than the limit
abbrev pub TakesInput : (limit : ℕ) → (left rest : Option (List ℕ)) → Type 0
TakesInput limit left rest =
    (rest ≡ left) ⊎ (((bytes : List ℕ) × IsAll bytes limit left rest) ⊎ ((bytes : List ℕ) × IsOver bytes limit left rest))

-- the input was read to its end, and this holds of its text
pub record OfInput (limit : ℕ) (left rest : Option (List ℕ)) (P : List ℕ → Type 0) : Type 0 where
  pub text : List ℕ
  pub read : IsAll text limit left rest
  pub so : P text
