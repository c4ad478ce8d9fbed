-- A loop of one host that took three turns printed its schedule whole.
use Rattle.std.proofs.Common.{◌≡◌, ℕ, ◌++◌, List, [], ◌∷◌, Some, map, refl, sym, subst, ap, ◌∙◌, arith, inl, codes}
use Rattle.std.specs.List.{AllByRecursion}
use Rattle.std.specs.Prelude.{reverse}
use Rattle.nq_base.specs.declared.Event.{Event}
use Rattle.nq_io.specs.Told.{with_end}
use Rattle.nq_loop.proofs.Heads.{fits-head}
use Rattle.nq_loop.proofs.Playing.{plays-taken}
use Rattle.nq_loop.specs.Holding.{AreTaken}
use Rattle.nq_loop.specs.Looped.{IsWhole}
use Rattle.nq_loop.specs.Printed.{loop_text}
use Rattle.nq_loop.specs.Whole.{loop_head}
use Rattle.nq_replay.proofs.Lawfully.{played-runs-are-lawful}
use Rattle.nq_replay.specs.AsidesPlaying.{ran}
use Rattle.nq_replay.specs.Playing.{play}
use Rattle.nq_script.specs.Heads.{head_lines}
use Rattle.nq_script.specs.Lines.{Allows, HasEvent, FitsEvent, TellsTimes, event_words, once}
use Rattle.nq_script.specs.Schedule.{SpellsLines, SpellsSchedule}
use Rattle.nq_script.specs.Text.{spaced, text_of}
use Rattle.nq_loop.specs.Met.{one_head, three_turns}
use Rattle.nq_loop.specs.PrintedMet.{slow_clock, asked, PrintedLoopsAreMet}
use Rattle.nq_loop.proofs.SomeLoop.{loops-are-met}
use Rattle.nq_loop.proofs.SomeTurns.{write, sync, read, are-taken, three_read, goes}

-- the events, the oldest first
abbrev forward : List Event
forward =
    write ∷ Event.Deliver 0 ∷ Event.Deliver 1 ∷ Event.ClientTick 0 ∷ Event.ServerTick ∷ sync ∷ Event.Deliver 2 ∷ Event.Deliver 3 ∷ read ∷ []

-- an event that the schedule of this loop can tell
abbrev CanTell : Event → Type 0
CanTell event = Allows (loop_head 1) event × HasEvent 1 event × FitsEvent event × TellsTimes event 1

-- its line
abbrev line_of : Event → List ℕ
line_of event = spaced (event_words 1 event 1)

are-spelled : (events : List Event) → AllByRecursion CanTell events → SpellsLines (loop_head 1) (map once events) (map line_of events)
are-spelled [] all = tt
are-spelled (event ∷ events) all = (tt, (all.0.0, (all.0.1, all.0.2, all.0.3, refl)), are-spelled events all.1)

can-tell : AllByRecursion CanTell forward
can-tell = (
  (omega arith, (100, omega arith, refl), (omega arith, (omega arith, omega arith)), refl),
  (
    (tt, tt, omega arith, refl),
    (
      (tt, tt, omega arith, refl),
      (
        (omega arith, tt, omega arith, (omega arith, omega arith)),
        (
          (tt, tt, tt, (omega arith, omega arith)),
          (
            (omega arith, tt, (omega arith, omega arith), refl),
            (
              (tt, tt, omega arith, refl),
              (
                (tt, tt, omega arith, refl),
                ((omega arith, tt, (omega arith, (omega arith, omega arith)), refl), tt),
              ),
            ),
          ),
        ),
      ),
    ),
  ),
)

-- the text of the schedule
abbrev text : List ℕ
text = text_of (head_lines (loop_head 1) ++ (map line_of forward ++ codes "end" ∷ []))

spelled : SpellsSchedule (loop_head 1) (map once forward) text
spelled = (
  head_lines (loop_head 1) ++ (map line_of forward ++ codes "end" ∷ []),
  (fits-head 1 (omega arith) (omega arith), (map line_of forward, are-spelled forward can-tell, refl)),
  refl,
)

there : reverse three_turns ≡ forward
there = refl

back : reverse forward ≡ three_turns
back = refl

played : play (loop_head 1) (map once forward) ≡ ran three_turns
played = plays-taken (loop_head 1) forward (subst (λ es. AreTaken one_head es) (sym back) are-taken) ∙ ap ran back

is-whole : IsWhole 1 3 text three_turns slow_clock three_read (asked 0 0) (asked 3 3)
is-whole = record {
  turned = record { count = 3; within = omega arith; goes = goes; ends = inl refl };
  spelled = subst (λ es. SpellsSchedule (loop_head 1) (map once es) text) (sym there) spelled;
  runs = record { lines = map once forward; spelled = spelled; played = played };
  lawful = played-runs-are-lawful (loop_head 1) (map once forward) text three_turns spelled played;
}

pub printed-loops-are-met : PrintedLoopsAreMet
printed-loops-are-met = record {
  after = three_read;
  now = with_end (Some []) (loop_text (loop_head 1) text three_turns);
  ends = record { text = text; events = three_turns; whole = is-whole; printed = refl };
  in_time = loops-are-met.in_time;
  answered = loops-are-met.answered;
}
