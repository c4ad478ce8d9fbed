-- What holds behind each event that was taken holds at the end: so all events of a schedule with lists can be told in one.
use Rattle.std.proofs.Common.{◌≡◌, ℕ, ◌+◌, List, length, Option, refl}
use Rattle.std.specs.List.{AllByRecursion}
use Rattle.nq_base.specs.declared.Event.{Event}
use Rattle.nq_model.specs.protocol.Kept.{Kept}
use Rattle.nq_model.specs.protocol.Stepped.{done, most_events}
use Rattle.nq_name_server.specs.declared.run.event.NameEvent.{NameEvent}
use Rattle.nq_names.specs.Playing.{NamesOver}
use Rattle.nq_naming.proofs.Inside.{IsPlainly, run-all}
use Rattle.nq_naming.specs.Going.{IsAtMoment}
use Rattle.nq_naming.specs.Playing.{Moment, answer_at, first_moment, names_rules, play, play_aside, with_more}
use Rattle.nq_naming.specs.Running.{IsTold}
use Rattle.nq_naming.specs.declared.script.aside.Aside.{Aside}
use Rattle.nq_replay.proofs.Keeping.{Keeps, ends-answered}
use Rattle.nq_replay.proofs.RulesKeeping.{keeps-lines}
use Rattle.nq_replay.specs.AsidesGoing.{Comes, RanTo}
use Rattle.nq_replay.specs.AsidesPlaying.{Ended, ran, stopped}
use Rattle.nq_replay.specs.Playing.{beginning}
use Rattle.nq_replay.specs.Rules.{play_event, play_plainly}
use Rattle.nq_replay.specs.Text.{mixed}
use Rattle.nq_replay.specs.Texts.{IsTellable}
use Rattle.nq_replay.specs.declared.play.played.Played.{Played as Went}
use Rattle.nq_script.specs.Heads.{head_lines}
use Rattle.nq_script.specs.Schedule.{SpellsSchedule}
use Rattle.nq_script.specs.declared.heads.Head.{Head}
use Rattle.nq_script.specs.declared.lines.Line.{Line}

-- ---- all events can be told

pub deliver-told : (head : Head) (k : ℕ) → IsTellable head (Event.Deliver k)
deliver-told head k = (tt, tt)

abbrev pub AreTold : Head → List NameEvent → Type 0
AreTold head events = AllByRecursion (IsPlainly (IsTellable head) (deliver-told head)) events

keeps_event : (head : Head) (event : Event) → IsTellable head event
    → Keeps (λ (m : Moment). AreTold head m.events) (play_plainly names_rules (beginning head) event)
unfolding play_event
keeps_event head event is m so =
    ends-answered (λ (n : Moment). AreTold head n.events) (with_more m (NameEvent.Plain event)) (answer_at (beginning head) m (NameEvent.Plain event))
    (λ done. (is, so))

keeps_aside : (head : Head) (aside : Aside) → Keeps (λ (m : Moment). AreTold head m.events) (play_aside (beginning head) aside)
keeps_aside head (Aside.List host prefix) m so =
    ends-answered (λ (n : Moment). AreTold head n.events) (with_more m (NameEvent.List host prefix))
    (answer_at (beginning head) m (NameEvent.List host prefix)) (λ done. (tt, so))
keeps_aside head (Aside.Find host name) m so = so

pub events_told : (head : Head) (asides : List (Option Aside)) (lines : List Line) (text : List ℕ) (m : Moment) → SpellsSchedule head lines text
    → play head (mixed asides lines) ≡ ran m → AreTold head m.events
unfolding play
events_told head asides lines text m spelled is =
    keeps-lines names_rules head (λ (n : Moment). AreTold head n.events) (keeps_event head) (keeps_aside head) (most_events + 1)
    (length (head_lines head) + 1) asides lines spelled.1.1.0 first_moment m spelled.1.1.1 tt is

-- ---- so can all inner events

came_told : {K : Type 0} (head : Head) (asides : List (Option Aside)) (lines : List Line) (text : List ℕ) (w : NamesOver K) (told : Option Kept)
    (found : List ℕ) (due : Ended Moment) → head.version ≡ 2 → SpellsSchedule head lines text → play head (mixed asides lines) ≡ due
    → RanTo due (λ m. IsAtMoment (beginning head) m w told found) → IsTold head w told
came_told head asides lines text w told found (ran m) second spelled is at = record {
  moment = m;
  plays = at.plays;
  tellable = run-all (IsTellable head) (deliver-told head) (beginning head) m.events (events_told head asides lines text m spelled is);
}
came_told head asides lines text w told found (stopped line answer) second spelled is at = absurd at

-- a schedule with lists that was played to its end
pub played_told : {K : Type 0} (head : Head) (asides : List (Option Aside)) (lines : List Line) (text : List ℕ) (played : Went) (w : NamesOver K)
    (told : Option Kept) (found : List ℕ) → head.version ≡ 2 → SpellsSchedule head lines text
    → Comes played (play head (mixed asides lines)) (λ m. IsAtMoment (beginning head) m w told found) → played ≡ Went.All → IsTold head w told
played_told head asides lines text Went.All w told found second spelled comes is = came_told head asides lines text w told found
    (play head (mixed asides lines)) second spelled refl comes
played_told head asides lines text (Went.Stopped line answer) w told found second spelled comes is = absurd (cc)
