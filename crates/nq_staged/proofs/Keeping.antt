-- What holds behind each event that was taken holds at the end: so all events of a staged schedule can be told in one.
use Rattle.std.proofs.Common.{◌≡◌, ℕ, ◌+◌, List, [], ◌∷◌, length, Option, refl}
use Rattle.std.specs.List.{AllByRecursion}
use Rattle.nq_replay.proofs.Keeping.{Keeps, ends-answered}
use Rattle.nq_replay.specs.Text.{mixed}
use Rattle.nq_staged.specs.Worlds.{PlaysOutside, StagedOver, stepped_outside}
use Rattle.nq_model.specs.protocol.Kept.{Kept}
use Rattle.nq_replay.specs.Playing.{beginning}
use Rattle.nq_replay.specs.declared.play.played.Played.{Played as Went}
use Rattle.nq_replay.specs.Texts.{IsTellable}
use Rattle.nq_script.specs.Heads.{head_lines}
use Rattle.nq_script.specs.Schedule.{SpellsSchedule}
use Rattle.nq_script.specs.declared.heads.Head.{Head}
use Rattle.nq_script.specs.declared.lines.Line.{Line}
use Rattle.nq_staged.proofs.Tellable.{IsPlainly, run-all}
use Rattle.nq_replay.specs.AsidesGoing.{Comes, RanTo}
use Rattle.nq_staged.specs.Running.{IsTold}
use Rattle.nq_staged.specs.declared.offer.Offer.{Offer}
use Rattle.nq_base.specs.declared.Event.{Event}
use Rattle.nq_stage.specs.declared.run.event.StagedEvent.{StagedEvent}
use Rattle.nq_model.specs.protocol.Stepped.{done, most_events}
use Rattle.nq_replay.specs.AsidesPlaying.{Ended, ran, stopped}
use Rattle.nq_replay.proofs.RulesKeeping.{keeps-lines}
use Rattle.nq_replay.specs.Rules.{play_event, play_plainly}
use Rattle.nq_staged.specs.Playing.{play, staged_rules}

-- ---- all events can be told

pub deliver-told : (head : Head) (k : ℕ) → IsTellable head (Event.Deliver k)
deliver-told head k = (tt, tt)

abbrev pub AreTold : Head → List StagedEvent → Type 0
AreTold head events = AllByRecursion (IsPlainly (IsTellable head) (deliver-told head)) events

keeps_event : (head : Head) (event : Event) → IsTellable head event → Keeps (AreTold head) (play_plainly staged_rules (beginning head) event)
unfolding play_event
keeps_event head event is events so = ends-answered (AreTold head) (StagedEvent.Plain event ∷ events)
    (stepped_outside (beginning head) events (StagedEvent.Plain event)) (λ done. (is, so))

keeps_stage : (head : Head) (offer : Offer) → Keeps (AreTold head) (staged_rules.aside (beginning head) offer)
keeps_stage head offer events so = ends-answered (AreTold head) (StagedEvent.Stage offer.host ∷ events)
    (stepped_outside (beginning head) events (StagedEvent.Stage offer.host)) (λ done. (tt, so))

pub events_told : (head : Head) (asides : List (Option Offer)) (lines : List Line) (text : List ℕ) (events : List StagedEvent)
    → SpellsSchedule head lines text → play head (mixed asides lines) ≡ ran events → AreTold head events
unfolding play
events_told head asides lines text events spelled is =
    keeps-lines staged_rules head (AreTold head) (keeps_event head) (keeps_stage head) (most_events + 1) (length (head_lines head) + 1) asides lines
    spelled.1.1.0 [] events spelled.1.1.1 tt is

-- ---- so can all inner events

came_told : {K : Type 0} (head : Head) (asides : List (Option Offer)) (lines : List Line) (text : List ℕ) (w : StagedOver K) (told : Option Kept)
    (due : Ended (List StagedEvent)) → head.version ≡ 2 → SpellsSchedule head lines text → play head (mixed asides lines) ≡ due
    → RanTo due (λ events. PlaysOutside (beginning head) events w told) → IsTold head w told
came_told head asides lines text w told (ran events) second spelled is plays = record {
  events = events;
  plays = plays;
  tellable = run-all (IsTellable head) (deliver-told head) (beginning head) events (events_told head asides lines text events spelled is);
}
came_told head asides lines text w told (stopped line answer) second spelled is plays = absurd plays

-- a staged schedule that was played to its end
pub played_told : {K : Type 0} (head : Head) (asides : List (Option Offer)) (lines : List Line) (text : List ℕ) (played : Went) (w : StagedOver K)
    (told : Option Kept) → head.version ≡ 2 → SpellsSchedule head lines text → Comes played (play head (mixed asides lines))
    (λ events. PlaysOutside (beginning head) events w told) → played ≡ Went.All → IsTold head w told
played_told head asides lines text Went.All w told second spelled comes is = came_told head asides lines text w told (play head (mixed asides lines))
    second spelled refl comes
played_told head asides lines text (Went.Stopped line answer) w told second spelled comes is = absurd (cc)
