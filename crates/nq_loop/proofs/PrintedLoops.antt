-- The turns with which a loop goes on made all of their steps, so what holds of such turns holds of a loop that printed its schedule.
use Rattle.std.proofs.Common.{◌≡◌, ◌≤◌, ◌<◌, ◌⊎◌, ℕ, ◌+◌, true, false, zero, suc, List, [], refl, sym, subst, ap, arith, inl, inr, length}
use Rattle.nq_base.proofs.Ends.{one_end}
use Rattle.nq_base.specs.declared.ending.ending.Ending.{Ending}
use Rattle.nq_loop.proofs.Going.{all-made}
use Rattle.nq_loop.specs.Looped.{LoopEnds, PrintsLoop, between}
use Rattle.nq_loop.specs.Looping.{Moment}
use Rattle.nq_loop.specs.Turning.{Between, Goes, all_answered}
use Rattle.nq_loop.specs.Whole.{loop_head}
use Rattle.nq_model.specs.protocol.Profile.{most_hosts}
use Rattle.nq_model.specs.protocol.ServerStep.{boot}
use Rattle.nq_model.specs.protocol.Stepped.{most_events}
use Rattle.nq_model.specs.protocol.World.{Head, run, start}
use Rattle.nq_link.specs.Links.{LinkTold}
use Rattle.nq_replay.specs.Playing.{beginning}
use Rattle.law_rounds.specs.RoundsEndQuiet.{IsSmall}
use Rattle.nq_loop.specs.InTime.{played, all_in_time}
use Rattle.nq_loop.specs.LoopTurns.{MakesTurns}
use Rattle.nq_loop.specs.LoopsAreAnswered.{first_moment, most_due, ticks_enough}
use Rattle.nq_loop.specs.PrintedLoops.{most_ticks, PrintedLoopsAreAnswered, PrintsAnswered, EndedLoopsAreAnswered}
use Rattle.nq_loop.proofs.LoopsLoops.{loops-are-answered}
use Rattle.nq_loop.proofs.Room.{Adds, few-small, turn-adds}

-- ---- the turns of a loop

turns-of : (head : Head) (count : ℕ) (at after : Between) → Goes head count at after → MakesTurns head count at.moment after.moment
turns-of head zero at after goes = ap (λ (b : Between). b.moment) goes
turns-of head (suc count) at after goes =
    let made = all-made head goes.0 after goes.2 in
    (goes.0.moment, turns-of head count at goes.0 goes.1, goes.2.0, record { reading = made.0; moved = made.1; made = made.2 })

-- ---- how soon it ends

later : (before now enough ticks : ℕ) → now ≤ before + ticks → before < enough → now < enough + ticks
later before now enough ticks late soon = omega arith

module _ (hosts : ℕ) (links : List LinkTold) (few : hosts ≤ most_hosts) where
  few-events : (count : ℕ) (after : Moment) → MakesTurns (beginning (loop_head hosts)) count (first_moment links) after → length after.events ≤ most_events
  few-events zero after turns = subst (λ (m : Moment). length m.events ≤ most_events) (sym turns) (omega arith)
  few-events (suc count) after turns =
      let adds = turn-adds (beginning (loop_head hosts)) turns.0 after turns.3 in
      adds.few (few-events count turns.0 turns.1)

  start-soon : (run (beginning (loop_head hosts)) []).server.now < most_ticks hosts
  unfolding start boot
  start-soon = omega arith

  -- a turn began before all was answered
  began-soon : (count : ℕ) (at after : Moment) → MakesTurns (beginning (loop_head hosts)) count (first_moment links) at
      → all_answered (beginning (loop_head hosts)) at.events ≡ false → Adds (beginning (loop_head hosts)) most_due at after
      → all_in_time (beginning (loop_head hosts)) after.events ≡ true → (run (beginning (loop_head hosts)) at.events).server.now < most_ticks hosts
      → (run (beginning (loop_head hosts)) after.events).server.now < most_ticks hosts
  began-soon count at after turns left adds in_time before = by adds.room
    where
      began : (all_answered (beginning (loop_head hosts)) at.events ≡ true) ⊎ ((run (beginning (loop_head hosts)) at.events).server.now < ticks_enough hosts)
          → (run (beginning (loop_head hosts)) after.events).server.now < most_ticks hosts
      began (inl all) = absurd (cc)
      began (inr soon) = later (run (beginning (loop_head hosts)) at.events).server.now (run (beginning (loop_head hosts)) after.events).server.now
          (ticks_enough hosts) most_due adds.time soon

      by : (after.events ≡ at.events) ⊎ IsSmall (played (beginning (loop_head hosts)) at.events)
          → (run (beginning (loop_head hosts)) after.events).server.now < most_ticks hosts
      by (inl none) = subst (λ es. (run (beginning (loop_head hosts)) es).server.now < most_ticks hosts) (sym none) before
      by (inr small) = began (loops-are-answered hosts count links at few turns (adds.in_time in_time) small)

  ends-soon : (count : ℕ) (after : Moment) → MakesTurns (beginning (loop_head hosts)) count (first_moment links) after
      → all_in_time (beginning (loop_head hosts)) after.events ≡ true → (run (beginning (loop_head hosts)) after.events).server.now < most_ticks hosts
  ends-soon zero after turns in_time =
      subst (λ (m : Moment). (run (beginning (loop_head hosts)) m.events).server.now < most_ticks hosts) (sym turns) start-soon
  ends-soon (suc count) after turns in_time =
      let adds = turn-adds (beginning (loop_head hosts)) turns.0 after turns.3 in
      began-soon count turns.0 after turns.1 turns.2 adds in_time (ends-soon count turns.0 turns.1 (adds.in_time in_time))

pub printed-loops-are-answered : PrintedLoopsAreAnswered
printed-loops-are-answered hosts turns text events clock clock' links links' whole in_time = record {
  soon = ends-soon hosts links few whole.turned.count after made in_time;
  answered = either whole.turned.ends;
  sooner = λ room. loops-are-answered hosts whole.turned.count links after few made in_time
      (few-small (beginning (loop_head hosts)) events (few-events hosts links few whole.turned.count after made) room);
}
  where
    few : hosts ≤ most_hosts
    few = whole.lawful.bounds.hosts

    after : Moment
    after = record { events = events; links = links' }

    made : MakesTurns (beginning (loop_head hosts)) whole.turned.count (first_moment links) (record { events = events; links = links' })
    made = turns-of (beginning (loop_head hosts)) whole.turned.count (between [] links clock) (between events links' clock') whole.turned.goes

    either : (whole.turned.count ≡ turns) ⊎ (all_answered (beginning (loop_head hosts)) events ≡ true)
        → (all_answered (beginning (loop_head hosts)) events ≡ true) ⊎ (whole.turned.count ≡ turns)
    either (inl taken) = inr taken
    either (inr all) = inl all

-- ---- a loop that ended with status 0

pub ended-loops-are-answered : EndedLoopsAreAnswered
ended-loops-are-answered end hosts turns clock clock' links links' held now w w' status ends =
    by (subst (λ e. LoopEnds e hosts turns clock clock' links links' held now w w') (one_end end Ending.Done 0 (sym status) refl) ends)
  where
    by : PrintsLoop Ending.Done hosts turns clock clock' links links' held now w w' → PrintsAnswered hosts turns clock clock' links links' held now
    by p = record {
      text = p.text;
      events = p.events;
      whole = p.whole;
      printed = p.printed;
      answered = λ in_time. printed-loops-are-answered hosts turns p.text p.events clock clock' links links' p.whole in_time;
    }
