-- A world that plays a run goes on with it.
use Rattle.std.proofs.Common.{◌≡◌, ◌≤◌, ◌+◌, List, ◌∷◌, Option, Some, length, refl, subst, ◌∙◌, arith}
use Rattle.std.specs.Prelude.{Result, Ok, Err}
use Rattle.nq_base.specs.declared.Event.{Event}
use Rattle.nq_clock.specs.Counts.{SkewCounts}
use Rattle.nq_clock.specs.Tracks.{IsNoTick}
use Rattle.nq_clock.proofs.Tracking.{other-events-pass}
use Rattle.nq_model.specs.protocol.Kept.{Kept}
use Rattle.nq_model.specs.protocol.Stepped.{done, stepped}
use Rattle.nq_model.specs.protocol.World.{Head, run, step}
use Rattle.nq_model.specs.laws.Bounds.{BootsWithin}
use Rattle.nq_server.specs.State.{beside}
use Rattle.walk_steps.specs.Within.{IsGiven}
use Rattle.nq_world.proofs.Going.{runs-go-on}
use Rattle.nq_world.proofs.Passing.{done-passes}
use Rattle.nq_world.specs.Counting.{TookIn}
use Rattle.nq_world.specs.Moving.{Clocks, FollowsOn}
use Rattle.nq_world.specs.Playing.{WorldOver, Plays, seen_of}
use Rattle.nq_world.specs.Shown.{Shows}
use Rattle.nq_base.specs.declared.ending.fault.Fault.{Fault}

-- an event can be taken in at this moment of a run
pub record IsFit (head : Head) (events : List Event) (event : Event) : Type 0 where
  pub passes : stepped head events event ≡ done
  pub given : IsGiven (run head events) event
  pub boots : BootsWithin head.longest event

pub plays-on : {K : Type 0} (head : Head) (events : List Event) (event : Event) (old new : WorldOver K) (told tells : Option Kept)
    → Plays head events old told
    → IsFit head events event
    → Shows (step (run head events) event) (seen_of new)
    → FollowsOn event old.skew new.skew
    → tells ≡ Some (step (run head events) event).server.kept
    → new.server.beside ≡ beside (step (run head events) event).server
    → new.events ≡ old.events + 1
    → new.term ≡ old.term
    → new.server.taken ≤ length events + 1
    → TookIn (length events + 1) new.clients
    → Plays head (event ∷ events) new tells
plays-on head events event old new told tells plays fit shows keeps kept holds counted term served heard =
    let passes = done-passes head events (seen_of old) old.skew event plays.shown fit.passes in
    let before = plays.counted in
    let one_more : length events + 1 ≡ length (event ∷ events) = omega arith in
    record {
      shown = runs-go-on head events event (seen_of old) (seen_of new) old.skew new.skew plays.shown passes.few passes.room fit.given fit.boots shows
          keeps.hosts keeps.window (keeps.clocks events plays.shown.clocks);
      keeps = kept;
      holds = holds;
      counted = omega arith;
      term = term ∙ plays.term;
      served = omega arith;
      heard = subst (λ n. TookIn n new.clients) one_more heard;
    }

-- the test of skew stays at an event that is no tick
pub clocks-stay : (made : Result Unit Fault) (event : Event) (skew : SkewCounts) → IsNoTick (length skew.hosts) event → Clocks made event skew skew
clocks-stay (Ok made) event skew no_tick = record { hosts = refl; window = refl; clocks = λ events. other-events-pass skew events event no_tick }
clocks-stay (Err why) event skew no_tick = refl
