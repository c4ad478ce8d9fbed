-- How a storm over a world ends. Below, `told` is what the world's keeper told of its content before a call and `tells` is what it tells
-- after it; `flags` tells which packets were delivered; `before` and `count` are the keeper's counts of faults.
use Rattle.std.specs.Prelude.{◌≡◌, ◌<◌, ℕ, Bool, List, ◌∷◌, length, Option}
use Rattle.nq_base.specs.declared.Event.{Event}
use Rattle.nq_io.specs.Faults.{Rose}
use Rattle.nq_keeper.specs.Keeping.{StaysOrEnds}
use Rattle.nq_model.specs.protocol.Kept.{Kept}
use Rattle.nq_model.specs.protocol.Stepped.{done, stepped}
use Rattle.nq_model.specs.protocol.World.{Head, run}
use Rattle.nq_replay.specs.Going.{IsAt}
use Rattle.nq_replay.specs.Reaching.{IsReached}
use Rattle.nq_storm.specs.Storming.{IsStorm}
use Rattle.nq_storm.specs.declared.stormed.Stormed.{Stormed}
use Rattle.nq_storm.specs.Rules.{Rule}
use Rattle.nq_world.specs.Playing.{HasSettings, IsAsBefore, Plays, WorldOver}
use Rattle.nq_world.specs.declared.stepped.Stepped.{Stepped}

-- why nothing came behind these events
abbrev pub Halts : Stormed → Head → List Event → Type 0
Halts (Stormed.Limit limit) head events = IsReached limit (length events) (length (run head events).packets)
Halts other head events = Unit {0}

-- a world plays these events; where its keeper failed, it is as one that does, but for its keeper
abbrev pub Stands : {K : Type 0} → Stormed → Head → List Event → WorldOver K → (tells : Option Kept) → Type 0
Stands {K} Stormed.Fault head events new tells =
    (old : WorldOver K) × (told : Option Kept) × Plays head events old told × IsAsBefore old new × StaysOrEnds told tells
Stands other head events new tells = Plays head events new tells

-- what giving an event to a world that plays these events did, by the answer
abbrev pub Gives : {K : Type 0} → Stormed → Head → List Event → Event → WorldOver K → (tells : Option Kept) → (flags : List Bool) → Type 0
Gives Stormed.Done head events event new tells flags =
    (stepped head events event ≡ done) × IsAt head (event ∷ events) new tells flags
Gives other head events event new tells flags = Halts other head events × Stands other head events new tells

-- a world plays a storm of these events, and the flags tell which packets were delivered in it
pub record IsInStorm {K : Type 0} (head : Head) (start : ℕ) (first : Option Rule) (events : List Event) (last : Option Rule) (w : WorldOver K)
    (told : Option Kept) (flags : List Bool) : Type 0 where
  pub at : IsAt head events w told flags
  pub storm : IsStorm head start first events last

-- why a storm that was to have so many events ended behind these
abbrev pub EndsAt : Stormed → (wanted : ℕ) → Head → List Event → Type 0
EndsAt Stormed.Done wanted head events = length events ≡ wanted
EndsAt other wanted head events = (length events < wanted) × Halts other head events

-- a storm that was to have so many events ended: these events are a storm, and the world is one that played them
pub record Storms {K : Type 0} (ended : Stormed) (head : Head) (start wanted : ℕ) (first : Option Rule) (events : List Event) (new : WorldOver K)
    (tells : Option Kept) : Type 0 where
  pub last : Option Rule
  pub storm : IsStorm head start first events last
  pub ends : EndsAt ended wanted head events
  pub stands : Stands ended head events new tells

-- the keeper's count of faults rose where it failed, and nowhere else
abbrev pub CountsFaults : Stormed → (before count : ℕ) → Type 0
CountsFaults Stormed.Fault before count = Rose before count
CountsFaults other before count = count ≡ before

-- likewise, the keeper is the same one after some of its calls, and the world is still one of a storm
pub record KeepsOn {K : Type 0} (faults : K → ℕ) (follows : K → K → Type 0) (ended : Stormed) (old new : WorldOver K) : Type 0 where
  pub counts : CountsFaults ended (faults old.server.keeper) (faults new.server.keeper)
  pub keeper : follows old.server.keeper new.server.keeper
  pub settings : HasSettings 4 60 30 new

-- how a storm ends where a world did not take an event in. A world that plays the run takes each event of its menu in, but for a limit, a
-- fault, or want of memory
abbrev pub ending_of : Stepped → Stormed
ending_of (Stepped.Limit limit) = Stormed.Limit limit
ending_of Stepped.Fault = Stormed.Fault
ending_of other = Stormed.Memory
