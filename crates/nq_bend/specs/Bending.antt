-- What becomes of a run that is bent. The oldest events stand first.
use Rattle.std.specs.Prelude.{◌≡◌, ◌<◌, ◌≤◌, ◌⊎◌, ◌++◌, ℕ, List, [], ◌∷◌, Option, Some, None, Bool, true, false, length, reverse, take, slice_get}
use Rattle.std.specs.List.{AllByRecursion}
use Rattle.nq_base.specs.declared.Event.{Event}
use Rattle.nq_bend.specs.declared.bends.Bend.{Bend}
use Rattle.nq_bend.specs.declared.bends.Bent.{Bent}
use Rattle.nq_bend.specs.declared.bends.LeftOut.{LeftOut}
use Rattle.nq_model.specs.protocol.Stepped.{done, stepped}
use Rattle.nq_model.specs.protocol.World.{Head as Beginning}
use Rattle.nq_script.specs.declared.heads.Head.{Head}
use Rattle.nq_world.specs.Beginning.{beginning}

-- the events that are no deliveries of packets
abbrev pub acts : List Event → List Event
acts [] = []
acts (Event.Deliver packet ∷ events) = acts events
acts (event ∷ events) = event ∷ acts events

-- the events of a bent run that are of the old one, where `origins` tells of each its place there
abbrev pub kept : List Event → (origins : List (Option ℕ)) → List Event
kept [] origins = []
kept (event ∷ events) [] = []
kept (event ∷ events) (None ∷ origins) = kept events origins
kept (event ∷ events) (Some place ∷ origins) = event ∷ kept events origins

-- all calls, ticks, restarts and crashes of the first `count` events of the old run are kept, in their order, and no others
abbrev pub KeepsActs : (old : List Event) (count : ℕ) → (ran : List Event) (origins : List (Option ℕ)) → Type 0
KeepsActs old count ran origins = acts (kept ran origins) ≡ acts (take count old)

-- what is left out is the delivery of a packet at a place of the old run
abbrev pub IsLeftOut : List Event → LeftOut → Type 0
IsLeftOut old out = slice_get old out.event ≡ Some (Event.Deliver out.packet)

-- the event at a place of the old run is the origin of one of the new run, or it is left out
abbrev pub IsTold : (origins : List (Option ℕ)) (left : List LeftOut) (place : ℕ) → Type 0
IsTold origins left place =
    ((number : ℕ) × (slice_get origins number ≡ Some (Some place)))
    ⊎ ((number : ℕ) × (out : LeftOut) × (slice_get left number ≡ Some out) × (out.event ≡ place))

-- each of the first `count` events of the old run is kept or left out
abbrev pub TellsAll : (count : ℕ) (origins : List (Option ℕ)) (left : List LeftOut) → Type 0
TellsAll count origins left = (place : ℕ) → place < count → IsTold origins left place

-- a bent run follows the old one: of a front of it each event is kept or left out, and only deliveries are left out; the front is the whole,
-- unless the bent run is over before
pub record Follows (bent : Bent) : Type 0 where
  pub many : length bent.origins.items ≡ length bent.ran
  pub count : ℕ
  pub few : count ≤ length bent.old
  pub order : KeepsActs bent.old count bent.ran bent.origins.items
  pub told : TellsAll count bent.origins.items bent.left.items
  pub leaves : AllByRecursion (IsLeftOut bent.old) bent.left.items
  pub all : bent.is_over ≡ false → count ≡ length bent.old

-- all these events are taken, one after another, where the newest stands first
abbrev pub AreTaken : Beginning → List Event → Type 0
AreTaken head [] = Unit {0}
AreTaken head (event ∷ earlier) = AreTaken head earlier × (stepped head earlier event ≡ done)

-- all these events are taken, or, where the run is over, all but the newest one, which is refused
abbrev pub RunsTo : (is_over : Bool) → Beginning → List Event → Type 0
RunsTo false head events = AreTaken head events
RunsTo true head [] = ⊥
RunsTo true head (last ∷ earlier) = AreTaken head earlier × (stepped head earlier last ≡ done → ⊥)

-- the events of a bent run are all taken; where it is over, the last one is refused, and no other
abbrev pub EndsSo : Head → (is_over : Bool) → (ran : List Event) → Type 0
EndsSo head is_over ran = RunsTo is_over (beginning head) (reverse ran)

-- a change loses this packet of the old run
abbrev pub IsLost : List Bend → (packet : ℕ) → Type 0
IsLost bends packet = (place : ℕ) × (slice_get bends place ≡ Some (Bend.Lose packet))

-- no packet is delivered that is, by `matches`, a packet of the old run which is to be lost
abbrev pub IsSpared : List Bend → (matches : List (Option ℕ)) → Event → Type 0
IsSpared bends matches (Event.Deliver packet) =
    (packet < length matches) × ((old : ℕ) → slice_get matches packet ≡ Some (Some old) → IsLost bends old → ⊥)
IsSpared bends matches other = Unit {0}

-- a list with items behind those of another
abbrev pub IsLonger : {A : Type 0} → (old new : List A) → Type 0
IsLonger {A} old new = (more : List A) × (new ≡ old ++ more)
