-- The new run, as far as it has come.
use Rattle.std.specs.Prelude.{◌≡◌, ◌≤◌, ◌++◌, ◌∷◌, [], ℕ, List, Option, Bool, true, false, length, reverse}
use Rattle.std.specs.List.{AllByRecursion}
use Rattle.nq_base.specs.declared.Event.{Event}
use Rattle.nq_bend.specs.Bending.{EndsSo, IsLeftOut, IsSpared, KeepsActs, TellsAll}
use Rattle.nq_bend.specs.declared.bends.Bend.{Bend}
use Rattle.nq_bend.specs.declared.bends.LeftOut.{LeftOut}
use Rattle.nq_bend.specs.declared.course.Course.{Course}
use Rattle.nq_bend.specs.declared.plan.BendPlan.{BendPlan}
use Rattle.nq_model.specs.protocol.Kept.{Kept}
use Rattle.nq_replay.specs.Texts.{IsTellable}
use Rattle.nq_script.specs.declared.heads.Head.{Head}
use Rattle.nq_world.specs.Beginning.{beginning}
use Rattle.nq_world.specs.Playing.{HasSettings, Plays, WorldOver}
use Rattle.nq_world.specs.declared.stepped.Stepped.{Stepped}

-- so many events of the old run are kept or left out, or fewer where the run is over
pub record Keeps (old : List Event) (count : ℕ) (is_over : Bool) (c : Course) : Type 0 where
  pub reached : ℕ
  pub few : reached ≤ count
  pub acts : KeepsActs old reached c.ran c.origins.items
  pub whole : TellsAll reached c.origins.items c.left.items
  pub all : is_over ≡ false → reached ≡ count

-- a new run behind so many events of the old one
pub record IsCourse (head : Head) (old : List Event) (bends : List Bend) (count : ℕ) (c : Course) : Type 0 where
  pub told : AllByRecursion (IsTellable head) c.ran
  pub many : length c.origins.items ≡ length c.ran
  pub keeps : Keeps old count c.is_over c
  pub spared : AllByRecursion (IsSpared bends c.lanes.olds.items) c.ran
  pub leaves : AllByRecursion (IsLeftOut old) c.left.items

-- a new run of a plan behind so many events of the old one
abbrev pub IsOn : BendPlan → (count : ℕ) → Course → Type 0
IsOn plan count c = IsCourse plan.head.now plan.old.now.events plan.bends.now count c

-- a world has the settings of the head of a plan
abbrev pub HasHead : {K : Type 0} → BendPlan → WorldOver K → Type 0
HasHead plan w = HasSettings plan.head.now.hosts plan.head.now.longest plan.head.now.term w

-- a delivery stands for any, and another event for itself
abbrev pub StandsFor : (old new : Event) → Type 0
StandsFor (Event.Deliver packet) (Event.Deliver other) = Unit {0}
StandsFor old new = old ≡ new

-- the new run is the same, but for a delivery that was left out
pub record IsWithout (out : LeftOut) (old new : Course) : Type 0 where
  pub ran : new.ran ≡ old.ran
  pub origins : new.origins.items ≡ old.origins.items
  pub over : new.is_over ≡ old.is_over
  pub sent : new.lanes.olds.items ≡ old.lanes.olds.items
  pub leaves : new.left.items ≡ old.left.items ++ out ∷ []

-- the new run is the same, but for packets that were sent behind the others
pub record IsSameButSent (old new : Course) : Type 0 where
  pub ran : new.ran ≡ old.ran
  pub origins : new.origins.items ≡ old.origins.items
  pub over : new.is_over ≡ old.is_over
  pub more : List (Option ℕ)
  pub sent : new.lanes.olds.items ≡ old.lanes.olds.items ++ more
  pub leaves : new.left.items ≡ old.left.items

-- the new run has one event more, with its place in the old one
pub record IsWith (event : Event) (origin : Option ℕ) (old new : Course) : Type 0 where
  pub ran : new.ran ≡ old.ran ++ event ∷ []
  pub origins : new.origins.items ≡ old.origins.items ++ origin ∷ []
  pub over : new.is_over ≡ old.is_over
  pub sent : new.lanes.olds.items ≡ old.lanes.olds.items
  pub leaves : new.left.items ≡ old.left.items

-- no event was kept or refused
pub record IsStill (old new : Course) : Type 0 where
  pub ran : new.ran ≡ old.ran
  pub over : new.is_over ≡ old.is_over

-- whether an event was kept: it was not where the run is over
abbrev pub IsEntered : (is_in : Bool) → Event → (origin : Option ℕ) → (old new : Course) → Type 0
IsEntered true event origin old new = (old.is_over ≡ false) × IsWith event origin old new
IsEntered false event origin old new = (old.is_over ≡ true) × IsStill old new

-- the new run behind the answer of a world to its last event: it is over where the event was refused
abbrev pub IsClosed : Stepped → (old new : Course) → Type 0
IsClosed Stepped.Done old new = IsStill old new
IsClosed Stepped.Fault old new = ⊥
IsClosed Stepped.Memory old new = ⊥
IsClosed refused old new = (new.ran ≡ old.ran) × (new.is_over ≡ true)

-- a world, of which the keeper tells this, plays the new run; where that is over, the world refused its last event
pub record IsPlayed {K : Type 0} (head : Head) (w : WorldOver K) (told : Option Kept) (c : Course) : Type 0 where
  pub ends : EndsSo head c.is_over c.ran
  pub plays : c.is_over ≡ false → Plays (beginning head) (reverse c.ran) w told

-- a world whose keeper tells its content so plays the new run on
abbrev pub PlaysOn : {K : Type 0} → (content : K → Option Kept) → BendPlan → (old new : WorldOver K) → (c d : Course) → Type 0
PlaysOn content plan old new c d =
    IsPlayed plan.head.now old (content old.server.keeper) c → IsPlayed plan.head.now new (content new.server.keeper) d
