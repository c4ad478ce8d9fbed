-- The bounds to which a schedule keeps: how many hosts there are, and how long the longest terms are.
use Rattle.std.specs.Prelude.{◌≤◌, ℕ, List, All}
use Rattle.nq_base.specs.declared.Event.{Event}
use Rattle.nq_model.specs.protocol.Profile.{shortest_term, most_hosts}
use Rattle.nq_model.specs.protocol.Skew.{IsWithinSkew}
use Rattle.nq_model.specs.protocol.World.{Head}

-- a server that boots chooses a longest term that is not below the shortest term and not above this number
abbrev pub BootsWithin : (most : ℕ) → Event → Type 0
BootsWithin most (Event.Crash longest) = (shortest_term ≤ longest) × (longest ≤ most)
BootsWithin most other = Unit {0}

-- a schedule has no more hosts than there may be, and its server never chooses a longest term above this number
pub record KeepsBounds (most : ℕ) (head : Head) (events : List Event) : Type 0 where
  pub hosts : head.hosts ≤ most_hosts
  pub first_long : shortest_term ≤ head.longest
  pub first_short : head.longest ≤ most
  pub boots : All (BootsWithin most) events

-- after every schedule that keeps to the bounds and is within skew over the longest term of all boots, this holds of its head
-- and its events
abbrev pub InEveryRun : (Head → List Event → Type 0) → Type 0
InEveryRun P =
    (most : ℕ) (head : Head) (events : List Event)
    → KeepsBounds most head events
    → IsWithinSkew head.hosts most events
    → P head events
