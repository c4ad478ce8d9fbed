-- Each tick of the server's clock is judged by the rule on skew as the rule says. Schedules are told with the newest event
-- first.
use Rattle.std.specs.Prelude.{◌≡◌, ℕ, ◌+◌, ◌<◌, ◌≤◌, List, ◌∷◌, ◌++◌, Option, Some, None}
use Rattle.nq_base.specs.declared.Event.{Event}
use Rattle.nq_base.specs.declared.SkewBroken.{SkewBroken}
use Rattle.nq_model.specs.laws.Tests.{Tells}
use Rattle.nq_model.specs.protocol.Profile.{skew}
use Rattle.nq_model.specs.protocol.Skew.{server_ticks, ticks_of, IsWithinSkew, is_within_skew}
use Rattle.nq_model.specs.protocol.SkewBroken.{skew_broken}

-- the test of skew tells which schedules are within skew
abbrev pub TellsSkew : Type 0
TellsSkew =
    (hosts longest : ℕ) (events : List Event)
    → Tells (is_within_skew hosts longest events) (IsWithinSkew hosts longest events)

-- a part that ends now
pub record EndsNow (part events : List Event) : Type 0 where
  pub before : List Event
  pub split : events ≡ part ++ before

-- a part breaks the rule for a host
pub record Breaks (host longest : ℕ) (part : List Event) : Type 0 where
  pub few : ticks_of host part ≤ longest
  pub more : ticks_of host part + skew < server_ticks part

-- of the parts that end now, one with these ticks breaks the rule for the host, and none that breaks it has fewer ticks
-- of the host's clock
pub record IsFewest (longest : ℕ) (events : List Event) (b : SkewBroken) : Type 0 where
  pub part : List Event
  pub ends : EndsNow part events
  pub breaks : Breaks b.host longest part
  pub client : b.client ≡ ticks_of b.host part
  pub server : b.server ≡ server_ticks part
  pub fewest : (other : List Event) → EndsNow other events → Breaks b.host longest other → b.client ≤ ticks_of b.host other

-- the host that is named is the lowest for which a part that ends now breaks the rule
pub record IsLowest (hosts longest : ℕ) (events : List Event) (b : SkewBroken) : Type 0 where
  pub below : b.host < hosts
  pub fewest : IsFewest longest events b
  pub lowest : (host : ℕ) (part : List Event) → host < b.host → EndsNow part events → Breaks host longest part → ⊥

-- a tick of the server's clock after a schedule within skew is refused or not
pub record IsJudged (hosts longest : ℕ) (events : List Event) (found : Option SkewBroken) : Type 0 where
  -- nothing is named exactly where the schedule stays within skew
  pub within : found ≡ None → IsWithinSkew hosts longest (Event.ServerTick ∷ events)
  pub refused : IsWithinSkew hosts longest (Event.ServerTick ∷ events) → found ≡ None
  -- what is named is the lowest host, and for it the part with the fewest ticks of its clock
  pub named : (b : SkewBroken) → found ≡ Some b → IsLowest hosts longest (Event.ServerTick ∷ events) b
  -- in that part the server's clock ticks four times more than the host's
  pub one_more : (b : SkewBroken) → found ≡ Some b → b.server ≡ b.client + skew + 1

-- each tick of the server's clock is judged so
abbrev pub EachTickIsJudged : Type 0
EachTickIsJudged =
    (hosts longest : ℕ) (events : List Event)
    → IsWithinSkew hosts longest events
    → IsJudged hosts longest events (skew_broken hosts longest events)
