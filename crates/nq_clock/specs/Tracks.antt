-- What the counts of the test of skew mean, over a history of events. Histories are told with the newest event first.
use Rattle.std.specs.Prelude.{◌≡◌, ℕ, ◌+◌, ◌<◌, ◌≤◌, List, ◌∷◌, Option, Some, length, slice_get}
use Rattle.nq_base.specs.declared.Event.{Event}
use Rattle.nq_model.specs.protocol.Skew.{IsWithinSkew, is_server_tick, is_tick_of, server_ticks, ticks_of}
use Rattle.nq_model.specs.laws.EachTickIsJudged.{EndsNow}
use Rattle.nq_clock.specs.Counts.{Counts, SkewCounts}

-- a part ends now, has at most the window's number of the host's ticks, and in it the server's clock ticks at least so
-- many times more often
pub record Leads (window host more : ℕ) (events part : List Event) : Type 0 where
  pub ends : EndsNow part events
  pub few : ticks_of host part ≤ window
  pub ahead : ticks_of host part + more ≤ server_ticks part

-- of those parts one has so many ticks of the host's clock
pub record HasLead (window host more : ℕ) (events : List Event) (count : ℕ) : Type 0 where
  pub part : List Event
  pub leads : Leads window host more events part
  pub client : ticks_of host part ≡ count

-- it is the count that there is, and at most this
pub record IsSomeUpTo (count : Option ℕ) (most : ℕ) : Type 0 where
  pub ticks : ℕ
  pub is : count ≡ Some ticks
  pub up_to : ticks ≤ most

-- a count is the fewest ticks of the host's clock in those parts, or None where there is no such part
pub record IsFewestOf (window host more : ℕ) (events : List Event) (count : Option ℕ) : Type 0 where
  pub found : (ticks : ℕ) → count ≡ Some ticks → HasLead window host more events ticks
  pub fewest : (part : List Event) → Leads window host more events part → IsSomeUpTo count (ticks_of host part)

-- the counts of a host are right after a history
pub record Tracks (window host : ℕ) (events : List Event) (counts : Counts) : Type 0 where
  pub one_more : IsFewestOf window host 1 events counts.one_more
  pub two_more : IsFewestOf window host 2 events counts.two_more
  pub three_more : IsFewestOf window host 3 events counts.three_more

-- the test of skew follows a history: it is within skew, and the counts of each host are right
pub record Follows (skew : SkewCounts) (events : List Event) : Type 0 where
  pub within : IsWithinSkew (length skew.hosts) skew.window events
  pub tracks : (host : ℕ) (counts : Counts) → slice_get skew.hosts host ≡ Some counts → Tracks skew.window host events counts

-- an event that ticks neither the server's clock nor that of a host below a number
pub record IsNoTick (hosts : ℕ) (event : Event) : Type 0 where
  pub server : is_server_tick event ≡ 0
  pub client : (host : ℕ) → host < hosts → is_tick_of host event ≡ 0

-- any event but a tick leaves what is followed
abbrev pub OtherEventsPass : Type 0
OtherEventsPass =
    (skew : SkewCounts) (events : List Event) (event : Event)
    → IsNoTick (length skew.hosts) event
    → Follows skew events
    → Follows skew (event ∷ events)
