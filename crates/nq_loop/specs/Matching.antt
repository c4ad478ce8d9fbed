-- Which packet a datagram is. The events of a run are told with the newest first.
use Rattle.std.specs.Prelude.{◌≡◌, ◌⊎◌, ℕ, ◌<◌, ◌&&◌, Bool, true, false, not, List, Option, Some, None, slice_get}
use Rattle.nq_base.specs.declared.Event.{Event}
use Rattle.nq_link.specs.Packets.{Datagram}
use Rattle.nq_replay.specs.Delivering.{was_delivered}

-- the least number of which this holds
pub record IsLeast (P : ℕ → Type 0) (number : ℕ) : Type 0 where
  pub is : P number
  pub least : (lower : ℕ) → lower < number → P lower → ⊥

-- the packet of this number equals a datagram in bytes, sender and receiver
abbrev pub Equals : (sent : List Datagram) → Datagram → (number : ℕ) → Type 0
Equals sent d number = slice_get sent number ≡ Some d

-- it does, and was never delivered
abbrev pub EqualsFresh : (sent : List Datagram) → List Event → Datagram → (number : ℕ) → Type 0
EqualsFresh sent events d number = Equals sent d number × (was_delivered number events ≡ false)

-- the packet that a datagram counts as: the least that equals it and was never delivered, else the least that equals it; none where
-- none equals it
abbrev pub CountsAs : (sent : List Datagram) → List Event → Datagram → Option ℕ → Type 0
CountsAs sent events d None = (number : ℕ) → Equals sent d number → ⊥
CountsAs sent events d (Some number) =
    IsLeast (EqualsFresh sent events d) number
    ⊎ (((other : ℕ) → EqualsFresh sent events d other → ⊥) × IsLeast (Equals sent d) number)

-- whether a packet equals a datagram, and was never delivered
abbrev pub is_fresh : (same delivered : Bool) → Bool
is_fresh same delivered = same && not delivered

-- the number that was found first, where the packet of this one equals a datagram or not
abbrev pub least_with : (same : Bool) → (found : Option ℕ) → (number : ℕ) → Option ℕ
least_with same (Some first) number = Some first
least_with true None number = Some number
least_with false None number = None
