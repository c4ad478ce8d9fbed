-- Which packets were delivered. The events of a run are told with the newest first.
use Rattle.std.specs.Prelude.{◌≡◌, ℕ, ◌+◌, ◌<◌, ◌==◌, Bool, true, false, ◌||◌, List, [], ◌∷◌, Option, Some, None, length, slice_index_or, zero, suc}
use Rattle.std.specs.Prelude.{if◌then◌else◌}
use Rattle.nq_base.specs.declared.Event.{Event}
use Rattle.nq_model.specs.protocol.World.{Head, run}

-- whether an event is the delivery of this packet
abbrev pub delivers : (packet : ℕ) → Event → Bool
delivers packet (Event.Deliver k) = k == packet
delivers packet other = false

-- whether a packet was ever delivered
abbrev pub was_delivered : (packet : ℕ) → (events : List Event) → Bool
was_delivered packet [] = false
was_delivered packet (event ∷ earlier) = delivers packet event || was_delivered packet earlier

-- the least of so many packets, from this one on, that was never delivered
abbrev pub least_undelivered : (from count : ℕ) → (events : List Event) → Option ℕ
least_undelivered from zero events = None
least_undelivered from (suc count) events =
    if was_delivered from events then least_undelivered (from + 1) count events else Some from

-- the least packet that was sent in a run and never delivered
unfoldable pub next_packet : Head → (events : List Event) → Option ℕ
next_packet head events = least_undelivered 0 (length (run head events).packets) events

-- flags that tell of each packet whether it was delivered; packets without a flag were not
abbrev pub Marks : (flags : List Bool) → (events : List Event) → Type 0
Marks flags events = (packet : ℕ) → slice_index_or flags packet false ≡ was_delivered packet events

-- each packet below this one is flagged
abbrev pub AreFlagged : (flags : List Bool) → (least : ℕ) → Type 0
AreFlagged flags least = (packet : ℕ) → packet < least → slice_index_or flags packet false ≡ true
