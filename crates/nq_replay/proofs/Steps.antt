-- What a step of a world means for what is played.
use Rattle.std.proofs.Common.{◌≡◌, ℕ, ◌≤◌, Bool, List, length, Option, refl, sym, ap, ◌∙◌, arith}
use Rattle.std.proofs.lemmas.List.{length-map}
use Rattle.nq_base.specs.declared.Event.{Event}
use Rattle.nq_model.specs.protocol.Kept.{Kept}
use Rattle.nq_model.specs.protocol.Stepped.{done, stepped}
use Rattle.nq_model.specs.protocol.World.{Head, run}
use Rattle.nq_replay.specs.Delivering.{Marks, least_undelivered, next_packet}
use Rattle.nq_replay.specs.Going.{HasFlag, IsAt}
use Rattle.nq_replay.specs.RulesLaws.{was-sent}
use Rattle.nq_world.specs.Playing.{Plays, WorldOver}
use Rattle.nq_world.specs.Shown.{datagram}

-- there are as many datagrams as packets
pub as-many : {K : Type 0} (head : Head) (events : List Event) (w : WorldOver K) (told : Option Kept) → Plays head events w told → length w.datagrams
    ≡ length (run head events).packets
as-many head events w told plays = ap length plays.shown.shows.datagrams ∙ length-map (run head events).packets datagram

-- the packet that is delivered next is the least that has no flag
pub next-is : {K : Type 0} (head : Head) (events : List Event) (w : WorldOver K) (told : Option Kept) (flags : List Bool) (sent : ℕ) (next : Option ℕ)
    → IsAt head events w told flags → sent ≡ length w.datagrams → ((es : List Event) → Marks flags es → next ≡ least_undelivered 0 sent es)
    → next_packet head events ≡ next
unfolding next_packet
next-is head events w told flags sent next at many least =
    let all : sent ≡ length (run head events).packets = many ∙ as-many head events w told at.plays in
    sym (rw all at least events at.marks)

-- a delivery that is taken is that of a packet that was sent
pub has_flag : {K : Type 0} (head : Head) (events : List Event) (event : Event) (w : WorldOver K) (told : Option Kept) (flags : List Bool)
    → Plays head events w told → length w.datagrams ≤ length flags → stepped head events event ≡ done → HasFlag (length flags) event
has_flag head events (Event.Call host op) w told flags plays room is = tt
has_flag head events (Event.Deliver k) w told flags plays room is =
    let many = as-many head events w told plays in
    let below = was-sent head events (Event.Deliver k) k refl is in
    omega arith
has_flag head events Event.ServerTick w told flags plays room is = tt
has_flag head events (Event.ClientTick host) w told flags plays room is = tt
has_flag head events (Event.Restart host) w told flags plays room is = tt
has_flag head events (Event.Crash longest) w told flags plays room is = tt
