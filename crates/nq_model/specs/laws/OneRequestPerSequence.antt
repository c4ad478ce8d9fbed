-- An incarnation sends one request for each sequence, in every run, and each reply answers a request.
use Rattle.std.specs.Prelude.{◌≡◌, ◌<◌, ◌≤◌, ℕ, List, [], ◌∷◌, Some, length, nat_lt, slice_get, if◌then◌else◌}
use Rattle.nq_base.specs.declared.Event.{Event}
use Rattle.nq_base.specs.declared.Reply.{Reply}
use Rattle.nq_base.specs.declared.Request.{Request}
use Rattle.nq_base.specs.declared.Who.{Who}
use Rattle.nq_model.specs.laws.Bounds.{InEveryRun}
use Rattle.nq_model.specs.protocol.Client.{Client, Ticket}
use Rattle.nq_model.specs.protocol.Hear.{inc_of}
use Rattle.nq_model.specs.protocol.Kept.{host_row}
use Rattle.nq_model.specs.protocol.Message.{Packet, call, reply, asker, sequence_of}
use Rattle.nq_model.specs.protocol.Server.{to_host}
use Rattle.nq_model.specs.protocol.World.{Head, World, from_host, run}

-- the packet at this place brings a host's request of this number, in which an incarnation asks with this sequence
pub record Asks (packets : List Packet) (place host xid : ℕ) (r : Request) (who : Who) (seq : ℕ) : Type 0 where
  pub sent : slice_get packets place ≡ Some (from_host host (call xid r))
  pub by : asker r ≡ Some who
  pub sequence : sequence_of r ≡ Some seq

-- where one incarnation asks with one sequence in two packets, these are copies of one packet: they come from its host,
-- with the same number and the same request
abbrev pub AsksOnce : World → Type 0
AsksOnce w =
    (i j host other x y : ℕ) (r s : Request) (who : Who) (seq : ℕ)
    → Asks w.packets i host x r who seq
    → Asks w.packets j other y s who seq
    → (host ≡ who.host) × (other ≡ who.host) × (x ≡ y) × (r ≡ s)

-- after every schedule, whatever packets were lost, repeated or reordered, whoever restarted, however often the server
-- crashed and however the clocks ran, each incarnation has sent one request at most with a sequence, and copies of it
abbrev pub OneRequestPerSequence : Type 0
OneRequestPerSequence = (head : Head) (events : List Event) → AsksOnce (run head events)

-- a client has this request under way, with this number
pub record IsUnderWay (c : Client) (xid : ℕ) (r : Request) : Type 0 where
  pub ticket : Ticket
  pub has : c.ticket ≡ Some ticket
  pub number : ticket.xid ≡ xid
  pub request : ticket.request ≡ r

-- a request is open: the packet at this place brings it from the kept incarnation of its host, and its sequence is above
-- the kept one, so the server has not decided it yet
pub record IsOpenRequest (w : World) (host place xid : ℕ) (r : Request) (who : Who) (seq : ℕ) : Type 0 where
  pub asks : Asks w.packets place host xid r who seq
  pub kept : (host_row w.server.kept host).inc ≡ who.inc
  pub above : (host_row w.server.kept host).seq < seq

-- an open request of a client that runs is the one that the client has under way. Each host has one open request at most,
-- and copies of it, whether its incarnation still runs or not. No incarnation after the kept one has asked with a sequence
pub record OpensOne (w : World) : Type 0 where
  pub under_way : (host place xid : ℕ) (c : Client) (r : Request) (seq : ℕ) → slice_get w.clients host ≡ Some c → IsOpenRequest w host place xid r
      c.who seq → IsUnderWay c xid r
  pub one : (host i j x y : ℕ) (r s : Request) (who other : Who) (m n : ℕ) → IsOpenRequest w host i x r who m → IsOpenRequest w host j y s other n
      → (x ≡ y) × (r ≡ s)
  pub none_after : (place host xid : ℕ) (r : Request) (who : Who) (seq : ℕ) → Asks w.packets place host xid r who seq
      → (host_row w.server.kept host).inc < who.inc → ⊥

-- after every schedule within skew
abbrev pub OneOpenInEveryRun : Type 0
OneOpenInEveryRun = InEveryRun (λ head events. OpensOne (run head events))

-- the reply at this place comes after a request of its number from that host, by the incarnation that the reply names
pub record AnswersRequest (packets : List Packet) (place host xid : ℕ) (a : Reply) : Type 0 where
  pub earlier : ℕ
  pub before : earlier < place
  pub asks : Request
  pub who : Who
  pub sent : slice_get packets earlier ≡ Some (from_host host (call xid asks))
  pub by : asker asks ≡ Some who
  pub inc : inc_of a ≡ who.inc

-- the time of the server's clock when the packet at this place was sent. A schedule is told with its newest event first
abbrev pub sent_time : Head → List Event → (place : ℕ) → ℕ
sent_time head [] place = 0
sent_time head (event ∷ earlier) place =
    if nat_lt place (length (run head earlier).packets)
    then sent_time head earlier place
    else (run head (event ∷ earlier)).server.now

-- a client sent its request under way before the packet at this place, and no later by the server's clock
pub record WasSentBefore (head : Head) (events : List Event) (place host : ℕ) (t : Ticket) : Type 0 where
  pub earlier : ℕ
  pub before : earlier < place
  pub sent : slice_get (run head events).packets earlier ≡ Some (from_host host (call t.xid t.request))
  pub clock : sent_time head events earlier ≤ sent_time head events place

-- each reply comes after a request that it answers. A reply that a client can still take, since it has the number of the
-- request under way and names the running incarnation, comes after the client first sent that request
pub record RepliesAfter (head : Head) (events : List Event) : Type 0 where
  pub each : (place host xid : ℕ) (a : Reply) → slice_get (run head events).packets place ≡ Some (to_host host (reply xid a))
      → AnswersRequest (run head events).packets place host xid a
  pub to_own : (place host : ℕ) (c : Client) (t : Ticket) (a : Reply) → slice_get (run head events).clients host ≡ Some c → c.ticket ≡ Some t
      → slice_get (run head events).packets place ≡ Some (to_host host (reply t.xid a)) → inc_of a ≡ c.who.inc → WasSentBefore head events place host t

-- after every schedule
abbrev pub RepliesComeAfter : Type 0
RepliesComeAfter = (head : Head) (events : List Event) → RepliesAfter head events
