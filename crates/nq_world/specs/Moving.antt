-- What an event does to a part of a world, before what it sent is added to the packets. Below, `sent` is what was put into an
-- empty outbox, `told` and `tells` are what the server's keeper told of its content before and after it.
use Rattle.std.specs.Prelude.{◌≡◌, ◌≤◌, ℕ, ◌+◌, ◌*◌, List, [], ◌∷◌, ◌++◌, All, Option, Some, None, Result, Ok, Err, length, map, reverse, slice_get, slice_set}
use Rattle.nq_base.specs.declared.Answer.{Answer}
use Rattle.nq_base.specs.declared.Entry.{Entry}
use Rattle.nq_base.specs.declared.Event.{Event}
use Rattle.nq_base.specs.declared.Party.{Party}
use Rattle.nq_client.specs.Counted.{Counted}
use Rattle.nq_client_parts.specs.Entries.{Tells}
use Rattle.nq_client.specs.declared.reaction.Reaction.{Reaction}
use Rattle.nq_clock.specs.Counts.{SkewCounts}
use Rattle.nq_clock.specs.Tracks.{Follows}
use Rattle.nq_datagrams.specs.Messages.{FitsMessage}
use Rattle.nq_datagrams.specs.Sent.{sent as sent_packet}
use Rattle.nq_keeper.specs.Keeping.{StaysOrEnds}
use Rattle.nq_model.specs.protocol.Client.{Client, ClientStep}
use Rattle.nq_model.specs.protocol.Kept.{Kept}
use Rattle.nq_model.specs.protocol.Server.{ServerStep}
use Rattle.nq_model.specs.protocol.Stepped.{most_sends}
use Rattle.nq_link.specs.Packets.{PacketList}
use Rattle.nq_server.specs.Holding.{Holding, IsUntouched}
use Rattle.nq_server.specs.State.{beside}
use Rattle.nq_server.specs.declared.received.Received.{Received}
use Rattle.nq_world.specs.Counting.{ClientIsSpent, ServerIsSpent, TookIn}
use Rattle.nq_world.specs.Rooms.{IsSmall, longest_sent}
use Rattle.nq_world.specs.Shown.{FitsPacket, sent_from, to_server}
use Rattle.nq_base.specs.declared.ending.fault.Fault.{Fault}
use Rattle.nq_base.specs.declared.ending.fault.Fault.TheVariants as fault
use Rattle.nq_world.specs.declared.stepped.Limit.{Limit}
use Rattle.nq_world.specs.declared.stepped.Stepped.{Stepped}

-- what an answer to a call means for the event
abbrev pub called : Answer → Result Unit Fault
called Answer.Memory = Err fault.Memory
called Answer.Spent = Err fault.Spent
called other = Ok tt

-- what is heard of a tick or a datagram means for the event
abbrev pub heeded : Reaction → Result Unit Fault
heeded Reaction.Memory = Err fault.Memory
heeded Reaction.Spent = Err fault.Spent
heeded other = Ok tt

-- how the server took an event in, for the event
abbrev pub received : Received → Result Unit Fault
received Received.Fault = Err fault.Keep
received Received.Memory = Err fault.Memory
received Received.Spent = Err fault.Spent
received other = Ok tt

-- the clients of the protocol
abbrev pub clients_in : List Counted → List Client
clients_in clients = map (λ c. c.client) clients

-- the client of a host made this step
pub record MovesClient (host : ℕ) (t : ClientStep) (old new : List Counted) (sent : List (Party × List ℕ)) (entries entries' : List Entry) : Type 0 where
  pub clients : clients_in new ≡ slice_set (clients_in old) host t.client
  pub sends : sent ≡ map to_server t.sends
  pub fit : All FitsMessage t.sends
  pub tells : Tells t.entries entries entries'
  pub counts : (most : ℕ) → TookIn most old → TookIn (most + 1) new

-- no client changed but for its count, nothing was sent and nothing told
pub record MovesNothing (old new : List Counted) (sent : List (Party × List ℕ)) (entries entries' : List Entry) : Type 0 where
  pub clients : clients_in new ≡ clients_in old
  pub sends : sent ≡ []
  pub tells : entries' ≡ entries
  pub counts : (most : ℕ) → TookIn most old → TookIn (most + 1) new

-- the client of a host made this step, if there is one
abbrev pub Moves : (host : ℕ) → Option ClientStep → (old new : List Counted) (sent : List (Party × List ℕ)) (entries entries' : List Entry) → Type 0
Moves host None old new sent entries entries' = MovesNothing old new sent entries entries'
Moves host (Some t) old new sent entries entries' = MovesClient host t old new sent entries entries'

-- the step of a host's client, if there is such a host
abbrev pub step_at : (Client → Option ClientStep) → Option Counted → Option ClientStep
step_at step None = None
step_at step (Some c) = step c.client

-- what an event at the client of a host does: the client makes its step, or all clients and the journal are as before. A client that
-- is spent makes none
abbrev pub ActsAt : (host : ℕ) → (step : Client → Option ClientStep) → Result Unit Fault → (old new : List Counted) (sent : List (Party × List ℕ))
    (entries entries' : List Entry) → Type 0
ActsAt host step (Ok made) old new sent entries entries' = Moves host (step_at step (slice_get old host)) old new sent entries entries'
ActsAt host step (Err fault.Memory) old new sent entries entries' = (new ≡ old) × (entries' ≡ entries)
ActsAt host step (Err fault.Spent) old new sent entries entries' = (new ≡ old) × (entries' ≡ entries) × ClientIsSpent host old
ActsAt host step (Err other) old new sent entries entries' = ⊥

-- the server made this step
pub record MovesServer {K : Type 0} (t : ServerStep) (old new : Holding K) (tells : Option Kept) (sent : List (Party × List ℕ))
    (entries entries' : List Entry) : Type 0 where
  pub keeps : tells ≡ Some t.server.kept
  pub holds : new.beside ≡ beside t.server
  pub sends : sent ≡ map sent_packet t.sends
  pub fit : All FitsPacket t.sends
  pub enters : entries' ≡ entries ++ reverse t.entries
  pub counts : new.taken ≤ old.taken + 1

-- what an event at the server does: the server makes its step, or it and the journal are as before, but for the keeper. A server
-- that is spent makes none
abbrev pub Serves : {K : Type 0} → (t : ServerStep) → Result Unit Fault → (old new : Holding K) (told tells : Option Kept)
    (sent : List (Party × List ℕ)) (entries entries' : List Entry) → Type 0
Serves t (Ok made) old new told tells sent entries entries' = MovesServer t old new tells sent entries entries'
Serves t (Err fault.Memory) old new told tells sent entries entries' = IsUntouched old new × (tells ≡ told) × (entries' ≡ entries)
Serves t (Err fault.Spent) old new told tells sent entries entries' =
    IsUntouched old new × (tells ≡ told) × (entries' ≡ entries) × ServerIsSpent old told
Serves t (Err fault.Keep) old new told tells sent entries entries' = IsUntouched old new × StaysOrEnds told tells × (entries' ≡ entries)
Serves t (Err other) old new told tells sent entries entries' = ⊥

-- the test of skew follows an event
pub record FollowsOn (event : Event) (old new : SkewCounts) : Type 0 where
  pub hosts : length new.hosts ≡ length old.hosts
  pub window : new.window ≡ old.window
  pub clocks : (events : List Event) → Follows old events → Follows new (event ∷ events)

-- it follows an event that was made, and no other
abbrev pub Clocks : Result Unit Fault → Event → (old new : SkewCounts) → Type 0
Clocks (Ok made) event old new = FollowsOn event old new
Clocks (Err why) event old new = new ≡ old

-- the packets have room for all that an event sends
pub record HasRoom (packets : PacketList) : Type 0 where
  pub places : most_sends ≤ packets.spare
  pub bytes : most_sends * longest_sent ≤ packets.spare_bytes

-- an event that was made ends: what it sent is added to the packets, and it is counted. Memory is not wanting for what is small
abbrev pub Ends : Result Unit Fault → (answer : Stepped) → (party : Party) (sent : List (Party × List ℕ)) (packets packets' : PacketList)
    (events events' : ℕ) → Type 0
Ends (Ok made) Stepped.Done party sent packets packets' events events' =
    (packets'.datagrams ≡ packets.datagrams ++ map (sent_from party) sent) × (events' ≡ events + 1)
Ends (Ok made) Stepped.Memory party sent packets packets' events events' =
    (HasRoom packets → IsSmall sent → ⊥) × (events' ≡ events + 1)
Ends (Ok made) other party sent packets packets' events events' = ⊥
Ends (Err fault.Memory) answer party sent packets packets' events events' =
    (answer ≡ Stepped.Memory) × (packets'.datagrams ≡ packets.datagrams) × (events' ≡ events)
Ends (Err fault.Spent) answer party sent packets packets' events events' =
    (answer ≡ Stepped.Limit Limit.Events) × (packets'.datagrams ≡ packets.datagrams) × (events' ≡ events)
Ends (Err other) answer party sent packets packets' events events' =
    (answer ≡ Stepped.Fault) × (packets'.datagrams ≡ packets.datagrams) × (events' ≡ events)
