-- What is promised of a world with staged writes.
use Rattle.std.specs.Prelude.{◌≡◌, ◌≤◌, ◌<◌, ◌⊎◌, ◌^◌, ℕ, List, Some, length, slice_get}
use Rattle.nq_base.specs.declared.Call.{Call}
use Rattle.nq_base.specs.declared.Event.{Event}
use Rattle.nq_base.specs.declared.Party.{Party}
use Rattle.nq_datagrams.specs.Messages.{bytes_of}
use Rattle.nq_model.specs.laws.Journal.{Each}
use Rattle.nq_model.specs.protocol.Message.{Message, Packet}
use Rattle.nq_model.specs.protocol.Profile.{most_hosts}
use Rattle.nq_model.specs.protocol.Stepped.{most_events}
use Rattle.nq_model.specs.protocol.World.{Head, World, run, step}
use Rattle.nq_stage.specs.Answering.{write, unstaged, own_commit, answered}
use Rattle.nq_stage.specs.declared.messages.Commit.{Commit}
use Rattle.nq_stage.specs.declared.messages.Pushed.{Pushed}
use Rattle.nq_stage.specs.Messages.{commit_bytes, write_bytes}
use Rattle.nq_stage.specs.declared.run.event.StagedEvent.{StagedEvent}
use Rattle.nq_stage.specs.Outer.{Outer, Outside}
use Rattle.nq_stage.specs.Outside.{outside_run, outside_step}

-- The inner world is the run of the inner events: so its journal is that run's, and all that is promised of runs holds of it.
abbrev pub RunsInside : Type 0
RunsInside = (head : Head) (events : List StagedEvent) → (outside_run head events).world ≡ run head (outside_run head events).ran

-- An offer leaves the inner world as it is: no block is less delayed for being staged.
abbrev pub OffersStoreNothing : Type 0
OffersStoreNothing = (o : Outside) (host : ℕ) → (outside_step o (StagedEvent.Stage host)).world ≡ o.world

-- ---- which schedules these laws speak of

-- a call that writes brings a block of 4096 bytes, and the numbers of its file and of its block are words
abbrev pub BringsBlock : Call → Type 0
BringsBlock (Call.Write file block body) = (file < 2 ^ 32) × (block < 2 ^ 32) × (length body ≡ 4096)
BringsBlock (Call.Put file block body) = (file < 2 ^ 32) × (block < 2 ^ 32) × (length body ≡ 4096)
BringsBlock other = Unit {0}

-- so does an event that is a call
abbrev pub EventBrings : Event → Type 0
EventBrings (Event.Call host op) = BringsBlock op
EventBrings other = Unit {0}

-- so does an event of a staged schedule
abbrev pub StagedBrings : StagedEvent → Type 0
StagedBrings (StagedEvent.Plain event) = EventBrings event
StagedBrings (StagedEvent.Stage host) = Unit {0}

-- a staged schedule has no more hosts and events than there may be, and its calls bring blocks
pub record IsStagedSchedule (head : Head) (events : List StagedEvent) : Type 0 where
  pub hosts : head.hosts ≤ most_hosts
  pub few : length events ≤ most_events
  pub brings : Each StagedBrings events

-- this holds after every such schedule
abbrev pub InEveryStagedRun : (Outside → Type 0) → Type 0
InEveryStagedRun P = (head : Head) (events : List StagedEvent) → IsStagedSchedule head events → P (outside_run head events)

-- ---- what travels

-- bytes are the COMMIT of a push, and the message is its WRITE
pub record IsShort (bytes : List ℕ) (message : Message) : Type 0 where
  pub push : Pushed
  pub verifier : ℕ
  pub body : List ℕ
  pub commit : bytes ≡ commit_bytes push verifier
  pub whole : bytes_of message ≡ write_bytes push body

-- a packet stands for the inner packet of this number: it is between the same two, and carries its bytes or the COMMIT of them
pub record StandsFor (w : World) (number : ℕ) (p : Outer) : Type 0 where
  pub packet : Packet
  pub is : slice_get w.packets number ≡ Some packet
  pub sender : p.sender ≡ packet.sender
  pub to : p.to ≡ packet.to
  pub carries : (p.bytes ≡ bytes_of packet.message) ⊎ IsShort p.bytes packet.message

-- each packet that travels stands for an inner packet that was sent, or for none
abbrev pub EachStands : Outside → Type 0
EachStands o = (k number : ℕ) (p : Outer) → slice_get o.sent k ≡ Some p → p.stands ≡ Some number → StandsFor o.world number p

abbrev pub EachStandsForItsPacket : Type 0
EachStandsForItsPacket = InEveryStagedRun EachStands

-- a packet is a COMMIT whose body the pool does not have
pub record IsUnstaged (o : Outside) (p : Outer) : Type 0 where
  pub host : ℕ
  pub commit : Commit
  pub bytes : List ℕ
  pub sender : p.sender ≡ Party.Client host
  pub read : own_commit host p.bytes ≡ Some commit
  pub answers : answered o.pool commit ≡ unstaged bytes

-- its delivery is that of the inner packet, but for a COMMIT whose body the pool does not have
abbrev pub EachIsDelivered : Outside → Type 0
EachIsDelivered o =
    (k number : ℕ) (p : Outer)
    → slice_get o.sent k ≡ Some p
    → p.stands ≡ Some number
    → ((outside_step o (StagedEvent.Plain (Event.Deliver k))).world ≡ step o.world (Event.Deliver number)) ⊎ IsUnstaged o p

abbrev pub EachIsDeliveredAsItsPacket : Type 0
EachIsDeliveredAsItsPacket = InEveryStagedRun EachIsDelivered

-- ---- what is rebuilt

-- a COMMIT from a host that travels
pub record Travels (o : Outside) (k host : ℕ) (p : Outer) (c : Commit) : Type 0 where
  pub is : slice_get o.sent k ≡ Some p
  pub sender : p.sender ≡ Party.Client host
  pub commit : own_commit host p.bytes ≡ Some c

-- bytes are those of an inner packet of a host, for which a packet stands
pub record IsInnerPacket (w : World) (host : ℕ) (p : Outer) (bytes : List ℕ) : Type 0 where
  pub number : ℕ
  pub packet : Packet
  pub stands : p.stands ≡ Some number
  pub is : slice_get w.packets number ≡ Some packet
  pub sender : packet.sender ≡ Party.Client host
  pub same : bytes ≡ bytes_of packet.message

-- each WRITE that the pool rebuilds is byte for byte the inner packet for which its COMMIT stands
abbrev pub RebuildsMeant : Outside → Type 0
RebuildsMeant o =
    (k host : ℕ) (p : Outer) (c : Commit) (bytes : List ℕ)
    → Travels o k host p c
    → answered o.pool c ≡ write bytes
    → IsInnerPacket o.world host p bytes

abbrev pub RebuildsWhatWasMeant : Type 0
RebuildsWhatWasMeant = InEveryStagedRun RebuildsMeant
