-- What a step gives to what it is lent.
use Rattle.std.specs.Prelude.{◌≡◌, ◌≤◌, ◌+◌, ◌++◌, ℕ, true, List, All, map, None, Result, Ok, Err}
use Rattle.std.specs.Option.{option_map}
use Rattle.nq_base.specs.Plain.{plain_answer}
use Rattle.nq_base.specs.declared.Party.{Party}
use Rattle.nq_client_parts.specs.Entries.{Tells}
use Rattle.nq_client.specs.State.{client_of}
use Rattle.nq_client.specs.Step.{IsBegun, step_of}
use Rattle.nq_client.specs.declared.finishing.Letters.{Letters}
use Rattle.nq_client.specs.declared.rooms.Rooms.{Rooms}
use Rattle.nq_client.specs.declared.step.Step.{Step}
use Rattle.nq_datagrams.specs.Messages.{FitsMessage, bytes_of}
use Rattle.nq_base.specs.Entries.{EntryList}
use Rattle.nq_model.specs.protocol.Client.{ClientStep}
use Rattle.nq_model.specs.protocol.Message.{Message}
use Rattle.nq_wire.specs.Outbox.{Datagrams}

-- a message to the server as a datagram
abbrev pub to_server : Message → Party × List ℕ
to_server m = (Party.Server, bytes_of m)

-- an outbox and a journal grew by what a step gave, and the numbers of what is sent are within their fields
pub record Grows (t : ClientStep) (out outs : Datagrams) (log logs : EntryList) : Type 0 where
  pub first : outs.first ≡ out.first
  pub sends : outs.datagrams ≡ out.datagrams ++ map to_server t.sends
  pub fit : All FitsMessage t.sends
  pub entries : Tells t.entries log.entries logs.entries

-- these messages were added to what is sent, in the room of one
pub record Posts (ms : List Message) (out outs : Datagrams) : Type 0 where
  pub first : outs.first ≡ out.first
  pub sent : outs.datagrams ≡ out.datagrams ++ map to_server ms
  pub fit : All FitsMessage ms
  pub spare : out.spare ≤ outs.spare + 1

-- the most bytes of a call
abbrev pub longest_call : ℕ
longest_call = 4196

-- there is memory for the bytes of what a step may send
pub record HasLetters (l : Letters) : Type 0 where
  pub vacated : longest_call ≤ l.vacated
  pub request : longest_call ≤ l.request

-- there is room for the blocks that a step may copy
pub record HasRooms (r : Rooms) : Type 0 where
  pub kept : r.kept ≡ true
  pub sent : r.sent ≡ true

-- there is room for so many entries, for a block that becomes dirty and for what a step may send
pub record HasRoomFor (entries : ℕ) (s : Step) (out : Datagrams) (log : EntryList) : Type 0 where
  pub entries_made : entries ≤ s.entries.spare
  pub block : 1 ≤ s.state.dirty.spare
  pub places : 2 ≤ out.spare
  pub entries_told : entries ≤ log.spare

-- there is memory for all that a step may want
pub record IsSupplied (entries : ℕ) (s : Step) (l : Letters) (out : Datagrams) (log : EntryList) : Type 0 where
  pub letters : HasLetters l
  pub rooms : HasRooms l.rooms
  pub room : HasRoomFor entries s out log

-- a step was made: its answer alone is not given yet
pub record Makes (t : ClientStep) (new : Step) (out outs : Datagrams) (log logs : EntryList) : Type 0 where
  pub begun : IsBegun (record new { answer = None })
  pub client : client_of new.state ≡ t.client
  pub grows : Grows t out outs log logs
  pub answer : option_map plain_answer new.answer ≡ t.answer

-- a client between steps, an outbox and a journal are as before
pub record IsKept (old new : Step) (out outs : Datagrams) (log logs : EntryList) : Type 0 where
  pub begun : IsBegun new
  pub client : client_of new.state ≡ client_of old.state
  pub first : outs.first ≡ out.first
  pub datagrams : outs.datagrams ≡ out.datagrams
  pub entries : logs.entries ≡ log.entries

-- what comes of a datagram that counts: a step, or nothing where memory is wanting
abbrev pub Hears : {A E : Type 0} → Result A E → ClientStep → (old new : Step) (out outs : Datagrams) (log logs : EntryList) → Type 0
Hears (Ok x) t old new out outs log logs = Makes t new out outs log logs
Hears (Err e) t old new out outs log logs = IsKept old new out outs log logs

-- a step was given but for its answer
pub record Finishes (old new : Step) (out outs : Datagrams) (log logs : EntryList) : Type 0 where
  pub begun : IsBegun (record new { answer = None })
  pub state : new.state ≡ old.state
  pub answer : new.answer ≡ old.answer
  pub grows : Grows (step_of old) out outs log logs

-- an incarnation began, and what its first step sends was added to what is sent
pub record HasBegun (t : ClientStep) (new : Step) (out outs : Datagrams) : Type 0 where
  pub begun : IsBegun new
  pub client : client_of new.state ≡ t.client
  pub first : outs.first ≡ out.first
  pub sent : outs.datagrams ≡ out.datagrams ++ map to_server t.sends
  pub fit : All FitsMessage t.sends

-- nothing was added to what is sent
pub record IsUnsent (out outs : Datagrams) : Type 0 where
  pub first : outs.first ≡ out.first
  pub datagrams : outs.datagrams ≡ out.datagrams

-- what comes of a start: an incarnation, or nothing where memory is wanting
abbrev pub Begins : {E : Type 0} → Result Step E → ClientStep → (out outs : Datagrams) → Type 0
Begins (Ok step) t out outs = HasBegun t step out outs
Begins (Err e) t out outs = IsUnsent out outs
