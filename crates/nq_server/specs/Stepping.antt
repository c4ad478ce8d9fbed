-- What a call does that takes an event in. Below, `told` is what the keeper told of its content before the call and `tells` is
-- what it tells after it; `before` and `count` are its counts of faults.
use Rattle.std.specs.Prelude.{◌≡◌, ◌⊎◌, ℕ, ◌+◌, List, [], ◌∷◌, ◌++◌, Option, Some, Result, Ok, Err, All, length, map, min, reverse}
use Rattle.std.specs.Option.{ForSome}
use Rattle.nq_base.specs.declared.Entry.{Entry}
use Rattle.nq_base.specs.declared.Party.{Party}
use Rattle.nq_datagrams.specs.Messages.{bytes_of}
use Rattle.nq_datagrams.specs.Sent.{FitsPacket}
use Rattle.nq_io.specs.Faults.{Rose}
use Rattle.nq_base.specs.Entries.{EntryList}
use Rattle.nq_keeper.specs.Keeping.{StaysOrEnds}
use Rattle.nq_model.specs.protocol.Kept.{Kept}
use Rattle.nq_model.specs.protocol.Message.{Packet, Reason as Cause, was_too_long, was_no_message, was_no_call, wrong_host, old_incarnation, out_of_bounds}
use Rattle.nq_model.specs.protocol.Message.{no_reply_owed}
use Rattle.nq_model.specs.protocol.Server.{ServerStep, Outcome, taken, dropped}
use Rattle.nq_xdr.specs.RpcFault.{fault_number}
use Rattle.nq_keeper.specs.declared.KeepFault.{KeepFault}
use Rattle.nq_keeper.specs.declared.KeepFault.TheVariants as keep
use Rattle.nq_server.specs.declared.received.Reason.{Reason}
use Rattle.nq_server.specs.declared.received.Reason.TheVariants as reason
use Rattle.nq_server.specs.declared.received.Received.{Received}
use Rattle.nq_server.specs.declared.received.EventTaken.{EventTaken}
use Rattle.nq_server.specs.declared.received.EventTaken.TheVariants as took
use Rattle.nq_server.specs.State.{Beside, beside}
use Rattle.nq_wire.specs.Outbox.{Datagrams}

-- why a datagram is dropped, as the protocol says it
abbrev pub cause_of : Reason → Cause
cause_of reason.TooLong = was_too_long
cause_of (reason.Rpc fault) = was_no_message (fault_number fault)
cause_of reason.NotACall = was_no_call
cause_of reason.WrongHost = wrong_host
cause_of reason.OldIncarnation = old_incarnation
cause_of reason.OutOfBounds = out_of_bounds
cause_of reason.NoReplyOwed = no_reply_owed

-- how a datagram was taken, as the protocol says it
abbrev pub outcome_of : EventTaken → Outcome
outcome_of took.Done = taken
outcome_of (took.Dropped reason) = dropped (cause_of reason)

-- a packet as a datagram: its receiver, and its bytes
abbrev pub datagram_of_packet : Packet → Party × List ℕ
datagram_of_packet p = (p.to, bytes_of p.message)

-- the number of the next datagram of an outbox
abbrev pub next_of : Datagrams → ℕ
next_of out = min (out.first + length out.datagrams) 18446744073709551615

-- these packets were added to an outbox as datagrams, and each is read again as it was sent
pub record Sends (packets : List Packet) (old new : Datagrams) : Type 0 where
  pub first : new.first ≡ old.first
  pub added : new.datagrams ≡ old.datagrams ++ map datagram_of_packet packets
  pub fit : All FitsPacket packets

-- these entries, of which the newest stands first, were added to a journal
abbrev pub Enters : List Entry → (old new : EntryList) → Type 0
Enters entries old new = new.entries ≡ old.entries ++ reverse entries

-- a step was made: what is kept, what is held beside it, what was sent, and the entries
pub record Makes (step : ServerStep) (tells : Option Kept) (after : Beside) (out out' : Datagrams) (log log' : EntryList) : Type 0 where
  pub keeps : tells ≡ Some step.server.kept
  pub holds : after ≡ beside step.server
  pub sends : Sends step.sends out out'
  pub enters : Enters step.entries log log'

-- the outbox and the journal are as before
pub record SaysNothing (out out' : Datagrams) (log log' : EntryList) : Type 0 where
  pub first : out'.first ≡ out.first
  pub datagrams : out'.datagrams ≡ out.datagrams
  pub entries : log'.entries ≡ log.entries

-- what a call does, by its answer: it makes the step of the kept state that was told, or changes nothing
abbrev pub Takes : (step : Kept → ServerStep) → Result EventTaken KeepFault → (told tells : Option Kept) (before count : ℕ) (held after : Beside)
    (out out' : Datagrams) (log log' : EntryList) → Type 0
Takes step (Ok how) told tells before count held after out out' log log' =
    ForSome told (λ kept. ((step kept).outcome ≡ outcome_of how) × Makes (step kept) tells after out out' log log')
    × (count ≡ before)
Takes step (Err keep.Memory) told tells before count held after out out' log log' =
    (tells ≡ told) × (count ≡ before) × (after ≡ held) × SaysNothing out out' log log'
Takes step (Err keep.Failed) told tells before count held after out out' log log' =
    StaysOrEnds told tells × Rose before count × (after ≡ held) × SaysNothing out out' log log'

-- a packet was sent and nothing else happened; or memory was wanting, and the outbox is as before
abbrev pub Says : Packet → Result EventTaken KeepFault → (out out' : Datagrams) → Type 0
Says packet (Ok took.Done) out out' = Sends (packet ∷ []) out out'
Says packet (Ok (took.Dropped reason)) out out' = ⊥
Says packet (Err keep.Memory) out out' = (out'.first ≡ out.first) × (out'.datagrams ≡ out.datagrams)
Says packet (Err keep.Failed) out out' = ⊥

-- a stop leaves what was kept before the step, or after it
abbrev pub LeavesStep : (step : Kept → ServerStep) → (told : Option Kept) → (Option Kept → Type 0) → Type 0
LeavesStep step told leaves =
    ForSome told (λ kept. (found : Option Kept) → leaves found → (found ≡ Some kept) ⊎ (found ≡ Some (step kept).server.kept))

-- how an event was taken in, for those who sent it
abbrev pub done_of : EventTaken → Received
done_of took.Done = Received.Done
done_of (took.Dropped reason) = Received.Dropped reason

-- why an event was not taken in, for those who sent it
abbrev pub halted_of : KeepFault → Received
halted_of keep.Failed = Received.Fault
halted_of keep.Memory = Received.Memory
