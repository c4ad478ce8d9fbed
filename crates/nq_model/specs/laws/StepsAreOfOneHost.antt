-- A step is its own host's: each event changes one party alone, from what that party has and what the event brings it.
use Rattle.std.specs.Prelude.{◌≡◌, ◌≢◌, ◌++◌, ℕ, List, Option, Some, None, length, slice_get, ⊤}
use Rattle.nq_base.specs.declared.Entry.{Entry}
use Rattle.nq_base.specs.declared.Event.{Event}
use Rattle.nq_base.specs.declared.Party.{Party}
use Rattle.nq_model.specs.protocol.Message.{Packet}
use Rattle.nq_model.specs.protocol.World.{World, step}

-- the party to which a packet goes, or the server where there is no such packet
abbrev pub receiver_of : Option Packet → Party
receiver_of None = Party.Server
receiver_of (Some p) = p.to

-- whose step an event is: a call, a tick or a restart of a host is its own, and a delivery that of the receiver
abbrev pub stepper : World → Event → Party
stepper w (Event.Call host op) = Party.Client host
stepper w (Event.Deliver k) = receiver_of (slice_get w.packets k)
stepper w Event.ServerTick = Party.Server
stepper w (Event.ClientTick host) = Party.Client host
stepper w (Event.Restart host) = Party.Client host
stepper w (Event.Crash longest) = Party.Server

-- nothing else changes: the clients of all other hosts are as they were, and so is the server where a client steps; packets and
-- entries are only added
pub record ChangesOnly (who : Party) (before after : World) : Type 0 where
  pub clients : (host : ℕ) → Party.Client host ≢ who → slice_get after.clients host ≡ slice_get before.clients host
  pub server : Party.Server ≢ who → after.server ≡ before.server
  pub sends : List Packet
  pub packets : after.packets ≡ before.packets ++ sends
  pub entries : List Entry
  pub journal : after.journal ≡ entries ++ before.journal

-- so it is with each event, in every world
abbrev pub StepsAreOfOneHost : Type 0
StepsAreOfOneHost = (w : World) (e : Event) → ChangesOnly (stepper w e) w (step w e)

-- two worlds are alike to a party that steps: it has the same state in both, and as many packets were sent
pub record IsAlike (who : Party) (v w : World) : Type 0 where
  pub client : (host : ℕ) → Party.Client host ≡ who → slice_get v.clients host ≡ slice_get w.clients host
  pub server : Party.Server ≡ who → v.server ≡ w.server
  pub sent : length v.packets ≡ length w.packets

-- an event brings the same in two worlds: a delivery, the same packet
abbrev pub BringsSame : Event → (v w : World) → Type 0
BringsSame (Event.Deliver k) v w = slice_get v.packets k ≡ slice_get w.packets k
BringsSame other v w = ⊤

-- from two such worlds a step leads to two, and sends and tells the same
pub record DoesSame (who : Party) (v w v_after w_after : World) : Type 0 where
  pub alike : IsAlike who v_after w_after
  pub sends : List Packet
  pub v_packets : v_after.packets ≡ v.packets ++ sends
  pub w_packets : w_after.packets ≡ w.packets ++ sends
  pub entries : List Entry
  pub v_journal : v_after.journal ≡ entries ++ v.journal
  pub w_journal : w_after.journal ≡ entries ++ w.journal

-- what a party has after its step, what it sends and what it tells rest on nothing but what it had and what the event brings
abbrev pub StepsRestOnTheirHost : Type 0
StepsRestOnTheirHost = (v w : World) (e : Event) → IsAlike (stepper w e) v w → BringsSame e v w → DoesSame (stepper w e) v w (step v e) (step w e)
