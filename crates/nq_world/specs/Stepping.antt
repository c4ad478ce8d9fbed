-- Each event of a world of the protocol, as a step of what is seen of it.
use Rattle.std.specs.Prelude.{◌≡◌, ℕ, List, ◌++◌, Some, All, length, map, reverse, slice_get, slice_set}
use Rattle.nq_base.specs.Plain.{plain}
use Rattle.nq_base.specs.declared.Entry.{Entry}
use Rattle.nq_base.specs.declared.Event.{Event}
use Rattle.nq_base.specs.declared.Party.{Party}
use Rattle.nq_datagrams.specs.Incoming.{datagram_in, hears_in}
use Rattle.nq_datagrams.specs.Messages.{FitsMessage}
use Rattle.nq_datagrams.specs.Sent.{sent}
use Rattle.nq_model.specs.protocol.Client.{Client, ClientStep}
use Rattle.nq_model.specs.protocol.Server.{ServerStep}
use Rattle.nq_model.specs.protocol.ServerStep.{receive}
use Rattle.nq_model.specs.protocol.World.{Head, World, after_server, after_client, after_hearing, sending_host, run, step}
use Rattle.nq_link.specs.Packets.{Datagram}
use Rattle.walk_steps.specs.Says.{SaysPlainly}
use Rattle.nq_world.specs.Shown.{FitsPacket, Seen, Shows, sent_from, to_server}

-- what is seen after the server put datagrams into its outbox and made entries
abbrev pub seen_after_server : Seen → (out : List (Party × List ℕ)) → (more : List Entry) → Seen
seen_after_server seen out more = record {
  clients = seen.clients;
  datagrams = seen.datagrams ++ map (sent_from Party.Server) out;
  entries = seen.entries ++ more;
}

-- what is seen after the client of a host became this one, put datagrams into its outbox and made entries
abbrev pub seen_after_client : Seen → (host : ℕ) → Client → (out : List (Party × List ℕ)) → (more : List Entry) → Seen
seen_after_client seen host c out more = record {
  clients = slice_set seen.clients host c;
  datagrams = seen.datagrams ++ map (sent_from (Party.Client host)) out;
  entries = seen.entries ++ more;
}

-- a step of the server that puts the bytes of its packets into an outbox shows the world after it
abbrev pub ServerStepsAreShown : Type 0
ServerStepsAreShown =
    (w : World) (t : ServerStep) (seen : Seen) (out : List (Party × List ℕ))
    → Shows w seen
    → SaysPlainly t
    → All FitsPacket t.sends
    → out ≡ map sent t.sends
    → Shows (after_server w t) (seen_after_server seen out (reverse t.entries))

-- so does a step of a client, whose entries are those of the step but for the room in them
abbrev pub ClientStepsAreShown : Type 0
ClientStepsAreShown =
    (w : World) (host : ℕ) (t : ClientStep) (seen : Seen) (out : List (Party × List ℕ)) (more : List Entry)
    → Shows w seen
    → All FitsMessage t.sends
    → out ≡ map to_server t.sends
    → map plain more ≡ reverse t.entries
    → Shows (after_client w host t) (seen_after_client seen host t.client out more)

-- the delivery of a datagram of a run that goes to the server is the server's step on its bytes
abbrev pub DeliveriesToTheServer : Type 0
DeliveriesToTheServer =
    (head : Head) (events : List Event) (seen : Seen) (k : ℕ) (d : Datagram)
    → Shows (run head events) seen
    → slice_get seen.datagrams k ≡ Some d
    → d.to ≡ Party.Server
    → step (run head events) (Event.Deliver k)
    ≡ after_server (run head events) (receive (run head events).server (sending_host d.sender) (length seen.datagrams) (datagram_in d.bytes))

-- the delivery of one that goes to a host is the step of its client on its bytes
abbrev pub DeliveriesToClients : Type 0
DeliveriesToClients =
    (head : Head) (events : List Event) (seen : Seen) (k host : ℕ) (d : Datagram) (c : Client)
    → Shows (run head events) seen
    → slice_get seen.datagrams k ≡ Some d
    → d.to ≡ Party.Client host
    → slice_get seen.clients host ≡ Some c
    → step (run head events) (Event.Deliver k) ≡ after_hearing (run head events) host (hears_in c k d.bytes)

-- the bytes that a world shows are those of the protocol, event by event
pub record BytesShowTheRun : Type 0 where
  pub server : ServerStepsAreShown
  pub client : ClientStepsAreShown
  pub to_server : DeliveriesToTheServer
  pub to_clients : DeliveriesToClients
