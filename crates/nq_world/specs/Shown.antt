-- A world whose packets are bytes, and the world of the protocol that it shows.
use Rattle.std.specs.Prelude.{◌≡◌, ℕ, List, All, map, reverse}
use Rattle.nq_base.specs.Plain.{plain}
use Rattle.nq_base.specs.declared.Entry.{Entry}
use Rattle.nq_base.specs.declared.Party.{Party}
use Rattle.nq_datagrams.specs.Messages.{FitsMessage, bytes_of}
use Rattle.nq_model.specs.protocol.Client.{Client}
use Rattle.nq_model.specs.protocol.Message.{Message, Packet}
use Rattle.nq_model.specs.protocol.World.{World}
use Rattle.nq_link.specs.Packets.{Datagram}

-- a packet as it travels: its sender, its receiver, and the one spelling of its message
abbrev pub datagram : Packet → Datagram
datagram p = record { sender = p.sender; to = p.to; bytes = bytes_of p.message }

-- the numbers of a packet's message are within their fields
abbrev pub FitsPacket : Packet → Type 0
FitsPacket p = FitsMessage p.message

-- what was put into an outbox, as it travels from a party
abbrev pub sent_from : Party → Party × List ℕ → Datagram
sent_from party d = record { sender = party; to = d.0; bytes = d.1 }

-- a message of a client in its outbox
abbrev pub to_server : Message → Party × List ℕ
to_server m = (Party.Server, bytes_of m)

-- what is seen of the clients, the packets and the journal of a world; the oldest packet and the oldest entry come first
pub record Seen : Type 0 where
  pub clients : List Client
  pub datagrams : List Datagram
  pub entries : List Entry

-- it is what a world of the protocol shows
pub record Shows (w : World) (seen : Seen) : Type 0 where
  pub clients : seen.clients ≡ w.clients
  pub datagrams : seen.datagrams ≡ map datagram w.packets
  pub fit : All FitsPacket w.packets
  pub entries : map plain seen.entries ≡ reverse w.journal
