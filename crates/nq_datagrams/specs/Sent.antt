-- What is sent: packets as datagrams, and a reply of which the front is written.
use Rattle.std.specs.Prelude.{ℕ, List}
use Rattle.nq_base.specs.declared.Party.{Party}
use Rattle.nq_model.specs.protocol.Message.{Packet}
use Rattle.nq_datagrams.specs.Messages.{FitsMessage, bytes_of}

-- a packet as it is sent: to whom, and the bytes of its message
abbrev pub sent : Packet → Party × List ℕ
sent packet = (packet.to, bytes_of packet.message)

-- the numbers of a packet's message are within their fields
abbrev pub FitsPacket : Packet → Type 0
FitsPacket packet = FitsMessage packet.message

-- the datagram of a reply of which only the results are missing: the number of the call, and for how many bytes of
-- results there is room
pub record Begun : Type 0 where
  pub xid : ℕ
  pub room : ℕ
