-- What is said of the bytes of messages, and of those of datagrams.
use Rattle.std.specs.Prelude.{◌≡◌, ℕ, Some}
use Rattle.nq_model.specs.protocol.Client.{Client, Ticket}
use Rattle.nq_model.specs.protocol.Hear.{hear, inc_of}
use Rattle.nq_model.specs.protocol.Message.{Message, call, reply, error, datagram_of}
use Rattle.nq_wire.specs.Reply.{Answers}
use Rattle.nq_wire.specs.Request.{procedure_of}
use Rattle.nq_datagrams.specs.Incoming.{datagram_in, hears_in}
use Rattle.nq_datagrams.specs.Messages.{FitsMessage, bytes_of}

-- the server reads in the bytes of a message what the message is
abbrev pub ServerReadsMessages : Type 0
ServerReadsMessages = (m : Message) → FitsMessage m → datagram_in (bytes_of m) ≡ datagram_of m

-- a reply to the request under way, and to this incarnation, is one to its procedure
abbrev pub IsOfTicket : Client → Message → Type 0
IsOfTicket c (reply xid r) =
    (t : Ticket) → c.ticket ≡ Some t → xid ≡ t.xid → inc_of r ≡ c.who.inc → Answers r (procedure_of t.request)
IsOfTicket c (call xid r) = Unit {0}
IsOfTicket c (error xid e) = Unit {0}

-- a client makes of the bytes of a message what it makes of the message
abbrev pub ClientReadsMessages : Type 0
ClientReadsMessages =
    (c : Client) (number : ℕ) (m : Message)
    → FitsMessage m
    → IsOfTicket c m
    → hears_in c number (bytes_of m) ≡ hear c number m
