-- What the replies of a run are to the client to which they come.
use Rattle.std.specs.Prelude.{◌≡◌, ℕ, List, Some, slice_get}
use Rattle.nq_base.specs.declared.Event.{Event}
use Rattle.nq_base.specs.declared.Party.{Party}
use Rattle.nq_model.specs.protocol.Client.{Client}
use Rattle.nq_model.specs.protocol.Hear.{hear}
use Rattle.nq_model.specs.protocol.Message.{Packet}
use Rattle.nq_model.specs.protocol.World.{Head, run}
use Rattle.nq_datagrams.specs.Incoming.{hears_in}
use Rattle.nq_datagrams.specs.Laws.{IsOfTicket}
use Rattle.nq_datagrams.specs.Messages.{FitsMessage, bytes_of}

-- this packet is for this client of a run
pub record IsFor (head : Head) (events : List Event) (number host : ℕ) (p : Packet) (c : Client) : Type 0 where
  pub client : slice_get (run head events).clients host ≡ Some c
  pub packet : slice_get (run head events).packets number ≡ Some p
  pub to : p.to ≡ Party.Client host

-- a reply to its request under way is of the procedure of that request
abbrev pub RepliesAreOfTheirRequest : Type 0
RepliesAreOfTheirRequest =
    (head : Head) (events : List Event) (number host : ℕ) (p : Packet) (c : Client)
    → IsFor head events number host p c
    → IsOfTicket c p.message

-- it makes of the packet's bytes what it makes of its message, whose numbers are within their fields
abbrev pub EachPacketIsHeard : Type 0
EachPacketIsHeard =
    (head : Head) (events : List Event) (number host : ℕ) (p : Packet) (c : Client)
    → IsFor head events number host p c
    → FitsMessage p.message
    → hears_in c number (bytes_of p.message) ≡ hear c number p.message
