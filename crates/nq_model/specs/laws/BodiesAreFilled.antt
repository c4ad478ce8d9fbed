-- Every body repeats one word, in every run, so that the number in a journal determines all 4096 bytes of a block.
use Rattle.std.specs.Prelude.{◌≡◌, ℕ, List, Some, ⊤}
use Rattle.nq_base.specs.Block.{value_of, filled}
use Rattle.nq_base.specs.declared.Call.{Call}
use Rattle.nq_base.specs.declared.Event.{Event}
use Rattle.nq_base.specs.declared.Push.{Push}
use Rattle.nq_base.specs.declared.Reply.{Reply}
use Rattle.nq_base.specs.declared.Request.{Request}
use Rattle.nq_model.specs.protocol.Client.{Client, Ticket, UnderWay}
use Rattle.nq_model.specs.laws.Journal.{Each}
use Rattle.nq_model.specs.protocol.Message.{Message, call, reply, error}
use Rattle.nq_model.specs.protocol.World.{Head, World, run}

-- a body is filled: it repeats one word, that of its value
abbrev pub IsFilled : (body : List ℕ) → Type 0
IsFilled body = body ≡ filled (value_of body)

-- a call brings a filled body, or none
abbrev pub BringsFilled : Call → Type 0
BringsFilled (Call.Write file block body) = IsFilled body
BringsFilled (Call.Put file block body) = IsFilled body
BringsFilled other = ⊤

-- where an event is a call, it brings a filled body or none; so it is with each line of a schedule's text
abbrev pub BringsFilledBody : Event → Type 0
BringsFilledBody (Event.Call host op) = BringsFilled op
BringsFilledBody other = ⊤

-- ---- the world

-- a request has a filled body, or none
abbrev pub AsksFilled : Request → Type 0
AsksFilled (Request.Write who seq file block first last push body) = IsFilled body
AsksFilled other = ⊤

-- a reply has a filled body, or none
abbrev pub TellsFilled : Reply → Type 0
TellsFilled (Reply.Read inc rev body grant) = IsFilled body
TellsFilled other = ⊤

-- a message has a filled body, or none
abbrev pub HasFilledBody : Message → Type 0
HasFilledBody (call xid r) = AsksFilled r
HasFilledBody (reply xid r) = TellsFilled r
HasFilledBody (error xid e) = ⊤

-- the bodies of a client are filled: of its call and its request under way, of its delayed writes, and of its clean blocks
pub record HasFilledBodies (c : Client) : Type 0 where
  pub called : (u : UnderWay) → c.call ≡ Some u → BringsFilled u.call
  pub asked : (t : Ticket) → c.ticket ≡ Some t → AsksFilled t.request
  pub dirty : Each (λ p. IsFilled p.body) c.dirty
  pub pushed : (p : Push) → c.push ≡ Some p → IsFilled p.body
  pub clean : Each (λ k. IsFilled k.body) c.clean

-- all bodies of a world are filled: of the blocks that the server keeps, of each packet that was ever sent, and of the clients
pub record BodiesAreFilled (w : World) : Type 0 where
  pub kept : Each (λ f. Each IsFilled f.bodies) w.server.kept.files
  pub sent : Each (λ p. HasFilledBody p.message) w.packets
  pub clients : Each HasFilledBodies w.clients

-- after every schedule whose calls bring filled bodies, however often the server crashed and however the clocks ran
abbrev pub BodiesAreFilledInEveryRun : Type 0
BodiesAreFilledInEveryRun =
    (head : Head) (events : List Event) → Each BringsFilledBody events → BodiesAreFilled (run head events)
