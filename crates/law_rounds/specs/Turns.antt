-- A client has few turns in a calm delivery: whatever it hears costs it one, but for notices that it answers by VACATED alone, or by VACATED
-- and the same request.
use Rattle.std.specs.Prelude.{◌≡◌, ◌≤◌, ◌<◌, ◌⊎◌, ℕ, ◌+◌, true, false, List, [], ◌∷◌, Option, Some, None, slice_get}
use Rattle.nq_base.specs.declared.Event.{Event}
use Rattle.nq_base.specs.declared.Grant.{Grant}
use Rattle.nq_base.specs.declared.Reply.{Reply}
use Rattle.nq_base.specs.declared.Request.{Request}
use Rattle.nq_base.specs.declared.Tag.{Tag}
use Rattle.nq_model.specs.protocol.Client.{Client, ClientStep, Ticket, for_call}
use Rattle.nq_model.specs.protocol.Hear.{hear}
use Rattle.nq_model.specs.protocol.Message.{Message, call, reply}
use Rattle.nq_model.specs.protocol.World.{Head, run}
use Rattle.law_rounds.specs.Efforts.{is_idle, effort}
use Rattle.law_rounds.specs.SendsAgain.{is_cancelled}

-- two for a request under way
abbrev pub asking_turns : Option Ticket → ℕ
asking_turns None = 0
asking_turns (Some ticket) = 2

-- the turns that a client has left: two for each request that its call may need, and for one under way, and three for each delayed write
abbrev pub turns_left : Client → ℕ
turns_left c = effort 2 c + asking_turns c.ticket

-- no reply that grants a lease by which no write can be delayed
abbrev pub IsOfUse : Message → Type 0
IsOfUse m = (xid inc : ℕ) (grant : Option Grant) → m ≡ reply xid (Reply.GetLease inc grant) → is_idle grant ≡ false

-- and so it is wherever a client's request under way is its call's
abbrev pub IsOfUseTo : Client → Message → Type 0
IsOfUseTo c m = (ticket : Ticket) → c.ticket ≡ Some ticket → ticket.job ≡ for_call → IsOfUse m

-- what comes of what a client hears: it has fewer turns left; or it heard a notice that cancels its request, and gave the lease up and sent
-- the request again; or a notice that does not, and gave a lease up, or did nothing. Then it has no more turns left than before
pub data TakesTurn (c : Client) (m : Message) (t : ClientStep) : Type 0 where
  fewer : turns_left t.client < turns_left c → TakesTurn c m t
  again :
      (xid file : ℕ) (tag : Tag) (ticket : Ticket)
      → m ≡ call xid (Request.Evicted c.who file tag)
      → c.ticket ≡ Some ticket
      → is_cancelled file (Some ticket) ≡ true
      → t.sends ≡ call c.xid (Request.Vacated c.who file tag) ∷ call (c.xid + 1) ticket.request ∷ []
      → t.client.ticket ≡ Some (record { xid = c.xid + 1; first = c.now; last = c.now; request = ticket.request; job = for_call })
      → turns_left t.client ≤ turns_left c
      → TakesTurn c m t
  silent :
      (xid file : ℕ) (tag : Tag)
      → m ≡ call xid (Request.Evicted c.who file tag)
      → t.client.ticket ≡ c.ticket
      → is_cancelled file c.ticket ≡ false
      → (t.sends ≡ []) ⊎ (t.sends ≡ call c.xid (Request.Vacated c.who file tag) ∷ [])
      → turns_left t.client ≤ turns_left c
      → TakesTurn c m t

-- in every run, of any events whatever
abbrev pub TurnsFall : Type 0
TurnsFall =
    (head : Head) (events : List Event) (host : ℕ) (c : Client) (k : ℕ) (m : Message) (t : ClientStep)
    → slice_get (run head events).clients host ≡ Some c
    → hear c k m ≡ Some t
    → IsOfUseTo c m
    → TakesTurn c m t
