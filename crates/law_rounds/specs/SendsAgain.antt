-- Whom a notice makes cancel his call's request gives the lease up and sends the same request again, right behind.
use Rattle.std.specs.Prelude.{◌≡◌, ◌<◌, ℕ, ◌+◌, Bool, true, false, ◌&&◌, List, [], ◌∷◌, Option, Some, None, slice_get}
use Rattle.nq_base.specs.declared.Event.{Event}
use Rattle.nq_base.specs.declared.Push.{Push}
use Rattle.nq_base.specs.declared.Request.{Request}
use Rattle.nq_base.specs.declared.Tag.{Tag}
use Rattle.nq_model.specs.protocol.Client.{Client, ClientStep, Ticket, for_call}
use Rattle.nq_model.specs.protocol.Hear.{hear, wants_of}
use Rattle.nq_model.specs.protocol.Message.{call}
use Rattle.nq_model.specs.protocol.Settle.{is_for_call}
use Rattle.nq_model.specs.protocol.World.{Head, run}

-- whether a notice for a file cancels the request under way, and it is the call's
abbrev pub is_cancelled : (file : ℕ) → Option Ticket → Bool
is_cancelled file None = false
is_cancelled file (Some ticket) = is_for_call ticket.job && wants_of file ticket.request

-- what a client does whose request a notice cancels: it gives the lease up and sends the same request again, with the next two numbers; or
-- it sends delayed writes first; or it pauses
pub data SendsAgain (c : Client) (ticket : Ticket) (file : ℕ) (tag : Tag) (t : ClientStep) : Type 0 where
  the_same :
      t.sends ≡ call c.xid (Request.Vacated c.who file tag) ∷ call (c.xid + 1) ticket.request ∷ []
      → t.client.ticket ≡ Some (record { xid = c.xid + 1; first = c.now; last = c.now; request = ticket.request; job = for_call })
      → SendsAgain c ticket file tag t
  delayed_writes : (p : Push) → c.push ≡ None → t.client.push ≡ Some p → SendsAgain c ticket file tag t
  nothing_now : c.now < c.pause → SendsAgain c ticket file tag t

-- in every run, of any events whatever: so it is with each notice that cancels the request of a call
abbrev pub NoticesAreAnsweredAtOnce : Type 0
NoticesAreAnsweredAtOnce =
    (head : Head) (events : List Event) (host : ℕ) (c : Client) (ticket : Ticket) (k xid file : ℕ) (tag : Tag) (t : ClientStep)
    → slice_get (run head events).clients host ≡ Some c
    → c.ticket ≡ Some ticket
    → is_cancelled file (Some ticket) ≡ true
    → hear c k (call xid (Request.Evicted c.who file tag)) ≡ Some t
    → SendsAgain c ticket file tag t
