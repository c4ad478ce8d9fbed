-- There is a schedule after which a request is open that was sent twice: the premises of the laws are met.
use Rattle.std.specs.Prelude.{◌≡◌, ℕ, List, ◌∷◌, Some, slice_get}
use Rattle.nq_base.specs.declared.Event.{Event}
use Rattle.nq_base.specs.declared.Reply.{Reply}
use Rattle.nq_base.specs.declared.Request.{Request}
use Rattle.nq_model.specs.laws.Bounds.{KeepsBounds}
use Rattle.nq_model.specs.protocol.Client.{Client, Ticket}
use Rattle.nq_model.specs.protocol.Hear.{inc_of}
use Rattle.nq_model.specs.protocol.Message.{reply}
use Rattle.nq_model.specs.protocol.Server.{to_host}
use Rattle.nq_model.specs.protocol.Skew.{IsWithinSkew}
use Rattle.nq_model.specs.protocol.World.{Head, run}
use Rattle.nq_model.specs.laws.OneRequestPerSequence.{IsOpenRequest}

-- the premises are met, and not in vain: after some schedule within skew a request is open of which two packets were sent;
-- after a restart of its client it is open still; and once the first packet came to the server instead, there is a reply
-- that the request under way can take
pub record IsAskedTwice : Type 0 where
  pub most : ℕ
  pub head : Head
  pub events : List Event
  pub host : ℕ
  pub client : Client
  pub request : Request
  pub seq : ℕ
  pub ticket : Ticket
  pub place : ℕ
  pub answer : Reply
  pub bounds : KeepsBounds most head events
  pub within : IsWithinSkew head.hosts most events
  pub runs : slice_get (run head events).clients host ≡ Some client
  pub first : IsOpenRequest (run head events) host 0 ticket.xid request client.who seq
  pub again : IsOpenRequest (run head events) host 1 ticket.xid request client.who seq
  pub bounds_restarted : KeepsBounds most head (Event.Restart host ∷ events)
  pub within_restarted : IsWithinSkew head.hosts most (Event.Restart host ∷ events)
  pub outlives : IsOpenRequest (run head (Event.Restart host ∷ events)) host 0 ticket.xid request client.who seq
  pub stays : slice_get (run head (Event.Deliver 0 ∷ events)).clients host ≡ Some client
  pub has : client.ticket ≡ Some ticket
  pub told : slice_get (run head (Event.Deliver 0 ∷ events)).packets place ≡ Some (to_host host (reply ticket.xid answer))
  pub inc : inc_of answer ≡ client.who.inc
