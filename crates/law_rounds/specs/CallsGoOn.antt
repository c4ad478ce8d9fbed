-- An open call is never forgotten: its client pauses for a moment, or has a request under way that is soon sent again.
use Rattle.std.specs.Prelude.{◌≡◌, ◌≤◌, ◌<◌, ◌⊎◌, ℕ, ◌+◌, true, false, List, Some, is_some, slice_get}
use Rattle.nq_base.specs.declared.Event.{Event}
use Rattle.nq_base.specs.declared.Request.{Request}
use Rattle.nq_model.specs.protocol.Client.{Client, Ticket, UnderWay}
use Rattle.nq_model.specs.protocol.Profile.{patience}
use Rattle.nq_model.specs.protocol.World.{Head, run}

-- a client asks to be attached
pub record AsksToBeAttached (c : Client) : Type 0 where
  pub ticket : Ticket
  pub under_way : c.ticket ≡ Some ticket
  pub asks : ticket.request ≡ Request.Attach c.who

-- a client that has an open call pauses, or has a request under way. No pause is longer than 2 ticks, and a request under way was sent
-- less than 2 ticks ago, so it is sent again at the second tick. Who is not attached asks to be
pub record GoesOn (c : Client) : Type 0 where
  pub busy : (u : UnderWay) → c.call ≡ Some u → (is_some c.ticket ≡ true) ⊎ (c.now < c.pause)
  pub short : c.pause ≤ c.now + patience
  pub recent : (t : Ticket) → c.ticket ≡ Some t → c.now < t.last + patience
  pub attaching : c.attached ≡ false → AsksToBeAttached c

-- in every run, of any events whatever
abbrev pub CallsGoOn : Type 0
CallsGoOn =
    (head : Head) (events : List Event) (host : ℕ) (c : Client) → slice_get (run head events).clients host ≡ Some c → GoesOn c
