-- A request that wants a lease for a call is of the call that is under way.
use Rattle.std.specs.Prelude.{◌≡◌, ℕ, false, List, Some, slice_get}
use Rattle.nq_base.specs.declared.Call.{Call}
use Rattle.nq_base.specs.declared.Event.{Event}
use Rattle.nq_base.specs.declared.Mode.{Mode}
use Rattle.nq_base.specs.declared.Request.{Request}
use Rattle.nq_base.specs.declared.Want.{Want}
use Rattle.nq_base.specs.declared.Who.{Who}
use Rattle.nq_model.specs.protocol.Client.{Client, Ticket, UnderWay, for_call}
use Rattle.nq_model.specs.protocol.World.{Head, run}

-- a call is a `write` to this file, which is not to go through
pub record IsWriteTo (file : ℕ) (u : UnderWay) : Type 0 where
  pub block : ℕ
  pub body : List ℕ
  pub is : u.call ≡ Call.Write file block body
  pub delayed : u.through ≡ false

-- what a client wants for a call: a lease of this kind, for its term
abbrev pub wanted : Client → Mode → Want
wanted c mode = record { mode = mode; term = c.term }

-- a request of a call: a READ that wants a lease is a `read` of that block, and wants to read; GETLEASE is of a `write` to that file, and
-- wants to write. Sent anew it would be the same request
pub record IsMeant (c : Client) (t : Ticket) (u : UnderWay) : Type 0 where
  pub reads :
      (who : Who) (q file block : ℕ) (want : Want)
      → t.request ≡ Request.Read who q file block (Some want)
      → (u.call ≡ Call.Read file block) × (t.request ≡ Request.Read c.who u.q file block (Some (wanted c Mode.Reading)))
  pub leases :
      (who : Who) (file : ℕ) (want : Want)
      → t.request ≡ Request.GetLease who file want
      → IsWriteTo file u × (t.request ≡ Request.GetLease c.who file (wanted c Mode.Writing))

-- in every run, of any events whatever
abbrev pub RequestsAreMeant : Type 0
RequestsAreMeant =
    (head : Head) (events : List Event) (host : ℕ) (c : Client) (t : Ticket) (u : UnderWay)
    → slice_get (run head events).clients host ≡ Some c
    → c.ticket ≡ Some t
    → t.job ≡ for_call
    → c.call ≡ Some u
    → IsMeant c t u
