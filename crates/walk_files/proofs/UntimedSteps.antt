-- No step of a client makes an entry that tells a time of the server.
use Rattle.std.proofs.Common.{◌≡◌, ℕ, true, List, [], Some, refl}
use Rattle.nq_base.specs.declared.Call.{Call}
use Rattle.nq_base.specs.declared.Entry.{Entry}
use Rattle.nq_model.specs.protocol.Client.{Client, ClientStep, Ticket}
use Rattle.nq_model.specs.protocol.ClientStep.{client_call, client_tick, restart}
use Rattle.nq_model.specs.protocol.Hear.{hear}
use Rattle.nq_model.specs.protocol.Message.{Message}
use Rattle.walk_steps.proofs.ClientFacts.{fits_job}
use Rattle.walk_steps.proofs.ClientEntries.{AnyCall, AnyLength, OfClient, any-going, any-lent, call-keeps, tick-keeps, hear-keeps, restart-keeps}
use Rattle.walk_steps.proofs.LogMoves.{timed}

abbrev pub AreUntimed : List Entry → Type 0
AreUntimed entries = timed entries ≡ []

untimed : OfClient AnyCall AnyLength AreUntimed
untimed = record {
  answered = λ who q said before plain h. h;
  outside = λ who q op before past goes h. h;
  read = λ who q file block value before h. h;
  delayed = λ who file block number value before h. h;
  lost = λ who file block first last before h. h;
}

pub call-untimed : (c : Client) (op : Call) → AreUntimed (client_call c op).entries
call-untimed c op = (call-keeps AnyCall AnyLength AreUntimed untimed c op refl (any-going c.who c.call) tt (any-lent _ c.leases)).0

pub tick-untimed : (c : Client) (now : ℕ) → AreUntimed (client_tick c now).entries
tick-untimed c now = (tick-keeps AnyCall AnyLength AreUntimed untimed c now refl (any-going c.who c.call) (any-lent _ c.leases)).0

pub hear-untimed : (c : Client) (number : ℕ) (m : Message) (t : ClientStep) → hear c number m ≡ Some t
    → ((ticket : Ticket) → c.ticket ≡ Some ticket → fits_job ticket.job ticket.request ≡ true) → AreUntimed t.entries
hear-untimed c number m t hears fits =
    (hear-keeps AnyCall AnyLength AreUntimed untimed c number m t hears fits refl (any-going c.who c.call) (any-lent _ c.leases)
    (λ xid r ticket file g is asked same inc by. tt) (λ xid r ticket u answer is asked same inc called job named. refl)).0

pub restart-untimed : (c : Client) → AreUntimed (restart c).entries
restart-untimed c = (restart-keeps AnyCall AnyLength AreUntimed untimed c refl).0
