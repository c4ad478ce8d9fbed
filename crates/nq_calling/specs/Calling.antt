-- A call that is made behind a turn.
use Rattle.std.specs.Prelude.{◌≡◌, ℕ, [], Option, Some, None, Result, Err}
use Rattle.nq_base.specs.Entries.{EntryList}
use Rattle.nq_base.specs.declared.Answer.{Answer}
use Rattle.nq_base.specs.declared.Call.{Call}
use Rattle.nq_client.specs.Counted.{Counted}
use Rattle.nq_client.specs.Outcome.{Called}
use Rattle.nq_clock.specs.Clocks.{ClockTold}
use Rattle.nq_hosts.specs.ClientTurn.{AttendsTurn}
use Rattle.nq_base.specs.declared.ending.fault.Fault.{Fault}
use Rattle.nq_link.specs.Links.{LinkTold, Posts}
use Rattle.nq_link.specs.declared.Sent.{Sent}
use Rattle.nq_model.specs.protocol.ClientStep.{client_call}
use Rattle.nq_wire.specs.Outbox.{Datagrams}

-- a call was made of a client with an outbox that was empty at first, and what it pushed was sent, up to the first that the link refused
pub record Makes (call : Call) (answer : Answer) (client client' : Counted) (log log' : EntryList) (link link' : LinkTold) : Type 0 where
  pub out : Datagrams
  pub out' : Datagrams
  pub empty : out.datagrams ≡ []
  pub called : Called answer (client_call client.client call) client client' out out' log log'
  pub sent : Sent
  pub posts : Posts sent out'.datagrams link link'

-- nothing changed
pub record Stands (client client' : Counted) (log log' : EntryList) (link link' : LinkTold) : Type 0 where
  pub same_client : client' ≡ client
  pub same_log : log' ≡ log
  pub same_link : link' ≡ link

-- the answer of a call behind a turn that could not take in what it read or heard
abbrev pub refusal_of : Result (Option Answer) Fault → Option Answer
refusal_of (Err Fault.Memory) = Some Answer.Memory
refusal_of (Err Fault.Spent) = Some Answer.Spent
refusal_of other = None

-- a call that has its answer already is not made
abbrev pub MakesUnless : (refusal : Option Answer) → Call → Answer → (client client' : Counted) → (log log' : EntryList) → (link link' : LinkTold) → Type 0
MakesUnless (Some refusal) call answer client client' log log' link link' = (answer ≡ refusal) × Stands client client' log log' link link'
MakesUnless None call answer client client' log log' link link' = Makes call answer client client' log log' link link'

-- a turn was taken, which read the clock exactly once, and then a call was made, unless the turn could not take in what it read or heard
pub record CallsNow (call : Call) (answer : Answer) (next next' : ℕ) (clock clock' : ClockTold) (link link' : LinkTold)
    (client client' : Counted) (log log' : EntryList) : Type 0 where
  pub turn : Result (Option Answer) Fault
  pub between : Counted
  pub noted : EntryList
  pub heard : LinkTold
  pub turns : AttendsTurn turn next next' clock clock' link heard client between log noted
  pub refusal : Option Answer
  pub refuses : refusal ≡ refusal_of turn
  pub makes : MakesUnless refusal call answer between client' noted log' heard link'
