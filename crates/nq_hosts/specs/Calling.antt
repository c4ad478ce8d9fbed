-- Running one call to its answer: it is made, what it pushes is sent, and turns are taken until it has its answer.
use Rattle.std.specs.Prelude.{◌≡◌, ◌↔◌, ℕ, Bool, true, false, [], Option, Some, None, Result, Ok, Err}
use Rattle.nq_base.specs.declared.Answer.{Answer}
use Rattle.nq_base.specs.declared.Call.{Call}
use Rattle.nq_client.specs.Counted.{Counted}
use Rattle.nq_client.specs.Outcome.{Called}
use Rattle.nq_base.specs.declared.ending.fault.Fault.{Fault}
use Rattle.nq_base.specs.Entries.{EntryList}
use Rattle.nq_link.specs.Link.{Letters}
use Rattle.nq_link.specs.declared.Sent.{Sent}
use Rattle.nq_model.specs.protocol.ClientStep.{client_call}
use Rattle.nq_model.specs.protocol.Profile.{most_taken_by_client}
use Rattle.nq_link.specs.Links.{LinkTold, Posts}
use Rattle.nq_hosts.specs.UserTurning.{Between, TakesTurns, reached}
use Rattle.nq_hosts.specs.declared.user.aims.Aim.{Aim}
use Rattle.nq_wire.specs.Outbox.{Datagrams}

-- all of these datagrams went over the link, or it failed behind a front of them
abbrev pub SendsOut : Letters → Result Unit Fault → (link link' : LinkTold) → Type 0
SendsOut letters (Ok done) link link' = Posts Sent.All letters link link'
SendsOut letters (Err Fault.Link) link link' = Posts Sent.Failed letters link link'
SendsOut letters (Err other) link link' = ⊥

-- why a call was refused that has this answer, if it was
abbrev pub refusal_of : Answer → Option Fault
refusal_of Answer.Memory = Some Fault.Memory
refusal_of Answer.Spent = Some Fault.Spent
refusal_of other = None

-- what comes after a call: nothing where it was refused, else all that it pushed is sent
abbrev pub FollowsUp : (refusal : Option Fault) → Letters → Result Unit Fault → (link link' : LinkTold) → Type 0
FollowsUp (Some why) letters result link link' = (result ≡ Err why) × (link' ≡ link)
FollowsUp None letters result link link' = SendsOut letters result link link'

-- a call was made of a client with an outbox that was empty at first, and what it pushed was sent
pub record Makes (call : Call) (result : Result Unit Fault) (client client' : Counted) (log log' : EntryList) (link link' : LinkTold) : Type 0 where
  pub out : Datagrams
  pub out' : Datagrams
  pub empty : out.datagrams ≡ []
  pub answer : Answer
  pub called : Called answer (client_call client.client call) client client' out out' log log'
  pub spent : (answer ≡ Answer.Spent) ↔ (client.taken ≡ most_taken_by_client)
  pub sends : FollowsUp (refusal_of answer) out'.datagrams result link link'

-- after a call was made: it had its answer at once, or turns are taken
abbrev pub Waits : (turns : ℕ) → (answered : Bool) → Result Unit Fault → (at after : Between) → Type 0
Waits turns true result at after = (result ≡ Ok tt) × (after ≡ at)
Waits turns false result at after = TakesTurns Aim.Answered turns result at after

-- likewise, or it was not made, or not sent
abbrev pub GoesOn : (turns : ℕ) → (made result : Result Unit Fault) → (at after : Between) → Type 0
GoesOn turns (Err why) result at after = (result ≡ Err why) × (after ≡ at)
GoesOn turns (Ok done) result at after = Waits turns (reached Aim.Answered at.client.client) result at after

-- a call was made, and ended so
pub record RunsCall (turns : ℕ) (call : Call) (result : Result Unit Fault) (at after : Between) : Type 0 where
  pub client : Counted
  pub log : EntryList
  pub link : LinkTold
  pub made : Result Unit Fault
  pub makes : Makes call made at.client client at.log log at.link link
  pub rest : GoesOn turns made result (record { client = client; log = log; next = at.next; clock = at.clock; link = link }) after
