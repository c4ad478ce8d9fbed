-- A turn of a client, stage by stage: it reads the clock once, ticks, receives once, and sends.
use Rattle.std.specs.Prelude.{◌≡◌, ◌↔◌, ◌+◌, ℕ, List, [], Option, Some, None, Result, Ok, Err, min, nat_lt, if◌then◌else◌}
use Rattle.nq_base.specs.declared.Answer.{Answer}
use Rattle.nq_base.specs.declared.Party.{Party}
use Rattle.nq_base.specs.declared.ending.fault.Fault.{Fault}
use Rattle.nq_client.specs.Counted.{Counted}
use Rattle.nq_client.specs.Outcome.{Heeded, Received}
use Rattle.nq_client.specs.declared.Reaction.{Reaction}
use Rattle.nq_datagrams.specs.Incoming.{hears_in}
use Rattle.nq_io.specs.Faults.{Rose}
use Rattle.nq_base.specs.Entries.{EntryList}
use Rattle.nq_link.specs.Link.{Letters}
use Rattle.nq_link.specs.declared.Sent.{Sent}
use Rattle.nq_model.specs.protocol.ClientStep.{client_tick}
use Rattle.nq_model.specs.protocol.Profile.{most_taken_by_client}
use Rattle.nq_clock.specs.Clocks.{ClockTold, ReadsOnce}
use Rattle.nq_link.specs.Links.{Hears, Letter, LinkTold, Posts, ReceivesOnce, most_bytes}
use Rattle.nq_wire.specs.Outbox.{Datagrams}

-- a client with the outbox and the journal that it is lent, at a moment of a turn, and the number that it is told of the next
-- datagram that it is given
pub record Moment : Type 0 where
  pub client : Counted
  pub out : Datagrams
  pub log : EntryList
  pub next : ℕ

-- what a turn gives a client: a tick of its clock, which then shows this time, or a datagram of the server
pub data Given : Type 0 where
  ticks : (now : ℕ) → Given
  datagram : (bytes : List ℕ) → Given

-- what the client does with it, by its answer: it makes the step of the protocol, or refuses it
abbrev pub Does : Given → Reaction → (at after : Moment) → Type 0
Does (ticks now) how at after = Heeded how (client_tick at.client.client now) at.client after.client at.out after.out at.log after.log
Does (datagram bytes) how at after = Received how (hears_in at.client.client at.next bytes) at.client after.client at.out after.out at.log after.log

-- the answer that a turn brings where the client has taken something so, or why the turn stops
abbrev pub goes_on : Reaction → Result (Option Answer) Fault
goes_on (Reaction.Answered answer) = Ok (Some answer)
goes_on Reaction.Memory = Err Fault.Memory
goes_on Reaction.Spent = Err Fault.Spent
goes_on other = Ok None

-- the number that the client is told of the next datagram: one more where a datagram was taken in. It stops at the type's end
abbrev pub next_after : Given → Result (Option Answer) Fault → ℕ → ℕ
next_after (datagram bytes) (Ok answer) next = min (next + 1) 18446744073709551615
next_after other goes next = next

-- the client took in what it was given, or refused it
pub record Steps (given : Given) (goes : Result (Option Answer) Fault) (at after : Moment) : Type 0 where
  pub how : Reaction
  pub so : goes ≡ goes_on how
  pub does : Does given how at after
  pub next : after.next ≡ next_after given goes at.next
  pub spent : (how ≡ Reaction.Spent) ↔ (at.client.taken ≡ most_taken_by_client)

-- likewise, if it was given anything
abbrev pub Takes : Option Given → Result (Option Answer) Fault → (at after : Moment) → Type 0
Takes None goes at after = (goes ≡ Ok None) × (after ≡ at)
Takes (Some given) goes at after = Steps given goes at after

-- ---- the stages

-- the tick that is due when the clock shows this time: one where it is above the client's time, else none
abbrev pub tick_due : (time reading : ℕ) → Option Given
tick_due time reading = if nat_lt time reading then Some (ticks reading) else None

-- what is given of a datagram that came: that of the server, and none that another party sent
abbrev pub given_by : Letter → Option Given
given_by (Party.Server, bytes) = Some (datagram bytes)
given_by (Party.Client host, bytes) = None

-- likewise, if one came
abbrev pub given_of : Option Letter → Option Given
given_of None = None
given_of (Some letter) = given_by letter

-- one receive was asked for and gave a datagram or none, and the client took it in, or refused it
pub record TakesFrom (came : Option Letter) (goes : Result (Option Answer) Fault) (link link' : LinkTold) (at after : Moment) : Type 0 where
  pub hears : Hears most_bytes came link.waiting link'.waiting
  pub sent : link'.sent ≡ link.sent
  pub receives : ReceivesOnce link link'
  pub count : link'.faults ≡ link.faults
  pub takes : Takes (given_of came) goes at after

-- one receive failed
pub record Misses (link link' : LinkTold) (at after : Moment) : Type 0 where
  pub waiting : link'.waiting ≡ link.waiting
  pub sent : link'.sent ≡ link.sent
  pub receives : ReceivesOnce link link'
  pub count : Rose link.faults link'.faults
  pub same : after ≡ at

-- the stage that receives, by the answer that it brings or why the turn stops
abbrev pub Receives : Result (Option Answer) Fault → (link link' : LinkTold) → (at after : Moment) → Type 0
Receives (Ok answer) link link' at after = (came : Option Letter) × TakesFrom came (Ok answer) link link' at after
Receives (Err Fault.Link) link link' at after = Misses link link' at after
Receives (Err why) link link' at after = (came : Option Letter) × TakesFrom came (Err why) link link' at after

-- the first of two answers; a client has at most one call under way, so that no second one can come
abbrev pub first_of : (one other : Option Answer) → Option Answer
first_of None other = other
first_of (Some answer) other = Some answer

-- the stage that sends: all of these datagrams went over the link, and the turn ends with this answer; or the link failed
abbrev pub SendsOut : Letters → (answer : Option Answer) → (ended : Result (Option Answer) Fault) → (link link' : LinkTold) → Type 0
SendsOut letters answer (Ok said) link link' = (said ≡ answer) × Posts Sent.All letters link link'
SendsOut letters answer (Err Fault.Link) link link' = Posts Sent.Failed letters link link'
SendsOut letters answer (Err other) link link' = ⊥

-- after the receive: the turn stops, or it sends all that the client put into the outbox
abbrev pub Sends : (received ended : Result (Option Answer) Fault) → (ticked : Option Answer) → (link link' : LinkTold) → (after : Moment) → Type 0
Sends (Err why) ended ticked link link' after = (ended ≡ Err why) × (link' ≡ link)
Sends (Ok came) ended ticked link link' after = SendsOut after.out.datagrams (first_of ticked came) ended link link'

-- after the tick: the turn stops, or it receives and sends
abbrev pub GoesOn : (goes ended : Result (Option Answer) Fault) → (link link' : LinkTold) → (at after : Moment) → Type 0
GoesOn (Err why) ended link link' at after = (ended ≡ Err why) × (link' ≡ link) × (after ≡ at)
GoesOn (Ok ticked) ended link link' at after =
    (received : Result (Option Answer) Fault) × (between : LinkTold)
    × Receives received link between at after
    × Sends received ended ticked between link' after

-- The stages of a turn in their order. The clock is read exactly once. Exactly one receive is asked for where the tick did not stop the
-- turn, and none where it did. The turn ended with the answer that it brought, if any, or with why it stopped
pub record Stages (ended : Result (Option Answer) Fault) (clock clock' : ClockTold) (link link' : LinkTold) (at after : Moment) : Type 0 where
  pub reading : ℕ
  pub read : ReadsOnce reading clock clock'
  pub goes : Result (Option Answer) Fault
  pub between : Moment
  pub ticks : Takes (tick_due at.client.client.now reading) goes at between
  pub rest : GoesOn goes ended link link' between after

-- The count of the link's faults rises where it stopped for the link, and stays otherwise. A client never stops for a keeper, nor a turn of it for want of
-- an answer
abbrev pub CountsLink : {X : Type 0} → Result X Fault → (before now : ℕ) → Type 0
CountsLink (Ok done) before now = now ≡ before
CountsLink (Err Fault.Link) before now = Rose before now
CountsLink (Err Fault.Keep) before now = ⊥
CountsLink (Err Fault.Memory) before now = now ≡ before
CountsLink (Err Fault.Spent) before now = now ≡ before
CountsLink (Err Fault.NoAnswer) before now = ⊥

-- A turn that ended so: with what answers the call under way, if anything does, or with why it stopped. It is its stages, with an outbox that is empty
-- at first
pub record AttendsTurn (ended : Result (Option Answer) Fault) (next next' : ℕ) (clock clock' : ClockTold) (link link' : LinkTold)
    (client client' : Counted) (log log' : EntryList) : Type 0 where
  pub out : Datagrams
  pub out' : Datagrams
  pub empty : out.datagrams ≡ []
  pub stages : Stages ended clock clock' link link' (record { client = client; out = out; log = log; next = next })
      (record { client = client'; out = out'; log = log'; next = next' })
