-- A turn of a server, stage by stage: it reads the clock once, ticks, receives once, and sends. Below, `content` is what a keeper tells of what
-- it keeps, and `faults` is its count of faults. An `extension` stands beside the server.
use Rattle.std.specs.Prelude.{◌≡◌, ◌↔◌, ◌||◌, ℕ, Bool, true, false, List, [], Option, Some, None, Result, Ok, Err, is_some, nat_lt, if◌then◌else◌}
use Rattle.nq_base.specs.declared.Party.{Party}
use Rattle.nq_base.specs.declared.ending.fault.Fault.{Fault}
use Rattle.nq_datagrams.specs.Incoming.{datagram_in}
use Rattle.nq_io.specs.Faults.{Rose}
use Rattle.nq_base.specs.Entries.{EntryList}
use Rattle.nq_keeper.specs.Keeping.{Reads}
use Rattle.nq_keeper.specs.declared.KeepFault.{KeepFault}
use Rattle.nq_keeper.specs.declared.KeepFault.TheVariants as keep
use Rattle.nq_link.specs.Link.{Letters}
use Rattle.nq_link.specs.declared.Sent.{Sent}
use Rattle.nq_model.specs.protocol.Kept.{Kept}
use Rattle.nq_model.specs.protocol.Profile.{most_taken_by_server}
use Rattle.nq_model.specs.protocol.Server.{ServerStep}
use Rattle.nq_model.specs.protocol.ServerStep.{receive, tick}
use Rattle.nq_clock.specs.Clocks.{ClockTold, ReadsOnce}
use Rattle.nq_link.specs.Links.{Hears, Letter, LinkTold, Posts, ReceivesOnce, most_bytes}
use Rattle.nq_serving.specs.Extending.{AddsReply, Extension}
use Rattle.nq_serving.specs.declared.node.Node.{Node}
use Rattle.nq_server.specs.Holding.{Holding, IsTaken, IsUntouched}
use Rattle.nq_server.specs.State.{server_of}
use Rattle.nq_server.specs.Stepping.{next_of}
use Rattle.nq_server.specs.declared.Received.{Received}
use Rattle.nq_wire.specs.Outbox.{Datagrams}

-- what a turn gives a server: a tick of its clock, which then shows this time, or a datagram of a host
pub data Given : Type 0 where
  ticks : (now : ℕ) → Given
  datagram : (host : ℕ) (bytes : List ℕ) → Given

-- the step of the protocol that this makes of a kept state
abbrev pub step_on : {K : Type 0} → Given → Node K → Kept → ServerStep
step_on (ticks now) at kept = tick (server_of at.server.beside kept) now
step_on (datagram host bytes) at kept = receive (server_of at.server.beside kept) host (next_of at.out) (datagram_in bytes)

-- whether a turn goes on after its server has taken something so, or why it stops
abbrev pub goes_on : Received → Result Unit Fault
goes_on Received.Fault = Err Fault.Keep
goes_on Received.Memory = Err Fault.Memory
goes_on Received.Spent = Err Fault.Spent
goes_on other = Ok tt

-- the server made the step of what it was given, or refused it
pub record Steps {K : Type 0} (content : K → Option Kept) (faults : K → ℕ) (given : Given) (goes : Result Unit Fault) (at after : Node K) : Type 0 where
  pub how : Received
  pub so : goes ≡ goes_on how
  pub takes : IsTaken (step_on given at) how (content at.server.keeper) (content after.server.keeper) (faults at.server.keeper)
      (faults after.server.keeper) at.server after.server at.out after.out at.log after.log
  pub spent : (how ≡ Received.Spent) ↔ (at.server.taken ≡ most_taken_by_server)

-- whether a turn goes on after an extension has answered so, or why it stops
abbrev pub answered : Result Unit KeepFault → Result Unit Fault
answered (Ok done) = Ok tt
answered (Err keep.Failed) = Err Fault.Keep
answered (Err keep.Memory) = Err Fault.Memory

-- an extension answered a datagram of a host, or could not: nothing is changed but that its reply is to be sent
pub record Answers {K : Type 0} (content : K → Option Kept) (faults : K → ℕ) (extension : Extension) (host : ℕ) (bytes : List ℕ)
    (goes : Result Unit Fault) (at after : Node K) : Type 0 where
  pub made : Result Unit KeepFault
  pub so : goes ≡ answered made
  pub first : after.out.first ≡ at.out.first
  pub replies : AddsReply made (content at.server.keeper) (λ kept. extension.replies (server_of at.server.beside kept) host bytes) host
      at.out.datagrams after.out.datagrams
  pub untouched : IsUntouched at.server after.server
  pub reads : Reads made (content at.server.keeper) (content after.server.keeper) (faults at.server.keeper) (faults after.server.keeper)
  pub silent : after.log ≡ at.log

-- the server took in what it was given, if it was given anything
abbrev pub Takes : {K : Type 0} → (content : K → Option Kept) → (faults : K → ℕ) → Option Given → Result Unit Fault → (at after : Node K) → Type 0
Takes content faults None goes at after = (goes ≡ Ok tt) × (after ≡ at)
Takes content faults (Some given) goes at after = Steps content faults given goes at after

-- ---- the stages

-- the tick that is due when the clock shows this time: one where it is above the server's time, else none
abbrev pub tick_due : (time reading : ℕ) → Option Given
tick_due time reading = if nat_lt time reading then Some (ticks reading) else None

-- what the server is given of a host's datagram: nothing of one that is the extension's own
abbrev pub given_as : (own : Bool) → (host : ℕ) → (bytes : List ℕ) → Option Given
given_as true host bytes = None
given_as false host bytes = Some (datagram host bytes)

-- what it is given of a datagram that came: that of a host, and none that the server itself sent
abbrev pub given_by : Extension → Letter → Option Given
given_by extension (Party.Server, bytes) = None
given_by extension (Party.Client host, bytes) = given_as (extension.owns bytes) host bytes

-- likewise, if one came
abbrev pub given_of : Extension → Option Letter → Option Given
given_of extension None = None
given_of extension (Some letter) = given_by extension letter

-- a host's datagram was answered by the extension where it is its own; else the server took it in, or refused it
abbrev pub TakesOf : {K : Type 0} → (content : K → Option Kept) → (faults : K → ℕ) → Extension → (own : Bool) → (host : ℕ) → (bytes : List ℕ)
    → Result Unit Fault → (at after : Node K) → Type 0
TakesOf content faults extension true host bytes goes at after = Answers content faults extension host bytes goes at after
TakesOf content faults extension false host bytes goes at after = Takes content faults (Some (datagram host bytes)) goes at after

-- so was a datagram that came; one that the server itself sent is nothing to both
abbrev pub TakesLetter : {K : Type 0} → (content : K → Option Kept) → (faults : K → ℕ) → Extension → Letter → Result Unit Fault → (at after : Node K)
    → Type 0
TakesLetter content faults extension (Party.Server, bytes) goes at after = Takes content faults None goes at after
TakesLetter content faults extension (Party.Client host, bytes) goes at after =
    TakesOf content faults extension (extension.owns bytes) host bytes goes at after

-- likewise, if one came
abbrev pub TakesCame : {K : Type 0} → (content : K → Option Kept) → (faults : K → ℕ) → Extension → Option Letter → Result Unit Fault
    → (at after : Node K) → Type 0
TakesCame content faults extension None goes at after = Takes content faults None goes at after
TakesCame content faults extension (Some letter) goes at after = TakesLetter content faults extension letter goes at after

-- one receive was asked for and gave a datagram or none, and this was taken in, answered or refused
pub record TakesFrom {K : Type 0} (content : K → Option Kept) (faults : K → ℕ) (extension : Extension) (came : Option Letter) (goes : Result Unit Fault)
    (link link' : LinkTold) (at after : Node K) : Type 0 where
  pub hears : Hears most_bytes came link.waiting link'.waiting
  pub sent : link'.sent ≡ link.sent
  pub receives : ReceivesOnce link link'
  pub count : link'.faults ≡ link.faults
  pub takes : TakesCame content faults extension came goes at after

-- one receive failed
pub record Misses {K : Type 0} (link link' : LinkTold) (at after : Node K) : Type 0 where
  pub waiting : link'.waiting ≡ link.waiting
  pub sent : link'.sent ≡ link.sent
  pub receives : ReceivesOnce link link'
  pub count : Rose link.faults link'.faults
  pub same : after ≡ at

-- the stage that receives, by whether a datagram came or why the turn stops
abbrev pub Receives : {K : Type 0} → (content : K → Option Kept) → (faults : K → ℕ) → Extension → Result Bool Fault → (link link' : LinkTold)
    → (at after : Node K) → Type 0
Receives content faults extension (Ok some) link link' at after =
    (came : Option Letter) × (some ≡ is_some came) × TakesFrom content faults extension came (Ok tt) link link' at after
Receives content faults extension (Err Fault.Link) link link' at after = Misses link link' at after
Receives content faults extension (Err why) link link' at after =
    (came : Option Letter) × TakesFrom content faults extension came (Err why) link link' at after

-- what the stage that receives answers where a datagram came and was taken so: one came, or why the turn stops
abbrev pub taken : Result Unit Fault → Result Bool Fault
taken (Ok done) = Ok true
taken (Err why) = Err why

-- the stage that sends: all of these datagrams went over the link, and the turn ends with what moved it; or the link failed
abbrev pub SendsOut : Letters → (moved : Bool) → (ended : Result Bool Fault) → (link link' : LinkTold) → Type 0
SendsOut letters moved (Ok so) link link' = (so ≡ moved) × Posts Sent.All letters link link'
SendsOut letters moved (Err Fault.Link) link link' = Posts Sent.Failed letters link link'
SendsOut letters moved (Err other) link link' = ⊥

-- after the receive: the turn stops, or it sends all that the server put into the outbox
abbrev pub Sends : {K : Type 0} → (received ended : Result Bool Fault) → (ticked : Bool) → (link link' : LinkTold) → (after : Node K) → Type 0
Sends (Err why) ended ticked link link' after = (ended ≡ Err why) × (link' ≡ link)
Sends (Ok came) ended ticked link link' after = SendsOut after.out.datagrams (ticked || came) ended link link'

-- after the tick: the turn stops, or it receives and sends
abbrev pub GoesOn : {K : Type 0} → (content : K → Option Kept) → (faults : K → ℕ) → Extension → (goes : Result Unit Fault) → (ended : Result Bool Fault)
    → (ticked : Bool) → (link link' : LinkTold) → (at after : Node K) → Type 0
GoesOn content faults extension (Err why) ended ticked link link' at after = (ended ≡ Err why) × (link' ≡ link) × (after ≡ at)
GoesOn content faults extension (Ok done) ended ticked link link' at after =
    (received : Result Bool Fault) × (between : LinkTold)
    × Receives content faults extension received link between at after
    × Sends received ended ticked between link' after

-- The stages of a turn in their order. The clock is read exactly once. Exactly one receive is asked for where the tick did not stop the
-- turn, and none where it did. The turn ended with whether the clock rose or a datagram came, or with why it stopped
pub record Stages {K : Type 0} (content : K → Option Kept) (faults : K → ℕ) (extension : Extension) (ended : Result Bool Fault) (clock clock' : ClockTold)
    (link link' : LinkTold) (at after : Node K) : Type 0 where
  pub reading : ℕ
  pub read : ReadsOnce reading clock clock'
  pub goes : Result Unit Fault
  pub between : Node K
  pub ticks : Takes content faults (tick_due at.server.beside.time reading) goes at between
  pub rest : GoesOn content faults extension goes ended (nat_lt at.server.beside.time reading) link link' between after

-- The count of the keeper's faults rises where it stopped for the keeper, and stays otherwise. For want of an answer no server stops
abbrev pub CountsKeep : {X : Type 0} → Result X Fault → (before now : ℕ) → Type 0
CountsKeep (Ok done) before now = now ≡ before
CountsKeep (Err Fault.Link) before now = now ≡ before
CountsKeep (Err Fault.Keep) before now = Rose before now
CountsKeep (Err Fault.Memory) before now = now ≡ before
CountsKeep (Err Fault.Spent) before now = now ≡ before
CountsKeep (Err Fault.NoAnswer) before now = ⊥

-- the count of the link's faults rises where it stopped for the link, and stays otherwise
abbrev pub CountsLink : {X : Type 0} → Result X Fault → (before now : ℕ) → Type 0
CountsLink (Err Fault.Link) before now = Rose before now
CountsLink other before now = now ≡ before

-- A turn that ended so: with whether the clock rose or a datagram came, or with why it stopped. It is its stages, with an outbox that is empty at
-- first and whose datagrams are numbered from `next` on
pub record ServesTurn {K : Type 0} (content : K → Option Kept) (faults : K → ℕ) (extension : Extension) (ended : Result Bool Fault) (next next' : ℕ)
    (clock clock' : ClockTold) (link link' : LinkTold) (server server' : Holding K) (log log' : EntryList) : Type 0 where
  pub out : Datagrams
  pub out' : Datagrams
  pub first : out.first ≡ next
  pub empty : out.datagrams ≡ []
  pub last : next' ≡ next_of out'
  pub stages : Stages content faults extension ended clock clock' link link' (record { server = server; out = out; log = log })
      (record { server = server'; out = out'; log = log' })
