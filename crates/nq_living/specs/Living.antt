-- A host that lives, as the steps that it makes one after another. Below, `gives`, `takes`, `notes`, `pages` and `stirs` say what those who ask are
-- after they have given a call or none, have taken an answer, were told the entries of a step, have asked for a page of a list or for none, or did
-- something else.
use Rattle.std.specs.Prelude.{◌≡◌, ◌&&◌, ℕ, zero, suc, Bool, true, List, [], Option, Some, None, IsSome, Result, Ok, Err, ⊤, is_none}
use Rattle.nq_base.specs.Entries.{EntryList}
use Rattle.nq_base.specs.declared.Answer.{Answer}
use Rattle.nq_base.specs.declared.Call.{Call}
use Rattle.nq_base.specs.declared.Entry.{Entry}
use Rattle.nq_base.specs.declared.Party.{Party}
use Rattle.nq_base.specs.declared.ending.fault.Fault.{Fault}
use Rattle.nq_calling.specs.Calling.{CallsNow}
use Rattle.nq_client.specs.Counted.{Counted}
use Rattle.nq_clock.specs.Clocks.{ClockTold}
use Rattle.nq_hosts.specs.ClientTurn.{AttendsTurn}
use Rattle.nq_link.specs.Link.{CountsSend, Sends}
use Rattle.nq_link.specs.Links.{LinkTold}
use Rattle.nq_link.specs.declared.Sent.{Sent}
use Rattle.nq_living.specs.declared.host.Host.{Host}
use Rattle.nq_living.specs.declared.living.End.{End}
use Rattle.nq_model.specs.protocol.Client.{Client}

-- a host between two steps, with why no more can be asked of it, if that is so, its clock, its link, and those who ask it
pub record Life (A : Type 0) : Type 0 where
  pub client : Counted
  pub next : ℕ
  pub halt : Option Fault
  pub clock : ClockTold
  pub link : LinkTold
  pub askers : A

-- a host with these
abbrev pub life : {A : Type 0} → Host → ClockTold → LinkTold → A → Life A
life host clock link askers = record { client = host.client; next = host.next; halt = host.halt; clock = clock; link = link; askers = askers }

-- whether a client can be asked for a call: the server knows it, and no call is under way
abbrev pub is_ready : Client → Bool
is_ready client = client.attached && is_none client.call

-- ---- answers

-- the answer that a turn brought to the call under way, if it brought one
abbrev pub brought : Result (Option Answer) Fault → Option Answer
brought (Ok answer) = answer
brought (Err why) = None

-- the answer to a call, where it is there at once; none where it comes later, or the client did not take the call in
abbrev pub final : Answer → Option Answer
final Answer.Pending = None
final Answer.Busy = None
final answer = Some answer

-- why no more can be asked behind a turn, if that is so: memory was wanting, or all that a client counts is used up. Behind a link that failed it can
abbrev pub stopped_by : Result (Option Answer) Fault → Option Fault
stopped_by (Ok answer) = None
stopped_by (Err Fault.Link) = None
stopped_by (Err why) = Some why

-- why no more can be asked behind the answer to a call, if that is so
abbrev pub over_by : Answer → Option Fault
over_by Answer.Memory = Some Fault.Memory
over_by Answer.Spent = Some Fault.Spent
over_by answer = None

-- an answer, if there is one, goes to those who gave the call
abbrev pub Hands : {A : Type 0} → (takes : A → Answer → A → Type 0) → Option Answer → (askers askers' : A) → Type 0
Hands takes None askers askers' = askers' ≡ askers
Hands takes (Some answer) askers askers' = takes askers answer askers'

-- ---- steps

-- a turn, with a journal that is empty at first and that those who ask are told, and its answer goes to them
pub record Turns {A : Type 0} (takes : A → Answer → A → Type 0) (notes : A → List Entry → A → Type 0) (at after : Life A) : Type 0 where
  pub ended : Result (Option Answer) Fault
  pub log : EntryList
  pub silent : log.entries ≡ []
  pub noted : EntryList
  pub turn : AttendsTurn ended at.next after.next at.clock after.clock at.link after.link at.client after.client log noted
  pub told : A
  pub tells : notes at.askers noted.entries told
  pub hands : Hands takes (brought ended) told after.askers
  pub halts : after.halt ≡ stopped_by ended

-- a call was made directly behind a turn that read the clock once, and its answer goes to those who gave it
pub record Makes {A : Type 0} (takes : A → Answer → A → Type 0) (notes : A → List Entry → A → Type 0) (call : Call)
    (at after : Life A) : Type 0 where
  pub answer : Answer
  pub log : EntryList
  pub silent : log.entries ≡ []
  pub noted : EntryList
  pub now : CallsNow call answer at.next after.next at.clock after.clock at.link after.link at.client after.client log noted
  pub told : A
  pub tells : notes at.askers noted.entries told
  pub hands : Hands takes (final answer) told after.askers
  pub halts : after.halt ≡ over_by answer

-- those who ask gave a call while no other one was under way, and it was made
pub record Calls {A : Type 0} (gives : A → Option Call → A → Type 0) (takes : A → Answer → A → Type 0)
    (notes : A → List Entry → A → Type 0) (at after : Life A) : Type 0 where
  pub ready : is_ready at.client.client ≡ true
  pub call : Call
  pub given : A
  pub gave : gives at.askers (Some call) given
  pub makes : Makes takes notes call (record at { askers = given }) after

-- those who ask gave no call, and nothing else changed
abbrev pub GivesNone : {A : Type 0} → (gives : A → Option Call → A → Type 0) → (at after : Life A) → Type 0
GivesNone gives at after = gives at.askers None after.askers × (after ≡ record at { askers = after.askers })

-- those who ask did something of their own, and nothing else changed
abbrev pub Stirs : {A : Type 0} → (stirs : A → A → Type 0) → (at after : Life A) → Type 0
Stirs stirs at after = stirs at.askers after.askers × (after ≡ record at { askers = after.askers })

-- a datagram was sent to the server, or the link refused it
pub record PostsOne (sent : Sent) (bytes : List ℕ) (link link' : LinkTold) : Type 0 where
  pub sends : Sends sent Party.Server bytes link.sent link'.sent
  pub waiting : link'.waiting ≡ link.waiting
  pub receives : link'.receives ≡ link.receives
  pub cause : CountsSend sent link.faults link'.faults

-- the request for a page of a list was sent, if there was one
abbrev pub Posts : (request : Option (List ℕ)) → (link link' : LinkTold) → Type 0
Posts None link link' = link' ≡ link
Posts (Some bytes) link link' = (sent : Sent) × PostsOne sent bytes link link'

-- a page of a list went to those who ask, if one came, and the request that they then had for another one was sent, if they had one
pub record TurnsPage {A : Type 0} (pages : A → Option (List ℕ) → A → Type 0) (link link' : LinkTold) (askers askers' : A) : Type 0 where
  pub request : Option (List ℕ)
  pub asked : pages askers request askers'
  pub posts : Posts request link link'

-- likewise, and nothing else changed
abbrev pub Pages : {A : Type 0} → (pages : A → Option (List ℕ) → A → Type 0) → (at after : Life A) → Type 0
Pages pages at after =
    TurnsPage pages at.link after.link at.askers after.askers × (after ≡ record at { link = after.link; askers = after.askers })

-- one step of a host that lives: a turn, a call, no call, a page of a list, or what those who ask do by themselves
pub data Step (A : Type 0) (gives : A → Option Call → A → Type 0) (takes : A → Answer → A → Type 0) (notes : A → List Entry → A → Type 0)
    (pages : A → Option (List ℕ) → A → Type 0) (stirs : A → A → Type 0) (at after : Life A) : Type 0 where
  turned : Turns takes notes at after → Step A gives takes notes pages stirs at after
  called : Calls gives takes notes at after → Step A gives takes notes pages stirs at after
  idle : GivesNone gives at after → Step A gives takes notes pages stirs at after
  paged : Pages pages at after → Step A gives takes notes pages stirs at after
  stirred : Stirs stirs at after → Step A gives takes notes pages stirs at after

-- so many steps one after another
abbrev pub Lives : {A : Type 0} → (gives : A → Option Call → A → Type 0) → (takes : A → Answer → A → Type 0)
    → (notes : A → List Entry → A → Type 0) → (pages : A → Option (List ℕ) → A → Type 0) → (stirs : A → A → Type 0) → (count : ℕ)
    → (at after : Life A) → Type 0
Lives gives takes notes pages stirs zero at after = after ≡ at
Lives {A = A} gives takes notes pages stirs (suc count) at after =
    (between : Life A) × Lives gives takes notes pages stirs count at between × Step A gives takes notes pages stirs between after

-- some steps one after another
pub record Lived {A : Type 0} (gives : A → Option Call → A → Type 0) (takes : A → Answer → A → Type 0) (notes : A → List Entry → A → Type 0)
    (pages : A → Option (List ℕ) → A → Type 0) (stirs : A → A → Type 0) (at after : Life A) : Type 0 where
  pub count : ℕ
  pub lives : Lives gives takes notes pages stirs count at after

-- a host that ends as halted is one of which no more can be asked, and its steps say why
abbrev pub EndsFor : End → (halt : Option Fault) → Type 0
EndsFor End.Halted halt = IsSome halt
EndsFor other halt = ⊤
