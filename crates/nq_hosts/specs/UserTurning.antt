-- Turns of a client, up to the one that reaches what they are taken for.
use Rattle.std.specs.Prelude.{◌≡◌, ◌<◌, ℕ, zero, suc, Bool, true, false, is_none, Option, Result, Ok, Err}
use Rattle.nq_base.specs.declared.Answer.{Answer}
use Rattle.nq_client.specs.Counted.{Counted}
use Rattle.nq_base.specs.declared.ending.fault.Fault.{Fault}
use Rattle.nq_base.specs.Entries.{EntryList}
use Rattle.nq_model.specs.protocol.Client.{Client}
use Rattle.nq_hosts.specs.ClientTurn.{AttendsTurn}
use Rattle.nq_clock.specs.Clocks.{ClockTold}
use Rattle.nq_link.specs.Links.{LinkTold}
use Rattle.nq_hosts.specs.declared.user.aims.Aim.{Aim}
use Rattle.nq_hosts.specs.declared.user.session.Session.{Session}

-- a client between two turns, with its journal, the number that it is told of the next datagram that it is given, its clock and its link
pub record Between : Type 0 where
  pub client : Counted
  pub log : EntryList
  pub next : ℕ
  pub clock : ClockTold
  pub link : LinkTold

-- a client in use, between two turns
abbrev pub between : Session → ClockTold → LinkTold → Between
between session clock link = record { client = session.client; log = session.log; next = session.next; clock = clock; link = link }

-- one turn, which ended so
abbrev pub Attends : Result (Option Answer) Fault → (at after : Between) → Type 0
Attends ended at after =
    AttendsTurn ended at.next after.next at.clock after.clock at.link after.link at.client after.client at.log after.log

-- whether a client is where turns are to bring it: the server knows it, or no call of it is under way
abbrev pub reached : Aim → Client → Bool
reached Aim.Attached client = client.attached
reached Aim.Answered client = is_none client.call

-- one turn that went on, and whether the client then is where turns are to bring it
pub record Turns (aim : Aim) (done : Bool) (at after : Between) : Type 0 where
  pub answer : Option Answer
  pub took : Attends (Ok answer) at after
  pub so : done ≡ reached aim after.client.client

-- one turn that stopped so; none stops for a keeper, or for want of an answer
abbrev pub Stops : Fault → (at after : Between) → Type 0
Stops Fault.Link at after = Attends (Err Fault.Link) at after
Stops Fault.Memory at after = Attends (Err Fault.Memory) at after
Stops Fault.Spent at after = Attends (Err Fault.Spent) at after
Stops Fault.Keep at after = ⊥
Stops Fault.NoAnswer at after = ⊥

-- one turn: it went on, or it stopped so
abbrev pub TakesTurn : Aim → Result Bool Fault → (at after : Between) → Type 0
TakesTurn aim (Ok done) at after = Turns aim done at after
TakesTurn aim (Err why) at after = Stops why at after

-- so many turns one after another, each of which went on, and none of which brought the client where they were to bring it
abbrev pub Goes : Aim → (count : ℕ) → (at after : Between) → Type 0
Goes aim zero at after = after ≡ at
Goes aim (suc count) at after = (between : Between) × Goes aim count at between × Turns aim false between after

-- fewer such turns than so many, and a last one with this outcome
pub record EndsWithin (aim : Aim) (turns : ℕ) (outcome : Result Bool Fault) (at after : Between) : Type 0 where
  pub count : ℕ
  pub fewer : count < turns
  pub between : Between
  pub before : Goes aim count at between
  pub last : TakesTurn aim outcome between after

-- At most so many turns one after another: up to the first that brought the client where they were to bring it, or that stopped.
-- `NoAnswer` says that all of them were taken and none did either.
abbrev pub TakesTurns : Aim → (turns : ℕ) → Result Unit Fault → (at after : Between) → Type 0
TakesTurns aim turns (Ok done) at after = EndsWithin aim turns (Ok true) at after
TakesTurns aim turns (Err Fault.NoAnswer) at after = Goes aim turns at after
TakesTurns aim turns (Err why) at after = EndsWithin aim turns (Err why) at after
