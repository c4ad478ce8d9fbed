-- Turns of a server one after another, each with a journal of its own. Below, `content` is what a keeper tells of what it keeps, and `faults` is its
-- count of faults. The `policy` says whether a fault of the link ends the turns, and an `extension` stands beside the server.
use Rattle.std.specs.Prelude.{◌≡◌, ◌<◌, ℕ, zero, suc, [], Bool, Option, Result, Ok, Err}
use Rattle.nq_base.specs.Entries.{EntryList}
use Rattle.nq_base.specs.declared.ending.fault.Fault.{Fault}
use Rattle.nq_serving.specs.Extending.{Extension}
use Rattle.nq_serving.specs.ServerTurn.{ServesTurn}
use Rattle.nq_serving.specs.declared.turning.LinkPolicy.{LinkPolicy}
use Rattle.nq_model.specs.protocol.Kept.{Kept}
use Rattle.nq_clock.specs.Clocks.{ClockTold}
use Rattle.nq_link.specs.Links.{LinkTold}
use Rattle.nq_server.specs.Holding.{Holding}

-- a server between two turns: the number of the next datagram that it makes, its clock and its link; it has no journal
pub record Standing (K : Type 0) : Type 0 where
  pub server : Holding K
  pub next : ℕ
  pub clock : ClockTold
  pub link : LinkTold

-- a server with these between two turns
abbrev pub standing : {K : Type 0} → Holding K → (next : ℕ) → ClockTold → LinkTold → Standing K
standing server next clock link = record { server = server; next = next; clock = clock; link = link }

-- whether turns go on behind one that the link stopped
abbrev pub behind_link : LinkPolicy → Result Unit Fault
behind_link LinkPolicy.Stop = Err Fault.Link
behind_link LinkPolicy.GoOn = Ok tt

-- whether turns go on behind one that ended so, or why not
abbrev pub behind_turn : LinkPolicy → Result Bool Fault → Result Unit Fault
behind_turn policy (Ok moved) = Ok tt
behind_turn policy (Err Fault.Link) = behind_link policy
behind_turn policy (Err Fault.Keep) = Err Fault.Keep
behind_turn policy (Err Fault.Memory) = Err Fault.Memory
behind_turn policy (Err Fault.Spent) = Err Fault.Spent
behind_turn policy (Err Fault.NoAnswer) = Err Fault.NoAnswer

-- one turn, whose journal is empty at first; the turns go on behind it, or end so
pub record TakesTurn {K : Type 0} (content : K → Option Kept) (faults : K → ℕ) (policy : LinkPolicy) (extension : Extension) (ended : Result Unit Fault)
    (at after : Standing K) : Type 0 where
  pub turn : Result Bool Fault
  pub so : ended ≡ behind_turn policy turn
  pub log : EntryList
  pub silent : log.entries ≡ []
  pub entered : EntryList
  pub took : ServesTurn content faults extension turn at.next after.next at.clock after.clock at.link after.link at.server after.server log entered

-- so many turns one after another, behind each of which they go on
abbrev pub Goes : {K : Type 0} → (content : K → Option Kept) → (faults : K → ℕ) → LinkPolicy → Extension → (count : ℕ) → (at after : Standing K) → Type 0
Goes {K = K} content faults policy extension zero at after = after ≡ at
Goes {K = K} content faults policy extension (suc count) at after =
    (middle : Standing K) × Goes content faults policy extension count at middle × TakesTurn content faults policy extension (Ok tt) middle after

-- fewer turns than so many, and one more, which ended them so
pub record StopsEarly {K : Type 0} (content : K → Option Kept) (faults : K → ℕ) (policy : LinkPolicy) (extension : Extension) (turns : ℕ) (why : Fault)
    (at after : Standing K) : Type 0 where
  pub count : ℕ
  pub fewer : count < turns
  pub middle : Standing K
  pub before : Goes content faults policy extension count at middle
  pub last : TakesTurn content faults policy extension (Err why) middle after

-- so many turns one after another, up to the first that ended them
abbrev pub TakesTurns : {K : Type 0} → (content : K → Option Kept) → (faults : K → ℕ) → LinkPolicy → Extension → (turns : ℕ) → Result Unit Fault
    → (at after : Standing K) → Type 0
TakesTurns content faults policy extension turns (Ok done) at after = Goes content faults policy extension turns at after
TakesTurns content faults policy extension turns (Err why) at after = StopsEarly content faults policy extension turns why at after
