-- What a stop within a turn of a server leaves of what is kept. Below, `content` is what a keeper tells of what it keeps, `faults` is its count
-- of faults, `follows` says that a keeper is another one after some of its calls, and `leaves` what a stop between two moments of it may leave.
use Rattle.std.specs.Option.{ForSome}
use Rattle.std.specs.Prelude.{◌≡◌, ◌⊎◌, ℕ, Bool, Option, Some, None, Result, Ok, Err, nat_lt}
use Rattle.nq_base.specs.Entries.{EntryList}
use Rattle.nq_base.specs.declared.ending.fault.Fault.{Fault}
use Rattle.nq_keeper.specs.Keeping.{LeavesOne}
use Rattle.nq_model.specs.protocol.Kept.{Kept}
use Rattle.nq_clock.specs.Clocks.{ClockTold}
use Rattle.nq_link.specs.Links.{Letter, LinkTold}
use Rattle.nq_serving.specs.Extending.{Extension}
use Rattle.nq_serving.specs.ServerTurn.{Given, GoesOn, Receives, ServesTurn, Stages, given_of, step_on, tick_due}
use Rattle.nq_serving.specs.declared.node.Node.{Node}
use Rattle.nq_server.specs.Holding.{Holding}

-- this is found as the step of what a server was given makes it of this kept state
abbrev pub IsMade : {K : Type 0} → Given → (at : Node K) → (kept : Kept) → (found : Option Kept) → Type 0
IsMade given at kept found = found ≡ Some (step_on given at kept).server.kept

-- this is found as before a server took in what it was given, or as its step makes it, whether the step was done or failed
abbrev pub IsLeftAt : {K : Type 0} → (content : K → Option Kept) → Option Given → (at : Node K) → (found : Option Kept) → Type 0
IsLeftAt content None at found = found ≡ content at.server.keeper
IsLeftAt content (Some given) at found =
    (found ≡ content at.server.keeper) ⊎ ((kept : Kept) × (content at.server.keeper ≡ Some kept) × IsMade given at kept found)

-- the datagram that the stage that receives took in, if one came
abbrev pub came_in : {K : Type 0} → (content : K → Option Kept) → (faults : K → ℕ) → (extension : Extension) → (received : Result Bool Fault) →
    (link link' : LinkTold)
    → (at after : Node K) → Receives content faults extension received link link' at after → Option Letter
came_in content faults extension (Ok some) link link' at after receives = receives.0
came_in content faults extension (Err Fault.Link) link link' at after receives = None
came_in content faults extension (Err Fault.Keep) link link' at after receives = receives.0
came_in content faults extension (Err Fault.Memory) link link' at after receives = receives.0
came_in content faults extension (Err Fault.Spent) link link' at after receives = receives.0
came_in content faults extension (Err Fault.NoAnswer) link link' at after receives = receives.0

-- this is found as before the datagram that came, or as after it
abbrev pub IsLeftReceiving : {K : Type 0} → (content : K → Option Kept) → (faults : K → ℕ) → (extension : Extension) → (received : Result Bool Fault) →
    (link link' : LinkTold)
    → (at after : Node K) → Receives content faults extension received link link' at after → (found : Option Kept) → Type 0
IsLeftReceiving content faults extension received link link' at after receives found =
    IsLeftAt content (given_of extension (came_in content faults extension received link link' at after receives)) at found

-- the same behind the tick; nothing is taken in where the tick stopped the turn
abbrev pub IsLeftBehind : {K : Type 0} → (content : K → Option Kept) → (faults : K → ℕ) → (extension : Extension) → (goes : Result Unit Fault) →
    (ended : Result Bool Fault)
    → (ticked : Bool) → (link link' : LinkTold) → (at after : Node K) → GoesOn content faults extension goes ended ticked link link' at after
    → (found : Option Kept) → Type 0
IsLeftBehind content faults extension (Err why) ended ticked link link' at after rest found = ⊥
IsLeftBehind content faults extension (Ok done) ended ticked link link' at after rest found =
    IsLeftReceiving content faults extension rest.0 link rest.1 at after rest.2 found

-- this is found as at a moment of these stages: before or after the tick, if one was due, or before or after the datagram, if one came
abbrev pub IsLeftInStages : {K : Type 0} → (content : K → Option Kept) → (faults : K → ℕ) → (extension : Extension) → (ended : Result Bool Fault) →
    (clock clock' : ClockTold)
    → (link link' : LinkTold) → (at after : Node K) → Stages content faults extension ended clock clock' link link' at after → (found : Option Kept) → Type 0
IsLeftInStages content faults extension ended clock clock' link link' at after stages found =
    IsLeftAt content (tick_due at.server.beside.time stages.reading) at found
    ⊎ IsLeftBehind content faults extension stages.goes ended (nat_lt at.server.beside.time stages.reading) link link' stages.between after stages.rest found

-- the same of a turn
abbrev pub IsLeftInTurn : {K : Type 0} → (content : K → Option Kept) → (faults : K → ℕ) → (extension : Extension) → (ended : Result Bool Fault) →
    (next next' : ℕ)
    → (clock clock' : ClockTold) → (link link' : LinkTold) → (server server' : Holding K) → (log log' : EntryList) → ServesTurn content faults extension ended
    next next' clock clock' link link' server server' log log' → (found : Option Kept) → Type 0
IsLeftInTurn content faults extension ended next next' clock clock' link link' server server' log log' taken found =
    IsLeftInStages content faults extension ended clock clock' link link' (record { server = server; out = taken.out; log = log })
    (record { server = server'; out = taken.out'; log = log' }) taken.stages found

-- Whatever a stop between any earlier moment and the second of these leaves, a stop before the first leaves it, or this holds of it. It is
-- said where the keeper tells what it keeps at the first.
abbrev pub LeavesOnly : {K : Type 0} → (content : K → Option Kept) → (follows : K → K → Type 0) → (leaves : K → K → Option Kept → Type 0)
    → (at after : K) → (Option Kept → Type 0) → Type 0
LeavesOnly {K = K} content follows leaves at after Found =
    ForSome (content at) (λ kept. (first : K) (found : Option Kept) → follows first at → leaves first after found → leaves first at found ⊎ Found found)

-- A stop at this moment leaves exactly what is kept then, where the keeper tells it. Between two turns this refuses a server that has answered
-- before what it acknowledges is safe, as one that sends `ok` before the sync of the gate byte: a stop would leave what was kept before
abbrev pub IsSettled : {K : Type 0} → (content : K → Option Kept) → (leaves : K → K → Option Kept → Type 0) → (at : K) → Type 0
IsSettled content leaves at = LeavesOne (content at) (leaves at at)

-- the stage that receives, and what a stop within it leaves
pub record LeavesReceiving {K : Type 0} (content : K → Option Kept) (faults : K → ℕ) (extension : Extension) (follows : K → K → Type 0) (leaves : K → K
    → Option Kept
    → Type 0) (received : Result Bool Fault) (link link' : LinkTold) (at after : Node K) : Type 0 where
  pub receives : Receives content faults extension received link link' at after
  pub left : LeavesOnly content follows leaves at.server.keeper after.server.keeper (IsLeftReceiving content faults extension received link link' at after
      receives)

-- what comes after the tick, and what a stop within it leaves
pub record LeavesBehind {K : Type 0} (content : K → Option Kept) (faults : K → ℕ) (extension : Extension) (follows : K → K → Type 0) (leaves : K → K
    → Option Kept → Type 0)
    (goes : Result Unit Fault) (ended : Result Bool Fault) (ticked : Bool) (link link' : LinkTold) (at after : Node K) : Type 0 where
  pub rest : GoesOn content faults extension goes ended ticked link link' at after
  pub left : LeavesOnly content follows leaves at.server.keeper after.server.keeper (IsLeftBehind content faults extension goes ended ticked link link' at
      after rest)

-- the stages of a turn, and what a stop within them leaves
pub record LeavesStages {K : Type 0} (content : K → Option Kept) (faults : K → ℕ) (extension : Extension) (follows : K → K → Type 0) (leaves : K → K
    → Option Kept → Type 0)
    (ended : Result Bool Fault) (clock clock' : ClockTold) (link link' : LinkTold) (at after : Node K) : Type 0 where
  pub stages : Stages content faults extension ended clock clock' link link' at after
  pub left : LeavesOnly content follows leaves at.server.keeper after.server.keeper (IsLeftInStages content faults extension ended clock clock' link link' at
      after stages)
