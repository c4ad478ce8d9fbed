-- What a stop at any moment of serving leaves of what is kept. Below, `content` is what a keeper tells of what it keeps, `faults` is its count
-- of faults, `follows` says that a keeper is another one after some of its calls, and `leaves` what a stop between two moments of it may leave.
use Rattle.std.proofs.Common.{inl, inr}
use Rattle.std.specs.Option.{ForSome}
use Rattle.std.specs.Prelude.{◌≡◌, ◌⊎◌, ℕ, zero, suc, Option, Some, Result, Ok, Err, ⊤}
use Rattle.nq_serving.specs.Running.{Ran, Runs, Serves}
use Rattle.nq_serving.specs.Extending.{Extension}
use Rattle.nq_serving.specs.Turning.{Goes, Standing, TakesTurn, TakesTurns, standing}
use Rattle.nq_serving.specs.declared.turning.LinkPolicy.{LinkPolicy}
use Rattle.nq_base.specs.declared.ending.fault.Fault.{Fault}
use Rattle.nq_model.specs.protocol.Kept.{Kept}
use Rattle.nq_model.specs.protocol.ServerStep.{booted}
use Rattle.nq_clock.specs.Clocks.{ClockTold}
use Rattle.nq_serving.specs.Leaving.{IsLeftInTurn, IsSettled, LeavesOnly}
use Rattle.nq_link.specs.Links.{LinkTold}
use Rattle.nq_server.specs.Holding.{Holding}

-- ---- what is found as at a moment of the turns

-- this is found as at a moment of a turn: before it, after its tick or after its datagram; a step that failed in it may have been kept
abbrev pub IsLeftTaking : {K : Type 0} → (content : K → Option Kept) → (faults : K → ℕ) → (policy : LinkPolicy) → (extension : Extension) →
    (ended : Result Unit Fault) →
    (at after : Standing K)
    → TakesTurn content faults policy extension ended at after → (found : Option Kept) → Type 0
IsLeftTaking content faults policy extension ended at after taken found =
    IsLeftInTurn content faults extension taken.turn at.next after.next at.clock after.clock at.link after.link at.server after.server taken.log taken.entered
    taken.took found

-- this is found as at a moment of one of so many turns
abbrev pub IsLeftInGoes : {K : Type 0} → (content : K → Option Kept) → (faults : K → ℕ) → (policy : LinkPolicy) → (extension : Extension) → (count : ℕ) →
    (at after : Standing K)
    → Goes content faults policy extension count at after → (found : Option Kept) → Type 0
IsLeftInGoes content faults policy extension zero at after goes found = ⊥
IsLeftInGoes content faults policy extension (suc count) at after goes found =
    IsLeftInGoes content faults policy extension count at goes.0 goes.1 found ⊎ IsLeftTaking content faults policy extension (Ok tt) goes.0 after goes.2 found

-- the same of turns up to the first that ended them
abbrev pub IsLeftInTurns : {K : Type 0} → (content : K → Option Kept) → (faults : K → ℕ) → (policy : LinkPolicy) → (extension : Extension) → (turns : ℕ) →
    (ended : Result Unit Fault)
    → (at after : Standing K) → TakesTurns content faults policy extension turns ended at after → (found : Option Kept) → Type 0
IsLeftInTurns content faults policy extension turns (Ok done) at after taken found = IsLeftInGoes content faults policy extension turns at after taken found
IsLeftInTurns content faults policy extension turns (Err why) at after taken found =
    IsLeftInGoes content faults policy extension taken.count at taken.middle taken.before found
    ⊎ IsLeftTaking content faults policy extension (Err why) taken.middle after taken.last found

-- this is found as what was kept when the keeper was handed in, or as the boot makes it, whether the boot began or failed
abbrev pub IsLeftByBoot : (longest : ℕ) → (kept : Kept) → (found : Option Kept) → Type 0
IsLeftByBoot longest kept found = (found ≡ Some kept) ⊎ (found ≡ Some (booted kept longest))

-- This is found so, or as at a moment of the turns. Each of these moments
-- stands behind a prefix of the steps by which the server came to what it keeps: the boot, and each tick and each datagram of the turns before it
abbrev pub IsLeftInRuns : {K : Type 0} → (content : K → Option Kept) → (faults : K → ℕ) → (policy : LinkPolicy) → (extension : Extension) → (follows : K
    → K → Type 0) →
    (longest turns time : ℕ)
    → (keeper : K) → (ended : Result Unit Fault) → (left : K) → (clock clock' : ClockTold) → (link link' : LinkTold)
    → Runs content faults policy extension follows
    longest turns time keeper ended left clock clock' link link' → (kept : Kept) → (found : Option Kept) → Type 0
IsLeftInRuns content faults policy extension follows longest turns time keeper (Ok done) left clock clock' link link' runs kept found =
    IsLeftByBoot longest kept found
    ⊎ IsLeftInTurns content faults policy extension turns (Ok done) (standing runs.server 0 clock link) runs.ran.last runs.ran.taken found
IsLeftInRuns content faults policy extension follows longest turns time keeper (Err why) left clock clock' link link' (inl runs) kept found =
    IsLeftByBoot longest kept found
    ⊎ IsLeftInTurns content faults policy extension turns (Err why) (standing runs.server 0 clock link) runs.ran.last runs.ran.taken found
IsLeftInRuns content faults policy extension follows longest turns time keeper (Err why) left clock clock' link link' (inr none) kept found =
    IsLeftByBoot longest kept found

-- ---- in order

-- A moment before the end, and the keeper at both. A stop at this moment leaves exactly what is kept then. Whatever a stop between any earlier
-- moment and the end leaves, a stop before this moment leaves it, or this holds of it
pub record IsBeforeEnd {K : Type 0} (content : K → Option Kept) (follows : K → K → Type 0) (leaves : K → K → Option Kept → Type 0) (at last : K)
    (Later : Option Kept → Type 0) : Type 0 where
  pub settled : IsSettled content leaves at
  pub same : follows at last
  pub later : (first : K) (found : Option Kept) → follows first at → leaves first last found → leaves first at found ⊎ Later found

-- At each moment between so many turns: a stop at that very moment leaves exactly what is kept then, and what else a stop from then until the end
-- leaves is what is kept at a later moment, of the turns behind it or of what `Later` tells. So nothing that was kept at that moment is lost
abbrev pub AreInOrder : {K : Type 0} → (content : K → Option Kept) → (faults : K → ℕ) → (policy : LinkPolicy) → (extension : Extension) → (follows : K → K
    → Type 0) → (leaves : K
    → K → Option Kept
    → Type 0) → (last : K) → (Later : Option Kept → Type 0) → (count : ℕ) → (at after : Standing K) → Goes content faults policy extension count at after
    → Type 0
AreInOrder content faults policy extension follows leaves last Later zero at after goes = IsBeforeEnd content follows leaves after.server.keeper last Later
AreInOrder content faults policy extension follows leaves last Later (suc count) at after goes =
    IsBeforeEnd content follows leaves after.server.keeper last Later
    × AreInOrder content faults policy extension follows leaves last (λ found. IsLeftTaking content faults policy extension
    (Ok tt) goes.0 after goes.2 found ⊎ Later found) count at
    goes.0 goes.1

-- the same of turns up to the first that ended them
abbrev pub TurnsAreInOrder : {K : Type 0} → (content : K → Option Kept) → (faults : K → ℕ) → (policy : LinkPolicy) → (extension : Extension) → (follows : K
    → K → Type 0)
    → (leaves : K → K → Option Kept → Type 0) → (turns : ℕ) → (ended : Result Unit Fault) → (at after : Standing K)
    → TakesTurns content faults policy extension turns
    ended at after → Type 0
TurnsAreInOrder content faults policy extension follows leaves turns (Ok done) at after taken =
    AreInOrder content faults policy extension follows leaves after.server.keeper (λ found. ⊥) turns at after taken
TurnsAreInOrder content faults policy extension follows leaves turns (Err why) at after taken =
    AreInOrder content faults policy extension follows leaves after.server.keeper (λ found. IsLeftTaking content faults policy extension
    (Err why) taken.middle after taken.last found)
    taken.count at taken.middle taken.before

-- the same of the turns of a server that booted, if one did
abbrev pub RunsAreInOrder : {K : Type 0} → (content : K → Option Kept) → (faults : K → ℕ) → (policy : LinkPolicy) → (extension : Extension) → (follows : K
    → K → Type 0) →
    (leaves : K → K → Option Kept
    → Type 0) → (longest turns time : ℕ) → (keeper : K) → (ended : Result Unit Fault) → (left : K) → (clock clock' : ClockTold)
    → (link link' : LinkTold) → Runs content faults policy extension follows longest turns time keeper ended left clock clock' link link' → Type 0
RunsAreInOrder content faults policy extension follows leaves longest turns time keeper (Ok done) left clock clock' link link' runs =
    TurnsAreInOrder content faults policy extension follows leaves turns (Ok done) (standing runs.server 0 clock link) runs.ran.last runs.ran.taken
RunsAreInOrder content faults policy extension follows leaves longest turns time keeper (Err why) left clock clock' link link' (inl runs) =
    TurnsAreInOrder content faults policy extension follows leaves turns (Err why) (standing runs.server 0 clock link) runs.ran.last runs.ran.taken
RunsAreInOrder content faults policy extension follows leaves longest turns time keeper (Err why) left clock clock' link link' (inr none) = ⊤

-- ---- what is done, and what a stop leaves

-- one turn, and what a stop within it leaves
pub record LeavesTaking {K : Type 0} (content : K → Option Kept) (faults : K → ℕ) (policy : LinkPolicy) (extension : Extension) (follows : K → K → Type 0)
    (leaves : K → K → Option Kept → Type 0)
    (ended : Result Unit Fault) (at after : Standing K) : Type 0 where
  pub taken : TakesTurn content faults policy extension ended at after
  pub only : LeavesOnly content follows leaves at.server.keeper after.server.keeper (IsLeftTaking content faults policy extension ended at after taken)
  pub settled : IsSettled content leaves after.server.keeper

-- turns up to the first that ended them, and what a stop within them leaves
pub record LeavesTurns {K : Type 0} (content : K → Option Kept) (faults : K → ℕ) (policy : LinkPolicy) (extension : Extension) (follows : K → K → Type 0)
    (leaves : K → K → Option Kept → Type 0)
    (turns : ℕ) (ended : Result Unit Fault) (at after : Standing K) : Type 0 where
  pub taken : TakesTurns content faults policy extension turns ended at after
  pub only : LeavesOnly content follows leaves at.server.keeper after.server.keeper (IsLeftInTurns content faults policy extension turns ended at after taken)
  pub order : ForSome (content at.server.keeper) (λ kept. TurnsAreInOrder content faults policy extension follows leaves turns ended at after taken)
  pub settled : IsSettled content leaves after.server.keeper

-- the turns of a server that has booted, and what a stop within them leaves
pub record LeavesRunning {K : Type 0} (content : K → Option Kept) (faults : K → ℕ) (policy : LinkPolicy) (extension : Extension) (follows : K → K → Type 0)
    (leaves : K → K → Option Kept → Type 0)
    (turns : ℕ) (server : Holding K) (ended : Result Unit Fault) (left : K) (clock clock' : ClockTold) (link link' : LinkTold) : Type 0 where
  pub ran : Ran content faults policy extension follows turns server ended left clock clock' link link'
  pub only : LeavesOnly content follows leaves server.keeper left (IsLeftInTurns content faults policy extension turns ended
      (standing server 0 clock link) ran.last ran.taken)
  pub order : ForSome (content server.keeper) (λ kept. TurnsAreInOrder content faults policy extension follows leaves turns ended (standing server 0 clock link)
      ran.last ran.taken)
  pub settled : IsSettled content leaves left

-- the boot and the turns, and what a stop within them leaves
pub record LeavesRuns {K : Type 0} (content : K → Option Kept) (faults : K → ℕ) (policy : LinkPolicy) (extension : Extension) (follows : K → K → Type 0)
    (leaves : K → K → Option Kept → Type 0)
    (longest turns time : ℕ) (keeper : K) (ended : Result Unit Fault) (left : K) (clock clock' : ClockTold) (link link' : LinkTold) : Type 0 where
  pub runs : Runs content faults policy extension follows longest turns time keeper ended left clock clock' link link'
  pub only : ForSome (content keeper) (λ kept. (found : Option Kept) → leaves keeper left found → IsLeftInRuns content faults policy extension follows
      longest turns
      time keeper ended left clock clock' link link' runs kept found)
  pub order : ForSome (content keeper) (λ kept. RunsAreInOrder content faults policy extension follows leaves longest turns time keeper ended left clock
      clock' link link' runs)
  pub settled : IsSettled content leaves left

-- What was done when serving ended so. Where the keeper told what it kept when it was handed in, a stop at any moment until it was handed back
-- leaves that, or what was kept at a moment of the boot and the turns. Between two turns, and at the end, a stop leaves exactly what is kept
pub record LeavesServing {K : Type 0} (content : K → Option Kept) (faults : K → ℕ) (policy : LinkPolicy) (extension : Extension) (follows : K → K → Type 0)
    (leaves : K → K → Option Kept → Type 0)
    (longest turns : ℕ) (keeper : K) (ended : Result Unit Fault) (left : K) (clock clock' : ClockTold) (link link' : LinkTold) : Type 0 where
  pub serves : Serves content faults policy extension follows longest turns keeper ended left clock clock' link link'
  pub only : ForSome (content keeper) (λ kept. (found : Option Kept) → leaves keeper left found → IsLeftInRuns content faults policy extension follows
      longest turns
      serves.time keeper ended left serves.between clock' link link' serves.runs kept found)
  pub order : ForSome (content keeper) (λ kept. RunsAreInOrder content faults policy extension follows leaves longest turns serves.time keeper ended left
      serves.between clock' link link' serves.runs)
  pub settled : IsSettled content leaves left
