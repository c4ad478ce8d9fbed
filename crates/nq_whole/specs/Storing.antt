-- Storing a whole file: what is asked next, and what an answer makes of it.
use Rattle.std.specs.Prelude.{
  ◌≡◌,
  ℕ,
  ◌+◌,
  ◌*◌,
  ◌/◌,
  ◌<◌,
  Bool,
  true,
  false,
  List,
  [],
  ◌∷◌,
  ◌++◌,
  Option,
  Some,
  None,
  ⊤,
  length,
  nat_le,
  ◌==◌,
  if◌then◌else◌,
  Contains,
}
use Rattle.nq_base.specs.Block.{value_of}
use Rattle.nq_base.specs.declared.Answer.{Answer}
use Rattle.nq_base.specs.declared.Call.{Call}
use Rattle.nq_base.specs.declared.Value.{Value}
use Rattle.nq_whole.specs.Pieces.{piece_of}
use Rattle.nq_whole.specs.Answers.{body_in, file_in, is_done}
use Rattle.nq_whole.specs.Heads.{block_of, head_in}
use Rattle.nq_whole.specs.declared.heads.FileHead.{FileHead}
use Rattle.nq_whole.specs.declared.storing.StoringSays.{StoringSays}
use Rattle.nq_whole.specs.declared.storing.StoringStep.{StoringStep}
use Rattle.nq_whole.specs.declared.storing.StoreStep.{StoreStep}

-- what is stored under which name, the name of the file for its bytes, and where storing stands
pub record Stores : Type 0 where
  pub name : List ℕ
  pub own : List ℕ
  pub bytes : List ℕ
  pub step : StoringStep

-- in how many blocks so many bytes stand: in one at least
abbrev pub blocks_for : (size : ℕ) → ℕ
blocks_for size = if nat_le size 4096 then 1 else (size + 4095) / 4096

-- the head of bytes that stand in a file
abbrev pub head_of : (file : ℕ) → (bytes : List ℕ) → FileHead
head_of file bytes = record { file = file; size = length bytes }

-- what is asked at a step: a file of its own is made and filled, each block stored before the next is asked. Then the head under the name is read,
-- and changed by a write and a sync, which do not wait for those who read it. Last the bytes that it told before are removed
abbrev pub asked_at : (name own bytes : List ℕ) → StoringStep → Call
asked_at name own bytes StoringStep.Making = Call.Create own (blocks_for (length bytes))
asked_at name own bytes (StoringStep.Filling file place) = Call.Put file place (piece_of place bytes)
asked_at name own bytes (StoringStep.Finding file) = Call.Lookup name
asked_at name own bytes (StoringStep.Founding file) = Call.Create name 1
asked_at name own bytes (StoringStep.Heading file at) = Call.Read at 0
asked_at name own bytes (StoringStep.Writing file at old) = Call.Write at 0 (block_of (head_of file bytes))
asked_at name own bytes (StoringStep.Syncing file at old) = Call.Sync at
asked_at name own bytes (StoringStep.Clearing old) = Call.Remove old
asked_at name own bytes (StoringStep.Dropping file) = Call.Remove file
asked_at name own bytes StoringStep.Ended = Call.Lookup own

-- it goes on with this step
abbrev pub goes : StoringStep → StoreStep
goes step = record { said = StoringSays.Goes; step = step }

-- it was refused, and the bytes in this file are removed
abbrev pub drops : (file : ℕ) → StoreStep
drops file = record { said = StoringSays.Drops; step = StoringStep.Dropping file }

-- it ends so
abbrev pub ends : StoringSays → StoreStep
ends said = record { said = said; step = StoringStep.Ended }

-- so many blocks of a file are stored: the next is, or all are
unfoldable pub filled_to : (file place : ℕ) → (bytes : List ℕ) → StoreStep
filled_to file place bytes = if nat_le (length bytes) (4096 * place) then goes (StoringStep.Finding file) else goes (StoringStep.Filling file place)

-- behind making the file for the bytes
abbrev pub made : Option ℕ → (bytes : List ℕ) → StoreStep
made (Some file) bytes = filled_to file 0 bytes
made None bytes = ends StoringSays.Refused

-- behind a block
abbrev pub stored : Bool → (file place : ℕ) → (bytes : List ℕ) → StoreStep
stored true file place bytes = filled_to file (place + 1) bytes
stored false file place bytes = drops file

-- behind looking for the name, and behind making it
abbrev pub found : Answer → (file : ℕ) → StoreStep
found (Answer.Ok (Value.File at)) file = goes (StoringStep.Heading file at)
found Answer.NoEntry file = goes (StoringStep.Founding file)
found Answer.Exists file = goes (StoringStep.Finding file)
found other file = drops file

-- what is removed in the end: the bytes of the old head; nothing where the block's value is 0, as it was made. Any other block is left alone
abbrev pub old_head : (body : List ℕ) → Option FileHead → (file at : ℕ) → StoreStep
old_head body (Some head) file at = goes (StoringStep.Writing file at (Some head.file))
old_head body None file at = if value_of body == 0 then goes (StoringStep.Writing file at None) else record {
  said = StoringSays.NotWhole;
  step = StoringStep.Dropping file;
}

-- behind the first block of the file of the name
abbrev pub headed : Option (List ℕ) → (file at : ℕ) → StoreStep
headed (Some body) file at = old_head body (head_in body) file at
headed None file at = drops file

-- behind the write of the head
abbrev pub written : Bool → (file at : ℕ) → Option ℕ → StoreStep
written true file at old = goes (StoringStep.Syncing file at old)
written false file at old = drops file

-- what is left to do once the head is stored
abbrev pub cleared : Option ℕ → StoreStep
cleared (Some old) = goes (StoringStep.Clearing old)
cleared None = ends StoringSays.Done

-- behind the sync of the head. Where it is not known whether the head is stored, the bytes stay, for tidying up
abbrev pub synced : Answer → Option ℕ → StoreStep
synced (Answer.Ok value) old = cleared old
synced other old = ends StoringSays.Refused

-- what an answer makes of storing at a step
abbrev pub store_at : StoringStep → Answer → (bytes : List ℕ) → StoreStep
store_at StoringStep.Making answer bytes = made (file_in answer) bytes
store_at (StoringStep.Filling file place) answer bytes = stored (is_done answer) file place bytes
store_at (StoringStep.Finding file) answer bytes = found answer file
store_at (StoringStep.Founding file) answer bytes = found answer file
store_at (StoringStep.Heading file at) answer bytes = headed (body_in answer) file at
store_at (StoringStep.Writing file at old) answer bytes = written (is_done answer) file at old
store_at (StoringStep.Syncing file at old) answer bytes = synced answer old
store_at (StoringStep.Clearing old) answer bytes = ends StoringSays.Done
store_at (StoringStep.Dropping file) answer bytes = ends StoringSays.Refused
store_at StoringStep.Ended answer bytes = ends StoringSays.Refused

-- how many bytes there have to be at a step: more than stand before the block that is stored next
abbrev pub needs : StoringStep → ℕ
needs (StoringStep.Filling file place) = 4096 * place + 1
needs step = 0

-- ---- what stands when the head is written

-- calls that were made, each with its answer, in order
abbrev pub Made : Type 0
Made = List (Call × Answer)

-- the first blocks of a file, so many, were stored with these bytes
abbrev pub AreStored : Made → (file count : ℕ) → (bytes : List ℕ) → Type 0
AreStored made file count bytes =
    (place : ℕ) → place < count
    → (value : Value) × Contains made (Call.Put file place (piece_of place bytes), Answer.Ok value)

-- all bytes were stored in a file
abbrev pub IsWhole : Made → (file : ℕ) → (bytes : List ℕ) → Type 0
IsWhole made file bytes = (place : ℕ) → 4096 * place < length bytes
    → (value : Value) × Contains made (Call.Put file place (piece_of place bytes), Answer.Ok value)

-- what was stored before a step: the blocks so far, and all bytes where the head comes next
abbrev pub StandsBefore : Made → (bytes : List ℕ) → StoringStep → Type 0
StandsBefore made bytes (StoringStep.Filling file place) = AreStored made file place bytes
StandsBefore made bytes (StoringStep.Finding file) = IsWhole made file bytes
StandsBefore made bytes (StoringStep.Founding file) = IsWhole made file bytes
StandsBefore made bytes (StoringStep.Heading file at) = IsWhole made file bytes
StandsBefore made bytes (StoringStep.Writing file at old) = IsWhole made file bytes
StandsBefore made bytes (StoringStep.Syncing file at old) = IsWhole made file bytes
StandsBefore made bytes step = ⊤

-- a step more keeps that: the call that was asked and its answer are the last
abbrev pub KeepsOrder : Answer → (old new : Stores) → Type 0
KeepsOrder answer old new =
    (made : Made) → StandsBefore made old.bytes old.step
    → StandsBefore (made ++ (asked_at old.name old.own old.bytes old.step, answer) ∷ []) new.bytes new.step

-- the step behind answers that came one after another
abbrev pub step_after : (bytes : List ℕ) → List Answer → StoringStep → StoringStep
step_after bytes [] step = step
step_after bytes (answer ∷ answers) step = step_after bytes answers (store_at step answer bytes).step

-- the calls that were made from a step on, each with its answer
abbrev pub made_from : (name own bytes : List ℕ) → List Answer → StoringStep → Made
made_from name own bytes [] step = []
made_from name own bytes (answer ∷ answers) step =
    (asked_at name own bytes step, answer) ∷ made_from name own bytes answers (store_at step answer bytes).step
