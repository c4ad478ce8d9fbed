-- Each answer is of its call, in every run.
use Rattle.std.specs.Prelude.{◌⊎◌, List, Option, Some, ⊤}
use Rattle.nq_base.specs.declared.Entry.{Entry}
use Rattle.nq_base.specs.declared.Entry.TheVariants.{A}
use Rattle.nq_base.specs.declared.Said.{Said}
use Rattle.nq_base.specs.declared.Said.TheVariants.{Ok, OkValue, OkBy, Lost, DirtyFull}
use Rattle.nq_base.specs.declared.Told.{Told}
use Rattle.nq_base.specs.declared.Told.TheVariants.{Create, Lookup, Attr, Write, Put, Sync, Resize, Remove}
use Rattle.nq_model.specs.laws.Bounds.{InEveryRun}
use Rattle.nq_model.specs.laws.Journal.{Throughout, IsOpen, call_of}
use Rattle.nq_model.specs.laws.Legal.{IsReading}
use Rattle.nq_model.specs.protocol.World.{run}

-- the call is a `create`, `lookup` or `attr`
abbrev pub IsNaming : Option Told → Type 0
IsNaming (Some (Create name blocks)) = ⊤
IsNaming (Some (Lookup name)) = ⊤
IsNaming (Some (Attr file)) = ⊤
IsNaming other = ⊥

-- the call is a `write`, `put`, `sync`, `resize` or `remove`
abbrev pub IsChanging : Option Told → Type 0
IsChanging (Some (Write file block value)) = ⊤
IsChanging (Some (Put file block value)) = ⊤
IsChanging (Some (Sync file)) = ⊤
IsChanging (Some (Resize file blocks)) = ⊤
IsChanging (Some (Remove file)) = ⊤
IsChanging other = ⊥

-- the call is a `write` or `put`
abbrev pub IsWriting : Option Told → Type 0
IsWriting (Some (Write file block value)) = ⊤
IsWriting (Some (Put file block value)) = ⊤
IsWriting other = ⊥

-- the form of an answer is one that the call can have: `ok` alone and `lost` to a call that changes or syncs a file, `ok` with a
-- value to one that names or reads, `ok` by a packet to one that reads, and `dirtyfull` to one that writes
abbrev pub IsFormOf : Said → Option Told → Type 0
IsFormOf Ok call = IsChanging call
IsFormOf (OkValue value) call = IsNaming call ⊎ IsReading call
IsFormOf (OkBy value packet) call = IsReading call
IsFormOf (Lost spans) call = IsChanging call
IsFormOf DirtyFull call = IsWriting call
IsFormOf other call = ⊤

-- what is asked of an A at its place: its call is open, so that its C stands before it and no other A of the call does, and its
-- form is one that the call can have
abbrev pub IsAnswerOfCall : Entry → (before : List Entry) → Type 0
IsAnswerOfCall (A who q said) before = IsOpen before who q × IsFormOf said (call_of before who q)
IsAnswerOfCall other before = ⊤

-- the answers of a journal are of their calls. That each W, Z and counted R stands while its call is open, so after its C and
-- before its A, is said where calls are ordered
abbrev pub AnswersAreOfTheirCalls : (journal : List Entry) → Type 0
AnswersAreOfTheirCalls journal = Throughout IsAnswerOfCall journal

-- after every schedule within skew
abbrev pub AnswersAreOfTheirCallsInEveryRun : Type 0
AnswersAreOfTheirCallsInEveryRun = InEveryRun (λ head events. AnswersAreOfTheirCalls (run head events).journal)
