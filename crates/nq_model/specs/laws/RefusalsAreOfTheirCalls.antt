-- A refusal has a form that the call can have, in every run.
use Rattle.std.specs.Prelude.{◌⊎◌, ℕ, List, Option, Some, ⊤}
use Rattle.nq_base.specs.declared.Entry.{Entry}
use Rattle.nq_base.specs.declared.Entry.TheVariants.{A}
use Rattle.nq_base.specs.declared.Said.{Said}
use Rattle.nq_base.specs.declared.Said.TheVariants.{NoEntry, Exists, NoSpace, Range}
use Rattle.nq_base.specs.declared.Told.{Told}
use Rattle.nq_base.specs.declared.Told.TheVariants.{Create, Lookup, Resize}
use Rattle.nq_model.specs.laws.AnswersAreOfTheirCalls.{IsWriting}
use Rattle.nq_model.specs.laws.Bounds.{InEveryRun}
use Rattle.nq_model.specs.laws.Journal.{Throughout, SpeaksOf, call_of}
use Rattle.nq_model.specs.laws.Legal.{IsReading}
use Rattle.nq_model.specs.protocol.World.{run}

-- the call is a `lookup`
abbrev pub IsLookup : Option Told → Type 0
IsLookup (Some (Lookup name)) = ⊤
IsLookup other = ⊥

-- the call is a `create`
abbrev pub IsCreate : Option Told → Type 0
IsCreate (Some (Create name blocks)) = ⊤
IsCreate other = ⊥

-- the call gives a file a length: it is a `create` or `resize`
abbrev pub IsSizing : Option Told → Type 0
IsSizing (Some (Create name blocks)) = ⊤
IsSizing (Some (Resize file blocks)) = ⊤
IsSizing other = ⊥

-- `noentry` is said to `lookup` alone, `exists` to `create` alone, `stale` to a call that speaks of a file by its id, `nospace` to one that
-- gives a file a length, and `range` to such a call, or to one that reads or writes a block
abbrev pub IsRefusalOf : Said → Option Told → Type 0
IsRefusalOf NoEntry call = IsLookup call
IsRefusalOf Exists call = IsCreate call
IsRefusalOf Said.Stale call = (file : ℕ) × SpeaksOf file call
IsRefusalOf NoSpace call = IsSizing call
IsRefusalOf Range call = IsSizing call ⊎ IsReading call ⊎ IsWriting call
IsRefusalOf other call = ⊤

-- what is asked of an A at its place
abbrev pub IsRefusalAt : Entry → (before : List Entry) → Type 0
IsRefusalAt (A who q said) before = IsRefusalOf said (call_of before who q)
IsRefusalAt other before = ⊤

-- the refusals of a journal are of their calls
abbrev pub RefusalsAreOfTheirCalls : (journal : List Entry) → Type 0
RefusalsAreOfTheirCalls journal = Throughout IsRefusalAt journal

-- after every schedule within skew
abbrev pub RefusalsAreOfTheirCallsInEveryRun : Type 0
RefusalsAreOfTheirCallsInEveryRun = InEveryRun (λ head events. RefusalsAreOfTheirCalls (run head events).journal)
