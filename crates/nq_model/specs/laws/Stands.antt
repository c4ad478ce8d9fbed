-- Which writes a read sees.
-- A lost write is seen by nobody but its maker, and by the maker only until the loss is found.
use Rattle.std.specs.Prelude.{◌⊎◌, ℕ, List}
use Rattle.nq_base.specs.declared.Entry.{Entry}
use Rattle.nq_base.specs.declared.Who.{Who}
use Rattle.nq_model.specs.laws.Journal.{IsWriteOn, IsWriteBy, IsThrough, IsStored, IsLost, since_cut, IsLastValue}

-- a write stands for a later read of its block, where no Z between them cuts that block, and it is through, or an S
-- anywhere in the journal covers it, or it is of the reader's own incarnation and no L before the read covers it
abbrev pub Stands : (whole before : List Entry) (reader : Who) (file block : ℕ) (write : Entry) → Type 0
Stands whole before reader file block write =
    IsWriteOn file block write × (IsThrough write ⊎ IsStored whole write ⊎ IsWriteBy reader write × ¬ IsLost before write)

-- the value is that of the last write before a read that stands for it, or 0 where there is none
abbrev pub IsStandingValue : (whole before : List Entry) (reader : Who) (file block value : ℕ) → Type 0
IsStandingValue whole before reader file block value = IsLastValue (Stands whole before reader file block) (since_cut before file block) value
