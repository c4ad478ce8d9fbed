-- The end of a writing lease in silence. Below, `told` is what the keeper told of its content before a call and `tells` is
-- what it tells after it.
use Rattle.std.specs.Prelude.{◌≡◌, ◌⊎◌, ℕ, Bool, if◌then◌else◌, is_some, List, Option, find, Some, None, Result, Ok, Err}
use Rattle.std.specs.Option.{ForSome, option_map}
use Rattle.nq_base.specs.declared.Change.{Change}
use Rattle.nq_base.specs.declared.FileRow.{FileRow}
use Rattle.nq_base.specs.declared.Row.{Row}
use Rattle.nq_base.specs.declared.RowKey.{RowKey}
use Rattle.nq_lease.specs.declared.expire.ending.Fence.{Fence}
use Rattle.nq_io.specs.Faults.{Rose}
use Rattle.nq_keeper.specs.declared.KeepFault.{KeepFault}
use Rattle.nq_keeper.specs.declared.KeepFault.TheVariants.{Failed, Memory}
use Rattle.nq_keeper.specs.Capped.{capped_row}
use Rattle.nq_keeper.specs.Keeping.{StaysOrEnds}
use Rattle.nq_lease.specs.Rows.{key_of}
use Rattle.nq_model.specs.protocol.Change.{raised_row}
use Rattle.nq_model.specs.protocol.Kept.{Kept, can_rise, find_file}
use Rattle.nq_model.specs.protocol.ServerStep.{fence, is_due}
use Rattle.nq_model.specs.protocol.Table.{Table, drop_row, find_row, with_rows}

-- the kept state after a file was fenced, where it is kept
abbrev pub fenced : (file : ℕ) → Kept → Kept
fenced file kept = fence kept (find_file file kept.files)

-- and after it was tried: where its revision can not rise nothing changes
abbrev pub fenced_if : (file : ℕ) → Kept → Kept
fenced_if file kept = if can_rise (find_file file kept.files) then fenced file kept else kept

-- a file is fenced, where its revision can rise; after a fault nothing changes
abbrev pub Fences : (file : ℕ) → Result Bool KeepFault → (told tells : Option Kept) → (before now : ℕ) → Type 0
Fences file (Ok done) told tells before now =
    ForSome told (λ kept. (done ≡ can_rise (find_file file kept.files)) × (tells ≡ Some (fenced_if file kept))) × (now ≡ before)
Fences file (Err Memory) told tells before now = (tells ≡ told) × (now ≡ before)
Fences file (Err Failed) told tells before now = StaysOrEnds told tells × Rose before now

-- whether a row ended, where no fault came between
abbrev pub has_ended : Result (Option Fence) KeepFault → Result Bool KeepFault
has_ended (Ok ended) = Ok (is_some ended)
has_ended (Err fault) = Err fault

-- the table after the end of the row of this key was tried
abbrev pub table_after : RowKey → Option Fence → Table → Table
table_after key None table = table
table_after key (Some fence) table = with_rows table (drop_row key.file key.host table.rows)

-- a stop leaves what was kept before, or after a file was fenced
abbrev pub LeavesFenced : (file : ℕ) → (told : Option Kept) → (Option Kept → Type 0) → Type 0
LeavesFenced file told leaves =
    ForSome told (λ kept. (found : Option Kept) → leaves found → (found ≡ Some kept) ⊎ (found ≡ Some (fenced_if file kept)))

-- what is told of a lease that ended at this time
abbrev pub fence_of : Row → (now : ℕ) → Fence
fence_of row now = record { who = row.who; file = row.file; until = row.until; heard = row.heard; now = now }

-- the change by which code fences a file: a revision at the end of its type stays
abbrev pub fencing_as : FileRow → Change
fencing_as row = record {
  file = Some (capped_row (raised_row row row.blocks));
  block = None;
  host = None;
  heads = None;
  removed = None;
}

-- a key is that of the first row that is due, as the rows are looked up by it
pub record IsDueBy (key : RowKey) (now : ℕ) (rows : List Row) : Type 0 where
  pub first : option_map key_of (find (is_due now) rows) ≡ Some key
  pub there : find_row key.file key.host rows ≡ find (is_due now) rows
