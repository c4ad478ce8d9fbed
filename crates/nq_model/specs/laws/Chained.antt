-- When a lease is chained to the row of its holder, and which revision its holder has to expect (Macklem 1994).
use Rattle.std.specs.Prelude.{◌≡◌, ℕ, ◌+◌, ◌==◌, Bool, true, false, ◌&&◌, Option, None, Some}
use Rattle.nq_base.specs.declared.HostRow.{HostRow}
use Rattle.nq_base.specs.declared.Mode.{Mode}
use Rattle.nq_base.specs.declared.Request.{Request}
use Rattle.nq_base.specs.declared.Row.{Row}
use Rattle.nq_base.specs.declared.Tag.{Tag}
use Rattle.nq_base.specs.declared.Verdict.{Verdict}
use Rattle.nq_base.specs.declared.Verdict.TheVariants.{Done}
use Rattle.nq_base.specs.declared.Who.{Who}
use Rattle.nq_model.specs.protocol.Client.{Ticket}
use Rattle.nq_model.specs.protocol.Kept.{File, Kept, blocks_of, find_file}
use Rattle.nq_model.specs.laws.LeaseInterval.{is_at_least}
use Rattle.nq_model.specs.protocol.Table.{Table, find_row, tag_below}

-- an incarnation's own row on a file stands in a table
pub record OwnRow (table : Table) (who : Who) (file : ℕ) (row : Row) : Type 0 where
  pub stands : find_row file who.host table.rows ≡ Some row
  pub holder : row.who ≡ who

-- a lease or grant with a tag is chained: the row of its incarnation stands, and its chain began no later than that tag
pub record IsChained (table : Table) (who : Who) (file : ℕ) (tag : Tag) (row : Row) : Type 0 where
  pub own : OwnRow table who file row
  pub began : tag_below tag row.since ≡ false

-- whether a verdict is that a request was done
abbrev pub is_done : Verdict → Bool
is_done Done = true
is_done other = false

-- whether a host's kept line says that this request of an incarnation, a WRITE to this file, was decided last and was done
abbrev pub has_done : HostRow → (inc : ℕ) → (file : ℕ) → Request → Bool
has_done line inc file (Request.Write who seq f block first last push body) =
    f == file && line.inc == inc && line.seq == seq && is_done line.verdict
has_done line inc file other = false

-- whether the request under way is a WRITE to this file, and the server has done it already
abbrev pub has_done_write : HostRow → (inc : ℕ) → (file : ℕ) → Option Ticket → Bool
has_done_write line inc file None = false
has_done_write line inc file (Some ticket) = has_done line inc file ticket.request

-- the revision that a client has to expect: the one that it knows, and one more where the server did its own write already
abbrev pub due : Bool → (rev : ℕ) → ℕ
due true rev = rev + 1
due false rev = rev

-- the server keeps the file at the revision that the client has to expect and with this length, and the row is of at least
-- this kind. Where the server did the client's own write, the value that it keeps of it is that revision
pub record KnowsFile (kept : Kept) (line : HostRow) (held : Mode) (mode : Mode) (file rev blocks : ℕ) (done : Bool) : Type 0 where
  pub kind : is_at_least held mode ≡ true
  pub f : File
  pub found : find_file file kept.files ≡ Some f
  pub revision : f.rev ≡ due done rev
  pub length : blocks_of f ≡ blocks
  pub value : done ≡ true → line.value ≡ f.rev
