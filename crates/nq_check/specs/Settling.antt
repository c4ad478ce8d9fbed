-- Which answers tell that delayed writes of an incarnation on a file are stored or told.
use Rattle.std.specs.Prelude.{ℕ, List, Option, Some, None, Bool, false, ◌==◌, if◌then◌else◌}
use Rattle.nq_base.specs.declared.Entry.{Entry}
use Rattle.nq_base.specs.declared.Entry.TheVariants.{A}
use Rattle.nq_base.specs.declared.Said.TheVariants.{Ok}
use Rattle.nq_base.specs.declared.Told.{Told}
use Rattle.nq_base.specs.declared.Told.TheVariants.{Sync, Resize, Remove}
use Rattle.nq_base.specs.declared.Who.{Who}
use Rattle.nq_model.specs.laws.Journal.{call_of}
use Rattle.nq_model.specs.protocol.Table.{same_who}

-- whether a call is a `sync` of a file
abbrev pub is_sync_of : (file : ℕ) → Option Told → Bool
is_sync_of file (Some (Sync f)) = f == file
is_sync_of file other = false

-- whether a call is a `resize` or `remove` of a file
abbrev pub is_sizing_of : (file : ℕ) → Option Told → Bool
is_sizing_of file (Some (Resize f blocks)) = f == file
is_sizing_of file (Some (Remove f)) = f == file
is_sizing_of file other = false

-- the call to which an entry says ok, where it is such an answer of an incarnation
abbrev pub call_of_ok : (whole : List Entry) (who : Who) → Entry → Option Told
call_of_ok whole who (A by q Ok) = if same_who by who then call_of whole by q else None
call_of_ok whole who other = None
