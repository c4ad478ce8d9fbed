-- A journal as contracts see it.
use Rattle.std.specs.Prelude.{ℕ, List}
use Rattle.nq_base.specs.declared.entries.Entry.{Entry}

-- the entries, the oldest first, and the number of further ones for which room is reserved
pub record EntryList : Type 0 where
  pub entries : List Entry
  pub spare : ℕ
