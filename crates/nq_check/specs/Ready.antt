-- What is known where a fast pass over the answers that are kept looks at an entry.
use Rattle.std.specs.Prelude.{◌<◌, ◌+◌, ℕ, List, length}
use Rattle.nq_base.specs.declared.Entry.{Entry}
use Rattle.nq_check.specs.Fronts.{KeepsBelow}
use Rattle.nq_check.specs.Links.{IsLinked}
use Rattle.nq_check.specs.Tables.{AreTables}
use Rattle.nq_rules.specs.declared.keys.KeyKind.TheVariants.{Delays}
use Rattle.nq_check.specs.declared.links.Links.{Links}
use Rattle.nq_check.specs.declared.tables.LinkTables.{LinkTables}
use Rattle.nq_check.specs.declared.rules.Rule.TheVariants.{Ordered, Synchronized}

-- the entries are linked, those up to a place stand in order, and the answers before it are kept
pub record IsReady (whole : List Entry) (place : ℕ) (links : LinkTables) (delays : Links) : Type 0 where
  pub tables : AreTables whole links
  pub within : place < length whole
  pub ordered : KeepsBelow Ordered whole (place + 1)
  pub kept : KeepsBelow Synchronized whole place
  pub linked : IsLinked Delays whole place delays.heads.entries delays.earlier.items
