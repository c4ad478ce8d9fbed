-- Where leases ended, as links show it.
use Rattle.std.specs.Prelude.{◌≡◌, ◌<◌, ◌≤◌, ◌+◌, ℕ, List, Some, true, length, reverse, take}
use Rattle.std.specs.List.{slice_get}
use Rattle.nq_base.specs.declared.Entry.{Entry}
use Rattle.nq_base.specs.declared.Entry.TheVariants.{S}
use Rattle.nq_base.specs.declared.Who.{Who}
use Rattle.nq_check.specs.Rising.{Rises}
use Rattle.nq_check.specs.Tables.{AreTables}
use Rattle.nq_check.specs.declared.tables.LinkTables.{LinkTables}
use Rattle.nq_model.specs.laws.CutOffTest.{ends}
use Rattle.nq_model.specs.protocol.Profile.{write_slack}

-- the entries of a journal are linked, and no S before a place tells a later time than one behind it
pub record AreLinked (whole : List Entry) (found : LinkTables) (place : ℕ) : Type 0 where
  pub tables : AreTables whole found
  pub rises : Rises whole place
  pub within : place < length whole

-- the entry is an S, and write slack has passed since
abbrev pub IsStorePast : (now : ℕ) → Entry → Type 0
IsStorePast now (S who file block first last time) = time + write_slack ≤ now
IsStorePast now other = ⊥

-- the entry at a place ends the lease of an incarnation on a file
pub record HasEnd (whole : List Entry) (place : ℕ) (who : Who) (file : ℕ) : Type 0 where
  pub entry : Entry
  pub there : slice_get whole place ≡ Some entry
  pub passes : ends who file entry (reverse (take place whole)) ≡ true

-- an entry from a place on, and before another, does so
pub record HasEndBetween (whole : List Entry) (from to : ℕ) (who : Who) (file : ℕ) : Type 0 where
  pub place : ℕ
  pub low : from ≤ place
  pub below : place < to
  pub found : HasEnd whole place who file
