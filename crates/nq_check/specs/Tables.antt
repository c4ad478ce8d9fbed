-- The links of a journal in each kind, and what stands between two of its places.
use Rattle.std.specs.Prelude.{◌≡◌, ◌<◌, ◌≤◌, ℕ, List, Some, Bool, true, false, length}
use Rattle.std.specs.List.{slice_get}
use Rattle.nq_base.specs.declared.Entry.{Entry}
use Rattle.nq_check.specs.declared.tables.Leases.{Leases}
use Rattle.nq_check.specs.declared.tables.LinkTables.{LinkTables}
use Rattle.nq_rules.specs.declared.keys.KeyKind.TheVariants.{Calls, Reads, Writes, Covers, Cuts, Own, Grants, Stores}
use Rattle.nq_check.specs.Links.{IsLinked}

-- the grants, stores and writes before a place of a journal are linked
pub record AreLeasesTo (whole : List Entry) (linked : ℕ) (leases : Leases) : Type 0 where
  pub grants : IsLinked Grants whole linked leases.grants.heads.entries leases.grants.earlier.items
  pub stores : IsLinked Stores whole linked leases.stores.heads.entries leases.stores.earlier.items
  pub own : IsLinked Own whole linked leases.own.heads.entries leases.own.earlier.items

-- the entries before a place are linked in each kind
pub record AreTablesTo (whole : List Entry) (linked : ℕ) (tables : LinkTables) : Type 0 where
  pub calls : IsLinked Calls whole linked tables.calls.heads.entries tables.calls.earlier.items
  pub reads : IsLinked Reads whole linked tables.reads.heads.entries tables.reads.earlier.items
  pub writes : IsLinked Writes whole linked tables.writes.heads.entries tables.writes.earlier.items
  pub covers : IsLinked Covers whole linked tables.covers.heads.entries tables.covers.earlier.items
  pub cuts : IsLinked Cuts whole linked tables.cuts.heads.entries tables.cuts.earlier.items
  pub leases : AreLeasesTo whole linked tables.leases

-- all entries are
abbrev pub AreTables : (whole : List Entry) → LinkTables → Type 0
AreTables whole = AreTablesTo whole (length whole)

-- no entry from a place on and before another passes a test
abbrev pub NoneBetween : (test : Entry → Bool) (whole : List Entry) (from to : ℕ) → Type 0
NoneBetween test whole from to = (place : ℕ) (entry : Entry) → from ≤ place → place < to → slice_get whole place ≡ Some entry → test entry ≡ false

-- some entry from a place on and before another passes a test
pub record HasBetween (test : Entry → Bool) (whole : List Entry) (from to : ℕ) : Type 0 where
  pub place : ℕ
  pub entry : Entry
  pub low : from ≤ place
  pub below : place < to
  pub there : slice_get whole place ≡ Some entry
  pub passes : test entry ≡ true
