-- How far a fast pass has seen that entries keep their rules.
use Rattle.std.specs.Prelude.{◌≡◌, ◌<◌, ◌+◌, ℕ, List, Some, Bool, true, take, drop, reverse}
use Rattle.std.specs.List.{slice_get}
use Rattle.nq_base.specs.declared.Entry.{Entry}
use Rattle.nq_check.specs.declared.fates.Fates.{Fates}
use Rattle.nq_check.specs.declared.fronts.Fronts.{Fronts}
use Rattle.nq_check.specs.declared.rules.Rule.{Rule}
use Rattle.nq_check.specs.declared.rules.Rule.TheVariants.{Ordered, Accounted, Reported, Synchronized}
use Rattle.nq_check.specs.Rules.{keeps}
use Rattle.nq_check.specs.Stored.{AreStored}
use Rattle.nq_check.specs.Tables.{AreTables}
use Rattle.nq_check.specs.declared.tables.LinkTables.{LinkTables}

-- whether the entry at a place of a journal, the oldest first, keeps a rule
abbrev pub keeps_at : Rule → (whole : List Entry) (place : ℕ) → Entry → Bool
keeps_at rule whole place entry = keeps rule (reverse whole) (drop (place + 1) whole) entry (reverse (take place whole))

-- each entry at a place below a front keeps a rule
abbrev pub KeepsBelow : Rule → (whole : List Entry) (front : ℕ) → Type 0
KeepsBelow rule whole front = (place : ℕ) (entry : Entry) → place < front → slice_get whole place ≡ Some entry → keeps_at rule whole place entry ≡ true

-- the entries are linked, those before a place account for what they cover, and it is known which writes are stored
pub record AreKnown (whole : List Entry) (links : LinkTables) (fates : Fates) : Type 0 where
  pub tables : AreTables whole links
  pub accounted : KeepsBelow Accounted whole fates.accounted
  pub stored : AreStored whole fates.stored.items

-- it is so with each front, and it is known which writes are stored
pub record AreFronts (whole : List Entry) (fronts : Fronts) : Type 0 where
  pub ordered : KeepsBelow Ordered whole fronts.ordered
  pub accounted : KeepsBelow Accounted whole fronts.fates.accounted
  pub stored : AreStored whole fronts.fates.stored.items
  pub reported : KeepsBelow Reported whole fronts.reported
  pub synchronized : KeepsBelow Synchronized whole fronts.synchronized
