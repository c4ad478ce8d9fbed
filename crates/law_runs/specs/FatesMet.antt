-- There is a schedule after which delayed writes had each fate: the premises of the laws are met.
use Rattle.std.specs.Prelude.{◌⊎◌, ℕ, List, [], ◌∷◌}
use Rattle.nq_base.specs.declared.Entry.{Entry}
use Rattle.nq_base.specs.declared.Event.{Event}
use Rattle.nq_model.specs.laws.Fate.{IsDelayed, IsEnded, IsWaiting}
use Rattle.nq_model.specs.laws.Journal.{IsStored, IsLost}
use Rattle.nq_model.specs.protocol.Skew.{IsWithinSkew}
use Rattle.nq_model.specs.protocol.World.{Head, World, run}
use Rattle.nq_model.specs.laws.Bounds.{KeepsBounds}
use Rattle.nq_model.specs.laws.WritesAreAccounted.{IsStillUnsaved}

-- a fact of some entry, of what stands before it, and of what stands after it in the order of time
abbrev pub AtSomePlace : (List Entry → Entry → List Entry → Type 0) → (after : List Entry) → List Entry → Type 0
AtSomePlace Fact after [] = ⊥
AtSomePlace Fact after (entry ∷ before) = Fact after entry before ⊎ AtSomePlace Fact (entry ∷ after) before

-- one delayed write was stored, a second was lost, a third ended as its host started again, and a fourth, of the incarnation
-- that runs, waits at its client
pub record ShowsEachFate (w : World) : Type 0 where
  pub stored : AtSomePlace (λ after write before. IsDelayed write × IsStored w.journal write) [] w.journal
  pub lost : AtSomePlace (λ after write before. IsDelayed write × IsLost w.journal write) [] w.journal
  pub ended : AtSomePlace (λ after write before. IsEnded w.journal after write) [] w.journal
  pub waiting : AtSomePlace (λ after write before. IsWaiting w.journal after write × IsStillUnsaved w write) [] w.journal

-- the premises are met, and not in vain: there is such a schedule, within bounds and within skew
pub record HasEachFate : Type 0 where
  pub most : ℕ
  pub head : Head
  pub events : List Event
  pub bounds : KeepsBounds most head events
  pub within : IsWithinSkew head.hosts most events
  pub shows : ShowsEachFate (run head events)
