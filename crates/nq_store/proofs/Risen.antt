-- Where a store failed, its disk failed.
use Rattle.std.proofs.Common.{◌≡◌, ◌⊎◌, ◌≤◌, ℕ, inl, inr, subst, ◌∙◌, arith}
use Rattle.nq_io.specs.Faults.{Rose}
use Rattle.nq_store.specs.Storing.{GoesOn, HasRisen, IsFresh, RefusesNone, StoredStore, counted, faults_of}

-- a count that rose has risen
pub risen : (before now : ℕ) → Rose before now → HasRisen before now
risen before now (inl more) = inl more
risen before now (inr end) = let last = end.1 in inr (omega arith)

risen-counted : (before now : ℕ) → before ≤ now → Rose (counted before 0) (counted now 0) → HasRisen before now
risen-counted before now rises (inl more) = inl (omega arith)
risen-counted before now rises (inr end) = let last = end.1 in inr (omega arith)

module _ {D : Type 0} (faults : D → ℕ) (follows : D → D → Type 0) where
  by-cause : (store served : StoredStore D) → faults store.disk ≤ faults served.disk → store.refused ≡ 0
      → Rose (faults_of faults store) (faults_of faults served)
      → RefusesNone store served ⊎ Rose (faults store.disk) (faults served.disk) → HasRisen (faults store.disk) (faults served.disk)
  by-cause store served rises none rose (inr disk) = risen (faults store.disk) (faults served.disk) disk
  by-cause store served rises none rose (inl same) =
      let zero = same.none ∙ none in
      risen-counted (faults store.disk) (faults served.disk) rises
      (subst (λ (n : ℕ). Rose (counted (faults store.disk) 0) (counted (faults served.disk) n)) zero
      (subst (λ (n : ℕ). Rose (counted (faults store.disk) n) (faults_of faults served)) none rose))

  -- where a store that was fresh failed, its disk failed
  pub risen_over : (disk : D) (store served : StoredStore D) → ((first last : D) → follows first last → faults first ≤ faults last)
      → IsFresh store → faults store.disk ≡ faults disk → GoesOn faults follows store served → Rose (faults_of faults store) (faults_of faults served)
      → HasRisen (faults disk) (faults served.disk)
  risen_over disk store served rises fresh counts goes rose =
      subst (λ (n : ℕ). HasRisen n (faults served.disk)) counts
      (by-cause store served (rises store.disk served.disk goes.disk) fresh.none rose (goes.cause fresh.goes_on))
