-- When serving fails.
use Rattle.std.proofs.Common.{◌≡◌, ◌⊎◌, ◌<◌, ◌≤◌, ◌^◌, ◌-◌, ◌∙◌, ℕ, Option, Result, Ok, Err, inl, inr, subst, ap, arith}
use Rattle.std.proofs.lemmas.Bool.{cases_lt}
use Rattle.nq_serving.specs.Running.{HaltsBy}
use Rattle.nq_serving.specs.declared.turning.LinkPolicy.{LinkPolicy}
use Rattle.nq_base.specs.declared.ending.fault.Fault.{Fault}
use Rattle.nq_io.specs.Faults.{Rose}
use Rattle.nq_model.specs.protocol.Kept.{Kept}
use Rattle.nq_service.specs.MountServing.{StoodStill}
use Rattle.nq_store.specs.Storing.{GoesOn, HasRisen, IsFresh, StoredStore, counted, faults_of}
use Rattle.nq_store.proofs.Risen.{risen_over}

stood-below : (before now refused : ℕ) → before ≤ now → counted now refused ≡ counted before 0 → before < 2 ^ 64 - 1 → now ≡ before
stood-below before now refused rises same below = omega arith

stood : (before now refused : ℕ) → before ≤ now → counted now refused ≡ counted before 0 → (before < 2 ^ 64 - 1) ⊎ (2 ^ 64 - 1 ≤ before)
    → StoodStill before now
stood before now refused rises same (inl below) = inl (stood-below before now refused rises same below)
stood before now refused rises same (inr end) = inr end

module _ {D : Type 0} (faults : D → ℕ) (follows : D → D → Type 0) where
  -- where the keeper failed, the disk failed
  pub failed_by : (ended : Result Unit Fault) (disk : D) (store served : StoredStore D) (content : Option Kept) (link link' : ℕ)
      → ((first last : D) → follows first last → faults first ≤ faults last) → IsFresh store → faults store.disk ≡ faults disk
      → GoesOn faults follows store served → HaltsBy LinkPolicy.GoOn ended content (faults_of faults store) (faults_of faults served) link link'
      → ended ≡ Err Fault.Keep → HasRisen (faults disk) (faults served.disk)
  failed_by ended disk store served content link link' rises fresh counts goes ends keep =
      let rose : Rose (faults_of faults store) (faults_of faults served) =
      subst (λ (e : Result Unit Fault). HaltsBy LinkPolicy.GoOn e content (faults_of faults store) (faults_of faults served) link link') keep ends in
      risen_over faults follows disk store served rises fresh counts goes rose

  -- where all turns were taken, the disk did not fail
  pub stood_still : (ended : Result Unit Fault) (disk : D) (store served : StoredStore D) (content : Option Kept) (link link' : ℕ)
      → ((first last : D) → follows first last → faults first ≤ faults last) → IsFresh store → faults store.disk ≡ faults disk
      → GoesOn faults follows store served → HaltsBy LinkPolicy.GoOn ended content (faults_of faults store) (faults_of faults served) link link'
      → ended ≡ Ok tt → StoodStill (faults disk) (faults served.disk)
  stood_still ended disk store served content link link' rises fresh counts goes ends done =
      let so = subst (λ (e : Result Unit Fault). HaltsBy LinkPolicy.GoOn e content (faults_of faults store) (faults_of faults served) link link') done ends in
      let same = so.1 ∙ ap (λ (n : ℕ). counted (faults store.disk) n) fresh.none in
      subst (λ (n : ℕ). StoodStill n (faults served.disk)) counts
      (stood (faults store.disk) (faults served.disk) served.refused (rises store.disk served.disk goes.disk) same
      (cases_lt (faults store.disk) (2 ^ 64 - 1)))
