-- When serving fails, and when a disk is refused.
use Rattle.std.proofs.Common.{◌≡◌, ◌≤◌, ℕ, List, Option, Some, None, Result, Ok, Err, refl, ⊎_elim, arith}
use Rattle.std.specs.Option.{ForSome}
use Rattle.nq_base.specs.Status.{status_of}
use Rattle.nq_base.specs.declared.ending.ending.Ending.{Ending}
use Rattle.nq_plan.specs.Standing.{stands_as}
use Rattle.nq_serving.specs.Serving.{EndsBy}
use Rattle.nq_io.specs.Faults.{Rose}
use Rattle.nq_model.specs.protocol.Kept.{Kept}
use Rattle.nq_service.specs.Serving.{PrintsBehind, first_wrong}
use Rattle.nq_store.specs.Storing.{GoesOn, HasRisen, IsFresh, IsKept, StoredStore, faults_of, kept_of, kept_on}
use Rattle.nq_store.proofs.Risen.{risen_over}

-- ---- what a disk stands for

right-of : (stands : Option (Result Kept ℕ)) (kept : Kept) → kept_of stands ≡ Some kept → first_wrong stands ≡ None
right-of None kept is = absurd (cc)
right-of (Some (Err place)) kept is = absurd (cc)
right-of (Some (Ok found)) kept is = refl

right-on : (bytes : List ℕ) → IsKept bytes → first_wrong (stands_as bytes) ≡ None
unfolding kept_on
right-on bytes kept = right-of (stands_as bytes) kept.0 kept.1

-- no byte is wrong of what stands for a kept state
pub right_of : (told : Option (List ℕ)) → ForSome told IsKept → ForSome told (λ bytes. first_wrong (stands_as bytes) ≡ None)
right_of told kept = λ bytes is. right-on bytes (kept bytes is)

-- ---- the end that a status tells

rose-by : (end : Ending) (code : ℕ) (content : Option Kept) (keep keep' link link' w w' between : ℕ) (held now : Option (List ℕ))
    → EndsBy end content keep keep' link link' w between → PrintsBehind end code held now between w' → code ≡ 6 → Rose keep keep'
rose-by Ending.Done code content keep keep' link link' w w' between held now ends prints six = let is = prints.0 in absurd (omega arith)
rose-by Ending.WriteFault code content keep keep' link link' w w' between held now ends prints six = let is = prints.0 in absurd (omega arith)
rose-by Ending.KeepFault code content keep keep' link link' w w' between held now ends prints six = ends
rose-by Ending.Memory code content keep keep' link link' w w' between held now ends prints six = let is = prints.0 in absurd (omega arith)
rose-by Ending.LinkFault code content keep keep' link link' w w' between held now ends prints six = let is = prints.0 in absurd (omega arith)
rose-by Ending.Spent code content keep keep' link link' w w' between held now ends prints six =
    ⊎_elim (λ told. let is = told.0 in absurd (omega arith)) (λ lacks. let is = lacks.0 in absurd (omega arith)) prints
rose-by Ending.Usage code content keep keep' link link' w w' between held now ends prints six = absurd ends
rose-by Ending.Script code content keep keep' link link' w w' between held now ends prints six = absurd ends
rose-by Ending.Skew code content keep keep' link link' w w' between held now ends prints six = absurd ends
rose-by Ending.ReadFault code content keep keep' link link' w w' between held now ends prints six = absurd ends
rose-by Ending.Limit code content keep keep' link link' w w' between held now ends prints six = absurd ends
rose-by Ending.NoAnswer code content keep keep' link link' w w' between held now ends prints six = absurd ends
rose-by Ending.NotSound code content keep keep' link link' w w' between held now ends prints six = absurd ends

-- ---- a store that failed

module _ {D : Type 0} (faults : D → ℕ) (follows : D → D → Type 0) where
  -- where the status says that the keeper failed, the disk failed
  pub failed_by : (end : Ending) (code : ℕ) (disk : D) (store served : StoredStore D) (content : Option Kept) (link link' : ℕ)
      (held now : Option (List ℕ)) (w w' between : ℕ)
      → ((first last : D) → follows first last → faults first ≤ faults last) → IsFresh store → faults store.disk ≡ faults disk
      → GoesOn faults follows store served → EndsBy end content (faults_of faults store) (faults_of faults served) link link' w between
      → PrintsBehind end code held now between w' → code ≡ status_of Ending.KeepFault → HasRisen (faults disk) (faults served.disk)
  failed_by end code disk store served content link link' held now w w' between rises fresh counts goes ends prints six =
      risen_over faults follows disk store served rises fresh counts goes
      (rose-by end code content (faults_of faults store) (faults_of faults served) link link' w w' between held now ends prints six)
