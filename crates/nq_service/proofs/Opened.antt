-- What the opening of a disk tells of its store.
use Rattle.std.proofs.Common.{◌≡◌, ℕ, List, Option, Some, Result, Ok, Err, IfOk, inl, inr, ◌∙◌}
use Rattle.nq_plan.specs.Formatted.{TellsNothing}
use Rattle.nq_image.specs.Nothing.{nothing_kept}
use Rattle.nq_store.proofs.Emptied.{nothing_told}
use Rattle.nq_service.specs.Opening.{OpensOrMakes, OpensReady}
use Rattle.nq_store.specs.Storing.{StoredStore, content_of, kept_told}
use Rattle.nq_store.specs.declared.fault.OpenFault.{OpenFault}

module _ {D : Type 0} (told : D → Option (List ℕ)) (faults : D → ℕ) (may_leave : D → List ℕ → Type 0) (follows : D → D → Type 0)
    (leaves : D → D → List ℕ → Type 0) (disk : D) where
  -- a store that was opened stands on a disk that was made ready
  pub of_ok : (store : StoredStore D) → OpensOrMakes told faults may_leave follows leaves disk (Ok store)
      → OpensReady told faults may_leave follows leaves disk (Ok store)
  of_ok store (inl ready) = ready
  of_ok store (inr never) = let is = never.failed in absurd (cc)

  -- what a store keeps that was opened on what stands for nothing
  pub makes_from : (result : Result (StoredStore D) (OpenFault D)) (ready : Option (List ℕ)) → TellsNothing ready
      → IfOk result (λ store. content_of told store ≡ kept_told ready) → IfOk result (λ store. content_of told store ≡ Some nothing_kept)
  makes_from (Ok store) ready tells keeps = keeps ∙ nothing_told ready tells
  makes_from (Err fault) ready tells keeps = tt
