-- What the clauses of any keeper say of a keeper in memory, by what its calls do.
use Rattle.std.proofs.Common.{◌≡◌, ◌⊎◌, Bool, true, false, List, [], Option, Some, Result, Ok, Err, if◌then◌else◌, refl, sym, subst, ap, ◌∙◌, inl, inr}
use Rattle.std.specs.Prelude.{IfOk, replicate}
use Rattle.std.specs.Option.{ForSome}
use Rattle.nq_base.specs.declared.Change.{Change}
use Rattle.nq_base.specs.declared.HostRow.{HostRow}
use Rattle.nq_io.specs.Calls.{CallCounts, is_next_listed}
use Rattle.nq_keeper.specs.declared.keeper.KeepFault.{KeepFault}
use Rattle.nq_keeper.specs.declared.keeper.KeepFault.TheVariants.{Failed}
use Rattle.nq_keeper.specs.Keeping.{LeavesTwo}
use Rattle.nq_keeper.specs.StoredKeeper.{StoredKeeper, LeavesEither, answer_of, empty_kept, told_of}
use Rattle.nq_keeper.specs.Bounds.{told-kept}
use Rattle.nq_model.specs.protocol.Change.{Fits, IsChangeWithin, IsWithinBounds, applied, kept_as}
use Rattle.nq_model.specs.protocol.Kept.{File, Kept, fresh_row}
use Rattle.nq_model.specs.protocol.Profile.{most_hosts}
use Rattle.nq_model.proofs.WithinBounds.{within-applied}

-- what holds of what is kept holds of what is told
of-told : (P : Kept → Type 0) (kept : Kept) → IsWithinBounds kept → P kept → ForSome (Some (told_of kept)) P
of-told P kept o holds = λ x e. let same : told_of kept ≡ x = cc in subst P (sym (told-kept kept o) ∙ same) holds

-- ---- through the fields of a keeper

-- what holds of what the fields keep holds of what is told
pub told-as : (keeper : StoredKeeper) (kept : Kept) (calls : CallCounts) (P : Kept → Type 0) → record { kept = kept; calls = calls } ≡ keeper
    → IsWithinBounds kept → P kept → (x : Kept) → Some (told_of keeper.kept) ≡ Some x → P x
told-as keeper kept calls P view o holds x e = of-told P kept o holds x (ap (λ k. Some (told_of k.kept)) view ∙ e)

-- and what is asked of what is told is asked of what the fields keep
pub asked-as : (keeper : StoredKeeper) (kept : Kept) (calls : CallCounts) (P : Kept → Type 0) → record { kept = kept; calls = calls } ≡ keeper
    → IsWithinBounds kept → ((x : Kept) → Some (told_of keeper.kept) ≡ Some x → P x) → P kept
asked-as keeper kept calls P view o for = for kept (sym (ap (λ k. Some (told_of k.kept)) view) ∙ ap (λ k. Some k) (told-kept kept o))

-- ---- a call that reads

answered : {X : Type 0} (b : Bool) (found : X) → let answer : Result X KeepFault = if b then Err Failed else Ok found in IfOk answer (λ y. y ≡ found)
answered true found = tt
answered false found = refl

-- what was found in what the fields keep is found in what is told
pub tells : {X : Type 0} (keeper : StoredKeeper) (kept : Kept) (calls : CallCounts) (x : Kept → X) (found : X) (result : Result X KeepFault)
    → record { kept = kept; calls = calls } ≡ keeper → IsWithinBounds kept → found ≡ x kept → result ≡ answer_of calls found
    → ForSome (Some (told_of keeper.kept)) (λ told. IfOk result (λ y. y ≡ x told))
tells keeper kept calls x found result view o is answer =
    told-as keeper kept calls (λ told. IfOk result (λ y. y ≡ x told)) view o
    (subst (λ v. IfOk result (λ y. y ≡ v)) is (subst (λ r. IfOk r (λ y. y ≡ found)) (sym answer) (answered (is_next_listed calls) found)))

-- ---- a commit

pub told-applied : (kept : Kept) (change : Change) → IsWithinBounds kept → Fits kept change → IsChangeWithin kept change
    → told_of (applied kept change) ≡ applied (told_of kept) change
told-applied kept change o fits own =
    told-kept (applied kept change) (within-applied kept change o fits own) ∙ ap (λ k. applied k change) (sym (told-kept kept o))

module _ (old new : StoredKeeper) (change : Change) (o : IsWithinBounds old.kept) (fits : Fits old.kept change) (own : IsChangeWithin old.kept change) where
  pub leaves-two : new.kept ≡ applied old.kept change → LeavesTwo change (Some (told_of old.kept)) (LeavesEither old new)
  leaves-two is = λ kept e found left. by kept e found left
    where
      by : (kept : Kept) → Some (told_of old.kept) ≡ Some kept → (found : Option Kept) → LeavesEither old new found → (found ≡ Some kept)
          ⊎ (found ≡ Some (applied kept change))
      by kept e found (inl left) = inl (left ∙ e)
      by kept e found (inr left) =
          let told : told_of old.kept ≡ kept = cc in
          inr (left ∙ ap (λ k. Some (told_of k)) is ∙ ap (λ k. Some k) (told-applied old.kept change o fits own ∙ ap (λ k. applied k change) told))

-- ---- a new keeper

pub as-empty : (files : List File) (hosts : List HostRow) → files ≡ [] → hosts ≡ replicate most_hosts fresh_row
    → kept_as files hosts (record { boot = 0; opened = 0; longest = 60; next = 1 }) ≡ empty_kept
unfolding kept_as
as-empty files hosts none fresh = ap (λ fs. kept_as fs hosts (record { boot = 0; opened = 0; longest = 60; next = 1 })) none
    ∙ ap (λ hs. kept_as [] hs (record { boot = 0; opened = 0; longest = 60; next = 1 })) fresh
