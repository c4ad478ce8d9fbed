-- What the clauses of a commit say of a store, by what happened to its fields.
use Rattle.std.proofs.Common.{◌≡◌, ◌⊎◌, ℕ, Bool, true, false, List, Option, Result, Ok, Err, sym, ap, subst, ◌∙◌, inl, inr, ⊎_elim, arith}
use Rattle.std.specs.Option.{ForSome}
use Rattle.nq_base.specs.declared.Change.{Change}
use Rattle.nq_io.specs.Faults.{Rose}
use Rattle.nq_keeper.specs.Keeping.{Commits, LeavesOne, LeavesTwo, Reads, told_after}
use Rattle.nq_keeper.specs.declared.keeper.KeepFault.{KeepFault}
use Rattle.nq_keeper.specs.declared.keeper.KeepFault.TheVariants.{Failed, Memory}
use Rattle.nq_model.specs.protocol.Kept.{Kept}
use Rattle.nq_plan.specs.Held.{HeldTables}
use Rattle.nq_store.specs.Storing.{CountsKeep, GoesOn, IsSound, LeavesKept, StoredStore, content_of, content_while, counted, faults_of, kept_told}
use Rattle.nq_store.proofs.Keeping.{rose-counted}

-- a store of these fields
abbrev pub stored : {D : Type 0} → D → HeldTables → Bool → ℕ → StoredStore D
stored disk tables ended refused = record { disk = disk; tables = tables; ended = ended; refused = refused }

pub tables-in : {D : Type 0} (view store : StoredStore D) → view ≡ store → store.tables ≡ view.tables
tables-in {D} view store is = ap (λ (s : StoredStore D). s.tables) (sym is)

pub sound-in : {D : Type 0} (told : D → Option (List ℕ)) (may : D → List ℕ → Type 0) (view store : StoredStore D) → view ≡ store
    → IsSound (told view.disk) (may view.disk) view.tables view.ended → IsSound (told store.disk) (may store.disk) store.tables store.ended
sound-in {D} told may view store is sound = subst (λ (s : StoredStore D). IsSound (told s.disk) (may s.disk) s.tables s.ended) is sound

pub leaves-in : {D : Type 0} (told : D → Option (List ℕ)) (leaves : D → D → List ℕ → Type 0) (view store : StoredStore D) (now : D) → view ≡ store
    → LeavesOne (content_of told view) (LeavesKept (leaves view.disk now)) → LeavesOne (content_of told store) (LeavesKept (leaves store.disk now))
leaves-in {D} told leaves view store now is left = subst (λ (s : StoredStore D). LeavesOne (content_of told s) (LeavesKept (leaves s.disk now))) is left

pub told-at : {D : Type 0} (told : D → Option (List ℕ)) (P : List ℕ → Type 0) (view store : StoredStore D) → view ≡ store → ForSome (told view.disk) P
    → ForSome (told store.disk) P
told-at {D} told P view store is for = subst (λ (s : StoredStore D). ForSome (told s.disk) P) is for

module _ {D : Type 0} (view store : StoredStore D) (is : view ≡ store) (goes : store.ended ≡ false) where
  pub goes-in : view.ended ≡ false
  goes-in = ap (λ (s : StoredStore D). s.ended) is ∙ goes

  told-in : (told : D → Option (List ℕ)) → content_of told view ≡ kept_told (told view.disk)
  told-in told = ap (λ (b : Bool). content_while b (told view.disk)) goes-in

  told-of : (told : D → Option (List ℕ)) → content_of told store ≡ kept_told (told view.disk)
  told-of told = ap (λ (s : StoredStore D). content_of told s) (sym is) ∙ told-in told

  pub asked-in : (told : D → Option (List ℕ)) (P : Kept → Type 0) → ForSome (content_of told store) P → ForSome (kept_told (told view.disk)) P
  asked-in told P for = subst (λ (o : Option Kept). ForSome o P) (told-of told) for

  module _ (new : StoredStore D) (same : new.refused ≡ view.refused) where
    counts-as : (faults : D → ℕ) → faults_of faults store ≡ counted (faults view.disk) view.refused
    counts-as faults = ap (λ (s : StoredStore D). faults_of faults s) (sym is)

    counts-now : (faults : D → ℕ) → faults_of faults new ≡ counted (faults new.disk) view.refused
    counts-now faults = ap (λ (n : ℕ). counted (faults new.disk) n) same

    pub commits-ok : (change : Change) (told : D → Option (List ℕ)) (faults : D → ℕ) → new.ended ≡ view.ended → kept_told (told new.disk)
        ≡ told_after change (kept_told (told view.disk)) → faults new.disk ≡ faults view.disk → Commits (Ok tt) change (content_of told store)
        (content_of told new) (faults_of faults store) (faults_of faults new)
    commits-ok change told faults still tells count = (
      ap (λ (b : Bool). content_while b (told new.disk)) (still ∙ goes-in) ∙ tells ∙ sym (ap (told_after change) (told-of told)),
      counts-now faults ∙ ap (λ (n : ℕ). counted n view.refused) count ∙ sym (counts-as faults),
    )

    pub commits-failed : (change : Change) (told : D → Option (List ℕ)) (faults : D → ℕ) → new.ended ≡ true → Rose (faults view.disk)
        (faults new.disk) → Commits (Err Failed) change (content_of told store) (content_of told new) (faults_of faults store) (faults_of faults new)
    commits-failed change told faults ended rose =
        let Counts : ℕ → ℕ → Type 0 = λ before now. Rose before now in
        let risen = rose-counted (faults view.disk) (faults new.disk) view.refused rose in (
          inr (ap (λ (b : Bool). content_while b (told new.disk)) ended),
          subst (λ (n : ℕ). Counts n (faults_of faults new)) (sym (counts-as faults))
              (subst (λ (n : ℕ). Counts (counted (faults view.disk) view.refused) n) (sym (counts-now faults)) risen),
        )

    pub follows-so : (faults : D → ℕ) (follows : D → D → Type 0) → (new.ended ≡ view.ended) ⊎ Rose (faults view.disk) (faults new.disk)
        → follows view.disk new.disk → GoesOn faults follows store new
    follows-so faults follows why goes_on = record {
      disk = subst (λ (s : StoredStore D). follows s.disk new.disk) is goes_on;
      refused = let a = same in let b = ap (λ (s : StoredStore D). s.refused) is in omega arith;
      cause = λ going. ⊎_elim (λ still. inl (record { goes_on = still ∙ goes-in; none = same ∙ ap (λ (s : StoredStore D). s.refused) is }))
          (λ rose. inr (subst (λ (s : StoredStore D). Rose (faults s.disk) (faults new.disk)) is rose)) why;
    }

    pub leaves-so : (change : Change) (told : D → Option (List ℕ)) (leaves : D → D → List ℕ → Type 0) → LeavesTwo change (kept_told (told view.disk))
        (LeavesKept (leaves view.disk new.disk)) → LeavesTwo change (content_of told store) (LeavesKept (leaves store.disk new.disk))
    leaves-so change told leaves left =
        let At : StoredStore D → Type 0 = λ s. LeavesTwo change (content_of told store) (LeavesKept (leaves s.disk new.disk)) in
        subst At is (subst (λ (o : Option Kept). LeavesTwo change o (LeavesKept (leaves view.disk new.disk))) (sym (told-of told)) left)

    content-same : (told : D → Option (List ℕ)) → new.ended ≡ view.ended → told new.disk ≡ told view.disk → content_of told new ≡ content_of told store
    content-same told still tells =
        ap (λ (b : Bool). content_while b (told new.disk)) (still ∙ goes-in) ∙ ap kept_told tells ∙ sym (told-of told)

    counts-same : (faults : D → ℕ) → faults new.disk ≡ faults view.disk → faults_of faults new ≡ faults_of faults store
    counts-same faults count = counts-now faults ∙ ap (λ (n : ℕ). counted n view.refused) count ∙ sym (counts-as faults)

    counts-rose : (faults : D → ℕ) → Rose (faults view.disk) (faults new.disk) → Rose (faults_of faults store) (faults_of faults new)
    counts-rose faults rose =
        let Counts : ℕ → ℕ → Type 0 = λ before now. Rose before now in
        let risen = rose-counted (faults view.disk) (faults new.disk) view.refused rose in
        subst (λ (n : ℕ). Counts n (faults_of faults new)) (sym (counts-as faults))
        (subst (λ (n : ℕ). Counts (counted (faults view.disk) view.refused) n) (sym (counts-now faults)) risen)

    -- a call that reads the disk
    pub reads-so : (X : Type 0) (result : Result X KeepFault) (told : D → Option (List ℕ)) (faults : D → ℕ) → new.ended ≡ view.ended → told new.disk
        ≡ told view.disk → CountsKeep result (faults view.disk) (faults new.disk) → Reads result (content_of told store) (content_of told new)
        (faults_of faults store) (faults_of faults new)
    reads-so X (Ok answer) told faults still tells count = (content-same told still tells, counts-same faults count)
    reads-so X (Err Memory) told faults still tells count = (content-same told still tells, counts-same faults count)
    reads-so X (Err Failed) told faults still tells count = (inl (content-same told still tells), counts-rose faults count)
