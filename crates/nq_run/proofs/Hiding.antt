-- No fault of a disk is hidden by what ran over its store.
use Rattle.std.proofs.Common.{◌≡◌, ◌⊎◌, ◌<◌, ◌≤◌, ◌-◌, ◌^◌, ℕ, inl, inr, refl, subst, sym, ◌∙◌, arith}
use Rattle.nq_base.proofs.Ends.{one_end}
use Rattle.nq_base.specs.Status.{status_of}
use Rattle.nq_base.specs.declared.ending.ending.Ending.{Ending}
use Rattle.nq_io.specs.Faults.{Rose}
use Rattle.nq_replay.specs.Ending.{CountsKeeper}
use Rattle.nq_run.specs.Running.{HidesNoFault}
use Rattle.nq_service.specs.Emptying.{EmptiesNot}
use Rattle.nq_store.proofs.Risen.{risen, risen_over}
use Rattle.nq_store.specs.Storing.{GoesOn, IsFresh, RefusesNone, StoredStore, counted, faults_of}

-- a store failed where the status says so
rose-by : (end : Ending) (code k k' : ℕ) → code ≡ status_of end → CountsKeeper end k k' → code ≡ status_of Ending.KeepFault → Rose k k'
rose-by end code k k' status counts six = subst (λ e. CountsKeeper e k k') (one_end end Ending.KeepFault code status six) counts

-- the keeper failed where its count does not stand still
fault-by : (end : Ending) (k k' : ℕ) → CountsKeeper end k k' → (k' ≡ k → ⊥) → end ≡ Ending.KeepFault
fault-by Ending.KeepFault k k' counts differs = refl
fault-by other k k' counts differs = absurd (differs counts)

-- ---- where no empty store was made

said-not : (end : Ending) (code before count : ℕ) → code ≡ status_of end → EmptiesNot end before count → before < count
    → code ≡ status_of Ending.KeepFault
said-not Ending.KeepFault code before count status fails more = status
said-not Ending.Memory code before count status fails more = absurd (omega arith)
said-not other code before count status fails more = absurd fails

failed-not : (end : Ending) (code before count : ℕ) → code ≡ status_of end → EmptiesNot end before count → code ≡ status_of Ending.KeepFault
    → Rose before count
failed-not end code before count status fails six = subst (λ e. EmptiesNot e before count) (one_end end Ending.KeepFault code status six) fails

pub hides_not : (end : Ending) (code before count : ℕ) → code ≡ status_of end → EmptiesNot end before count
    → HidesNoFault code before count before count
hides_not end code before count status fails = record {
  failed = λ six. risen before count (failed-not end code before count status fails six);
  said = λ more below. said-not end code before count status fails more;
  still = λ same. same;
}

-- ---- where the disk was not touched

pub hides_untouched : (code before k : ℕ) → (code ≡ status_of Ending.KeepFault → ⊥) → HidesNoFault code before before k k
hides_untouched code before k never = record {
  failed = λ six. absurd (never six);
  said = λ more below. absurd (omega arith);
  still = λ same. refl;
}

-- ---- over a store

-- the counts of a store and its disk, where no call was refused at first
differs : (a b r : ℕ) → a < b → a < 2 ^ 64 - 1 → counted b r ≡ counted a 0 → ⊥
differs a b r more below same = omega arith

-- a count at the end of its type stands still
stands-end : (a r : ℕ) → a ≡ 2 ^ 64 - 1 → counted a r ≡ counted a 0
stands-end a r end = omega arith

module _ {D : Type 0} (faults : D → ℕ) (follows : D → D → Type 0) where
  fresh-counts : (store : StoredStore D) → IsFresh store → faults_of faults store ≡ counted (faults store.disk) 0
  fresh-counts store fresh = subst (λ (n : ℕ). counted (faults store.disk) n ≡ counted (faults store.disk) 0) (sym fresh.none) refl

  still-by : (store served : StoredStore D) → store.refused ≡ 0 → faults served.disk ≡ faults store.disk
      → RefusesNone store served ⊎ Rose (faults store.disk) (faults served.disk)
      → faults_of faults served ≡ counted (faults store.disk) 0
  still-by store served none same (inl refuses) =
      subst (λ (n : ℕ). faults_of faults served ≡ counted n 0) same
      (subst (λ (n : ℕ). counted (faults served.disk) n ≡ counted (faults served.disk) 0) (sym (refuses.none ∙ none)) refl)
  still-by store served none same (inr (inl more)) = absurd (omega arith)
  still-by store served none same (inr (inr end)) =
      let first = end.0 in
      subst (λ (n : ℕ). counted n served.refused ≡ counted (faults store.disk) 0) (sym same)
      (stands-end (faults store.disk) served.refused first)

  pub hides_store : (end : Ending) (code : ℕ) (disk : D) (store served : StoredStore D) → code ≡ status_of end
      → ((first last : D) → follows first last → faults first ≤ faults last) → IsFresh store → faults store.disk ≡ faults disk
      → GoesOn faults follows store served → CountsKeeper end (faults_of faults store) (faults_of faults served)
      → HidesNoFault code (faults disk) (faults served.disk) (faults_of faults store) (faults_of faults served)
  hides_store end code disk store served status rises fresh same goes counts = record {
    failed = λ six. risen_over faults follows disk store served rises fresh same goes (rose-by end code (faults_of faults store)
        (faults_of faults served) status counts six);
    said = λ more below.
        let first = fresh-counts store fresh in
        let differ = differs (faults disk) (faults served.disk) served.refused more below in
        let is = fault-by end (faults_of faults store) (faults_of faults served) counts
        (λ stands. differ (stands ∙ first ∙ subst (λ (n : ℕ). counted (faults store.disk) 0 ≡ counted n 0) same refl)) in
        subst (λ e. code ≡ status_of e) is status;
    still = λ stands.
        still-by store served fresh.none (stands ∙ sym same) (goes.cause fresh.goes_on) ∙ sym (fresh-counts store fresh);
  }
