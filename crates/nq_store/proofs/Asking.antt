-- What a call of a store does that is answered out of memory, or refused.
use Rattle.std.proofs.Common.{◌≡◌, ◌≤◌, ℕ, Bool, true, false, List, Option, Result, Ok, Err, refl, sym, ap, subst, ◌∙◌, inl}
use Rattle.nq_base.specs.declared.Change.{Change}
use Rattle.nq_io.specs.Faults.{count_up}
use Rattle.nq_keeper.specs.Keeping.{Commits, LeavesOne, LeavesTwo, Reads}
use Rattle.nq_keeper.specs.declared.keeper.KeepFault.{KeepFault}
use Rattle.nq_keeper.specs.declared.keeper.KeepFault.TheVariants.{Failed}
use Rattle.nq_model.specs.protocol.Kept.{Kept}
use Rattle.nq_store.specs.Storing.{GoesOn, IsSound, LeavesKept, StaysForMemory, StoredStore, after_asking, answered, content_of, faults_of, refusals}
use Rattle.nq_store.proofs.Keeping.{leaves-same, rose-refused}

true-false : (b : Bool) → b ≡ true → b ≡ false → ⊥
true-false b here off = cc

module _ {D : Type 0} (store new : StoredStore D) where
  asking-as : (b : Bool) → store.ended ≡ b → after_asking store ≡ record store { refused = refusals b store.refused }
  asking-as b is = ap (λ (c : Bool). record store { refused = refusals c store.refused }) is

  -- a call that is refused
  module _ (ended : store.ended ≡ true) (is : new ≡ record store { refused = count_up store.refused }) where
    pub refused-answer : {X : Type 0} (x : X) → Err Failed ≡ answered store.ended x
    refused-answer {X} x = let Answers : Bool → Type 0 = λ b. Err Failed ≡ answered b x in subst Answers (sym ended) refl

    pub refused-store : new ≡ after_asking store
    refused-store = is ∙ sym (asking-as true ended)

    pub refused-reads : (X : Type 0) (told : D → Option (List ℕ)) (faults : D → ℕ) → Reads {X = X} (Err Failed) (content_of told store)
        (content_of told new) (faults_of faults store) (faults_of faults new)
    refused-reads X told faults =
        let Done : StoredStore D → Type 0 = λ s. Reads {X = X} (Err Failed) (content_of told store) (content_of told s) (faults_of faults store)
        (faults_of faults s) in
        subst Done (sym is) (inl refl, rose-refused (faults store.disk) store.refused)

    pub refused-follows : (faults : D → ℕ) (follows : D → D → Type 0) → ((disk : D) → follows disk disk) → store.refused ≤ new.refused
        → GoesOn faults follows store new
    refused-follows faults follows itself rises = record {
      disk = subst (λ (s : StoredStore D). follows store.disk s.disk) (sym is) (itself store.disk);
      refused = rises;
      cause = λ goes. absurd (true-false store.ended ended goes);
    }

    pub refused-leaves : (told : D → Option (List ℕ)) (leaves : D → D → List ℕ → Type 0) → LeavesOne (content_of told store)
        (LeavesKept (leaves store.disk new.disk))
    refused-leaves told leaves =
        let None_told : Bool → Type 0 = λ b. LeavesOne (content_of told (record store { ended = b })) (LeavesKept (leaves store.disk new.disk)) in
        subst None_told (sym ended) (λ kept e. absurd (cc))

  -- a call that is answered
  module _ (goes : store.ended ≡ false) where
    pub told-ok : {X : Type 0} (x : X) → Ok x ≡ answered store.ended x
    told-ok {X} x = let Answers : Bool → Type 0 = λ b. Ok x ≡ answered b x in subst Answers (sym goes) refl

    pub told-store : store ≡ after_asking store
    told-store = sym (asking-as false goes)

pub told-leaves : {D : Type 0} (store : StoredStore D) (told : D → Option (List ℕ)) (may : D → List ℕ → Type 0) (leaves : D → D → List ℕ → Type 0)
    → IsSound (told store.disk) (may store.disk) store.tables store.ended → ((disk : D) (image : List ℕ) → leaves disk disk image → may disk image)
    → LeavesOne (content_of told store) (LeavesKept (leaves store.disk store.disk))
told-leaves store told may leaves sound now = leaves-same store.ended (told store.disk) store.tables (may store.disk) (leaves store.disk store.disk)
    sound (now store.disk)

-- nothing is changed by a commit that is refused
pub refused-commits : (result : Result (Unit {0}) KeepFault) (change : Change) (ended : Bool) (told tells : Option Kept) (before now : ℕ)
    → ended ≡ true → result ≡ answered ended tt → Reads result told tells before now → Commits result change told tells before now
refused-commits result change ended told tells before now is answer reads =
    let failed : result ≡ Err Failed = let Answers : Bool → Type 0 = λ b. result ≡ answered b tt in subst Answers is answer in
    subst (λ (r : Result (Unit {0}) KeepFault). Commits r change told tells before now) (sym failed) (subst (λ (r : Result (Unit {0}) KeepFault).
    Reads r told tells before now) failed reads)

pub refused-stays : {D : Type 0} (result : Result (Unit {0}) KeepFault) (ended : Bool) (before now : StoredStore D) → ended ≡ true → result ≡ answered ended tt
    → StaysForMemory result before now
refused-stays result ended before now is answer =
    let failed : result ≡ Err Failed = let Answers : Bool → Type 0 = λ b. result ≡ answered b tt in subst Answers is answer in
    subst (λ (r : Result (Unit {0}) KeepFault). StaysForMemory r before now) (sym failed) tt

pub one-two : (change : Change) (told : Option Kept) (leaves : Option Kept → Type 0) → LeavesOne told leaves → LeavesTwo change told leaves
one-two change told leaves one = λ kept e found left. inl (one kept e found left)
