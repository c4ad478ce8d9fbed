-- Reading what a server keeps, call by call.
use Rattle.std.proofs.Common.{◌≡◌, ◌∙◌, ◌⊎◌, ℕ, Option, Some, Result, Ok, Err, inl, inr, subst}
use Rattle.nq_io.specs.Faults.{Rose}
use Rattle.nq_keeper.specs.Keeping.{Reads, StaysOrEnds}
use Rattle.nq_keeper.specs.declared.KeepFault.{KeepFault}
use Rattle.nq_keeper.specs.declared.KeepFault.TheVariants as keep
use Rattle.nq_model.specs.protocol.Kept.{Kept}
use Rattle.nq_server.specs.Holding.{Holding}
use Rattle.nq_serving.specs.Extending.{ReadsOnly}

-- reading on behind a call that did not fail
reads-on : {B : Type 0} (result : Result B KeepFault) (first middle last : Option Kept) (before mid now : ℕ) → middle ≡ first → mid ≡ before
    → Reads result middle last mid now → Reads result first last before now
reads-on (Ok b) first middle last before mid now same count r = (r.0 ∙ same, r.1 ∙ count)
reads-on (Err keep.Memory) first middle last before mid now same count r = (r.0 ∙ same, r.1 ∙ count)
reads-on (Err keep.Failed) first middle last before mid now same count r =
    (subst (λ told. StaysOrEnds told last) same r.0, subst (λ n. Rose n now) count r.1)

-- why a call failed does not depend on what it was to give
reads-as : (A B : Type 0) (why : KeepFault) (told tells : Option Kept) (before now : ℕ) → Reads {X = A} (Err why) told tells before now
    → Reads {X = B} (Err why) told tells before now
reads-as A B keep.Memory told tells before now r = r
reads-as A B keep.Failed told tells before now r = r

module _ {K : Type 0} (content : K → Option Kept) (faults : K → ℕ) (follows : K → K → Type 0) (leaves : K → K → Option Kept → Type 0) where
  -- the same calls, for another value
  pub read_as : {A B : Type 0} (a : A) (b : B) (old new : Holding K) → ReadsOnly content faults follows leaves (Ok a) old new
      → ReadsOnly content faults follows leaves (Ok b) old new
  read_as a b old new r = record { untouched = r.untouched; reads = r.reads; same = r.same; left = r.left }

  -- the same calls, which failed
  pub failed_as : (A B : Type 0) (why : KeepFault) (old new : Holding K) → ReadsOnly {A = A} content faults follows leaves (Err why) old new
      → ReadsOnly {A = B} content faults follows leaves (Err why) old new
  failed_as A B why old new r = record {
    untouched = r.untouched;
    reads = reads-as A B why (content old.keeper) (content new.keeper) (faults old.keeper) (faults new.keeper) r.reads;
    same = r.same;
    left = r.left;
  }

  -- some calls behind others that did not fail
  pub reads_behind : {A B : Type 0} (a : A) (result : Result B KeepFault) (first middle last : Holding K)
      → ((a b c : K) → follows a b → follows b c → follows a c)
      → ((a b c : K) (found : Option Kept) → follows a b → follows b c → leaves a c found → leaves a b found ⊎ leaves b c found)
      → ReadsOnly content faults follows leaves (Ok a) first middle → ReadsOnly content faults follows leaves result middle last
      → ReadsOnly content faults follows leaves result first last
  reads_behind a result first middle last on parts x y =
      record {
        untouched = record { beside = y.untouched.beside ∙ x.untouched.beside; taken = y.untouched.taken ∙ x.untouched.taken };
        reads = reads-on result (content first.keeper) (content middle.keeper) (content last.keeper) (faults first.keeper) (faults middle.keeper)
            (faults last.keeper) x.reads.0 x.reads.1 y.reads;
        same = on first.keeper middle.keeper last.keeper x.same y.same;
        left = λ kept told found l. split kept told found (parts first.keeper middle.keeper last.keeper found x.same y.same l);
      }
    where
      split : (kept : Kept) → content first.keeper ≡ Some kept → (found : Option Kept)
          → leaves first.keeper middle.keeper found ⊎ leaves middle.keeper last.keeper found → found ≡ Some kept
      split kept told found (inl l) = x.left kept told found l
      split kept told found (inr l) = y.left kept (x.reads.0 ∙ told) found l
