-- What a stop within serving leaves, from what one leaves before the store was opened and behind it.
use Rattle.std.proofs.Common.{◌≡◌, ◌⊎◌, ◌≤◌, ℕ, List, Option, Some, Result, Ok, Err, IfOk, OnOk, refl, sym, ap, subst, ◌∙◌}
use Rattle.std.specs.Option.{ForSome}
use Rattle.nq_base.specs.declared.ending.ending.Ending.{Ending}
use Rattle.nq_base.specs.declared.ending.fault.Fault.{Fault}
use Rattle.nq_serving.specs.Extending.{no_extension}
use Rattle.nq_serving.specs.LeavingTurns.{IsLeftInRuns, LeavesServing}
use Rattle.nq_serving.specs.Serving.{Tells}
use Rattle.nq_serving.specs.declared.turning.LinkPolicy.{LinkPolicy}
use Rattle.nq_clock.specs.Clocks.{ClockTold}
use Rattle.nq_link.specs.Links.{LinkTold}
use Rattle.nq_service.specs.Serving.{EndsServing, ServesStore, StaysSame, Survives}
use Rattle.nq_store.specs.Opening.{AnswersOpen, FollowsOpen, LeavesLike, disk_of}
use Rattle.nq_store.specs.Storing.{GoesOn, HasRisen, IsFresh, IsKept, LeavesKept, StoredStore, content_of, faults_of, kept_on, kept_told}
use Rattle.nq_store.specs.declared.fault.OpenFault.{OpenFault}
use Rattle.nq_service.proofs.Failing.{failed_by, right_of}
use Rattle.nq_service.proofs.LeftFirst.{left_either, left_first, left_same}

-- a disk that was only opened
pub stays_same : (told : Option (List ℕ)) (before leaves : List ℕ → Type 0) → ((bytes : List ℕ) → told ≡ Some bytes → before bytes)
    → LeavesLike told before leaves → ForSome told (λ bytes. StaysSame before leaves)
stays_same told before leaves stays like = λ bytes is kept same image left. left_same kept bytes image before (stays bytes is) same (like bytes is
    image left)

module _ {D : Type 0} (told : D → Option (List ℕ)) (faults : D → ℕ) (may_leave : D → List ℕ → Type 0) (follows : D → D → Type 0)
    (leaves : D → D → List ℕ → Type 0) where
  survives : (longest turns : ℕ) (disk : D) (store : StoredStore D) (ended : Result Unit Fault) (left : StoredStore D)
      (clock clock' : ClockTold) (link link' : LinkTold)
      → ((bytes : List ℕ) → told disk ≡ Some bytes → may_leave disk bytes)
      → ((image : List ℕ) → leaves disk left.disk image → leaves disk store.disk image ⊎ leaves store.disk left.disk image)
      → LeavesLike (told disk) (may_leave disk) (leaves disk store.disk)
      → content_of told store ≡ kept_told (told disk)
      → LeavesServing (content_of told) (faults_of faults) LinkPolicy.Stop no_extension (GoesOn faults follows) (λ first last. LeavesKept (leaves first.disk last.disk)) longest turns
      store ended left clock clock' link link'
      → Survives told faults may_leave follows leaves longest turns disk store ended left clock clock' link link'
  survives longest turns disk store ended left clock clock' link link' stays parts like keeps s = record {
    serving = s;
    survives = λ bytes is kept same image l.
        left_either (IsLeftInRuns (content_of told) (faults_of faults) LinkPolicy.Stop no_extension (GoesOn faults follows) longest turns s.serves.time store ended left
        s.serves.between clock' link link' s.serves.runs kept (kept_on image))
        (λ first. left_first (content_of told) (faults_of faults) LinkPolicy.Stop no_extension (GoesOn faults follows) longest turns s.serves.time store ended left s.serves.between
        clock' link link' s.serves.runs kept (kept_on image)
        (left_same kept bytes image (may_leave disk) (stays bytes is) same (like bytes is image first)))
        (λ later. s.only kept (keeps ∙ ap kept_told is ∙ same bytes (stays bytes is)) (kept_on image) (image, later, refl))
        (parts image l);
    settled = λ kept is image l. s.settled kept is (kept_on image) (image, l, refl);
  }

  tells-on : (end : Ending) (turns : ℕ) (P Q : Result Unit Fault → Type 0) (held now : Option (List ℕ)) (w w' : ℕ)
      → ((ended : Result Unit Fault) → P ended → Q ended) → Tells end turns P held now w w' → Tells end turns Q held now w w'
  tells-on Ending.Done turns P Q held now w w' on t = (on (Ok tt) t.0, t.1, t.2)
  tells-on Ending.WriteFault turns P Q held now w w' on t = (on (Ok tt) t.0, t.1, t.2)
  tells-on Ending.KeepFault turns P Q held now w w' on t = (on (Err Fault.Keep) t.0, t.1, t.2)
  tells-on Ending.Memory turns P Q held now w w' on t = (on (Err Fault.Memory) t.0, t.1, t.2)
  tells-on Ending.LinkFault turns P Q held now w w' on t = (on (Err Fault.Link) t.0, t.1, t.2)
  tells-on Ending.Spent turns P Q held now w w' on t = (on (Err Fault.Spent) t.0, t.1, t.2)
  tells-on Ending.NoAnswer turns P Q held now w w' on t = (on (Err Fault.NoAnswer) t.0, t.1, t.2)
  tells-on Ending.Usage turns P Q held now w w' on t = t
  tells-on Ending.Script turns P Q held now w w' on t = t
  tells-on Ending.Skew turns P Q held now w w' on t = t
  tells-on Ending.ReadFault turns P Q held now w w' on t = t
  tells-on Ending.Limit turns P Q held now w w' on t = t
  tells-on Ending.NotSound turns P Q held now w w' on t = t

  -- a store that was opened on a disk, and served from
  pub ends_surviving : (longest code turns : ℕ) (disk : D) (store : StoredStore D) (left : D) (clock clock' : ClockTold) (link link' : LinkTold)
      (held now : Option (List ℕ)) (w w' : ℕ)
      → ((bytes : List ℕ) → told disk ≡ Some bytes → may_leave disk bytes)
      → ((last : D) (image : List ℕ) → follows store.disk last → leaves disk last image → leaves disk store.disk image ⊎ leaves store.disk last image)
      → LeavesLike (told disk) (may_leave disk) (leaves disk store.disk)
      → content_of told store ≡ kept_told (told disk)
      → EndsServing told faults follows (λ ended served. LeavesServing (content_of told) (faults_of faults) LinkPolicy.Stop no_extension (GoesOn faults follows) (λ first last.
      LeavesKept (leaves first.disk last.disk)) longest turns store ended served clock clock' link link') code turns store left link link' held
      now w w'
      → EndsServing told faults follows (λ ended served. Survives told faults may_leave follows leaves longest turns disk store ended served clock
      clock' link link') code turns store left link link' held now w w'
  ends_surviving longest code turns disk store left clock clock' link link' held now w w' stays parts like keeps e = record {
    end = e.end;
    served = e.served;
    between = e.between;
    count = e.count;
    handed = e.handed;
    same = e.same;
    tells = tells-on e.end turns
        (λ ended. LeavesServing (content_of told) (faults_of faults) LinkPolicy.Stop no_extension (GoesOn faults follows) (λ first last. LeavesKept (leaves first.disk last.disk))
        longest turns store ended e.served clock clock' link link')
        (λ ended. Survives told faults may_leave follows leaves longest turns disk store ended e.served clock clock' link link')
        held e.between w e.count
        (λ ended s. survives longest turns disk store ended e.served clock clock' link link' stays (λ image. parts e.served.disk image e.same.disk)
        like keeps s)
        e.tells;
    cause = e.cause;
    prints = e.prints;
  }

  -- the same, from what its opening answered
  pub serves_opened : (longest code turns : ℕ) (disk : D) (store : StoredStore D) (left : D) (clock clock' : ClockTold) (link link' : LinkTold)
      (held now : Option (List ℕ)) (w w' : ℕ) (result : Result (StoredStore D) (OpenFault D)) → result ≡ Ok store
      → ((bytes : List ℕ) → told disk ≡ Some bytes → may_leave disk bytes)
      → ((middle last : D) (image : List ℕ) → follows disk middle → follows middle last → leaves disk last image
      → leaves disk middle image ⊎ leaves middle last image)
      → ((first last : D) → follows first last → faults first ≤ faults last)
      → OnOk result (ForSome (told disk) IsKept) → IfOk result (λ s. content_of told s ≡ kept_told (told disk)) → IfOk result IsFresh
      → AnswersOpen (λ s. s.disk) faults result disk → FollowsOpen (λ s. s.disk) follows result disk
      → LeavesLike (told disk) (may_leave disk) (leaves disk (disk_of (λ s. s.disk) result))
      → EndsServing told faults follows (λ ended served. LeavesServing (content_of told) (faults_of faults) LinkPolicy.Stop no_extension (GoesOn faults follows) (λ first last.
      LeavesKept (leaves first.disk last.disk)) longest turns store ended served clock clock' link link') code turns store left link link' held
      now w w'
      → ServesStore told faults may_leave follows leaves code longest turns disk left clock clock' link link' held now w w'
  serves_opened longest code turns disk store left clock clock' link link' held now w w' result is stays parts rises stands content fresh answers
      opens like e =
      let keeps : content_of told store ≡ kept_told (told disk) =
      subst (λ (r : Result (StoredStore D) (OpenFault D)). IfOk r (λ s. content_of told s ≡ kept_told (told disk))) is content in
      let goes : follows disk store.disk = subst (λ (r : Result (StoredStore D) (OpenFault D)). FollowsOpen (λ s. s.disk) follows r disk) is opens in
      let still : LeavesLike (told disk) (may_leave disk) (leaves disk store.disk) =
      subst (λ (r : Result (StoredStore D) (OpenFault D)). LeavesLike (told disk) (may_leave disk) (leaves disk (disk_of (λ s. s.disk) r))) is like in
      let new = subst (λ (r : Result (StoredStore D) (OpenFault D)). IfOk r IsFresh) is fresh in
      let counts : faults store.disk ≡ faults disk =
      subst (λ (r : Result (StoredStore D) (OpenFault D)). AnswersOpen (λ s. s.disk) faults r disk) is answers in
      record {
        store = store;
        right = right_of (told disk) (subst (λ (r : Result (StoredStore D) (OpenFault D)). OnOk r (ForSome (told disk) IsKept)) is stands);
        keeps = keeps;
        opened = goes;
        fresh = new;
        counts = counts;
        failed = λ six. subst (λ (d : D). HasRisen (faults disk) (faults d)) (sym e.handed)
            (failed_by faults follows e.end code disk store e.served (content_of told store) link.faults link'.faults e.between now w w' e.count rises
            new counts e.same e.cause e.prints six);
        serves = ends_surviving longest code turns disk store left clock clock' link link' held now w w' stays (λ last image next. parts store.disk
            last image goes next) still keeps e;
      }
