-- What a stop within serving leaves, from what one leaves before the store was opened and behind it.
use Rattle.std.proofs.Common.{◌≡◌, ◌⊎◌, ◌<◌, ◌≤◌, ℕ, List, [], ◌∷◌, Option, Some, None, Result, Ok, Err, length, inl, inr, refl, sym, ap, subst, ◌∙◌, arith}
use Rattle.std.specs.Option.{ForSome}
use Rattle.nq_serving.specs.Extending.{Extension}
use Rattle.nq_serving.specs.Leaving.{IsSettled}
use Rattle.nq_base.specs.declared.ending.fault.Fault.{Fault}
use Rattle.nq_plan.specs.Formatted.{StandsForNothing, TellsNothing}
use Rattle.nq_plan.specs.Standing.{stands_as}
use Rattle.nq_image.specs.Nothing.{nothing_kept}
use Rattle.nq_io.specs.Faults.{Rose}
use Rattle.nq_model.specs.protocol.Kept.{Kept}
use Rattle.nq_store.proofs.Emptied.{nothing_on}
use Rattle.nq_service.proofs.MountFailing.{failed_by, stood_still}
use Rattle.nq_service.proofs.LeftFirst.{left_either, left_first, left_same}
use Rattle.nq_serving.specs.declared.turning.LinkPolicy.{LinkPolicy}
use Rattle.nq_service.specs.Opening.{FailsEarly, IsOpenedAs, IsReady, OpensOrMakes, OpensReady}
use Rattle.nq_service.specs.MountServing.{EndsServing, IsFoundAmong, IsWhyNot, ServesImage, ServesNot, StoodStill}
use Rattle.nq_clock.specs.Clocks.{ClockTold}
use Rattle.nq_link.specs.Links.{LinkTold}
use Rattle.nq_disk.specs.Saying.{Each}
use Rattle.nq_store.specs.Opening.{FollowsOpen, LeavesLike, back_of}
use Rattle.nq_store.specs.Storing.{AllStandFor, GoesOn, HasRisen, LeavesKept, StoredStore, content_of, faults_of, kept_on, kept_told}
use Rattle.nq_store.specs.declared.fault.OpenFault.{OpenFault}
use Rattle.nq_store.specs.declared.fault.OpenFault.TheVariants as opening

-- the disk of a store of which a stop leaves exactly what is kept
pub all_settled : {D : Type 0} (told : D → Option (List ℕ)) (leaves : D → D → List ℕ → Type 0) (store : StoredStore D) (left : D) → left ≡ store.disk
    → IsSettled (content_of told) (λ first last. LeavesKept (leaves first.disk last.disk)) store
    → ForSome (content_of told store) (λ kept. AllStandFor (leaves left left) kept)
all_settled {D = D} told leaves store left is settled =
    subst (λ (d : D). ForSome (content_of told store) (λ kept. AllStandFor (leaves d d) kept)) (sym is)
    (λ kept has image l. settled kept has (kept_on image) (image, l, refl))

module _ {D : Type 0} (told : D → Option (List ℕ)) (faults : D → ℕ) (may_leave : D → List ℕ → Type 0) (follows : D → D → Type 0)
    (leaves : D → D → List ℕ → Type 0) (extension : Extension) (longest turns : ℕ) where
  -- a disk that was ready, from then on
  found-ready : (ready : D) (store : StoredStore D) (ended : Result Unit Fault) (left : D) (clock clock' : ClockTold) (link link' : LinkTold)
      (ends : EndsServing told faults follows leaves extension longest turns store ended left clock clock' link link')
      → ((bytes : List ℕ) → told ready ≡ Some bytes → may_leave ready bytes)
      → ((last : D) (image : List ℕ) → follows store.disk last → leaves ready last image → leaves ready store.disk image ⊎ leaves store.disk last image)
      → LeavesLike (told ready) (may_leave ready) (leaves ready store.disk)
      → content_of told store ≡ kept_told (told ready)
      → (bytes : List ℕ) (kept : Kept) → told ready ≡ Some bytes → AllStandFor (may_leave ready) kept
      → Each (leaves ready left) (IsFoundAmong told faults follows leaves extension longest turns store ended left clock clock' link link' ends kept)
  found-ready ready store ended left clock clock' link link' ends stays parts like keeps bytes kept is same image l =
      let s = ends.serving in
      left_either (IsFoundAmong told faults follows leaves extension longest turns store ended left clock clock' link link' ends kept image)
      (λ first. left_first (content_of told) (faults_of faults) LinkPolicy.GoOn extension (GoesOn faults follows) longest turns s.serves.time store ended ends.served
      s.serves.between clock' link link' s.serves.runs kept (kept_on image)
      (left_same kept bytes image (may_leave ready) (stays bytes is) same (like bytes is image first)))
      (λ later. s.only kept (keeps ∙ ap kept_told is ∙ same bytes (stays bytes is)) (kept_on image) (image, later, refl))
      (parts ends.served.disk image ends.same.disk (subst (λ (d : D). leaves ready d image) ends.handed l))

  -- a disk with a byte, from the moment on that it is handed in
  found-first : (disk ready : D) (store : StoredStore D) (ended : Result Unit Fault) (left : D) (clock clock' : ClockTold) (link link' : LinkTold)
      (ends : EndsServing told faults follows leaves extension longest turns store ended left clock clock' link link')
      → ((d : D) (bytes : List ℕ) → told d ≡ Some bytes → may_leave d bytes)
      → ((first last : D) (bytes : List ℕ) → follows first last → may_leave first bytes ⊎ may_leave last bytes → leaves first last bytes)
      → ((first middle last : D) (image : List ℕ) → follows first middle → follows middle last → leaves first last image
      → leaves first middle image ⊎ leaves middle last image)
      → follows disk ready → follows ready store.disk → follows ready left
      → told ready ≡ told disk → ((image : List ℕ) → leaves disk ready image → may_leave disk image)
      → LeavesLike (told ready) (may_leave ready) (leaves ready store.disk)
      → content_of told store ≡ kept_told (told ready)
      → (bytes : List ℕ) (kept : Kept) → told disk ≡ Some bytes → AllStandFor (may_leave disk) kept
      → Each (leaves disk left) (IsFoundAmong told faults follows leaves extension longest turns store ended left clock clock' link link' ends kept)
  found-first disk ready store ended left clock clock' link link' ends stays outer parts goes opens on told_on no_more like keeps bytes kept is same image l =
      let s = ends.serving in
      left_either (IsFoundAmong told faults follows leaves extension longest turns store ended left clock clock' link link' ends kept image)
      (λ first. left_first (content_of told) (faults_of faults) LinkPolicy.GoOn extension (GoesOn faults follows) longest turns s.serves.time store ended ends.served
      s.serves.between clock' link link' s.serves.runs kept (kept_on image) (same image (no_more image first)))
      (λ later. found-ready ready store ended left clock clock' link link' ends (stays ready) (λ last i next. parts ready store.disk last i opens next) like
      keeps bytes kept (told_on ∙ is) (λ i may. same i (no_more i (outer disk ready i goes (inr may)))) image later)
      (parts disk ready left image goes on l)

  -- the same of a disk that became an empty image, from the moment on that it is one
  found-made : (ready : D) (store : StoredStore D) (ended : Result Unit Fault) (left : D) (clock clock' : ClockTold) (link link' : LinkTold)
      (ends : EndsServing told faults follows leaves extension longest turns store ended left clock clock' link link')
      → ((bytes : List ℕ) → told ready ≡ Some bytes → may_leave ready bytes)
      → ((last : D) (image : List ℕ) → follows store.disk last → leaves ready last image → leaves ready store.disk image ⊎ leaves store.disk last image)
      → LeavesLike (told ready) (may_leave ready) (leaves ready store.disk)
      → content_of told store ≡ kept_told (told ready)
      → TellsNothing (told ready) → Each (may_leave ready) StandsForNothing
      → Each (leaves ready left) (IsFoundAmong told faults follows leaves extension longest turns store ended left clock clock' link link' ends nothing_kept)
  found-made ready store ended left clock clock' link link' ends stays parts like keeps tells each =
      found-ready ready store ended left clock clock' link link' ends stays parts like keeps tells.0 nothing_kept tells.1
      (λ image may. nothing_on image (each image may))

  -- what serving over a disk did that was opened as a store
  pub serves_opened : (disk : D) (store : StoredStore D) (ended : Result Unit Fault) (left : D) (clock clock' : ClockTold) (link link' : LinkTold)
      (opens : OpensReady told faults may_leave follows leaves disk (Ok store))
      → ((d : D) (bytes : List ℕ) → told d ≡ Some bytes → may_leave d bytes)
      → ((first last : D) (bytes : List ℕ) → follows first last → may_leave first bytes ⊎ may_leave last bytes → leaves first last bytes)
      → ((first middle last : D) (image : List ℕ) → follows first middle → follows middle last → leaves first last image
      → leaves first middle image ⊎ leaves middle last image)
      → ((first second third : D) → follows first second → follows second third → follows first third)
      → ((first last : D) → follows first last → faults first ≤ faults last)
      → EndsServing told faults follows leaves extension longest turns store ended left clock clock' link link'
      → ServesImage told faults may_leave follows leaves extension longest turns disk ended left clock clock' link link'
  serves_opened disk store ended left clock clock' link link' opens stays outer parts further rises ends =
      let ready = opens.ready in
      let is_ready = opens.is_ready in
      let opened = opens.opened in
      let on : follows ready left = subst (λ (d : D). follows ready d) (sym ends.handed) (further ready store.disk ends.served.disk opened.same
      ends.same.disk) in
      record {
        ready = ready;
        is_ready = is_ready;
        store = store;
        opened = opened.same;
        keeps = opened.keeps;
        fresh = opened.fresh;
        ends = ends;
        failed = λ keep. subst (λ (d : D). HasRisen (faults disk) (faults d)) (sym ends.handed)
            (failed_by faults follows ended disk store ends.served (content_of told store) link.faults link'.faults rises opened.fresh (opened.counts ∙ is_ready.counts) ends.same
            ends.cause keep);
        done = λ all. subst (λ (d : D). StoodStill (faults disk) (faults d)) (sym ends.handed)
            (stood_still faults follows ended disk store ends.served (content_of told store) link.faults link'.faults rises opened.fresh (opened.counts ∙ is_ready.counts)
            ends.same ends.cause all);
        survives = λ bytes is some kept same.
            let still = is_ready.stays bytes is some in
            found-first disk ready store ended left clock clock' link link' ends stays outer parts is_ready.same opened.same on still.0 still.1
            opened.still opened.keeps bytes kept is same;
        survives_made = λ none.
            let made = is_ready.made none in
            found-made ready store ended left clock clock' link link' ends (stays ready) (λ last image next. parts ready store.disk last image opened.same
            next) opened.still opened.keeps made.0 made.1;
      }

module _ {D : Type 0} (told : D → Option (List ℕ)) (faults : D → ℕ) (may_leave : D → List ℕ → Type 0) (follows : D → D → Type 0)
    (leaves : D → D → List ℕ → Type 0) (disk : D) where
  -- a ready disk that stands for no kept state had a byte at first, and stood for none
  stands-so : (ready : D) (bytes : List ℕ) → IsReady told faults may_leave follows leaves disk ready → (so : Option (Result Kept ℕ))
      → (so ≡ Some (Ok nothing_kept) → ⊥) → ForSome (told ready) (λ found. stands_as found ≡ so) → told disk ≡ Some bytes
      → (0 < length bytes) × (stands_as bytes ≡ so)
  stands-so ready [] is_ready so other stands is =
      let made = is_ready.made is in
      absurd (other (sym (stands made.0.0 made.0.1) ∙ made.0.2))
  stands-so ready (byte ∷ bytes) is_ready so other stands is =
      let still = is_ready.stays (byte ∷ bytes) is (omega arith) in
      (omega arith, stands (byte ∷ bytes) (still.0 ∙ is))

  why-not : (ready : D) (fault : OpenFault D) → IsReady told faults may_leave follows leaves disk ready
      → IsOpenedAs told faults may_leave follows leaves ready (Err fault) → IsWhyNot told faults disk fault
  why-not ready (opening.NotAnImage back) is_ready opened =
      ((λ bytes is. stands-so ready bytes is_ready None (λ e. absurd (cc)) opened.wrong is), opened.counts ∙ is_ready.counts)
  why-not ready (opening.BadField back place) is_ready opened =
      ((λ bytes is. stands-so ready bytes is_ready (Some (Err place)) (λ e. absurd (cc)) opened.wrong is), opened.counts ∙ is_ready.counts)
  why-not ready (opening.Failed back) is_ready opened = subst (λ (n : ℕ). Rose n (faults back)) is_ready.counts opened.counts
  why-not ready (opening.Memory back) is_ready opened = opened.counts ∙ is_ready.counts

  follows-back : (ready : D) (fault : OpenFault D) → FollowsOpen (λ (s : StoredStore D). s.disk) follows (Err fault) ready → follows ready (back_of fault)
  follows-back ready (opening.NotAnImage back) on = on
  follows-back ready (opening.BadField back place) on = on
  follows-back ready (opening.Failed back) on = on
  follows-back ready (opening.Memory back) on = on

  -- a disk that was ready and was refused
  refuses-ready : (fault : OpenFault D) (clock : ClockTold) (link : LinkTold) → OpensReady told faults may_leave follows leaves disk (Err fault)
      → ((d : D) (bytes : List ℕ) → told d ≡ Some bytes → may_leave d bytes)
      → ((first last : D) (bytes : List ℕ) → follows first last → may_leave first bytes ⊎ may_leave last bytes → leaves first last bytes)
      → ((first middle last : D) (image : List ℕ) → follows first middle → follows middle last → leaves first last image
      → leaves first middle image ⊎ leaves middle last image)
      → ServesNot told faults may_leave leaves disk fault clock clock link link
  refuses-ready fault clock link opens stays outer parts = record {
    why = why-not opens.ready fault opens.is_ready opens.opened;
    clocks = refl;
    links = refl;
    stays = λ bytes is some. let still = opens.is_ready.stays bytes is some in opens.opened.stays bytes (still.0 ∙ is);
    survives = λ bytes is some kept same image l.
        let still = opens.is_ready.stays bytes is some in
        left_either (kept_on image ≡ Some kept)
        (λ first. same image (still.1 image first))
        (λ later. left_same kept bytes image (may_leave opens.ready) (stays opens.ready bytes (still.0 ∙ is))
        (λ i may. same i (still.1 i (outer disk opens.ready i opens.is_ready.same (inr may))))
        (opens.opened.still bytes (still.0 ∙ is) image later))
        (parts disk opens.ready (back_of fault) image opens.is_ready.same (follows-back opens.ready fault opens.opened.same) l);
  }

  -- one that failed before it could be opened
  refuses-early : (back : D) (clock : ClockTold) (link : LinkTold) → FailsEarly told faults may_leave follows leaves disk back
      → ServesNot told faults may_leave leaves disk (opening.Failed back) clock clock link link
  refuses-early back clock link early = record {
    why = early.rose;
    clocks = refl;
    links = refl;
    stays = λ bytes is some. tt;
    survives = λ bytes is some kept same image l. let still = early.stays bytes is some in same image (still.1 image l);
  }

  one-fault : (result : Result (StoredStore D) (OpenFault D)) (fault : OpenFault D) (back : D) → result ≡ Err fault → result ≡ Err (opening.Failed back)
      → opening.Failed back ≡ fault
  one-fault result fault back is failed = cc

  pub refuses : (fault : OpenFault D) (clock : ClockTold) (link : LinkTold) → OpensOrMakes told faults may_leave follows leaves disk (Err fault)
      → ((d : D) (bytes : List ℕ) → told d ≡ Some bytes → may_leave d bytes)
      → ((first last : D) (bytes : List ℕ) → follows first last → may_leave first bytes ⊎ may_leave last bytes → leaves first last bytes)
      → ((first middle last : D) (image : List ℕ) → follows first middle → follows middle last → leaves first last image
      → leaves first middle image ⊎ leaves middle last image)
      → ServesNot told faults may_leave leaves disk fault clock clock link link
  refuses fault clock link (inl ready) stays outer parts = refuses-ready fault clock link ready stays outer parts
  refuses fault clock link (inr never) stays outer parts =
      let same : opening.Failed never.back ≡ fault = one-fault (Err fault) fault never.back refl never.failed in
      subst (λ (f : OpenFault D). ServesNot told faults may_leave leaves disk f clock clock link link) same (refuses-early never.back clock link never.early)
