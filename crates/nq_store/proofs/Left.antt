-- What a stop leaves within the opening of a store.
use Rattle.std.proofs.Common.{◌≡◌, ◌≤◌, ◌<◌, ◌+◌, ◌&&◌, ℕ, Bool, true, false, List, Option, None, Result, Ok, Err, length, get_or, if◌then◌else◌}
use Rattle.std.proofs.Common.{refl, sym, ap, subst, ◌∙◌, arith}
use Rattle.std.specs.Prelude.{nat_le}
use Rattle.std.proofs.lemmas.Bool.Decides.{nat_tests}
use Rattle.nq_disk.specs.Calling.{IsAllThatIsLeft}
use Rattle.nq_plan.specs.Standing.{begins_as_image, image_area, settled_as, stands_as}
use Rattle.nq_image.specs.Whole.{has_image_name}
use Rattle.nq_image.proofs.Pieces.{piece-same}
use Rattle.nq_disk.specs.Opens.{disk_in}
use Rattle.nq_disk.specs.Saying.{Each, Only}
use Rattle.nq_disk.specs.Whole.{OpensAs, OpensAsOne, found}
use Rattle.nq_disk.specs.declared.redo.redo.Redo.{Redo}
use Rattle.nq_disk.specs.declared.redo.redo.RedoOpen.{RedoOpen}
use Rattle.nq_disk.proofs.Front.{front-stays}
use Rattle.nq_store.specs.Loading.{is_name}
use Rattle.nq_store.specs.Migrating.{LeavesSameKept}
use Rattle.nq_store.specs.Opening.{FollowsOpen, back_of, disk_of, open_fault}
use Rattle.nq_store.specs.Storing.{kept_of, kept_on}
use Rattle.nq_store.specs.declared.fault.Fault.{Fault}
use Rattle.nq_store.specs.declared.fault.Fault.TheVariants.{NotAnImage, BadField, Failed, Memory}
use Rattle.nq_store.specs.declared.fault.OpenFault.{OpenFault}
use Rattle.nq_store.specs.declared.fault.OpenFault.TheVariants as opening
use Rattle.nq_store.proofs.Opened.{kept-same}
use Rattle.nq_store.proofs.Told.{begins-long, both-of, stands-settled}

pub only-still : (o : Option (List ℕ)) (may now : List ℕ → Type 0) → IsAllThatIsLeft o may → ((image : List ℕ) → now image → may image) → IsAllThatIsLeft o now
only-still o may now all more = λ bytes is image left. all bytes is image (more image left)

-- ---- an open of the record

none-kept : (bytes : List ℕ) (place : ℕ) → found image_area bytes ≡ Err place → kept_on bytes ≡ None
unfolding kept_on stands_as
none-kept bytes place is = by (begins_as_image bytes)
  where
    by : (b : Bool) → kept_of (if b then settled_as (found image_area bytes) else None) ≡ None
    by true = ap (λ (r : Result (List ℕ) ℕ). kept_of (settled_as r)) is
    by false = refl

module _ (bytes image : List ℕ) (begins : begins_as_image bytes ≡ true) (longer : length bytes ≤ length image) (same : found image_area image
    ≡ found image_area bytes) where
  long-bytes : 40960 ≤ length bytes
  long-bytes = begins-long bytes begins

  same-first : (after : List ℕ) → found image_area bytes ≡ Ok after → (k : ℕ) → k < 7 → get_or image (0 + k) 0 ≡ get_or bytes (0 + k) 0
  same-first after is k lt =
      sym (front-stays image_area image after (0 + k) (omega (arith, lt)) (omega (arith, lt)) (same ∙ is)) ∙ front-stays image_area bytes after
      (0 + k) (omega (arith, lt)) (omega (arith, lt)) is

  begins-image : (after : List ℕ) → found image_area bytes ≡ Ok after → begins_as_image image ≡ true
  begins-image after is =
      let long = long-bytes in
      let enough : nat_le 40960 (length image) ≡ true = grind (arith, nat_tests) in
      let named = ap is_name (piece-same 0 7 image bytes (omega (arith, long, longer)) (omega (arith, long)) (same-first after is))
      ∙ (both-of (nat_le 40960 (length bytes)) (has_image_name bytes) begins).1 in
      ap (λ (b : Bool). b && has_image_name image) enough ∙ named

  by-found : (r : Result (List ℕ) ℕ) → found image_area bytes ≡ r → kept_on image ≡ kept_on bytes
  by-found (Ok after) is = kept-same image bytes (stands-settled image (begins-image after is) ∙ ap settled_as same ∙ sym (stands-settled bytes begins))
  by-found (Err place) is = none-kept image place (same ∙ is) ∙ sym (none-kept bytes place is)

  kept-opens : kept_on image ≡ kept_on bytes
  kept-opens = by-found (found image_area bytes) refl

pub left-same : (may leaves : List ℕ → Type 0) (bytes : List ℕ) → begins_as_image bytes ≡ true → Only bytes may
    → Each leaves (OpensAsOne image_area may) → LeavesSameKept bytes leaves
left-same may leaves bytes begins only each = λ image left.
    let o = each image left in
    let opens = subst (λ (b : List ℕ). OpensAs image_area b image) (only o.0 o.1) o.2 in
    kept-opens bytes image begins opens.0 opens.1

pub left-named : {D : Type 0} (leaves : D → List ℕ → Type 0) (result : Result (Redo D) (RedoOpen D)) (own fault : RedoOpen D) (may : List ℕ → Type 0)
    (bytes : List ℕ) → result ≡ Err own → own ≡ fault → begins_as_image bytes ≡ true → Only bytes may → Each (leaves (disk_in result))
    (OpensAsOne image_area may) → LeavesSameKept bytes (leaves (disk_in (Err fault)))
left-named {D} leaves result own fault may bytes is same begins only each =
    let E : Result (Redo D) (RedoOpen D) → Type 0 = λ r. Each (leaves (disk_in r)) (OpensAsOne image_area may) in
    left-same may (leaves (disk_in (Err fault))) bytes begins only (subst (λ (f : RedoOpen D). E (Err f)) same (subst E is each))

-- ---- the disk that is handed back

pub back-given : {D : Type 0} (fault : Fault) (disk : D) (result : OpenFault D) → result ≡ open_fault disk fault → back_of result ≡ disk
back-given fault disk result is = ap back_of is ∙ by fault
  where
    by : (fault : Fault) → back_of (open_fault disk fault) ≡ disk
    by NotAnImage = refl
    by (BadField place) = refl
    by Failed = refl
    by Memory = refl

pub follows-of : {X D : Type 0} (held : X → D) (follows : D → D → Type 0) (result : Result X (OpenFault D)) (disk : D) → FollowsOpen held follows
    result disk → follows disk (disk_of held result)
follows-of held follows (Ok opened) disk goes = goes
follows-of held follows (Err (opening.NotAnImage back)) disk goes = goes
follows-of held follows (Err (opening.BadField back place)) disk goes = goes
follows-of held follows (Err (opening.Failed back)) disk goes = goes
follows-of held follows (Err (opening.Memory back)) disk goes = goes
