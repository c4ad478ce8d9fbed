-- What a disk stands for behind a change, and whenever a stop comes within it.
use Rattle.std.proofs.Common.{◌≡◌, ◌⊎◌, ◌≤◌, ◌<◌, ◌+◌, ◌&&◌, inl, inr, ℕ, Bool, true, false, List, [], ◌∷◌, Option, Some, None, Ok, length, get_or}
use Rattle.std.proofs.Common.{if◌then◌else◌, sym, ap, subst, ◌∙◌, arith}
use Rattle.std.specs.Cmp.Lexicographic.{pointwise}
use Rattle.std.specs.List.{All}
use Rattle.std.specs.Prelude.{nat_eq, nat_le, replicate}
use Rattle.std.proofs.lemmas.Bool.Decides.{nat_tests}
use Rattle.std.proofs.lemmas.List.{length-replicate}
use Rattle.nq_base.specs.declared.Change.{Change}
use Rattle.nq_plan.specs.Standing.{image_area, settled_as, stands_as}
use Rattle.nq_image.specs.Standing.{Agree, IsUsed, Standing, Stands, found_of, kept_at, overwritten}
use Rattle.nq_image.specs.Whole.{has_image_name}
use Rattle.nq_image.proofs.Agreeing.{agree-kept, agree-stands}
use Rattle.nq_image.proofs.Gathering.{stands-opens}
use Rattle.nq_image.proofs.Overwriting.{bytes-agree, long-enough, record-written}
use Rattle.nq_image.proofs.Parting.{parts-of}
use Rattle.nq_image.proofs.Pieces.{piece-same}
use Rattle.nq_model.specs.protocol.Change.{Fits, IsChangeWithin, applied as changed}
use Rattle.nq_model.specs.protocol.Kept.{Kept}
use Rattle.nq_plan.specs.Held.{HeldTables}
use Rattle.nq_plan.specs.Ranges.{ranges_of}
use Rattle.nq_plan.specs.Settling.{settled}
use Rattle.nq_plan.specs.declared.placing.Placed.{Placed}
use Rattle.nq_disk.specs.Ranges.{applied}
use Rattle.nq_disk.specs.Record.{blanked}
use Rattle.nq_disk.specs.Whole.{IsClosed, after, found}
use Rattle.nq_disk.proofs.Front.{front-stays}
use Rattle.nq_disk.proofs.Opening.{blanked-outside, length-blanked, opened-closed}
use Rattle.nq_store.specs.Changing.{CanBeWritten, HasZeros, IsWritten, new_blocks}
use Rattle.nq_store.proofs.Whole.{change-is-written}
use Rattle.nq_store.proofs.ImagesWriting.{written-over, zeros-behind}

abbrev pub blank : List ℕ → List ℕ
blank bytes = blanked 28672 12288 bytes

-- ---- the record may be blank

blank-over : (bytes : List ℕ) → 40960 ≤ length bytes → blank bytes ≡ overwritten 28672 (replicate 12288 0) bytes
unfolding blanked
blank-over bytes long = written-over 28672 (replicate 12288 0) bytes (omega (arith, long))

record-long : length {A = ℕ} (replicate 12288 0) ≡ 12288
record-long = length-replicate {A = ℕ} 12288 0

pub blank-agrees : (bytes : List ℕ) (s : Standing) → Stands bytes s → Agree s bytes (blank bytes)
blank-agrees bytes s stands =
    let As : List ℕ → Type 0 = λ b. Agree s bytes b in
    subst As (sym (blank-over bytes (long-enough bytes s stands))) (record-written bytes s stands 28672 (replicate 12288 0) (omega arith)
    (omega (arith, record-long)))

blank-zeros : (bytes : List ℕ) (s : Standing) (blocks : List ℕ) → Stands bytes s → All (HasZeros bytes) blocks → All (HasZeros (blank bytes)) blocks
blank-zeros bytes s blocks stands all =
    let Zeros : List ℕ → Type 0 = λ b. All (HasZeros b) blocks in
    subst Zeros (sym (blank-over bytes (long-enough bytes s stands))) (zeros-behind bytes s stands 28672 (replicate 12288 0) blocks
    (omega (arith, record-long)) all)

-- a place in the record is one where nothing stands
used-outside : (s : Standing) (place : ℕ) → IsUsed s place → (place < 28672) ⊎ (28672 + 12288 ≤ place)
used-outside s place (inl lt) = inl lt
used-outside s place (inr (inl t)) = let le = t.2.0 in inr (omega (arith, le))
used-outside s place (inr (inr b)) = let le = b.2.0 in inr (omega (arith, le))

pub unblank-agrees : (bytes : List ℕ) (s : Standing) → 40960 ≤ length bytes → Stands (blank bytes) s → Agree s (blank bytes) bytes
unblank-agrees bytes s long stands =
    let same = length-blanked 28672 12288 0 bytes (omega (arith, long)) in
    bytes-agree (blank bytes) s stands bytes (omega (arith, same)) (λ place lt used. sym (blanked-outside 28672 12288 0 bytes place
    (used-outside s place used)))

-- ---- what an image opens as

is-le : (m n : ℕ) → m ≤ n → nat_le m n ≡ true
is-le m n le = grind (arith, nat_tests)

both : (a b : Bool) → a ≡ true → b ≡ true → (a && b) ≡ true
both true b h k = k
both false b h k = absurd (cc)

-- an image that opens as bytes where a state stands, stands for that state
pub stands-so : (image bytes : List ℕ) (s : Standing) → 40960 ≤ length image → found image_area image ≡ Ok bytes → Stands bytes s → stands_as image
    ≡ Some (Ok (kept_at bytes s))
unfolding stands_as
stands-so image bytes s long is stands =
    let begins = (parts-of bytes (found_of s) stands.found).begins in
    let whole = begins.long in
    let first = piece-same 0 7 image bytes (omega (arith, long)) (omega (arith, whole)) (λ k lt. sym (front k lt)) in
    let named : has_image_name image ≡ true = ap (λ (b : List ℕ). pointwise nat_eq b (78 ∷ 81 ∷ 78 ∷ 70 ∷ 83 ∷ 73 ∷ 77 ∷ [])) first ∙ begins.name in
    let test = both (nat_le 40960 (length image)) (has_image_name image) (is-le 40960 (length image) long) named in
    ap (λ (b : Bool). if b then settled_as (found image_area image) else None) test
    ∙ ap settled_as is
    ∙ stands-opens bytes s stands
  where
    front : (k : ℕ) → k < 7 → get_or bytes (0 + k) 0 ≡ get_or image (0 + k) 0
    front k lt = front-stays image_area image bytes (0 + k) (omega (arith, lt)) (omega (arith, lt)) is

pub closed-stands : (old image : List ℕ) (s : Standing) → Stands old s → IsClosed image_area old → 40960 ≤ length image → found image_area image
    ≡ found image_area old → stands_as image ≡ Some (Ok (kept_at old s))
closed-stands old image s stands closed long is =
    let agree = blank-agrees old s stands in
    stands-so image (blank old) s long (is ∙ opened-closed 28672 12288 68202496 old closed.shut) (agree-stands s old (blank old) stands agree)
    ∙ ap (λ (k : Kept). Some (Ok k)) (agree-kept s old (blank old) agree.blocks)

-- ---- a change

-- it can be written to the image with a blank record
blank-can : (old : List ℕ) (held : HeldTables) (change : Change) (placed : Option Placed) → CanBeWritten old held change placed
    → CanBeWritten (blank old) held change placed
blank-can old held change placed can =
    let s = held.standing in
    let agree = blank-agrees old s can.is_held.stands in
    let same = sym (agree-kept s old (blank old) agree.blocks) in
    let IsFit : Kept → Type 0 = λ k. Fits k change in
    let IsIn : Kept → Type 0 = λ k. IsChangeWithin k change in
    record {
      is_held = record { stands = agree-stands s old (blank old) can.is_held.stands agree; marks = can.is_held.marks };
      fits = subst IsFit same can.fits;
      within = subst IsIn same can.within;
      is_placed = can.is_placed;
      zeros = blank-zeros old s (new_blocks placed) can.is_held.stands can.zeros;
    }

module _ (old : List ℕ) (held : HeldTables) (change : Change) (placed : Option Placed) (can : CanBeWritten old held change placed) where
  abbrev then_bytes : List ℕ
  then_bytes = applied (ranges_of held.standing change placed) (blank old)

  abbrev then_held : HeldTables
  then_held = settled held change placed

  written-blank : IsWritten (blank old) then_bytes held change placed
  written-blank = change-is-written (blank old) held change placed (blank-can old held change placed can)

  kept-then : kept_at then_bytes then_held.standing ≡ changed (kept_at old held.standing) change
  kept-then =
      let agree = blank-agrees old held.standing can.is_held.stands in
      written-blank.kept ∙ ap (λ (k : Kept). changed k change) (agree-kept held.standing old (blank old) agree.blocks)

  pub change-stands : (image : List ℕ) → 40960 ≤ length image → found image_area image ≡ after image_area (ranges_of held.standing change placed) old
      → stands_as image ≡ Some (Ok (changed (kept_at old held.standing) change))
  change-stands image long is =
      stands-so image then_bytes then_held.standing long is written-blank.is_held.stands ∙ ap (λ (k : Kept). Some (Ok k)) kept-then

  pub change-settled : (new : List ℕ) → IsClosed image_area new → found image_area new ≡ after image_area (ranges_of held.standing change placed) old
      → IsWritten old new held change placed
  change-settled new closed is =
      let same : blank new ≡ then_bytes = let e = sym (opened-closed 28672 12288 68202496 new closed.shut) ∙ is in cc in
      let t = then_held.standing in
      let Stood : List ℕ → Type 0 = λ b. Stands b t in
      let Kept_so : List ℕ → Type 0 = λ b. kept_at b t ≡ changed (kept_at old held.standing) change in
      let stands = subst Stood (sym same) written-blank.is_held.stands in
      let long = closed.long in
      let agree = unblank-agrees new t (omega (arith, long)) stands in
      record {
        is_held = record { stands = agree-stands t (blank new) new stands agree; marks = written-blank.is_held.marks };
        kept = agree-kept t (blank new) new agree.blocks ∙ subst Kept_so (sym same) kept-then;
      }
