-- What a stop leaves of a migration, and what is there behind it, stands for the same.
use Rattle.std.proofs.Common.{◌≡◌, ◌≤◌, ◌<◌, ◌+◌, ◌⊎◌, ℕ, Bool, true, false, List, [], ◌∷◌, Option, Some, None, Ok, length, get_or, if◌then◌else◌}
use Rattle.std.proofs.Common.{refl, sym, ap, subst, ◌∙◌, inl, inr, arith}
use Rattle.std.specs.Cmp.Lexicographic.{pointwise}
use Rattle.std.specs.List.{All}
use Rattle.std.specs.Prelude.{nat_eq, nat_le, nat_lt}
use Rattle.std.proofs.lemmas.Bool.Decides.{nat_tests}
use Rattle.nq_disk.specs.Bytes.{written}
use Rattle.nq_disk.specs.BytesLaws.{length-written, written-outside}
use Rattle.nq_plan.specs.Standing.{begins_as_image, image_area, settled_as, stands_as}
use Rattle.nq_image.specs.Image.{FoundOne}
use Rattle.nq_image.specs.Kept.{opened}
use Rattle.nq_image.specs.Layout.{block_place, piece}
use Rattle.nq_image.specs.Rows.{blocks_of}
use Rattle.nq_image.specs.Whole.{has_image_name, image_in, of_one}
use Rattle.nq_image.specs.Writing.{heads_bytes}
use Rattle.nq_image.specs.declared.Slot.{Slot}
use Rattle.nq_image.proofs.Holding.{length-slots}
use Rattle.nq_image.proofs.Pieces.{at-piece, piece-same}
use Rattle.nq_image.proofs.ReadBack.{and-two, ge-true}
use Rattle.nq_disk.specs.Batch.{IsFit, body_of}
use Rattle.nq_disk.specs.Record.{blanked, is_misplaced}
use Rattle.nq_disk.specs.Whole.{IsClosed, OpensAs, after, found as found_by}
use Rattle.nq_disk.proofs.Front.{front-stays}
use Rattle.nq_disk.proofs.Opening.{blanked-outside, length-blanked, opened-closed}
use Rattle.nq_store.specs.Migrated.{AgreeUpTo, IsMigrated, blocks_in, numbers_then}
use Rattle.nq_store.specs.Prepared.{SameBelow, change_of, prepared}
use Rattle.nq_store.proofs.Ids.{few-files}
use Rattle.nq_store.proofs.Parts.{HasPartsOfOne, image-of-one, parts-of-one}
use Rattle.nq_store.proofs.ImagesRows.{short-rows}
use Rattle.nq_store.proofs.Same.{one-opens-same, one-stays, reaches-end}
use Rattle.nq_store.proofs.Two.{migrated-opens}
use Rattle.nq_store.proofs.Written.{IsPrepared, piece-below, prepared-is, tables-stay, written-there}

abbrev blank : List ℕ → List ℕ
blank bytes = blanked 28672 12288 bytes

-- ---- a blank record

pub blank-rows : (bytes : List ℕ) → 40960 ≤ length bytes → piece 0 28672 (blank bytes) ≡ piece 0 28672 bytes
blank-rows bytes long =
    let same = length-blanked 28672 12288 0 bytes (omega (arith, long)) in
    piece-same 0 28672 (blank bytes) bytes (omega (arith, same, long)) (omega (arith, long)) (λ k lt. blanked-outside 28672 12288 0 bytes (0 + k)
    (inl (omega (arith, lt))))

blank-agrees : (end : ℕ) (bytes : List ℕ) → 40960 ≤ length bytes → AgreeUpTo end bytes (blank bytes)
blank-agrees end bytes long =
    let same = length-blanked 28672 12288 0 bytes (omega (arith, long)) in
    record {
      no_shorter = omega (arith, same);
      rows = blank-rows bytes long;
      blocks = λ k le lt. blanked-outside 28672 12288 0 bytes k
          (inr (omega (arith, le)));
    }

-- ---- what a closed image of version 1 stands for

pub both-begin : (bytes : List ℕ) → 40960 ≤ length bytes → has_image_name bytes ≡ true → begins_as_image bytes ≡ true
both-begin bytes long name = and-two (nat_le 40960 (length bytes)) (has_image_name bytes) (ge-true (length bytes) (length bytes) 40960 refl long) name

pub stands-found : (bytes opens : List ℕ) → begins_as_image bytes ≡ true → found_by image_area bytes ≡ Ok opens → stands_as bytes ≡ opened opens
unfolding stands_as
stands-found bytes opens begins is = ap (λ (b : Bool). if b then settled_as (found_by image_area bytes) else None) begins ∙ ap settled_as is

pub closed-found : (bytes : List ℕ) → IsClosed image_area bytes → found_by image_area bytes ≡ Ok (blank bytes)
closed-found bytes closed = opened-closed 28672 12288 68202496 bytes closed.shut

pub stands-one : (found : FoundOne) (bytes : List ℕ) → image_in bytes ≡ Some (Ok (of_one found)) → IsClosed image_area bytes → stands_as bytes ≡ opened bytes
stands-one found bytes is closed =
    let p = parts-of-one bytes found is in
    stands-found bytes (blank bytes) (both-begin bytes p.long p.name) (closed-found bytes closed)
    ∙ one-opens-same found bytes (blank bytes) is (blank-agrees (block_place (blocks_in found.rows.slots)) bytes p.long)

-- what opens as bytes that begin as an image does so, too
front-name : (image opens : List ℕ) → 40960 ≤ length image → 7 ≤ length opens → found_by image_area image ≡ Ok opens → has_image_name opens ≡ true
    → begins_as_image image ≡ true
front-name image opens long some is name =
    let first = piece-same 0 7 image opens (omega (arith, long)) (omega (arith, some)) (λ k lt. sym (front-stays image_area image opens (0 + k)
    (omega (arith, lt)) (omega (arith, lt)) is)) in
    both-begin image long (ap (λ (b : List ℕ). pointwise nat_eq b (78 ∷ 81 ∷ 78 ∷ 70 ∷ 83 ∷ 73 ∷ 77 ∷ [])) first ∙ name)

not-lt : (m n : ℕ) → n ≤ m → nat_lt m n ≡ false
not-lt m n le = grind (arith, nat_tests)

misplaced : (len : ℕ) → 7 ≤ len → is_misplaced 28672 12288 68202496 len 7 21 ≡ false
unfolding is_misplaced
misplaced len le = not-lt len 7 le

module _ (found : FoundOne) (old : List ℕ) (is : image_in old ≡ Some (Ok (of_one found))) (closed : IsClosed image_area old) where
  abbrev end : ℕ
  end = block_place (blocks_in found.rows.slots)

  p : HasPartsOfOne old found
  p = parts-of-one old found is

  reach : block_place (blocks_in found.rows.slots) ≤ length old
  reach = reaches-end (length old) (blocks_in found.rows.slots) p.long p.reaches

  -- ---- before the change

  module _ (image : List ℕ) (same : SameBelow (block_place (blocks_in found.rows.slots)) old image) where
    pub below-closed : IsClosed image_area image
    below-closed =
        let long = closed.long in
        let longer = same.no_shorter in
        record { long = omega arith; shut = λ e. closed.shut (sym (same.same 28672 (omega arith)) ∙ e) }

    below-rows : piece 0 28672 image ≡ piece 0 28672 old
    below-rows = piece-below end 0 28672 old image (omega arith) reach same

    pub below-one : image_in image ≡ Some (Ok (of_one found))
    below-one = image-of-one image found (one-stays old image found same.no_shorter below-rows p)

    pub below-stands : stands_as image ≡ stands_as old
    below-stands =
        stands-one found image below-one below-closed
        ∙ one-opens-same found old image is (record { no_shorter = same.no_shorter; rows = below-rows; blocks = λ k le lt. same.same k lt })
        ∙ sym (stands-one found old is closed)

  pub as-before : (mid image : List ℕ) → SameBelow (block_place (blocks_in found.rows.slots)) old mid → OpensAs image_area mid image → stands_as image
      ≡ stands_as old
  as-before mid image same opens =
      let q = parts-of-one mid found (below-one mid same) in
      let long = q.long in
      let longer = opens.0 in
      let so = opens.1 ∙ closed-found mid (below-closed mid same) in
      let size = length-blanked 28672 12288 0 mid (omega (arith, long)) in
      let first = piece-same 0 7 (blank mid) mid (omega (arith, size, long)) (omega (arith, long)) (λ k lt. blanked-outside 28672 12288 0 mid (0 + k)
      (inl (omega (arith, lt)))) in
      let name = ap (λ (b : List ℕ). pointwise nat_eq b (78 ∷ 81 ∷ 78 ∷ 70 ∷ 83 ∷ 73 ∷ 77 ∷ [])) first ∙ q.name in
      stands-found image (blank mid) (front-name image (blank mid) (omega (arith, long, longer)) (omega (arith, size, long)) so name) so
      ∙ sym (stands-found mid (blank mid) (both-begin mid q.long q.name) (closed-found mid (below-closed mid same)))
      ∙ below-stands mid same

  -- ---- the change

  every : length found.rows.slots ≡ 256
  every = ap length (sym p.rows.rows_are) ∙ length-slots 256 (piece 2112 24576 old)

  abbrev mid : List ℕ
  mid = prepared found.rows.slots old

  short : All (λ slot. blocks_of slot ≤ 1024) found.rows.slots
  short =
      let Short : List (Option Slot) → Type 0 = λ s. All (λ slot. blocks_of slot ≤ 1024) s in
      subst Short p.rows.rows_are (short-rows 256 2112 [] (piece 2112 24576 old) p.rows.rows)

  ready : IsPrepared found.rows.slots old (prepared found.rows.slots old)
  ready = prepared-is found.rows.slots old every (omega (arith, few-files found.rows.slots, every)) short reach

  pub mid-long : 40960 ≤ length (prepared found.rows.slots old)
  mid-long = let whole = ready.whole in omega (arith, whole)

  size-of : length (numbers_then found) ≡ 21
  unfolding heads_bytes
  size-of = refl

  body-size : length (body_of (change_of found)) ≡ 48
  unfolding heads_bytes
  body-size = refl

  pub fits : IsFit image_area (length (prepared found.rows.slots old)) (change_of found)
  fits = record {
    few = omega arith;
    short = omega (arith, body-size);
    allowed = (
      ap (λ (n : ℕ). is_misplaced 28672 12288 68202496 (length (prepared found.rows.slots old)) 7 n) size-of
          ∙ misplaced (length (prepared found.rows.slots old)) (omega (arith, mid-long)),
      tt,
    );
  }

  abbrev then_bytes : List ℕ
  then_bytes = written 7 (numbers_then found) (blanked 28672 12288 (prepared found.rows.slots old))

  blank-mid : length (blank mid) ≡ length mid
  blank-mid = length-blanked 28672 12288 0 mid (omega (arith, mid-long))

  then-long : length then_bytes ≡ length mid
  then-long = omega (arith, length-written 7 (numbers_then found) (blank mid) (inl (omega (arith, blank-mid, mid-long))), blank-mid, size-of, mid-long)

  then-same : (k : ℕ) → (k < 7) ⊎ (28 ≤ k) → (k < 28672) ⊎ (40960 ≤ k) → get_or then_bytes k 0 ≡ get_or mid k 0
  then-same k (inl lt) out = written-outside 7 (numbers_then found) (blank mid) k (inl lt) ∙ blanked-outside 28672 12288 0 mid k out
  then-same k (inr le) out = written-outside 7 (numbers_then found) (blank mid) k (inr (omega (arith, size-of, le))) ∙ blanked-outside 28672 12288 0 mid k out

  migrated : IsMigrated found old then_bytes
  migrated =
      let whole = ready.whole in
      let below = ready.below in
      record {
        whole = omega (arith, whole, then-long);
        name = piece-same 0 7 then_bytes old (omega (arith, then-long, mid-long)) (let long = p.long in omega (arith, long))
            (λ k lt. then-same (0 + k) (inl (omega (arith, lt))) (inl (omega (arith, lt))) ∙ below.same (0 + k) (omega (arith, lt)));
        numbers = written-there 7 21 (numbers_then found) (blank mid) (omega arith) size-of;
        rows = piece-same 28 28644 then_bytes old (omega (arith, then-long, mid-long)) (let long = p.long in omega (arith, long))
            (λ k lt. then-same (28 + k) (inr (omega arith)) (inl (omega (arith, lt))) ∙ below.same (28 + k) (omega (arith, lt)));
        blocks = λ k le lt. then-same k (inr (omega (arith, le))) (inr le) ∙ below.same k lt;
        tables = tables-stay end 0 found.rows.slots mid then_bytes (omega (arith, whole, every)) (omega (arith, whole, every, then-long))
            (λ k le lt. then-same k (inr (omega (arith, le))) (inr (omega (arith, le)))) ready.has;
        ids = piece-same (end + 1048576) 4096 then_bytes mid (omega (arith, whole, then-long)) (omega (arith, whole))
            (λ k lt. then-same (end + 1048576 + k) (inr (omega arith)) (inr (omega arith))) ∙ ready.ids;
      }

  then-name : has_image_name then_bytes ≡ true
  then-name = ap (λ (b : List ℕ). pointwise nat_eq b (78 ∷ 81 ∷ 78 ∷ 70 ∷ 83 ∷ 73 ∷ 77 ∷ [])) migrated.name ∙ p.name

  module _ (image : List ℕ) (long : 40960 ≤ length image) (so : found_by image_area image ≡ after image_area (change_of found)
      (prepared found.rows.slots old)) where
    pub then-begins : begins_as_image image ≡ true
    then-begins = front-name image then_bytes long (omega (arith, then-long, mid-long)) so then-name

    pub then-stands : stands_as image ≡ stands_as old
    then-stands =
        stands-found image then_bytes then-begins so
        ∙ migrated-opens found old then_bytes is migrated
        ∙ sym (stands-one found old is closed)

    pub then-two : IsClosed image_area image → get_or image 7 0 ≡ 50
    then-two shut =
        let same : blank image ≡ then_bytes = let e = sym (closed-found image shut) ∙ so in cc in
        sym (blanked-outside 28672 12288 0 image 7 (inl (omega arith)))
        ∙ ap (λ (b : List ℕ). get_or b 7 0) same
        ∙ sym (at-piece 7 21 0 then_bytes (omega arith))
        ∙ ap (λ (b : List ℕ). get_or b 0 0) migrated.numbers
