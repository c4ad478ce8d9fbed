-- An image whose record is closed is read as it opens.
use Rattle.std.proofs.Common.{◌≡◌, ◌⊎◌, ◌≤◌, ◌<◌, ◌+◌, ◌-◌, ◌&&◌, inl, inr, ℕ, Bool, true, List, [], ◌∷◌, Option, Some, None, Result, Ok, Err, drop}
use Rattle.std.proofs.Common.{take, length, get_or, if◌then◌else◌, sym, ap, subst, ◌∙◌, arith, length-drop}
use Rattle.std.specs.Cmp.Lexicographic.{pointwise}
use Rattle.std.specs.Prelude.{nat_eq, nat_le, slice_index_or}
use Rattle.std.proofs.lemmas.List.{ext_get_or, get_or-drop}
use Rattle.nq_plan.specs.Standing.{begins_as_image, image_area, settled_as, stands_as}
use Rattle.nq_image.specs.Check.{tested}
use Rattle.nq_image.specs.Heads.{front_checks, front_of, version_of}
use Rattle.nq_image.specs.Image.{FoundTwo, ◌>>=◌, image_two, no_marks, rows_in, tables_in}
use Rattle.nq_image.specs.Kept.{opened, stands_for}
use Rattle.nq_image.specs.Layout.{block_place, piece}
use Rattle.nq_image.specs.Standing.{found_of, standing_in}
use Rattle.nq_image.specs.Whole.{Found, has_image_name, image_in, in_version, in_versions, of_two}
use Rattle.nq_image.specs.declared.Front.{Front}
use Rattle.nq_image.specs.declared.ImageFault.{ImageFault}
use Rattle.nq_image.specs.declared.ImageFault.TheVariants.{NotAnImage, BadField, Memory}
use Rattle.nq_image.specs.declared.Version.{Version}
use Rattle.nq_image.proofs.Agreeing.{agree-stands}
use Rattle.nq_image.proofs.Finding.{read-stands}
use Rattle.nq_image.proofs.Pieces.{piece-same}
use Rattle.nq_plan.specs.Held.{HeldTables, IsHeldOf}
use Rattle.nq_plan.specs.Reading.{ArePartsOf, HoldsIn, held_in}
use Rattle.nq_disk.specs.Whole.{found}
use Rattle.nq_disk.proofs.Opening.{blanked-outside, length-blanked, opened-closed}
use Rattle.nq_store.specs.Reading.{IsClosedImage, ReadsImage}
use Rattle.nq_store.proofs.ImagesOpening.{blank, unblank-agrees}

-- ---- what is read is held

found-is : (told : Option (Result Found ℕ)) (one two : FoundTwo) → told ≡ Some (Ok (of_two one)) → told ≡ Some (Ok (of_two two)) → one ≡ two
found-is told one two a b = cc

pub read-held : (bytes : List ℕ) (read : FoundTwo) → image_in bytes ≡ Some (Ok (of_two read)) → IsHeldOf bytes (held_in bytes read)
read-held bytes read is =
    let s = standing_in bytes read in
    let stands = read-stands bytes read is in
    record { stands = stands; marks = ap (λ (f : FoundTwo). f.tables.marks) (found-is (image_in bytes) read (found_of s) is stands.found) }

-- ---- a wrong number in front

stops : {A B : Type 0} (r : Result A ℕ) (place : ℕ) (f : A → Result B ℕ) → r ≡ Err place → (r >>= f) ≡ Err place
stops r place f is = ap (λ (q : Result _ ℕ). q >>= f) is

front-stops : (bytes : List ℕ) (place : ℕ) → tested (front_checks (piece 0 64 bytes)) (front_of (piece 0 64 bytes)) ≡ Err place
    → image_two (no_marks 16641) bytes ≡ Err place
unfolding image_two
front-stops bytes place is =
    stops (tested (front_checks (piece 0 64 bytes)) (front_of (piece 0 64 bytes))) place
    (λ f. (rows_in Version.Two bytes >>= λ rows. (tables_in f rows.slots (no_marks 16641) bytes >>= λ tables.
    Ok (record { front = f; rows = rows; tables = tables })))) is

-- ---- the image with a blank record

ends-same : (place : ℕ) (one two : List ℕ) → length one ≡ length two → ((k : ℕ) → place ≤ k → get_or one k 0 ≡ get_or two k 0) → drop place one
    ≡ drop place two
ends-same place one two long same =
    ext_get_or 0 (drop place one) (drop place two) (length-drop place one ∙ ap (λ (n : ℕ). n - place) long ∙ sym (length-drop place two))
    (λ k lt. get_or-drop place one k 0 ∙ same (place + k) (omega arith) ∙ sym (get_or-drop place two k 0))

module _ (bytes : List ℕ) (is_so : IsClosedImage bytes) where
  abbrev pub blanked_bytes : List ℕ
  blanked_bytes = blank bytes

  long-here : 40960 ≤ length bytes
  long-here = let long = is_so.closed.long in omega (arith, long)

  same-length : length blanked_bytes ≡ length bytes
  same-length = length-blanked 28672 12288 0 bytes (let long = long-here in omega (arith, long))

  same-byte : (k : ℕ) → (k < 28672) ⊎ (28672 + 12288 ≤ k) → get_or blanked_bytes k 0 ≡ get_or bytes k 0
  same-byte k out = blanked-outside 28672 12288 0 bytes k out

  same-front : (place size : ℕ) → place + size ≤ 28672 → piece place size blanked_bytes ≡ piece place size bytes
  same-front place size le =
      let long = long-here in
      let same = same-length in
      piece-same place size blanked_bytes bytes (omega (arith, le, long, same)) (omega (arith, le, long))
      (λ k lt. same-byte (place + k) (inl (omega (arith, le, lt))))

  same-behind : (place size : ℕ) → 40960 ≤ place → piece place size blanked_bytes ≡ piece place size bytes
  unfolding piece
  same-behind place size le =
      ap (λ (b : List ℕ). take size b) (ends-same place blanked_bytes bytes same-length (λ k after. same-byte k (inr (omega (arith, le, after)))))

  pub same-parts : (front : Front) (head window : List ℕ) (size : ℕ) → ArePartsOf bytes front head window size → ArePartsOf blanked_bytes front head
      window size
  same-parts front head window size parts =
      let Front_is : List ℕ → Type 0 = λ b. tested (front_checks b) (front_of b) ≡ Ok front in
      record {
        front_is = subst Front_is (sym (same-front 0 64 (omega arith))) parts.front_is;
        head_is = parts.head_is ∙ sym (same-front 0 28672 (omega arith));
        window_is = parts.window_is ∙ sym (same-behind (block_place front.tables) 1052672 (omega arith));
        size_is = parts.size_is ∙ sym same-length;
      }

  -- what the bytes stand for is what the image with a blank record opens as
  name-same : has_image_name blanked_bytes ≡ has_image_name bytes
  name-same = ap (λ (b : List ℕ). pointwise nat_eq b (78 ∷ 81 ∷ 78 ∷ 70 ∷ 83 ∷ 73 ∷ 77 ∷ [])) (same-front 0 7 (omega arith))

  begins-too : begins_as_image blanked_bytes ≡ true
  begins-too =
      ap (λ (n : ℕ). nat_le 40960 n && has_image_name blanked_bytes) same-length
      ∙ ap (λ (b : Bool). nat_le 40960 (length bytes) && b) name-same
      ∙ is_so.named

  opens-so : stands_as bytes ≡ opened blanked_bytes
  unfolding stands_as
  opens-so =
      ap (λ (b : Bool). if b then settled_as (found image_area bytes) else None) is_so.named
      ∙ ap settled_as (opened-closed 28672 12288 68202496 bytes is_so.closed.shut)

  version-same : version_of (slice_index_or blanked_bytes 7 0) ≡ version_of (slice_index_or bytes 7 0)
  version-same = ap version_of (same-byte 7 (inl (omega arith)))

  image-is : image_in blanked_bytes ≡ in_versions (version_of (slice_index_or bytes 7 0)) blanked_bytes
  unfolding image_in
  image-is =
      ap (λ (b : Bool). if b then in_versions (version_of (slice_index_or blanked_bytes 7 0)) blanked_bytes else None) begins-too
      ∙ ap (λ (v : Option Version). in_versions v blanked_bytes) version-same

  pub no-version : version_of (slice_index_or bytes 7 0) ≡ None → stands_as bytes ≡ None
  unfolding opened
  no-version none = opens-so ∙ ap (stands_for blanked_bytes) (image-is ∙ ap (λ (v : Option Version). in_versions v blanked_bytes) none)

  module _ (two : version_of (slice_index_or bytes 7 0) ≡ Some Version.Two) where
    image-two : image_in blanked_bytes ≡ Some (in_version Version.Two blanked_bytes)
    image-two = image-is ∙ ap (λ (v : Option Version). in_versions v blanked_bytes) two

    pub wrong-too : (place : ℕ) → image_two (no_marks 16641) blanked_bytes ≡ Err place → stands_as bytes ≡ Some (Err place)
    unfolding opened
    wrong-too place wrong =
        let Then : Result FoundTwo ℕ → Result Found ℕ = λ r. r >>= λ f. Ok (of_two f) in
        opens-so ∙ ap (stands_for blanked_bytes) (image-two ∙ ap (λ (r : Result FoundTwo ℕ). Some (Then r)) wrong)

    pub front-wrong : (place : ℕ) → tested (front_checks (piece 0 64 bytes)) (front_of (piece 0 64 bytes)) ≡ Err place → stands_as bytes ≡ Some (Err place)
    front-wrong place wrong =
        let Front_wrong : List ℕ → Type 0 = λ b. tested (front_checks b) (front_of b) ≡ Err place in
        wrong-too place (front-stops blanked_bytes place (subst Front_wrong (sym (same-front 0 64 (omega arith))) wrong))

    held-here : (held : HeldTables) → HoldsIn blanked_bytes (Ok held) (image_two (no_marks 16641) blanked_bytes) → IsHeldOf bytes held
    held-here held holds =
        let read = holds.0 in
        let Then : Result FoundTwo ℕ → Result Found ℕ = λ r. r >>= λ f. Ok (of_two f) in
        let is = image-two ∙ ap (λ (r : Result FoundTwo ℕ). Some (Then r)) holds.1 in
        let Held : HeldTables → Type 0 = λ h. IsHeldOf blanked_bytes h in
        let there = subst Held (sym holds.2) (read-held blanked_bytes read is) in
        record {
          stands = agree-stands held.standing blanked_bytes bytes there.stands (unblank-agrees bytes held.standing long-here there.stands);
          marks = there.marks;
        }

    pub read-so : (result : Result HeldTables ImageFault) → HoldsIn blanked_bytes result (image_two (no_marks 16641) blanked_bytes) → ReadsImage bytes result
    read-so (Ok held) holds = held-here held holds
    read-so (Err (BadField place)) holds = wrong-too place holds
    read-so (Err NotAnImage) holds = holds
    read-so (Err Memory) holds = tt
