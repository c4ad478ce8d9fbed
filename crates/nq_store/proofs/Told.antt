-- What the calls answer that open a store.
use Rattle.std.proofs.Common.{◌≡◌, ◌≢◌, ◌⊎◌, ◌≤◌, ◌<◌, ◌+◌, ◌&&◌, inl, inr, ⊎_elim, min, ℕ, zero, suc, Bool, true, false, List, Option, Some, None}
use Rattle.std.proofs.Common.{Result, Ok, Err, take, drop, length, get_or, if◌then◌else◌, refl, sym, ap, subst, ◌∙◌, arith}
use Rattle.std.specs.Option.{ForSome}
use Rattle.std.specs.Prelude.{nat_le, slice_index}
use Rattle.std.proofs.lemmas.Bool.{cases_lt}
use Rattle.std.proofs.lemmas.Bool.Decides.{nat_tests}
use Rattle.std.proofs.lemmas.List.{length-drop, take_all}
use Rattle.nq_disk.specs.Bytes.{AreBytes}
use Rattle.nq_disk.specs.Calling.{LeavesNoMore, ReadsFront}
use Rattle.nq_plan.specs.Standing.{begins_as_image, image_area, settled_as, stands_as}
use Rattle.nq_image.specs.Check.{tested}
use Rattle.nq_image.specs.Heads.{front_checks, front_of, version_of}
use Rattle.nq_image.specs.Image.{image_two, no_marks}
use Rattle.nq_image.specs.Layout.{block_place, piece}
use Rattle.nq_image.specs.Standing.{kept_at}
use Rattle.nq_image.specs.Whole.{has_image_name}
use Rattle.nq_image.specs.declared.Front.{Front}
use Rattle.nq_image.specs.declared.ImageFault.{ImageFault}
use Rattle.nq_image.specs.declared.ImageFault.TheVariants as image
use Rattle.nq_image.specs.declared.Version.{Version}
use Rattle.nq_image.proofs.Gathering.{stands-opens}
use Rattle.nq_image.proofs.Holding.{test-le}
use Rattle.nq_image.proofs.Pieces.{at-piece, length-piece, piece-of-first, piece-same}
use Rattle.nq_image.proofs.Within.{opened-within}
use Rattle.nq_plan.specs.Held.{HeldTables, IsHeldOf}
use Rattle.nq_plan.specs.Reading.{ArePartsOf, HoldsIn}
use Rattle.nq_disk.specs.Opens.{Opens}
use Rattle.nq_disk.specs.Whole.{IsClosed, Settled, found}
use Rattle.nq_disk.specs.declared.redo.redo.Redo.{Redo}
use Rattle.nq_disk.specs.declared.redo.redo.RedoOpen.{RedoOpen}
use Rattle.nq_disk.proofs.Front.{front-stays}
use Rattle.nq_disk.proofs.Opening.{blanked-outside, opened-closed}
use Rattle.nq_store.specs.Reading.{IsClosedImage, ReadsImage}
use Rattle.nq_store.proofs.Closed.{blanked_bytes, front-wrong, no-version, read-so, same-parts}
use Rattle.nq_store.proofs.ImagesOpening.{blank}
use Rattle.nq_store.specs.Loading.{AreFrontOf, Gives, IsHeadOf, IsShut, IsShutAs, Loads, OpensTables, is_name}
use Rattle.nq_store.specs.Migrating.{IsMigrated, IsOld, Migrates}
use Rattle.nq_store.specs.Opening.{IsSettledOf, SaysWrong, open_fault}
use Rattle.nq_store.specs.Telling.{fault_of}
use Rattle.nq_store.specs.declared.fault.OpenFault.{OpenFault}
use Rattle.nq_store.specs.declared.fault.OpenFault.TheVariants as opening
use Rattle.nq_store.specs.declared.fault.Fault.{Fault}
use Rattle.nq_store.specs.declared.fault.Fault.TheVariants.{NotAnImage, BadField, Failed, Memory}

-- ---- what is read of a disk

take-most : (count size : ℕ) (xs : List ℕ) → count ≡ min size (length xs) → take count xs ≡ take size xs
take-most count size xs is = elim (cases_lt size (length xs)) [
  | inl lt ↦ let same : count ≡ size = omega arith in ap (λ (n : ℕ). take n xs) same
  | inr le ↦ take_all count xs (omega arith) ∙ sym (take_all size xs le)
]

pub piece-read : (count place size : ℕ) (disk buffer part : List ℕ) → ReadsFront count place disk buffer → length buffer ≡ size
    → part ≡ take count buffer → part ≡ piece place size disk
unfolding piece
piece-read count place size disk buffer part reads long is =
    let number = reads.number in
    is ∙ reads.front ∙ take-most count size (drop place disk) (omega (arith, number, long, length-drop place disk))

-- a stop within two calls leaves no more than one before them, where that is so of each
pub no-more : {D : Type 0} (follows : D → D → Type 0) (may : D → List ℕ → Type 0) (leaves : D → D → List ℕ → Type 0)
    → ((first last : D) (image : List ℕ) → follows first last → may first image ⊎ may last image → leaves first last image)
    → ((first middle last : D) (image : List ℕ) → follows first middle → follows middle last → leaves first last image → leaves first middle image
    ⊎ leaves middle last image)
    → (first middle last : D) → follows first middle → follows middle last → LeavesNoMore (may first) (leaves first middle)
    → LeavesNoMore (may middle) (leaves middle last) → LeavesNoMore (may first) (leaves first last)
no-more follows may leaves ends parts first middle last one two before behind = λ image left.
    ⊎_elim (λ l. before image l) (λ l. before image (ends first middle image one (inr (behind image l)))) (parts first middle last image one two left)

-- ---- faults

pub gives-loads : {X : Type 0} (fault : Fault) (P : X → Type 0) (bytes : List ℕ) → Gives (Err fault) P → Loads (Err fault) bytes
gives-loads NotAnImage P bytes gives = gives
gives-loads (BadField place) P bytes gives = absurd gives
gives-loads Failed P bytes gives = tt
gives-loads Memory P bytes gives = tt

pub gives-on : {X Y : Type 0} (fault : Fault) (P : X → Type 0) (Q : Y → Type 0) → Gives (Err fault) P → Gives (Err fault) Q
gives-on NotAnImage P Q gives = gives
gives-on (BadField place) P Q gives = gives
gives-on Failed P Q gives = tt
gives-on Memory P Q gives = tt

pub image-loads : (wrong : ImageFault) (bytes : List ℕ) → ReadsImage bytes (Err wrong) → Loads (Err (fault_of wrong)) bytes
image-loads image.NotAnImage bytes reads = reads
image-loads (image.BadField place) bytes reads = reads
image-loads image.Memory bytes reads = tt

-- ---- tables of an image

pub held-loads : (bytes : List ℕ) (held : HeldTables) → AreBytes bytes → IsHeldOf bytes held → Loads (Ok held) bytes
held-loads bytes held are is_held = (is_held, opened-within bytes (kept_at bytes held.standing) are (stands-opens bytes held.standing is_held.stands))

pub shut-still : (may now : List ℕ → Type 0) (bytes : List ℕ) → IsShut may bytes → ((image : List ℕ) → now image → may image) → IsShut now bytes
shut-still may now bytes shut more = record { closed = shut.closed; alone = λ image left. shut.alone image (more image left); named = shut.named }

pub loads-opens : (result : Result HeldTables Fault) (bytes : List ℕ) (told tells : Option (List ℕ)) (may now : List ℕ → Type 0) → told ≡ Some bytes
    → tells ≡ told → ((image : List ℕ) → now image → may image) → IsShut may bytes → Loads result bytes → OpensTables result bytes tells now
loads-opens (Ok held) bytes told tells may now is same more shut loads = record {
  now = bytes;
  told = same ∙ is;
  kept = record { is_held = loads.0; closed = shut.closed; alone = λ image left. shut.alone image (more image left); within = loads.1 };
  same = refl;
}
loads-opens (Err NotAnImage) bytes told tells may now is same more shut loads = absurd loads
loads-opens (Err (BadField place)) bytes told tells may now is same more shut loads = loads
loads-opens (Err Failed) bytes told tells may now is same more shut loads = tt
loads-opens (Err Memory) bytes told tells may now is same more shut loads = tt

-- a wrong field, and want of memory, are told in either way
pub gives-opens : {X : Type 0} (fault : Fault) (P : X → Type 0) (bytes : List ℕ) (tells : Option (List ℕ)) (may : List ℕ → Type 0)
    → Gives (Err fault) P → OpensTables (Err fault) bytes tells may
gives-opens NotAnImage P bytes tells may gives = absurd gives
gives-opens (BadField place) P bytes tells may gives = absurd gives
gives-opens Failed P bytes tells may gives = tt
gives-opens Memory P bytes tells may gives = tt

-- what opens as bytes that stand for the same, opens so
pub opens-as : (result : Result HeldTables Fault) (bytes now : List ℕ) (tells : Option (List ℕ)) (may : List ℕ → Type 0) → stands_as now
    ≡ stands_as bytes → OpensTables result now tells may → OpensTables result bytes tells may
opens-as (Ok held) bytes now tells may same opens = record { now = opens.now; told = opens.told; kept = opens.kept; same = opens.same ∙ same }
opens-as (Err NotAnImage) bytes now tells may same opens = sym same ∙ opens
opens-as (Err (BadField place)) bytes now tells may same opens = sym same ∙ opens
opens-as (Err Failed) bytes now tells may same opens = tt
opens-as (Err Memory) bytes now tells may same opens = tt

-- ---- the first bytes

pub head-long : (bytes head : List ℕ) → head ≡ piece 0 28672 bytes → 28672 ≤ length bytes → length head ≡ 28672
head-long bytes head is long = ap length is ∙ length-piece 0 28672 bytes (omega (arith, long))

pub closed-image : (may : List ℕ → Type 0) (bytes : List ℕ) → IsShut may bytes → IsClosedImage bytes
closed-image may bytes shut = record { closed = shut.closed; named = shut.named }

pub version-byte : (bytes head : List ℕ) → head ≡ piece 0 28672 bytes → slice_index head 7 ≡ slice_index bytes 7
version-byte bytes head is = ap (λ (b : List ℕ). get_or b 7 0) is ∙ at-piece 0 28672 7 bytes (omega arith)

pub head-of : (may : List ℕ → Type 0) (bytes head : List ℕ) → IsShut may bytes → head ≡ piece 0 28672 bytes → version_of (slice_index bytes 7)
    ≡ Some Version.Two → IsHeadOf bytes head
head-of may bytes head shut is two = record { closed = record { image = closed-image may bytes shut; two = two }; front = is }

pub two-is : (byte : ℕ) → byte ≡ 50 → version_of byte ≡ Some Version.Two
unfolding version_of
two-is byte is = ap version_of is

pub one-is : (byte : ℕ) → version_of byte ≡ Some Version.One → byte ≡ 49
unfolding version_of
one-is byte is = grind (arith, nat_tests)

-- the numbers among the first bytes are those of the image
pub first-numbers : (bytes head first : List ℕ) (result : Result Front ℕ) → IsHeadOf bytes head → first ≡ piece 0 64 head → result
    ≡ tested (front_checks first) (front_of first) → tested (front_checks (piece 0 64 bytes)) (front_of (piece 0 64 bytes)) ≡ result
first-numbers bytes head first result so first_is is =
    let there : first ≡ piece 0 64 bytes = first_is ∙ ap (piece 0 64) so.front ∙ piece-of-first 28672 0 64 bytes (omega arith) in
    sym (is ∙ ap (λ (b : List ℕ). tested (front_checks b) (front_of b)) there)

pub front-loads : (bytes head : List ℕ) (place : ℕ) → IsHeadOf bytes head → tested (front_checks (piece 0 64 bytes)) (front_of (piece 0 64 bytes))
    ≡ Err place → Loads (Err (BadField place)) bytes
front-loads bytes head place so wrong = front-wrong bytes so.closed.image so.closed.two place wrong

-- what is read of all parts is what the image opens as
pub parts-read : (bytes head : List ℕ) (front : Front) (window : List ℕ) (size : ℕ) (result : Result HeldTables ImageFault) → AreFrontOf bytes head
    front → window ≡ piece (block_place front.tables) 1052672 bytes → size ≡ length bytes → ((i : List ℕ) → ArePartsOf i front head window size
    → HoldsIn i result (image_two (no_marks 16641) i)) → ReadsImage bytes result
parts-read bytes head front window size result so window_is size_is holds =
    let is = so.head_is.closed.image in
    let parts : ArePartsOf bytes front head window size = record {
      front_is = so.front_is;
      head_is = so.head_is.front;
      window_is = window_is;
      size_is = size_is;
    } in
    read-so bytes is so.head_is.closed.two result (holds (blanked_bytes bytes is) (same-parts bytes is front head window size parts))

-- ---- whether bytes begin as an image

pub both-of : (a b : Bool) → (a && b) ≡ true → (a ≡ true) × (b ≡ true)
both-of true b is = (refl, is)
both-of false b is = absurd (cc)

pub begins-long : (bytes : List ℕ) → begins_as_image bytes ≡ true → 40960 ≤ length bytes
begins-long bytes begins = test-le 40960 (length bytes) (both-of (nat_le 40960 (length bytes)) (has_image_name bytes) begins).0

pub not-begins : (bytes : List ℕ) (named : Bool) → named ≡ begins_as_image bytes → named ≡ false → stands_as bytes ≡ None
unfolding stands_as
not-begins bytes named is not_so = ap (λ (b : Bool). if b then settled_as (found image_area bytes) else None) (sym is ∙ not_so)

pub says-named : {X D : Type 0} (result : Result X (OpenFault D)) (o mid : Option (List ℕ)) → mid ≡ o
    → ForSome o (λ bytes. true ≡ begins_as_image bytes) → ForSome mid (λ bytes. begins_as_image bytes ≡ true → SaysWrong result mid) → SaysWrong result o
says-named (Ok opened) o mid same named says = tt
says-named (Err (opening.NotAnImage back)) o mid same named says = λ bytes is. says bytes (same ∙ is) (sym (named bytes is)) bytes (same ∙ is)
says-named (Err (opening.BadField back place)) o mid same named says = λ bytes is. says bytes (same ∙ is) (sym (named bytes is)) bytes (same ∙ is)
says-named (Err (opening.Failed back)) o mid same named says = tt
says-named (Err (opening.Memory back)) o mid same named says = tt

pub says-given : (X : Type 0) {Y D : Type 0} (fault : Fault) (disk : D) (result : OpenFault D) (o : Option (List ℕ)) (P : List ℕ → Y → Type 0)
    → result ≡ open_fault disk fault → ForSome o (λ bytes. Gives (Err fault) (P bytes)) → SaysWrong {X = X} (Err result) o
says-given X {Y} {D} fault disk result o P is gives = subst (λ (f : OpenFault D). SaysWrong {X = X} (Err f) o) (sym is) (by fault gives)
  where
    by : (fault : Fault) → ForSome o (λ bytes. Gives (Err fault) (P bytes)) → SaysWrong {X = X} (Err (open_fault disk fault)) o
    by NotAnImage gives = λ bytes at. absurd (gives bytes at)
    by (BadField place) gives = λ bytes at. absurd (gives bytes at)
    by Failed gives = tt
    by Memory gives = tt

-- ---- tables of an image of either version

pub no-image : (may : List ℕ → Type 0) (bytes head : List ℕ) → IsShut may bytes → head ≡ piece 0 28672 bytes → version_of (slice_index head 7) ≡ None
    → stands_as bytes ≡ None
no-image may bytes head shut is none = no-version bytes (closed-image may bytes shut) (ap version_of (sym (version-byte bytes head is)) ∙ none)

pub new-head : (may : List ℕ → Type 0) (bytes head : List ℕ) → IsShut may bytes → head ≡ piece 0 28672 bytes → version_of (slice_index head 7)
    ≡ Some Version.Two → IsHeadOf bytes head
new-head may bytes head shut is two = head-of may bytes head shut is (ap version_of (sym (version-byte bytes head is)) ∙ two)

pub old-head : (may : List ℕ → Type 0) (bytes head : List ℕ) → IsShut may bytes → head ≡ piece 0 28672 bytes → version_of (slice_index head 7)
    ≡ Some Version.One → IsOld head may bytes
old-head may bytes head shut is one = record {
  closed = shut.closed;
  alone = shut.alone;
  named = shut.named;
  front = is;
  one = one-is (slice_index bytes 7) (ap version_of (sym (version-byte bytes head is)) ∙ one);
}

pub migrates-opens : (fault : Fault) (bytes : List ℕ) (tells : Option (List ℕ)) (may : List ℕ → Type 0) → Migrates (Err fault) bytes tells may
    → OpensTables (Err fault) bytes tells may
migrates-opens NotAnImage bytes tells may migrates = absurd migrates
migrates-opens (BadField place) bytes tells may migrates = migrates.0
migrates-opens Failed bytes tells may migrates = tt
migrates-opens Memory bytes tells may migrates = tt

pub migrated-shut : (bytes : List ℕ) (tells : Option (List ℕ)) (may : List ℕ → Type 0) (migrated : IsMigrated bytes tells may) → IsShut may migrated.now
migrated-shut bytes tells may migrated = record { closed = migrated.closed; alone = migrated.alone; named = migrated.named }

-- ---- what an open of the record leaves

pub stands-settled : (bytes : List ℕ) → begins_as_image bytes ≡ true → stands_as bytes ≡ settled_as (found image_area bytes)
unfolding stands_as
stands-settled bytes begins = ap (λ (b : Bool). if b then settled_as (found image_area bytes) else None) begins

pub wrong-record : (bytes : List ℕ) (place : ℕ) → begins_as_image bytes ≡ true → found image_area bytes ≡ Err place → stands_as bytes ≡ Some (Err place)
wrong-record bytes place begins wrong = stands-settled bytes begins ∙ ap settled_as wrong

pub wrong-opened : {D : Type 0} (result : Result (Redo D) (RedoOpen D)) (back : D) (place : ℕ) (bytes : List ℕ) (tells : Option (List ℕ))
    (may : List ℕ → Type 0) → result ≡ Err (RedoOpen.BadField back place) → begins_as_image bytes ≡ true → Opens image_area result bytes tells may
    → stands_as bytes ≡ Some (Err place)
wrong-opened {D} result back place bytes tells may is begins opens =
    let there = subst (λ (r : Result (Redo D) (RedoOpen D)). Opens image_area r bytes tells may) is opens in
    wrong-record bytes place begins there.0

module _ (old now : List ℕ) (begins : begins_as_image old ≡ true) (closed : IsClosed image_area now) (opens : found image_area now ≡ found image_area
    old) where
  opens-blank : found image_area old ≡ Ok (blank now)
  opens-blank = sym opens ∙ opened-closed 28672 12288 68202496 now closed.shut

  long-now : 40960 ≤ length now
  long-now = let long = closed.long in omega (arith, long)

  same-name : (k : ℕ) → k < 7 → get_or now (0 + k) 0 ≡ get_or old (0 + k) 0
  same-name k lt = sym (blanked-outside 28672 12288 0 now (0 + k) (inl (omega (arith, lt)))) ∙ front-stays image_area old (blank now) (0 + k)
      (omega (arith, lt)) (omega (arith, lt)) opens-blank

  named-now : has_image_name now ≡ true
  named-now =
      let long = long-now in
      let was = begins-long old begins in
      ap is_name (piece-same 0 7 now old (omega (arith, long)) (omega (arith, was)) same-name)
      ∙ (both-of (nat_le 40960 (length old)) (has_image_name old) begins).1

  begins-now : begins_as_image now ≡ true
  begins-now =
      let long = long-now in
      let enough : nat_le 40960 (length now) ≡ true = grind (arith, nat_tests) in
      ap (λ (b : Bool). b && has_image_name now) enough ∙ named-now

  same-stands : stands_as now ≡ stands_as old
  same-stands = stands-settled now begins-now ∙ ap settled_as opens ∙ sym (stands-settled old begins)

one-or-not : (n : ℕ) → (n ≡ 1) ⊎ (n ≢ 1)
one-or-not zero = inr (λ e. absurd (omega arith))
one-or-not (suc zero) = inl refl
one-or-not (suc (suc n)) = inr (λ e. absurd (omega arith))

pub one-of : {X : Type 0} (x y : X) → Some x ≡ Some y → x ≡ y
one-of x y e = cc

-- what an open of the record changes
settled-so : (old now : List ℕ) (tells : Option (List ℕ)) → begins_as_image old ≡ true → tells ≡ Some now → (IsClosed image_area old → tells ≡ Some old)
    → found image_area now ≡ found image_area old → IsSettledOf old now
settled-so old now tells begins is again opens =
    let long = begins-long old begins in
    ⊎_elim (λ gate. inr (record { named = begins; gate = gate; same = opens }))
    (λ shut. inl (one-of now old (sym is ∙ again (record { long = omega (arith, long); shut = shut }))))
    (one-or-not (slice_index old 28672))

pub shut-as : (old : List ℕ) (tells : Option (List ℕ)) (may : List ℕ → Type 0) → begins_as_image old ≡ true → (IsClosed image_area old → tells ≡ Some old)
    → Settled image_area (found image_area old) tells may → IsShutAs old tells may
shut-as old tells may begins again settled =
    record {
      now = settled.now;
      told = settled.tells;
      shut = record { closed = settled.closed; alone = settled.alone; named = begins-now old settled.now begins settled.closed settled.opens };
      same = same-stands old settled.now begins settled.closed settled.opens;
      settled = settled-so old settled.now tells begins settled.tells again settled.opens;
    }
