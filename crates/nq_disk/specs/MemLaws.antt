-- The laws of a disk, of one in memory.
use Rattle.std.proofs.Common.{◌≡◌, ◌⊎◌, ℕ, ◌+◌, ◌-◌, List, [], ◌∷◌, ◌++◌, length, drop, Some, None, refl, sym, ap, subst, ◌∙◌, inl, inr, arith}
use Rattle.std.proofs.Common.{length-append, append_assoc}
use Rattle.std.proofs.lemmas.Bool.{cases_lt}
use Rattle.std.proofs.lemmas.List.{drop_at, drop-drop}
use Rattle.nq_disk.specs.BytesLaws.{torn-same, torn-written}
use Rattle.nq_disk.specs.MemDisk.{Event, wrote, tore, synced, Image, StoredDisk, GoesOn, Left, bytes_of, reads}

pub goes-on-itself : (disk : StoredDisk) → GoesOn disk disk
goes-on-itself disk = record { more = []; events = refl; same = refl; rises = omega arith }

pub goes-on-further : (first second third : StoredDisk) → GoesOn first second → GoesOn second third → GoesOn first third
goes-on-further first second third one two = record {
  more = two.more ++ one.more;
  events = two.events ∙ ap (λ (e : List Event). two.more ++ e) one.events ∙ sym (append_assoc two.more one.more first.events);
  same = two.same ∙ one.same;
  rises = omega (arith, one.rises, two.rises);
}

-- a disk in memory tells always
pub never-silent : (first last : StoredDisk) → GoesOn first last → Some (reads first) ≡ None → Some (reads last) ≡ None
never-silent first last goes none = cc

-- the bytes as they read are an image
pub reads-image : (first : List ℕ) (events : List Event) → Image first events (bytes_of first events)
reads-image first [] = refl
reads-image first (wrote place bytes ∷ earlier) = (bytes_of first earlier, reads-image first earlier, torn-written place bytes (bytes_of first earlier))
reads-image first (tore place n ∷ earlier) = (bytes_of first earlier, reads-image first earlier, torn-same place n (bytes_of first earlier))
reads-image first (synced ∷ earlier) = refl

pub reads-may-stay : (disk : StoredDisk) (bytes : List ℕ) → Some (reads disk) ≡ Some bytes → Image disk.first disk.events bytes
reads-may-stay disk bytes same = let is : reads disk ≡ bytes = cc in subst (Image disk.first disk.events) is (reads-image disk.first disk.events)

-- an image of earlier events, named by how many were done since
image-at : (first : List ℕ) (events : List Event) (n m : ℕ) (image : List ℕ) → n ≡ m → Image first (drop n events) image → Image first (drop m events) image
image-at first events n m image same here = subst (λ (i : ℕ). Image first (drop i events) image) same here

pub left-now : (disk : StoredDisk) (image : List ℕ) → Left disk disk image → Image disk.first disk.events image
left-now disk image left = let between = left.between in image-at disk.first disk.events left.undone 0 image (omega arith) left.image_then

-- the events of an earlier disk, by those of a later one
then-drop : (first last : StoredDisk) (goes : GoesOn first last) (n : ℕ) → drop (length goes.more + n) last.events ≡ drop n first.events
then-drop first last goes n =
    sym (drop-drop n (length goes.more) last.events)
    ∙ ap (λ (e : List Event). drop n e) (ap (λ (e : List Event). drop (length goes.more) e) goes.events ∙ drop_at goes.more first.events
    (length goes.more) refl)

length-then : (first last : StoredDisk) (goes : GoesOn first last) → length last.events ≡ length goes.more + length first.events
length-then first last goes = ap length goes.events ∙ length-append goes.more first.events

-- an image of an earlier moment, by the events of a later disk
as-earlier : (first last : StoredDisk) (goes : GoesOn first last) (n : ℕ) (image : List ℕ) → Image first.first (drop n first.events) image
    → Image last.first (drop (length goes.more + n) last.events) image
as-earlier first last goes n image here =
    subst (λ (b : List ℕ). Image b (drop (length goes.more + n) last.events) image) (sym goes.same)
    (subst (λ (e : List Event). Image first.first e image) (sym (then-drop first last goes n)) here)

-- and back
as-later : (first last : StoredDisk) (goes : GoesOn first last) (n : ℕ) (image : List ℕ) → Image last.first (drop (length goes.more + n) last.events)
    image → Image first.first (drop n first.events) image
as-later first last goes n image here =
    subst (λ (b : List ℕ). Image b (drop n first.events) image) goes.same
    (subst (λ (e : List Event). Image last.first e image) (then-drop first last goes n) here)

pub left-ends : (first last : StoredDisk) (image : List ℕ) → GoesOn first last → Image first.first first.events image ⊎ Image last.first last.events
    image → Left first last image
left-ends first last image goes (inl here) = record {
  undone = length goes.more + 0;
  between = omega (arith, length-then first last goes);
  image_then = as-earlier first last goes 0 image here;
}
left-ends first last image goes (inr here) = record { undone = 0; between = let long = length-then first last goes in omega arith; image_then = here }

pub left-parts : (first middle last : StoredDisk) (image : List ℕ) → GoesOn first middle → GoesOn middle last → Left first last image
    → Left first middle image ⊎ Left middle last image
left-parts first middle last image one two left =
    let between = left.between in
    let long = length-then middle last two in
    elim (cases_lt (length two.more) left.undone) [
      | inl lt ↦ inl (record {
        undone = left.undone - length two.more;
        between = omega arith;
        image_then = as-later middle last two (left.undone - length two.more) image (image-at last.first last.events left.undone (length two.more
            + (left.undone - length two.more)) image (omega arith) left.image_then);
      })
      | inr le ↦ inr (record { undone = left.undone; between = omega arith; image_then = left.image_then })
    ]

pub left-joins : (first middle last : StoredDisk) (image : List ℕ) → GoesOn first middle → GoesOn middle last → Left first middle image
    ⊎ Left middle last image → Left first last image
left-joins first middle last image one two (inl left) =
    let between = left.between in
    let long = length-then middle last two in
    record {
      undone = length two.more + left.undone;
      between = omega arith;
      image_then = as-earlier middle last two left.undone image left.image_then;
    }
left-joins first middle last image one two (inr left) =
    let between = left.between in
    let long = length-then first middle one in
    record { undone = left.undone; between = omega arith; image_then = left.image_then }
