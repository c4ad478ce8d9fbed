-- Sending the datagrams of an outbox one after the other.
use Rattle.std.proofs.Common.{◌≡◌, ◌<◌, ◌≤◌, ℕ, zero, suc, List, [], ◌∷◌, ◌++◌, Option, Some, None, length, take, drop, min, refl, sym, ap, ◌∙◌}
use Rattle.std.proofs.Common.{append_assoc, arith}
use Rattle.std.specs.Prelude.{slice_get}
use Rattle.nq_base.specs.declared.Party.{Party}
use Rattle.nq_link.specs.Link.{Letters, Comes, TakesFirst, with_last}
use Rattle.nq_link.specs.declared.link.Came.{Came}
use Rattle.nq_link.specs.Links.{Hears, IsFirst, Letter, SendsFront, with_all}

-- an element at a place that is there
pub record IsThere {A : Type 0} (xs : List A) (k : ℕ) : Type 0 where
  pub element : A
  pub is : slice_get xs k ≡ Some element

pub there : {A : Type 0} (xs : List A) (k : ℕ) → k < length xs → IsThere xs k
there [] k below = absurd (omega arith)
there (x ∷ xs) zero below = record { element = x; is = refl }
there (x ∷ xs) (suc k) below = let rest = there xs k (omega arith) in record { element = rest.element; is = rest.is }

take-more : {A : Type 0} (xs : List A) (k : ℕ) (x : A) → slice_get xs k ≡ Some x → take (suc k) xs ≡ take k xs ++ x ∷ []
take-more [] k x e = absurd (cc)
take-more (y ∷ xs) zero x e = let one : y ≡ x = cc in ap (λ z. z ∷ []) one
take-more (y ∷ xs) (suc k) x e = ap (λ zs. y ∷ zs) (take-more xs k x e)

parted : {A : Type 0} (xs : List A) (k : ℕ) (x : A) → slice_get xs k ≡ Some x → xs ≡ take k xs ++ x ∷ drop (suc k) xs
parted [] k x e = absurd (cc)
parted (y ∷ xs) zero x e = let one : y ≡ x = cc in ap (λ z. z ∷ xs) one
parted (y ∷ xs) (suc k) x e = ap (λ zs. y ∷ zs) (parted xs k x e)

one-more : (told : Option Letters) (front : Letters) (d : Letter) → with_last (with_all told front) d.0 d.1 ≡ with_all told (front ++ d ∷ [])
one-more None front d = refl
one-more (Some told) front d = ap Some (append_assoc told front (d ∷ []))

-- the datagram at a place was sent behind those before it
pub sent-more : (ds : Letters) (place : ℕ) (d : Letter) (told now new : Option Letters)
    → slice_get ds place ≡ Some d → now ≡ with_all told (take place ds) → new ≡ with_last now d.0 d.1 → new ≡ with_all told (take (suc place) ds)
sent-more ds place d told now new is so_far sent =
    sent ∙ ap (λ o. with_last o d.0 d.1) so_far ∙ one-more told (take place ds) d ∙ ap (with_all told) (sym (take-more ds place d is))

-- it was refused
pub sent-front : (ds : Letters) (place : ℕ) (d : Letter) (told now new : Option Letters)
    → slice_get ds place ≡ Some d → now ≡ with_all told (take place ds) → new ≡ now → SendsFront ds told new
sent-front ds place d told now new is so_far same = record {
  front = take place ds;
  refused = d;
  later = drop (suc place) ds;
  parts = parted ds place d is;
  sent = same ∙ so_far;
}

-- ---- hearing

take-nil : (count : ℕ) → take {A = ℕ} count [] ≡ []
take-nil zero = refl
take-nil (suc count) = refl

take-cut : (bytes : List ℕ) (count most : ℕ) → count ≡ min (length bytes) most → take count bytes ≡ take most bytes
take-cut [] count most cut = take-nil count ∙ sym (take-nil most)
take-cut (b ∷ bytes) zero zero cut = refl
take-cut (b ∷ bytes) zero (suc most) cut = absurd (omega arith)
take-cut (b ∷ bytes) (suc count) zero cut = absurd (omega arith)
take-cut (b ∷ bytes) (suc count) (suc most) cut = ap (λ bs. b ∷ bs) (take-cut bytes count most (omega arith))

take-front : (count : ℕ) (bytes rest : List ℕ) → count ≤ length bytes → take count (take count bytes ++ rest) ≡ take count bytes
take-front zero bytes rest below = refl
take-front (suc count) [] rest below = absurd (omega arith)
take-front (suc count) (b ∷ bytes) rest below = ap (λ bs. b ∷ bs) (take-front count bytes rest (omega arith))

few : (count : ℕ) (bytes : List ℕ) → length (take count bytes) ≤ count
few zero bytes = omega arith
few (suc count) [] = omega arith
few (suc count) (b ∷ bytes) = let rest = few count bytes in omega arith

first-cut : (most count : ℕ) (origin : Party) (waiting : Letters) (tells : Option Letters) (buffer filled : List ℕ)
    → length buffer ≡ most → TakesFirst count origin waiting tells buffer filled → IsFirst most (origin, take count filled) waiting tells
first-cut most count origin waiting tells buffer filled long f = record {
  bytes = f.bytes;
  later = f.later;
  first = f.first;
  left = f.left;
  cut =
      ap (take count) f.copied
      ∙ take-front count f.bytes (drop count buffer) (let cut = f.cut in omega arith)
      ∙ take-cut f.bytes count most (f.cut ∙ ap (min (length f.bytes)) long);
}

-- a datagram that stands at the front of a buffer was heard
pub heard : (most count : ℕ) (origin : Party) (told tells : Option Letters) (buffer filled : List ℕ)
    → length buffer ≡ most → Comes (Came.Datagram count origin) told tells buffer filled → Hears most (Some (origin, take count filled)) told tells
heard most count origin told tells buffer filled long comes = (
  let short = few count filled in let within = comes.0 in omega arith,
  λ waiting is. first-cut most count origin waiting tells buffer filled long
      (comes.1 waiting is),
)
