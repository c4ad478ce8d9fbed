-- Datagrams that are sent over links.
use Rattle.std.proofs.Common.{◌≡◌, ℕ, ◌+◌, ◌-◌, ◌≤◌, List, [], ◌∷◌, ◌++◌, length, map, take, drop, zero, suc, Ok, Err, Option, Some, refl, sym, ap}
use Rattle.std.proofs.Common.{subst, ◌∙◌, arith, append_assoc, length-drop}
use Rattle.std.proofs.lemmas.List.{take_all}
use Rattle.std.specs.Prelude.{slice_get, slice_set}
use Rattle.nq_base.specs.declared.Party.{Party}
use Rattle.nq_link.specs.Link.{Letters, with_last}
use Rattle.nq_loop.specs.Sending.{FailsAt, FailsSending, SendsAll, SendsFront, changed_at, place_of, sent_all, sent_one, with_sent}
use Rattle.nq_loop.specs.declared.turns.Halt.{Halt}
use Rattle.nq_link.specs.Packets.{Datagram}
use Rattle.nq_link.specs.Links.{LinkTold}

-- ---- elements at places

pub set-changes : {A B : Type 0} (f : A → B) (change : B → B) (xs : List A) (place : ℕ) (old new : A) → slice_get xs place ≡ Some old → f new ≡ change (f old)
    → map f (slice_set xs place new) ≡ changed_at place change (map f xs)
set-changes f change [] place old new there same = absurd (cc)
set-changes f change (x ∷ xs) zero old new there same = let one : x ≡ old = cc in rw (one, same) refl
set-changes f change (x ∷ xs) (suc place) old new there same = ap (λ ys. f x ∷ ys) (set-changes f change xs place old new there same)

pub changes-none : {A : Type 0} (change : A → A) (xs : List A) (place : ℕ) → length xs ≤ place → changed_at place change xs ≡ xs
changes-none change [] place past = refl
changes-none change (x ∷ xs) zero past = absurd (omega arith)
changes-none change (x ∷ xs) (suc place) past = ap (λ ys. x ∷ ys) (changes-none change xs place (omega arith))

pub get-map : {A B : Type 0} (f : A → B) (xs : List A) (place : ℕ) (x : A) → slice_get xs place ≡ Some x → slice_get (map f xs) place ≡ Some (f x)
get-map f [] place x there = absurd (cc)
get-map f (y ∷ xs) zero x there = let one : y ≡ x = cc in ap (λ z. Some (f z)) one
get-map f (y ∷ xs) (suc place) x there = get-map f xs place x there

pub map-set-slice : {A B : Type 0} (f : A → B) (xs : List A) (place : ℕ) (x : A) → map f (slice_set xs place x) ≡ slice_set (map f xs) place (f x)
map-set-slice f [] place x = refl
map-set-slice f (y ∷ xs) zero x = refl
map-set-slice f (y ∷ xs) (suc place) x = ap (λ ys. f y ∷ ys) (map-set-slice f xs place x)

pub get-drop : {A : Type 0} (xs : List A) (first place : ℕ) → slice_get (drop first xs) place ≡ slice_get xs (first + place)
get-drop [] zero place = refl
get-drop [] (suc first) place = refl
get-drop (x ∷ xs) zero place = ap (λ n. slice_get (x ∷ xs) n) (omega arith)
get-drop (x ∷ xs) (suc first) place =
    let sum : suc first + place ≡ suc (first + place) = omega arith in
    rw sum (get-drop xs first place)

pub take-more : {A : Type 0} (xs : List A) (place : ℕ) (x : A) → slice_get xs place ≡ Some x → take (suc place) xs ≡ take place xs ++ x ∷ []
take-more [] place x there = absurd (cc)
take-more (y ∷ xs) zero x there = let one : y ≡ x = cc in ap (λ z. z ∷ []) one
take-more (y ∷ xs) (suc place) x there = ap (λ ys. y ∷ ys) (take-more xs place x there)

pub parted : {A : Type 0} (xs : List A) (place : ℕ) (x : A) → slice_get xs place ≡ Some x → xs ≡ take place xs ++ x ∷ drop (suc place) xs
parted [] place x there = absurd (cc)
parted (y ∷ xs) zero x there = let one : y ≡ x = cc in ap (λ z. z ∷ xs) one
parted (y ∷ xs) (suc place) x there = ap (λ ys. y ∷ ys) (parted xs place x there)

-- ---- sending

sent-append : (front later : List Datagram) (links : List LinkTold) → sent_all (front ++ later) links ≡ sent_all later (sent_all front links)
sent-append [] later links = refl
sent-append (f ∷ front) later links = sent-append front later (sent_one f links)

sent-behind : (front : List Datagram) (d : Datagram) (links : List LinkTold) → sent_all (front ++ d ∷ []) links ≡ sent_one d (sent_all front links)
sent-behind front d links = sent-append front (d ∷ []) links

-- so many of these were sent
abbrev pub SentUpTo : (ds : List Datagram) → (first number : ℕ) → (at now : List LinkTold) → Type 0
SentUpTo ds first number at now = now ≡ sent_all (take (number - first) (drop first ds)) at

here : (ds : List Datagram) (first number : ℕ) (d : Datagram) → first ≤ number → slice_get ds number ≡ Some d → slice_get (drop first ds)
    (number - first) ≡ Some d
here ds first number d low there =
    let sum : first + (number - first) ≡ number = omega arith in
    get-drop ds first (number - first) ∙ ap (slice_get ds) sum ∙ there

pub sent-more : (ds : List Datagram) (first number : ℕ) (d : Datagram) (at now new : List LinkTold) → first ≤ number → slice_get ds number ≡ Some d
    → SentUpTo ds first number at now
    → SendsAll (Ok tt) (d ∷ []) now new → SentUpTo ds first (number + 1) at new
sent-more ds first number d at now new low there so_far sent =
    let further : (number + 1) - first ≡ suc (number - first) = omega arith in
    rw (further, take-more (drop first ds) (number - first) d (here ds first number d low there)) (sent ∙ ap (sent_one d) so_far
    ∙ sym (sent-behind (take (number - first) (drop first ds)) d at))

pub all-sent : (ds : List Datagram) (first number : ℕ) (at now : List LinkTold) → length ds ≤ number → SentUpTo ds first number at now
    → SendsAll (Ok tt) (drop first ds) at now
all-sent ds first number at now whole so_far =
    let many = length-drop first ds in
    let past : length (drop first ds) ≤ number - first = omega arith in
    rw (take_all (number - first) (drop first ds) past) at so_far

empty-front : (front : List Datagram) (refused d : Datagram) (later : List Datagram) → d ∷ [] ≡ front ++ refused ∷ later → front ≡ []
empty-front [] refused d later parts = refl
empty-front (f ∷ []) refused d later parts = absurd (cc)
empty-front (f ∷ g ∷ front) refused d later parts = absurd (cc)

-- the next of them was refused
pub was-refused : (ds : List Datagram) (first number : ℕ) (d : Datagram) (at now new : List LinkTold) → first ≤ number → slice_get ds number ≡ Some d
    → SentUpTo ds first number at now
    → FailsSending (d ∷ []) now new → FailsSending (drop first ds) at new
was-refused ds first number d at now new low there so_far fails =
    let none : fails.front ≡ [] = empty-front fails.front fails.refused d fails.later fails.parts in
    let one : d ∷ [] ≡ fails.refused ∷ fails.later = subst (λ f. d ∷ [] ≡ f ++ fails.refused ∷ fails.later) none fails.parts in
    let same : d ≡ fails.refused = cc in
    let failed : FailsAt (place_of fails.refused.sender) now new = subst (λ f. FailsAt (place_of fails.refused.sender) (sent_all f now) new) none
    fails.fails in
    record {
      front = take (number - first) (drop first ds);
      refused = d;
      later = drop (suc (number - first)) (drop first ds);
      parts = parted (drop first ds) (number - first) d (here ds first number d low there);
      fails = rw same (subst (λ links. FailsAt (place_of fails.refused.sender) links new) so_far failed);
    }

-- memory was wanting for the next
pub was-wanting : (ds : List Datagram) (first number : ℕ) (d : Datagram) (at now new : List LinkTold) → first ≤ number → slice_get ds number ≡ Some d
    → SentUpTo ds first number at now
    → SendsFront (d ∷ []) now new → SendsFront (drop first ds) at new
was-wanting ds first number d at now new low there so_far sends =
    let rest = drop first ds in
    let count = number - first in
    record {
      front = take count rest ++ sends.front;
      later = sends.later ++ drop (suc count) rest;
      parts =
          parted rest count d (here ds first number d low there)
          ∙ ap (λ xs. take count rest ++ (xs ++ drop (suc count) rest)) sends.parts
          ∙ ap (λ xs. take count rest ++ xs) (append_assoc sends.front sends.later (drop (suc count) rest))
          ∙ sym (append_assoc (take count rest) sends.front (sends.later ++ drop (suc count) rest));
      sent = sends.sent ∙ ap (sent_all sends.front) so_far ∙ sym (sent-append (take count rest) sends.front at);
    }

-- ---- one datagram

-- this datagram was sent over the link told of these
abbrev pub IsSent : Datagram → (s s' w w' : Option Letters) (f f' r r' : ℕ) → Type 0
IsSent d s s' w w' f f' r r' =
    let old : LinkTold = record { sent = s; waiting = w; faults = f; receives = r } in
    let new : LinkTold = record { sent = s'; waiting = w'; faults = f'; receives = r' } in
    new ≡ with_sent d old

pub told-sent : (d : Datagram) (s s' w w' : Option Letters) (f f' r r' : ℕ) (to : Party) (bytes : List ℕ) → s' ≡ with_last s to bytes → to ≡ d.to
    → bytes ≡ d.bytes → w' ≡ w → r' ≡ r → f' ≡ f
    → IsSent d s s' w w' f f' r r'
told-sent d s s' w w' f f' r r' to bytes sent is same waiting receives count = rw (sent, waiting, receives, count, ← is, ← same) refl

-- the link told of these failed
abbrev pub IsFailed : (s s' w w' : Option Letters) (f f' r r' : ℕ) → Type 0
IsFailed s s' w w' f f' r r' =
    let old : LinkTold = record { sent = s; waiting = w; faults = f; receives = r } in
    let new : LinkTold = record { sent = s'; waiting = w'; faults = f'; receives = r' } in
    new ≡ record old { faults = f' }

pub told-failed : (s s' w w' : Option Letters) (f f' r r' : ℕ) → s' ≡ s → w' ≡ w → r' ≡ r → IsFailed s s' w w' f f' r r'
told-failed s s' w w' f f' r r' sent waiting receives = rw (sent, waiting, receives) refl

-- it stopped at one of them
pub stops-at : (why : Halt) (ds : List Datagram) (first number : ℕ) (d : Datagram) (at now new : List LinkTold) → first ≤ number → slice_get ds number
    ≡ Some d → SentUpTo ds first number at now
    → SendsAll (Err why) (d ∷ []) now new → SendsAll (Err why) (drop first ds) at new
stops-at Halt.Link ds first number d at now new low there so_far stops = was-refused ds first number d at now new low there so_far stops
stops-at Halt.Memory ds first number d at now new low there so_far stops = was-wanting ds first number d at now new low there so_far stops
stops-at Halt.Keep ds first number d at now new low there so_far stops = absurd stops
stops-at (Halt.Limit limit) ds first number d at now new low there so_far stops = absurd stops
