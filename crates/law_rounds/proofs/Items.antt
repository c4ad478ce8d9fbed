-- What is under way, told in items: a packet, or a VACATED and the request right behind it.
use Rattle.std.proofs.Common.{◌≡◌, ◌≤◌, ◌<◌, ℕ, ◌+◌, ◌-◌, ◌==◌, ◌++◌, false, true, zero, suc, List, [], ◌∷◌, Some, length, refl, sym, ap, subst, ◌∙◌, arith}
use Rattle.std.specs.Prelude.{All, slice_get}
use Rattle.std.proofs.lemmas.Bool.Decides.{nat_tests}
use Rattle.std.proofs.lemmas.List.{length-append}
use Rattle.nq_base.specs.declared.Request.{Request}
use Rattle.nq_base.specs.declared.Tag.{Tag}
use Rattle.nq_base.specs.declared.Who.{Who}
use Rattle.nq_model.specs.protocol.Lines.{numbers_from, without, added}
use Rattle.nq_model.specs.protocol.Message.{Packet, call}
use Rattle.nq_model.specs.protocol.World.{World, from_host}
use Rattle.walk_steps.proofs.ClientMoves.{none-some}
use Rattle.walk_steps.proofs.Rows.{number-same}
use Rattle.law_rounds.specs.DeliveryEnds.{AreUnderWay}

-- a packet of this number; or two packets of a host, the first of this number: it gives a lease up, and asks
pub data Item : Type 0 where
  one : (k : ℕ) (p : Packet) → Item
  pair : (k host x y file : ℕ) (who : Who) (tag : Tag) (r : Request) → Item

abbrev pub numbers_of : Item → List ℕ
numbers_of (one k p) = k ∷ []
numbers_of (pair k host x y file who tag r) = k ∷ (k + 1) ∷ []

abbrev pub all_numbers : List Item → List ℕ
all_numbers [] = []
all_numbers (i ∷ items) = numbers_of i ++ all_numbers items

-- an item of one packet
pub data IsSingle (i : Item) : Type 0 where
  single : (k : ℕ) (p : Packet) → i ≡ one k p → IsSingle i

-- something holds of each item
abbrev pub Each : (Item → Type 0) → List Item → Type 0
Each P [] = Unit {0}
Each P (i ∷ items) = P i × Each P items

pub each-append : (P : Item → Type 0) (xs ys : List Item) → Each P xs → Each P ys → Each P (xs ++ ys)
each-append P [] ys a b = b
each-append P (x ∷ xs) ys a b = (a.0, each-append P xs ys a.1 b)

pub each-map : (P Q : Item → Type 0) → ((i : Item) → P i → Q i) → (xs : List Item) → Each P xs → Each Q xs
each-map P Q f [] a = tt
each-map P Q f (x ∷ xs) a = (f x a.0, each-map P Q f xs a.1)

pub all-append : (xs ys : List Item) → all_numbers (xs ++ ys) ≡ all_numbers xs ++ all_numbers ys
all-append [] ys = refl
all-append (x ∷ xs) ys = ap (λ ns. numbers_of x ++ ns) (all-append xs ys) ∙ behind x
  where
    behind : (i : Item) → numbers_of i ++ (all_numbers xs ++ all_numbers ys) ≡ (numbers_of i ++ all_numbers xs) ++ all_numbers ys
    behind (one k p) = refl
    behind (pair k host x y file who tag r) = refl

-- an item's packets were sent, with these numbers
abbrev pub IsSentAs : List Packet → Item → Type 0
IsSentAs ps (one k p) = slice_get ps k ≡ Some p
IsSentAs ps (pair k host x y file who tag r) =
    (slice_get ps k ≡ Some (from_host host (call x (Request.Vacated who file tag)))) × (slice_get ps (k + 1) ≡ Some (from_host host (call y r)))

get-longer : {A : Type 0} (xs ys : List A) (k : ℕ) (x : A) → slice_get xs k ≡ Some x → slice_get (xs ++ ys) k ≡ Some x
get-longer [] ys k x is = none-some x is
get-longer (z ∷ xs) ys zero x is = is
get-longer (z ∷ xs) ys (suc k) x is = get-longer xs ys k x is

sent-longer : (ps more : List Packet) (i : Item) → IsSentAs ps i → IsSentAs (ps ++ more) i
sent-longer ps more (one k p) s = get-longer ps more k p s
sent-longer ps more (pair k host x y file who tag r) s = (get-longer ps more k _ s.0, get-longer ps more (k + 1) _ s.1)

-- ---- numbers in order

-- numbers rise, from one that is not below this and up to one that is below that
abbrev pub Rise : (low high : ℕ) → List ℕ → Type 0
Rise low high [] = low ≤ high
Rise low high (k ∷ numbers) = (low ≤ k) × Rise (k + 1) high numbers

pub rise-within : (low high : ℕ) (numbers : List ℕ) → Rise low high numbers → low ≤ high
rise-within low high [] r = r
rise-within low high (k ∷ numbers) r = let rest = rise-within (k + 1) high numbers r.1 in let first = r.0 in omega arith

rise-lower : (lower low high : ℕ) (numbers : List ℕ) → lower ≤ low → Rise low high numbers → Rise lower high numbers
rise-lower lower low high [] less r = omega arith
rise-lower lower low high (k ∷ numbers) less r = (let first = r.0 in omega arith, r.1)

under-way-rise : (low sent : ℕ) (numbers : List ℕ) → low ≤ sent → All (λ later. low ≤ later) numbers → AreUnderWay sent numbers → Rise low sent numbers
under-way-rise low sent [] few all u = few
under-way-rise low sent (k ∷ numbers) few all u =
    (all 0 k (omega arith), under-way-rise (k + 1) sent numbers (let below = u.0 in omega arith) (λ i d is. let later = u.1 i d is in omega arith) u.2)

pub from-under-way : (sent : ℕ) (numbers : List ℕ) → AreUnderWay sent numbers → Rise 0 sent numbers
from-under-way sent numbers u = under-way-rise 0 sent numbers (omega arith) (λ i d is. omega arith) u

without-higher : (k low high : ℕ) (numbers : List ℕ) → k < low → Rise low high numbers → without k numbers ≡ numbers
without-higher k low high [] less r = refl
without-higher k low high (n ∷ numbers) less r =
    let rest = without-higher k (n + 1) high numbers (let first = r.0 in omega arith) r.1 in
    let apart : (n == k) ≡ false = other n k (let first = r.0 in omega arith) in
    rw apart (ap (λ ns. n ∷ ns) rest)
  where
    other : (n k : ℕ) → k < n → (n == k) ≡ false
    other n k below = grind (arith, nat_tests)

-- the first of them is delivered
pub without-first : (k high : ℕ) (numbers : List ℕ) → Rise (k + 1) high numbers → without k (k ∷ numbers) ≡ numbers
without-first k high numbers r =
    let same : (k == k) ≡ true = number-same k k refl in
    rw same (without-higher k (k + 1) high numbers (omega arith) r)

rise-from : (first count : ℕ) → Rise first (first + count) (numbers_from first count)
rise-from first zero = omega arith
rise-from first (suc count) = (
  omega arith,
  let same : (first + 1) + count ≡ first + suc count = omega arith in
      subst (λ n. Rise (first + 1) n (numbers_from (first + 1) count)) same (rise-from (first + 1) count),
)

rise-append : (low high count : ℕ) (numbers : List ℕ) → Rise low high numbers → Rise low (high + count) (numbers ++ numbers_from high count)
rise-append low high count [] r = rise-lower low high (high + count) (numbers_from high count) r (rise-from high count)
rise-append low high count (k ∷ numbers) r = (r.0, rise-append (k + 1) high count numbers r.1)

-- ---- a queue

-- what is under way stands in items, in order, and was sent
pub record Queued (ps : List Packet) (fresh : List ℕ) (items : List Item) : Type 0 where
  pub is : fresh ≡ all_numbers items
  pub sent : Each (IsSentAs ps) items
  pub rises : Rise 0 (length ps) fresh

-- as many packets as were sent now stand in further items
pub record Adds (ps more : List Packet) (items : List Item) : Type 0 where
  pub are : all_numbers items ≡ numbers_from (length ps) (length more)
  pub sent : Each (IsSentAs (ps ++ more)) items

pub adds-none : (ps : List Packet) → Adds ps [] []
adds-none ps = record { are = refl; sent = tt }

-- one for each
abbrev pub ones : (first : ℕ) → List Packet → List Item
ones first [] = []
ones first (p ∷ more) = one first p ∷ ones (first + 1) more

ones-are : (first : ℕ) (more : List Packet) → all_numbers (ones first more) ≡ numbers_from first (length more)
ones-are first [] = refl
ones-are first (p ∷ more) = ap (λ ns. first ∷ ns) (ones-are (first + 1) more)

pub get-behind : {A : Type 0} (xs : List A) (y : A) (ys : List A) → slice_get (xs ++ y ∷ ys) (length xs) ≡ Some y
get-behind [] y ys = refl
get-behind (x ∷ xs) y ys = get-behind xs y ys

ones-sent : (ps more : List Packet) (n : ℕ) → length ps ≡ n → Each (IsSentAs (ps ++ more)) (ones n more)
ones-sent ps [] n len = tt
ones-sent ps (p ∷ more) n len = (
  subst (λ k. slice_get (ps ++ p ∷ more) k ≡ Some p) len (get-behind ps p more),
  subst (λ qs. Each (IsSentAs qs) (ones (n + 1) more)) (append-one ps p more) (ones-sent (ps ++ p ∷ []) more (n + 1) (let both = length-append ps
      (p ∷ []) in omega arith)),
)
  where
    append-one : (xs : List Packet) (y : Packet) (ys : List Packet) → (xs ++ y ∷ []) ++ ys ≡ xs ++ y ∷ ys
    append-one [] y ys = refl
    append-one (x ∷ xs) y ys = ap (λ zs. x ∷ zs) (append-one xs y ys)

pub adds-ones : (ps more : List Packet) → Adds ps more (ones (length ps) more)
adds-ones ps more = record { are = ones-are (length ps) more; sent = ones-sent ps more (length ps) refl }

-- a VACATED, and the request right behind it
abbrev pub pair_sent : (host x y file : ℕ) (who : Who) (tag : Tag) (r : Request) → List Packet
pair_sent host x y file who tag r = from_host host (call x (Request.Vacated who file tag)) ∷ from_host host (call y r) ∷ []

pub adds-pair : (ps : List Packet) (host x y file : ℕ) (who : Who) (tag : Tag) (r : Request) → Adds ps (pair_sent host x y file who tag r)
    (pair (length ps) host x y file who tag r ∷ [])
adds-pair ps host x y file who tag r =
    let two = ones-sent ps (pair_sent host x y file who tag r) (length ps) refl in
    record { are = refl; sent = ((two.0, two.1.0), tt) }

-- the first packet is delivered, and others are sent
pub delivered-queue : (w v : World) (more : List Packet) (k : ℕ) (p : Packet) (fresh : List ℕ) (items new : List Item) → Queued w.packets (k ∷ fresh)
    (one k p ∷ items) → v.packets ≡ w.packets ++ more → Adds w.packets more new → Queued v.packets (without k (k ∷ fresh) ++ added w v) (items ++ new)
delivered-queue w v more k p fresh items new q grown adds =
    let gone = without-first k (length w.packets) fresh q.rises.1 in
    let longer : length v.packets ≡ length w.packets + length more = ap (λ (ps : List Packet). length ps) grown ∙ length-append w.packets more in
    let count : length v.packets - length w.packets ≡ length more = omega arith in
    let came : added w v ≡ numbers_from (length w.packets) (length more) = ap (numbers_from (length w.packets)) count in
    let rest : fresh ≡ all_numbers items = tail-same k k fresh (all_numbers items) q.is in
    let both : without k (k ∷ fresh) ++ added w v ≡ fresh ++ numbers_from (length w.packets) (length more) = ap (λ ns. ns ++ added w v) gone
    ∙ ap (λ ns. fresh ++ ns) came in
    record {
      is = both ∙ ap (λ ns. ns ++ numbers_from (length w.packets) (length more)) rest ∙ ap (λ ns. all_numbers items ++ ns) (sym adds.are)
          ∙ sym (all-append items new);
      sent = subst (λ ps. Each (IsSentAs ps) (items ++ new)) (sym grown) (each-append (IsSentAs (w.packets ++ more)) items new
          (each-map (IsSentAs w.packets) (IsSentAs (w.packets ++ more)) (λ i s. sent-longer w.packets more i s) items q.sent.1) adds.sent);
      rises = subst (λ ns. Rise 0 (length v.packets) ns) (sym both) (subst (λ n. Rise 0 n (fresh ++ numbers_from (length w.packets) (length more)))
          (sym longer) (rise-append 0 (length w.packets) (length more) fresh (rise-lower 0 (k + 1) (length w.packets) fresh (omega arith) q.rises.1)));
    }
  where
    tail-same : (a b : ℕ) (xs ys : List ℕ) → a ∷ xs ≡ b ∷ ys → xs ≡ ys
    tail-same a b xs ys e = cc

-- a pair is two packets
pub pair-apart : (ps : List Packet) (fresh : List ℕ) (items : List Item) (k host x y file : ℕ) (who : Who) (tag : Tag) (r : Request)
    → Queued ps fresh (pair k host x y file who tag r ∷ items) → Queued ps fresh (one k (from_host host (call x (Request.Vacated who file tag)))
    ∷ one (k + 1) (from_host host (call y r)) ∷ items)
pair-apart ps fresh items k host x y file who tag r q = record { is = q.is; sent = (q.sent.0.0, (q.sent.0.1, q.sent.1)); rises = q.rises }

-- all that is under way, each packet for itself
pub queue-of : (ps : List Packet) (fresh : List ℕ) → Rise 0 (length ps) fresh → (items : List Item) × (Queued ps fresh items × Each IsSingle items)
queue-of ps fresh rises = let found = packets-of 0 fresh rises in (found.0, (record { is = found.1.0; sent = found.1.1.0; rises = rises }, found.1.1.1))
  where
    there : (xs : List Packet) (k : ℕ) → k < length xs → (p : Packet) × (slice_get xs k ≡ Some p)
    there [] k below = absurd (omega arith)
    there (x ∷ xs) zero below = (x, refl)
    there (x ∷ xs) (suc k) below = there xs k (omega arith)

    packets-of : (low : ℕ) (numbers : List ℕ) → Rise low (length ps) numbers → (items : List Item) × ((numbers ≡ all_numbers items)
        × (Each (IsSentAs ps) items × Each IsSingle items))
    packets-of low [] r = ([], (refl, (tt, tt)))
    packets-of low (k ∷ numbers) r =
        let within = rise-within (k + 1) (length ps) numbers r.1 in
        let p = there ps k (omega arith) in
        let rest = packets-of (k + 1) numbers r.1 in
        (one k p.0 ∷ rest.0, (ap (λ ns. k ∷ ns) rest.1.0, ((p.1, rest.1.1.0), (single k p.0 refl, rest.1.1.1))))
