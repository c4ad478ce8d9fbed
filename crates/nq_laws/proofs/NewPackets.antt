-- What is under way after an event was under way before it, or was sent in it: each with its place.
use Rattle.std.proofs.Common.{◌≡◌, ◌≤◌, ◌<◌, ◌⊎◌, ℕ, ◌+◌, ◌-◌, ◌==◌, ◌++◌, not, true, zero, suc, List, [], ◌∷◌, Some, length, refl, sym, ap, ◌∙◌}
use Rattle.std.proofs.Common.{arith, inl, inr}
use Rattle.std.specs.Prelude.{map, slice_get}
use Rattle.nq_base.specs.declared.Event.{Event}
use Rattle.nq_model.specs.protocol.Lines.{Play, play, delivered, added}
use Rattle.nq_model.specs.protocol.Message.{Packet}
use Rattle.nq_model.specs.protocol.World.{step}
use Rattle.law_rounds.proofs.Items.{Rise}
use Rattle.law_rounds.proofs.CalmEnds.{IsRising}
use Rattle.law_rounds.proofs.PacketsCome.{Comes}
use Rattle.walk_steps.proofs.ClientMoves.{some-same, none-some}
use Rattle.walk_steps.proofs.Members.{in-filter}
use Rattle.walk_steps.proofs.Packets.{In, in-append}
use Rattle.walk_steps.proofs.Rows.{number-same}
use Rattle.law_rounds.proofs.Next.{OneLink, IsNext, sent-later}
use Rattle.law_rounds.proofs.ComesFrom.{from-least, still-fresh}

-- ---- lists by place

get-low : {A : Type 0} (xs ys : List A) (n : ℕ) → n < length xs → slice_get (xs ++ ys) n ≡ slice_get xs n
get-low [] ys n below = absurd (omega arith)
get-low (x ∷ xs) ys zero below = refl
get-low (x ∷ xs) ys (suc n) below = get-low xs ys n (omega arith)

get-high : {A : Type 0} (xs ys : List A) (i : ℕ) → slice_get (xs ++ ys) (length xs + i) ≡ slice_get ys i
get-high [] ys i = let e : 0 + i ≡ i = omega arith in ap (slice_get ys) e
get-high (x ∷ xs) ys i = let e : length (x ∷ xs) + i ≡ suc (length xs + i) = omega arith in ap (slice_get (x ∷ (xs ++ ys))) e ∙ get-high xs ys i

-- what stands at a place after a last element was added
pub get-last : {A : Type 0} (xs : List A) (y x : A) (i : ℕ) → slice_get (xs ++ y ∷ []) i ≡ Some x → (slice_get xs i ≡ Some x) ⊎ ((i ≡ length xs) × (y ≡ x))
get-last [] y x zero is = inr (refl, some-same y x is)
get-last [] y x (suc i) is = none-some x is
get-last (z ∷ xs) y x zero is = inl is
get-last (z ∷ xs) y x (suc i) is = by (get-last xs y x i is)
  where
    by : (slice_get xs i ≡ Some x) ⊎ ((i ≡ length xs) × (y ≡ x)) → (slice_get (z ∷ xs) (suc i) ≡ Some x) ⊎ ((suc i ≡ length (z ∷ xs)) × (y ≡ x))
    by (inl old) = inl old
    by (inr new) = inr (let same = new.0 in omega arith, new.1)

pub get-mapped : {A B : Type 0} (f : A → B) (xs : List A) (y : B) (i : ℕ) → slice_get (map f xs) i ≡ Some y → (x : A) × (slice_get xs i ≡ Some x) × (f x ≡ y)
get-mapped f [] y i is = none-some y is
get-mapped f (x ∷ xs) y zero is = (x, refl, some-same (f x) y is)
get-mapped f (x ∷ xs) y (suc i) is = get-mapped f xs y i is

-- ---- numbers that rise

rise-bounds : (low high n : ℕ) (numbers : List ℕ) → Rise low high numbers → In numbers n → (low ≤ n) × (n < high)
rise-bounds low high n [] r i = absurd i
rise-bounds low high n (k ∷ numbers) r (inl e) = let within = rise-high (k + 1) high numbers r.1 in let first : low ≤ k = r.0 in (omega arith, omega arith)
  where
    rise-high : (low high : ℕ) (numbers : List ℕ) → Rise low high numbers → low ≤ high
    rise-high low high [] r = r
    rise-high low high (m ∷ numbers) r = let rest = rise-high (m + 1) high numbers r.1 in let first : low ≤ m = r.0 in omega arith
rise-bounds low high n (k ∷ numbers) r (inr i) = let rest = rise-bounds (k + 1) high n numbers r.1 i in let first : low ≤ k = r.0 in let least = rest.0 in
    (omega arith, rest.1)

-- ---- packets under way

-- a packet under way after an event: with the same number before, or sent in the event
pub data WasOrNew (p : Play) (e : Event) (more : List Packet) (q : Packet) (c : Comes (play p e) q) : Type 0 where
  was : (b : Comes p q) → b.number ≡ c.number → In (delivered e p.fresh) c.number → WasOrNew p e more q c
  new : (i : ℕ) → c.number ≡ length p.world.packets + i → slice_get more i ≡ Some q → WasOrNew p e more q c

pub was-or-new : (p : Play) (e : Event) (more : List Packet) → IsRising p → (step p.world e).packets ≡ p.world.packets ++ more
    → (q : Packet) (c : Comes (play p e) q) → WasOrNew p e more q c
was-or-new p e more rising is q c = by (in-append (delivered e p.fresh) (added p.world (step p.world e)) c.number c.fresh)
  where
    at : slice_get (p.world.packets ++ more) c.number ≡ Some q
    at = ap (λ ps. slice_get ps c.number) (sym is) ∙ c.is

    by : In (delivered e p.fresh) c.number ⊎ In (added p.world (step p.world e)) c.number → WasOrNew p e more q c
    by (inl i) =
        let old = still-fresh e p.fresh c.number i in
        let low = (rise-bounds 0 (length p.world.packets) c.number p.fresh rising old).1 in
        was (record { number = c.number; fresh = old; is = sym (get-low p.world.packets more c.number low) ∙ at }) refl i
    by (inr i) =
        let least = from-least (length p.world.packets) (length (step p.world e).packets - length p.world.packets) c.number i in
        let split : c.number ≡ length p.world.packets + (c.number - length p.world.packets) = omega arith in
        new (c.number - length p.world.packets) split
        (sym (get-high p.world.packets more (c.number - length p.world.packets)) ∙ ap (slice_get (p.world.packets ++ more)) (sym split) ∙ at)

-- what was under way before has a lower number than what was sent
pub lower : (p : Play) → IsRising p → (q : Packet) (b : Comes p q) → b.number < length p.world.packets
lower p rising q b = (rise-bounds 0 (length p.world.packets) b.number p.fresh rising b.fresh).1

-- the next packet of a link is delivered: what stays of its link has a higher number
pub behind-next : (p : Play) (k : ℕ) → IsNext p k → IsRising p → (n : ℕ) (a b : Packet) → slice_get p.world.packets n ≡ Some a
    → slice_get p.world.packets k ≡ Some b → OneLink a b → In (delivered (Event.Deliver k) p.fresh) n → k < n
behind-next p k next rising n a b at there one i = by (sent-later p k next rising n a b kept.0 at there one)
  where
    kept : In p.fresh n × (not (n == k) ≡ true)
    kept = in-filter (λ m. not (m == k)) p.fresh n i

    by : (n ≡ k) ⊎ (k < n) → k < n
    by (inr later) = later
    by (inl same) =
        let yes : (n == k) ≡ true = number-same n k same in
        let no : not (n == k) ≡ true = kept.1 in
        let bad : not true ≡ true = ap not (sym yes) ∙ no in
        absurd (cc)
