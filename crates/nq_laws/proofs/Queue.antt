-- What is under way in a play, in order; and what a delivery makes of it.
use Rattle.std.proofs.Common.{◌≡◌, ◌≤◌, ◌<◌, ◌⊎◌, ℕ, ◌+◌, ◌-◌, ◌==◌, ◌++◌, not, if◌then◌else◌, Bool, true, false, zero, suc, List, [], ◌∷◌, Option}
use Rattle.std.proofs.Common.{Some, None, length, refl, sym, subst, ap, ◌∙◌, arith, inl, inr}
use Rattle.std.specs.Prelude.{slice_get}
use Rattle.std.proofs.lemmas.List.{length-append}
use Rattle.nq_base.specs.declared.Event.{Event}
use Rattle.nq_model.specs.protocol.Lines.{Play, play, without, numbers_from, added}
use Rattle.nq_model.specs.protocol.Message.{Packet}
use Rattle.nq_model.specs.protocol.World.{step}
use Rattle.law_rounds.proofs.Items.{Rise, without-first}
use Rattle.law_rounds.proofs.CalmEnds.{IsRising}
use Rattle.law_rounds.proofs.PacketsCome.{Comes, get-kept}
use Rattle.law_rounds.proofs.Next.{OneLink, IsNext, next-in, rise-behind}
use Rattle.walk_steps.proofs.Packets.{In, in-append, in-left, in-right}
use Rattle.walk_steps.proofs.Rows.{same-number}

-- the packets of some numbers, in order
abbrev pub with_packet : Option Packet → List Packet → List Packet
with_packet None rest = rest
with_packet (Some q) rest = q ∷ rest

abbrev pub packets_of : List Packet → List ℕ → List Packet
packets_of ps [] = []
packets_of ps (k ∷ ks) = with_packet (slice_get ps k) (packets_of ps ks)

-- what is under way
abbrev pub queue : Play → List Packet
queue p = packets_of p.world.packets p.fresh

-- ---- numbers

pub there-is : {A : Type 0} (xs : List A) (k : ℕ) → k < length xs → (o : Option A) → slice_get xs k ≡ o → (x : A) × (o ≡ Some x)
there-is [] k below o e = absurd (omega arith)
there-is (x ∷ xs) zero below o e = (x, sym e)
there-is (x ∷ xs) (suc k) below o e = there-is xs k (omega arith) o e

rise-below : (low high : ℕ) (ks : List ℕ) → Rise low high ks → (k : ℕ) → In ks k → (low ≤ k) × (k < high)
rise-below low high [] r k i = absurd i
rise-below low high (n ∷ ks) r k (inl e) = let first = r.0 in (omega arith, let rest = low-high (n + 1) high ks r.1 in omega arith)
  where
    low-high : (low high : ℕ) (ks : List ℕ) → Rise low high ks → low ≤ high
    low-high low high [] r = r
    low-high low high (m ∷ ks) r = let first = r.0 in let rest = low-high (m + 1) high ks r.1 in omega arith
rise-below low high (n ∷ ks) r k (inr i) = let rest = rise-below (n + 1) high ks r.1 k i in let first = r.0 in (let a = rest.0 in omega arith, rest.1)

-- ---- lists of packets

-- a packet of the list has one of the numbers
pub record HasNumber (ps : List Packet) (ks : List ℕ) (y : Packet) : Type 0 where
  pub number : ℕ
  pub among : In ks number
  pub is : slice_get ps number ≡ Some y

pub in-numbers : (ps : List Packet) (ks : List ℕ) (y : Packet) → In (packets_of ps ks) y → HasNumber ps ks y
in-numbers ps [] y i = absurd i
in-numbers ps (k ∷ ks) y i = by (λ j. in-numbers ps ks y j) (slice_get ps k) refl i
  where
    more : HasNumber ps ks y → HasNumber ps (k ∷ ks) y
    more h = record { number = h.number; among = inr h.among; is = h.is }

    by : (In (packets_of ps ks) y → HasNumber ps ks y) → (o : Option Packet) → slice_get ps k ≡ o → In (with_packet o (packets_of ps ks)) y
        → HasNumber ps (k ∷ ks) y
    by again None e j = more (again j)
    by again (Some q) e (inl same) = record { number = k; among = inl refl; is = e ∙ ap Some same }
    by again (Some q) e (inr j) = more (again j)

-- what is in the queue is under way
pub in-comes : (p : Play) (y : Packet) → In (queue p) y → Comes p y
in-comes p y i = let h = in-numbers p.world.packets p.fresh y i in record { number = h.number; fresh = h.among; is = h.is }

-- ---- a delivery

longer-packets : (ps more : List Packet) (ks : List ℕ) (low : ℕ) → Rise low (length ps) ks → packets_of (ps ++ more) ks ≡ packets_of ps ks
longer-packets ps more [] low r = refl
longer-packets ps more (k ∷ ks) low r =
    let at = there-is ps k (rise-below low (length ps) (k ∷ ks) r k (inl refl)).1 (slice_get ps k) refl in
    let there : slice_get (ps ++ more) k ≡ slice_get ps k = get-kept ps more k at.0 at.1 ∙ sym at.1 in
    ap (λ o. with_packet o (packets_of (ps ++ more) ks)) there ∙ ap (with_packet (slice_get ps k)) (longer-packets ps more ks (k + 1) r.1)

get-behind : (ps more : List Packet) (j : ℕ) → slice_get (ps ++ more) (length ps + j) ≡ slice_get more j
get-behind [] more j = let e : 0 + j ≡ j = omega arith in ap (slice_get more) e
get-behind (x ∷ ps) more j = let e : length (x ∷ ps) + j ≡ suc (length ps + j) = omega arith in ap (slice_get (x ∷ (ps ++ more))) e ∙ get-behind ps more j

-- the packets of the numbers from one on are those from there on
from-numbers : (all more : List Packet) (first : ℕ) → ((j : ℕ) → slice_get all (first + j) ≡ slice_get more j)
    → packets_of all (numbers_from first (length more)) ≡ more
from-numbers all [] first at = refl
from-numbers all (x ∷ more) first at =
    let e : first + 0 ≡ first = omega arith in
    let one : slice_get all first ≡ Some x = ap (slice_get all) (sym e) ∙ at 0 in
    ap (λ o. with_packet o (packets_of all (numbers_from (first + 1) (length more)))) one
    ∙ ap (λ ys. x ∷ ys) (from-numbers all more (first + 1) (λ j. let s : (first + 1) + j ≡ first + suc j = omega arith in ap (slice_get all) s ∙ at (suc j)))

two-lists : (ps : List Packet) (ks ms : List ℕ) → packets_of ps (ks ++ ms) ≡ packets_of ps ks ++ packets_of ps ms
two-lists ps [] ms = refl
two-lists ps (k ∷ ks) ms = by (two-lists ps ks ms) (slice_get ps k)
  where
    by : packets_of ps (ks ++ ms) ≡ packets_of ps ks ++ packets_of ps ms → (o : Option Packet)
        → with_packet o (packets_of ps (ks ++ ms)) ≡ with_packet o (packets_of ps ks) ++ packets_of ps ms
    by again None = again
    by again (Some q) = ap (λ ys. q ∷ ys) again

-- what is left where a number among rising ones is taken out
without-next : (low high k : ℕ) (before behind : List ℕ) → Rise low high (before ++ k ∷ behind) → without k (before ++ k ∷ behind) ≡ before ++ behind
without-next low high k [] behind r = without-first k high behind r.1
without-next low high k (j ∷ before) behind r = by (j == k) refl (without-next (j + 1) high k before behind r.1)
  where
    above : (low : ℕ) (before : List ℕ) → Rise low high (before ++ k ∷ behind) → low ≤ k
    above low [] r = r.0
    above low (i ∷ before) r = let first : low ≤ i = r.0 in let rest = above (i + 1) before r.1 in omega arith

    by : (b : Bool) → (j == k) ≡ b → without k (before ++ k ∷ behind) ≡ before ++ behind
        → (if not b then j ∷ without k (before ++ k ∷ behind) else without k (before ++ k ∷ behind)) ≡ j ∷ (before ++ behind)
    by false e rest = ap (λ ns. j ∷ ns) rest
    by true e rest = let same = same-number j k e in let late = above (j + 1) before r.1 in absurd (omega arith)

rise-without : (low high k : ℕ) (before behind : List ℕ) → Rise low high (before ++ k ∷ behind) → Rise low high (before ++ behind)
rise-without low high k [] behind r = by behind r.1
  where
    by : (ns : List ℕ) → Rise (k + 1) high ns → Rise low high ns
    by [] rest = let first : low ≤ k = r.0 in omega arith
    by (n ∷ ns) rest = (let first : low ≤ k = r.0 in let second = rest.0 in omega arith, rest.1)
rise-without low high k (j ∷ before) behind r = (r.0, rise-without (j + 1) high k before behind r.1)

module _ (p : Play) (k : ℕ) (next : IsNext p k) (rising : IsRising p) where
  rises : Rise 0 (length p.world.packets) (next.before ++ k ∷ next.behind)
  rises = subst (λ ns. Rise 0 (length p.world.packets) ns) next.split rising

  -- the next packet
  pub head-packet : (y : Packet) × (slice_get p.world.packets k ≡ Some y)
  head-packet =
      let low = (rise-below 0 (length p.world.packets) (next.before ++ k ∷ next.behind) rises k (in-right next.before (k ∷ next.behind) k (inl refl))).1 in
      there-is p.world.packets k low (slice_get p.world.packets k) refl

  -- those before it, and those behind it
  pub queue-parts : (y : Packet) → slice_get p.world.packets k ≡ Some y
      → queue p ≡ packets_of p.world.packets next.before ++ y ∷ packets_of p.world.packets next.behind
  queue-parts y is =
      ap (packets_of p.world.packets) next.split
      ∙ two-lists p.world.packets next.before (k ∷ next.behind)
      ∙ ap (λ o. packets_of p.world.packets next.before ++ with_packet o (packets_of p.world.packets next.behind)) is

  pub rest-parts : packets_of p.world.packets (next.before ++ next.behind)
      ≡ packets_of p.world.packets next.before ++ packets_of p.world.packets next.behind
  rest-parts = two-lists p.world.packets next.before next.behind

  -- those before it are of other links
  pub before-apart : (y z : Packet) → slice_get p.world.packets k ≡ Some y → In (packets_of p.world.packets next.before) z → OneLink z y → ⊥
  before-apart y z sent i one = let h = in-numbers p.world.packets next.before z i in next.apart h.number z y h.among h.is sent one

  left-fresh : (n : ℕ) → In (next.before ++ next.behind) n → In p.fresh n
  left-fresh n i = subst (λ ns. In ns n) (sym next.split) (by (in-append next.before next.behind n i))
    where
      by : In next.before n ⊎ In next.behind n → In (next.before ++ k ∷ next.behind) n
      by (inl early) = in-left next.before (k ∷ next.behind) n early
      by (inr late) = in-right next.before (k ∷ next.behind) n (inr late)

  -- the others are under way, and those of its link have greater numbers
  pub rest-comes : (z : Packet) → In (packets_of p.world.packets (next.before ++ next.behind)) z → Comes p z
  rest-comes z i =
      let h = in-numbers p.world.packets (next.before ++ next.behind) z i in
      record { number = h.number; fresh = left-fresh h.number h.among; is = h.is }

  pub rest-later : (y z : Packet) → slice_get p.world.packets k ≡ Some y → OneLink z y → In (packets_of p.world.packets (next.before ++ next.behind)) z
      → (c : Comes p z) × (k < c.number)
  rest-later y z sent one i = by (in-numbers p.world.packets (next.before ++ next.behind) z i)
    where
      by : HasNumber p.world.packets (next.before ++ next.behind) z → (c : Comes p z) × (k < c.number)
      by h = which (in-append next.before next.behind h.number h.among)
        where
          which : In next.before h.number ⊎ In next.behind h.number → (c : Comes p z) × (k < c.number)
          which (inl early) = absurd (next.apart h.number z y early h.is sent one)
          which (inr late) = (
            record { number = h.number; fresh = left-fresh h.number h.among; is = h.is },
            rise-behind 0 (length p.world.packets) k h.number next.before next.behind rises late,
          )

  pub head-comes : (y : Packet) → slice_get p.world.packets k ≡ Some y → Comes p y
  head-comes y is = record { number = k; fresh = next-in p k next; is = is }

  -- after its delivery the others are under way, and behind them what the step sent
  pub queue-next : (more : List Packet) → (step p.world (Event.Deliver k)).packets ≡ p.world.packets ++ more
      → queue (play p (Event.Deliver k)) ≡ packets_of p.world.packets (next.before ++ next.behind) ++ more
  queue-next more is =
      let all = (step p.world (Event.Deliver k)).packets in
      let ks = next.before ++ next.behind in
      let left_over : without k p.fresh ≡ ks = ap (without k) next.split ∙ without-next 0 (length p.world.packets) k next.before next.behind rises in
      let many : length all ≡ length p.world.packets + length more = ap (λ (ps : List Packet). length ps) is ∙ length-append p.world.packets more in
      let new : added p.world (step p.world (Event.Deliver k)) ≡ numbers_from (length p.world.packets) (length more) = ap (numbers_from
      (length p.world.packets)) (less (length all) (length p.world.packets) (length more) many) in
      two-lists all (without k p.fresh) (added p.world (step p.world (Event.Deliver k)))
      ∙ ap (λ ns. packets_of all ns ++ packets_of all (added p.world (step p.world (Event.Deliver k)))) left_over
      ∙ ap (λ ns. packets_of all ks ++ packets_of all ns) new
      ∙ ap (λ ps. packets_of ps ks ++ packets_of ps (numbers_from (length p.world.packets) (length more))) is
      ∙ ap (λ ys. ys ++ packets_of (p.world.packets ++ more) (numbers_from (length p.world.packets) (length more))) (longer-packets p.world.packets more ks
      0 (rise-without 0 (length p.world.packets) k next.before next.behind rises))
      ∙ ap (λ ys. packets_of p.world.packets ks ++ ys) (from-numbers (p.world.packets ++ more) more (length p.world.packets) (get-behind p.world.packets more))
    where
      less : (a b c : ℕ) → a ≡ b + c → a - b ≡ c
      less a b c sum = omega arith
