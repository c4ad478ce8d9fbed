-- The next packet of a link: what stands before it under way is of other links, and what is of its link was sent later.
use Rattle.std.proofs.Common.{◌≡◌, ◌≤◌, ◌<◌, ◌⊎◌, ℕ, ◌+◌, ◌==◌, ◌&&◌, ◌||◌, ◌++◌, not, Bool, true, false, List, [], ◌∷◌, Some, length, refl, sym}
use Rattle.std.proofs.Common.{subst, ap, ◌∙◌, arith, inl, inr}
use Rattle.std.specs.Prelude.{slice_get}
use Rattle.std.proofs.lemmas.Bool.{and_from, and_parts}
use Rattle.nq_base.specs.declared.Party.{Party}
use Rattle.nq_model.specs.protocol.Lines.{Play}
use Rattle.nq_model.specs.protocol.Message.{Packet}
use Rattle.law_rounds.proofs.Items.{Rise}
use Rattle.law_rounds.proofs.CalmEnds.{IsRising}
use Rattle.walk_steps.proofs.Packets.{In, in-append, in-right}
use Rattle.walk_steps.proofs.Rows.{same-number, number-same}
use Rattle.law_rounds.specs.WholeRounds.{same_party, of_one_link, is_next}

-- two packets are of one link
pub record OneLink (a b : Packet) : Type 0 where
  pub sender : a.sender ≡ b.sender
  pub to : a.to ≡ b.to

party-same : (a b : Party) → a ≡ b → same_party a b ≡ true
party-same a b e = subst (λ z. same_party a z ≡ true) e (own a)
  where
    own : (a : Party) → same_party a a ≡ true
    own Party.Server = refl
    own (Party.Client host) = number-same host host refl

one-link : (a b : Packet) → OneLink a b → of_one_link (Some a) (Some b) ≡ true
one-link a b one = and_from (same_party a.sender b.sender) (same_party a.to b.to) (party-same a.sender b.sender one.sender) (party-same a.to b.to one.to)

-- a number among others: none that stands before it is of a packet of its packet's link
pub record NextAmong (sent : List Packet) (fresh : List ℕ) (k : ℕ) : Type 0 where
  pub before : List ℕ
  pub behind : List ℕ
  pub split : fresh ≡ before ++ k ∷ behind
  pub apart : (j : ℕ) (a b : Packet) → In before j → slice_get sent j ≡ Some a → slice_get sent k ≡ Some b → OneLink a b → ⊥

pub next-among : (sent : List Packet) (fresh : List ℕ) (k : ℕ) → is_next sent fresh k ≡ true → NextAmong sent fresh k
next-among sent [] k e = absurd (cc)
next-among sent (j ∷ fresh) k e = by (j == k) refl e (next-among sent fresh k)
  where
    linked : (a b : Packet) → slice_get sent j ≡ Some a → slice_get sent k ≡ Some b → OneLink a b
        → not (of_one_link (slice_get sent j) (slice_get sent k)) ≡ true → ⊥
    linked a b at there one apart =
        let yes : of_one_link (slice_get sent j) (slice_get sent k) ≡ true = ap (λ o. of_one_link o (slice_get sent k)) at ∙ ap (of_one_link (Some a))
        there ∙ one-link a b one in
        let no : not true ≡ true = ap not (sym yes) ∙ apart in
        absurd (cc)

    by : (b : Bool) → (j == k) ≡ b → (b || (not (of_one_link (slice_get sent j) (slice_get sent k)) && is_next sent fresh k)) ≡ true
        → (is_next sent fresh k ≡ true → NextAmong sent fresh k) → NextAmong sent (j ∷ fresh) k
    by true same all rest = record {
      before = [];
      behind = fresh;
      split = ap (λ n. n ∷ fresh) (same-number j k same);
      apart = λ i a b none at there one. none;
    }
    by false differs all rest = further (rest parts.1)
      where
        parts : (not (of_one_link (slice_get sent j) (slice_get sent k)) ≡ true) × (is_next sent fresh k ≡ true)
        parts = and_parts (not (of_one_link (slice_get sent j) (slice_get sent k))) (is_next sent fresh k) all

        further : NextAmong sent fresh k → NextAmong sent (j ∷ fresh) k
        further f = record { before = j ∷ f.before; behind = f.behind; split = ap (λ ns. j ∷ ns) f.split; apart = apart }
          where
            apart : (i : ℕ) (a b : Packet) → (j ≡ i) ⊎ In f.before i → slice_get sent i ≡ Some a → slice_get sent k ≡ Some b → OneLink a b → ⊥
            apart i a b (inl same) at there one = linked a b (ap (slice_get sent) same ∙ at) there one parts.0
            apart i a b (inr among) at there one = f.apart i a b among at there one

-- the packet of this number is the next of its link
abbrev pub IsNext : Play → ℕ → Type 0
IsNext p k = NextAmong p.world.packets p.fresh k

pub next-in : (p : Play) (k : ℕ) → IsNext p k → In p.fresh k
next-in p k next = subst (λ ns. In ns k) (sym next.split) (in-right next.before (k ∷ next.behind) k (inl refl))

-- what was sent first of all is the next of its link
pub first-next : (p : Play) (k : ℕ) (ks : List ℕ) → p.fresh ≡ k ∷ ks → is_next p.world.packets p.fresh k ≡ true
first-next p k ks first = subst (λ ns. is_next p.world.packets ns k ≡ true) (sym first) (yes (k == k) (not (of_one_link (slice_get p.world.packets k)
    (slice_get p.world.packets k)) && is_next p.world.packets ks k) (number-same k k refl))
  where
    yes : (a b : Bool) → a ≡ true → (a || b) ≡ true
    yes true b e = refl
    yes false b e = absurd (cc)

-- ---- numbers

rise-least : (low high n : ℕ) (numbers : List ℕ) → Rise low high numbers → In numbers n → low ≤ n
rise-least low high n [] r i = absurd i
rise-least low high n (k ∷ numbers) r (inl same) = let first : low ≤ k = r.0 in omega arith
rise-least low high n (k ∷ numbers) r (inr i) = let first : low ≤ k = r.0 in let rest = rise-least (k + 1) high n numbers r.1 i in omega arith

pub rise-behind : (low high k n : ℕ) (before behind : List ℕ) → Rise low high (before ++ k ∷ behind) → In behind n → k < n
rise-behind low high k n [] behind r i = let rest = rise-least (k + 1) high n behind r.1 i in omega arith
rise-behind low high k n (j ∷ before) behind r i = rise-behind (j + 1) high k n before behind r.1 i

-- of all packets of its link that are under way, the next one was sent first
pub sent-later : (p : Play) (k : ℕ) → IsNext p k → IsRising p → (n : ℕ) (a b : Packet) → In p.fresh n → slice_get p.world.packets n ≡ Some a
    → slice_get p.world.packets k ≡ Some b → OneLink a b → (n ≡ k) ⊎ (k < n)
sent-later p k next rising n a b i at there one = by (in-append next.before (k ∷ next.behind) n (subst (λ ns. In ns n) next.split i))
  where
    by : In next.before n ⊎ ((k ≡ n) ⊎ In next.behind n) → (n ≡ k) ⊎ (k < n)
    by (inl early) = absurd (next.apart n a b early at there one)
    by (inr (inl same)) = inl (sym same)
    by (inr (inr late)) = inr (rise-behind 0 (length p.world.packets) k n next.before next.behind (subst (λ ns. Rise 0 (length p.world.packets) ns)
        next.split rising) late)
