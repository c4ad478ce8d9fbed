-- Two entries of a journal, and which of them stands first; what a call asks at a place and later.
use Rattle.std.proofs.Common.{◌≡◌, ◌⊎◌, ℕ, List, [], ◌∷◌, Option, Some, None, refl, sym, subst, inl, inr}
use Rattle.nq_base.specs.declared.Entry.{Entry}
use Rattle.nq_base.specs.declared.Entry.TheVariants.{A}
use Rattle.nq_base.specs.declared.Said.{Said}
use Rattle.nq_base.specs.declared.Said.TheVariants.{OkBy}
use Rattle.nq_base.specs.declared.Told.{Told}
use Rattle.nq_base.specs.declared.Who.{Who}
use Rattle.nq_model.specs.laws.Journal.{Exists, Throughout, IsAnswer, IsAnswerBy, call_of}
use Rattle.walk_files.proofs.Placed.{Placed, call-told}
use Rattle.walk_files.proofs.Places.{IsPlaced, placed-in, throughout-at}
use Rattle.walk_steps.proofs.Members.{in-exists, exists-in}
use Rattle.walk_steps.proofs.Packets.{In}

-- an entry of a journal has its place
pub in-placed : (x : Entry) (j : List Entry) → In j x → (before : List Entry) × IsPlaced x before j
in-placed x [] i = absurd i
in-placed x (e ∷ j) (inl same) = (j, inl (same, refl))
in-placed x (e ∷ j) (inr i) = let p = in-placed x j i in (p.0, inr p.1)

-- of two places one is first, or they have one entry
pub placed-order : (e x : Entry) (before b j : List Entry) → IsPlaced e before j → IsPlaced x b j → In before x ⊎ (x ≡ e) ⊎ In b e
placed-order e x before b [] p r = absurd p
placed-order e x before b (y ∷ j) (inl p) (inl r) = inr (inl (subst (λ z. z ≡ e) r.0 p.0))
placed-order e x before b (y ∷ j) (inl p) (inr r) = inl (subst (λ z. In z x) p.1 (placed-in x b j r))
placed-order e x before b (y ∷ j) (inr p) (inl r) = inr (inr (subst (λ z. In z e) r.1 (placed-in e before j p)))
placed-order e x before b (y ∷ j) (inr p) (inr r) = placed-order e x before b j p r

-- what a call asks at a place it asks in the whole journal
pub told-whole : (e : Entry) (before j : List Entry) (who : Who) (q : ℕ) (told : Told) → IsPlaced e before j → call_of before who q ≡ Some told
    → call_of j who q ≡ Some told
told-whole e before [] who q told p is = absurd p
told-whole e before (y ∷ j) who q told (inl p) is = call-told y j who q told (subst (λ z. call_of z who q ≡ Some told) (sym p.1) is)
told-whole e before (y ∷ j) who q told (inr p) is = call-told y j who q told (told-whole e before j who q told p is)

-- a fact of what a call asks, at a place, holds of what it asks in the whole journal
pub fact-whole : (P : Option Told → Type 0) → (P None → ⊥) → (e : Entry) (before j : List Entry) (who : Who) (q : ℕ) → IsPlaced e before j
    → P (call_of before who q) → P (call_of j who q)
fact-whole P none e before j who q p h = case (call_of before who q) refl h
  where
    case : (o : Option Told) → call_of before who q ≡ o → P o → P (call_of j who q)
    case None is f = absurd (none f)
    case (Some told) is f = subst P (sym (told-whole e before j who q told p is)) f

-- no answer of a call stands before another
pub first-answer : (who : Who) (q : ℕ) (said : Said) (before : List Entry) → Placed (A who q said) before → ¬ Exists (IsAnswer who q) before
first-answer who q (OkBy value packet) before p = p.0
first-answer who q said before p = p

by-answer : (who : Who) (q packet : ℕ) (entry : Entry) → IsAnswerBy who q packet entry → IsAnswer who q entry
by-answer who q packet (A by n (OkBy value k)) h = (h.0, h.1)
by-answer who q packet other h = absurd h

-- an answer of a call is placed behind no other
placed-first : (who : Who) (q packet : ℕ) (a : Entry) (before : List Entry) → Placed a before → IsAnswerBy who q packet a → ¬ Exists (IsAnswer who q) before
placed-first who q packet (A by n (OkBy value k)) before p h =
    subst (λ m. ¬ Exists (IsAnswer who m) before) h.1 (subst (λ w. ¬ Exists (IsAnswer w n) before) h.0 p.0)
placed-first who q packet other before p h = absurd h

-- where a call has an answer by a packet, its answer is that one
pub one-answer : (who : Who) (q packet : ℕ) (said : Said) (before j : List Entry) → Throughout Placed j → IsPlaced (A who q said) before j
    → Exists (IsAnswerBy who q packet) j → IsAnswerBy who q packet (A who q said)
one-answer who q packet said before j t p some = from (exists-in (IsAnswerBy who q packet) j some)
  where
    mine : Placed (A who q said) before
    mine = throughout-at Placed (A who q said) before j t p

    from : (a : Entry) × In j a × IsAnswerBy who q packet a → IsAnswerBy who q packet (A who q said)
    from (a, i, h) = at (in-placed a j i)
      where
        at : (b : List Entry) × IsPlaced a b j → IsAnswerBy who q packet (A who q said)
        at (b, r) = by (placed-order (A who q said) a before b j p r)
          where
            by : In before a ⊎ (a ≡ A who q said) ⊎ In b (A who q said) → IsAnswerBy who q packet (A who q said)
            by (inl early) = absurd (first-answer who q said before mine (in-exists (IsAnswer who q) before a early (by-answer who q packet a h)))
            by (inr (inl same)) = subst (IsAnswerBy who q packet) same h
            by (inr (inr late)) =
                absurd (placed-first who q packet a b (throughout-at Placed a b j t r) h (in-exists (IsAnswer who q) b (A who q said) late (refl, refl)))
