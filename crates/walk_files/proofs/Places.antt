-- Entries of a journal at their places, and the last value of which a fact holds.
use Rattle.std.proofs.Common.{◌≡◌, ◌⊎◌, ℕ, Bool, true, false, List, [], ◌∷◌, if◌then◌else◌, refl, sym, subst, inl, inr}
use Rattle.nq_base.specs.declared.Entry.{Entry}
use Rattle.nq_model.specs.laws.Journal.{Exists, Throughout, cuts, since_cut, IsLastValue}
use Rattle.walk_steps.proofs.Packets.{In}

-- the entry stands in the journal, and this is what stands before it
abbrev pub IsPlaced : (entry : Entry) (before : List Entry) → List Entry → Type 0
IsPlaced entry before [] = ⊥
IsPlaced entry before (e ∷ j) = (e ≡ entry) × (j ≡ before) ⊎ IsPlaced entry before j

pub placed-in : (e : Entry) (before j : List Entry) → IsPlaced e before j → In j e
placed-in e before [] p = p
placed-in e before (x ∷ j) (inl p) = inl p.0
placed-in e before (x ∷ j) (inr p) = inr (placed-in e before j p)

-- what stands before an entry stands in the journal
pub before-in : (e x : Entry) (before j : List Entry) → IsPlaced e before j → In before x → In j x
before-in e x before [] p i = absurd p
before-in e x before (y ∷ j) (inl p) i = inr (subst (λ k. In k x) (sym p.1) i)
before-in e x before (y ∷ j) (inr p) i = inr (before-in e x before j p i)

pub before-exists : (Fact : Entry → Type 0) (e : Entry) (before j : List Entry) → IsPlaced e before j → Exists Fact before → Exists Fact j
before-exists Fact e before [] p i = absurd p
before-exists Fact e before (y ∷ j) (inl p) i = inr (subst (Exists Fact) (sym p.1) i)
before-exists Fact e before (y ∷ j) (inr p) i = inr (before-exists Fact e before j p i)

-- a fact of each entry at its place
pub throughout-at : (Fact : Entry → List Entry → Type 0) (e : Entry) (before j : List Entry) → Throughout Fact j → IsPlaced e before j → Fact e before
throughout-at Fact e before [] t p = absurd p
throughout-at Fact e before (x ∷ j) t (inl p) = subst (λ y. Fact y before) p.0 (subst (Fact x) p.1 t.0)
throughout-at Fact e before (x ∷ j) t (inr p) = throughout-at Fact e before j t.1 p

pub throughout-of : (Fact : Entry → List Entry → Type 0) (j : List Entry) → ((e : Entry) (before : List Entry) → IsPlaced e before j → Fact e before)
    → Throughout Fact j
throughout-of Fact [] all = tt
throughout-of Fact (e ∷ j) all = (all e j (inl (refl, refl)), throughout-of Fact j (λ x before p. all x before (inr p)))

-- ---- last values

-- two facts that hold of the same entries have the same last value
pub last-same : (Fact Other : Entry → Type 0) (es : List Entry) (v : ℕ) → ((e : Entry) → In es e → Fact e → Other e)
    → ((e : Entry) → In es e → Other e → Fact e) → IsLastValue Fact es v → IsLastValue Other es v
last-same Fact Other [] v to from h = h
last-same Fact Other (e ∷ es) v to from h =
    (λ o. h.0 (from e (inl refl) o), λ none. last-same Fact Other es v (λ x i. to x (inr i)) (λ x i. from x (inr i)) (h.1 (λ f. none (to e (inl refl) f))))

-- what stands after the last cut stands in the journal
pub cut-in : (j : List Entry) (file block : ℕ) (e : Entry) → In (since_cut j file block) e → In j e
cut-in [] file block e i = i
cut-in (x ∷ j) file block e i = case (cuts x file block) i (cut-in j file block e)
  where
    case : (c : Bool) → In (if c then [] else x ∷ since_cut j file block) e → (In (since_cut j file block) e → In j e) → In (x ∷ j) e
    case true bad rest = absurd bad
    case false (inl same) rest = inl same
    case false (inr i) rest = inr (rest i)
