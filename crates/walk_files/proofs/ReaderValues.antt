-- Which value stands for a read of a client: what the server holds where none of the client's own writes on the block waits,
-- else the last of those.
use Rattle.std.proofs.Common.{◌≡◌, ◌<◌, ◌≤◌, ◌⊎◌, ℕ, true, false, List, [], ◌∷◌, refl, sym, subst, ap, ◌∙◌, inl, inr}
use Rattle.nq_base.specs.declared.Entry.{Entry}
use Rattle.nq_base.specs.declared.Entry.TheVariants.{W, S, L}
use Rattle.nq_base.specs.declared.Who.{Who}
use Rattle.walk_files.proofs.WritesFit.{CoversNumber, IsRising}
use Rattle.walk_files.proofs.Held.{HasHeld, IsHeld, last-of-undisturbed}
use Rattle.walk_files.proofs.Places.{last-same, cut-in}
use Rattle.walk_files.proofs.Stores.{StoresNumber, stored-value}
use Rattle.nq_model.specs.laws.Journal.{Throughout, Covers, Stores, Loses, IsStored, IsLost, since_cut}
use Rattle.nq_model.specs.laws.Stands.{Stands, IsStandingValue}
use Rattle.walk_steps.proofs.Packets.{In}
use Rattle.nq_model.specs.laws.Undisturbed.{IsUndisturbed}

-- what covers a write stores it or loses it
covers-either : (e : Entry) (who : Who) (file block n v : ℕ) → Covers e (W who file block n 0 false)
    → Stores e (W who file block n v false) ⊎ Loses e (W who file block n v false)
covers-either (S w f b x y now) who file block n v c = inl c
covers-either (L w f b x y) who file block n v c = inr c
covers-either other who file block n v c = absurd c

pub covered-either : (j : List Entry) (who : Who) (file block n v : ℕ) → CoversNumber j who file block n
    → IsStored j (W who file block n v false) ⊎ IsLost j (W who file block n v false)
covered-either [] who file block n v h = absurd h
covered-either (e ∷ j) who file block n v (inl c) = case (covers-either e who file block n v c)
  where
    case : Stores e (W who file block n v false) ⊎ Loses e (W who file block n v false)
        → IsStored (e ∷ j) (W who file block n v false) ⊎ IsLost (e ∷ j) (W who file block n v false)
    case (inl s) = inl (inl s)
    case (inr l) = inr (inl l)
covered-either (e ∷ j) who file block n v (inr h) = case (covered-either j who file block n v h)
  where
    case : IsStored j (W who file block n v false) ⊎ IsLost j (W who file block n v false)
        → IsStored (e ∷ j) (W who file block n v false) ⊎ IsLost (e ∷ j) (W who file block n v false)
    case (inl s) = inl (inr s)
    case (inr l) = inr (inr l)

-- each delayed write of the reader on the block was stored or lost
abbrev pub NoneWaits : (journal : List Entry) (reader : Who) (file block : ℕ) → Type 0
NoneWaits journal reader file block = (n v : ℕ) → In journal (W reader file block n v false) → CoversNumber journal reader file block n

-- the value that the server holds stands for one of whom no write on the block waits
pub held-stands : (j : List Entry) (reader : Who) (file block v : ℕ) → NoneWaits j reader file block → HasHeld j file block v
    → IsStandingValue j j reader file block v
held-stands j reader file block v none h =
    last-same (IsHeld j file block) (Stands j j reader file block) (since_cut j file block) v (λ e i. to e) (λ e i. from e (cut-in j file block e i)) h
  where
    to : (e : Entry) → IsHeld j file block e → Stands j j reader file block e
    to e (on, inl t) = (on, inl t)
    to e (on, inr s) = (on, inr (inl s))

    kept : (n u : ℕ) → (IsLost j (W reader file block n u false) → ⊥)
        → IsStored j (W reader file block n u false) ⊎ IsLost j (W reader file block n u false) → IsHeld j file block (W reader file block n u false)
    kept n u unlost (inl s) = ((refl, refl), inr s)
    kept n u unlost (inr l) = absurd (unlost l)

    from : (e : Entry) → In j e → Stands j j reader file block e → IsHeld j file block e
    from e i (on, inl t) = (on, inl t)
    from e i (on, inr (inl s)) = (on, inr s)
    from (W by f b n u true) i (on, inr (inr own)) = (on, inl tt)
    from (W by f b n u false) i (on, inr (inr own)) =
        let same : W by f b n u false ≡ W reader file block n u false = ap (λ z. W z f b n u false) own.0 ∙ ap (λ z. W reader z b n u false) on.0
        ∙ ap (λ z. W reader file z n u false) on.1 in
        subst (IsHeld j file block) (sym same)
        (kept n u (subst (λ z. IsLost j z → ⊥) same own.1) (covered-either j reader file block n u (none n u (subst (In j) same i))))
    from other i (on, inr (inr own)) = absurd on

-- the last of a client's undisturbed writes stands for it, where it is not lost and each later one on the block was lost
pub unsaved-stands : (j : List Entry) (who : Who) (file block first last v : ℕ) → IsUndisturbed who file block first j → Throughout IsRising j
    → first ≤ last → In j (W who file block last v false) → (IsLost j (W who file block last v false) → ⊥)
    → ((n u : ℕ) → last < n → In j (W who file block n u false) → IsLost j (W who file block n u false))
    → ((n : ℕ) → last < n → StoresNumber j who file block n → ⊥) → IsStandingValue j j who file block v
unsaved-stands j who file block first last v undisturbed rising ordered i unlost lost unstored =
    last-of-undisturbed (Stands j j who file block) who file block first last v j undisturbed rising ordered i (λ e h. h.0) greater
    ((refl, refl), inr (inr (refl, unlost)))
  where
    greater : (n u : ℕ) → last < n → In j (W who file block n u false) → Stands j j who file block (W who file block n u false) → ⊥
    greater n u above there (on, inl t) = t
    greater n u above there (on, inr (inl s)) = unstored n above (stored-value j who file block n u 0 s)
    greater n u above there (on, inr (inr own)) = own.1 (lost n u above there)
