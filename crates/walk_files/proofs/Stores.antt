-- What a store rests on, so that the reads before it stay legal.
use Rattle.std.proofs.Common.{◌≡◌, ◌<◌, ◌≤◌, ◌⊎◌, ℕ, false, List, [], ◌∷◌, ◌++◌, Option, refl, sym, subst, ap, ◌∙◌, arith, inl, inr}
use Rattle.nq_base.specs.declared.Entry.{Entry}
use Rattle.nq_base.specs.declared.Entry.TheVariants.{C, W, R, S, L, G, F, O, B, X, Z, A}
use Rattle.nq_base.specs.declared.Who.{Who}
use Rattle.walk_files.proofs.WritesFit.{CoversNumber, IsClear, IsRising}
use Rattle.walk_files.proofs.Places.{IsPlaced, before-in, before-exists, last-same, cut-in}
use Rattle.nq_model.specs.laws.Journal.{Throughout, Covers, Stores, Loses, IsStored, IsLost, IsWriteOn, since_cut}
use Rattle.nq_model.specs.laws.Stands.{Stands, IsStandingValue}
use Rattle.walk_steps.proofs.Packets.{In}
use Rattle.nq_model.specs.laws.Undisturbed.{LeavesAlone, IsUndisturbed}

-- an S of the incarnation covers this number of the block
abbrev pub StoresNumber : (journal : List Entry) (who : Who) (file block n : ℕ) → Type 0
StoresNumber journal who file block n = IsStored journal (W who file block n 0 false)

-- delayed writes are stored: none of their numbers is covered, nothing disturbed them, the last of them stands, and what was
-- stored of their block before are earlier ones
pub record StoreFits (who : Who) (file block first last : ℕ) (journal : List Entry) : Type 0 where
  pub ordered : first ≤ last
  pub clear : IsClear journal who file block first last
  pub undisturbed : IsUndisturbed who file block first journal
  pub value : ℕ
  pub last_there : In journal (W who file block last value false)
  pub earlier : (n : ℕ) → StoresNumber journal who file block n → n < first

-- what a store rests on, at its place
abbrev pub Rests : Entry → (before : List Entry) → Type 0
Rests (S who file block first last now) before = StoreFits who file block first last before
Rests other before = Unit {0}

-- ---- covers

pub stores-value : (e : Entry) (who : Who) (file block n v u : ℕ) → Stores e (W who file block n v false) → Stores e (W who file block n u false)
stores-value (S w f b x y now) who file block n v u c = c
stores-value other who file block n v u c = c

pub stored-value : (j : List Entry) (who : Who) (file block n v u : ℕ) → IsStored j (W who file block n v false) → IsStored j (W who file block n u false)
stored-value [] who file block n v u h = h
stored-value (e ∷ j) who file block n v u (inl c) = inl (stores-value e who file block n v u c)
stored-value (e ∷ j) who file block n v u (inr h) = inr (stored-value j who file block n v u h)

pub loses-covers : (e : Entry) (who : Who) (file block n v : ℕ) → Loses e (W who file block n v false) → Covers e (W who file block n 0 false)
loses-covers (L w f b x y) who file block n v c = c
loses-covers other who file block n v c = absurd c

pub lost-covered : (j : List Entry) (who : Who) (file block n v : ℕ) → IsLost j (W who file block n v false) → CoversNumber j who file block n
lost-covered [] who file block n v h = h
lost-covered (e ∷ j) who file block n v (inl c) = inl (loses-covers e who file block n v c)
lost-covered (e ∷ j) who file block n v (inr h) = inr (lost-covered j who file block n v h)

-- ---- a read before a store

-- a read is of the same incarnation, or it stands before the first of the writes that are stored
pub own-or-earlier : (j : List Entry) (who : Who) (file block first : ℕ) (reader : Who) (q b v : ℕ) (served : Option ℕ) (before : List Entry)
    → Throughout IsRising j → IsUndisturbed who file block first j → IsPlaced (R reader q file b v served) before j
    → (reader ≡ who) ⊎ ((f k n u : ℕ) → In before (W who f k n u false) → n < first)
own-or-earlier [] who file block first reader q b v served before rising u p = absurd p
own-or-earlier (e ∷ j) who file block first reader q b v served before rising (inr u) (inl p) = inl ((subst (LeavesAlone who file) p.0 u.0) refl)
own-or-earlier (e ∷ j) who file block first reader q b v served before rising (inr u) (inr p) =
    own-or-earlier j who file block first reader q b v served before rising.1 u.1 p
own-or-earlier (W by f k n value false ∷ j) who file block first reader q b v served before rising (inl u) (inl p) = absurd (cc)
own-or-earlier (W by f k n value false ∷ j) who file block first reader q b v served before rising (inl u) (inr p) = inr
    (λ f' k' m w i. subst (λ z. m < z) u.3
    (rising.0 f' k' m w (subst (λ z. In j (W z f' k' m w false)) (sym u.0) (before-in (R reader q file b v served) (W who f' k' m w false) before j p i))))
own-or-earlier (other ∷ j) who file block first reader q b v served before rising (inl u) p = absurd u

-- a read of a standing value goes on to be one when delayed writes are stored
module _ (j : List Entry) (who : Who) (file block first last now : ℕ) (rising : Throughout IsRising j) (fits : StoreFits who file block first last j)
    (reader : Who) (q f b v : ℕ) (served : Option ℕ) (before : List Entry) (placed : IsPlaced (R reader q f b v served) before j) where
  abbrev After : List Entry
  After = S who file block first last now ∷ j

  to-after : (e : Entry) → Stands j before reader f b e → Stands After before reader f b e
  to-after e (on, inl t) = (on, inl t)
  to-after e (on, inr (inl s)) = (on, inr (inl (inr s)))
  to-after e (on, inr (inr own)) = (on, inr (inr own))

  -- an own write that is stored stands for its maker already
  own-stands : (n u : ℕ) → f ≡ file → reader ≡ who → first ≤ n → n ≤ last → IsWriteOn f b (W who file block n u false)
      → Stands j before reader f b (W who file block n u false)
  own-stands n u on_file own above below on = (
    on,
    inr
        (inr (
          sym own,
          λ lost. fits.clear n above below
              (lost-covered j who file block n u (before-exists _ (R reader q f b v served) before j placed lost)),
        )),
  )

  stored-now : (n u : ℕ) → first ≤ n → n ≤ last → In before (W who file block n u false) → IsWriteOn f b (W who file block n u false)
      → Stands j before reader f b (W who file block n u false)
  stored-now n u above below i on =
      case (own-or-earlier j who file block first reader q b v served before rising fits.undisturbed
      (subst (λ z. IsPlaced (R reader q z b v served) before j) (sym on.0) placed))
    where
      case : (reader ≡ who) ⊎ ((f k n u : ℕ) → In before (W who f k n u false) → n < first) → Stands j before reader f b (W who file block n u false)
      case (inl own) = own-stands n u (sym on.0) own above below on
      case (inr earlier) = let past = earlier file block n u i in absurd (omega arith)

  from-after : (e : Entry) → In before e → Stands After before reader f b e → Stands j before reader f b e
  from-after e i (on, inl t) = (on, inl t)
  from-after e i (on, inr (inl (inr s))) = (on, inr (inl s))
  from-after e i (on, inr (inr own)) = (on, inr (inr own))
  from-after (W by g k n u false) i (on, inr (inl (inl c))) =
      let same : W by g k n u false ≡ W who file block n u false = ap (λ z. W z g k n u false) c.0 ∙ ap (λ z. W who z k n u false) c.1
      ∙ ap (λ z. W who file z n u false) c.2 in
      subst (λ z. Stands j before reader f b z) (sym same) (stored-now n u c.3 c.4 (subst (In before) same i) (subst (IsWriteOn f b) same on))
  from-after other i (on, inr (inl (inl c))) = absurd c

  pub standing-stored : IsStandingValue j before reader f b v → IsStandingValue After before reader f b v
  standing-stored h =
      last-same (Stands j before reader f b) (Stands After before reader f b) (since_cut before f b) v (λ e i. to-after e)
      (λ e i. from-after e (cut-in before f b e i)) h

-- ---- other entries

abbrev pub StoresNone : Entry → Type 0
StoresNone (S who file block first last now) = ⊥
StoresNone other = Unit {0}

pub stores-none : (e w : Entry) → StoresNone e → Stores e w → ⊥
stores-none (S who file block first last now) w none c = none
stores-none other w none c = c

pub standing-other : (e : Entry) (j before : List Entry) (reader : Who) (f b v : ℕ) → StoresNone e → IsStandingValue j before reader f b v
    → IsStandingValue (e ∷ j) before reader f b v
standing-other e j before reader f b v none h =
    last-same (Stands j before reader f b) (Stands (e ∷ j) before reader f b) (since_cut before f b) v (λ w i. to w) (λ w i. from w) h
  where
    to : (w : Entry) → Stands j before reader f b w → Stands (e ∷ j) before reader f b w
    to w (on, inl t) = (on, inl t)
    to w (on, inr (inl s)) = (on, inr (inl (inr s)))
    to w (on, inr (inr own)) = (on, inr (inr own))

    from : (w : Entry) → Stands (e ∷ j) before reader f b w → Stands j before reader f b w
    from w (on, inl t) = (on, inl t)
    from w (on, inr (inl (inl c))) = absurd (stores-none e w none c)
    from w (on, inr (inl (inr s))) = (on, inr (inl s))
    from w (on, inr (inr own)) = (on, inr (inr own))

-- a read of a standing value goes on to be one, whatever is noted next
pub standing-next : (e : Entry) (j : List Entry) → Throughout IsRising j → Rests e j
    → (reader : Who) (q f b v : ℕ) (served : Option ℕ) (before : List Entry) → IsPlaced (R reader q f b v served) before j
    → IsStandingValue j before reader f b v → IsStandingValue (e ∷ j) before reader f b v
standing-next (S who file block first last now) j rising rests reader q f b v served before placed h =
    standing-stored j who file block first last now rising rests reader q f b v served before placed h
standing-next (C w n told) j rising rests reader q f b v served before placed h = standing-other (C w n told) j before reader f b v tt h
standing-next (W w g k n u t) j rising rests reader q f b v served before placed h = standing-other (W w g k n u t) j before reader f b v tt h
standing-next (R w n g k u by) j rising rests reader q f b v served before placed h = standing-other (R w n g k u by) j before reader f b v tt h
standing-next (L w g k m n) j rising rests reader q f b v served before placed h = standing-other (L w g k m n) j before reader f b v tt h
standing-next (G w g mode tag term now) j rising rests reader q f b v served before placed h =
    standing-other (G w g mode tag term now) j before reader f b v tt h
standing-next (F w g until heard now) j rising rests reader q f b v served before placed h = standing-other (F w g until heard now) j before reader f b v tt h
standing-next (O boot until heard now) j rising rests reader q f b v served before placed h = standing-other (O boot until heard now) j before reader
    f b v tt h
standing-next (B w) j rising rests reader q f b v served before placed h = standing-other (B w) j before reader f b v tt h
standing-next (X boot now longest) j rising rests reader q f b v served before placed h = standing-other (X boot now longest) j before reader f b v tt h
standing-next (Z w n g from to) j rising rests reader q f b v served before placed h = standing-other (Z w n g from to) j before reader f b v tt h
standing-next (A w n said) j rising rests reader q f b v served before placed h = standing-other (A w n said) j before reader f b v tt h

pub standing-more : (es j : List Entry) → Throughout IsRising (es ++ j) → Throughout Rests (es ++ j)
    → (reader : Who) (q f b v : ℕ) (served : Option ℕ) (before : List Entry) → IsPlaced (R reader q f b v served) before j
    → IsStandingValue j before reader f b v → IsStandingValue (es ++ j) before reader f b v
standing-more [] j rising rests reader q f b v served before placed h = h
standing-more (e ∷ es) j rising rests reader q f b v served before placed h =
    standing-next e (es ++ j) rising.1 rests.0 reader q f b v served before (more es)
    (standing-more es j rising.1 rests.1 reader q f b v served before placed h)
  where
    more : (es : List Entry) → IsPlaced (R reader q f b v served) before (es ++ j)
    more [] = placed
    more (x ∷ es) = inr (more es)
