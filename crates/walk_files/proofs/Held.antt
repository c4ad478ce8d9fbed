-- The value that the server holds of a block, by a journal, and what one more entry does to it.
use Rattle.std.proofs.Common.{◌≡◌, ◌<◌, ◌≤◌, ◌⊎◌, ℕ, ◌==◌, Bool, true, false, ◌&&◌, nat_le, List, [], ◌∷◌, refl, sym, subst, ap, ◌∙◌, arith, inl, inr}
use Rattle.std.proofs.lemmas.Bool.Decides.{nat_tests}
use Rattle.nq_base.specs.declared.Entry.{Entry}
use Rattle.nq_base.specs.declared.Entry.TheVariants.{W, S, Z}
use Rattle.nq_base.specs.declared.Who.{Who}
use Rattle.walk_files.proofs.WritesFit.{IsRising}
use Rattle.walk_files.proofs.Places.{last-same}
use Rattle.walk_files.proofs.Stores.{StoreFits, Rests, stored-value}
use Rattle.nq_model.proofs.JournalTests.{tells_write_on, tells_through, tells_stored, tells_last_value}
use Rattle.nq_model.proofs.Telling.{tells_and, tells_or, tells_same}
use Rattle.nq_model.specs.laws.Journal.{Throughout, Stores, IsStored, IsWriteOn, IsThrough, cuts, since_cut, IsLastValue}
use Rattle.nq_model.specs.laws.Synchronized.{held_value}
use Rattle.nq_model.specs.laws.Tests.{Tells}
use Rattle.walk_steps.proofs.Packets.{In}
use Rattle.nq_model.specs.laws.Undisturbed.{IsDelayedWrite, LeavesAlone, IsUndisturbed}

-- a write of a block counts at the server: it is through, or an S covers it
abbrev pub IsHeld : (journal : List Entry) (file block : ℕ) → Entry → Type 0
IsHeld journal file block write = IsWriteOn file block write × (IsThrough write ⊎ IsStored journal write)

-- the value that the server holds of a block
abbrev pub HasHeld : (journal : List Entry) (file block value : ℕ) → Type 0
HasHeld journal file block value = IsLastValue (IsHeld journal file block) (since_cut journal file block) value

tells_held : (journal : List Entry) (file block value : ℕ) → Tells (value == held_value journal file block) (HasHeld journal file block value)
tells_held journal file block value =
    tells_last_value (λ write. tells_and (tells_write_on file block write) (tells_or (tells_through write) (tells_stored journal write)))
    (since_cut journal file block) value

pub held-is : (journal : List Entry) (file block value : ℕ) → HasHeld journal file block value → value ≡ held_value journal file block
held-is journal file block value h = tells_same.sound ((tells_held journal file block value).complete h)

-- ---- from the last of undisturbed writes on

-- the first of the writes stands before the last, or is it
not-first : (who : Who) (file block first last value : ℕ) (x : Entry) (j : List Entry) → IsDelayedWrite who file block first x → IsRising x j
    → first ≤ last → In j (W who file block last value false) → ⊥
not-first who file block first last value (W by f b n v false) j d rise ordered i =
    let below = rise file block last value (subst (λ z. In j (W z file block last value false)) (sym d.0) i) in let one = d.3 in omega arith
not-first who file block first last value other j d rise ordered i = d

uncut : (who : Who) (file block : ℕ) (x : Entry) → LeavesAlone who file x → cuts x file block ≡ false
uncut who file block (Z by q f from to) leaves = no-cut (f == file) refl
  where
    no-cut : (b : Bool) → (f == file) ≡ b → b && nat_le to block ≡ false
    no-cut true same = absurd (leaves (grind (arith, nat_tests)))
    no-cut false same = refl
uncut who file block other leaves = refl

-- a write of the block that leaves it undisturbed is an own delayed one, with a greater number
newer : (who : Who) (file block last value : ℕ) (x : Entry) (j : List Entry) → LeavesAlone who file x → IsRising x j
    → In j (W who file block last value false) → IsWriteOn file block x → (n : ℕ) × (v : ℕ) × (last < n) × (x ≡ W who file block n v false)
newer who file block last value (W by f b n v false) j leaves rise i on =
    let own = leaves on.0 in (
      n,
      v,
      rise file block last value (subst (λ z. In j (W z file block last value false)) (sym own.0) i),
      ap (λ z. W z f b n v false) own.0
          ∙ ap (λ z. W who z b n v false) on.0 ∙ ap (λ z. W who file z n v false) on.1,
    )
newer who file block last value (W by f b n v true) j leaves rise i on = let own = leaves on.0 in absurd (cc)
newer who file block last value other j leaves rise i on = absurd on

-- nothing counts after the last of the undisturbed writes, and that one does
pub last-of-undisturbed : (Fact : Entry → Type 0) (who : Who) (file block first last value : ℕ) (j : List Entry) → IsUndisturbed who file block first j
    → Throughout IsRising j → first ≤ last → In j (W who file block last value false) → ((e : Entry) → Fact e → IsWriteOn file block e)
    → ((n v : ℕ) → last < n → In j (W who file block n v false) → Fact (W who file block n v false) → ⊥) → Fact (W who file block last value false)
    → IsLastValue Fact (since_cut j file block) value
last-of-undisturbed Fact who file block first last value [] u rising ordered i on greater fact = absurd u
last-of-undisturbed Fact who file block first last value (e ∷ j) u rising ordered i on greater fact =
    case i u (λ und there. last-of-undisturbed Fact who file block first last value j und rising.1 ordered there on
    (λ n v above k. greater n v above (inr k)) fact)
  where
    here : e ≡ W who file block last value false → IsLastValue Fact (since_cut (e ∷ j) file block) value
    here same = subst (λ x. IsLastValue Fact (since_cut (x ∷ j) file block) value) (sym same) (λ f. refl, λ none. absurd (none fact))

    none-newer : LeavesAlone who file e → In j (W who file block last value false) → Fact e → ⊥
    none-newer leaves there h =
        let k = newer who file block last value e j leaves rising.0 there (on e h) in
        greater k.0 k.1 k.2 (inl k.3) (subst Fact k.3 h)

    further : LeavesAlone who file e → In j (W who file block last value false) → IsLastValue Fact (since_cut j file block) value
        → IsLastValue Fact (since_cut (e ∷ j) file block) value
    further leaves there h = rw (uncut who file block e leaves) (λ f. absurd (none-newer leaves there f), λ none. h)

    case : (e ≡ W who file block last value false) ⊎ In j (W who file block last value false) → IsUndisturbed who file block first (e ∷ j)
        → (IsUndisturbed who file block first j → In j (W who file block last value false) → IsLastValue Fact (since_cut j file block) value)
        → IsLastValue Fact (since_cut (e ∷ j) file block) value
    case (inl same) und rest = here same
    case (inr there) (inl d) rest = absurd (not-first who file block first last value e j d rising.0 ordered there)
    case (inr there) (inr und) rest = further und.0 there (rest und.1 there)

-- ---- one more entry

-- an entry that neither counts, cuts nor stores on the block
pub record Skips (e : Entry) (j : List Entry) (file block : ℕ) : Type 0 where
  pub uncut : cuts e file block ≡ false
  pub unheld : IsHeld (e ∷ j) file block e → ⊥
  pub stores : (w : Entry) → IsWriteOn file block w → Stores e w → ⊥

module _ (e : Entry) (j : List Entry) (file block v : ℕ) where
  held-before : ((w : Entry) → IsWriteOn file block w → Stores e w → ⊥) → (w : Entry) → IsHeld (e ∷ j) file block w → IsHeld j file block w
  held-before none w (on, inl t) = (on, inl t)
  held-before none w (on, inr (inl c)) = absurd (none w on c)
  held-before none w (on, inr (inr s)) = (on, inr s)

  held-after : (w : Entry) → IsHeld j file block w → IsHeld (e ∷ j) file block w
  held-after w (on, inl t) = (on, inl t)
  held-after w (on, inr s) = (on, inr (inr s))

  pub held-skip : Skips e j file block → HasHeld j file block v → HasHeld (e ∷ j) file block v
  held-skip s h =
      rw s.uncut (
        λ f. absurd (s.unheld f),
        λ none. last-same (IsHeld j file block) (IsHeld (e ∷ j) file block) (since_cut j file block) v
            (λ w i. held-after w) (λ w i. held-before s.stores w) h,
      )

  pub held-cut : cuts e file block ≡ true → HasHeld (e ∷ j) file block 0
  held-cut is = rw is refl

pub held-through : (who : Who) (file block n v : ℕ) (j : List Entry) → HasHeld (W who file block n v true ∷ j) file block v
held-through who file block n v j = (λ f. refl, λ none. absurd (none ((refl, refl), inl tt)))

pub held-store : (who : Who) (file block first last now : ℕ) (j : List Entry) → Throughout IsRising j → (fits : StoreFits who file block first last j)
    → HasHeld (S who file block first last now ∷ j) file block fits.value
held-store who file block first last now j rising fits = (
  λ f. absurd f.0,
  λ none.
      last-of-undisturbed (IsHeld (S who file block first last now ∷ j) file block) who file block first last fits.value j fits.undisturbed rising
      fits.ordered fits.last_there (λ e h. h.0) greater
      ((refl, refl), inr (inl (refl, refl, refl, fits.ordered, omega arith))),
)
  where
    greater : (n v : ℕ) → last < n → In j (W who file block n v false)
        → IsHeld (S who file block first last now ∷ j) file block (W who file block n v false) → ⊥
    greater n v above i (on, inl t) = t
    greater n v above i (on, inr (inl c)) = let below = c.4 in omega arith
    greater n v above i (on, inr (inr s)) = let past = fits.earlier n (stored-value j who file block n v 0 s) in let ordered = fits.ordered in omega arith

-- ---- a delayed write is not stored as it is noted

-- what was stored has numbers of writes that stand
pub stored-drawn : (j : List Entry) (who : Who) (file block n v : ℕ) → Throughout Rests j → IsStored j (W who file block n v false)
    → (m : ℕ) × (u : ℕ) × (n ≤ m) × In j (W who file block m u false)
stored-drawn [] who file block n v rests h = absurd h
stored-drawn (e ∷ j) who file block n v rests (inr h) = let k = stored-drawn j who file block n v rests.1 h in (k.0, k.1, k.2, inr k.3)
stored-drawn (S by f b first last now ∷ j) who file block n v rests (inl c) =
    let fits : StoreFits by f b first last j = rests.0 in (
      last,
      fits.value,
      c.4,
      inr (subst (λ z. In j (W z file block last fits.value false)) (sym c.0)
          (subst (λ z. In j (W by z block last fits.value false)) (sym c.1) (subst (λ z. In j (W by f z last fits.value false)) (sym c.2) fits.last_there))),
    )
stored-drawn (other ∷ j) who file block n v rests (inl c) = absurd c

pub delayed-unheld : (who : Who) (f b n v file block : ℕ) (j : List Entry) → IsRising (W who f b n v false) j → Throughout Rests j
    → IsHeld (W who f b n v false ∷ j) file block (W who f b n v false) → ⊥
delayed-unheld who f b n v file block j rise rests (on, inl t) = t
delayed-unheld who f b n v file block j rise rests (on, inr (inl c)) = c
delayed-unheld who f b n v file block j rise rests (on, inr (inr s)) =
    let k = stored-drawn j who f b n v rests s in
    let below = rise f b k.0 k.1 k.3 in
    let at_most = k.2 in
    omega arith
