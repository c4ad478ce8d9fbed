-- Which writes are stored, one more of them at a time.
use Rattle.std.proofs.Common.{◌≡◌, ℕ, ◌+◌, List, [], ◌∷◌, ◌++◌, length, reverse, Some, Bool, false, ◌||◌, inl, inr, refl, sym, ◌∙◌, ap, subst}
use Rattle.std.specs.List.{slice_get}
use Rattle.nq_base.specs.declared.Entry.{Entry}
use Rattle.nq_base.specs.declared.Entry.TheVariants.{W, S}
use Rattle.nq_model.specs.laws.JournalTest.{exists, is_stored, store_covers}
use Rattle.nq_check.specs.Stored.{AreStored, is_delayed}
use Rattle.nq_check.proofs.Linking.{get_pushed, long_pushed}

same_some : {X : Type 0} (x y : X) → Some x ≡ Some y → x ≡ y
same_some x y e = cc

-- an S covers delayed writes alone
no_store : (entry write : Entry) → is_delayed write ≡ false → store_covers entry write ≡ false
no_store (S who file block first last now) (W by f b n v false) d = absurd (cc)
no_store (S who file block first last now) write d = refl
no_store entry write d = refl

none_among : (entries : List Entry) (write : Entry) → is_delayed write ≡ false → exists (λ entry. store_covers entry write) entries ≡ false
none_among [] write d = refl
none_among (entry ∷ entries) write d =
    ap (λ b. b || exists (λ other. store_covers other write) entries) (no_store entry write d) ∙ none_among entries write d

pub none_stored : (whole : List Entry) (write : Entry) → is_delayed write ≡ false → false ≡ is_stored (reverse whole) write
none_stored whole write d = sym (none_among (reverse whole) write d)

pub none_yet : (whole : List Entry) (stored : List Bool) → stored ≡ [] → (length stored ≡ 0) × AreStored whole stored
none_yet whole stored e =
    subst (λ l. (length l ≡ 0) × AreStored whole l) (sym e) (refl, λ place entry told there at. absurd (cc))

pub long_more : (before after : List Bool) (told : Bool) (place : ℕ) → length before ≡ place → after ≡ before ++ told ∷ [] → length after ≡ place + 1
long_more before after told place long pushed = ap length pushed ∙ long_pushed before told ∙ ap (λ k. k + 1) long

pub stored_more : (whole : List Entry) (place : ℕ) (entry : Entry) (before after : List Bool) (told : Bool) → slice_get whole place ≡ Some entry
    → length before ≡ place → after ≡ before ++ told ∷ [] → told ≡ is_stored (reverse whole) entry → AreStored whole before → AreStored whole after
stored_more whole place entry before after told there long pushed is h p x b at_p at =
    elim (get_pushed before told b p (subst (λ l. slice_get l p ≡ Some b) pushed at)) [
      | inl l ↦ h p x b at_p l
      | inr r ↦
          let same : p ≡ place = r.0 ∙ long in
          let at_place : slice_get whole place ≡ Some x = subst (λ i. slice_get whole i ≡ Some x) same at_p in
          r.1 ∙ is ∙ ap (λ e. is_stored (reverse whole) e) (same_some entry x (sym there ∙ at_place))
    ]
