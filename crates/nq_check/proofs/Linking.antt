-- One more entry is linked.
use Rattle.std.proofs.Common.{◌≡◌, ◌⊎◌, ℕ, zero, suc, ◌+◌, List, [], ◌∷◌, ◌++◌, length, Some, Bool, true, false, ◌&&◌, inl, inr, refl, sym, ◌∙◌, ap}
use Rattle.std.proofs.Common.{subst, arith}
use Rattle.std.specs.Prelude.{if◌then◌else◌}
use Rattle.std.specs.List.{slice_get}
use Rattle.std.proofs.lemmas.Bool.{cases_lt, cases_Bool}
use Rattle.nq_base.specs.declared.Entry.{Entry}
use Rattle.nq_rules.specs.declared.keys.KeyKind.{KeyKind}
use Rattle.nq_check.specs.Links.{IsFree, IsHeadNext, IsLinked, IsLinkedNext, is_link}
use Rattle.nq_rules.specs.Keys.{is_member, spot_of}
use Rattle.nq_rules.specs.Marks.{IsMarked, Spot, mark_at, same_spot}

some_one : {X : Type 0} (x y : X) → Some x ≡ Some y → x ≡ y
some_one x y e = cc

if_both : (a b : Bool) (n m : ℕ) → a ≡ true → (if b then n else m) ≡ (if a && b then n else m)
if_both true b n m e = refl
if_both false b n m e = absurd (cc)

if_none : (a b : Bool) (n m : ℕ) → a ≡ false → m ≡ (if a && b then n else m)
if_none false b n m e = refl
if_none true b n m e = absurd (cc)

-- the heads move to an entry that links lead to
pub member_headed : (kind : KeyKind) (place : ℕ) (entry : Entry) (old new : List (Spot × ℕ)) (link : ℕ) → is_member kind entry ≡ true
    → IsMarked (spot_of kind entry) (place + 1) old new → link ≡ mark_at old (spot_of kind entry) → IsHeadNext kind place entry old new link
member_headed kind place entry old new link m h l = record {
  known = inl l;
  marked = λ key. h key ∙ if_both (is_member kind entry) (same_spot (spot_of kind entry) key) (place + 1) (mark_at old key) m;
}

-- and stay where links do not lead to it
stays : (kind : KeyKind) (place : ℕ) (entry : Entry) (old : List (Spot × ℕ)) → is_member kind entry ≡ false → (key : Spot)
    → mark_at old key ≡ (if is_link kind key entry then place + 1 else mark_at old key)
stays kind place entry old m key = if_none (is_member kind entry) (same_spot (spot_of kind entry) key) (place + 1) (mark_at old key) m

pub asked_headed : (kind : KeyKind) (place : ℕ) (entry : Entry) (old : List (Spot × ℕ)) (link : ℕ) → is_member kind entry ≡ false
    → link ≡ mark_at old (spot_of kind entry) → IsHeadNext kind place entry old old link
asked_headed kind place entry old link m l = record { known = inl l; marked = stays kind place entry old m }

pub unasked_headed : (kind : KeyKind) (place : ℕ) (entry : Entry) (old : List (Spot × ℕ)) → is_member kind entry ≡ false
    → IsHeadNext kind place entry old old place
unasked_headed kind place entry old m = record { known = inr refl; marked = stays kind place entry old m }

pub head_linked : (kind : KeyKind) (place : ℕ) (entry : Entry) (old new : List (Spot × ℕ)) (before after : List ℕ) (link : ℕ)
    → IsHeadNext kind place entry old new link → after ≡ before ++ link ∷ [] → IsLinkedNext kind place entry old new before after
head_linked kind place entry old new before after link h p = record { link = link; pushed = p; head = h }

pub get_pushed : {X : Type 0} (xs : List X) (e y : X) (i : ℕ) → slice_get (xs ++ e ∷ []) i ≡ Some y
    → (slice_get xs i ≡ Some y) ⊎ ((i ≡ length xs) × (y ≡ e))
get_pushed [] e y zero h = inr (refl, sym (some_one e y h))
get_pushed [] e y (suc i) h = absurd (cc)
get_pushed (x ∷ xs) e y zero h = inl h
get_pushed (x ∷ xs) e y (suc i) h =
    elim (get_pushed xs e y i h) [
      | inl l ↦ inl l
      | inr r ↦ let same = r.0 in inr (omega arith, r.1)
    ]

pub long_pushed : {X : Type 0} (xs : List X) (e : X) → length (xs ++ e ∷ []) ≡ length xs + 1
long_pushed [] e = refl
long_pushed (x ∷ xs) e = let h = long_pushed xs e in omega arith

at_if : (b : Bool) (n m k : ℕ) → b ≡ true → k ≡ (if b then n else m) → k ≡ n
at_if true n m k e h = h
at_if false n m k e h = absurd (cc)

at_else : (b : Bool) (n m k : ℕ) → b ≡ false → k ≡ (if b then n else m) → k ≡ m
at_else true n m k e h = absurd (cc)
at_else false n m k e h = h

free_here : (kind : KeyKind) (key : Spot) (whole : List Entry) (place : ℕ) (entry : Entry) → slice_get whole place ≡ Some entry
    → is_link kind key entry ≡ false → (from : ℕ) → IsFree kind key whole from place → IsFree kind key whole from (place + 1)
free_here kind key whole place entry there misses from free p x a b h =
    elim (cases_lt p place) [
      | inl l ↦ free p x a l h
      | inr least ↦
          let same : p ≡ place = omega arith in
          let at : slice_get whole place ≡ Some x = subst (λ i. slice_get whole i ≡ Some x) same h in
          subst (λ y. is_link kind key y ≡ false) (some_one entry x (sym there ∙ at)) misses
    ]

newest_next : (kind : KeyKind) (whole : List Entry) (place : ℕ) (entry : Entry) (old new : List (Spot × ℕ)) → slice_get whole place ≡ Some entry
    → ((key : Spot) → mark_at new key ≡ (if is_link kind key entry then place + 1 else mark_at old key))
    → ((key : Spot) → IsFree kind key whole (mark_at old key) place) → (key : Spot) → IsFree kind key whole (mark_at new key) (place + 1)
newest_next kind whole place entry old new there marked free key =
    elim (cases_Bool (is_link kind key entry)) [
      | inl y ↦
          let here : mark_at new key ≡ place + 1 = at_if (is_link kind key entry) (place + 1) (mark_at old key) (mark_at new key) y (marked key) in
          λ p x a b h. absurd (omega arith)
      | inr n ↦
          let here : mark_at new key ≡ mark_at old key = at_else (is_link kind key entry) (place + 1) (mark_at old key) (mark_at new key) n (marked key) in
          subst (λ m. IsFree kind key whole m (place + 1)) (sym here) (free_here kind key whole place entry there n (mark_at old key) (free key))
    ]

back_here : (kind : KeyKind) (whole : List Entry) (place : ℕ) (entry : Entry) (old : List (Spot × ℕ)) (link : ℕ)
    → ((key : Spot) → IsFree kind key whole (mark_at old key) place) → (link ≡ mark_at old (spot_of kind entry)) ⊎ (link ≡ place)
    → IsFree kind (spot_of kind entry) whole link place
back_here kind whole place entry old link newest known =
    elim known [
      | inl l ↦ subst (λ n. IsFree kind (spot_of kind entry) whole n place) (sym l) (newest (spot_of kind entry))
      | inr l ↦ λ p x a b h. absurd (omega arith)
    ]

back_next : (kind : KeyKind) (whole : List Entry) (place : ℕ) (entry : Entry) (old : List (Spot × ℕ)) (earlier : List ℕ) (link : ℕ)
    → slice_get whole place ≡ Some entry → IsLinked kind whole place old earlier → (link ≡ mark_at old (spot_of kind entry)) ⊎ (link ≡ place)
    → (p : ℕ) (x : Entry) (e : ℕ) → slice_get whole p ≡ Some x → slice_get (earlier ++ link ∷ []) p ≡ Some e → IsFree kind (spot_of kind x) whole e p
back_next kind whole place entry old earlier link there h known p x e at pushed =
    elim (get_pushed earlier link e p pushed) [
      | inl l ↦ h.back p x e at l
      | inr r ↦
          let same : p ≡ place = r.0 ∙ h.long in
          let at_place : slice_get whole place ≡ Some x = subst (λ i. slice_get whole i ≡ Some x) same at in
          let is : entry ≡ x = some_one entry x (sym there ∙ at_place) in
          subst (λ i. IsFree kind (spot_of kind x) whole e i) (sym same)
          (subst (λ n. IsFree kind (spot_of kind x) whole n place) (sym r.1)
          (subst (λ y. IsFree kind (spot_of kind y) whole link place) is (back_here kind whole place entry old link h.newest known)))
    ]

pub linked_next : (kind : KeyKind) (whole : List Entry) (place : ℕ) (entry : Entry) (old new : List (Spot × ℕ)) (before after : List ℕ)
    → slice_get whole place ≡ Some entry → IsLinked kind whole place old before → IsLinkedNext kind place entry old new before after
    → IsLinked kind whole (place + 1) new after
linked_next kind whole place entry old new before after there h n =
    subst (λ l. IsLinked kind whole (place + 1) new l) (sym n.pushed) (record {
      long = long_pushed before n.link ∙ ap (λ k. k + 1) h.long;
      newest = newest_next kind whole place entry old new there n.head.marked h.newest;
      back = back_next kind whole place entry old before n.link there h n.head.known;
    })

none_at_start : (kind : KeyKind) (whole : List Entry) → IsLinked kind whole 0 [] []
none_at_start kind whole = record {
  long = refl;
  newest = λ key p x a b h. absurd (omega arith);
  back = λ p x e h link. absurd (cc);
}

pub none_linked : (kind : KeyKind) (whole : List Entry) (heads : List (Spot × ℕ)) (earlier : List ℕ) → heads ≡ [] → earlier ≡ []
    → IsLinked kind whole 0 heads earlier
none_linked kind whole heads earlier h e =
    subst (λ l. IsLinked kind whole 0 l earlier) (sym h) (subst (λ l. IsLinked kind whole 0 [] l) (sym e) (none_at_start kind whole))
