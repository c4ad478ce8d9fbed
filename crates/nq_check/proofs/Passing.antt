-- A test that entries pass, one more of them at a time.
use Rattle.std.proofs.Common.{◌≡◌, ◌<◌, ◌≤◌, ℕ, ◌+◌, ◌-◌, List, ◌∷◌, take, drop, reverse, Some, true, inl, inr, refl, sym, ◌∙◌, subst, arith}
use Rattle.std.specs.Prelude.{Bool, false, if◌then◌else◌}
use Rattle.std.specs.List.{slice_get}
use Rattle.std.proofs.lemmas.Bool.{and_from, cases_lt}
use Rattle.nq_base.specs.declared.Entry.{Entry}
use Rattle.nq_base.specs.declared.Entry.TheVariants.{L, A}
use Rattle.nq_base.specs.declared.Said.TheVariants.{Lost}
use Rattle.nq_check.specs.Fronts.{KeepsBelow, keeps_at}
use Rattle.nq_check.specs.Losses.{PassBetween, is_ended, is_naming, is_told}
use Rattle.nq_rules.specs.Named.{is_reported}
use Rattle.nq_check.specs.declared.rules.Rule.TheVariants.{Reported}
use Rattle.nq_model.specs.laws.Reported.{loss_told}

some_one : {X : Type 0} (x y : X) → Some x ≡ Some y → x ≡ y
some_one x y e = cc

-- the entry at one place, by what stands there
at_place : (test : ℕ → Entry → Bool) (whole : List Entry) (k place : ℕ) (x entry : Entry) → place ≡ k → slice_get whole k ≡ Some x
    → slice_get whole place ≡ Some entry → test k x ≡ true → test place entry ≡ true
at_place test whole k place x entry same e there h =
    let at_k : slice_get whole k ≡ Some entry = subst (λ i. slice_get whole i ≡ Some entry) same there in
    let is : x ≡ entry = some_one x entry (sym e ∙ at_k) in
    subst (λ i. test i entry ≡ true) (sym same) (subst (λ y. test k y ≡ true) is h)

-- between a place and one that is no later
pub pass_none : (test : ℕ → Entry → Bool) (whole : List Entry) (from to : ℕ) → to ≤ from → PassBetween test whole from to
pass_none test whole from to h place entry a b there = absurd (omega arith)

-- the next entry passes, too
pub pass_up : (test : ℕ → Entry → Bool) (whole : List Entry) (from k : ℕ) (x : Entry) → slice_get whole k ≡ Some x → test k x ≡ true
    → PassBetween test whole from k → PassBetween test whole from (k + 1)
pass_up test whole from k x e h below place entry a b there =
    elim (cases_lt place k) [
      | inl l ↦ below place entry a l there
      | inr least ↦ at_place test whole k place x entry (omega arith) e there h
    ]

-- the entry before them passes, too
pub pass_down : (test : ℕ → Entry → Bool) (whole : List Entry) (k to : ℕ) (x : Entry) → slice_get whole k ≡ Some x → test k x ≡ true
    → PassBetween test whole (k + 1) to → PassBetween test whole k to
pass_down test whole k to x e h above place entry a b there =
    elim (cases_lt k place) [
      | inl l ↦ above place entry (omega arith) b there
      | inr most ↦ at_place test whole k place x entry (omega arith) e there h
    ]

-- the entry before them was looked at, and the front is its place where it does not pass
pub pass_back : (test : ℕ → Entry → Bool) (whole : List Entry) (left to : ℕ) (passes : Bool) (x : Entry) (front : ℕ) → 0 < left
    → slice_get whole (left - 1) ≡ Some x → front ≡ (if passes then to else left - 1) → (passes ≡ true → test (left - 1) x ≡ true)
    → PassBetween test whole left to → PassBetween test whole (left - 1) front
pass_back test whole left to true x front up e is h below =
    let same : left ≡ (left - 1) + 1 = omega arith in
    subst (λ f. PassBetween test whole (left - 1) f) (sym is)
    (pass_down test whole (left - 1) to x e (h refl) (subst (λ k. PassBetween test whole k to) same below))
pass_back test whole left to false x front up e is h below = pass_none test whole (left - 1) front (omega arith)

-- ---- the rule of losses, by its parts

all_parts : (whole : List Entry) (place : ℕ) (entry : Entry) → is_naming whole place entry ≡ true → is_told whole place entry ≡ true
    → is_ended whole place entry ≡ true → keeps_at Reported whole place entry ≡ true
all_parts whole place (L who file block first last) n t e =
    and_from (is_ended whole place (L who file block first last))
    (is_reported (reverse whole) (L who file block first last ∷ reverse (take place whole)) who (loss_told file block first last) (drop (place + 1) whole))
    e t
all_parts whole place (A who q (Lost spans)) n t e = n
all_parts whole place other n t e = refl

pub all_below : (whole : List Entry) (named told ended front : ℕ) → PassBetween (is_naming whole) whole 0 named
    → PassBetween (is_told whole) whole 0 told → PassBetween (is_ended whole) whole 0 ended → front ≤ named → front ≤ told → front ≤ ended
    → KeepsBelow Reported whole front
all_below whole named told ended front n t e a b d place entry below there =
    all_parts whole place entry
    (n place entry (omega arith) (omega arith) there)
    (t place entry (omega arith) (omega arith) there)
    (e place entry (omega arith) (omega arith) there)
