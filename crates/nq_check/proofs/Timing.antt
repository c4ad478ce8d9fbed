-- The times of stores rise past one more entry.
use Rattle.std.proofs.Common.{◌≡◌, ◌<◌, ◌≤◌, ℕ, ◌+◌, List, Some, inl, inr, sym, ◌∙◌, subst, arith}
use Rattle.std.specs.List.{slice_get}
use Rattle.std.proofs.lemmas.Bool.{cases_lt}
use Rattle.nq_base.specs.declared.Entry.{Entry}
use Rattle.nq_base.specs.declared.Entry.TheVariants.{S}
use Rattle.nq_check.specs.Rising.{IsNoLater, IsNotAfter, Rises, store_time}

some_one : {X : Type 0} (x y : X) → Some x ≡ Some y → x ≡ y
some_one x y e = cc

-- each entry before a place tells no later time
abbrev pub AreNoLater : (whole : List Entry) (to time : ℕ) → Type 0
AreNoLater whole to time = (place : ℕ) (entry : Entry) → place < to → slice_get whole place ≡ Some entry → IsNoLater time entry

later : (entry : Entry) (time next : ℕ) → time ≤ next → IsNoLater time entry → IsNoLater next entry
later (S who file block first last now) time next up h = omega arith
later other time next up h = tt

itself : (entry : Entry) (time : ℕ) → IsNoLater (store_time entry time) entry
itself (S who file block first last now) time = omega arith
itself other time = tt

same_after : (entry : Entry) → IsNotAfter entry entry
same_after (S who file block first last now) = omega arith
same_after other = tt

behind : (x y : Entry) (time : ℕ) → time ≤ store_time y time → IsNoLater time x → IsNotAfter x y
behind x (S who file block first last now) time up h = later x time now up h
behind x other time up h = tt

at_place : (whole : List Entry) (k place : ℕ) (x entry : Entry) → place ≡ k → slice_get whole k ≡ Some x → slice_get whole place ≡ Some entry → x ≡ entry
at_place whole k place x entry same e there =
    let at_k : slice_get whole k ≡ Some entry = subst (λ i. slice_get whole i ≡ Some entry) same there in
    some_one x entry (sym e ∙ at_k)

pub no_later_next : (whole : List Entry) (k : ℕ) (x : Entry) (time : ℕ) → slice_get whole k ≡ Some x → time ≤ store_time x time
    → AreNoLater whole k time → AreNoLater whole (k + 1) (store_time x time)
no_later_next whole k x time e up all place entry b there =
    elim (cases_lt place k) [
      | inl l ↦ later entry time (store_time x time) up (all place entry l there)
      | inr least ↦ subst (λ y. IsNoLater (store_time x time) y) (at_place whole k place x entry (omega arith) e there) (itself x time)
    ]

pub rises_next : (whole : List Entry) (k : ℕ) (z : Entry) (time : ℕ) → slice_get whole k ≡ Some z → time ≤ store_time z time → AreNoLater whole k time
    → Rises whole k → Rises whole (k + 1)
rises_next whole k z time e up all rises early late x y a b there_x there_y =
    elim (cases_lt late k) [
      | inl l ↦ rises early late x y a l there_x there_y
      | inr least ↦
          let is_y : z ≡ y = at_place whole k late z y (omega arith) e there_y in
          elim (cases_lt early k) [
            | inl m ↦ subst (λ v. IsNotAfter x v) is_y (behind x z time up (all early x m there_x))
            | inr most ↦
                let is_x : z ≡ x = at_place whole k early z x (omega arith) e there_x in
                subst (λ v. IsNotAfter v y) is_x (subst (λ v. IsNotAfter z v) is_y (same_after z))
          ]
    ]
