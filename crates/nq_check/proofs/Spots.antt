-- The marks of spots.
use Rattle.std.proofs.Common.{◌≡◌, ◌≤◌, ℕ, Bool, true, false, ◌&&◌, List, inl, inr, refl, ◌∙◌, ap, arith}
use Rattle.std.specs.Prelude.{if◌then◌else◌, nat_eq}
use Rattle.std.proofs.lemmas.Bool.{and_parts, and_from, cases_Bool, eqb-true, eq-eqb}
use Rattle.nq_rules.specs.Marks.{IsMarked, Spot, mark_at, same_spot}

pub same_self : (at : Spot) → same_spot at at ≡ true
same_self at =
    and_from (nat_eq at.0.0 at.0.0 && nat_eq at.0.1 at.0.1) (nat_eq at.1.0 at.1.0 && nat_eq at.1.1 at.1.1)
    (and_from (nat_eq at.0.0 at.0.0) (nat_eq at.0.1 at.0.1) (eq-eqb at.0.0 at.0.0 refl) (eq-eqb at.0.1 at.0.1 refl))
    (and_from (nat_eq at.1.0 at.1.0) (nat_eq at.1.1 at.1.1) (eq-eqb at.1.0 at.1.0 refl) (eq-eqb at.1.1 at.1.1 refl))

pub same_is : (a b : Spot) → same_spot a b ≡ true → a ≡ b
same_is a b e =
    let h = and_parts (nat_eq a.0.0 b.0.0 && nat_eq a.0.1 b.0.1) (nat_eq a.1.0 b.1.0 && nat_eq a.1.1 b.1.1) e in
    let w = and_parts (nat_eq a.0.0 b.0.0) (nat_eq a.0.1 b.0.1) h.0 in
    let f = and_parts (nat_eq a.1.0 b.1.0) (nat_eq a.1.1 b.1.1) h.1 in
    let p = eqb-true a.0.0 b.0.0 w.0 in
    let q = eqb-true a.0.1 b.0.1 w.1 in
    let r = eqb-true a.1.0 b.1.0 f.0 in
    let s = eqb-true a.1.1 b.1.1 f.1 in
    λ i. ((p i, q i), (r i, s i))

at_if : (b : Bool) (n m : ℕ) → b ≡ true → (if b then n else m) ≡ n
at_if true n m e = refl
at_if false n m e = absurd (cc)

at_else : (b : Bool) (n m : ℕ) → b ≡ false → (if b then n else m) ≡ m
at_else true n m e = absurd (cc)
at_else false n m e = refl

-- the spot itself has the number
pub marked_there : (at : Spot) (n : ℕ) (old new : List (Spot × ℕ)) → IsMarked at n old new → mark_at new at ≡ n
marked_there at n old new h = h at ∙ at_if (same_spot at at) n (mark_at old at) (same_self at)

-- no mark sinks
pub no_lower : (at : Spot) (n : ℕ) (old new : List (Spot × ℕ)) → IsMarked at n old new → mark_at old at ≤ n → (other : Spot)
    → mark_at old other ≤ mark_at new other
no_lower at n old new h l other =
    elim (cases_Bool (same_spot at other)) [
      | inl y ↦
          let same : at ≡ other = same_is at other y in
          let old_at : mark_at old at ≡ mark_at old other = ap (λ s. mark_at old s) same in
          let new_at : mark_at new other ≡ n = h other ∙ at_if (same_spot at other) n (mark_at old other) y in
          omega arith
      | inr e ↦
          let new_at : mark_at new other ≡ mark_at old other = h other ∙ at_else (same_spot at other) n (mark_at old other) e in
          omega arith
    ]
