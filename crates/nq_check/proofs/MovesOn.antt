-- A front moves on past an entry that keeps the rule.
use Rattle.std.proofs.Common.{◌≡◌, ℕ, ◌+◌, List, Some, true, inl, inr, sym, ◌∙◌, subst, arith}
use Rattle.std.specs.List.{slice_get}
use Rattle.std.proofs.lemmas.Bool.{cases_lt}
use Rattle.nq_base.specs.declared.Entry.{Entry}
use Rattle.nq_check.specs.declared.rules.Rule.{Rule}
use Rattle.nq_check.specs.Fronts.{KeepsBelow, keeps_at}

some_one : {X : Type 0} (x y : X) → Some x ≡ Some y → x ≡ y
some_one x y e = cc

pub none_below : (rule : Rule) (whole : List Entry) → KeepsBelow rule whole 0
none_below rule whole place entry below there = absurd (omega arith)

pub one_more : (rule : Rule) (whole : List Entry) (k : ℕ) (x : Entry) → slice_get whole k ≡ Some x → keeps_at rule whole k x ≡ true
    → KeepsBelow rule whole k → KeepsBelow rule whole (k + 1)
one_more rule whole k x e h below place entry less there =
    elim (cases_lt place k) [
      | inl l ↦ below place entry l there
      | inr least ↦
          let same : place ≡ k = omega arith in
          let at_k : slice_get whole k ≡ Some entry = subst (λ i. slice_get whole i ≡ Some entry) same there in
          let is : x ≡ entry = some_one x entry (sym e ∙ at_k) in
          subst (λ i. keeps_at rule whole i entry ≡ true) (sym same) (subst (λ y. keeps_at rule whole k y ≡ true) is h)
    ]
