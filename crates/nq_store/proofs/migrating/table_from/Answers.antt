use Rattle.std.proofs.Common.{◌≤◌, ◌<◌, ◌+◌, ℕ, List, length, get_or, sym, ap, subst, ◌∙◌, inl, inr, arith}
use Rattle.std.proofs.lemmas.Bool.{cases_lt}
use Rattle.std.proofs.lemmas.List.{get_or_past}
use Rattle.nq_image.specs.Kept.{numbers_from}
use Rattle.nq_image.proofs.Giving.{length-numbers, numbers-below}
use Rattle.nq_store.proofs.migrating.table_from.Goals as goal

-- each number is one that a block can have
near : (first count k : ℕ) → first + count ≤ 16384 → get_or (numbers_from first count) k 0 < 16641
near first count k few = elim (cases_lt k (length (numbers_from first count))) [
  | inl lt ↦ (let below = numbers-below first count 16384 few k 0 lt in omega (arith, below))
  | inr le ↦ (let past = get_or_past (numbers_from first count) k 0 le in omega (arith, past))
]

pub spell_table-requires-clause-short : goal.spell_table-requires-clause-short
spell_table-requires-clause-short c =
    let same = c.deref.ensures.value ∙ c.in_ok-blocks.ensures.told in
    let few = c.requires.short in
    omega (arith, few, ap length same, length-numbers c.args.first c.args.count)

pub spell_table-requires-clause-near : goal.spell_table-requires-clause-near
spell_table-requires-clause-near c = λ k.
    let same = c.deref.ensures.value ∙ c.in_ok-blocks.ensures.told in
    subst (λ (l : List ℕ). get_or l k 0 < 16641) (sym same) (near c.args.first c.args.count k c.requires.few)
