use Rattle.std.proofs.Common.{[], ◌∷◌, refl, ap, sym, ◌∙◌, inl, inr}
use Rattle.std.proofs.lemmas.Bool.{true≢false}
use Rattle.std.proofs.lemmas.List.{append_cancel_right}
use Rattle.nq_journal.specs.Fault.{ended}
use Rattle.nq_journal.proofs.TextLines.{head, head_is, head_1, head_2}
use Rattle.nq_journal.proofs.parsing.version_of.Goals as goal

pub returns-then-is-clause-found : goal.returns-then-is-clause-found
returns-then-is-clause-found c =
    (inl refl, ap ended (c.is.ensures.same.0 c.if-is.true ∙ sym head_1) ∙ sym (head_is 1))

pub returns-then-is-2-clause-found : goal.returns-then-is-2-clause-found
returns-then-is-2-clause-found c =
    (inr refl, ap ended (c.is-else-is.ensures.same.0 c.if-is-2.true ∙ sym head_2) ∙ sym (head_is 2))

pub returns-else-is-2-clause-none : goal.returns-else-is-2-clause-none
returns-else-is-2-clause-none c = λ _ version is same.
    let named = append_cancel_right c.args.line.now (head version) (10 ∷ []) (same ∙ head_is version) in
    elim is [
      | inl one ↦ true≢false (sym (c.is.ensures.same.1 (named ∙ ap head one ∙ head_1)) ∙ c.if-is.false)
      | inr two ↦ true≢false (sym (c.is-else-is.ensures.same.1 (named ∙ ap head two ∙ head_2)) ∙ c.if-is-2.false)
    ]
