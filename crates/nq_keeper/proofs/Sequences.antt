-- A request of a sequence of which nothing is said, and what a stop leaves.
use Rattle.std.proofs.Common.{◌≡◌, ◌⊎◌, ℕ, Bool, true, false, Option, Some, None, if◌then◌else◌, refl, sym, ap, subst, ◌∙◌, inl, inr}
use Rattle.std.specs.Prelude.{◌==◌, nat_lt}
use Rattle.nq_base.specs.declared.Change.{Change}
use Rattle.nq_base.specs.declared.Decided.{Decided}
use Rattle.nq_base.specs.declared.Decided.TheVariants.{Again, Old, OldIncarnation, NotAttached}
use Rattle.nq_base.specs.declared.Effect.{Effect}
use Rattle.nq_base.specs.declared.Gate.{Gate}
use Rattle.nq_base.specs.declared.HostRow.{HostRow}
use Rattle.nq_base.specs.declared.Request.{Request}
use Rattle.nq_base.specs.declared.Verdict.{Verdict}
use Rattle.nq_base.specs.declared.Who.{Who}
use Rattle.nq_keeper.specs.Deciding.{IsOfSequence}
use Rattle.nq_model.specs.protocol.Change.{applied_if}
use Rattle.nq_model.specs.protocol.Decided.{change_of, change_with, decided_before, effect_of, fresh_change, fresh_decided, or_fresh, if_fresh}
use Rattle.nq_model.specs.protocol.Decided.{sequence_decided}
use Rattle.nq_model.specs.protocol.Kept.{Kept, host_row}

-- the change that is committed where nothing is said
abbrev pub changed : Who → (seq : ℕ) → Effect → Change → Kept → Option Change
changed who seq effect change kept = if_fresh (sequence_decided who seq (host_row kept who.host) effect) change

pub leaves-later : (who : Who) (seq : ℕ) (effect : Effect) (change : Change) (line : HostRow) (A B : Type 0) (found : Option Kept) (kept : Kept)
    → line ≡ host_row kept who.host → decided_before who seq line ≡ None → A ⊎ B → (A → found ≡ Some kept)
    → (B → (found ≡ Some kept) ⊎ (found ≡ Some (applied_if kept (if_fresh (fresh_decided who seq effect) change)))) → (found ≡ Some kept)
    ⊎ (found ≡ Some (applied_if kept (changed who seq effect change kept)))
leaves-later who seq effect change line A B found kept is none (inl a) f g = inl (f a)
leaves-later who seq effect change line A B found kept is none (inr b) f g = by (g b)
  where
    of : decided_before who seq (host_row kept who.host) ≡ None
    of = ap (decided_before who seq) (sym is) ∙ none

    by : (found ≡ Some kept) ⊎ (found ≡ Some (applied_if kept (if_fresh (fresh_decided who seq effect) change))) → (found ≡ Some kept)
        ⊎ (found ≡ Some (applied_if kept (changed who seq effect change kept)))
    by (inl s) = inl s
    by (inr s) = inr (s ∙ sym (ap (λ o. Some (applied_if kept (if_fresh (or_fresh o (fresh_decided who seq effect)) change))) of))

-- ---- something is said of it

none-fresh : (a b c d : Bool) (verdict : Verdict) (value : ℕ) (said : Decided) (change : Change) → (if a then Some OldIncarnation
    else (if b then Some NotAttached else (if c then Some (Again verdict value) else (if d then Some Old else None)))) ≡ Some said
    → if_fresh said change ≡ None
none-fresh true b c d verdict value said change is = let own : OldIncarnation ≡ said = cc in subst (λ s. if_fresh s change ≡ None) own refl
none-fresh false true c d verdict value said change is = let own : NotAttached ≡ said = cc in subst (λ s. if_fresh s change ≡ None) own refl
none-fresh false false true d verdict value said change is = let own : Again verdict value ≡ said = cc in subst (λ s. if_fresh s change ≡ None) own refl
none-fresh false false false true verdict value said change is = let own : Old ≡ said = cc in subst (λ s. if_fresh s change ≡ None) own refl
none-fresh false false false false verdict value said change is = absurd (cc)

module _ (who : Who) (seq : ℕ) (effect : Effect) (change : Change) (line : HostRow) (said : Decided) (is : decided_before who seq line ≡ Some said) where
  pub said-of : sequence_decided who seq line effect ≡ said
  said-of = ap (λ o. or_fresh o (fresh_decided who seq effect)) is

  -- nothing is kept of it
  pub nothing-of : if_fresh (sequence_decided who seq line effect) change ≡ None
  nothing-of =
      ap (λ d. if_fresh d change) said-of
      ∙ none-fresh (nat_lt who.inc line.inc) (nat_lt line.inc who.inc) (seq == line.seq) (nat_lt seq line.seq) line.verdict line.value said change is

-- the change of a request of a sequence
pub changes-of : (kept : Kept) (gate : Gate) (r : Request) (who : Who) (seq : ℕ) → IsOfSequence who seq r → change_of kept gate r
    ≡ if_fresh (sequence_decided who seq (host_row kept who.host) (effect_of kept gate r)) (change_with who seq (effect_of kept gate r))
changes-of kept gate r who seq asked =
    ap (λ d. if_fresh d (fresh_change kept gate r)) (asked.decides kept gate)
    ∙ ap (if_fresh (sequence_decided who seq (host_row kept who.host) (effect_of kept gate r))) (asked.changes kept gate)
