-- What holds of a journal, and stays so with each loss, holds after the losses of some entries.
use Rattle.std.proofs.Common.{List, [], ◌∷◌, ◌++◌, map, refl, sym, subst, ap, ◌∙◌, inl, inr, append_assoc}
use Rattle.std.proofs.lemmas.List.{reverse-append}
use Rattle.std.specs.Prelude.{reverse}
use Rattle.nq_base.specs.declared.Entry.{Entry}
use Rattle.nq_base.specs.declared.Push.{Push}
use Rattle.nq_base.specs.declared.Who.{Who}
use Rattle.nq_model.specs.protocol.Hear.{loss_entry}
use Rattle.walk_steps.proofs.Packets.{In}

-- the losses of some entries over a journal, one after the other
pub fold-losses : (P : List Entry → Type 0) (who : Who) (lost : List Push) (journal : List Entry)
    → ((p : Push) (more : List Entry) → In lost p → P more → P (loss_entry who p ∷ more)) → P journal → P (reverse (map (loss_entry who) lost) ++ journal)
fold-losses P who [] journal more h = h
fold-losses P who (p ∷ lost) journal more h =
    subst
    P
    (sym (ap (λ l. l ++ journal) (reverse-append (loss_entry who p ∷ []) (map (loss_entry who) lost))
    ∙ append_assoc (reverse (map (loss_entry who) lost)) (loss_entry who p ∷ []) journal))
    (fold-losses P who lost (loss_entry who p ∷ journal) (λ q j there. more q j (inr there)) (more p journal (inl refl) h))
