use Rattle.std.proofs.Common.{[], ◌∷◌, ◌++◌, ap, sym, ◌∙◌, append_assoc}
use Rattle.std.proofs.lemmas.Result.{on_ok_weaker}
use Rattle.nq_journal.proofs.write_entries.push_call.Goals as goal
use Rattle.nq_script.proofs.Blanks.{told_blank}
use Rattle.nq_script.specs.Forms.{told_words}
use Rattle.nq_script.specs.Words.{joined}

pub returns-clause-written : goal.returns-clause-written
returns-clause-written c =
    let old = c.args.out.now.items in
    let told = c.args.told.now in
    on_ok_weaker c.push_told.result
    (λ written.
    written
    ∙ ap (λ t. t ++ joined (told_words told)) c.in_ok-push_bytes.ensures
    ∙ append_assoc old (32 ∷ []) (joined (told_words told))
    ∙ ap (λ t. old ++ t) (sym (told_blank told)))
    c.push_told.ensures.written
