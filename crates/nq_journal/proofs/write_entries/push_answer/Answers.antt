use Rattle.std.proofs.Common.{[], ◌∷◌, ◌++◌, ap, sym, ◌∙◌, append_assoc}
use Rattle.std.proofs.lemmas.Result.{on_ok_weaker}
use Rattle.nq_journal.proofs.write_entries.push_answer.Goals as goal
use Rattle.nq_script.proofs.Blanks.{said_blank}
use Rattle.nq_script.specs.Forms.{said_words}
use Rattle.nq_script.specs.Words.{joined}

pub returns-clause-written : goal.returns-clause-written
returns-clause-written c =
    let old = c.args.out.now.items in
    let said = c.args.said.now in
    on_ok_weaker c.push_said.result
    (λ written.
    written
    ∙ ap (λ t. t ++ joined (said_words said)) c.in_ok-push_bytes.ensures
    ∙ append_assoc old (32 ∷ []) (joined (said_words said))
    ∙ ap (λ t. old ++ t) (sym (said_blank said)))
    c.push_said.ensures.written
