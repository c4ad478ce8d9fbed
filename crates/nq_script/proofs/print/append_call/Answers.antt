use Rattle.std.proofs.Common.{◌++◌, ap, ◌∙◌, subst}
use Rattle.std.proofs.lemmas.Result.{on_ok_weaker}
use Rattle.nq_base.specs.declared.Told.{Told}
use Rattle.nq_script.proofs.CallWords.{call_fits, call_spaced}
use Rattle.nq_script.proofs.print.append_call.Goals as goal
use Rattle.nq_script.specs.Forms.{FitsTold, told_words}
use Rattle.nq_script.specs.Words.{joined}
use Rattle.nq_base.specs.Calls.{told}

pub returns-clause-written : goal.returns-clause-written
returns-clause-written c =
    on_ok_weaker c.push_told.result
    (λ written.
    written
    ∙ ap (λ told. c.args.text.now.items ++ joined (told_words told)) c.told.ensures
    ∙ ap (λ t. c.args.text.now.items ++ t) (call_spaced c.args.call.now))
    c.push_told.ensures.written

pub returns-clause-fits : goal.returns-clause-fits
returns-clause-fits c =
    on_ok_weaker c.push_told.result
    (λ fits. let P : Told → Type 0 = FitsTold in call_fits c.args.call.now (subst P c.told.ensures fits))
    c.push_told.ensures.fits
