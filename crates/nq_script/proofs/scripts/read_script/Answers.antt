use Rattle.std.proofs.lemmas.List.{take_rest}
use Rattle.std.proofs.lemmas.Result.{err_from_is_err_and}
use Rattle.nq_script.proofs.Passing.{passed}
use Rattle.nq_script.proofs.Whole.{head-wrong, schedule-found, lines-wrong}
use Rattle.nq_script.proofs.scripts.read_script.Goals as goal

pub returns-in_err-head-clause-found : goal.returns-in_err-head-clause-found
returns-in_err-head-clause-found c =
    passed c.from_residual.result _ _ _ _ (err_from_is_err_and c.from_residual.result c.from_residual.ensures.1) c.in_err-head.ensures.found
    (λ number said. head-wrong c.args.text.now number said)

pub returns-in_err-lines-clause-found : goal.returns-in_err-lines-clause-found
returns-in_err-lines-clause-found c =
    passed c.from_residual-in_err-lines.result _ _ _ _ (err_from_is_err_and c.from_residual-in_err-lines.result c.from_residual-in_err-lines.ensures.1)
    c.in_err-lines.ensures
    (λ number said. lines-wrong _ _ _ c.args.text.now number c.in_ok-head.ensures.found (rw take_rest at said))

pub returns-clause-found : goal.returns-clause-found
returns-clause-found c =
    schedule-found _ _ _ c.args.text.now _ c.in_ok-head.ensures.found (rw take_rest at c.in_ok-lines.ensures)
