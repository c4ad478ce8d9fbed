use Rattle.std.proofs.Common.{sym, ◌∙◌}
use Rattle.nq_script.proofs.Numerals.{plain_spelled}
use Rattle.nq_script.proofs.words.cursor.number64.Goals as goal

pub returns-then-is_plain-clause-found : goal.returns-then-is_plain-clause-found
returns-then-is_plain-clause-found c =
    plain_spelled c.args.word.now c.digits.result (sym c.is_plain.ensures ∙ c.if-is_plain.true) c.digits.ensures
