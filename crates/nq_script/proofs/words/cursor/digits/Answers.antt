use Rattle.std.proofs.Common.{sym, ◌∙◌}
use Rattle.nq_script.proofs.Numerals.{digits_none, digits_some, digits_at_end}
use Rattle.nq_script.proofs.words.cursor.digits.Goals as goal

pub returns-in_err-number : goal.returns-in_err-number
returns-in_err-number c =
    c.from_residual.ensures
    ∙ sym (digits_none c.loop-byte.number c.args.word.now c.loop-byte.byte-index c.loop-byte-test.true c.in_err-number.ensures)
    ∙ c.loop-byte.invariant

pub loop-byte-preserved : goal.loop-byte-preserved
loop-byte-preserved c =
    sym (digits_some c.loop-byte.number c.in_ok-number.number c.args.word.now c.loop-byte.byte-index c.loop-byte-test.true c.in_ok-number.ensures)
    ∙ c.loop-byte.invariant

pub returns : goal.returns
returns c =
    sym (digits_at_end c.loop-byte.number c.args.word.now c.loop-byte.byte-index c.loop-byte-test.false) ∙ c.loop-byte.invariant
