use Rattle.std.proofs.Common.{◌∙◌, sym}
use Rattle.nq_command.proofs.Wrongness.{none-left}
use Rattle.nq_command.proofs.prompt.wrongs.wrong_words.Goals as goal

pub returns-in_default : goal.returns-in_default
returns-in_default c = none-left _ _ _ c.loop-field-test.true c.in_default.ensures.step ∙ sym c.loop-field.invariant
