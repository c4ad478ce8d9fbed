use Rattle.std.proofs.Common.{◌++◌, ap, ◌∙◌}
use Rattle.std.proofs.lemmas.Result.{on_ok_weaker}
use Rattle.nq_script.proofs.Printing.{command_spaced}
use Rattle.nq_script.proofs.print.append_words.Goals as goal

pub returns : goal.returns
returns c =
    on_ok_weaker c.push_command.result
    (λ written. written ∙ ap (λ t. c.args.text.now.items ++ t) (command_spaced c.args.word.now c.args.numbers.now))
    c.push_command.ensures
