use Rattle.std.proofs.Common.{◌++◌, ◌∙◌, ap}
use Rattle.nq_whole.proofs.Joining.{filled-words}
use Rattle.nq_whole.proofs.pieces.push_filled.Goals as goal
use Rattle.nq_xdr.specs.Words.{repeats}

pub returns : goal.returns
returns c =
    c.push_words.ensures.words
    ∙ ap (λ b. c.args.out.now.items ++ b) (ap (repeats 1024) c.word_of.ensures ∙ filled-words c.args.value)
