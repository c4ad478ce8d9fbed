use Rattle.std.proofs.Common.{◌++◌, ap, ◌∙◌, List, ℕ}
use Rattle.nq_xdr.specs.Words.{repeats}
use Rattle.nq_plan.proofs.Words.{filled-words}
use Rattle.nq_plan.proofs.bodies.push_filled.Goals as goal

pub returns : goal.returns
returns c =
    c.push_words.ensures.words
    ∙ ap (λ (xs : List ℕ). c.args.bytes.now.items ++ xs) (ap (repeats 1024) c.word_of.ensures ∙ filled-words c.args.value)
