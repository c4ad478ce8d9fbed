use Rattle.std.proofs.Common.{◌∙◌, ap}
use Rattle.nq_whole.proofs.Heading.{none-repeated}
use Rattle.nq_whole.proofs.heads.head_in.Goals as goal
use Rattle.nq_whole.specs.Heads.{head_in}

pub returns-clause-none : goal.returns-clause-none
returns-clause-none c = λ v is. c.head_seen.ensures ∙ ap head_in is ∙ none-repeated v
