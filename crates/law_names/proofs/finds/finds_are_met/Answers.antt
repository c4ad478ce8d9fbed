use Rattle.law_names.proofs.SomeFind.{finds-are-met}
use Rattle.law_names.proofs.finds.finds_are_met.Goals as goal

pub returns : goal.returns
returns c = finds-are-met
