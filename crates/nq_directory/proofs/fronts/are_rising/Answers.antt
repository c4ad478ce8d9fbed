use Rattle.std.proofs.lemmas.Bool.{MatchBool-at_true}
use Rattle.std.proofs.lemmas.List.Sorted.{non_decreasing_from_is_sorted}
use Rattle.nq_directory.proofs.fronts.are_rising.Goals as goal

pub returns : goal.returns
returns c = λ on. MatchBool-at_true _ _ on (non_decreasing_from_is_sorted _ _ c.is_sorted.ensures.cases)
