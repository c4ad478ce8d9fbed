use Rattle.walk_steps.proofs.WorldNumbers.{numbers-stay-within}
use Rattle.law_names.proofs.Codecs.{codec}
use Rattle.law_names.proofs.EachFind.{lists-last}
use Rattle.law_names.proofs.finds.lists_last.Goals as goal
use Rattle.walk_steps.proofs.OneRequests.{one-open-in-every-run}

pub returns : goal.returns
returns c = lists-last codec numbers-stay-within one-open-in-every-run
