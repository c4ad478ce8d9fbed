use Rattle.walk_steps.proofs.WorldNumbers.{numbers-stay-within}
use Rattle.law_names.proofs.Codecs.{codec}
use Rattle.law_names.proofs.EachFind.{each-find-is-kept}
use Rattle.law_names.proofs.finds.each_find_is_kept.Goals as goal
use Rattle.walk_steps.proofs.OneRequests.{one-open-in-every-run}

pub returns : goal.returns
returns c = each-find-is-kept codec numbers-stay-within one-open-in-every-run
