use Rattle.law_runs.proofs.TagWorlds.{drawn-in-order}
use Rattle.law_runs.proofs.files.tags.tags_are_drawn_in_order.Goals as goal

pub returns : goal.returns
returns c = drawn-in-order
