use Rattle.law_runs.proofs.TagOrder.{standing-grows}
use Rattle.law_runs.proofs.files.tags.standing_table_grows.Goals as goal

pub returns : goal.returns
returns c = standing-grows
