use Rattle.law_runs.proofs.TagWorlds.{vacated-are-past}
use Rattle.law_runs.proofs.files.tags.vacated_tags_are_past.Goals as goal

pub returns : goal.returns
returns c = vacated-are-past
