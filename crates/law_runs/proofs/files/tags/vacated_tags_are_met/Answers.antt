use Rattle.law_runs.proofs.SomeVacated.{is-past-sometime}
use Rattle.law_runs.proofs.files.tags.vacated_tags_are_met.Goals as goal

pub returns : goal.returns
returns c = is-past-sometime
