use Rattle.law_runs.proofs.SomeContents.{is-content-sometime}
use Rattle.law_runs.proofs.files.contents.contents_are_met.Goals as goal

pub returns : goal.returns
returns c = is-content-sometime
