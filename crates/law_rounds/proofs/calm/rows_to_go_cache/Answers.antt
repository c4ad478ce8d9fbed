use Rattle.law_rounds.proofs.SharingRows.{rows-to-go}
use Rattle.law_rounds.proofs.calm.rows_to_go_cache.Goals as goal

pub returns : goal.returns
returns c = rows-to-go
