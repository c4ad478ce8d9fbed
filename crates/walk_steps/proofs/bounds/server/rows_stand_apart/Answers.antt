use Rattle.walk_steps.proofs.ServerAlone.{rows-stand-apart}
use Rattle.walk_steps.proofs.bounds.server.rows_stand_apart.Goals as goal

pub returns : goal.returns
returns c = rows-stand-apart
