use Rattle.nq_image.proofs.Finding.{opens-stands}
use Rattle.nq_image.proofs.Gathering.{stands-opens}
use Rattle.nq_image.proofs.standing.what_stands_opens.Goals as goal

pub returns-clause-opens : goal.returns-clause-opens
returns-clause-opens c bytes s = stands-opens bytes s

pub returns-clause-stands : goal.returns-clause-stands
returns-clause-stands c bytes kept = opens-stands bytes kept
