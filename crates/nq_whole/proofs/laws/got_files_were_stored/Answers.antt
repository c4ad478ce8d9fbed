use Rattle.nq_whole.proofs.Parts.{runs}
use Rattle.nq_whole.proofs.laws.got_files_were_stored.Goals as goal
use Rattle.nq_whole.specs.Getting.{begun}

pub returns : goal.returns
returns c = λ stored name answers lawful. runs stored answers (begun name) tt lawful
