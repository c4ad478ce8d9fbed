use Rattle.nq_script.proofs.Found.{told_taken}
use Rattle.nq_script.proofs.words.calls.take_told.Goals as goal

pub returns-clause-found : goal.returns-clause-found
returns-clause-found c = told_taken c.args.words.now c.told_at.new.words c.told_at.result c.told_at.ensures
