use Rattle.nq_script.proofs.SaidFound.{said_taken}
use Rattle.nq_script.proofs.words.answers.take_said.Goals as goal

pub returns-clause-found : goal.returns-clause-found
returns-clause-found c = said_taken c.args.words.now c.said_at.new.words c.said_at.result c.said_at.ensures
