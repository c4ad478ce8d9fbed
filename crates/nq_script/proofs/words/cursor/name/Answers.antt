use Rattle.nq_script.proofs.Names.{found}
use Rattle.nq_script.proofs.words.cursor.name.Goals as goal

pub returns-clause-step : goal.returns-clause-step
returns-clause-step c = found c.args.word.now c.new.result c.new.ensures.name c.new.ensures.bytes
