use Rattle.nq_asks.proofs.Reading.{answer-found, answer-only}
use Rattle.nq_asks.proofs.lines.answer_in.Goals as goal

pub returns-clause-found : goal.returns-clause-found
returns-clause-found c = answer-found _ c.args.line.now _ c.answered.ensures

pub returns-clause-only : goal.returns-clause-only
returns-clause-only c = λ number kind text low is. answer-only number kind text c.args.line.now low is
