use Rattle.nq_asks.proofs.Reading.{ask-found, ask-only}
use Rattle.nq_asks.proofs.lines.ask_in.Goals as goal

pub returns-clause-found : goal.returns-clause-found
returns-clause-found c = ask-found _ c.args.line.now _ c.numbered.ensures

pub returns-clause-only : goal.returns-clause-only
returns-clause-only c = λ number text low is. ask-only number text c.args.line.now low is
