use Rattle.nq_journal.proofs.Whole.{only, only_fault}
use Rattle.nq_journal.proofs.parsing.parse.Goals as goal

pub returns-clause-only : goal.returns-clause-only
returns-clause-only c = only c.args.bytes.now c.parse_text.result c.parse_text.ensures

pub returns-clause-only_fault : goal.returns-clause-only_fault
returns-clause-only_fault c = only_fault c.args.bytes.now c.parse_text.result c.parse_text.ensures
