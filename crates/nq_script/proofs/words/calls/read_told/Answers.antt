use Rattle.std.proofs.Common.{◌∙◌}
use Rattle.nq_script.proofs.Again.{told_spelled}
use Rattle.nq_script.proofs.Found.{read_is}
use Rattle.nq_script.proofs.words.calls.read_told.Goals as goal

pub returns-clause-found : goal.returns-clause-found
returns-clause-found c = read_is c.args.version c.args.text.now c.told_in.result c.told_in.ensures

pub returns-clause-only : goal.returns-clause-only
returns-clause-only c told spelled = c.told_in.ensures ∙ told_spelled c.args.version told c.args.text.now spelled
