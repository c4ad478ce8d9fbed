use Rattle.nq_script.proofs.Whole.{schedule-only, schedule-bad}
use Rattle.nq_script.proofs.scripts.parse.Goals as goal

pub returns-clause-only : goal.returns-clause-only
returns-clause-only c = λ head lines s. schedule-only c.args.text.now head lines s c.read_script.result c.read_script.ensures.found

pub returns-clause-bad : goal.returns-clause-bad
returns-clause-bad c = λ number w. schedule-bad c.args.text.now number w c.read_script.result c.read_script.ensures.found
