use Rattle.nq_script.proofs.HeadLines.{head-only, head-bad}
use Rattle.nq_script.proofs.heads.parse_head.Goals as goal

pub returns-clause-only : goal.returns-clause-only
returns-clause-only c = λ head rest fits split. head-only c.args.lines.now head rest fits split c.read_head.result c.read_head.ensures

pub returns-clause-bad : goal.returns-clause-bad
returns-clause-bad c = λ number w. head-bad c.args.lines.now number w c.read_head.result c.read_head.ensures
