use Rattle.nq_replay.proofs.Grammar.{mixed-bad, mixed-only}
use Rattle.nq_replay.proofs.asides.scripts.read_script.Goals as goal

pub returns-clause-only : goal.returns-clause-only
returns-clause-only g c = λ head lines s. mixed-only g.A.AsideLine.said c.args.text.now head lines s c.read_whole.result c.read_whole.ensures.found

pub returns-clause-bad : goal.returns-clause-bad
returns-clause-bad g c = λ number w. mixed-bad g.A.AsideLine.said c.args.text.now number w c.read_whole.result c.read_whole.ensures.found
