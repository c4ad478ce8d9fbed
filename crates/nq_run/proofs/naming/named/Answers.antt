use Rattle.nq_run.proofs.NamesPromises.{names_for}
use Rattle.nq_run.proofs.naming.named.Goals as goal

pub returns : goal.returns
returns g c = names_for c.run_played.result c.args.limit c.status.result _ _ _ _ _ _ _ _ c.status.ensures c.run_played.ensures.ends
    c.run_played.ensures.by_input c.run_played.ensures.source c.run_played.ensures.sink
