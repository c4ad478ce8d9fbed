use Rattle.nq_storm.proofs.Asking.{asks_wanted}
use Rattle.nq_storm.proofs.running.storm_over.Goals as goal

pub returns-clause-asks : goal.returns-clause-asks
returns-clause-asks g c =
    c.tell-end.ensures.asks c.args.plan.events _ _ (asks_wanted c.storm-stormed.result _ _ _ _ c.storm-stormed.ensures.asks c.storm-stormed.ensures.early
    c.storm-stormed.ensures.whole)
