use Rattle.nq_storm.proofs.Asking.{asks_all, asks_few}
use Rattle.nq_storm.proofs.Telling.{counts_printed, keeps_storm, prints_storm}
use Rattle.nq_storm.proofs.running.tell.Goals as goal

pub returns-in-Done-clause-asks : goal.returns-in-Done-clause-asks
returns-in-Done-clause-asks g c = λ wanted before now asks. asks_all c.print_storm.result wanted before now (rw c.in-Done.is at asks)

pub returns-in-Done-clause-ends : goal.returns-in-Done-clause-ends
returns-in-Done-clause-ends g c = λ start count first storms.
    let whole = rw c.in-Done.is at storms in
    prints_storm c.print_storm.result start count first c.args.ran.now c.args.world.now _ _ _ _ _ whole (c.print_storm.ensures.prints whole.stands)

pub returns-in-Done-clause-keeps : goal.returns-in-Done-clause-keeps
returns-in-Done-clause-keeps g c = λ done start count first storms.
    let whole = rw c.in-Done.is at storms in
    keeps_storm c.print_storm.result start count first c.args.ran.now c.args.world.now _ _ _ _ _ whole (c.print_storm.ensures.prints whole.stands) done

pub returns-in-Done-clause-counts : goal.returns-in-Done-clause-counts
returns-in-Done-clause-counts g c = λ start count first storms before now counts.
    let whole = rw c.in-Done.is at storms in
    counts_printed c.print_storm.result c.args.ran.now _ _ _ _ before now (c.print_storm.ensures.prints whole.stands) (rw c.in-Done.is at counts)

pub returns-in-Limit-clause-asks : goal.returns-in-Limit-clause-asks
returns-in-Limit-clause-asks g c = λ wanted before now asks.
    asks_few c.tell_limit.result c.in-Limit.limit wanted before now _ _ _ _ c.tell_limit.ensures.tells (rw c.in-Limit.is at asks)
