use Rattle.nq_check.proofs.fates.find_fates.Goals as goal

pub find_stored-requires-clause-accounted : goal.find_stored-requires-clause-accounted
find_stored-requires-clause-accounted c = c.in_ok-accounted.ensures

pub returns : goal.returns
returns c = (c.in_ok-accounted.ensures, c.in_ok-stored.ensures)
