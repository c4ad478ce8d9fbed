use Rattle.nq_check.proofs.namings.find_names.Goals as goal

pub returns : goal.returns
returns c = c.in_ok-front.ensures
