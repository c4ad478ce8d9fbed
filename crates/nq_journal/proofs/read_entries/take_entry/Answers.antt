use Rattle.nq_journal.proofs.read_entries.take_entry.Goals as goal

pub returns-in-A-clause-found : goal.returns-in-A-clause-found
returns-in-A-clause-found c = rw c.in-A.is (c.take_a.ensures.found c.args.version)

pub returns-in-C-clause-found : goal.returns-in-C-clause-found
returns-in-C-clause-found c = rw c.in-C.is (c.take_c.ensures.found c.args.version)
