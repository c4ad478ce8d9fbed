use Rattle.nq_check.proofs.stored.is_stored.Goals as goal

pub returns-in-Some : goal.returns-in-Some
returns-in-Some c = c.requires.known.stored c.args.at c.args.write.now c.in-Some.told c.requires.there c.in-Some.ensures
