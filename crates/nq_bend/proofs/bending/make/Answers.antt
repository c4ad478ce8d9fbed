use Rattle.nq_bend.proofs.bending.make.Goals as goal

pub returns-in-Cut-clause-goes : goal.returns-in-Cut-clause-goes
returns-in-Cut-clause-goes g c = λ count is.
    c.set_cut.ensures.goes c.args.plan.now.head.now c.args.plan.now.old.now.events c.args.plan.now.bends.now count is

pub returns-in-Join-clause-goes : goal.returns-in-Join-clause-goes
returns-in-Join-clause-goes g c = λ count is.
    c.set_cut-in-Join.ensures.goes c.args.plan.now.head.now c.args.plan.now.old.now.events c.args.plan.now.bends.now count is
