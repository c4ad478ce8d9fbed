use Rattle.nq_bend.proofs.course.Course.close.Goals as goal

pub returns-in-NoPacket-clause-goes : goal.returns-in-NoPacket-clause-goes
returns-in-NoPacket-clause-goes g c = λ count is. c.end.ensures.goes c.args.plan.now.head.now c.args.plan.now.old.now.events c.args.plan.now.bends.now count is
