use Rattle.std.proofs.Common.{refl}
use Rattle.nq_bend.proofs.Going.{sent-on}
use Rattle.nq_bend.proofs.course.Course.note_sent.Goals as goal

pub returns-clause-goes : goal.returns-clause-goes
returns-clause-goes c = λ count is.
    c.set_out.ensures.goes c.args.plan.now.head.now c.args.plan.now.old.now.events c.args.plan.now.bends.now count
    (sent-on c.args.plan.now.head.now c.args.plan.now.old.now.events c.args.plan.now.bends.now count c.args.self.now _
    (record { ran = refl; origins = refl; over = refl; more = c.note.ensures.0; sent = c.note.ensures.1; leaves = refl }) is)
