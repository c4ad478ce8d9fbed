use Rattle.nq_bend.proofs.Going.{out-on}
use Rattle.nq_bend.proofs.course.Course.leave.Goals as goal

pub returns-clause-goes : goal.returns-clause-goes
returns-clause-goes c = λ head old bends here is.
    out-on head old bends (record { event = c.args.event; packet = c.args.packet; why = c.args.why }) c.args.self.now _ here c.in_ok-leave_out.ensures is
