use Rattle.nq_lease.proofs.Marking.{kept-marked}
use Rattle.nq_lease.proofs.table.Table.mark_evicting.Goals as goal

pub invariant_of-self : goal.invariant_of-self
invariant_of-self c =
    rw c.mark.ensures.rows (kept-marked c.args.file c.args.host c.args.access _ _ _ _ _ c.self.invariant c.mark.ensures.capacity)
