use Rattle.std.proofs.Common.{sym, ap, subst, ◌∙◌}
use Rattle.nq_lease.specs.Telling.{Tells, own_rows, told_among, told_rows}
use Rattle.nq_lease.proofs.Telling.{told-of-file}
use Rattle.nq_lease.proofs.evict.notifying.tell_all.Goals as goal

pub returns-in-Others : goal.returns-in-Others
returns-in-Others c =
    subst
    (λ rows. Tells rows c.tell_among.result c.args.xid.now c.tell_among.new.xid c.args.out.now c.tell_among.new.out)
    (ap (told_among c.args.file c.in-Others.host c.in-Others.access) c.rows_of.ensures ∙ told-of-file c.args.file c.in-Others.host c.in-Others.access
    c.args.table.now.rows ∙ sym (ap (λ to. told_rows c.args.file to c.args.table.now.rows) c.in-Others.is))
    c.tell_among.ensures

pub returns-in-Own : goal.returns-in-Own
returns-in-Own c =
    subst
    (λ rows. Tells rows c.tell_own.result c.args.xid.now c.tell_own.new.xid c.args.out.now c.tell_own.new.out)
    (ap own_rows c.row.ensures ∙ sym (ap (λ to. told_rows c.args.file to c.args.table.now.rows) c.in-Own.is))
    c.tell_own.ensures
