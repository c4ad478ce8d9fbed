use Rattle.std.proofs.Common.{rules, ◌≡◌, Result, Err, sym, ap, subst, ◌∙◌, inr, ⊎_elim, arith}
use Rattle.nq_plan.specs.Held.{HeldTables}
use Rattle.nq_store.specs.Loading.{OpensTables}
use Rattle.nq_store.specs.declared.fault.Fault.{Fault}
use Rattle.nq_store.specs.Storing.{kept_on}
use Rattle.nq_store.proofs.Staying.{stays-told}
use Rattle.nq_store.proofs.Told.{gives-opens, shut-still}
use Rattle.nq_store.proofs.opening.open_tables.Goals as goal

pub returns-in_err-head-clause-told : goal.returns-in_err-head-clause-told
returns-in_err-head-clause-told g c = λ bytes is shut.
    let mid = c.read_head.new.disk in
    let long = shut.closed.long in
    let from : c.from_residual.result ≡ Err c.in_err-head.field-0.0 = search rules in
    subst (λ (r : Result HeldTables Fault). OpensTables r bytes (g.D.Disk.told mid) (g.D.Disk.may_leave mid)) (sym from)
    (gives-opens c.in_err-head.field-0.0 _ bytes (g.D.Disk.told mid) (g.D.Disk.may_leave mid) (c.in_err-head.ensures.told bytes is (omega (arith, long))))

pub returns-clause-told : goal.returns-clause-told
returns-clause-told g c = λ bytes is shut.
    let first = c.args.redo.now.disk in
    let mid = c.read_head.new.disk in
    let long = shut.closed.long in
    let head_is = c.in_ok-head.ensures.told bytes is (omega (arith, long)) in
    let still = shut-still (g.D.Disk.may_leave first) (g.D.Disk.may_leave mid) bytes shut
    (λ image left. c.read_head.ensures.asked.leaves image (g.met.D.Disk.leaves_ends first mid image c.read_head.ensures.asked.follows (inr left))) in
    c.load_any.ensures.told bytes (c.read_head.ensures.asked.same ∙ is) still (c.deref.ensures.value ∙ head_is)

pub returns-in_err-head-clause-leaves : goal.returns-in_err-head-clause-leaves
returns-in_err-head-clause-leaves g c = λ bytes is shut image left. ap kept_on (shut.alone image (c.read_head.ensures.asked.leaves image left))

pub returns-clause-leaves : goal.returns-clause-leaves
returns-clause-leaves g c = λ bytes is shut image left.
    let first = c.args.redo.now.disk in
    let mid = c.read_head.new.disk in
    let long = shut.closed.long in
    let head_is = c.in_ok-head.ensures.told bytes is (omega (arith, long)) in
    let still = shut-still (g.D.Disk.may_leave first) (g.D.Disk.may_leave mid) bytes shut
    (λ i there. c.read_head.ensures.asked.leaves i (g.met.D.Disk.leaves_ends first mid i c.read_head.ensures.asked.follows (inr there))) in
    ⊎_elim (λ l. ap kept_on (shut.alone image (c.read_head.ensures.asked.leaves image l)))
    (λ l. c.load_any.ensures.leaves bytes (c.read_head.ensures.asked.same ∙ is) still (c.deref.ensures.value ∙ head_is) image l)
    (g.met.D.Disk.parts first mid c.load_any.new.redo.disk image c.read_head.ensures.asked.follows c.load_any.ensures.follows left)

pub returns-in_err-head-clause-stays : goal.returns-in_err-head-clause-stays
returns-in_err-head-clause-stays g c = λ bytes is shut.
    stays-told c.from_residual.result bytes (g.D.Disk.told c.read_head.new.disk) (c.read_head.ensures.asked.same ∙ is)

pub returns-clause-stays : goal.returns-clause-stays
returns-clause-stays g c = λ bytes is shut.
    let first = c.args.redo.now.disk in
    let mid = c.read_head.new.disk in
    let long = shut.closed.long in
    let head_is = c.in_ok-head.ensures.told bytes is (omega (arith, long)) in
    let still = shut-still (g.D.Disk.may_leave first) (g.D.Disk.may_leave mid) bytes shut
    (λ image left. c.read_head.ensures.asked.leaves image (g.met.D.Disk.leaves_ends first mid image c.read_head.ensures.asked.follows (inr left))) in
    c.load_any.ensures.stays bytes (c.read_head.ensures.asked.same ∙ is) still (c.deref.ensures.value ∙ head_is)

pub returns-in_err-head-clause-follows : goal.returns-in_err-head-clause-follows
returns-in_err-head-clause-follows g c = c.read_head.ensures.asked.follows

pub returns-clause-follows : goal.returns-clause-follows
returns-clause-follows g c =
    g.met.D.Disk.follows_on c.args.redo.now.disk c.read_head.new.disk c.load_any.new.redo.disk c.read_head.ensures.asked.follows c.load_any.ensures.follows
