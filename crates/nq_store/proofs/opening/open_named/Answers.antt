use Rattle.std.proofs.Common.{◌≡◌, true, Err, ap, ◌∙◌, arith}
use Rattle.nq_plan.specs.Standing.{begins_as_image}
use Rattle.nq_disk.specs.Opens.{disk_in}
use Rattle.nq_store.proofs.Left.{left-named, left-same}
use Rattle.nq_store.proofs.Staying.{stays-named}
use Rattle.nq_store.proofs.Told.{begins-long, shut-as, wrong-opened}
use Rattle.nq_store.proofs.opening.open_named.Goals as goal

pub returns-in-Ok-clause-shut : goal.returns-in-Ok-clause-shut
returns-in-Ok-clause-shut g c = λ bytes is begins.
    let long = begins-long bytes begins in
    shut-as bytes (g.D.Disk.told c.in-Ok.redo.disk) (g.D.Disk.may_leave c.in-Ok.redo.disk) begins (c.in-Ok.ensures.again bytes is)
    (c.in-Ok.ensures.opens bytes is (omega (arith, long)))

pub returns-in-Err-BadField-clause-wrong : goal.returns-in-Err-BadField-clause-wrong
returns-in-Err-BadField-clause-wrong g c = λ bytes is begins other at.
    let same : bytes ≡ other = cc in
    let begins_too : begins_as_image other ≡ true = cc in
    let long = begins-long other begins_too in
    let back = disk_in c.open.result in
    wrong-opened c.open.result c.in-Err-BadField.disk c.in-Err-BadField.place other (g.D.Disk.told back) (g.D.Disk.may_leave back)
    (c.in-Err-BadField.is ∙ ap Err c.in-Err-BadField.field-0-is) begins_too (c.open.ensures.opens other at (omega (arith, long)))

pub returns-in-Ok-clause-leaves : goal.returns-in-Ok-clause-leaves
returns-in-Ok-clause-leaves g c = λ bytes is begins only.
    let long = begins-long bytes begins in
    left-same (g.D.Disk.may_leave c.args.disk) (g.D.Disk.leaves c.args.disk c.in-Ok.redo.disk) bytes begins only (c.in-Ok.ensures.leaves bytes is
    (omega (arith, long)))

pub returns-in-Err-BadField-clause-leaves : goal.returns-in-Err-BadField-clause-leaves
returns-in-Err-BadField-clause-leaves g c = λ bytes is begins only.
    let long = begins-long bytes begins in
    left-named (g.D.Disk.leaves c.args.disk) c.open.result c.in-Err-BadField.field-0 _ (g.D.Disk.may_leave c.args.disk) bytes c.in-Err-BadField.is
    c.in-Err-BadField.field-0-is begins only (c.open.ensures.leaves bytes is (omega (arith, long)))

pub returns-in-Err-Failed-clause-leaves : goal.returns-in-Err-Failed-clause-leaves
returns-in-Err-Failed-clause-leaves g c = λ bytes is begins only.
    let long = begins-long bytes begins in
    left-named (g.D.Disk.leaves c.args.disk) c.open.result c.in-Err-Failed.field-0 _ (g.D.Disk.may_leave c.args.disk) bytes c.in-Err-Failed.is
    c.in-Err-Failed.field-0-is begins only (c.open.ensures.leaves bytes is (omega (arith, long)))

pub returns-in-Err-Memory-clause-leaves : goal.returns-in-Err-Memory-clause-leaves
returns-in-Err-Memory-clause-leaves g c = λ bytes is begins only.
    let long = begins-long bytes begins in
    left-named (g.D.Disk.leaves c.args.disk) c.open.result c.in-Err-Memory.field-0 _ (g.D.Disk.may_leave c.args.disk) bytes c.in-Err-Memory.is
    c.in-Err-Memory.field-0-is begins only (c.open.ensures.leaves bytes is (omega (arith, long)))

pub returns-in-Err-BadField-clause-stays : goal.returns-in-Err-BadField-clause-stays
returns-in-Err-BadField-clause-stays g c = λ bytes is begins.
    let long = begins-long bytes begins in
    stays-named g.D.Disk.told g.D.Disk.may_leave c.open.result c.in-Err-BadField.disk c.in-Err-BadField.place bytes
    (c.in-Err-BadField.is ∙ ap Err c.in-Err-BadField.field-0-is) (c.open.ensures.opens bytes is (omega (arith, long)))
