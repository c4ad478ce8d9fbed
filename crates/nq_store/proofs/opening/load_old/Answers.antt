use Rattle.std.proofs.Common.{rules, ◌≡◌, Result, Err, sym, ap, subst, ◌∙◌, ⊎_elim}
use Rattle.nq_plan.specs.Held.{HeldTables}
use Rattle.nq_store.specs.Loading.{OpensTables, StaysAs}
use Rattle.nq_store.specs.declared.fault.Fault.{Fault}
use Rattle.nq_store.specs.Storing.{kept_on}
use Rattle.nq_store.proofs.Opened.{kept-same}
use Rattle.nq_store.proofs.Staying.{migrates-stays, stays-right}
use Rattle.nq_store.proofs.Told.{migrated-shut, migrates-opens, opens-as}
use Rattle.nq_store.proofs.opening.load_old.Goals as goal

pub returns-in_err-migrate-clause-told : goal.returns-in_err-migrate-clause-told
returns-in_err-migrate-clause-told g c = λ bytes is old.
    let mid = c.migrate.new.redo.disk in
    let from : c.from_residual.result ≡ Err c.in_err-migrate.field-0.0 = search rules in
    subst (λ (r : Result HeldTables Fault). OpensTables r bytes (g.D.Disk.told mid) (g.D.Disk.may_leave mid)) (sym from)
    (migrates-opens c.in_err-migrate.field-0.0 bytes (g.D.Disk.told mid) (g.D.Disk.may_leave mid) (c.in_err-migrate.ensures.migrates bytes is old))

pub returns-clause-told : goal.returns-clause-told
returns-clause-told g c = λ bytes is old.
    let mid = c.migrate.new.redo.disk in
    let last = c.load_migrated.new.disk in
    let m = c.in_ok-migrate.ensures.migrates bytes is old in
    opens-as c.load_migrated.result bytes m.now (g.D.Disk.told last) (g.D.Disk.may_leave last) m.same
    (c.load_migrated.ensures.told m.now m.told (migrated-shut bytes (g.D.Disk.told mid) (g.D.Disk.may_leave mid) m) m.two)

pub returns-clause-leaves : goal.returns-clause-leaves
returns-clause-leaves g c = λ bytes is old image left.
    let first = c.args.redo.now.disk in
    let mid = c.migrate.new.redo.disk in
    let m = c.in_ok-migrate.ensures.migrates bytes is old in
    ⊎_elim (λ l. c.in_ok-migrate.ensures.leaves bytes is old image l)
    (λ l. ap kept_on (m.alone image (c.load_migrated.ensures.asked.leaves image l)) ∙ kept-same m.now bytes m.same)
    (g.met.D.Disk.parts first mid c.load_migrated.new.disk image c.migrate.ensures.follows c.load_migrated.ensures.asked.follows left)

pub returns-in_err-migrate-clause-stays : goal.returns-in_err-migrate-clause-stays
returns-in_err-migrate-clause-stays g c = λ bytes is old.
    let mid = c.migrate.new.redo.disk in
    let from : c.from_residual.result ≡ Err c.in_err-migrate.field-0.0 = search rules in
    subst (λ (r : Result HeldTables Fault). StaysAs r bytes (g.D.Disk.told mid)) (sym from)
    (migrates-stays c.in_err-migrate.field-0.0 bytes (g.D.Disk.told mid) (g.D.Disk.may_leave mid) (c.in_err-migrate.ensures.migrates bytes is old))

pub returns-clause-stays : goal.returns-clause-stays
returns-clause-stays g c = λ bytes is old.
    let mid = c.migrate.new.redo.disk in
    let last = c.load_migrated.new.disk in
    let m = c.in_ok-migrate.ensures.migrates bytes is old in
    stays-right c.load_migrated.result bytes m.now (g.D.Disk.told last) (g.D.Disk.may_leave last) m.stands.0 m.stands.1
    (c.load_migrated.ensures.told m.now m.told (migrated-shut bytes (g.D.Disk.told mid) (g.D.Disk.may_leave mid) m) m.two)

pub returns-clause-follows : goal.returns-clause-follows
returns-clause-follows g c =
    g.met.D.Disk.follows_on c.args.redo.now.disk c.migrate.new.redo.disk c.load_migrated.new.disk c.migrate.ensures.follows
    c.load_migrated.ensures.asked.follows
