use Rattle.std.proofs.Common.{◌≡◌, ℕ, Result, Err, refl, sym, ap, subst, ◌∙◌, inr, rules}
use Rattle.nq_image.specs.Image.{image_one}
use Rattle.nq_image.specs.Seen.{seen_one}
use Rattle.nq_store.proofs.Saying.{right-one, wrong-one}
use Rattle.nq_store.specs.Migrating.{IsFoundIn, IsOldImage, Migrates}
use Rattle.nq_store.specs.Opening.{CountsFault}
use Rattle.nq_store.specs.Storing.{kept_on}
use Rattle.nq_store.specs.declared.fault.Fault.{Fault}
use Rattle.nq_store.proofs.Migrated.{counts-as, migrates-so, on-ok, then-ok, wrong-so}
use Rattle.nq_store.proofs.Zeroing.{through}
use Rattle.nq_store.proofs.migrating.migrate.Goals as goal

pub returns-in_err-image-clause-migrates : goal.returns-in_err-image-clause-migrates
returns-in_err-image-clause-migrates g c = λ bytes told o.
    let is : c.from_residual.result ≡ Err c.in_err-image.field-0.0 = search rules in
    let disk = c.examine.new.disk in
    subst (λ (r : Result (Unit {0}) Fault). Migrates r bytes (g.D.Disk.told disk) (g.D.Disk.may_leave disk)) (sym is)
    (wrong-so c.in_err-image.field-0.0 (image_one bytes) bytes (g.D.Disk.told disk) (g.D.Disk.may_leave disk) (c.in_err-image.ensures.told bytes told
    o.front) (λ place wrong. wrong-one bytes place o.closed o.named o.one wrong) (c.examine.ensures.asked.same ∙ told))

pub returns-in_err-image-clause-leaves : goal.returns-in_err-image-clause-leaves
returns-in_err-image-clause-leaves g c = λ bytes told o image left. ap kept_on (o.alone image (c.examine.ensures.asked.leaves image left))

pub returns-clause-migrates : goal.returns-clause-migrates
returns-clause-migrates g c = λ bytes told o.
    let disk = c.examine.new.disk in
    let found = seen_one c.in_ok-image.image in
    let in_so : IsFoundIn c.in_ok-image.image.boots c.deref.result.now found = record { boots_are = refl; slots_are = sym c.deref.ensures.value } in
    let is : IsOldImage found (g.D.Disk.may_leave disk) bytes = record {
      image = right-one bytes found o.named o.one (c.in_ok-image.ensures.told bytes told o.front);
      closed = o.closed;
      alone = λ i may. o.alone i (c.examine.ensures.asked.leaves i (g.met.D.Disk.leaves_ends c.args.redo.now.disk disk i
          c.examine.ensures.asked.follows (inr may)));
    } in
    migrates-so c.rewrite.result bytes (g.D.Disk.told c.rewrite.new.redo.disk) (g.D.Disk.may_leave c.rewrite.new.redo.disk) (g.D.Disk.faults disk)
    (g.D.Disk.faults c.rewrite.new.redo.disk)
    (on-ok c.rewrite.result _ (λ ok. then-ok c.rewrite.result _ ok c.rewrite.ensures.migrated bytes (c.examine.ensures.asked.same ∙ told) found in_so is))
    c.rewrite.ensures.cause

pub returns-clause-leaves : goal.returns-clause-leaves
returns-clause-leaves g c = λ bytes told o image left.
    let disk = c.examine.new.disk in
    let found = seen_one c.in_ok-image.image in
    let in_so : IsFoundIn c.in_ok-image.image.boots c.deref.result.now found = record { boots_are = refl; slots_are = sym c.deref.ensures.value } in
    let is : IsOldImage found (g.D.Disk.may_leave disk) bytes = record {
      image = right-one bytes found o.named o.one (c.in_ok-image.ensures.told bytes told o.front);
      closed = o.closed;
      alone = λ i may. o.alone i (c.examine.ensures.asked.leaves i (g.met.D.Disk.leaves_ends c.args.redo.now.disk disk i
          c.examine.ensures.asked.follows (inr may)));
    } in
    through (λ i. kept_on i ≡ kept_on bytes) _ _ image
    (g.met.D.Disk.parts c.args.redo.now.disk disk c.rewrite.new.redo.disk image c.examine.ensures.asked.follows c.rewrite.ensures.follows left)
    (λ l. ap kept_on (o.alone image (c.examine.ensures.asked.leaves image l)))
    (λ l. c.rewrite.ensures.leaves bytes (c.examine.ensures.asked.same ∙ told) found in_so is image l)

pub returns-clause-cause : goal.returns-clause-cause
returns-clause-cause g c =
    subst (λ (n : ℕ). CountsFault c.rewrite.result n (g.D.Disk.faults c.rewrite.new.redo.disk)) c.in_ok-image.ensures.cause
    (counts-as c.rewrite.result (g.D.Disk.faults c.examine.new.disk) (g.D.Disk.faults c.rewrite.new.redo.disk) c.rewrite.ensures.cause)

pub returns-in_err-image-clause-follows : goal.returns-in_err-image-clause-follows
returns-in_err-image-clause-follows g c = c.examine.ensures.asked.follows

pub returns-clause-follows : goal.returns-clause-follows
returns-clause-follows g c =
    g.met.D.Disk.follows_on c.args.redo.now.disk c.examine.new.disk c.rewrite.new.redo.disk c.examine.ensures.asked.follows c.rewrite.ensures.follows
