use Rattle.std.proofs.Common.{rules, ◌≡◌, true, false, refl, sym, subst, ◌∙◌, inl, inr, ⊎_elim}
use Rattle.nq_plan.specs.Standing.{begins_as_image}
use Rattle.nq_disk.specs.declared.redo.redo.Redo.{Redo}
use Rattle.nq_store.specs.Opening.{disk_of}
use Rattle.nq_store.proofs.Left.{back-given, follows-of}
use Rattle.nq_store.proofs.Staying.{stays-given}
use Rattle.nq_store.proofs.Told.{not-begins, says-given, says-named}
use Rattle.nq_store.proofs.opening.open_record.Goals as goal

pub returns-in-Ok-true-clause-wrong : goal.returns-in-Ok-true-clause-wrong
returns-in-Ok-true-clause-wrong g c =
    let so : c.in-Ok-true.field-0 ≡ true = search rules in
    says-named c.open_named.result (g.D.Disk.told c.args.disk) (g.D.Disk.told c.is_named.new.disk) c.is_named.ensures.asked.same (λ bytes is. sym so
    ∙ c.in-Ok-true.ensures.told bytes is) c.open_named.ensures.wrong

pub returns-in-Ok-false-clause-wrong : goal.returns-in-Ok-false-clause-wrong
returns-in-Ok-false-clause-wrong g c = λ bytes is.
    let so : c.in-Ok-false.field-0 ≡ false = search rules in
    not-begins bytes c.in-Ok-false.field-0 (c.in-Ok-false.ensures.told bytes is) so

pub returns-in-Err-clause-wrong : goal.returns-in-Err-clause-wrong
returns-in-Err-clause-wrong g c =
    says-given (Redo g.row.D.Denot) c.in-Err.fault c.is_named.new.disk c.of.result (g.D.Disk.told c.args.disk) (λ bytes named. named ≡ begins_as_image
    bytes) c.of.ensures c.in-Err.ensures.told

pub returns-in-Ok-true-clause-leaves : goal.returns-in-Ok-true-clause-leaves
returns-in-Ok-true-clause-leaves g c = λ bytes is image left.
    let so : c.in-Ok-true.field-0 ≡ true = search rules in
    let first = c.args.disk in
    let mid = c.is_named.new.disk in
    let held : Redo g.row.D.Denot → g.row.D.Denot = λ redo. redo.disk in
    let last = disk_of held c.open_named.result in
    ⊎_elim (λ l. inl (c.is_named.ensures.asked.leaves image l))
    (λ l. inr (c.open_named.ensures.leaves bytes (c.is_named.ensures.asked.same ∙ is) (sym (c.in-Ok-true.ensures.told bytes is) ∙ so)
    (c.in-Ok-true.ensures.settles bytes is) image l))
    (g.met.D.Disk.parts first mid last image c.is_named.ensures.asked.follows (follows-of held g.D.Disk.follows c.open_named.result mid
    c.open_named.ensures.follows) left)

pub returns-in-Err-clause-leaves : goal.returns-in-Err-clause-leaves
returns-in-Err-clause-leaves g c = λ bytes is image left.
    let first = c.args.disk in
    let mid = c.is_named.new.disk in
    inl (c.is_named.ensures.asked.leaves image (subst (λ (d : g.row.D.Denot). g.D.Disk.leaves first d image) (back-given c.in-Err.fault mid
    c.of.result c.of.ensures) left))

pub returns-in-Ok-true-clause-stays : goal.returns-in-Ok-true-clause-stays
returns-in-Ok-true-clause-stays g c = λ bytes is.
    let so : c.in-Ok-true.field-0 ≡ true = search rules in
    c.open_named.ensures.stays bytes (c.is_named.ensures.asked.same ∙ is) (sym (c.in-Ok-true.ensures.told bytes is) ∙ so)

pub returns-in-Ok-false-clause-stays : goal.returns-in-Ok-false-clause-stays
returns-in-Ok-false-clause-stays g c = λ bytes is. (bytes, c.is_named.ensures.asked.same ∙ is, inl refl)

pub returns-in-Err-clause-stays : goal.returns-in-Err-clause-stays
returns-in-Err-clause-stays g c = λ bytes is.
    stays-given g.D.Disk.told c.in-Err.fault c.is_named.new.disk c.of.result bytes c.of.ensures (c.is_named.ensures.asked.same ∙ is)
