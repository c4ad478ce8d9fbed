use Rattle.std.proofs.Common.{rules, ◌≡◌, Some, None, sym, ap, ◌∙◌}
use Rattle.nq_image.specs.declared.Version.{Version}
use Rattle.nq_store.specs.Storing.{kept_on}
use Rattle.nq_store.proofs.Staying.{stays-told}
use Rattle.nq_store.proofs.Told.{new-head, no-image, old-head}
use Rattle.nq_store.proofs.opening.load_any.Goals as goal

pub returns-in-None-clause-told : goal.returns-in-None-clause-told
returns-in-None-clause-told g c = λ bytes is shut head.
    let none : c.version_in.result ≡ None = search rules in
    no-image (g.D.Disk.may_leave c.args.redo.now.disk) bytes c.args.head.now shut head (sym c.version_in.ensures ∙ none)

pub returns-in-Some-Two-clause-told : goal.returns-in-Some-Two-clause-told
returns-in-Some-Two-clause-told g c = λ bytes is shut head.
    let two : c.version_in.result ≡ Some Version.Two = search rules in
    c.load.ensures.told bytes is shut (new-head (g.D.Disk.may_leave c.args.redo.now.disk) bytes c.args.head.now shut head (sym c.version_in.ensures ∙ two))

pub returns-in-Some-One-clause-told : goal.returns-in-Some-One-clause-told
returns-in-Some-One-clause-told g c = λ bytes is shut head.
    let one : c.version_in.result ≡ Some Version.One = search rules in
    c.load_old.ensures.told bytes is (old-head (g.D.Disk.may_leave c.args.redo.now.disk) bytes c.args.head.now shut head (sym c.version_in.ensures ∙ one))

pub returns-in-None-clause-leaves : goal.returns-in-None-clause-leaves
returns-in-None-clause-leaves g c = λ bytes is shut head image left. ap kept_on (shut.alone image (g.met.D.Disk.leaves_now c.args.redo.now.disk image left))

pub returns-in-Some-Two-clause-leaves : goal.returns-in-Some-Two-clause-leaves
returns-in-Some-Two-clause-leaves g c = λ bytes is shut head image left. ap kept_on (shut.alone image (c.load.ensures.asked.leaves image left))

pub returns-in-Some-One-clause-leaves : goal.returns-in-Some-One-clause-leaves
returns-in-Some-One-clause-leaves g c = λ bytes is shut head.
    let one : c.version_in.result ≡ Some Version.One = search rules in
    c.load_old.ensures.leaves bytes is (old-head (g.D.Disk.may_leave c.args.redo.now.disk) bytes c.args.head.now shut head (sym c.version_in.ensures ∙ one))

pub returns-in-Some-Two-clause-stays : goal.returns-in-Some-Two-clause-stays
returns-in-Some-Two-clause-stays g c = λ bytes is shut head. stays-told c.load.result bytes (g.D.Disk.told c.load.new.disk) (c.load.ensures.asked.same ∙ is)

pub returns-in-Some-One-clause-stays : goal.returns-in-Some-One-clause-stays
returns-in-Some-One-clause-stays g c = λ bytes is shut head.
    let one : c.version_in.result ≡ Some Version.One = search rules in
    c.load_old.ensures.stays bytes is (old-head (g.D.Disk.may_leave c.args.redo.now.disk) bytes c.args.head.now shut head (sym c.version_in.ensures ∙ one))

pub returns-in-Some-Two-clause-follows : goal.returns-in-Some-Two-clause-follows
returns-in-Some-Two-clause-follows g c = c.load.ensures.asked.follows
