use Rattle.std.proofs.Common.{rules, ◌≡◌, ℕ, Result, Ok, Err, sym, ap, subst, ◌∙◌}
use Rattle.nq_image.specs.Layout.{piece}
use Rattle.nq_plan.specs.Held.{HeldTables}
use Rattle.nq_store.specs.Loading.{Loads}
use Rattle.nq_store.specs.Telling.{fault_of}
use Rattle.nq_store.specs.declared.fault.Fault.{Fault}
use Rattle.nq_store.proofs.Told.{gives-loads, held-loads, image-loads, parts-read}
use Rattle.nq_store.proofs.Asked.{asked-by, asked-then}
use Rattle.nq_store.proofs.loading.load_behind.Goals as goal

pub returns-in_err-window-clause-told : goal.returns-in_err-window-clause-told
returns-in_err-window-clause-told g c = λ bytes is so.
    let from : c.from_residual.result ≡ Err c.in_err-window.field-0.0 = search rules in
    subst (λ (r : Result HeldTables Fault). Loads r bytes) (sym from) (gives-loads c.in_err-window.field-0.0 _ bytes (c.in_err-window.ensures.told bytes is))

pub returns-in_err-tables-clause-told : goal.returns-in_err-tables-clause-told
returns-in_err-tables-clause-told g c = λ bytes is so.
    let wrong = c.in_err-tables.field-0.0 in
    let from : c.from_residual-in_err-tables.result ≡ Err (fault_of wrong) = search rules in
    let size_is = c.in_ok-size.ensures.told bytes (c.in_ok-window.ensures.asked.same ∙ is) in
    let window_is = c.deref.ensures.value ∙ c.in_ok-window.ensures.told bytes is ∙ ap (λ (p : ℕ). piece p 1052672 bytes) c.block_place.ensures in
    let reads = parts-read bytes c.args.head.now c.args.front.now c.deref.result.now c.in_ok-size.size (Err wrong) so window_is size_is
    c.in_err-tables.ensures in
    subst (λ (r : Result HeldTables Fault). Loads r bytes) (sym from) (image-loads wrong bytes reads)

pub returns-clause-told : goal.returns-clause-told
returns-clause-told g c = λ bytes is so.
    let size_is = c.in_ok-size.ensures.told bytes (c.in_ok-window.ensures.asked.same ∙ is) in
    let window_is = c.deref.ensures.value ∙ c.in_ok-window.ensures.told bytes is ∙ ap (λ (p : ℕ). piece p 1052672 bytes) c.block_place.ensures in
    let reads = parts-read bytes c.args.head.now c.args.front.now c.deref.result.now c.in_ok-size.size (Ok c.in_ok-tables.tables) so window_is size_is
    c.in_ok-tables.ensures in
    held-loads bytes c.in_ok-tables.tables (c.in_ok-size.ensures.bytes bytes (c.in_ok-window.ensures.asked.same ∙ is)) reads

pub returns-in_err-size-clause-asked : goal.returns-in_err-size-clause-asked
returns-in_err-size-clause-asked g c =
    asked-then g.D.Disk.told g.D.Disk.follows g.D.Disk.may_leave g.D.Disk.leaves g.met.D.Disk.follows_on g.met.D.Disk.leaves_ends g.met.D.Disk.parts
    c.args.disk.now c.read_piece.new.disk c.size.new.self
    c.read_piece.ensures.asked
    (asked-by g.D.Disk.told g.D.Disk.follows g.D.Disk.may_leave g.D.Disk.leaves c.read_piece.new.disk c.size.new.self c.size.ensures.same
    c.size.ensures.follows c.size.ensures.leaves)

pub returns-in_err-tables-clause-asked : goal.returns-in_err-tables-clause-asked
returns-in_err-tables-clause-asked g c =
    asked-then g.D.Disk.told g.D.Disk.follows g.D.Disk.may_leave g.D.Disk.leaves g.met.D.Disk.follows_on g.met.D.Disk.leaves_ends g.met.D.Disk.parts
    c.args.disk.now c.read_piece.new.disk c.size.new.self
    c.read_piece.ensures.asked
    (asked-by g.D.Disk.told g.D.Disk.follows g.D.Disk.may_leave g.D.Disk.leaves c.read_piece.new.disk c.size.new.self c.size.ensures.same
    c.size.ensures.follows c.size.ensures.leaves)

pub returns-clause-asked : goal.returns-clause-asked
returns-clause-asked g c =
    asked-then g.D.Disk.told g.D.Disk.follows g.D.Disk.may_leave g.D.Disk.leaves g.met.D.Disk.follows_on g.met.D.Disk.leaves_ends g.met.D.Disk.parts
    c.args.disk.now c.read_piece.new.disk c.size.new.self
    c.read_piece.ensures.asked
    (asked-by g.D.Disk.told g.D.Disk.follows g.D.Disk.may_leave g.D.Disk.leaves c.read_piece.new.disk c.size.new.self c.size.ensures.same
    c.size.ensures.follows c.size.ensures.leaves)
