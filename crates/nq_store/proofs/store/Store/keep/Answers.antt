use Rattle.std.proofs.Common.{true, refl, sym, ap, subst, ◌∙◌, inl, inr}
use Rattle.std.specs.Option.{ForSome}
use Rattle.nq_model.specs.protocol.Change.{Fits, IsChangeWithin}
use Rattle.nq_plan.specs.Held.{HeldTables}
use Rattle.nq_plan.specs.Placing.{IsPlacedFor}
use Rattle.nq_plan.specs.Ranges.{ranges_of}
use Rattle.nq_store.specs.Storing.{IsKeptOn}
use Rattle.nq_store.proofs.Carrying.{asked-in, commits-failed, commits-ok, follows-so, goes-in, leaves-so, stored, tables-in}
use Rattle.nq_store.proofs.Committing.{leaves-then, settles-as, sound-then, told-then, whole-as}
use Rattle.nq_store.proofs.Zeroing.{zeros-are}
use Rattle.nq_store.proofs.store.Store.keep.Goals as goal

pub carry_out-requires-clause-zeros : goal.carry_out-requires-clause-zeros
carry_out-requires-clause-zeros g c = zeros-are _ refl

pub invariant_of-self : goal.invariant_of-self
invariant_of-self g c =
    let store = c.args.self.now in
    let inside = c.self.inside in
    let change = c.args.change.now in
    let placed = c.args.plan.placed in
    let view = stored inside.redo.disk inside.tables inside.ended inside.refused in
    let same = tables-in view store c.self.view_is in
    let is_placed = subst (λ (t : HeldTables). IsPlacedFor t change.file placed) same c.requires.placed in
    let are = c.requires.ranges ∙ ap (λ (t : HeldTables). ranges_of t.standing change placed) same in
    let sound = c.self.invariant.1 (goes-in view store c.self.view_is c.requires.goes_on) in
    let fits = asked-in view store c.self.view_is c.requires.goes_on g.D.Disk.told (λ k. Fits k change) c.requires.fits in
    let own = asked-in view store c.self.view_is c.requires.goes_on g.D.Disk.told (λ k. IsChangeWithin k change) c.requires.within in
    let told = g.D.Disk.told inside.redo.disk in
    let may = g.D.Disk.may_leave inside.redo.disk in
    let disk = c.carry_out.new.redo.disk in
    let settles = settles-as inside.tables change placed may is_placed told sound fits own c.fresh_blocks.result.now c.args.plan.batch
    c.fresh_blocks.ensures are (g.D.Disk.told disk) (g.D.Disk.may_leave disk) c.in-Ok.ensures.settled in (
      c.carry_out.ensures.area,
      λ goes. subst (λ (t : HeldTables). ForSome (g.D.Disk.told disk) (IsKeptOn t (g.D.Disk.may_leave disk))) (sym c.settle.ensures)
          (sound-then inside.tables change placed may is_placed told sound fits own (g.D.Disk.told disk) (g.D.Disk.may_leave disk)
          (g.met.D.Disk.silent inside.redo.disk disk c.carry_out.ensures.follows) settles),
    )

pub returns-in-Ok-clause-commits : goal.returns-in-Ok-clause-commits
returns-in-Ok-clause-commits g c =
    let store = c.args.self.now in
    let inside = c.self.inside in
    let change = c.args.change.now in
    let placed = c.args.plan.placed in
    let view = stored inside.redo.disk inside.tables inside.ended inside.refused in
    let same = tables-in view store c.self.view_is in
    let is_placed = subst (λ (t : HeldTables). IsPlacedFor t change.file placed) same c.requires.placed in
    let are = c.requires.ranges ∙ ap (λ (t : HeldTables). ranges_of t.standing change placed) same in
    let sound = c.self.invariant.1 (goes-in view store c.self.view_is c.requires.goes_on) in
    let fits = asked-in view store c.self.view_is c.requires.goes_on g.D.Disk.told (λ k. Fits k change) c.requires.fits in
    let own = asked-in view store c.self.view_is c.requires.goes_on g.D.Disk.told (λ k. IsChangeWithin k change) c.requires.within in
    let told = g.D.Disk.told inside.redo.disk in
    let may = g.D.Disk.may_leave inside.redo.disk in
    let disk = c.carry_out.new.redo.disk in
    let new = stored disk c.settle.new.self inside.ended inside.refused in
    let settles = settles-as inside.tables change placed may is_placed told sound fits own c.fresh_blocks.result.now c.args.plan.batch
    c.fresh_blocks.ensures are (g.D.Disk.told disk) (g.D.Disk.may_leave disk) c.in-Ok.ensures.settled in
    commits-ok view store c.self.view_is c.requires.goes_on new refl change g.D.Disk.told g.D.Disk.faults refl
    (told-then inside.tables change placed may is_placed told sound fits own (g.D.Disk.told disk) (g.D.Disk.may_leave disk)
    (g.met.D.Disk.silent inside.redo.disk disk c.carry_out.ensures.follows) settles)
    c.in-Ok.ensures.cause

pub returns-in-Ok-clause-leaves : goal.returns-in-Ok-clause-leaves
returns-in-Ok-clause-leaves g c =
    let store = c.args.self.now in
    let inside = c.self.inside in
    let change = c.args.change.now in
    let placed = c.args.plan.placed in
    let view = stored inside.redo.disk inside.tables inside.ended inside.refused in
    let same = tables-in view store c.self.view_is in
    let is_placed = subst (λ (t : HeldTables). IsPlacedFor t change.file placed) same c.requires.placed in
    let are = c.requires.ranges ∙ ap (λ (t : HeldTables). ranges_of t.standing change placed) same in
    let sound = c.self.invariant.1 (goes-in view store c.self.view_is c.requires.goes_on) in
    let fits = asked-in view store c.self.view_is c.requires.goes_on g.D.Disk.told (λ k. Fits k change) c.requires.fits in
    let own = asked-in view store c.self.view_is c.requires.goes_on g.D.Disk.told (λ k. IsChangeWithin k change) c.requires.within in
    let told = g.D.Disk.told inside.redo.disk in
    let may = g.D.Disk.may_leave inside.redo.disk in
    let disk = c.carry_out.new.redo.disk in
    let new = stored disk c.settle.new.self inside.ended inside.refused in
    let leaves = g.D.Disk.leaves inside.redo.disk disk in
    leaves-so view store c.self.view_is c.requires.goes_on new refl change g.D.Disk.told g.D.Disk.leaves
    (leaves-then inside.tables change placed may is_placed told sound fits own leaves
    (whole-as inside.tables change placed may is_placed told sound fits own c.fresh_blocks.result.now c.args.plan.batch c.fresh_blocks.ensures are
    leaves c.carry_out.ensures.whole))

pub returns-in-Ok-clause-follows : goal.returns-in-Ok-clause-follows
returns-in-Ok-clause-follows g c =
    let inside = c.self.inside in
    let view = stored inside.redo.disk inside.tables inside.ended inside.refused in
    let new = stored c.carry_out.new.redo.disk c.settle.new.self inside.ended inside.refused in
    follows-so view c.args.self.now c.self.view_is c.requires.goes_on new refl g.D.Disk.faults g.D.Disk.follows (inl refl) c.carry_out.ensures.follows

pub returns-clause-follows : goal.returns-clause-follows
returns-clause-follows g c =
    let inside = c.self.inside in
    let view = stored inside.redo.disk inside.tables inside.ended inside.refused in
    let new = stored c.carry_out.new.redo.disk inside.tables true inside.refused in
    follows-so view c.args.self.now c.self.view_is c.requires.goes_on new refl g.D.Disk.faults g.D.Disk.follows (inr c.in-Err-Failed.ensures.cause)
    c.carry_out.ensures.follows

pub returns-clause-commits : goal.returns-clause-commits
returns-clause-commits g c =
    let store = c.args.self.now in
    let inside = c.self.inside in
    let view = stored inside.redo.disk inside.tables inside.ended inside.refused in
    let new = stored c.carry_out.new.redo.disk inside.tables true inside.refused in
    commits-failed view store c.self.view_is c.requires.goes_on new refl c.args.change.now g.D.Disk.told g.D.Disk.faults refl c.in-Err-Failed.ensures.cause

pub returns-clause-leaves : goal.returns-clause-leaves
returns-clause-leaves g c =
    let store = c.args.self.now in
    let inside = c.self.inside in
    let change = c.args.change.now in
    let placed = c.args.plan.placed in
    let view = stored inside.redo.disk inside.tables inside.ended inside.refused in
    let same = tables-in view store c.self.view_is in
    let is_placed = subst (λ (t : HeldTables). IsPlacedFor t change.file placed) same c.requires.placed in
    let are = c.requires.ranges ∙ ap (λ (t : HeldTables). ranges_of t.standing change placed) same in
    let sound = c.self.invariant.1 (goes-in view store c.self.view_is c.requires.goes_on) in
    let fits = asked-in view store c.self.view_is c.requires.goes_on g.D.Disk.told (λ k. Fits k change) c.requires.fits in
    let own = asked-in view store c.self.view_is c.requires.goes_on g.D.Disk.told (λ k. IsChangeWithin k change) c.requires.within in
    let told = g.D.Disk.told inside.redo.disk in
    let may = g.D.Disk.may_leave inside.redo.disk in
    let disk = c.carry_out.new.redo.disk in
    let new = stored disk inside.tables true inside.refused in
    let leaves = g.D.Disk.leaves inside.redo.disk disk in
    leaves-so view store c.self.view_is c.requires.goes_on new refl change g.D.Disk.told g.D.Disk.leaves
    (leaves-then inside.tables change placed may is_placed told sound fits own leaves
    (whole-as inside.tables change placed may is_placed told sound fits own c.fresh_blocks.result.now c.args.plan.batch c.fresh_blocks.ensures are
    leaves c.carry_out.ensures.whole))
