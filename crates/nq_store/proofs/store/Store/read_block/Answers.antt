use Rattle.std.proofs.Common.{◌≡◌, ◌≤◌, ◌+◌, length, refl, inl, inr}
use Rattle.std.specs.Prelude.{IfOk}
use Rattle.nq_image.specs.Kept.{body_in}
use Rattle.nq_image.specs.Layout.{block_place}
use Rattle.nq_store.proofs.Carrying.{follows-so, leaves-in, reads-so, sound-in, stored, told-at}
use Rattle.nq_store.proofs.Keeping.{leaves-same, sound-still}
use Rattle.nq_store.proofs.store.Store.read_block.Goals as goal

pub returns-clause-told : goal.returns-clause-told
returns-clause-told g c =
    told-at g.D.Disk.told (λ bytes. block_place c.args.block + 4096 ≤ length bytes → IfOk c.read_body.result (λ body. body ≡ body_in bytes
    c.args.block)) _ c.args.self.now c.self.view_is c.read_body.ensures.body

pub returns-clause-sound : goal.returns-clause-sound
returns-clause-sound g c = sound-in g.D.Disk.told g.D.Disk.may_leave _ c.args.self.now c.self.view_is c.self.invariant.1

pub returns-clause-reads : goal.returns-clause-reads
returns-clause-reads g c =
    let inside = c.self.inside in
    reads-so _ c.args.self.now c.self.view_is c.requires (stored c.read_body.new.disk inside.tables inside.ended inside.refused) refl _
    c.read_body.result g.D.Disk.told g.D.Disk.faults refl c.read_body.ensures.asked.same c.read_body.ensures.cause

pub returns-clause-follows : goal.returns-clause-follows
returns-clause-follows g c =
    let inside = c.self.inside in
    follows-so _ c.args.self.now c.self.view_is c.requires (stored c.read_body.new.disk inside.tables inside.ended inside.refused) refl
    g.D.Disk.faults g.D.Disk.follows (inl refl) c.read_body.ensures.asked.follows

pub returns-clause-leaves : goal.returns-clause-leaves
returns-clause-leaves g c =
    let inside = c.self.inside in
    leaves-in g.D.Disk.told g.D.Disk.leaves _ c.args.self.now c.read_body.new.disk c.self.view_is
    (leaves-same inside.ended (g.D.Disk.told inside.redo.disk) inside.tables (g.D.Disk.may_leave inside.redo.disk) (g.D.Disk.leaves inside.redo.disk
    c.read_body.new.disk) c.self.invariant.1 c.read_body.ensures.asked.leaves)

pub invariant_of-self : goal.invariant_of-self
invariant_of-self g c =
    let inside = c.self.inside in (
      c.self.invariant.0,
      sound-still inside.ended (g.D.Disk.told inside.redo.disk) (g.D.Disk.told c.read_body.new.disk) inside.tables
          (g.D.Disk.may_leave inside.redo.disk) (g.D.Disk.may_leave c.read_body.new.disk) c.self.invariant.1 c.read_body.ensures.asked.same
          (λ image left. c.read_body.ensures.asked.leaves image (g.met.D.Disk.leaves_ends inside.redo.disk c.read_body.new.disk image
          c.read_body.ensures.asked.follows (inr left))),
    )
