use Rattle.std.proofs.Common.{◌≡◌, true, sym, ap, ◌∙◌}
use Rattle.std.specs.List.{slice_get}
use Rattle.nq_plan.specs.Finding.{blocks_of}
use Rattle.nq_plan.specs.Held.{HeldTables}
use Rattle.nq_store.proofs.Bodies.{block-there, block-told, ended-told}
use Rattle.nq_store.proofs.store.StoreKeeper.block.Goals as goal

pub returns-then-has_ended-clause-told : goal.returns-then-has_ended-clause-told
returns-then-has_ended-clause-told g c =
    let is : c.has_ended.result ≡ true = cc in
    ended-told c.args.self.now.ended (g.D.Disk.told c.args.self.now.disk) _ (sym c.has_ended.ensures.ended ∙ is)

pub returns-in-Some-clause-told : goal.returns-in-Some-clause-told
returns-in-Some-clause-told g c =
    let store = c.args.self.now in
    let here = ap (λ (t : HeldTables). slice_get (blocks_of t.standing c.args.id) c.args.block) (sym c.tables.ensures) ∙ sym c.in-Some.ensures in
    block-told store.ended (g.D.Disk.told store.disk) store.tables (g.D.Disk.may_leave store.disk) c.read_block.result c.args.id c.args.block
    c.in-Some.physical c.has_ended.ensures.sound here c.read_block.ensures.told

pub returns-in-None-clause-told : goal.returns-in-None-clause-told
returns-in-None-clause-told g c =
    let store = c.args.self.now in
    let none = ap (λ (t : HeldTables). slice_get (blocks_of t.standing c.args.id) c.args.block) (sym c.tables.ensures) ∙ sym c.in-None.ensures in
    block-there store.ended (g.D.Disk.told store.disk) store.tables (g.D.Disk.may_leave store.disk) _ c.args.id c.args.block c.has_ended.ensures.sound
    none c.requires
