use Rattle.std.proofs.Common.{ap, ◌∙◌}
use Rattle.nq_model.specs.protocol.Change.{row_of_found}
use Rattle.nq_model.specs.protocol.Kept.{find_file}
use Rattle.nq_plan.specs.Finding.{row_of}
use Rattle.nq_store.proofs.Rows.{row-is}
use Rattle.nq_plan.specs.Held.{HeldTables}
use Rattle.nq_store.proofs.Keeping.{apart-in, told-answer}
use Rattle.nq_store.proofs.store.StoreKeeper.file.Goals as goal

pub returns-clause-told : goal.returns-clause-told
returns-clause-told g c =
    let store = c.args.self.now in
    told-answer c.tell.result c.row-row.result (λ kept. row_of_found (find_file c.args.id kept.files)) store.ended (g.D.Disk.told store.disk)
    store.tables (g.D.Disk.may_leave store.disk) c.tell.ensures.sound c.tell.ensures.answer
    (λ bytes is_held. c.row-row.ensures ∙ ap (λ (t : HeldTables). row_of t.standing c.args.id) c.tables.ensures ∙ row-is bytes store.tables.standing
    (apart-in bytes store.tables is_held) c.args.id)
