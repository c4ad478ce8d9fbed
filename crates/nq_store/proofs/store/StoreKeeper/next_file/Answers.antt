use Rattle.std.proofs.Common.{ap, ◌∙◌}
use Rattle.nq_model.specs.protocol.Change.{file_after, row_of_found}
use Rattle.nq_plan.specs.Finding.{row_behind}
use Rattle.nq_store.proofs.Rows.{behind-is}
use Rattle.nq_plan.specs.Held.{HeldTables}
use Rattle.nq_store.proofs.Keeping.{apart-in, told-answer}
use Rattle.nq_store.proofs.store.StoreKeeper.next_file.Goals as goal

pub returns-clause-told : goal.returns-clause-told
returns-clause-told g c =
    let store = c.args.self.now in
    told-answer c.tell.result c.row_behind-row.result (λ kept. row_of_found (file_after c.args.after kept.files)) store.ended
    (g.D.Disk.told store.disk) store.tables (g.D.Disk.may_leave store.disk) c.tell.ensures.sound c.tell.ensures.answer
    (λ bytes is_held. c.row_behind-row.ensures ∙ ap (λ (t : HeldTables). row_behind t.standing c.args.after) c.tables.ensures
    ∙ behind-is bytes store.tables.standing (apart-in bytes store.tables is_held) c.args.after)
