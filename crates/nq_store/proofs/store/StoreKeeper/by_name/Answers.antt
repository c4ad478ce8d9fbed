use Rattle.std.proofs.Common.{ap, ◌∙◌}
use Rattle.nq_model.specs.protocol.Change.{row_of_found}
use Rattle.nq_model.specs.protocol.Kept.{find_name}
use Rattle.nq_plan.specs.Finding.{row_named}
use Rattle.nq_store.proofs.Rows.{named-is}
use Rattle.nq_plan.specs.Held.{HeldTables}
use Rattle.nq_store.proofs.Keeping.{apart-in, told-answer}
use Rattle.nq_store.proofs.store.StoreKeeper.by_name.Goals as goal

pub returns-clause-told : goal.returns-clause-told
returns-clause-told g c =
    let store = c.args.self.now in
    told-answer c.tell.result c.row_named-row.result (λ kept. row_of_found (find_name c.args.name.now kept.files)) store.ended
    (g.D.Disk.told store.disk) store.tables (g.D.Disk.may_leave store.disk) c.tell.ensures.sound c.tell.ensures.answer
    (λ bytes is_held. c.row_named-row.ensures ∙ ap (λ (t : HeldTables). row_named t.standing c.args.name.now) c.tables.ensures
    ∙ named-is bytes store.tables.standing (apart-in bytes store.tables is_held) c.args.name.now)
