use Rattle.std.proofs.Common.{ap, ◌∙◌}
use Rattle.nq_model.specs.protocol.Change.{space_of}
use Rattle.nq_image.specs.Standing.{row_blocks}
use Rattle.std.specs.Prelude.{count_by, is_some, length, sum_by}
use Rattle.nq_store.specs.Storing.{answered}
use Rattle.nq_store.proofs.Rows.{space-in, space-is}
use Rattle.nq_plan.specs.Held.{HeldTables}
use Rattle.nq_store.proofs.Keeping.{told-answer}
use Rattle.nq_store.proofs.store.StoreKeeper.space.Goals as goal

pub returns-clause-told : goal.returns-clause-told
returns-clause-told g c =
    let store = c.args.self.now in
    told-answer c.tell.result c.space-space.result (λ kept. space_of kept) store.ended (g.D.Disk.told store.disk) store.tables
    (g.D.Disk.may_leave store.disk) c.tell.ensures.sound c.tell.ensures.answer
    (λ bytes is_held. space-is bytes store.tables.standing c.space-space.result
    (c.space-space.ensures.files ∙ ap (λ (t : HeldTables). count_by (λ row. is_some row) t.standing.rows) c.tables.ensures)
    (c.space-space.ensures.blocks ∙ ap (λ (t : HeldTables). sum_by (λ row. length (row_blocks row)) t.standing.rows) c.tables.ensures))

pub returns-clause-answer : goal.returns-clause-answer
returns-clause-answer g c =
    let store = c.args.self.now in
    c.tell.ensures.answer
    ∙ ap (answered store.ended) (space-in store.tables.standing c.space-space.result
    (c.space-space.ensures.files ∙ ap (λ (t : HeldTables). count_by (λ row. is_some row) t.standing.rows) c.tables.ensures)
    (c.space-space.ensures.blocks ∙ ap (λ (t : HeldTables). sum_by (λ row. length (row_blocks row)) t.standing.rows) c.tables.ensures))
