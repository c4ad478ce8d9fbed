use Rattle.std.proofs.Common.{ap, ◌∙◌}
use Rattle.std.specs.Prelude.{slice_index_or}
use Rattle.nq_model.specs.protocol.Kept.{fresh_row, host_row}
use Rattle.nq_store.proofs.Rows.{host-is}
use Rattle.nq_plan.specs.Held.{HeldTables}
use Rattle.nq_store.proofs.Keeping.{told-answer}
use Rattle.nq_store.proofs.store.StoreKeeper.host.Goals as goal

pub returns-clause-told : goal.returns-clause-told
returns-clause-told g c =
    let store = c.args.self.now in
    told-answer c.tell.result c.host-row.result (λ kept. host_row kept c.args.host) store.ended (g.D.Disk.told store.disk) store.tables
    (g.D.Disk.may_leave store.disk) c.tell.ensures.sound c.tell.ensures.answer
    (λ bytes is_held. c.host-row.ensures ∙ ap (λ (t : HeldTables). slice_index_or t.standing.hosts c.args.host fresh_row) c.tables.ensures
    ∙ host-is bytes store.tables.standing c.args.host)
