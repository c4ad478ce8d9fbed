use Rattle.std.proofs.Common.{ap, ◌∙◌}
use Rattle.nq_model.specs.protocol.Change.{heads_of}
use Rattle.nq_store.proofs.Rows.{heads-are}
use Rattle.nq_plan.specs.Held.{HeldTables}
use Rattle.nq_store.proofs.Keeping.{told-answer}
use Rattle.nq_store.proofs.store.StoreKeeper.heads.Goals as goal

pub returns-clause-told : goal.returns-clause-told
returns-clause-told g c =
    let store = c.args.self.now in
    told-answer c.tell.result c.heads-heads.result (λ kept. heads_of kept) store.ended (g.D.Disk.told store.disk) store.tables
    (g.D.Disk.may_leave store.disk) c.tell.ensures.sound c.tell.ensures.answer
    (λ bytes is_held. c.heads-heads.ensures ∙ ap (λ (t : HeldTables). t.standing.heads) c.tables.ensures ∙ heads-are bytes store.tables.standing)
