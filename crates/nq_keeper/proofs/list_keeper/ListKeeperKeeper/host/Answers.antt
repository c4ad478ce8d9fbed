use Rattle.std.proofs.Common.{ap, ◌∙◌}
use Rattle.std.specs.Prelude.{slice_get, unwrap_or}
use Rattle.nq_keeper.proofs.Calling.{tells}
use Rattle.nq_model.specs.protocol.Change.{kept_as}
use Rattle.nq_model.specs.protocol.Kept.{fresh_row, host_row}
use Rattle.nq_keeper.proofs.list_keeper.ListKeeperKeeper.host.Goals as goal

pub returns-clause-told : goal.returns-clause-told
unfolding kept_as
returns-clause-told c =
    tells c.args.self.now (kept_as c.self.inside.files c.self.inside.hosts.items c.self.inside.heads) c.self.inside.calls
    (λ kept. host_row kept c.args.host) c.row_of-found.result c.answered.result c.self.view_is c.self.invariant (c.row_of-found.ensures
    ∙ ap (λ rows. unwrap_or (slice_get rows c.args.host) fresh_row) c.as_slice.ensures.value) c.answered.ensures.answer
