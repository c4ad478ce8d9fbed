use Rattle.std.proofs.Common.{Some, sym, ap, ◌∙◌}
use Rattle.nq_keeper.proofs.Edits.{got-at}
use Rattle.nq_model.specs.protocol.Change.{row_of_found}
use Rattle.nq_keeper.proofs.files.row_at.Goals as goal

pub returns-in-Some : goal.returns-in-Some
returns-in-Some c =
    ap Some c.row.ensures
    ∙ sym (ap row_of_found (got-at c.args.files.now c.args.place c.in-Some.file.now c.in-Some.ensures.lookup.3.0 c.in-Some.ensures.lookup.1))
