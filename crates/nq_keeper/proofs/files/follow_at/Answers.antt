use Rattle.std.proofs.Common.{set, ap, ◌∙◌}
use Rattle.nq_keeper.proofs.Edits.{on-ok, get-index}
use Rattle.nq_model.specs.protocol.Change.{file_of}
use Rattle.nq_keeper.proofs.files.follow_at.Goals as goal

pub returns-clause-ok : goal.returns-clause-ok
returns-clause-ok c =
    on-ok c.follow.result _ _ (λ is f at. ap (set c.args.files.now.items c.args.place) (is ∙ ap (λ g. file_of c.args.row.now g.bodies)
    (c.index_mut-file.ensures.value ∙ get-index c.args.files.now.items c.args.place f _ at))) c.follow.ensures.ok
