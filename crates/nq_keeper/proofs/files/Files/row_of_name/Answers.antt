use Rattle.std.proofs.Common.{sym, ap, ◌∙◌}
use Rattle.nq_keeper.proofs.Naming.{of-named}
use Rattle.nq_model.specs.protocol.Change.{row_of_found}
use Rattle.nq_model.specs.protocol.Kept.{find_file, find_name}
use Rattle.nq_keeper.proofs.files.Files.row_of_name.Goals as goal

pub returns : goal.returns
returns c =
    c.row.ensures
    ∙ ap row_of_found
    (ap (find_file c.in_ok-id.id) (sym c.self.view_is)
    ∙ of-named c.self.inside.names.entries c.self.inside.stored.items c.args.name.now c.in_ok-id.id c.self.invariant.0.apart c.self.invariant.1
    (sym c.in_ok-id.ensures)
    ∙ ap (find_name c.args.name.now) c.self.view_is)
