use Rattle.std.proofs.Common.{◌∙◌, refl}
use Rattle.std.specs.List.{slice_get}
use Rattle.nq_directory.proofs.Order.{found-at}
use Rattle.nq_directory.proofs.names.file_named.Goals as goal

pub returns : goal.returns
returns c =
    c.file_at.ensures
    ∙ found-at c.args.name.now c.args.names.now c.place_of.result (slice_get c.args.names.now c.place_of.result) c.requires c.place_of.ensures refl
