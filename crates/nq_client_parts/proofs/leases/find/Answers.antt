use Rattle.std.proofs.Common.{sym, ◌∙◌, ap}
use Rattle.std.specs.Option.{option_map}
use Rattle.nq_client_parts.proofs.Places.{found-place}
use Rattle.nq_client_parts.specs.Leases.{lease_in}
use Rattle.nq_model.specs.protocol.Client.{file_of_lease}
use Rattle.nq_client_parts.proofs.leases.find.Goals as goal

pub returns : goal.returns
returns c =
    ap (option_map lease_in) c.at.ensures
    ∙ sym (found-place file_of_lease lease_in c.args.file c.args.rows.now c.place_of.result c.requires c.place_of.ensures)
