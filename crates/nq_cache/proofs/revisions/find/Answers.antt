use Rattle.std.proofs.Common.{sym, ◌∙◌, ap}
use Rattle.std.specs.Option.{option_map}
use Rattle.nq_cache.specs.Revisions.{revision}
use Rattle.nq_cache.proofs.Places.{revision_of-place}
use Rattle.nq_cache.proofs.revisions.find.Goals as goal

pub returns : goal.returns
returns c =
    ap (option_map revision) c.at.ensures
    ∙ sym (revision_of-place c.args.file c.args.known.now c.place_of.result c.requires c.place_of.ensures)
