use Rattle.std.proofs.Common.{◌∙◌, ap, sym}
use Rattle.std.specs.Prelude.{option_copied}
use Rattle.nq_stage.proofs.Offered.{unknown_has_body}
use Rattle.nq_stage.proofs.stager.stager.Stager.offer.Goals as goal

pub unreachable-requires : goal.unreachable-requires
unreachable-requires c =
    let s = c.args.self.now in
    let dirty = c.args.dirty.now in
    unknown_has_body s.who s.acknowledged dirty.dirty dirty.push c.in-Some.written
    (sym c.first_unknown.ensures ∙ c.in-Some.is)
    (sym c.get.ensures ∙ ap option_copied c.in_default-get.is)
