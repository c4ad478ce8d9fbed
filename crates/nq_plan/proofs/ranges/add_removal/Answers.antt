use Rattle.std.proofs.Common.{◌≡◌, ◌+◌, ◌*◌, ◌++◌, ℕ, [], ◌∷◌, ap, ◌∙◌}
use Rattle.nq_image.specs.Writing.{zeros_of}
use Rattle.nq_disk.specs.Ranges.{Range}
use Rattle.nq_plan.specs.Ranges.{id_range, range}
use Rattle.nq_plan.proofs.Joining.{two-ranges}
use Rattle.nq_plan.proofs.ranges.add_removal.Goals as goal

pub returns : goal.returns
unfolding zeros_of
returns c =
    let old = c.args.batch.now in
    let first : ℕ → Range = λ place. range place (zeros_of 96) in
    let same : c.add.new.self ≡ old ++ first (2112 + 96 * c.args.slot) ∷ [] = c.in_ok-add.ensures.added ∙ ap (λ (p : ℕ). old ++ first p ∷ [])
    c.row_place.ensures in
    two-ranges c.add_id.result old c.add.new.self c.add_id.new.batch (first (2112 + 96 * c.args.slot)) (id_range c.args.tables c.args.slot 0) same
    c.add_id.ensures
