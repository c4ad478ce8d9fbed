-- What is kept on a disk on which nothing is kept is what an empty keeper keeps.
use Rattle.std.proofs.Common.{◌≡◌, ℕ, List, Option, Some, refl, ap, ◌∙◌}
use Rattle.nq_plan.specs.Formatted.{TellsNothing}
use Rattle.nq_image.specs.Nothing.{nothing_kept}
use Rattle.nq_keeper.specs.StoredKeeper.{empty_kept}
use Rattle.nq_model.specs.protocol.Kept.{Kept}
use Rattle.nq_store.proofs.Emptied.{nothing_told}
use Rattle.nq_store.specs.Storing.{kept_told}

same_nothing : nothing_kept ≡ empty_kept
unfolding nothing_kept
same_nothing = refl

pub told_nothing : (told : Option (List ℕ)) → TellsNothing told → kept_told told ≡ Some empty_kept
told_nothing told tells = nothing_told told tells ∙ ap (λ (kept : Kept). Some kept) same_nothing
