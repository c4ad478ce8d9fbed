-- What an image stands for in which nothing is kept.
use Rattle.std.proofs.Common.{◌≡◌, ℕ, List, Option, Some, Ok, refl, ap, ◌∙◌}
use Rattle.nq_plan.specs.Formatted.{StandsForNothing, TellsNothing}
use Rattle.nq_image.specs.Nothing.{nothing_kept}
use Rattle.nq_keeper.specs.StoredKeeper.{is_within}
use Rattle.nq_store.specs.Storing.{kept_of, kept_on, kept_told}

nothing-within : kept_of (Some (Ok nothing_kept)) ≡ Some nothing_kept
unfolding is_within nothing_kept
nothing-within = refl

pub nothing_on : (bytes : List ℕ) → StandsForNothing bytes → kept_on bytes ≡ Some nothing_kept
unfolding kept_on
nothing_on bytes stands = ap kept_of stands ∙ nothing-within

pub nothing_told : (told : Option (List ℕ)) → TellsNothing told → kept_told told ≡ Some nothing_kept
nothing_told told tells = ap kept_told tells.1 ∙ nothing_on tells.0 tells.2
