-- The image in which nothing is kept, in its parts.
use Rattle.std.proofs.Common.{◌≡◌, ◌+◌, ◌++◌, ℕ, true, List, refl, sym, ap, ◌∙◌}
use Rattle.std.proofs.lemmas.List.{append_assoc}
use Rattle.nq_image.specs.Layout.{piece}
use Rattle.nq_image.specs.Nothing.{first_of_nothing}
use Rattle.nq_image.specs.Whole.{has_image_name}
use Rattle.nq_image.specs.Writing.{zeros_of}
use Rattle.nq_image.proofs.Emptying.{zeros-join}

pub in-three : (a b c : ℕ) (first behind : List ℕ) → first ++ (zeros_of (a + (b + c)) ++ behind) ≡ (first ++ zeros_of a)
    ++ (zeros_of b ++ (zeros_of c ++ behind))
in-three a b c first behind =
    ap (λ (z : List ℕ). first ++ (z ++ behind)) (sym (zeros-join a (b + c)))
    ∙ ap (λ (z : List ℕ). first ++ ((zeros_of a ++ z) ++ behind)) (sym (zeros-join b c))
    ∙ ap (λ (z : List ℕ). first ++ z) (append_assoc (zeros_of a) (zeros_of b ++ zeros_of c) behind)
    ∙ ap (λ (z : List ℕ). first ++ (zeros_of a ++ z)) (append_assoc (zeros_of b) (zeros_of c) behind)
    ∙ sym (append_assoc first (zeros_of a) (zeros_of b ++ (zeros_of c ++ behind)))

pub named-so : (behind : List ℕ) → has_image_name (first_of_nothing ++ behind) ≡ true
unfolding piece
named-so behind = refl
