-- What is left of events of which the last was dropped.
use Rattle.std.proofs.Common.{◌≡◌, ◌+◌, ◌-◌, List, [], ◌∷◌, ◌++◌, length, take, ap, subst, ◌∙◌, arith, length-append}
use Rattle.std.proofs.Math.Seq.{take-append_seam}

-- what is left of what one was added to, and from which the last was taken
pub dropped : {A : Type 0} (before middle after : List A) (last : A) → middle ≡ before ++ last ∷ [] → after ≡ take (length middle - 1) middle → after ≡ before
dropped before middle after last same is =
    let count : length (before ++ last ∷ []) ≡ length before + 1 = length-append before (last ∷ []) in
    let one : length (before ++ last ∷ []) - 1 ≡ length before = omega (arith, count) in
    let here : after ≡ take (length (before ++ last ∷ []) - 1) (before ++ last ∷ []) = subst (λ m. after ≡ take (length m - 1) m) same is in
    here ∙ ap (λ n. take n (before ++ last ∷ [])) one ∙ take-append_seam before (last ∷ [])
