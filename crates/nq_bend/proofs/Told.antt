-- Each event of the old run is kept or left out.
use Rattle.std.proofs.Common.{◌≡◌, ◌<◌, ◌⊎◌, inl, inr, ℕ, ◌+◌, List, [], ◌∷◌, ◌++◌, length, zero, suc, slice_get, Option, Some, refl, sym, ap, subst, ◌∙◌}
use Rattle.std.proofs.Common.{arith}
use Rattle.std.proofs.lemmas.Option.{slice_get_within}
use Rattle.nq_bend.proofs.Events.{get-before}
use Rattle.nq_bend.specs.Bending.{IsTold, TellsAll}
use Rattle.nq_bend.specs.declared.bends.LeftOut.{LeftOut}

still : {X : Type 0} (xs more : List X) (k : ℕ) (x : X) → slice_get xs k ≡ Some x → slice_get (xs ++ more) k ≡ Some x
still xs more k x is = get-before xs more k (slice_get_within xs k x is) ∙ is

get-last : {X : Type 0} (xs : List X) (x : X) → slice_get (xs ++ x ∷ []) (length xs) ≡ Some x
get-last [] x = refl
get-last (y ∷ xs) x = get-last xs x

suc-or : (n k : ℕ) → (k < n) ⊎ (k ≡ n) → (suc k < suc n) ⊎ (suc k ≡ suc n)
suc-or n k (inl less) = inl (omega arith)
suc-or n k (inr is) = inr (ap suc is)

next-or : (n k : ℕ) → k < n + 1 → (k < n) ⊎ (k ≡ n)
next-or zero zero less = inr refl
next-or zero (suc k) less = absurd (omega arith)
next-or (suc n) zero less = inl (omega arith)
next-or (suc n) (suc k) less = suc-or n k (next-or n k (omega arith))

beside-one : (origins : List (Option ℕ)) (origin : Option ℕ) (left : List LeftOut) (place : ℕ) → IsTold origins left place
    → IsTold (origins ++ origin ∷ []) left place
beside-one origins origin left place (inl kept) = inl (kept.0, still origins (origin ∷ []) kept.0 (Some place) kept.1)
beside-one origins origin left place (inr gone) = inr gone

left-one : (origins : List (Option ℕ)) (left : List LeftOut) (out : LeftOut) (place : ℕ) → IsTold origins left place
    → IsTold origins (left ++ out ∷ []) place
left-one origins left out place (inl kept) = inl kept
left-one origins left out place (inr gone) = inr (gone.0, gone.1, still left (out ∷ []) gone.0 gone.1 gone.2, gone.3)

along-one : (origins : List (Option ℕ)) (left : List LeftOut) (count place : ℕ) → TellsAll count origins left → (place < count) ⊎ (place ≡ count)
    → IsTold (origins ++ Some count ∷ []) left place
along-one origins left count place told (inl less) = beside-one origins (Some count) left place (told place less)
along-one origins left count place told (inr is) =
    inl (length origins, subst (λ p. slice_get (origins ++ Some count ∷ []) (length origins) ≡ Some (Some p)) (sym is) (get-last origins (Some count)))

out-one : (origins : List (Option ℕ)) (left : List LeftOut) (out : LeftOut) (place : ℕ) → TellsAll out.event origins left
    → (place < out.event) ⊎ (place ≡ out.event) → IsTold origins (left ++ out ∷ []) place
out-one origins left out place told (inl less) = left-one origins left out place (told place less)
out-one origins left out place told (inr is) = inr (length left, out, get-last left out, sym is)

-- an event that is not of the old run
pub told-beside : (origins : List (Option ℕ)) (origin : Option ℕ) (left : List LeftOut) (count : ℕ) → TellsAll count origins left
    → TellsAll count (origins ++ origin ∷ []) left
told-beside origins origin left count told = λ place less. beside-one origins origin left place (told place less)

-- the next event of the old run is kept
pub told-along : (origins : List (Option ℕ)) (left : List LeftOut) (count : ℕ) → TellsAll count origins left
    → TellsAll (count + 1) (origins ++ Some count ∷ []) left
told-along origins left count told = λ place less. along-one origins left count place told (next-or count place less)

-- an event of the old run is left out
pub told-left : (origins : List (Option ℕ)) (left : List LeftOut) (out : LeftOut) (count : ℕ) → TellsAll count origins left
    → TellsAll count origins (left ++ out ∷ [])
told-left origins left out count told = λ place less. left-one origins left out place (told place less)

-- the next event of the old run is left out
pub told-out : (origins : List (Option ℕ)) (left : List LeftOut) (out : LeftOut) → TellsAll out.event origins left
    → TellsAll (out.event + 1) origins (left ++ out ∷ [])
told-out origins left out told = λ place less. out-one origins left out place told (next-or out.event place less)

pub told-same : (count : ℕ) (origins origins' : List (Option ℕ)) (left left' : List LeftOut) → origins' ≡ origins → left' ≡ left
    → TellsAll count origins left → TellsAll count origins' left'
told-same count origins origins' left left' same out told =
    subst (λ os. TellsAll count os left') (sym same) (subst (λ ls. TellsAll count origins ls) (sym out) told)
