-- What holds of each element holds in the other order.
use Rattle.std.proofs.Common.{List, [], ◌∷◌, reverse, sym, subst}
use Rattle.std.proofs.lemmas.List.{reverse-append, reverse-reverse}
use Rattle.std.specs.List.{AllByRecursion}
use Rattle.nq_script.proofs.Fitting.{each-append}

all-reversed : {X : Type 0} (P : X → Type 0) (xs : List X) → AllByRecursion P xs → AllByRecursion P (reverse xs)
all-reversed P [] all = tt
all-reversed P (x ∷ xs) all =
    subst (AllByRecursion P) (sym (reverse-append (x ∷ []) xs)) (each-append P (reverse xs) (x ∷ []) (all-reversed P xs all.1) (all.0, tt))

pub all-reverse : {X : Type 0} (P : X → Type 0) (xs : List X) → AllByRecursion P (reverse xs) → AllByRecursion P xs
all-reverse P xs all = subst (AllByRecursion P) (reverse-reverse xs) (all-reversed P (reverse xs) all)
