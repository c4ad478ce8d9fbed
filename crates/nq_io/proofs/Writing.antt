-- Writes one after another.
use Rattle.std.proofs.Common.{ℕ, ◌+◌, ◌-◌, List, ◌++◌, length, take, drop, Option, Some, None, ap, sym, ◌∙◌, append_assoc}
use Rattle.std.proofs.Math.Seq.{take-add}
use Rattle.std.proofs.lemmas.List.{take_rest}
use Rattle.std.specs.Io.KnownBytes.{Appends}

-- after the first n bytes, m more of the rest
pub appends_more : (bytes : List ℕ) (n m : ℕ) (first known now : Option (List ℕ)) → Appends first known (take n bytes)
    → Appends known now (take m (take (length bytes - n) (drop n bytes))) → Appends first now (take (n + m) bytes)
appends_more bytes n m None known now front more = tt
appends_more bytes n m (Some held) None now front more = absurd front
appends_more bytes n m (Some held) (Some then) None front more = absurd more
appends_more bytes n m (Some held) (Some then) (Some last) front more =
    more
    ∙ ap (λ (xs : List ℕ). xs ++ take m (take (length bytes - n) (drop n bytes))) front
    ∙ append_assoc held (take n bytes) (take m (take (length bytes - n) (drop n bytes)))
    ∙ ap (λ (xs : List ℕ). held ++ (take n bytes ++ take m xs)) (take_rest bytes n)
    ∙ ap (λ (xs : List ℕ). held ++ xs) (sym (take-add n m bytes))
