-- Laws of the bytes that an object tells.
use Rattle.std.proofs.Common.{◌≡◌, ℕ, List, ◌++◌, Option, Some, None, refl, ap, append_assoc}
use Rattle.nq_io.specs.Told.{with_end}

-- two pieces at the end, one after another, are one piece
pub with_end-with_end : (held : Option (List ℕ)) (xs ys : List ℕ) → with_end (with_end held xs) ys ≡ with_end held (xs ++ ys)
with_end-with_end None xs ys = refl
with_end-with_end (Some told) xs ys = ap Some (append_assoc told xs ys)
