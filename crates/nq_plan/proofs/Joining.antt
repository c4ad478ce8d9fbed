-- Ranges, one behind another.
use Rattle.std.proofs.Common.{◌≡◌, ◌++◌, List, [], ◌∷◌, Result, Ok, Err, ap, ◌∙◌}
use Rattle.std.specs.Prelude.{OnOk}
use Rattle.std.proofs.lemmas.List.{append_assoc}
use Rattle.nq_memory.specs.declared.NoMemory.{NoMemory}
use Rattle.nq_disk.specs.Ranges.{Range}

pub two-ranges : (result : Result Unit NoMemory) (old mid new : List Range) (a b : Range) → mid ≡ old ++ a ∷ [] → OnOk result (new ≡ mid ++ b ∷ [])
    → OnOk result (new ≡ old ++ a ∷ b ∷ [])
two-ranges (Ok done) old mid new a b e f = f ∙ ap (λ (m : List Range). m ++ b ∷ []) e ∙ append_assoc old (a ∷ []) (b ∷ [])
two-ranges (Err fault) old mid new a b e f = tt
