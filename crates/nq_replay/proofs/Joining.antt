-- Three texts that are put one after another. Below, each of the sink's counts of faults stands behind what it holds then.
use Rattle.std.proofs.Common.{◌≡◌, ℕ, List, ◌++◌, Option, subst}
use Rattle.nq_io.specs.Faults.{Rose}
use Rattle.nq_io.specs.Sink.{AppendsFront}
use Rattle.nq_io.specs.Told.{with_end}
use Rattle.nq_replay.proofs.Appending.{behind, front}

-- of the second a front was put
pub second_cut : (a j b : List ℕ) (held mid now : Option (List ℕ)) → mid ≡ with_end held a → AppendsFront j mid now → AppendsFront (a ++ (j ++ b)) held now
second_cut a j b held mid now first part = behind a (j ++ b) held mid now first (front j b mid now part)

-- of the last a front was put
pub last_cut : (a j b : List ℕ) (held mid last now : Option (List ℕ)) → mid ≡ with_end held a → last ≡ with_end mid j → AppendsFront b last now
    → AppendsFront (a ++ (j ++ b)) held now
last_cut a j b held mid last now first second part = behind a (j ++ b) held mid now first (behind j b mid last now second part)

-- a count that stood still, and then rose
pub rose_at_last : (w v w' : ℕ) → v ≡ w → Rose v w' → Rose w w'
rose_at_last w v w' same rose = subst (λ n. Rose n w') same rose
