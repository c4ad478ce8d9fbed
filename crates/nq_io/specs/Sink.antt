-- What a put does. Below, `held` is what the sink held before it and `now` is what it holds after it, where the sink tells them.
use Rattle.std.specs.Prelude.{◌≡◌, ◌⊎◌, ℕ, ◌≤◌, List, length, take, Option}
use Rattle.nq_io.specs.declared.sink.Put.{Put}
use Rattle.nq_io.specs.declared.sink.Put.TheVariants.{All, Failed}
use Rattle.nq_io.specs.Faults.{Rose, count_up}
use Rattle.nq_io.specs.Told.{with_end}

-- some of these bytes, from the first on, were appended
pub record AppendsFront (bytes : List ℕ) (held now : Option (List ℕ)) : Type 0 where
  pub count : ℕ
  pub within : count ≤ length bytes
  pub appended : now ≡ with_end held (take count bytes)

-- what a put does, by its answer
abbrev pub Puts : Put → List ℕ → (held now : Option (List ℕ)) → Type 0
Puts All bytes held now = now ≡ with_end held bytes
Puts Failed bytes held now = AppendsFront bytes held now

-- a put that fails raises the count of faults, and any other leaves it as it was
abbrev pub CountsPut : Put → (before now : ℕ) → Type 0
CountsPut All before now = now ≡ before
CountsPut Failed before now = Rose before now

-- a count that rises by one at a put that fails, and only there
abbrev pub faults_after : Put → ℕ → ℕ
faults_after All before = before
faults_after Failed before = count_up before

-- a line was printed; where the sink failed, which it has counted, only a front of it was
abbrev pub PrintsLine : (line : List ℕ) → (held now : Option (List ℕ)) → (before after : ℕ) → Type 0
PrintsLine line held now before after = ((now ≡ with_end held line) × (after ≡ before)) ⊎ (AppendsFront line held now × Rose before after)
