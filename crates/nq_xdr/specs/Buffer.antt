-- What a writer holds, as contracts see it.
use Rattle.std.specs.Prelude.{ℕ, List}

-- the bytes written so far, and how many more fit before memory is wanted
pub record Buffer : Type 0 where
  pub bytes : List ℕ
  pub spare : ℕ
