-- A std writer as a sink.
use Rattle.std.specs.Prelude.{ℕ, ◌≤◌, Bool, List, length, take, Option}
use Rattle.std.specs.Io.KnownBytes.{Appends}
use Rattle.nq_io.specs.declared.sink.Put.{Put}
use Rattle.nq_io.specs.declared.sink.Put.TheVariants.{All, Failed}

-- a writer, whether its bytes are told, and how often it failed
pub record CountedWriter (W : Type 0) : Type 0 where
  pub writer : W
  pub tells : Bool
  pub faults : ℕ

-- some of these bytes, from the first on, went to the end of what the writer holds, where that is known
pub record WritesFront (bytes : List ℕ) (known now : Option (List ℕ)) : Type 0 where
  pub count : ℕ
  pub within : count ≤ length bytes
  pub appended : Appends known now (take count bytes)

-- what a put does to the bytes that the writer holds, where those are known
abbrev pub Writes : Put → List ℕ → (known now : Option (List ℕ)) → Type 0
Writes All bytes known now = Appends known now bytes
Writes Failed bytes known now = WritesFront bytes known now
