-- A std reader as a source.
use Rattle.std.specs.Prelude.{ℕ, Bool, List, [], take, Option}
use Rattle.std.specs.Io.KnownBytes.{Consumes, Keeps, IsAtEnd}
use Rattle.nq_io.specs.declared.source.Got.{Got}
use Rattle.nq_io.specs.declared.source.Got.TheVariants.{Bytes, End, Failed}

-- a reader, whether its bytes are told, and how often it failed
pub record CountedReader (R : Type 0) : Type 0 where
  pub reader : R
  pub tells : Bool
  pub faults : ℕ

-- what a read does to the bytes that the reader will give, where those are known
abbrev pub PassesOn : Got → List ℕ → (known rest : Option (List ℕ)) → Type 0
PassesOn (Bytes n) filled known rest = Consumes known rest (take n filled)
PassesOn End filled known rest = Consumes known rest [] × IsAtEnd rest
PassesOn Failed filled known rest = Keeps known rest
