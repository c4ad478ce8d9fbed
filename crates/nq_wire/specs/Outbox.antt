-- What an outbox holds, as contracts see it.
use Rattle.std.specs.Prelude.{ℕ, List}
use Rattle.nq_base.specs.declared.Party.{Party}

-- Datagrams, each with whom it is for, numbered one after the other from the first, and how many more fit
-- before memory is wanted.
pub record Datagrams : Type 0 where
  pub first : ℕ
  pub datagrams : List (Party × List ℕ)
  pub spare : ℕ
