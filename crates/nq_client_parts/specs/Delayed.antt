-- The delayed writes of a client, as contracts see them.
use Rattle.std.specs.Prelude.{ℕ, List, Option}
use Rattle.nq_base.specs.declared.Push.{Push}

-- The delayed writes in their order, those under way, and how many more blocks become dirty before memory is wanted.
pub record Delayed : Type 0 where
  pub dirty : List Push
  pub push : Option Push
  pub spare : ℕ

-- A clean file, with the delayed writes that there are while it is known to be clean: none of them is of the file.
pub record CleanFile : Type 0 where
  pub file : ℕ
  pub dirty : List Push
  pub push : Option Push
