-- What a client caches, as contracts see it.
use Rattle.std.specs.Prelude.{ℕ, List}
use Rattle.nq_model.specs.protocol.Client.{Clean, Revision}

-- The clean blocks, the most recently used first, the revisions of files in order of files, and how many more files
-- get a revision before memory is wanted.
pub record Cached : Type 0 where
  pub clean : List Clean
  pub revisions : List Revision
  pub spare : ℕ
