-- The notices that wait.
use Rattle.std.specs.Prelude.{ℕ, List}
use Rattle.nq_model.specs.protocol.Client.{Notice}

-- The notices in order of files, and for how many more there is room before memory is wanted.
pub record NoticeList : Type 0 where
  pub items : List Notice
  pub spare : ℕ
