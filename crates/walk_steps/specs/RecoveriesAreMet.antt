-- That the laws of a server alone speak of something: a server with a row, which crashes and stores while it recovers.
use Rattle.std.specs.Prelude.{◌≡◌, ℕ, Bool, true, false, ◌&&◌, List, ◌++◌, Option, Some, None}
use Rattle.nq_base.specs.declared.Row.{Row}
use Rattle.nq_model.specs.protocol.Kept.{Kept}
use Rattle.nq_model.specs.protocol.Server.{recovering, last_table}
use Rattle.nq_model.specs.protocol.Table.{Table, is_writing, find_row}
use Rattle.nq_model.specs.laws.RecoveriesWait.{WasStoredAt}
use Rattle.nq_model.specs.protocol.ServerAlone.{Coming, server_after, first_boot, entries_since_boot}

-- whether a row is found that lets its holder write, and that its holder is told to give up
abbrev pub is_writer_to_go : Option Row → Bool
is_writer_to_go None = false
is_writer_to_go (Some row) = is_writing row.mode && row.evicting

-- from some kept state a server boots, and has such a row; then it crashes, and it recovers, with the row in mind, and has
-- stored delayed writes in the recovery
pub record RecoveriesAreMet : Type 0 where
  pub kept : Kept
  pub longest : ℕ
  pub now : ℕ
  pub came : List Coming
  pub later : List Coming
  pub file : ℕ
  pub host : ℕ
  pub until : ℕ
  pub heard : ℕ
  pub last : Option Table
  pub at : ℕ
  pub to_go : is_writer_to_go (find_row file host (server_after (first_boot kept longest now) came).table.rows) ≡ true
  pub recovers : (server_after (first_boot kept longest now) (later ++ came)).phase ≡ recovering until heard last
  pub in_mind : is_writer_to_go (find_row file host (last_table last).rows) ≡ true
  pub stored : WasStoredAt (entries_since_boot (first_boot kept longest now) (later ++ came)) at
