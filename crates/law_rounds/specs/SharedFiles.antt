-- What keeps notices few: a file that somebody shares or waits for comes to be cached by nobody, until his row goes.
use Rattle.std.specs.Prelude.{◌≡◌, ℕ, true, false, List, Some}
use Rattle.nq_base.specs.declared.Row.{Row}
use Rattle.nq_model.specs.protocol.Message.{Datagram}
use Rattle.nq_model.specs.protocol.Server.{Server}
use Rattle.nq_model.specs.protocol.ServerStep.{receive}
use Rattle.nq_model.specs.protocol.Table.{caches, find_row}

-- a host has a row of a file
pub record HasRow (rows : List Row) (file host : ℕ) : Type 0 where
  pub row : Row
  pub there : find_row file host rows ≡ Some row

-- a host has a row of a file that lets it cache
pub record HasCachingRow (rows : List Row) (file host : ℕ) : Type 0 where
  pub row : Row
  pub there : find_row file host rows ≡ Some row
  pub caching : caches row.mode ≡ true

-- in every state of the server, where a host has a row that does not let it cache: whoever has a row of that file after a datagram that
-- lets him cache had one before
abbrev pub SharedFilesStayShared : Type 0
SharedFilesStayShared =
    (s : Server) (sender next : ℕ) (d : Datagram) (file host : ℕ) (row : Row)
    → find_row file host s.table.rows ≡ Some row
    → caches row.mode ≡ false
    → (other : ℕ)
    → HasCachingRow (receive s sender next d).server.table.rows file other
    → HasCachingRow s.table.rows file other
