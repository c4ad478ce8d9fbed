-- A notice tells the holder of a row to give it up, and the row is marked so: it is not granted again before it goes.
use Rattle.std.specs.Prelude.{◌≡◌, ℕ, true, List, Some, slice_get}
use Rattle.nq_base.specs.declared.Request.{Request}
use Rattle.nq_base.specs.declared.Row.{Row}
use Rattle.nq_base.specs.declared.Tag.{Tag}
use Rattle.nq_base.specs.declared.Who.{Who}
use Rattle.nq_model.specs.protocol.Message.{Datagram, call}
use Rattle.nq_model.specs.protocol.Server.{Server, to_host}
use Rattle.nq_model.specs.protocol.ServerStep.{receive}
use Rattle.nq_model.specs.protocol.Table.{find_row}
use Rattle.nq_model.specs.laws.RowsStandApart.{HasOneRowEach}

-- the row of this holder with this tag is there, and is to go
pub record IsToGo (rows : List Row) (who : Who) (file : ℕ) (tag : Tag) : Type 0 where
  pub row : Row
  pub there : find_row file who.host rows ≡ Some row
  pub holder : row.who ≡ who
  pub latest : row.tag ≡ tag
  pub going : row.evicting ≡ true

-- in every state of the server in which a file and a host have one row at most: after a datagram the row that a notice names is to go
abbrev pub NoticesMarkRows : Type 0
NoticesMarkRows =
    (s : Server) (sender next : ℕ) (d : Datagram)
    → HasOneRowEach s.table.rows
    → (i host xid file : ℕ) (who : Who) (tag : Tag)
    → slice_get (receive s sender next d).sends i ≡ Some (to_host host (call xid (Request.Evicted who file tag)))
    → IsToGo (receive s sender next d).server.table.rows who file tag
