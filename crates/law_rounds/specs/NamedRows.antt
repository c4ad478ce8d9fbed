-- A row that was ever named to be given up is to go: it is not granted again, and waits for the VACATED.
use Rattle.std.specs.Prelude.{◌≡◌, ℕ, true, List, Some, slice_get}
use Rattle.nq_base.specs.declared.Request.{Request}
use Rattle.nq_base.specs.declared.Row.{Row}
use Rattle.nq_base.specs.declared.Tag.{Tag}
use Rattle.nq_base.specs.declared.Who.{Who}
use Rattle.nq_model.specs.laws.Bounds.{InEveryRun}
use Rattle.nq_model.specs.protocol.Message.{Packet, call}
use Rattle.nq_model.specs.protocol.Server.{to_host}
use Rattle.nq_model.specs.protocol.Table.{find_row}
use Rattle.nq_model.specs.protocol.World.{from_host, run}

-- a tag was named: in a notice to a host, or by its client in a VACATED
pub data IsNamed (packets : List Packet) (file host : ℕ) (tag : Tag) : Type 0 where
  by_notice : (k xid : ℕ) (who : Who) → slice_get packets k ≡ Some (to_host host (call xid (Request.Evicted who file tag))) → IsNamed packets file host tag
  by_vacated : (k xid : ℕ) (who : Who) → slice_get packets k ≡ Some (from_host host (call xid (Request.Vacated who file tag))) → IsNamed packets file host tag

-- in every run a host's row whose latest tag was named is to go
abbrev pub NamedRowsAreToGo : Type 0
NamedRowsAreToGo =
    InEveryRun (λ head events.
    (file host : ℕ) (row : Row)
    → IsNamed (run head events).packets file host row.tag
    → find_row file host (run head events).server.table.rows ≡ Some row
    → row.evicting ≡ true)
