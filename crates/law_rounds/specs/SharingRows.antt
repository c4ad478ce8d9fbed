-- A row that does not cache is taken by no datagram but a REMOVE of its file and an ATTACH of its host.
use Rattle.std.specs.Prelude.{◌≡◌, ◌<◌, ℕ, ◌==◌, Bool, true, false, List, Some, length, slice_get}
use Rattle.nq_base.specs.declared.Asked.{Asked}
use Rattle.nq_base.specs.declared.Clash.{Clash}
use Rattle.nq_base.specs.declared.Event.{Event}
use Rattle.nq_base.specs.declared.Question.{Question}
use Rattle.nq_base.specs.declared.Request.{Request}
use Rattle.nq_base.specs.declared.Row.{Row}
use Rattle.nq_base.specs.declared.Want.{Want}
use Rattle.nq_model.specs.laws.Bounds.{InEveryRun}
use Rattle.nq_model.specs.protocol.Ask.{ask}
use Rattle.nq_model.specs.protocol.Message.{Message, Packet, call}
use Rattle.nq_model.specs.protocol.Profile.{most_rows}
use Rattle.nq_model.specs.protocol.Table.{Table, caches, find_row}
use Rattle.nq_model.specs.protocol.World.{run, step}
use Rattle.law_rounds.specs.SharedFiles.{HasRow, HasCachingRow}

-- a host has a row of a file that does not let it cache
pub record HasSharingRow (rows : List Row) (file host : ℕ) : Type 0 where
  pub row : Row
  pub there : find_row file host rows ≡ Some row
  pub sharing : caches row.mode ≡ false

-- whether a message may take a host's row of a file whatever its tag: a REMOVE of the file, or an ATTACH of the host
abbrev pub takes_row : (file host : ℕ) → Message → Bool
takes_row file host (call xid (Request.Remove who seq q f)) = f == file
takes_row file host (call xid (Request.Attach who)) = who.host == host
takes_row file host other = false

-- in every run: a row that does not cache stays so, whatever other packet is delivered
abbrev pub SharingRowsStay : Type 0
SharingRowsStay =
    InEveryRun (λ head events.
    (file host k : ℕ) (p : Packet)
    → slice_get (run head events).packets k ≡ Some p
    → takes_row file host p.message ≡ false
    → HasSharingRow (run head events).server.table.rows file host
    → HasSharingRow (step (run head events) (Event.Deliver k)).server.table.rows file host)

-- and in every run a row that is to go lets its holder cache
abbrev pub RowsToGoCache : Type 0
RowsToGoCache =
    InEveryRun (λ head events.
    (file host : ℕ) (row : Row) → find_row file host (run head events).server.table.rows ≡ Some row → row.evicting ≡ true → caches row.mode ≡ true)

-- whoever wants a lease and is put off has a row of the file then that does not let him cache, where the table had room for one more, and
-- he had no row that did
abbrev pub WhoIsPutOffShares : Type 0
WhoIsPutOffShares =
    (table : Table) (q : Question) (want : Want) (clash : Clash)
    → q.want ≡ Some want
    → length table.rows < most_rows
    → (HasCachingRow table.rows q.file q.who.host → ⊥)
    → (ask table q).asked ≡ Asked.TryLater clash
    → HasSharingRow (ask table q).table.rows q.file q.who.host

-- whoever wants a lease has a row of the file then, whatever he is told, where the table had room for one more
abbrev pub WhoAsksHasRow : Type 0
WhoAsksHasRow =
    (table : Table) (q : Question) (want : Want)
    → q.want ≡ Some want
    → length table.rows < most_rows
    → HasRow (ask table q).table.rows q.file q.who.host
