-- The open requests of a host.
use Rattle.std.proofs.Common.{◌≡◌, ◌<◌, ℕ, List, Some}
use Rattle.std.specs.Prelude.{slice_get}
use Rattle.nq_base.specs.declared.HostRow.{HostRow}
use Rattle.nq_base.specs.declared.Request.{Request}
use Rattle.nq_base.specs.declared.Who.{Who}
use Rattle.walk_steps.proofs.Packets.{Asked}
use Rattle.nq_model.specs.protocol.Client.{Client}
use Rattle.nq_model.specs.protocol.Kept.{host_row}
use Rattle.nq_model.specs.protocol.Message.{Packet, asker, sequence_of}
use Rattle.nq_model.specs.protocol.World.{World}

-- a request of the kept incarnation has a sequence above the kept one
pub record IsOpenAt (line : HostRow) (ps : List Packet) (host x : ℕ) (r : Request) : Type 0 where
  pub who : Who
  pub seq : ℕ
  pub asked : Asked ps host x r
  pub by : asker r ≡ Some who
  pub kept : line.inc ≡ who.inc
  pub draws : sequence_of r ≡ Some seq
  pub above : line.seq < seq

abbrev pub OneOpenAt : HostRow → List Packet → (host : ℕ) → Type 0
OneOpenAt line ps host = (x y : ℕ) (r s : Request) → IsOpenAt line ps host x r → IsOpenAt line ps host y s → (x ≡ y) × (r ≡ s)

-- of each host with a client
pub record Opens (w : World) : Type 0 where
  pub one : (host : ℕ) (c : Client) → slice_get w.clients host ≡ Some c → OneOpenAt (host_row w.server.kept host) w.packets host
