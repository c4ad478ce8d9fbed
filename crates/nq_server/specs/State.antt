-- What a server holds beside what it keeps, as the protocol sees it.
use Rattle.std.specs.Prelude.{ℕ, Option, Some, None}
use Rattle.nq_keeper.specs.Recovery.{Recovery}
use Rattle.nq_model.specs.protocol.Kept.{Kept}
use Rattle.nq_model.specs.protocol.Server.{Phase, serving, recovering, Server}
use Rattle.nq_model.specs.protocol.Table.{Table}
use Rattle.nq_server.specs.declared.state.Phase.{Phase as Held}
use Rattle.nq_server.specs.declared.state.Phase.TheVariants as held
use Rattle.nq_server.specs.declared.state.State.{State}

-- a server beside what it keeps: its phase, its lease table, the longest term of the boot, the number of its next notice, and
-- its time
pub record Beside : Type 0 where
  pub phase : Phase
  pub table : Table
  pub longest : ℕ
  pub notice : ℕ
  pub time : ℕ

-- until when a recovery goes on at least: 0 stands for it while a tick has it in hand
abbrev pub until_of : Option Recovery → ℕ
until_of None = 0
until_of (Some recovery) = recovery.until

-- when a write was last heard during a recovery, likewise
abbrev pub heard_of : Option Recovery → ℕ
heard_of None = 0
heard_of (Some recovery) = recovery.heard

-- the phase as the protocol sees it
abbrev pub phase_of : Held → Phase
phase_of (held.Serving boot) = serving
phase_of (held.Recovering recovery last) = recovering (until_of recovery) (heard_of recovery) last

-- what is held beside what is kept
abbrev pub beside_of : State → Beside
beside_of s = record {
  phase = phase_of s.phase;
  table = s.table;
  longest = s.longest;
  notice = s.notice;
  time = s.time;
}

-- a server of the protocol with this kept state
abbrev pub server_of : Beside → Kept → Server
server_of s kept = record {
  kept = kept;
  phase = s.phase;
  table = s.table;
  longest = s.longest;
  notice = s.notice;
  now = s.time;
}

-- what a server of the protocol is beside its kept state
abbrev pub beside : Server → Beside
beside s = record { phase = s.phase; table = s.table; longest = s.longest; notice = s.notice; time = s.now }
