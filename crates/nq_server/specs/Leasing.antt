-- Requests for a lease, and what a call does that makes a step which keeps what is kept.
use Rattle.std.specs.Prelude.{◌≡◌, ◌<◌, ◌≤◌, ◌^◌, ℕ, [], Option, Some, None, Result, Ok, Err, find, is_some, if◌then◌else◌}
use Rattle.nq_base.specs.declared.Asked.{Asked}
use Rattle.nq_base.specs.declared.FileRow.{FileRow}
use Rattle.nq_base.specs.declared.Grant.{Grant}
use Rattle.nq_base.specs.declared.Question.{Question}
use Rattle.nq_base.specs.declared.Row.{Row}
use Rattle.nq_base.specs.declared.Want.{Want}
use Rattle.nq_base.specs.declared.Who.{Who}
use Rattle.nq_lease.specs.declared.evict.notifying.NoticeTo.{NoticeTo}
use Rattle.nq_lease.specs.declared.evict.notifying.NoticeTo.TheVariants.{Others, Own}
use Rattle.nq_base.specs.Entries.{EntryList}
use Rattle.nq_model.specs.protocol.Ask.{conflicts}
use Rattle.nq_model.specs.protocol.Kept.{File}
use Rattle.nq_model.specs.protocol.Server.{ServerStep, serving}
use Rattle.nq_model.specs.protocol.ServerStep.{access_of}
use Rattle.nq_model.specs.protocol.Table.{Table, find_row}
use Rattle.nq_keeper.specs.declared.KeepFault.{KeepFault}
use Rattle.nq_keeper.specs.declared.KeepFault.TheVariants as keep
use Rattle.nq_server.specs.declared.received.EventTaken.{EventTaken}
use Rattle.nq_server.specs.declared.state.State.{State}
use Rattle.nq_server.specs.Sound.{IsSound}
use Rattle.nq_server.specs.State.{Beside, beside, beside_of, phase_of}
use Rattle.nq_server.specs.Stepping.{Sends, Enters, SaysNothing, outcome_of}
use Rattle.nq_wire.specs.Outbox.{Datagrams}

-- a step was made, but for what is kept
pub record MakesBeside (step : ServerStep) (after : Beside) (out out' : Datagrams) (log log' : EntryList) : Type 0 where
  pub holds : after ≡ beside step.server
  pub sends : Sends step.sends out out'
  pub enters : Enters step.entries log log'

-- what a call does that makes a step which keeps what is kept, by its answer: where memory is wanting nothing changed
abbrev pub Does : (step : ServerStep) → Result EventTaken KeepFault → (held after : Beside) (out out' : Datagrams) (log log' : EntryList) → Type 0
Does step (Ok how) held after out out' log log' = (step.outcome ≡ outcome_of how) × MakesBeside step after out out' log log'
Does step (Err keep.Memory) held after out out' log log' = (after ≡ held) × SaysNothing out out' log log'
Does step (Err keep.Failed) held after out out' log log' = ⊥

-- what the ask table is asked about a file of this row
abbrev pub asks : Beside → Who → FileRow → Option Want → Question
asks held who row want = record {
  who = who;
  file = row.id;
  access = access_of want;
  want = want;
  longest = held.longest;
  time = held.time;
  rev = row.rev;
  blocks = row.blocks;
}

-- a question is asked at the server's time, and with the longest term of its boot
pub record IsAskedOf (held : Beside) (q : Question) : Type 0 where
  pub time : q.time ≡ held.time
  pub longest : q.longest ≡ held.longest

-- a server that serves may be asked this: its time and its longest term are those of the question, and tags are left
pub record MayAsk (s : State) (q : Question) : Type 0 where
  pub sound : IsSound s
  pub serves : phase_of s.phase ≡ serving
  pub drawn : s.table.drawn < 2 ^ 62
  pub asked : IsAskedOf (beside_of s) q

-- a file of which a question tells the id and the revision
abbrev pub file_asked : Question → File
file_asked q = record { id = q.file; name = []; rev = q.rev; bodies = [] }

-- the holder of the asker's own row is told, where that row is to be given up
abbrev pub own_to_tell : (host : ℕ) → Option Want → Option Row → Option NoticeTo
own_to_tell host None own = None
own_to_tell host (Some want) None = None
own_to_tell host (Some want) (Some own) = if own.evicting then Some (Own host) else None

-- whose holders are told, where the asker is put off
abbrev pub to_tell : Table → Question → Option NoticeTo
to_tell table q =
    if is_some (find (conflicts q.file q.who.host q.access) table.rows)
    then Some (Others q.who.host q.access)
    else own_to_tell q.who.host q.want (find_row q.file q.who.host table.rows)

-- the grant that an asker was told of, if any
abbrev pub granted_in : Asked → Option Grant
granted_in (Asked.Granted grant) = Some grant
granted_in Asked.Free = None
granted_in Asked.NoLease = None
granted_in (Asked.TryLater clash) = None

-- room was made for a datagram and for so many entries, and nothing else changed
pub record HasRoom (entries : ℕ) (out out' : Datagrams) (log log' : EntryList) : Type 0 where
  pub nothing : SaysNothing out out' log log'
  pub datagram : 1 ≤ out'.spare
  pub lines : entries ≤ log'.spare
