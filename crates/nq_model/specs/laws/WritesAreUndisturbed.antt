-- Nobody disturbs delayed writes that can still be stored, and the others are fenced, in every run (Macklem 1994).
use Rattle.std.specs.Prelude.{◌≡◌, ◌<◌, ◌≤◌, ◌⊎◌, ℕ, true, false, List, Some, None, slice_get}
use Rattle.nq_base.specs.declared.Entry.{Entry}
use Rattle.nq_base.specs.declared.Entry.TheVariants.{W}
use Rattle.nq_base.specs.declared.Event.{Event}
use Rattle.nq_base.specs.declared.Push.{Push}
use Rattle.nq_base.specs.declared.PushBase.{PushBase}
use Rattle.nq_base.specs.declared.Request.{Request}
use Rattle.nq_base.specs.declared.Who.{Who}
use Rattle.nq_model.specs.laws.Chained.{has_done_write, due}
use Rattle.nq_model.specs.laws.LossesAreExcused.{IsUnsaved, IsBoundAt, IsExcusedLoss}
use Rattle.nq_model.specs.laws.Bounds.{KeepsBounds, InEveryRun}
use Rattle.nq_model.specs.protocol.Client.{Client, Lease, Revision, lease_on, is_clean, revision_of}
use Rattle.nq_model.specs.laws.Journal.{Covers, Exists}
use Rattle.nq_model.specs.protocol.Kept.{File, Kept, find_file, host_row}
use Rattle.nq_model.specs.protocol.Message.{call}
use Rattle.nq_model.specs.protocol.Skew.{IsWithinSkew}
use Rattle.nq_model.specs.protocol.Table.{is_writing}
use Rattle.nq_model.specs.protocol.World.{Head, World, from_host, run}
use Rattle.nq_model.specs.laws.Undisturbed.{IsUndisturbed}

-- delayed writes that rest on a boot and a revision of a file can not be stored any more: the server does not keep the
-- file, or the revision rose, or a later boot served
pub data IsFencedFor (kept : Kept) (file boot rev : ℕ) : Type 0 where
  gone : find_file file kept.files ≡ None → IsFencedFor kept file boot rev
  ahead : (f : File) → find_file file kept.files ≡ Some f → rev < f.rev → IsFencedFor kept file boot rev
  earlier : boot < kept.opened → IsFencedFor kept file boot rev

-- a file is bound at a client, and the server keeps it at the revision that the client has to expect: the one that it
-- knows, and one more where the server did the client's own request and the client was not told yet
pub record IsBoundAndDue (w : World) (host : ℕ) (c : Client) (file : ℕ) : Type 0 where
  pub bound : IsBoundAt w c file
  pub revision : Revision
  pub known : revision_of file c.revisions ≡ Some revision
  pub f : File
  pub found : find_file file w.server.kept.files ≡ Some f
  pub is_due : f.rev ≡ due (has_done_write (host_row w.server.kept host) c.who.inc file c.ticket) revision.rev

-- a file that a client holds for writing is fenced: none of the delayed writes that the client has of it can be stored any
-- more. For those of each block, an entry that ended the lease, late enough, stands in the journal after the first of them
pub record IsFencedAt (w : World) (host : ℕ) (c : Client) (file : ℕ) : Type 0 where
  pub lease : Lease
  pub held : lease_on file c.leases ≡ Some lease
  pub for_writing : is_writing lease.mode ≡ true
  pub revision : Revision
  pub known : revision_of file c.revisions ≡ Some revision
  pub fenced : IsFencedFor w.server.kept file lease.tag.boot (due (has_done_write (host_row w.server.kept host) c.who.inc file c.ticket) revision.rev)
  pub by : (p : Push) → IsUnsaved c p → p.file ≡ file → IsExcusedLoss w.journal c.who p

-- after every schedule within skew: while a client has delayed writes of a file, either its lease row still stands and the
-- server keeps the file at the revision that the client expects, or the file is fenced and none of these writes can be
-- stored
abbrev pub UnsavedFilesAreBoundOrFenced : Type 0
UnsavedFilesAreBoundOrFenced =
    (most : ℕ) (head : Head) (events : List Event) (host : ℕ) (c : Client) (file : ℕ)
    → KeepsBounds most head events
    → IsWithinSkew head.hosts most events
    → slice_get (run head events).clients host ≡ Some c
    → is_clean c file ≡ false
    → IsBoundAndDue (run head events) host c file ⊎ IsFencedAt (run head events) host c file

-- a packet brings a push of the kept incarnation of its host. The server has not decided it yet, and it is not fenced
pub record IsOpenPush (w : World) (host place xid : ℕ) (who : Who) (seq file block first last : ℕ) (base : PushBase) (body : List ℕ) : Type 0 where
  pub sent : slice_get w.packets place ≡ Some (from_host host (call xid (Request.Write who seq file block first last (Some base) body)))
  pub of_host : who.host ≡ host
  pub kept : who.inc ≡ (host_row w.server.kept host).inc
  pub above : (host_row w.server.kept host).seq < seq
  pub unfenced : IsFencedFor w.server.kept file base.boot base.base → ⊥

-- since the first write that such a push covers, nobody else read or wrote its file, whether its client still runs or not
abbrev pub OpenPushesAreUndisturbed : World → Type 0
OpenPushesAreUndisturbed w =
    (host place xid : ℕ) (c : Client) (who : Who) (seq file block first last : ℕ) (base : PushBase) (body : List ℕ)
    → slice_get w.clients host ≡ Some c
    → IsOpenPush w host place xid who seq file block first last base body
    → IsUndisturbed who file block first w.journal

-- no S or L covers any of these delayed writes
abbrev pub IsUncovered : (journal : List Entry) → Who → Push → Type 0
IsUncovered journal who p = (n : ℕ) → p.first ≤ n → n ≤ p.last → ¬ Exists (λ entry. Covers entry (W who p.file p.block n 0 false)) journal

-- where a file is bound at a client, and none of these delayed writes is stored or lost yet, nobody else read or wrote the
-- file since the first of them
abbrev pub BoundWritesAreUndisturbed : World → Type 0
BoundWritesAreUndisturbed w =
    (host : ℕ) (c : Client) (p : Push)
    → slice_get w.clients host ≡ Some c
    → IsUnsaved c p
    → IsUncovered w.journal c.who p
    → IsBoundAt w c p.file
    → IsUndisturbed c.who p.file p.block p.first w.journal

-- both hold after every schedule within skew
abbrev pub DelayedWritesAreUndisturbed : Type 0
DelayedWritesAreUndisturbed = InEveryRun (λ head events. BoundWritesAreUndisturbed (run head events) × OpenPushesAreUndisturbed (run head events))
