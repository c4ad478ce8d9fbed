-- A file has one content at each revision, in every run.
use Rattle.std.specs.Prelude.{◌≡◌, ℕ, List, [], ◌∷◌, Option, Some, None, map, nat_lt, slice_get, if◌then◌else◌}
use Rattle.nq_base.specs.Block.{value_of}
use Rattle.nq_base.specs.declared.Entry.{Entry}
use Rattle.nq_base.specs.declared.Event.{Event}
use Rattle.nq_base.specs.declared.Push.{Push}
use Rattle.nq_base.specs.declared.PushBase.{PushBase}
use Rattle.nq_base.specs.declared.Reply.{Reply}
use Rattle.nq_base.specs.declared.Request.TheVariants.{Write}
use Rattle.nq_base.specs.declared.Verdict.{Verdict}
use Rattle.nq_base.specs.declared.Who.{Who}
use Rattle.nq_model.specs.laws.Contents.{changes_of, delayed_value, content_at}
use Rattle.nq_model.specs.laws.Told.{IsReached, HasValue, TellsContents, IsDoneAs}
use Rattle.nq_model.specs.laws.Bounds.{InEveryRun}
use Rattle.nq_model.specs.protocol.Client.{Client, Clean, Revision, Ticket, clean_at, dirty_at, revision_of, revision_or_zero}
use Rattle.nq_model.specs.protocol.Hear.{inc_of}
use Rattle.nq_model.specs.protocol.Kept.{File, blocks_of, find_file, host_row}
use Rattle.nq_model.specs.protocol.Message.{call, reply, sequence_of}
use Rattle.nq_model.specs.protocol.Server.{to_host}
use Rattle.nq_model.specs.protocol.World.{Head, World, from_host, start, run}

-- ---- first lengths

-- a file's length, if it is there
abbrev pub length_of : Option File → ℕ
length_of None = 0
length_of (Some file) = blocks_of file

-- the length with which a file was made. It was there at the start, or the event that drew its id made it. A schedule is
-- told with its newest event first
abbrev pub first_length : Head → List Event → (file : ℕ) → ℕ
first_length head [] file = length_of (find_file file (start head).server.kept.files)
first_length head (event ∷ earlier) file =
    if nat_lt file (run head earlier).server.kept.next
    then first_length head earlier file
    else length_of (find_file file (run head (event ∷ earlier)).server.kept.files)

-- ---- kept files

-- the journal tells as many changes of each kept file as its revision says, and its blocks have the values that these gave
-- them
pub record FilesAreTheirHistory (first : ℕ → ℕ) (w : World) : Type 0 where
  pub revision : (id : ℕ) (f : File) → find_file id w.server.kept.files ≡ Some f → f.rev ≡ changes_of w.journal id
  pub content : (id : ℕ) (f : File) → find_file id w.server.kept.files ≡ Some f → map value_of f.bodies ≡ content_at w.journal (first id) id f.rev

-- this holds after every schedule within skew, however often the server crashed
abbrev pub FilesAreTheirHistoryInEveryRun : Type 0
FilesAreTheirHistoryInEveryRun = InEveryRun (λ head events. FilesAreTheirHistory (first_length head events) (run head events))

-- ---- what clients have, and what they are told

-- the block that a client has in its cache is the one of the revision that it knows
pub record IsOfRevision (first : ℕ → ℕ) (journal : List Entry) (c : Client) (file block : ℕ) (k : Clean) : Type 0 where
  pub revision : Revision
  pub known : revision_of file c.revisions ≡ Some revision
  pub has : HasValue first journal file revision.rev block (value_of k.body)

-- each revision that a client knows was reached, and each of its clean blocks has the value of the file at that revision. A
-- push under way rests on the revision that its client knows. What a reply tells that a client can still take is true
pub record CleanBlocksHaveTheirRevision (first : ℕ → ℕ) (w : World) : Type 0 where
  pub known : (host : ℕ) (c : Client) (file : ℕ) (r : Revision) → slice_get w.clients host ≡ Some c → revision_of file c.revisions ≡ Some r
      → IsReached w.journal file r.rev
  pub clean : (host : ℕ) (c : Client) (file block : ℕ) (k : Clean) → slice_get w.clients host ≡ Some c → clean_at file block c.clean ≡ Some k
      → IsOfRevision first w.journal c file block k
  pub based : (host : ℕ) (c : Client) (t : Ticket) (who : Who) (seq file block f l : ℕ) (push : PushBase) (body : List ℕ) → slice_get w.clients host
      ≡ Some c → c.ticket ≡ Some t → t.request ≡ Write who seq file block f l (Some push) body → push.base ≡ revision_or_zero (revision_of file c.revisions)
  pub told : (host : ℕ) (c : Client) (t : Ticket) (place : ℕ) (a : Reply) → slice_get w.clients host ≡ Some c → c.ticket ≡ Some t
      → slice_get w.packets place ≡ Some (to_host host (reply t.xid a)) → inc_of a ≡ c.who.inc → TellsContents first w.journal t.request a

-- this holds after every schedule within skew
abbrev pub CleanBlocksHaveTheirRevisionInEveryRun : Type 0
CleanBlocksHaveTheirRevisionInEveryRun = InEveryRun (λ head events. CleanBlocksHaveTheirRevision (first_length head events) (run head events))

-- ---- delayed writes

-- the delayed writes that a client has carry the value of the last of them, and so does each push that was ever sent
pub record PushesCarryTheirLastWrite (w : World) : Type 0 where
  pub waiting : (host : ℕ) (c : Client) (file block : ℕ) (p : Push) → slice_get w.clients host ≡ Some c → dirty_at file block c.dirty ≡ Some p
      → delayed_value w.journal c.who file block p.last ≡ Some (value_of p.body)
  pub sent : (place host xid : ℕ) (who : Who) (seq file block f l : ℕ) (push : PushBase) (body : List ℕ) → slice_get w.packets place
      ≡ Some (from_host host (call xid (Write who seq file block f l (Some push) body))) → delayed_value w.journal who file block l ≡ Some (value_of body)

-- this holds after every schedule within skew
abbrev pub PushesCarryTheirLastWriteInEveryRun : Type 0
PushesCarryTheirLastWriteInEveryRun = InEveryRun (λ head events. PushesCarryTheirLastWrite (run head events))

-- ---- changes that were asked for

-- where the server has done a client's request under way, the value that it keeps of it names a change of the file. That
-- change is what the client asked for, and the content after it is the one before with that change
abbrev pub DoneRequestsAreChanges : (first : ℕ → ℕ) → World → Type 0
DoneRequestsAreChanges first w =
    (host : ℕ) (c : Client) (t : Ticket)
    → slice_get w.clients host ≡ Some c
    → c.ticket ≡ Some t
    → (host_row w.server.kept host).inc ≡ c.who.inc
    → sequence_of t.request ≡ Some (host_row w.server.kept host).seq
    → (host_row w.server.kept host).verdict ≡ Verdict.Done
    → IsDoneAs first w.journal (host_row w.server.kept host).value t.request

-- this holds after every schedule within skew
abbrev pub DoneRequestsAreChangesInEveryRun : Type 0
DoneRequestsAreChangesInEveryRun = InEveryRun (λ head events. DoneRequestsAreChanges (first_length head events) (run head events))
