-- The client's state, and what a step of it gives (Macklem 1994).
use Rattle.std.specs.Prelude.{ℕ, ◌+◌, ◌==◌, Bool, true, false, not, ◌&&◌, List, [], ◌∷◌, Option, Some, None, find, filter, map, nat_lt, nat_le, if◌then◌else◌}
use Rattle.std.specs.List.{list_any}
use Rattle.nq_base.specs.Lists.{LossList, SpanList}
use Rattle.nq_base.specs.declared.Answer.{Answer}
use Rattle.nq_base.specs.declared.Call.{Call}
use Rattle.nq_base.specs.declared.Entry.{Entry}
use Rattle.nq_base.specs.declared.Loss.{Loss}
use Rattle.nq_base.specs.declared.Mode.{Mode}
use Rattle.nq_base.specs.declared.Push.{Push}
use Rattle.nq_base.specs.declared.Request.{Request}
use Rattle.nq_base.specs.declared.Span.{Span}
use Rattle.nq_base.specs.declared.Tag.{Tag}
use Rattle.nq_base.specs.declared.Who.{Who}
use Rattle.nq_model.specs.protocol.ByFile.{insert_by, add_by}
use Rattle.nq_model.specs.protocol.Message.{Message}
use Rattle.nq_model.specs.protocol.Profile.{renewal, most_clean, at_most}
use Rattle.nq_model.specs.protocol.Table.{caches, is_writing}

-- a lease as its holder has it: its kind, its latest tag, its term, when it is over by the client's clock, the file's
-- length, and whether it was used since it was granted. The term counts from the moment at which the client first
-- asked (Gray and Cheriton 1989)
pub record Lease : Type 0 where
  pub file : ℕ
  pub mode : Mode
  pub tag : Tag
  pub term : ℕ
  pub expiry : ℕ
  pub blocks : ℕ
  pub used : Bool

-- a notice that a lease is to be given up, which waits for delayed writes to be stored
pub record Notice : Type 0 where
  pub file : ℕ
  pub tag : Tag

-- a block in the cache
pub record Clean : Type 0 where
  pub file : ℕ
  pub block : ℕ
  pub body : List ℕ

-- the revision of a file's clean blocks
pub record Revision : Type 0 where
  pub file : ℕ
  pub rev : ℕ

-- the call under way: its number, whether its write is to go through, and whether its write was delayed already
pub record UnderWay : Type 0 where
  pub q : ℕ
  pub call : Call
  pub through : Bool
  pub written : Bool

-- what a request is for: the incarnation's beginning, the call under way, the renewal of a lease, or delayed writes
pub data Job : Type 0 where
  attaching : Job
  for_call : Job
  renewing : Job
  pushing : Job

-- the one request under way: its number, when it was first and last sent, and what it is for
pub record Ticket : Type 0 where
  pub xid : ℕ
  pub first : ℕ
  pub last : ℕ
  pub request : Request
  pub job : Job

-- the client: its incarnation, the term that it wants, its time, whether it is attached, the number of its last call,
-- the call and the request under way, until when it pauses, the next sequence, the number of the next request and of
-- the next write; the leases that it holds, notices that wait, losses that no answer named yet; delayed writes in
-- order and those under way; clean blocks with the one that was used last in front, and their revisions. Leases,
-- notices and revisions stand in order of files, one for each; so do losses, those of a file in the order in which
-- they were found
pub record Client : Type 0 where
  pub who : Who
  pub term : ℕ
  pub now : ℕ
  pub attached : Bool
  pub calls : ℕ
  pub call : Option UnderWay
  pub ticket : Option Ticket
  pub pause : ℕ
  pub seq : ℕ
  pub xid : ℕ
  pub number : ℕ
  pub leases : List Lease
  pub notices : List Notice
  pub losses : List Loss
  pub dirty : List Push
  pub push : Option Push
  pub clean : List Clean
  pub revisions : List Revision

-- a step of the client: the state after it, what it sends to the server in order, its entries with the newest first,
-- the answer if the step gave one, and whether a read was answered from the cache
pub record ClientStep : Type 0 where
  pub client : Client
  pub sends : List Message
  pub entries : List Entry
  pub answer : Option Answer
  pub cached : Bool

-- a step that did nothing yet
abbrev pub begun : Client → ClientStep
begun c = record { client = c; sends = []; entries = []; answer = None; cached = false }

-- the step so far, in another state
abbrev pub in_state : ClientStep → Client → ClientStep
in_state t c = record t { client = c }

-- the step so far, and this entry
abbrev pub noting : ClientStep → Entry → ClientStep
noting t entry = record t { entries = entry ∷ t.entries }

-- the lease that is held on a file
abbrev pub lease_on : ℕ → List Lease → Option Lease
lease_on file leases = find (λ l. l.file == file) leases

-- the file of a lease
abbrev pub file_of_lease : Lease → ℕ
file_of_lease l = l.file

-- the leases without that of a file
abbrev pub drop_lease : ℕ → List Lease → List Lease
drop_lease file leases = filter (λ l. not (l.file == file)) leases

-- the leases with this one for its file
abbrev pub put_lease : Lease → List Lease → List Lease
put_lease lease leases = insert_by file_of_lease lease (drop_lease lease.file leases)

-- the notice that waits for a file
abbrev pub notice_on : ℕ → List Notice → Option Notice
notice_on file notices = find (λ n. n.file == file) notices

-- the file of a notice
abbrev pub file_of_notice : Notice → ℕ
file_of_notice n = n.file

-- the notices without that for a file
abbrev pub drop_notice : ℕ → List Notice → List Notice
drop_notice file notices = filter (λ n. not (n.file == file)) notices

-- the notices with this one for its file
abbrev pub put_notice : Notice → List Notice → List Notice
put_notice notice notices = insert_by file_of_notice notice (drop_notice notice.file notices)

-- the losses of a file
abbrev pub losses_of : ℕ → List Loss → List Loss
losses_of file losses = filter (λ l. l.file == file) losses

-- the losses of other files
abbrev pub other_losses : ℕ → List Loss → List Loss
other_losses file losses = filter (λ l. not (l.file == file)) losses

-- the file of a loss
abbrev pub file_of_loss : Loss → ℕ
file_of_loss l = l.file

-- the losses with newly found ones of a file, which go behind those of this file that are there
abbrev pub add_losses : (file : ℕ) → (found losses : List Loss) → List Loss
add_losses file found losses = add_by file_of_loss file found losses

-- whether delayed writes are of this file
abbrev pub is_push_of : ℕ → Push → Bool
is_push_of file p = p.file == file

-- whether delayed writes are of this block
abbrev pub is_push_at : (file block : ℕ) → Push → Bool
is_push_at file block p = p.file == file && p.block == block

-- the first delayed writes of a file
abbrev pub first_dirty : ℕ → List Push → Option Push
first_dirty file dirty = find (is_push_of file) dirty

-- the delayed writes of a block
abbrev pub dirty_at : (file block : ℕ) → List Push → Option Push
dirty_at file block dirty = find (is_push_at file block) dirty

-- the delayed writes without those of a block
abbrev pub drop_dirty : (file block : ℕ) → List Push → List Push
drop_dirty file block dirty = filter (λ p. not (is_push_at file block p)) dirty

-- the delayed writes of other files
abbrev pub other_dirty : ℕ → List Push → List Push
other_dirty file dirty = filter (λ p. not (is_push_of file p)) dirty

-- whether the push under way, if there is one, passes a test
abbrev pub push_passes : (Push → Bool) → Option Push → Bool
push_passes test None = false
push_passes test (Some p) = test p

-- whether a file has no delayed writes, neither in the list nor under way
abbrev pub is_clean_in : (file : ℕ) → List Push → Option Push → Bool
is_clean_in file dirty push = not (list_any (is_push_of file) dirty) && not (push_passes (is_push_of file) push)

-- whether a client has no delayed writes of a file
abbrev pub is_clean : Client → ℕ → Bool
is_clean c file = is_clean_in file c.dirty c.push

-- whether a clean block is this one
abbrev pub is_clean_at : (file block : ℕ) → Clean → Bool
is_clean_at file block k = k.file == file && k.block == block

-- the block in the cache
abbrev pub clean_at : (file block : ℕ) → List Clean → Option Clean
clean_at file block clean = find (is_clean_at file block) clean

-- the cache without a block
abbrev pub drop_clean : (file block : ℕ) → List Clean → List Clean
drop_clean file block clean = filter (λ k. not (is_clean_at file block k)) clean

-- the cache without the blocks of a file
abbrev pub purge : ℕ → List Clean → List Clean
purge file clean = filter (λ k. not (k.file == file)) clean

-- the cache with a block in front; the last one goes where there would be too many
abbrev pub put_clean : (file block : ℕ) (body : List ℕ) → List Clean → List Clean
put_clean file block body clean =
    at_most most_clean (record { file = file; block = block; body = body } ∷ drop_clean file block clean)

-- the revision of a file's clean blocks, if there is one
abbrev pub revision_of : ℕ → List Revision → Option Revision
revision_of file revisions = find (λ r. r.file == file) revisions

-- the file of a revision
abbrev pub file_of_revision : Revision → ℕ
file_of_revision r = r.file

-- the revisions without that of a file
abbrev pub drop_revision : ℕ → List Revision → List Revision
drop_revision file revisions = filter (λ r. not (r.file == file)) revisions

-- the revisions with this one for a file
abbrev pub put_revision : (file rev : ℕ) → List Revision → List Revision
put_revision file rev revisions =
    insert_by file_of_revision (record { file = file; rev = rev }) (drop_revision file revisions)

-- whether an optional revision is this one
abbrev pub is_revision : ℕ → Option Revision → Bool
is_revision rev None = false
is_revision rev (Some r) = r.rev == rev

-- whether an optional revision is the one before this
abbrev pub is_revision_before : ℕ → Option Revision → Bool
is_revision_before rev None = false
is_revision_before rev (Some r) = r.rev + 1 == rev

-- the number of an optional revision, or 0
abbrev pub revision_or_zero : Option Revision → ℕ
revision_or_zero None = 0
revision_or_zero (Some r) = r.rev

-- whether a lease runs by the client's clock
abbrev pub is_live : ℕ → Lease → Bool
is_live now lease = nat_lt now lease.expiry

-- whether a lease runs and lets its holder cache
abbrev pub lets_read : ℕ → Lease → Bool
lets_read now lease = caches lease.mode && is_live now lease

-- whether a lease runs and lets its holder delay writes
abbrev pub lets_write : ℕ → Lease → Bool
lets_write now lease = is_writing lease.mode && is_live now lease

-- whether a lease is to be renewed: it caches, runs, was used and is about to end
abbrev pub renew_due : ℕ → Lease → Bool
renew_due now lease = lets_read now lease && lease.used && nat_le lease.expiry (now + renewal)

-- a lease, marked as used where it is on this file
abbrev pub marked_used : ℕ → Lease → Lease
marked_used file l = if l.file == file then record l { used = true } else l

-- the leases, with that on a file marked as used
abbrev pub used_lease : ℕ → List Lease → List Lease
used_lease file leases = map (marked_used file) leases

-- losses as an answer brings them
abbrev pub loss_list : List Loss → LossList
loss_list losses = record { items = losses; spare = 0 }

-- a loss as a journal names it
abbrev pub span_of : Loss → Span
span_of l = record { block = l.block; first = l.first; last = l.last }

-- losses as a journal names them
abbrev pub span_list : List Loss → SpanList
span_list losses = record { items = map span_of losses; spare = 0 }
