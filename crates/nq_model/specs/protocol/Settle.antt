-- What a call under way needs no packet for: cached reads, delayed writes, and syncs of clean files.
use Rattle.std.specs.Prelude.{ℕ, ◌+◌, Bool, true, false, not, ◌&&◌, List, [], ◌∷◌, ◌++◌, Option, Some, None, map, length, nat_le, is_some, if◌then◌else◌}
use Rattle.nq_base.specs.Block.{value_of}
use Rattle.nq_base.specs.Lists.{LossList}
use Rattle.nq_base.specs.declared.Answer.{Answer}
use Rattle.nq_base.specs.declared.Call.{Call}
use Rattle.nq_base.specs.declared.Call.TheVariants.{Read, Fetch, Write, Put, Sync}
use Rattle.nq_base.specs.declared.Entry.{Entry}
use Rattle.nq_base.specs.declared.Push.{Push}
use Rattle.nq_base.specs.declared.Said.{Said}
use Rattle.nq_base.specs.declared.Value.{Value}
use Rattle.nq_model.specs.protocol.Client.{Lease, Clean, UnderWay, Job, attaching, for_call, renewing, pushing, Ticket, Client, ClientStep, in_state, noting}
use Rattle.nq_model.specs.protocol.Client.{lease_on, notice_on, losses_of, other_losses, is_push_at, dirty_at, push_passes, is_clean, clean_at, drop_clean}
use Rattle.nq_model.specs.protocol.Client.{lets_read, lets_write, used_lease, loss_list, span_list}
use Rattle.nq_model.specs.protocol.Profile.{most_dirty}

-- how a journal tells what an answer brings; a read that the server served names its packet
abbrev pub said_body : (body : List ℕ) → Option ℕ → Said
said_body body None = Said.OkValue (value_of body)
said_body body (Some packet) = Said.OkBy (value_of body) packet

abbrev pub said_value : Value → Option ℕ → Said
said_value Value.Nothing by = Said.Ok
said_value (Value.File file) by = Said.OkValue file
said_value (Value.Blocks blocks) by = Said.OkValue blocks
said_value (Value.Body body) by = said_body body by

-- losses as a journal tells them
abbrev pub said_losses : LossList → Said
said_losses losses = Said.Lost (span_list losses.items)

-- how a journal tells an answer; the last three are no answers that it tells
abbrev pub said : Answer → Option ℕ → Said
said (Answer.Ok value) by = said_value value by
said (Answer.Lost losses) by = said_losses losses
said Answer.Busy by = Said.Busy
said Answer.Stale by = Said.Stale
said Answer.NoEntry by = Said.NoEntry
said Answer.Exists by = Said.Exists
said Answer.NoSpace by = Said.NoSpace
said Answer.Range by = Said.Range
said Answer.DirtyFull by = Said.DirtyFull
said Answer.Pending by = Said.Busy
said Answer.Memory by = Said.Busy
said Answer.Spent by = Said.Busy

-- the answer ends the call under way
unfoldable pub answers : ClientStep → (q : ℕ) → Answer → (by : Option ℕ) → ClientStep
answers t q answer by = record t {
  client = record t.client { call = None };
  entries = Entry.A t.client.who q (said answer by) ∷ t.entries;
  answer = Some answer;
}

-- the answer that names all losses of a file, which are then named
abbrev pub names_losses : ClientStep → (q file : ℕ) → ClientStep
names_losses t q file =
    answers
    (in_state t (record t.client { losses = other_losses file t.client.losses }))
    q
    (Answer.Lost (loss_list (losses_of file t.client.losses)))
    None

-- where a client has a block: delayed, in the push under way, or clean
abbrev pub pushed_body : (file block : ℕ) → Option Push → Option (List ℕ)
pushed_body file block None = None
pushed_body file block (Some p) = if is_push_at file block p then Some p.body else None

abbrev pub clean_body : Option Clean → Option (List ℕ)
clean_body None = None
clean_body (Some k) = Some k.body

abbrev pub held_body : Option Push → Option (List ℕ) → Option (List ℕ) → Option (List ℕ)
held_body (Some p) pushed clean = Some p.body
held_body None (Some body) clean = Some body
held_body None None clean = clean

-- the body that delayed writes have of a block: those of the list, else the push under way
abbrev pub dirty_body : (file block : ℕ) → List Push → Option Push → Option (List ℕ)
dirty_body file block dirty push = held_body (dirty_at file block dirty) (pushed_body file block push) None

-- the body that is there of a block: of the delayed writes, else of the push under way, else of the cache
abbrev pub body_in : (file block : ℕ) → List Push → Option Push → List Clean → Option (List ℕ)
body_in file block dirty push clean =
    held_body (dirty_at file block dirty) (pushed_body file block push) (clean_body (clean_at file block clean))

-- the body that a client has of a block
abbrev pub cached_body : Client → (file block : ℕ) → Option (List ℕ)
cached_body c file block = body_in file block c.dirty c.push c.clean

-- the cache after a block was read: a clean block comes to the front
abbrev pub touched : (file block : ℕ) → Option Clean → List Clean → List Clean
touched file block None clean = clean
touched file block (Some k) clean = k ∷ drop_clean file block clean

-- the cache after a look for a block: it comes to the front if it is there
abbrev pub looked_up : (file block : ℕ) → List Clean → List Clean
looked_up file block clean = touched file block (clean_at file block clean) clean

-- whether a block is read from the cache, and not from delayed writes
abbrev pub reads_clean_in : (file block : ℕ) → List Push → Option Push → Bool
reads_clean_in file block dirty push =
    not (is_some (dirty_at file block dirty)) && not (push_passes (is_push_at file block) push)

abbrev pub reads_clean : Client → (file block : ℕ) → Bool
reads_clean c file block = reads_clean_in file block c.dirty c.push

-- the cache after a block was read
abbrev pub clean_after_read : (file block : ℕ) → List Push → Option Push → List Clean → List Clean
clean_after_read file block dirty push clean =
    if reads_clean_in file block dirty push then looked_up file block clean else clean

-- the client after a block was read from what it has: the lease was used
unfoldable pub after_read : Client → (file block : ℕ) → Client
after_read c file block = record c {
  leases = used_lease file c.leases;
  clean = clean_after_read file block c.dirty c.push c.clean;
}

-- a read is answered from what the client has
unfoldable pub reads_cached : ClientStep → UnderWay → (file block : ℕ) → (body : List ℕ) → ClientStep
reads_cached t u file block body =
    record (answers
    (noting
    (in_state t (after_read t.client file block))
    (Entry.R t.client.who u.q file block (value_of body) None))
    u.q
    (Answer.Ok (Value.Body body))
    None) { cached = true }

-- a read under a lease that lets it, by what the client has
abbrev pub settle_body : ClientStep → UnderWay → (file block : ℕ) → Option (List ℕ) → ClientStep
settle_body t u file block None = t
settle_body t u file block (Some body) = reads_cached t u file block body

abbrev pub settle_read : ClientStep → UnderWay → (file block : ℕ) → Option Lease → ClientStep
settle_read t u file block None = t
settle_read t u file block (Some lease) =
    if lets_read t.client.now lease
    then (if nat_le lease.blocks block
    then answers t u.q Answer.Range None
    else settle_body t u file block (cached_body t.client file block))
    else t

-- the delayed writes with one more: a block that is there keeps its place and its first write
abbrev pub overwritten : (number : ℕ) (body : List ℕ) → Push → Push
overwritten number body p = record p { last = number; body = body }

abbrev pub overwritten_at : (file block number : ℕ) (body : List ℕ) → Push → Push
overwritten_at file block number body p = if is_push_at file block p then overwritten number body p else p

abbrev pub with_write : (file block number : ℕ) (body : List ℕ) → List Push → Option Push → List Push
with_write file block number body dirty (Some p) = map (overwritten_at file block number body) dirty
with_write file block number body dirty None =
    dirty ++ record { file = file; block = block; first = number; last = number; body = body } ∷ []

-- the delayed writes after one more
abbrev pub write_in : (file block number : ℕ) (body : List ℕ) → List Push → List Push
write_in file block number body dirty = with_write file block number body dirty (dirty_at file block dirty)

-- how many blocks are delayed or under way
abbrev pub pending_in : List Push → Option Push → ℕ
pending_in dirty push = length dirty + (if is_some push then 1 else 0)

-- whether a write finds no room: as many blocks as there may be are delayed or under way, and this is not one of those
-- that are delayed
abbrev pub is_full_in : (file block : ℕ) → List Push → Option Push → Bool
is_full_in file block dirty push = nat_le most_dirty (pending_in dirty push) && not (is_some (dirty_at file block dirty))

abbrev pub pending : Client → ℕ
pending c = pending_in c.dirty c.push

abbrev pub is_full : Client → (file block : ℕ) → Bool
is_full c file block = is_full_in file block c.dirty c.push

-- the client after a write was delayed
unfoldable pub after_write : Client → (file block : ℕ) (body : List ℕ) → Client
after_write c file block body = record c {
  number = c.number + 1;
  leases = used_lease file c.leases;
  clean = drop_clean file block c.clean;
  dirty = write_in file block c.number body c.dirty;
}

-- the step after a write was delayed
abbrev pub delays : ClientStep → (file block : ℕ) (body : List ℕ) → ClientStep
delays t file block body =
    noting
    (in_state t (after_write t.client file block body))
    (Entry.W t.client.who file block t.client.number (value_of body) false)

-- the call under way, whose write was delayed now
unfoldable pub marks_written : ClientStep → UnderWay → ClientStep
marks_written t u = in_state t (record t.client { call = Some (record u { written = true }) })

-- what comes after a write was delayed: `write` is answered, `put` waits until it is stored
abbrev pub after_delay : ClientStep → UnderWay → (sync : Bool) → ClientStep
after_delay t u true = marks_written t u
after_delay t u false = answers t u.q (Answer.Ok Value.Nothing) None

-- a write under a lease that lets it
abbrev pub settle_write_in : ClientStep → UnderWay → (sync : Bool) (file block : ℕ) (body : List ℕ) → Lease → ClientStep
settle_write_in t u sync file block body lease =
    if nat_le lease.blocks block
    then answers t u.q Answer.Range None
    else (if is_full t.client file block
    then answers t u.q Answer.DirtyFull None
    else after_delay (delays t file block body) u sync)

-- a write: it is delayed under a writing lease that runs and is not to be given up, unless it is to go through
abbrev pub settle_write : ClientStep → UnderWay → (sync : Bool) (file block : ℕ) (body : List ℕ) → Option Lease → ClientStep
settle_write t u sync file block body None = t
settle_write t u sync file block body (Some lease) =
    if lets_write t.client.now lease && not (is_some (notice_on file t.client.notices)) && not u.through
    then settle_write_in t u sync file block body lease
    else t

-- a sync, or a put whose write was delayed: it is answered once the file is clean
abbrev pub settle_sync : ClientStep → UnderWay → (file : ℕ) → ClientStep
settle_sync t u file = if is_clean t.client file then answers t u.q (Answer.Ok Value.Nothing) None else t

-- a put, by whether its write was delayed
abbrev pub settle_put : ClientStep → UnderWay → (written : Bool) (file block : ℕ) (body : List ℕ) → ClientStep
settle_put t u true file block body = settle_sync t u file
settle_put t u false file block body = settle_write t u true file block body (lease_on file t.client.leases)

-- the call under way, by what it is
abbrev pub settle_call : ClientStep → UnderWay → Call → ClientStep
settle_call t u (Read file block) = settle_read t u file block (lease_on file t.client.leases)
settle_call t u (Fetch file block) = settle_read t u file block (lease_on file t.client.leases)
settle_call t u (Write file block body) = settle_write t u false file block body (lease_on file t.client.leases)
settle_call t u (Put file block body) = settle_put t u u.written file block body
settle_call t u (Sync file) = settle_sync t u file
settle_call t u other = t

-- whether the request under way is the call's own
abbrev pub is_for_call : Job → Bool
is_for_call for_call = true
is_for_call attaching = false
is_for_call renewing = false
is_for_call pushing = false

abbrev pub ticket_is_for_call : Option Ticket → Bool
ticket_is_for_call None = false
ticket_is_for_call (Some ticket) = is_for_call ticket.job

-- the call under way, if there is one whose request is not under way
abbrev pub settle_under_way : ClientStep → Option UnderWay → ClientStep
settle_under_way t None = t
settle_under_way t (Some u) = if ticket_is_for_call t.client.ticket then t else settle_call t u u.call

-- what the call under way needs no packet for
abbrev pub settle : ClientStep → ClientStep
settle t = settle_under_way t t.client.call
