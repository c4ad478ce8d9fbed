-- What a call under way needs no packet for, in the steps of the code.
use Rattle.std.specs.Prelude.{ℕ, Bool, true, false, not, ◌&&◌, List, ◌∷◌, Option, Some, None, is_some, nat_le, if◌then◌else◌}
use Rattle.nq_base.specs.Block.{filled, value_of}
use Rattle.nq_base.specs.declared.Answer.{Answer}
use Rattle.nq_base.specs.declared.Entry.{Entry}
use Rattle.nq_base.specs.declared.Said.{Said}
use Rattle.nq_base.specs.declared.Value.{Value}
use Rattle.nq_client_parts.specs.Calls.{body_of_call}
use Rattle.nq_model.specs.protocol.Client.{Lease, ClientStep, UnderWay, in_state, is_clean, lease_on, lets_read, lets_write, notice_on, noting}
use Rattle.nq_model.specs.protocol.Settle.{after_read, answers, cached_body, delays, is_full}

-- an answer, as a journal tells it, ends the call under way
abbrev pub ended : ClientStep → (q : ℕ) → Answer → Said → ClientStep
ended t q answer said = record t {
  client = record t.client { call = None };
  entries = Entry.A t.client.who q said ∷ t.entries;
  answer = Some answer;
}

-- a read under a lease that lets it, by what the client has
abbrev pub settles_body : ClientStep → (q file block : ℕ) → Option (List ℕ) → ClientStep
settles_body t q file block None = t
settles_body t q file block (Some body) =
    record (answers
    (noting
    (in_state t (after_read t.client file block))
    (Entry.R t.client.who q file block (value_of body) None))
    q
    (Answer.Ok (Value.Body body))
    None) { cached = true }

-- a read, by the lease that is held
abbrev pub settles_read : ClientStep → (q file block : ℕ) → Option Lease → ClientStep
settles_read t q file block None = t
settles_read t q file block (Some lease) =
    if lets_read t.client.now lease
    then (if nat_le lease.blocks block
    then answers t q Answer.Range None
    else settles_body t q file block (cached_body t.client file block))
    else t

-- the call under way, whose write was delayed now
abbrev pub with_written : Option UnderWay → Option UnderWay
with_written None = None
with_written (Some u) = Some (record u { written = true })

-- what comes after the write of the call under way was delayed: it is answered, or waits until it is stored
abbrev pub goes_on_delayed : ClientStep → (q : ℕ) → (sync : Bool) → ClientStep
goes_on_delayed t q true = in_state t (record t.client { call = with_written t.client.call })
goes_on_delayed t q false = answers t q (Answer.Ok Value.Nothing) None

-- the block that the call under way writes
abbrev pub called_body : Option UnderWay → List ℕ
called_body None = filled 0
called_body (Some u) = body_of_call u.call

-- a write under a lease that lets it
abbrev pub writes : ClientStep → (q : ℕ) → (sync : Bool) (file block : ℕ) (body : List ℕ) → ClientStep
writes t q sync file block body =
    if is_full t.client file block
    then answers t q Answer.DirtyFull None
    else goes_on_delayed (delays t file block body) q sync

-- a write, by the lease that is held
abbrev pub settles_write : ClientStep → (q : ℕ) → (through sync : Bool) (file block : ℕ) (body : List ℕ) → Option Lease → ClientStep
settles_write t q through sync file block body None = t
settles_write t q through sync file block body (Some lease) =
    if lets_write t.client.now lease && not (is_some (notice_on file t.client.notices)) && not through
    then (if nat_le lease.blocks block then answers t q Answer.Range None else writes t q sync file block body)
    else t

-- a sync, or a put whose write was delayed
abbrev pub settles_sync : ClientStep → (q file : ℕ) → ClientStep
settles_sync t q file = if is_clean t.client file then answers t q (Answer.Ok Value.Nothing) None else t

-- a put, by whether its write was delayed
abbrev pub settles_put : ClientStep → (q : ℕ) → (written through : Bool) (file block : ℕ) (body : List ℕ) → ClientStep
settles_put t q true through file block body = settles_sync t q file
settles_put t q false through file block body =
    settles_write t q through true file block body (lease_on file t.client.leases)
