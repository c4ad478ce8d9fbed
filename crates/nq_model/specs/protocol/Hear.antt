-- What a client makes of a datagram: the reply to its request, or a notice.
use Rattle.std.specs.Prelude.{ℕ, ◌+◌, ◌==◌, Bool, true, false, not, ◌&&◌, List, [], ◌∷◌, ◌++◌, Option, Some, None, map, filter, reverse, is_some}
use Rattle.std.specs.Prelude.{if◌then◌else◌}
use Rattle.nq_base.specs.declared.Answer.{Answer}
use Rattle.nq_base.specs.declared.Call.{Call}
use Rattle.nq_base.specs.declared.Call.TheVariants.{Put, Sync, Resize, Remove}
use Rattle.nq_base.specs.declared.Entry.{Entry}
use Rattle.nq_base.specs.declared.Grant.{Grant}
use Rattle.nq_base.specs.declared.Loss.{Loss}
use Rattle.nq_base.specs.declared.Push.{Push}
use Rattle.nq_base.specs.declared.Refusal.{Refusal}
use Rattle.nq_base.specs.declared.Reply.{Reply}
use Rattle.nq_base.specs.declared.Request.{Request}
use Rattle.nq_base.specs.declared.Tag.{Tag}
use Rattle.nq_base.specs.declared.Value.{Value}
use Rattle.nq_base.specs.declared.Want.{Want}
use Rattle.nq_base.specs.declared.Who.{Who}
use Rattle.nq_model.specs.protocol.Client.{Lease, Notice, UnderWay, Job, attaching, for_call, renewing, pushing, Ticket, Client, ClientStep, Clean, Revision}
use Rattle.nq_model.specs.protocol.Client.{begun, in_state, lease_on, drop_lease, put_lease, notice_on, drop_notice, put_notice, add_losses, is_push_of}
use Rattle.nq_model.specs.protocol.Client.{dirty_at, is_clean, other_dirty, put_clean, purge, revision_of, put_revision, is_revision, is_revision_before}
use Rattle.nq_model.specs.protocol.Message.{Message, call, reply, error}
use Rattle.nq_model.specs.protocol.Profile.{patience}
use Rattle.nq_model.specs.protocol.Send.{send_next}
use Rattle.nq_model.specs.protocol.Settle.{answers, names_losses, settle}
use Rattle.nq_model.specs.protocol.Table.{caches, same_who, tag_below, later_tag}

-- the incarnation that a reply repeats
abbrev pub inc_of : Reply → ℕ
inc_of Reply.Null = 0
inc_of (Reply.Attach inc) = inc
inc_of (Reply.Lookup inc file blocks) = inc
inc_of (Reply.Create inc file) = inc
inc_of (Reply.GetAttr inc blocks rev) = inc
inc_of (Reply.Read inc rev body grant) = inc
inc_of (Reply.Write inc rev) = inc
inc_of (Reply.GetLease inc grant) = inc
inc_of (Reply.Resize inc rev) = inc
inc_of (Reply.Remove inc) = inc
inc_of (Reply.Refused inc status) = inc

-- the step after a notice's lease was given up: VACATED takes the next number
unfoldable pub vacates_lease : ClientStep → (file : ℕ) → Tag → ClientStep
vacates_lease t file tag = record t {
  client = record t.client {
    xid = t.client.xid + 1;
    leases = drop_lease file t.client.leases;
    notices = drop_notice file t.client.notices;
  };
  sends = t.sends ++ call t.client.xid (Request.Vacated t.client.who file tag) ∷ [];
}

-- where a notice waits for a file, its lease is given up and VACATED is sent
abbrev pub vacates_noticed : ClientStep → (file : ℕ) → Option Notice → ClientStep
vacates_noticed t file None = t
vacates_noticed t file (Some n) = vacates_lease t file n.tag

-- delayed writes that were lost
abbrev pub loss_of : Push → Loss
loss_of p = record { file = p.file; block = p.block; first = p.first; last = p.last }

-- the push under way, if it is of this file
abbrev pub push_of : (file : ℕ) → Option Push → List Push
push_of file None = []
push_of file (Some p) = if is_push_of file p then p ∷ [] else []

-- all delayed writes of a file: those under way, then the others in order
abbrev pub all_dirty_in : (file : ℕ) → List Push → Option Push → List Push
all_dirty_in file dirty push = push_of file push ++ filter (is_push_of file) dirty

abbrev pub all_dirty : Client → ℕ → List Push
all_dirty c file = all_dirty_in file c.dirty c.push

-- the losses where all delayed writes of a file are lost
abbrev pub losses_in : (file : ℕ) → List Push → Option Push → List Loss
losses_in file dirty push = map loss_of (all_dirty_in file dirty push)

-- the entry of a loss
abbrev pub loss_entry : Who → Push → Entry
loss_entry who p = Entry.L who p.file p.block p.first p.last

-- the push under way, unless it is of this file
abbrev pub other_push : (file : ℕ) → Option Push → Option Push
other_push file None = None
other_push file (Some p) = if is_push_of file p then None else Some p

-- all delayed writes of a file are lost; no answer named them yet
unfoldable pub loses : ClientStep → (file : ℕ) → ClientStep
loses t file = record t {
  client = record t.client {
    dirty = other_dirty file t.client.dirty;
    push = other_push file t.client.push;
    losses = add_losses file (losses_in file t.client.dirty t.client.push) t.client.losses;
  };
  entries = reverse (map (loss_entry t.client.who) (all_dirty t.client file)) ++ t.entries;
}

-- whether a call waits until a file is clean: a sync, a resize, a removal, or a put whose write was delayed
abbrev pub waits_for : (file : ℕ) (written : Bool) → Call → Bool
waits_for file written (Sync f) = f == file
waits_for file written (Resize f blocks) = f == file
waits_for file written (Remove f) = f == file
waits_for file written (Put f block body) = f == file && written
waits_for file written other = false

-- a call that waits until the file is clean is answered with its losses
abbrev pub reports_to : ClientStep → (file : ℕ) → Option UnderWay → ClientStep
reports_to t file None = t
reports_to t file (Some u) = if waits_for file u.written u.call then names_losses t u.q file else t

abbrev pub reports : ClientStep → (file : ℕ) → ClientStep
reports t file = reports_to t file t.client.call

-- the client without a lease on a file
unfoldable pub without_lease : ClientStep → (file : ℕ) → ClientStep
without_lease t file = in_state t (record t.client { leases = drop_lease file t.client.leases })

-- a push is refused: its file's delayed writes are lost, the lease is held no more, a notice is answered, and a call
-- that waits is told
abbrev pub push_refused : ClientStep → (file : ℕ) → ClientStep
push_refused t file =
    let lost = loses t file in
    let unleased = without_lease lost file in
    let vacated = vacates_noticed unleased file (notice_on file t.client.notices) in
    reports vacated file

-- a lease as it is granted; its term counts from the first sending of the request
unfoldable pub granted_lease : (file : ℕ) → Grant → (sent : ℕ) → Lease
granted_lease file g sent = record {
  file = file;
  mode = g.mode;
  tag = g.tag;
  term = g.term;
  expiry = sent + g.term;
  blocks = g.blocks;
  used = false;
}

-- whether a grant breaks the chain of the lease that is held
abbrev pub breaks : Grant → Option Lease → Bool
breaks g None = false
breaks g (Some lease) = tag_below lease.tag g.since

-- a broken chain over a file with delayed writes loses them
abbrev pub breaks_chain : ClientStep → (file : ℕ) → ClientStep
breaks_chain t file =
    let lost = loses t file in
    let vacated = vacates_noticed lost file (notice_on file t.client.notices) in
    reports vacated file

abbrev pub if_broken : ClientStep → (file : ℕ) → Grant → ClientStep
if_broken t file g =
    if breaks g (lease_on file t.client.leases) && not (is_clean t.client file) then breaks_chain t file else t

-- the cache where a file has this revision: clean blocks of another one go
abbrev pub clean_at_revision : (file rev : ℕ) → List Revision → List Clean → List Clean
clean_at_revision file rev revisions clean =
    if is_revision rev (revision_of file revisions) then clean else purge file clean

-- the client with a granted lease; clean blocks of another revision go
unfoldable pub holds : ClientStep → (file : ℕ) → Grant → (sent : ℕ) → ClientStep
holds t file g sent = in_state t (record t.client {
  leases = put_lease (granted_lease file g sent) t.client.leases;
  clean = clean_at_revision file g.rev t.client.revisions t.client.clean;
  revisions = put_revision file g.rev t.client.revisions;
})

-- a grant is taken
abbrev pub takes_grant : ClientStep → (file : ℕ) → Grant → (sent : ℕ) → ClientStep
takes_grant t file g sent = holds (if_broken t file g) file g sent

-- a grant is taken, if there is one
abbrev pub takes_optional : ClientStep → (file : ℕ) → Option Grant → (sent : ℕ) → ClientStep
takes_optional t file None sent = t
takes_optional t file (Some g) sent = takes_grant t file g sent

-- the answer to the call under way, if there is one
abbrev pub answers_call_of : ClientStep → Answer → (by : Option ℕ) → Option UnderWay → ClientStep
answers_call_of t answer by None = t
answers_call_of t answer by (Some u) = answers t u.q answer by

abbrev pub answers_call : ClientStep → Answer → (by : Option ℕ) → ClientStep
answers_call t answer by = answers_call_of t answer by t.client.call

-- the client with one more clean block
unfoldable pub caches_block : ClientStep → (file block : ℕ) (body : List ℕ) → ClientStep
caches_block t file block body =
    in_state t (record t.client { clean = put_clean file block body t.client.clean })

-- the client without the clean blocks of a file
unfoldable pub purges : ClientStep → (file : ℕ) → ClientStep
purges t file = in_state t (record t.client { clean = purge file t.client.clean })

-- the client with this revision of a file
unfoldable pub knows_revision : ClientStep → (file rev : ℕ) → ClientStep
knows_revision t file rev =
    in_state t (record t.client { revisions = put_revision file rev t.client.revisions })

-- whether a grant, if there is one, lets its holder cache
abbrev pub grant_caches : Option Grant → Bool
grant_caches None = false
grant_caches (Some g) = caches g.mode

-- a block that was read is cached under a caching grant
abbrev pub then_caches : ClientStep → (file block : ℕ) (body : List ℕ) → Option Grant → ClientStep
then_caches t file block body g = if grant_caches g then caches_block t file block body else t

-- READ was answered: the grant is taken, the block is cached under it, and the call is answered by this packet
abbrev pub read_done : ClientStep → (file block : ℕ) (body : List ℕ) → Option Grant → (sent number : ℕ) → ClientStep
read_done t file block body g sent number =
    answers_call (then_caches (takes_optional t file g sent) file block body g) (Answer.Ok (Value.Body body)) (Some number)

-- the call under way, whose write is to go through (or not)
abbrev pub with_through : Bool → Option UnderWay → Option UnderWay
with_through on None = None
with_through on (Some u) = Some (record u { through = on })

unfoldable pub marks_through : Bool → ClientStep → ClientStep
marks_through on t = in_state t (record t.client { call = with_through on t.client.call })

-- GETLEASE of the call was answered: without a caching grant the write is to go through
abbrev pub lease_done : ClientStep → (file : ℕ) → Option Grant → (sent : ℕ) → ClientStep
lease_done t file g sent =
    if grant_caches g then takes_optional t file g sent else marks_through true (takes_optional t file g sent)

-- whether a caching lease is held, live or not
abbrev pub holds_caching : Option Lease → Bool
holds_caching None = false
holds_caching (Some lease) = caches lease.mode

-- the block of a write that went through is cached where nothing else changed since the client's revision; else the
-- file's clean blocks go
abbrev pub caches_write : ClientStep → (file block : ℕ) (body : List ℕ) → (rev : ℕ) → ClientStep
caches_write t file block body rev =
    if holds_caching (lease_on file t.client.leases) && is_revision_before rev (revision_of file t.client.revisions)
    then caches_block t file block body
    else purges t file

-- a WRITE that goes through was done
abbrev pub write_done : ClientStep → (file block : ℕ) (body : List ℕ) → (rev : ℕ) → ClientStep
write_done t file block body rev =
    answers_call (knows_revision (caches_write t file block body rev) file rev) (Answer.Ok Value.Nothing) None

-- the push under way was stored
unfoldable pub ends_push : ClientStep → ClientStep
ends_push t = in_state t (record t.client { push = None })

-- the block of a stored push is cached, unless it is dirty again
abbrev pub caches_push : ClientStep → (file block : ℕ) (body : List ℕ) → ClientStep
caches_push t file block body =
    if is_some (dirty_at file block t.client.dirty) then t else caches_block t file block body

-- where a file is clean and a notice waits for it, the lease is given up
abbrev pub vacates_if_clean : ClientStep → (file : ℕ) → ClientStep
vacates_if_clean t file =
    if is_clean t.client file then vacates_noticed t file (notice_on file t.client.notices) else t

-- a push was done
abbrev pub push_done : ClientStep → (file block : ℕ) (body : List ℕ) → (rev : ℕ) → ClientStep
push_done t file block body rev =
    vacates_if_clean (caches_push (knows_revision (ends_push t) file rev) file block body) file

-- what a refusal answers a call with
abbrev pub answer_of : Refusal → Answer
answer_of Refusal.NoEnt = Answer.NoEntry
answer_of Refusal.Exist = Answer.Exists
answer_of Refusal.Inval = Answer.Range
answer_of Refusal.NoSpc = Answer.NoSpace
answer_of Refusal.Stale = Answer.Stale
answer_of Refusal.TryLater = Answer.Busy
answer_of Refusal.Fenced = Answer.Busy
answer_of Refusal.NotAttached = Answer.Busy
answer_of Refusal.Old = Answer.Busy

-- whether a refusal says that the request is put off
abbrev pub is_put_off : Refusal → Bool
is_put_off Refusal.TryLater = true
is_put_off Refusal.NotAttached = true
is_put_off Refusal.Old = true
is_put_off other = false

-- whether a refusal of LOOKUP, CREATE or GETATTR counts
abbrev pub counts_for_name : Refusal → Bool
counts_for_name Refusal.Fenced = false
counts_for_name other = true

-- whether a refusal of READ, or of a WRITE that goes through, counts
abbrev pub counts_for_block : Refusal → Bool
counts_for_block Refusal.Inval = true
counts_for_block Refusal.Stale = true
counts_for_block other = is_put_off other

-- whether a refusal of the call's GETLEASE counts
abbrev pub counts_for_lease : Refusal → Bool
counts_for_lease Refusal.Stale = true
counts_for_lease other = is_put_off other

-- whether a refusal of RESIZE or REMOVE counts
abbrev pub counts_for_change : Refusal → Bool
counts_for_change Refusal.NoEnt = false
counts_for_change Refusal.Exist = false
counts_for_change Refusal.Fenced = false
counts_for_change other = true

-- whether a refusal of the call's request counts, by the request
abbrev pub counts_for_call : Refusal → Request → Bool
counts_for_call status (Request.Lookup who name) = counts_for_name status
counts_for_call status (Request.Create who seq name blocks) = counts_for_name status
counts_for_call status (Request.GetAttr who file) = counts_for_name status
counts_for_call status (Request.Read who q file block want) = counts_for_block status
counts_for_call status (Request.Write who seq file block first last push body) = counts_for_block status
counts_for_call status (Request.GetLease who file want) = counts_for_lease status
counts_for_call status (Request.Resize who seq q file blocks) = counts_for_change status
counts_for_call status (Request.Remove who seq q file) = counts_for_change status
counts_for_call status other = false

-- whether a refusal of the request under way counts
abbrev pub refusal_counts : Refusal → Request → Job → Bool
refusal_counts status request attaching = false
refusal_counts status request for_call = counts_for_call status request
refusal_counts status request renewing = true
refusal_counts status request pushing = not (is_put_off status)

-- whether a reply is of a request's procedure
abbrev pub is_of_procedure : Reply → Request → Bool
is_of_procedure (Reply.Attach inc) (Request.Attach who) = true
is_of_procedure (Reply.Lookup inc file blocks) (Request.Lookup who name) = true
is_of_procedure (Reply.Create inc file) (Request.Create who seq name blocks) = true
is_of_procedure (Reply.GetAttr inc blocks rev) (Request.GetAttr who file) = true
is_of_procedure (Reply.Read inc rev body grant) (Request.Read who q file block want) = true
is_of_procedure (Reply.Write inc rev) (Request.Write who seq file block first last push body) = true
is_of_procedure (Reply.GetLease inc grant) (Request.GetLease who file want) = true
is_of_procedure (Reply.Resize inc rev) (Request.Resize who seq q file blocks) = true
is_of_procedure (Reply.Remove inc) (Request.Remove who seq q file) = true
is_of_procedure other request = false

-- whether a reply counts: it is of the request's procedure, or a refusal that counts for it
abbrev pub reply_counts : Reply → Ticket → Bool
reply_counts (Reply.Refused inc status) ticket = refusal_counts status ticket.request ticket.job
reply_counts other ticket = is_of_procedure other ticket.request

-- the client without a request under way
unfoldable pub spends : ClientStep → ClientStep
spends t = in_state t (record t.client { ticket = None })

-- the client is attached
unfoldable pub attached : ClientStep → ClientStep
attached t = in_state t (record t.client { attached = true })

-- a request was put off: the client pauses, and a write is not to go through any more
unfoldable pub pauses : ClientStep → ClientStep
pauses t = marks_through false (in_state t (record t.client { pause = t.client.now + patience }))

-- the call's request was done
abbrev pub done_for_call : ClientStep → (number sent : ℕ) → Request → Reply → ClientStep
done_for_call t number sent (Request.Lookup who name) (Reply.Lookup inc file blocks) =
    answers_call t (Answer.Ok (Value.File file)) None
done_for_call t number sent (Request.Create who seq name blocks) (Reply.Create inc file) =
    answers_call t (Answer.Ok (Value.File file)) None
done_for_call t number sent (Request.GetAttr who file) (Reply.GetAttr inc blocks rev) =
    answers_call t (Answer.Ok (Value.Blocks blocks)) None
done_for_call t number sent (Request.Read who q file block want) (Reply.Read inc rev body grant) =
    read_done t file block body grant sent number
done_for_call t number sent (Request.GetLease who file want) (Reply.GetLease inc grant) = lease_done t file grant sent
done_for_call t number sent (Request.Write who seq file block first last push body) (Reply.Write inc rev) =
    write_done t file block body rev
done_for_call t number sent (Request.Resize who seq q file blocks) (Reply.Resize inc rev) =
    answers_call (knows_revision t file rev) (Answer.Ok Value.Nothing) None
done_for_call t number sent (Request.Remove who seq q file) (Reply.Remove inc) =
    answers_call t (Answer.Ok Value.Nothing) None
done_for_call t number sent request other = t

-- the request under way was done
abbrev pub done_renewal : ClientStep → (sent : ℕ) → Request → Reply → ClientStep
done_renewal t sent (Request.GetLease who file want) (Reply.GetLease inc grant) = takes_optional t file grant sent
done_renewal t sent request other = t

abbrev pub done_push : ClientStep → Request → Reply → ClientStep
done_push t (Request.Write who seq file block first last push body) (Reply.Write inc rev) =
    push_done t file block body rev
done_push t request other = t

abbrev pub done : ClientStep → (number : ℕ) → Ticket → Job → Reply → ClientStep
done t number ticket attaching r = attached t
done t number ticket for_call r = done_for_call t number ticket.first ticket.request r
done t number ticket renewing r = done_renewal t ticket.first ticket.request r
done t number ticket pushing r = done_push t ticket.request r

-- the request under way was refused
abbrev pub refused_push : ClientStep → Request → ClientStep
refused_push t (Request.Write who seq file block first last push body) = push_refused t file
refused_push t other = t

abbrev pub refused : ClientStep → Refusal → Ticket → Job → ClientStep
refused t status ticket attaching = t
refused t status ticket for_call = if is_put_off status then pauses t else answers_call t (answer_of status) None
refused t status ticket renewing = if is_put_off status then pauses t else t
refused t status ticket pushing = refused_push t ticket.request

-- the request under way was answered, and is spent
abbrev pub replied : ClientStep → (number : ℕ) → Ticket → Reply → ClientStep
replied t number ticket (Reply.Refused inc status) = refused (spends t) status ticket ticket.job
replied t number ticket other = done (spends t) number ticket ticket.job other

-- whether a request carries a want for a file
abbrev pub wants_optional : Option Want → Bool
wants_optional None = false
wants_optional (Some want) = true

abbrev pub wants_of : (file : ℕ) → Request → Bool
wants_of file (Request.Read who q f block want) = f == file && wants_optional want
wants_of file (Request.GetLease who f want) = f == file
wants_of file other = false

-- a request that wants a lease on the file is cancelled
abbrev pub cancelled : (file : ℕ) → Option Ticket → Option Ticket
cancelled file None = None
cancelled file (Some ticket) = if wants_of file ticket.request then None else Some ticket

unfoldable pub cancels : ClientStep → (file : ℕ) → ClientStep
cancels t file = in_state t (record t.client { ticket = cancelled file t.client.ticket })

-- the later of a notice's tag and one that waits
abbrev pub noticed_tag : Tag → Option Notice → Tag
noticed_tag tag None = tag
noticed_tag tag (Some n) = later_tag n.tag tag

-- the notices with one more; of two for a file the later tag stays
abbrev pub with_notice : (file : ℕ) → Tag → List Notice → List Notice
with_notice file tag notices = put_notice (record { file = file; tag = noticed_tag tag (notice_on file notices) }) notices

-- a notice waits until the file is clean
unfoldable pub notes_notice : ClientStep → (file : ℕ) → Tag → ClientStep
notes_notice t file tag = in_state t (record t.client {
  notices = with_notice file tag t.client.notices;
})

-- a notice: a clean file's lease is given up at once
abbrev pub evicted : ClientStep → (file : ℕ) → Tag → ClientStep
evicted t file tag = if is_clean t.client file then vacates_lease t file tag else notes_notice t file tag

-- whether a lease with a later tag is held
abbrev pub holds_later : Tag → Option Lease → Bool
holds_later tag None = false
holds_later tag (Some lease) = tag_below tag lease.tag

-- whether the reply to a request is one that counts for it
abbrev pub is_reply_to : Client → (xid : ℕ) → Reply → Ticket → Bool
is_reply_to c xid r ticket = xid == ticket.xid && inc_of r == c.who.inc && reply_counts r ticket

-- what comes after a datagram that counted: calls that need no packet, and the next request
abbrev pub goes_on : ClientStep → ClientStep
goes_on t = send_next false (settle t)

-- a reply: None where it is ignored
abbrev pub hear_reply : Client → (number xid : ℕ) → Reply → Option Ticket → Option ClientStep
hear_reply c number xid r None = None
hear_reply c number xid r (Some ticket) =
    if is_reply_to c xid r ticket then Some (goes_on (replied (begun c) number ticket r)) else None

-- a notice: None where it is ignored
abbrev pub hear_notice : Client → Who → (file : ℕ) → Tag → Option ClientStep
hear_notice c who file tag =
    if same_who who c.who && not (holds_later tag (lease_on file c.leases))
    then Some (goes_on (evicted (cancels (begun c) file) file tag))
    else None

abbrev pub hear_call : Client → Request → Option ClientStep
hear_call c (Request.Evicted who file tag) = hear_notice c who file tag
hear_call c other = None

-- a datagram, which is the packet of this number: None where it is ignored
abbrev pub hear : Client → (number : ℕ) → Message → Option ClientStep
hear c number (reply xid r) = hear_reply c number xid r c.ticket
hear c number (call xid request) = hear_call c request
hear c number (error xid e) = None
