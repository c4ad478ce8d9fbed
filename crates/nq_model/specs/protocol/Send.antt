-- The next request: what a client sends where none is under way.
use Rattle.std.specs.Prelude.{ℕ, ◌+◌, Bool, true, false, not, ◌&&◌, ◌||◌, List, [], ◌∷◌, ◌++◌, Option, Some, None, map, filter, nat_lt, nat_le}
use Rattle.std.specs.Prelude.{is_some, if◌then◌else◌}
use Rattle.nq_base.specs.declared.Call.{Call}
use Rattle.nq_base.specs.declared.Call.TheVariants.{Create, Lookup, Attr, Read, Fetch, Write, Put, Sync, Resize, Remove}
use Rattle.nq_base.specs.declared.Mode.{Mode}
use Rattle.nq_base.specs.declared.Push.{Push}
use Rattle.nq_base.specs.declared.PushBase.{PushBase}
use Rattle.nq_base.specs.declared.Request.{Request}
use Rattle.nq_base.specs.declared.Want.{Want}
use Rattle.nq_model.specs.protocol.Client.{Lease, Notice, UnderWay, Job, for_call, renewing, pushing, Client, ClientStep, Revision, in_state, file_of_lease}
use Rattle.nq_model.specs.protocol.Client.{file_of_notice, lease_on, drop_lease, notice_on, first_dirty, drop_dirty, is_clean_in, is_clean, purge, revision_of}
use Rattle.nq_model.specs.protocol.Client.{revision_or_zero, is_live, renew_due}
use Rattle.nq_model.specs.protocol.Message.{call}
use Rattle.nq_model.specs.protocol.Profile.{renewal}
use Rattle.nq_model.specs.protocol.Table.{caches, is_writing}

-- a request is sent: it takes the next number, and is under way from now on
unfoldable pub sends_request : ClientStep → Job → Request → ClientStep
sends_request t job request = record t {
  client = record t.client {
    xid = t.client.xid + 1;
    ticket = Some (record {
      xid = t.client.xid;
      first = t.client.now;
      last = t.client.now;
      request = request;
      job = job;
    });
  };
  sends = t.sends ++ call t.client.xid request ∷ [];
}

-- the client after it took a sequence
unfoldable pub after_seq : ClientStep → ClientStep
after_seq t = in_state t (record t.client { seq = t.client.seq + 1 })

-- the client after it took a sequence and a write number
unfoldable pub after_number : ClientStep → ClientStep
after_number t = in_state t (record t.client { seq = t.client.seq + 1; number = t.client.number + 1 })

-- the boot of the lease under which writes are delayed
abbrev pub boot_of : Option Lease → ℕ
boot_of None = 0
boot_of (Some lease) = lease.tag.boot

-- what a push of a file rests on: the boot of the held lease and the revision that is known
abbrev pub base_in : ℕ → List Lease → List Revision → PushBase
base_in file leases revisions = record {
  boot = boot_of (lease_on file leases);
  base = revision_or_zero (revision_of file revisions);
}

abbrev pub base_of : Client → ℕ → PushBase
base_of c file = base_in file c.leases c.revisions

-- delayed writes are taken from the list, and are under way
unfoldable pub takes_push : ClientStep → Push → ClientStep
takes_push t p =
    in_state t (record t.client { dirty = drop_dirty p.file p.block t.client.dirty; push = Some p })

-- the first delayed writes of a file are pushed, if it has some
abbrev pub pushes_these : ClientStep → Option Push → ClientStep
pushes_these t None = t
pushes_these t (Some p) =
    sends_request
    (after_seq (takes_push t p))
    pushing
    (Request.Write
    t.client.who
    t.client.seq
    p.file
    p.block
    p.first
    p.last
    (Some (base_of t.client p.file))
    p.body)

abbrev pub pushes : ClientStep → ℕ → ClientStep
pushes t file = pushes_these t (first_dirty file t.client.dirty)

-- the least of some numbers
abbrev pub least_with : ℕ → Option ℕ → Option ℕ
least_with n None = Some n
least_with n (Some m) = Some (if nat_lt m n then m else n)

abbrev pub least : List ℕ → Option ℕ
least [] = None
least (n ∷ ns) = least_with n (least ns)

-- the least file for which a notice waits
abbrev pub noticed_in : List Notice → Option ℕ
noticed_in notices = least (map file_of_notice notices)

abbrev pub noticed_file : Client → Option ℕ
noticed_file c = noticed_in c.notices

-- whether a lease is a writing one that is about to end over a file with delayed writes
abbrev pub is_to_push_in : (now : ℕ) → List Push → Option Push → Lease → Bool
is_to_push_in now dirty push l = is_writing l.mode && not (is_clean_in l.file dirty push) && nat_le l.expiry (now + renewal)

abbrev pub is_to_push : Client → Lease → Bool
is_to_push c l = is_to_push_in c.now c.dirty c.push l

-- the least file whose delayed writes are to be pushed before its lease ends
abbrev pub ending_in : (now : ℕ) → List Lease → List Push → Option Push → Option ℕ
ending_in now leases dirty push = least (map file_of_lease (filter (is_to_push_in now dirty push) leases))

abbrev pub ending_file : Client → Option ℕ
ending_file c = ending_in c.now c.leases c.dirty c.push

-- whether a lease is to be renewed: its file is clean and no notice waits for it
abbrev pub is_to_renew_in : (now : ℕ) → List Notice → List Push → Option Push → Lease → Bool
is_to_renew_in now notices dirty push l =
    renew_due now l && is_clean_in l.file dirty push && not (is_some (notice_on l.file notices))

abbrev pub is_to_renew : Client → Lease → Bool
is_to_renew c l = is_to_renew_in c.now c.notices c.dirty c.push l

-- the lease to renew: that on the least file
abbrev pub renewed_in : (now : ℕ) → List Lease → List Notice → List Push → Option Push → Option ℕ
renewed_in now leases notices dirty push = least (map file_of_lease (filter (is_to_renew_in now notices dirty push) leases))

abbrev pub renewed_file : Client → Option ℕ
renewed_file c = renewed_in c.now c.leases c.notices c.dirty c.push

-- a want of this kind, with the term that the client wants
abbrev pub want_of : Client → Mode → Want
want_of c mode = record { mode = mode; term = c.term }

-- whether a live non-caching lease is held
abbrev pub shares_live : ℕ → Option Lease → Bool
shares_live now None = false
shares_live now (Some lease) = not (caches lease.mode) && is_live now lease

-- what a read wants: a reading lease, and none where a non-caching lease runs
abbrev pub read_want : Client → ℕ → Option Want
read_want c file = if shares_live c.now (lease_on file c.leases) then None else Some (want_of c Mode.Reading)

-- the call's WRITE that goes through
abbrev pub sends_write : ClientStep → (file block : ℕ) (body : List ℕ) → ClientStep
sends_write t file block body =
    sends_request
    (after_number t)
    for_call
    (Request.Write t.client.who t.client.seq file block t.client.number t.client.number None body)

-- a write that was not delayed goes through where it is to or where a non-caching lease runs, else a lease is wanted
abbrev pub next_write : ClientStep → UnderWay → (file block : ℕ) (body : List ℕ) → ClientStep
next_write t u file block body =
    if u.through || shares_live t.client.now (lease_on file t.client.leases)
    then sends_write t file block body
    else sends_request t for_call (Request.GetLease t.client.who file (want_of t.client Mode.Writing))

-- a put: its file is pushed where its write was delayed, else the write goes through
abbrev pub next_put : ClientStep → (written may_ask : Bool) (file block : ℕ) (body : List ℕ) → ClientStep
next_put t true may_ask file block body = pushes t file
next_put t false true file block body = sends_write t file block body
next_put t false false file block body = t

-- the client without lease and clean blocks of a file
unfoldable pub gives_up : ClientStep → ℕ → ClientStep
gives_up t file =
    in_state t (record t.client { leases = drop_lease file t.client.leases; clean = purge file t.client.clean })

-- a resize or removal: the file is pushed until it is clean; then its lease is given up, and the request is sent
abbrev pub next_change : ClientStep → (may_ask : Bool) (file : ℕ) → Request → ClientStep
next_change t may_ask file request =
    if is_clean t.client file
    then (if may_ask then sends_request (after_seq (gives_up t file)) for_call request else t)
    else pushes t file

-- a request of the call, where the client does not pause
abbrev pub asks : ClientStep → (may_ask : Bool) → Request → ClientStep
asks t true request = sends_request t for_call request
asks t false request = t

-- the call's next request, by what the call is
abbrev pub next_of_call : ClientStep → UnderWay → (may_ask : Bool) → Call → ClientStep
next_of_call t u may_ask (Create name blocks) =
    if may_ask
    then sends_request (after_seq t) for_call (Request.Create t.client.who t.client.seq name blocks)
    else t
next_of_call t u may_ask (Lookup name) = asks t may_ask (Request.Lookup t.client.who name)
next_of_call t u may_ask (Attr file) = asks t may_ask (Request.GetAttr t.client.who file)
next_of_call t u may_ask (Read file block) =
    asks t may_ask (Request.Read t.client.who u.q file block (read_want t.client file))
next_of_call t u may_ask (Fetch file block) = asks t may_ask (Request.Read t.client.who u.q file block None)
next_of_call t u may_ask (Write file block body) = if may_ask then next_write t u file block body else t
next_of_call t u may_ask (Put file block body) = next_put t u.written may_ask file block body
next_of_call t u may_ask (Sync file) = pushes t file
next_of_call t u may_ask (Resize file blocks) =
    next_change t may_ask file (Request.Resize t.client.who t.client.seq u.q file blocks)
next_of_call t u may_ask (Remove file) =
    next_change t may_ask file (Request.Remove t.client.who t.client.seq u.q file)

abbrev pub next_of_under_way : ClientStep → (may_ask : Bool) → Option UnderWay → ClientStep
next_of_under_way t may_ask None = t
next_of_under_way t may_ask (Some u) = next_of_call t u may_ask u.call

-- a renewal of the lease on a file, of the kind that is held
abbrev pub renews_lease : ClientStep → Option Lease → ClientStep
renews_lease t None = t
renews_lease t (Some lease) =
    sends_request t renewing (Request.GetLease t.client.who lease.file (want_of t.client lease.mode))

abbrev pub renews : ClientStep → Option ℕ → ClientStep
renews t None = t
renews t (Some file) = renews_lease t (lease_on file t.client.leases)

-- whether a request is under way
abbrev pub is_asking : ClientStep → Bool
is_asking t = is_some t.client.ticket

-- in a tick's step a lease is renewed where nothing else was sent and the client does not pause
abbrev pub then_renews : (in_tick : Bool) → ClientStep → ClientStep
then_renews true t =
    if is_asking t
    then t
    else (if nat_le t.client.pause t.client.now then renews t (renewed_file t.client) else t)
then_renews false t = t

-- else the call's request is sent
abbrev pub then_calls : ClientStep → ClientStep
then_calls t =
    if is_asking t
    then t
    else next_of_under_way t (nat_le t.client.pause t.client.now) t.client.call

-- the first push that is due is sent
abbrev pub pushes_due : ClientStep → Option ℕ → ClientStep
pushes_due t None = t
pushes_due t (Some file) = pushes t file

-- unless a request is under way
abbrev pub then_pushes : ClientStep → Option ℕ → ClientStep
then_pushes t file = if is_asking t then t else pushes_due t file

-- and for the least file whose lease is about to end
abbrev pub then_ending : ClientStep → ClientStep
then_ending t = then_pushes t (ending_file t.client)

-- the next request, where none is under way: a push for the least file with a notice; else one for the least file
-- whose lease is about to end; else the call's request; else, in a tick's step, a renewal
abbrev pub send_next : (in_tick : Bool) → ClientStep → ClientStep
send_next in_tick t =
    let noticed = then_pushes t (noticed_file t.client) in
    let ending = then_ending noticed in
    let called = then_calls ending in
    then_renews in_tick called
