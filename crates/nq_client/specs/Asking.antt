-- What a client needs to send next, in the steps of the code.
use Rattle.std.specs.Prelude.{ℕ, Bool, ◌||◌, ◌&&◌, List, Option, Some, None, nat_le, if◌then◌else◌}
use Rattle.std.specs.Bool.{then_some}
use Rattle.std.specs.Option.{option_or}
use Rattle.nq_base.specs.declared.Call.{Call}
use Rattle.nq_base.specs.declared.Call.TheVariants.{Create, Lookup, Attr, Read, Fetch, Write, Put, Sync, Resize, Remove}
use Rattle.nq_base.specs.declared.Mode.{Mode}
use Rattle.nq_base.specs.declared.Push.{Push}
use Rattle.nq_base.specs.declared.Request.{Request}
use Rattle.nq_base.specs.declared.Want.{Want}
use Rattle.nq_base.specs.declared.Who.{Who}
use Rattle.nq_client.specs.Settling.{called_body}
use Rattle.nq_client.specs.declared.asking.Need.{Need}
use Rattle.nq_model.specs.protocol.Client.{Client, ClientStep, Lease, UnderWay, for_call, is_clean_in, lease_on, renewing}
use Rattle.nq_model.specs.protocol.Send.{after_seq, ending_file, gives_up, noticed_file, pushes, read_want, renewed_file, sends_request, sends_write}
use Rattle.nq_model.specs.protocol.Send.{shares_live, then_renews, want_of}
use Rattle.nq_wire.specs.Request.{HasSpelling}

-- a file is pushed where it has delayed writes
abbrev pub push_for : (file : ℕ) → List Push → Option Push → Option Need
push_for file dirty push = if is_clean_in file dirty push then None else Some (Need.Push file)

-- likewise the file of a push that is due, if there is one
abbrev pub push_due : List Push → Option Push → Option ℕ → Option Need
push_due dirty push None = None
push_due dirty push (Some file) = push_for file dirty push

-- a write that was not delayed goes through where it is to or where a non-caching lease runs, else a lease is wanted
abbrev pub write_need : Client → (through : Bool) (file block : ℕ) → Need
write_need c through file block =
    if through || shares_live c.now (lease_on file c.leases)
    then Need.Through file block
    else Need.Ask (Request.GetLease c.who file (want_of c Mode.Writing))

-- a put: its file is pushed where its write was delayed, else the write goes through
abbrev pub put_need : (file block : ℕ) → List Push → Option Push → (written may_ask : Bool) → Option Need
put_need file block dirty push written may_ask =
    if written then push_for file dirty push else then_some may_ask (Need.Through file block)

-- a resize or removal: the file is pushed until it is clean; then its lease is given up, and the request is sent
abbrev pub change_need : (file : ℕ) → List Push → Option Push → (may_ask : Bool) → Request → Option Need
change_need file dirty push may_ask request =
    if is_clean_in file dirty push then then_some may_ask (Need.Change file request) else Some (Need.Push file)

-- the READ of a call
abbrev pub read_need : Who → (call file block : ℕ) → Option Want → Need
read_need who call file block want = Need.Ask (Request.Read who call file block want)

-- what the call under way needs, by what it is
abbrev pub need_by : Client → UnderWay → (may_ask : Bool) → Call → Option Need
need_by c u may_ask (Create name blocks) = then_some may_ask (Need.Order (Request.Create c.who c.seq name blocks))
need_by c u may_ask (Lookup name) = then_some may_ask (Need.Ask (Request.Lookup c.who name))
need_by c u may_ask (Attr file) = then_some may_ask (Need.Ask (Request.GetAttr c.who file))
need_by c u may_ask (Read file block) = then_some may_ask (read_need c.who u.q file block (read_want c file))
need_by c u may_ask (Fetch file block) = then_some may_ask (read_need c.who u.q file block None)
need_by c u may_ask (Write file block body) = then_some may_ask (write_need c u.through file block)
need_by c u may_ask (Put file block body) = put_need file block c.dirty c.push u.written may_ask
need_by c u may_ask (Sync file) = push_for file c.dirty c.push
need_by c u may_ask (Resize file blocks) =
    change_need file c.dirty c.push may_ask (Request.Resize c.who c.seq u.q file blocks)
need_by c u may_ask (Remove file) = change_need file c.dirty c.push may_ask (Request.Remove c.who c.seq u.q file)

-- what the call under way needs, if there is one
abbrev pub need_of : Client → Option UnderWay → Option Need
need_of c None = None
need_of c (Some u) = need_by c u (nat_le c.pause c.now) u.call

-- what is sent next where no request is under way, renewals apart: a push for the least file with a notice; else one for
-- the least file whose lease is about to end; else what the call needs
abbrev pub next : Client → Option Need
next c =
    option_or
    (push_due c.dirty c.push (noticed_file c))
    (option_or (push_due c.dirty c.push (ending_file c)) (need_of c c.call))

-- the renewal of a lease, in the kind that is held
abbrev pub renewal_of : Client → Option Lease → Option Request
renewal_of c None = None
renewal_of c (Some lease) = Some (Request.GetLease c.who lease.file (want_of c lease.mode))

-- the renewal of the lease on a file
abbrev pub renewal_on : Client → Option ℕ → Option Request
renewal_on c None = None
renewal_on c (Some file) = renewal_of c (lease_on file c.leases)

-- the renewal in a tick's step, unless the client pauses
abbrev pub renewal : (in_tick : Bool) → Client → Option Request
renewal in_tick c = if in_tick && nat_le c.pause c.now then renewal_on c (renewed_file c) else None

-- a renewal is sent, if there is one
abbrev pub renews_by : ClientStep → Option Request → ClientStep
renews_by t None = t
renews_by t (Some request) = sends_request t renewing request

-- what is needed is sent
abbrev pub meets : ClientStep → Need → ClientStep
meets t (Need.Push file) = pushes t file
meets t (Need.Through file block) = sends_write t file block (called_body t.client.call)
meets t (Need.Ask request) = sends_request t for_call request
meets t (Need.Order request) = sends_request (after_seq t) for_call request
meets t (Need.Change file request) = sends_request (after_seq (gives_up t file)) for_call request

-- where nothing is needed, a lease may be renewed
abbrev pub meets_or_renews : (in_tick : Bool) → ClientStep → Option Need → ClientStep
meets_or_renews in_tick t None = then_renews in_tick t
meets_or_renews in_tick t (Some need) = meets t need

-- the request that is needed has a spelling
abbrev pub IsSpelled : Need → Type 0
IsSpelled (Need.Push file) = Unit {0}
IsSpelled (Need.Through file block) = Unit {0}
IsSpelled (Need.Ask request) = HasSpelling request
IsSpelled (Need.Order request) = HasSpelling request
IsSpelled (Need.Change file request) = HasSpelling request
