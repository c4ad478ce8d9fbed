-- A cached read is answered at once.
use Rattle.std.proofs.Common.{◌≡◌, ◌<◌, ℕ, ◌+◌, true, false, List, Some, None, nat_le, refl, sym, subst, ap, ◌∙◌, arith}
use Rattle.std.proofs.lemmas.Bool.Decides.{nat_tests}
use Rattle.nq_base.specs.declared.Call.{Call}
use Rattle.nq_model.specs.laws.CachedAtOnce.{HasCached, AnswersAtOnce, CachedAtOnce}
use Rattle.nq_model.specs.protocol.Client.{Lease, Client, ClientStep, UnderWay, lease_on, lets_read}
use Rattle.nq_model.specs.protocol.ClientStep.{client_call, call_freely, sends_unless_cached, changed_file, begins_call, is_called}
use Rattle.nq_model.specs.protocol.Settle.{answers, reads_cached, after_read, cached_body, settle, settle_call, settle_read, ticket_is_for_call}

-- a read under a lease that runs, of a block below the length that the client has
read-hit : (t : ClientStep) (u : UnderWay) (file block : ℕ) (lease : Lease) (body : List ℕ) → lets_read t.client.now lease ≡ true
    → nat_le lease.blocks block ≡ false → cached_body t.client file block ≡ Some body → settle_read t u file block (Some lease) ≡ reads_cached t u
    file block body
read-hit t u file block lease body runs within there = rw (runs, within, there) refl

-- a call under way whose request is not under way
settled : (t : ClientStep) (u : UnderWay) → t.client.call ≡ Some u → ticket_is_for_call t.client.ticket ≡ false → settle t ≡ settle_call t u u.call
settled t u under_way idle = rw (under_way, idle) refl

-- after a cached read nothing is sent
nothing-sent : (t : ClientStep) (u : UnderWay) (file block : ℕ) (body : List ℕ) → sends_unless_cached (reads_cached t u file block body)
    ≡ reads_cached t u file block body
unfolding reads_cached
nothing-sent t u file block body = refl

-- a call of a client that has none under way and tells no losses
called-freely : (c : Client) (op : Call) → c.call ≡ None → c.attached ≡ true → changed_file op ≡ None → client_call c op ≡ call_freely (begins_call c op) op
called-freely c op free attached reads = rw (free, attached, reads) refl

-- the call that is under way after its beginning
abbrev begun_call : Client → Call → UnderWay
begun_call c op = record { q = c.calls + 1; call = op; through = false; written = false }

abbrev called : Client → Call → ClientStep
called c op = is_called (begins_call c op) op

called-call : (c : Client) (op : Call) → (called c op).client.call ≡ Some (begun_call c op)
unfolding begins_call is_called
called-call c op = refl

called-ticket : (c : Client) (op : Call) → (called c op).client.ticket ≡ c.ticket
unfolding begins_call is_called
called-ticket c op = refl

called-leases : (c : Client) (op : Call) → (called c op).client.leases ≡ c.leases
unfolding begins_call is_called
called-leases c op = refl

called-now : (c : Client) (op : Call) → (called c op).client.now ≡ c.now
unfolding begins_call is_called
called-now c op = refl

called-body : (c : Client) (op : Call) (file block : ℕ) → cached_body (called c op).client file block ≡ cached_body c file block
unfolding begins_call is_called
called-body c op file block = refl

not-above : (m n : ℕ) → m < n → nat_le n m ≡ false
not-above m n h = grind (arith, nat_tests)

-- the step that answers it
answers-at-once : (c : Client) (op : Call) (file block : ℕ) (body : List ℕ) → AnswersAtOnce c op file block body (reads_cached (called c op)
    (begun_call c op) file block body)
unfolding begins_call is_called reads_cached answers after_read
answers-at-once c op file block body = record { silent = refl; entries = refl; answered = refl; client = refl }

settled-read : (c : Client) (op : Call) (file block : ℕ) (lease : Lease) (body : List ℕ) → HasCached c file block lease body
    → settle_read (called c op) (begun_call c op) file block (lease_on file (called c op).client.leases) ≡ reads_cached (called c op)
    (begun_call c op) file block body
settled-read c op file block lease body h =
    let held : lease_on file (called c op).client.leases ≡ Some lease = rw called-leases h.held in
    rw held (read-hit (called c op) (begun_call c op) file block lease body (rw called-now h.runs) (not-above block lease.blocks h.within)
    (rw called-body h.there))

settled-call : (c : Client) (op : Call) → ticket_is_for_call c.ticket ≡ false → settle (called c op) ≡ settle_call (called c op) (begun_call c op) op
settled-call c op idle = settled (called c op) (begun_call c op) (called-call c op) (rw called-ticket idle)

pub read_at_once : (c : Client) (file block : ℕ) (lease : Lease) (body : List ℕ) → HasCached c file block lease body → ticket_is_for_call c.ticket
    ≡ false → AnswersAtOnce c (Call.Read file block) file block body (client_call c (Call.Read file block))
read_at_once c file block lease body h idle =
    let op : Call = Call.Read file block in
    let e : client_call c op ≡ reads_cached (called c op) (begun_call c op) file block body =
    called-freely c op h.free h.attached refl
    ∙ ap sends_unless_cached (settled-call c op idle ∙ settled-read c op file block lease body h)
    ∙ nothing-sent (called c op) (begun_call c op) file block body
    in
    subst (λ t. AnswersAtOnce c op file block body t) (sym e) (answers-at-once c op file block body)

pub fetch_at_once : (c : Client) (file block : ℕ) (lease : Lease) (body : List ℕ) → HasCached c file block lease body → ticket_is_for_call c.ticket
    ≡ false → AnswersAtOnce c (Call.Fetch file block) file block body (client_call c (Call.Fetch file block))
fetch_at_once c file block lease body h idle =
    let op : Call = Call.Fetch file block in
    let e : client_call c op ≡ reads_cached (called c op) (begun_call c op) file block body =
    called-freely c op h.free h.attached refl
    ∙ ap sends_unless_cached (settled-call c op idle ∙ settled-read c op file block lease body h)
    ∙ nothing-sent (called c op) (begun_call c op) file block body
    in
    subst (λ t. AnswersAtOnce c op file block body t) (sym e) (answers-at-once c op file block body)

pub cached-at-once : CachedAtOnce
cached-at-once c file block lease body h idle = (read_at_once c file block lease body h idle, fetch_at_once c file block lease body h idle)
