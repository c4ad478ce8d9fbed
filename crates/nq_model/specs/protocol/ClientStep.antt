-- The client's step: a call, a tick, a start.
use Rattle.std.specs.Prelude.{ℕ, ◌+◌, true, false, not, ◌||◌, List, [], ◌∷◌, ◌++◌, Option, Some, None, nat_le, is_some, if◌then◌else◌}
use Rattle.nq_base.specs.Calls.{told}
use Rattle.nq_base.specs.declared.Answer.{Answer}
use Rattle.nq_base.specs.declared.Call.{Call}
use Rattle.nq_base.specs.declared.Call.TheVariants.{Write, Put, Sync, Resize, Remove}
use Rattle.nq_base.specs.declared.Entry.{Entry}
use Rattle.nq_base.specs.declared.Loss.{Loss}
use Rattle.nq_base.specs.declared.Request.{Request}
use Rattle.nq_base.specs.declared.Said.{Said}
use Rattle.nq_base.specs.declared.Who.{Who}
use Rattle.nq_model.specs.protocol.Client.{Ticket, attaching, Client, ClientStep, begun, in_state, noting, losses_of}
use Rattle.nq_model.specs.protocol.Message.{call}
use Rattle.nq_model.specs.protocol.Profile.{patience}
use Rattle.nq_model.specs.protocol.Send.{send_next}
use Rattle.nq_model.specs.protocol.Settle.{names_losses, settle}

-- the file whose losses a call is told, if it changes or syncs one
abbrev pub changed_file : Call → Option ℕ
changed_file (Write file block body) = Some file
changed_file (Put file block body) = Some file
changed_file (Sync file) = Some file
changed_file (Resize file blocks) = Some file
changed_file (Remove file) = Some file
changed_file other = None

-- a call begins: it takes the next number
unfoldable pub begins_call : Client → Call → ClientStep
begins_call c op =
    noting (begun (record c { calls = c.calls + 1 })) (Entry.C c.who (c.calls + 1) (told op))

-- the call is under way
unfoldable pub is_called : ClientStep → Call → ClientStep
is_called t op =
    in_state t (record t.client { call = Some (record { q = t.client.calls; call = op; through = false; written = false }) })

-- the losses that a call is told before anything else
abbrev pub losses_for : Option ℕ → List Loss → List Loss
losses_for None losses = []
losses_for (Some file) losses = losses_of file losses

-- after a call was answered from the cache nothing is sent
abbrev pub sends_unless_cached : ClientStep → ClientStep
sends_unless_cached t = if t.cached then t else send_next false t

-- a call of a client that has none under way, by the losses that it is told
abbrev pub call_freely : ClientStep → Call → ClientStep
call_freely t op = sends_unless_cached (settle (is_called t op))

abbrev pub tell_losses : ClientStep → Option ℕ → ClientStep
tell_losses t None = t
tell_losses t (Some file) = names_losses t t.client.calls file

abbrev pub call_past_losses : ClientStep → Call → List Loss → ClientStep
call_past_losses t op [] = call_freely t op
call_past_losses t op (loss ∷ losses) = tell_losses t (changed_file op)

-- a call while another is under way, or before the client is attached: it is answered at once, and the other goes on
unfoldable pub says_busy : ClientStep → ClientStep
says_busy t = record t {
  entries = Entry.A t.client.who t.client.calls Said.Busy ∷ t.entries;
  answer = Some Answer.Busy;
}

-- a call: busy, or told of losses, or under way
abbrev pub client_call : Client → Call → ClientStep
client_call c op =
    if is_some c.call || not c.attached
    then says_busy (begins_call c op)
    else call_past_losses (begins_call c op) op (losses_for (changed_file op) c.losses)

-- the client with another time
unfoldable pub at_time : Client → ℕ → Client
at_time c now = record c { now = now }

-- the request under way is sent again
unfoldable pub sends_again : ClientStep → Ticket → ClientStep
sends_again t ticket = record t {
  client = record t.client { ticket = Some (record ticket { last = t.client.now }) };
  sends = t.sends ++ call ticket.xid ticket.request ∷ [];
}

-- a tick, by the request under way
abbrev pub tick_asking : ClientStep → Option Ticket → ClientStep
tick_asking t (Some ticket) = if nat_le (ticket.last + patience) t.client.now then sends_again t ticket else t
tick_asking t None = send_next true (settle t)

-- a tick of the client's clock, which now shows this time
abbrev pub client_tick : Client → (now : ℕ) → ClientStep
client_tick c now = tick_asking (begun (at_time c now)) c.ticket

-- a client that knows nothing
unfoldable pub fresh_client : Who → (term now : ℕ) → Client
fresh_client who term now = record {
  who = who;
  term = term;
  now = now;
  attached = false;
  calls = 0;
  call = None;
  ticket = None;
  pause = 0;
  seq = 1;
  xid = 1;
  number = 1;
  leases = [];
  notices = [];
  losses = [];
  dirty = [];
  push = None;
  clean = [];
  revisions = [];
}

-- a client that is attached from the start
unfoldable pub attached_client : Who → (term now : ℕ) → Client
attached_client who term now = record (fresh_client who term now) { attached = true }

-- an incarnation begins: it asks to be attached
unfoldable pub starts : Who → (term now : ℕ) → ClientStep
starts who term now = record {
  client = record (fresh_client who term now) {
    xid = 2;
    ticket = Some (record { xid = 1; first = now; last = now; request = Request.Attach who; job = attaching });
  };
  sends = call 1 (Request.Attach who) ∷ [];
  entries = [];
  answer = None;
  cached = false;
}

-- the incarnation after this one
abbrev pub next_incarnation : Who → Who
next_incarnation who = record who { inc = who.inc + 1 }

-- a restart: the next incarnation begins at the clock's time, and nothing of the last one is left
abbrev pub restart : Client → ClientStep
restart c =
    noting (starts (next_incarnation c.who) c.term c.now) (Entry.B (next_incarnation c.who))
