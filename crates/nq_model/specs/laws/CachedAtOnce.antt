-- Cached at once: a read that the client has under a lease that runs is answered in its own step, without a packet.
use Rattle.std.specs.Prelude.{◌≡◌, ◌<◌, ◌↔◌, ℕ, ◌+◌, true, false, not, ◌&&◌, List, [], ◌∷◌, Option, Some, None, is_some, nat_lt, if◌then◌else◌}
use Rattle.nq_base.specs.Block.{value_of}
use Rattle.nq_base.specs.declared.Answer.{Answer}
use Rattle.nq_base.specs.declared.Call.{Call}
use Rattle.nq_base.specs.declared.Entry.{Entry}
use Rattle.nq_base.specs.declared.Said.{Said}
use Rattle.nq_base.specs.declared.Value.{Value}
use Rattle.nq_model.specs.protocol.Client.{Lease, Client, ClientStep, lease_on, lets_read}
use Rattle.nq_model.specs.protocol.ClientStep.{client_call}
use Rattle.nq_base.specs.Calls.{told}
use Rattle.nq_model.specs.protocol.Settle.{cached_body, ticket_is_for_call, after_read}

-- a client is attached and has no call under way, holds a caching lease that runs by its own clock, and has the block:
-- delayed, under way or clean
pub record HasCached (c : Client) (file block : ℕ) (lease : Lease) (body : List ℕ) : Type 0 where
  pub attached : c.attached ≡ true
  pub free : c.call ≡ None
  pub held : lease_on file c.leases ≡ Some lease
  pub runs : lets_read c.now lease ≡ true
  pub within : block < lease.blocks
  pub there : cached_body c file block ≡ Some body

-- the same as a function: the body that a lease lets a client read
abbrev pub body_under : (now block : ℕ) → Option Lease → Option (List ℕ) → Option (List ℕ)
body_under now block None body = None
body_under now block (Some lease) body = if lets_read now lease && nat_lt block lease.blocks then body else None

-- the body that a client has of a block and that it may read at once, if there is one
abbrev pub has_cached : Client → (file block : ℕ) → Option (List ℕ)
has_cached c file block =
    if c.attached && not (is_some c.call)
    then body_under c.now block (lease_on file c.leases) (cached_body c file block)
    else None

-- the function tells it
abbrev pub TellsCached : Type 0
TellsCached =
    (c : Client) (file block : ℕ) (body : List ℕ)
    → has_cached c file block ≡ Some body ↔ ((lease : Lease) × HasCached c file block lease body)

-- the client after a call that was answered at once from what it has: the call was counted, the lease was used, and the
-- block was moved to the front of the cache if it was clean
abbrev pub after_cached : Client → (file block : ℕ) → Client
after_cached c file block = record (after_read (record c { calls = c.calls + 1 }) file block) { call = None }

-- the step makes the call, the cached read and its answer, sends nothing, and changes nothing else
pub record AnswersAtOnce (c : Client) (op : Call) (file block : ℕ) (body : List ℕ) (t : ClientStep) : Type 0 where
  pub silent : t.sends ≡ []
  pub entries :
      t.entries
      ≡ Entry.A c.who (c.calls + 1) (Said.OkValue (value_of body))
      ∷ Entry.R c.who (c.calls + 1) file block (value_of body) None
      ∷ Entry.C c.who (c.calls + 1) (told op)
      ∷ []
  pub answered : t.answer ≡ Some (Answer.Ok (Value.Body body))
  pub client : t.client ≡ after_cached c file block

-- a cached read under a live lease is answered at once, where no request of a call is under way (Macklem 1994). A client
-- without a call has none in any run
abbrev pub CachedAtOnce : Type 0
CachedAtOnce =
    (c : Client) (file block : ℕ) (lease : Lease) (body : List ℕ)
    → HasCached c file block lease body
    → ticket_is_for_call c.ticket ≡ false
    → AnswersAtOnce c (Call.Read file block) file block body (client_call c (Call.Read file block))
    × AnswersAtOnce c (Call.Fetch file block) file block body (client_call c (Call.Fetch file block))
