-- A cached read changes little, in every run: the count of the client's calls, the mark that it used the lease, and the
-- order of its clean blocks (Macklem 1994).
use Rattle.std.specs.Prelude.{◌≡◌, ◌≢◌, ◌⊎◌, ℕ, ◌+◌, List, ◌∷◌, Some, None, slice_get, true}
use Rattle.nq_base.specs.Block.{value_of}
use Rattle.nq_base.specs.declared.Call.{Call}
use Rattle.nq_base.specs.declared.Entry.{Entry}
use Rattle.nq_base.specs.declared.Event.{Event}
use Rattle.nq_base.specs.declared.Said.{Said}
use Rattle.nq_model.specs.protocol.Client.{Client, Lease, lease_on, clean_at}
use Rattle.nq_base.specs.Calls.{told}
use Rattle.nq_model.specs.protocol.World.{Head, World, run}
use Rattle.nq_model.specs.laws.CachedAtOnce.{HasCached}

-- a call reads a block
abbrev pub ReadsBlock : Call → (file block : ℕ) → Type 0
ReadsBlock op file block = (op ≡ Call.Read file block) ⊎ (op ≡ Call.Fetch file block)

-- a client is as it was, but for the number of its last call, the mark that it used the lease on a file, and the order of
-- its clean blocks. It has the same clean blocks as before
pub record IsAsItWas (before after : Client) (file : ℕ) (lease : Lease) : Type 0 where
  pub rest : after ≡ record before { calls = before.calls + 1; leases = after.leases; clean = after.clean }
  pub used : lease_on file after.leases ≡ Some (record lease { used = true })
  pub other_leases : (other : ℕ) → other ≢ file → lease_on other after.leases ≡ lease_on other before.leases
  pub clean : (other block : ℕ) → clean_at other block after.clean ≡ clean_at other block before.clean

-- a world is as it was, but for one client, which changed as above, and for three new entries of the journal: the call, the
-- cached read and the answer
pub record ChangesNothingElse (before after : World) (host : ℕ) (c : Client) (op : Call) (file block : ℕ) (lease : Lease) (body : List ℕ) : Type 0 where
  pub client : Client
  pub there : slice_get after.clients host ≡ Some client
  pub as_it_was : IsAsItWas c client file lease
  pub others : (other : ℕ) → other ≢ host → slice_get after.clients other ≡ slice_get before.clients other
  pub server : after.server ≡ before.server
  pub packets : after.packets ≡ before.packets
  pub journal :
      after.journal
      ≡ Entry.A c.who (c.calls + 1) (Said.OkValue (value_of body))
      ∷ Entry.R c.who (c.calls + 1) file block (value_of body) None
      ∷ Entry.C c.who (c.calls + 1) (told op)
      ∷ before.journal

-- after every schedule, a client that answers a read or fetch from its cache under a lease that runs changes nothing else
abbrev pub CachedReadsChangeNothingElse : Type 0
CachedReadsChangeNothingElse =
    (head : Head) (events : List Event) (host : ℕ) (c : Client) (op : Call) (file block : ℕ) (lease : Lease) (body : List ℕ)
    → slice_get (run head events).clients host ≡ Some c
    → HasCached c file block lease body
    → ReadsBlock op file block
    → ChangesNothingElse
    (run head events)
    (run head (Event.Call host op ∷ events))
    host
    c
    op
    file
    block
    lease
    body
