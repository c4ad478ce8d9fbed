-- What a client makes of a datagram that counts, in the steps of the code.
use Rattle.std.specs.Prelude.{◌≤◌, ◌+◌, ℕ, Bool, false, length, Option, Some, None, IsTrue}
use Rattle.nq_base.specs.declared.Reply.{Reply}
use Rattle.nq_base.specs.declared.Request.{Request}
use Rattle.nq_base.specs.declared.Tag.{Tag}
use Rattle.nq_client_parts.specs.Calls.{file_at_stake}
use Rattle.nq_client.specs.declared.step.Step.{Step}
use Rattle.nq_datagrams.specs.declared.Heard.{Heard}
use Rattle.nq_model.specs.protocol.Client.{Client, ClientStep, Ticket, begun}
use Rattle.nq_model.specs.protocol.Hear.{all_dirty, cancels, done, evicted, goes_on, is_reply_to, refused, replied, reply_counts}

-- whether a reply counts, by the request under way
abbrev pub counts : Client → (xid : ℕ) → Reply → Option Ticket → Bool
counts c xid r None = false
counts c xid r (Some ticket) = is_reply_to c xid r ticket

-- the file whose delayed writes the reply to the request under way may lose, or 0
abbrev pub at_stake : Option Ticket → ℕ
at_stake None = 0
at_stake (Some ticket) = file_at_stake ticket.request

-- a request that is no more under way was answered
abbrev pub answered : ClientStep → (number : ℕ) → Ticket → Reply → ClientStep
answered t number ticket (Reply.Refused inc status) = refused t status ticket ticket.job
answered t number ticket other = done t number ticket ticket.job other

-- likewise, if there was one
abbrev pub after_reply : ClientStep → (number : ℕ) → Option Ticket → Reply → ClientStep
after_reply t number None r = t
after_reply t number (Some ticket) r = replied t number ticket r

-- a reply that counts
abbrev pub on_reply : Client → (number : ℕ) → Reply → Option Ticket → ClientStep
on_reply c number r ticket = goes_on (after_reply (begun c) number ticket r)

-- a notice that counts
abbrev pub on_notice : Client → (file : ℕ) → Tag → ClientStep
on_notice c file tag = goes_on (evicted (cancels (begun c) file) file tag)

-- a call of the server, of which a notice alone counts
abbrev pub on_call : Client → Request → ClientStep
on_call c (Request.Evicted who file tag) = on_notice c file tag
on_call c other = begun c

-- what counts, in the packet of this number
abbrev pub on_heard : Client → (number : ℕ) → Heard → ClientStep
on_heard c number (Heard.Notice xid r) = on_call c r
on_heard c number (Heard.Reply xid r) = on_reply c number r c.ticket

-- a reply counts for the request under way
abbrev pub Counts : Option Ticket → Reply → Type 0
Counts None r = ⊥
Counts (Some ticket) r = IsTrue (reply_counts r ticket)

-- so does what is no reply
abbrev pub IsHeeded : Option Ticket → Heard → Type 0
IsHeeded ticket (Heard.Notice xid r) = Unit {0}
IsHeeded ticket (Heard.Reply xid r) = Counts ticket r

-- how many entries a client makes at most of what counts
abbrev pub most_entries : Client → ℕ
most_entries c = length (all_dirty c (at_stake c.ticket)) + 4

-- there is room for a lease, a notice and a revision
pub record HasRoomForFiles (s : Step) : Type 0 where
  pub lease : 1 ≤ s.state.leases.spare
  pub notice : 1 ≤ s.state.notices.spare
  pub revision : 1 ≤ s.state.cache.spare
