-- The client's control flow, walked once: what each small change of a client keeps, each step keeps.
use Rattle.std.proofs.Common.{◌≡◌, ◌⊎◌, ℕ, ◌+◌, Bool, true, false, List, [], ◌∷◌, ◌++◌, Option, Some, None}
use Rattle.nq_base.specs.declared.Grant.{Grant}
use Rattle.nq_base.specs.declared.Request.{Request}
use Rattle.nq_base.specs.declared.Tag.{Tag}
use Rattle.nq_base.specs.declared.Who.{Who}
use Rattle.walk_steps.proofs.ClientFacts.{Alone, changes_file, fits_job}
use Rattle.nq_model.specs.protocol.Client.{ClientStep, Job, attaching, Lease, Notice, Ticket, drop_lease, put_lease, used_lease, notice_on, drop_notice}
use Rattle.nq_model.specs.protocol.Client.{lease_on}
use Rattle.nq_model.specs.protocol.Hear.{wants_of, cancelled, granted_lease, with_notice}
use Rattle.nq_model.specs.protocol.Message.{Message, call, asker, sequence_of}

-- what the server and the other hosts can see of a client in the middle of a step: incarnation, time, request, numbers,
-- leases, notices, and what it has sent in this step
pub record Core : Type 0 where
  pub who : Who
  pub now : ℕ
  pub attached : Bool
  pub ticket : Option Ticket
  pub xid : ℕ
  pub seq : ℕ
  pub leases : List Lease
  pub notices : List Notice
  pub sends : List Message

abbrev pub core_of : ClientStep → Core
core_of t = record {
  who = t.client.who;
  now = t.client.now;
  attached = t.client.attached;
  ticket = t.client.ticket;
  xid = t.client.xid;
  seq = t.client.seq;
  leases = t.client.leases;
  notices = t.client.notices;
  sends = t.sends;
}

-- the core after a request of this job was sent
abbrev pub after_request : Core → Job → Request → Core
after_request k job request = record k {
  ticket = Some (record { xid = k.xid; first = k.now; last = k.now; request = request; job = job });
  xid = k.xid + 1;
  sends = k.sends ++ call k.xid request ∷ [];
}

-- the core after a request was sent that is decided once
abbrev pub after_decided : Core → Job → Request → Core
after_decided k job request = after_request (record k { seq = k.seq + 1 }) job request

-- the core after a lease was given up
abbrev pub after_vacated : Core → ℕ → Tag → Core
after_vacated k file tag = record k {
  xid = k.xid + 1;
  leases = drop_lease file k.leases;
  notices = drop_notice file k.notices;
  sends = k.sends ++ call k.xid (Request.Vacated k.who file tag) ∷ [];
}

-- the core after the request under way was sent again
abbrev pub after_again : Core → Ticket → Core
after_again k t = record k { ticket = Some (record t { last = k.now }); sends = k.sends ++ call t.xid t.request ∷ [] }

-- a request can be sent
pub record CanSend (k : Core) (job : Job) (request : Request) : Type 0 where
  pub free : k.ticket ≡ None
  pub attached : k.attached ≡ true
  pub asks : asker request ≡ Some k.who
  pub fits : fits_job job request ≡ true
  pub no_attach : job ≡ attaching → ⊥
  pub unwanted : (file : ℕ) (n : Notice) → notice_on file k.notices ≡ Some n → wants_of file request ≡ false
  pub changed : (file : ℕ) → changes_file request ≡ Some file → lease_on file k.leases ≡ None

-- a lease can be given up: no request wants the file, no grant of it is to be taken, and the tag is that of a waiting
-- notice, or of one that is heard
pub record CanVacate (Heard : ℕ → Tag → Type 0) (Given : ℕ → Grant → ℕ → Type 0) (k : Core) (file : ℕ) (tag : Tag) : Type 0 where
  pub unwanted : (t : Ticket) → k.ticket ≡ Some t → wants_of file t.request ≡ false
  pub ungiven : (g : Grant) (sent : ℕ) → Given file g sent → ⊥
  pub source : ((n : Notice) × (notice_on file k.notices ≡ Some n) × (tag ≡ n.tag)) ⊎ Heard file tag

-- what each small change keeps. `Heard` are the notices that are heard in this step, `Given` the grants with the time
-- from which their terms count
pub record Closed (Heard : ℕ → Tag → Type 0) (Given : ℕ → Grant → ℕ → Type 0) (P : Core → Type 0) : Type 0 where
  pub uses : (k : Core) (file : ℕ) → P k → P (record k { leases = used_lease file k.leases })
  pub drops : (k : Core) (file : ℕ) → P k → P (record k { leases = drop_lease file k.leases })
  pub vacates : (k : Core) (file : ℕ) (tag : Tag) → CanVacate Heard Given k file tag → P k → P (after_vacated k file tag)
  pub asks : (k : Core) (job : Job) (request : Request) → sequence_of request ≡ None → CanSend k job request → P k → P (after_request k job request)
  pub decides : (k : Core) (job : Job) (request : Request) → sequence_of request ≡ Some k.seq → CanSend k job request → P k → P (after_decided k job request)
  pub again : (k : Core) (t : Ticket) → k.ticket ≡ Some t → P k → P (after_again k t)
  pub holds : (k : Core) (file : ℕ) (g : Grant) (sent : ℕ) → Given file g sent → k.ticket ≡ None → notice_on file k.notices ≡ None → P k
      → P (record k { leases = put_lease (granted_lease file g sent) k.leases })
  pub cancels : (k : Core) (file : ℕ) → P k → P (record k { ticket = cancelled file k.ticket })
  pub notes : (k : Core) (file : ℕ) (tag : Tag) → Heard file tag → P k → P (record k { notices = with_notice file tag k.notices })

-- in the middle of a step: what holds of the client alone, and what is kept
pub record Both (P : Core → Type 0) (t : ClientStep) : Type 0 where
  pub alone : Alone t.client
  pub core : P (core_of t)
