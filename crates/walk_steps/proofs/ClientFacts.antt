-- What holds of one client alone after each of its steps, and between the parts of a step.
use Rattle.std.proofs.Common.{◌≡◌, ◌<◌, ◌≤◌, ℕ, ◌+◌, Bool, true, false, List, [], Option, Some, None, is_some}
use Rattle.nq_base.specs.declared.Push.{Push}
use Rattle.nq_base.specs.declared.Request.{Request}
use Rattle.nq_base.specs.declared.Request.TheVariants.{Attach, Lookup, Create, GetAttr, Read, Write, GetLease, Resize, Remove}
use Rattle.nq_base.specs.declared.Who.{Who}
use Rattle.nq_model.specs.protocol.Client.{is_clean_in, Client, Job, attaching, for_call, renewing, pushing, Lease, Notice, Ticket, UnderWay, lease_on}
use Rattle.nq_model.specs.protocol.Client.{notice_on}
use Rattle.nq_model.specs.protocol.Hear.{wants_of}
use Rattle.nq_model.specs.protocol.Message.{asker, sequence_of}

-- the file whose length or life a request changes
abbrev pub changes_file : Request → Option ℕ
changes_file (Resize who seq q file blocks) = Some file
changes_file (Remove who seq q file) = Some file
changes_file other = None

-- the delayed writes that a request pushes
abbrev pub push_in : Request → Option Push
push_in (Write who seq file block first last (Some base) body) =
    Some (record { file = file; block = block; first = first; last = last; body = body })
push_in other = None

-- whether a request is one that this job sends
abbrev pub fits_call : Request → Bool
fits_call (Lookup who name) = true
fits_call (Create who seq name blocks) = true
fits_call (GetAttr who file) = true
fits_call (Read who q file block want) = true
fits_call (Write who seq file block first last None body) = true
fits_call (GetLease who file want) = true
fits_call (Resize who seq q file blocks) = true
fits_call (Remove who seq q file) = true
fits_call other = false

abbrev pub fits_renewal : Request → Bool
fits_renewal (GetLease who file want) = true
fits_renewal other = false

abbrev pub fits_attach : Request → Bool
fits_attach (Attach who) = true
fits_attach other = false

abbrev pub fits_job : Job → Request → Bool
fits_job attaching request = fits_attach request
fits_job for_call request = fits_call request
fits_job renewing request = fits_renewal request
fits_job pushing request = is_some (push_in request)

-- the request under way: its number was drawn, it was sent in the past, and it is this client's and of its job
pub record IsTicket (who : Who) (now xid seq : ℕ) (t : Ticket) : Type 0 where
  pub number : t.xid < xid
  pub sent : t.first ≤ t.last
  pub past : t.last ≤ now
  pub asks : asker t.request ≡ Some who
  pub fits : fits_job t.job t.request ≡ true
  pub drawn : (n : ℕ) → sequence_of t.request ≡ Some n → n < seq

-- a client that is not attached asks to be, and has nothing else
pub record IsWaiting (call : Option UnderWay) (ticket : Option Ticket) (leases : List Lease) (notices : List Notice) : Type 0 where
  pub request : Ticket
  pub asks : ticket ≡ Some request
  pub job : request.job ≡ attaching
  pub idle : call ≡ None
  pub no_lease : leases ≡ []
  pub no_notice : notices ≡ []

-- a lease was asked for in the past
pub record IsLease (now : ℕ) (l : Lease) : Type 0 where
  pub term : l.term ≤ l.expiry
  pub past : l.expiry ≤ now + l.term

-- the client's call, request, leases and notices
pub record Asking (who : Who) (now : ℕ) (attached : Bool) (call : Option UnderWay) (ticket : Option Ticket) (xid seq : ℕ) (leases : List Lease)
    (notices : List Notice) : Type 0 where
  pub ticketed : (t : Ticket) → ticket ≡ Some t → IsTicket who now xid seq t
  pub waiting : attached ≡ false → IsWaiting call ticket leases notices
  pub attaching : (t : Ticket) → ticket ≡ Some t → t.job ≡ Job.attaching → attached ≡ false
  pub called : (t : Ticket) → ticket ≡ Some t → t.job ≡ for_call → is_some call ≡ true
  pub leased : (file : ℕ) (l : Lease) → lease_on file leases ≡ Some l → IsLease now l
  pub unwanted : (file : ℕ) (n : Notice) (t : Ticket) → notice_on file notices ≡ Some n → ticket ≡ Some t → wants_of file t.request ≡ false
  pub changed : (t : Ticket) (file : ℕ) → ticket ≡ Some t → changes_file t.request ≡ Some file → lease_on file leases ≡ None

-- the push under way is the request under way
pub record IsPush (ticket : Option Ticket) (p : Push) : Type 0 where
  pub request : Ticket
  pub asks : ticket ≡ Some request
  pub job : request.job ≡ pushing
  pub pushes : push_in request.request ≡ Some p

-- delayed writes: a notice waits only for a file that has some, and those under way are the request's
pub record Delaying (attached : Bool) (ticket : Option Ticket) (notices : List Notice) (dirty : List Push) (push : Option Push) : Type 0 where
  pub noticed : (file : ℕ) (n : Notice) → notice_on file notices ≡ Some n → is_clean_in file dirty push ≡ false
  pub under_way : (p : Push) → push ≡ Some p → IsPush ticket p
  pub empty : attached ≡ false → dirty ≡ []

-- both, of a client
abbrev pub AskingOf : Client → Type 0
AskingOf c = Asking c.who c.now c.attached c.call c.ticket c.xid c.seq c.leases c.notices

abbrev pub DelayingOf : Client → Type 0
DelayingOf c = Delaying c.attached c.ticket c.notices c.dirty c.push

-- what holds of one client alone
pub record Alone (c : Client) : Type 0 where
  pub asking : AskingOf c
  pub delaying : DelayingOf c
