-- What a client that holds chained leases, or can take chained grants, knows of the files, in every run.
use Rattle.std.proofs.Common.{◌≡◌, ◌<◌, ◌≤◌, ◌⊎◌, ℕ, ◌+◌, Bool, true, false, List, Option, Some, None}
use Rattle.std.specs.Prelude.{is_some}
use Rattle.nq_base.specs.declared.Call.{Call}
use Rattle.nq_base.specs.declared.Call.TheVariants.{Write, Put}
use Rattle.nq_base.specs.declared.Grant.{Grant}
use Rattle.nq_base.specs.declared.HostRow.{HostRow}
use Rattle.nq_base.specs.declared.Push.{Push}
use Rattle.nq_base.specs.declared.PushBase.{PushBase}
use Rattle.nq_base.specs.declared.Reply.{Reply}
use Rattle.nq_base.specs.declared.Request.{Request}
use Rattle.nq_base.specs.declared.Row.{Row}
use Rattle.nq_base.specs.declared.Tag.{Tag}
use Rattle.nq_base.specs.declared.Verdict.{Verdict}
use Rattle.nq_base.specs.declared.Want.{Want}
use Rattle.nq_base.specs.declared.Who.{Who}
use Rattle.nq_model.specs.laws.Chained.{OwnRow, IsChained, has_done_write, due, KnowsFile}
use Rattle.nq_model.specs.protocol.Client.{Client, for_call, Lease, Revision, Ticket, UnderWay, lease_on, revision_of, revision_or_zero, is_clean_in}
use Rattle.nq_model.specs.protocol.Decide.{verdict_reply}
use Rattle.nq_model.specs.protocol.Hear.{inc_of}
use Rattle.nq_model.specs.protocol.Kept.{File, Kept, find_file, host_row}
use Rattle.nq_model.specs.laws.LeaseInterval.{is_at_least}
use Rattle.nq_model.specs.protocol.Message.{Packet, reply, sequence_of}
use Rattle.nq_model.specs.protocol.Server.{Server, standing}
use Rattle.nq_model.specs.protocol.Table.{Table, caches, is_writing, tag_below}
use Rattle.walk_steps.proofs.CoverFacts.{IsTakeable}
use Rattle.walk_steps.proofs.Packets.{Asked, Told}

-- the kept line of a client's host
abbrev pub line_for : Kept → Who → HostRow
line_for kept who = host_row kept who.host

-- whether the kept line says that the request under way wrote to the file
abbrev pub done_at : Kept → Who → Option Ticket → (file : ℕ) → Bool
done_at kept who ticket file = has_done_write (line_for kept who) who.inc file ticket

-- the revision that a client knows
abbrev pub rev_at : List Revision → (file : ℕ) → ℕ
rev_at revisions file = revision_or_zero (revision_of file revisions)

-- ---- leases that are held

pub record HeldChains (table : Table) (kept : Kept) (who : Who) (ticket : Option Ticket) (leases : List Lease) (revisions : List Revision) : Type 0 where
  -- a held file has a revision, and a number that was drawn
  pub known : (file : ℕ) (l : Lease) → lease_on file leases ≡ Some l → is_some (revision_of file revisions) ≡ true
  pub numbered : (file : ℕ) (l : Lease) → lease_on file leases ≡ Some l → file < kept.next
  -- a chained lease knows the file
  pub chained : (file : ℕ) (l : Lease) (row : Row) → lease_on file leases ≡ Some l → caches l.mode ≡ true → IsChained table who file l.tag row
      → KnowsFile kept (line_for kept who) row.mode l.mode file (rev_at revisions file) l.blocks (done_at kept who ticket file)
  -- the own row's latest tag is no earlier than a held one
  pub below : (file : ℕ) (l : Lease) (row : Row) → lease_on file leases ≡ Some l → OwnRow table who file row → tag_below row.tag l.tag ≡ false

-- ---- grants that can be taken

-- a grant goes on with the chain of a held lease: of at least its kind, of the known revision and of its length
pub record GoesOnAs (g : Grant) (l : Lease) (rev : ℕ) : Type 0 where
  pub kind : is_at_least g.mode l.mode ≡ true
  pub revision : g.rev ≡ rev
  pub length : g.blocks ≡ l.blocks

-- a grant's chain began no later than its tag, in the same boot, and with it where it lets its holder cache nothing
pub record InOrder (g : Grant) : Type 0 where
  pub began : tag_below g.tag g.since ≡ false
  pub boot : g.since.boot ≡ g.tag.boot
  pub alone : caches g.mode ≡ false → g.since ≡ g.tag

-- what is known of a grant that can be taken
pub record GrantFits (table : Table) (kept : Kept) (who : Who) (leases : List Lease) (revisions : List Revision) (file : ℕ) (g : Grant) : Type 0 where
  pub numbered : file < kept.next
  pub ordered : InOrder g
  -- a chained grant knows the file
  pub chained : (row : Row) → caches g.mode ≡ true → IsChained table who file g.tag row
      → KnowsFile kept (line_for kept who) row.mode g.mode file g.rev g.blocks false
  -- one whose chain began no later than the tag of a held lease goes on with it
  pub goes_on : (l : Lease) → caches g.mode ≡ true → lease_on file leases ≡ Some l → caches l.mode ≡ true → tag_below l.tag g.since ≡ false
      → GoesOnAs g l (rev_at revisions file)
  -- its tag is above a held one
  pub above : (l : Lease) → lease_on file leases ≡ Some l → tag_below l.tag g.tag ≡ true
  -- the own row's tags are no earlier than its tags
  pub below : (row : Row) → OwnRow table who file row → (tag_below row.tag g.tag ≡ false) × (tag_below row.since g.since ≡ false)

pub record GivenChains (table : Table) (kept : Kept) (who : Who) (ticket : Option Ticket) (leases : List Lease) (revisions : List Revision)
    (ps : List Packet) : Type 0 where
  pub fits : (file : ℕ) (g : Grant) (t : Ticket) → IsTakeable ps who ticket file g t → GrantFits table kept who leases revisions file g

-- ---- files with delayed writes

-- no write over a boot and a revision of a file is stored any more: the file is gone, or its revision is above, or a later
-- boot served
pub data IsFenced (kept : Kept) (file boot rev : ℕ) : Type 0 where
  gone : find_file file kept.files ≡ None → IsFenced kept file boot rev
  ahead : (f : File) → find_file file kept.files ≡ Some f → rev < f.rev → IsFenced kept file boot rev
  earlier : boot < kept.opened → IsFenced kept file boot rev

-- a lease is chained, or its file is fenced
pub data IsBoundOrFenced (table : Table) (kept : Kept) (who : Who) (file : ℕ) (tag : Tag) (rev : ℕ) : Type 0 where
  bound : (row : Row) → IsChained table who file tag row → IsBoundOrFenced table kept who file tag rev
  fenced : IsFenced kept file tag.boot rev → IsBoundOrFenced table kept who file tag rev

-- a push under way rests on the boot of the held lease and on the known revision
pub record IsPushed (leases : List Lease) (revisions : List Revision) (push : Option Push) (file : ℕ) (base : PushBase) (p : Push) : Type 0 where
  pub under_way : push ≡ Some p
  pub of_file : p.file ≡ file
  pub lease : Lease
  pub held : lease_on file leases ≡ Some lease
  pub boot : base.boot ≡ lease.tag.boot
  pub rev : base.base ≡ rev_at revisions file

-- the file that a call writes to
abbrev pub file_written : Call → Option ℕ
file_written (Write file block body) = Some file
file_written (Put file block body) = Some file
file_written other = None

pub record WriteChains (table : Table) (kept : Kept) (who : Who) (ticket : Option Ticket) (call : Option UnderWay) (leases : List Lease)
    (revisions : List Revision) (dirty : List Push) (push : Option Push) : Type 0 where
  -- a file with delayed writes is held for writing, and chained or fenced
  pub held : (file : ℕ) → is_clean_in file dirty push ≡ false → (l : Lease) × (lease_on file leases ≡ Some l) × (is_writing l.mode ≡ true)
  pub bound : (file : ℕ) (l : Lease) → is_clean_in file dirty push ≡ false → lease_on file leases ≡ Some l
      → IsBoundOrFenced table kept who file l.tag (due (done_at kept who ticket file) (rev_at revisions file))
  -- a request that pushes is the push under way
  pub pushed : (t : Ticket) (w : Who) (n file block first last : ℕ) (base : PushBase) (body : List ℕ) → ticket ≡ Some t
      → t.request ≡ Request.Write w n file block first last (Some base) body
      → IsPushed leases revisions push file base (record { file = file; block = block; first = first; last = last; body = body })
  -- a file is clean where a write to it goes through, or is to, or where the call asks for a lease on it to write
  pub through : (t : Ticket) (w : Who) (n file block first last : ℕ) (body : List ℕ) → ticket ≡ Some t → t.job ≡ for_call
      → t.request ≡ Request.Write w n file block first last None body → is_clean_in file dirty push ≡ true
  pub leased : (t : Ticket) (w : Who) (file : ℕ) (want : Want) → ticket ≡ Some t → t.job ≡ for_call → t.request ≡ Request.GetLease w file want
      → (u : UnderWay) × (call ≡ Some u) × (file_written u.call ≡ Some file) × (is_clean_in file dirty push ≡ true)
  pub marked : (u : UnderWay) → call ≡ Some u → u.through ≡ true → (file : ℕ) × (file_written u.call ≡ Some file) × (is_clean_in file dirty push ≡ true)

-- ---- the kept line and the request under way

-- the verdicts that a request can have: a push is done at the revision after its base, or fenced, stale or invalid; a write that
-- goes through is not fenced
abbrev pub VerdictFits : Request → Verdict → (value : ℕ) → Type 0
VerdictFits (Request.Write w n file block first last (Some base) body) Verdict.Done value = value ≡ base.base + 1
VerdictFits (Request.Write w n file block first last (Some base) body) Verdict.Fenced value = Unit {0}
VerdictFits (Request.Write w n file block first last (Some base) body) Verdict.Stale value = Unit {0}
VerdictFits (Request.Write w n file block first last (Some base) body) Verdict.Invalid value = Unit {0}
VerdictFits (Request.Write w n file block first last (Some base) body) other value = ⊥
VerdictFits (Request.Write w n file block first last None body) Verdict.Done value = Unit {0}
VerdictFits (Request.Write w n file block first last None body) Verdict.TryLater value = Unit {0}
VerdictFits (Request.Write w n file block first last None body) Verdict.Stale value = Unit {0}
VerdictFits (Request.Write w n file block first last None body) Verdict.Invalid value = Unit {0}
VerdictFits (Request.Write w n file block first last None body) other value = ⊥
VerdictFits other Verdict.Fenced value = ⊥
VerdictFits other verdict value = Unit {0}

pub record LineChains (kept : Kept) (who : Who) (seq : ℕ) (ticket : Option Ticket) (ps : List Packet) : Type 0 where
  -- sequences are above 0; the kept one was drawn, and that of the request under way was drawn last
  pub above : 0 < seq
  pub drawn : (line_for kept who).inc ≡ who.inc → (line_for kept who).seq < seq
  pub last : (t : Ticket) (n : ℕ) → ticket ≡ Some t → sequence_of t.request ≡ Some n → n + 1 ≡ seq
  -- a reply to it is what the kept verdict and value give
  pub replied : (x : ℕ) (a : Reply) (t : Ticket) (n : ℕ) → Told ps who.host (reply x a) → inc_of a ≡ who.inc → ticket ≡ Some t → t.xid ≡ x
      → sequence_of t.request ≡ Some n → a ≡ verdict_reply who.inc (line_for kept who).verdict (line_for kept who).value t.request
  -- where it was decided, the verdict is one that it can have
  pub decided : (t : Ticket) (n : ℕ) → ticket ≡ Some t → sequence_of t.request ≡ Some n → (line_for kept who).inc ≡ who.inc
      → (line_for kept who).seq ≡ n → VerdictFits t.request (line_for kept who).verdict (line_for kept who).value

-- ---- all of a client

pub record ChainFits (s : Server) (c : Client) (ps : List Packet) : Type 0 where
  pub held : HeldChains (standing s) s.kept c.who c.ticket c.leases c.revisions
  pub given : GivenChains (standing s) s.kept c.who c.ticket c.leases c.revisions ps
  pub writes : WriteChains (standing s) s.kept c.who c.ticket c.call c.leases c.revisions c.dirty c.push
  pub line : LineChains s.kept c.who c.seq c.ticket ps

-- ---- the pushes of the kept incarnation of a host that are not decided yet

-- the row of a push stands and lets its holder write, each tag that its incarnation gave up on the file is below the row's, and
-- neither its boot nor its base is still to come
pub record StandsWriting (table : Table) (kept : Kept) (who : Who) (file : ℕ) (base : PushBase) (ps : List Packet) : Type 0 where
  pub row : Row
  pub own : OwnRow table who file row
  pub writes : is_writing row.mode ≡ true
  pub past : (x : ℕ) (w : Who) (tag : Tag) → Asked ps who.host x (Request.Vacated w file tag) → w.inc ≡ who.inc → tag_below tag row.tag ≡ true
  pub boot : base.boot ≤ kept.opened
  pub rev : (f : File) → find_file file kept.files ≡ Some f → base.base ≤ f.rev

-- a push is fenced, or its row stands
pub record PushFits (table : Table) (kept : Kept) (who : Who) (file : ℕ) (base : PushBase) (ps : List Packet) : Type 0 where
  pub numbered : file < kept.next
  pub stands : IsFenced kept file base.boot base.base ⊎ StandsWriting table kept who file base ps

abbrev pub PushesFit : Server → (host : ℕ) → List Packet → Type 0
PushesFit s host ps =
    (x : ℕ) (w : Who) (n file block first last : ℕ) (base : PushBase) (body : List ℕ)
    → Asked ps host x (Request.Write w n file block first last (Some base) body)
    → w.host ≡ host
    → w.inc ≡ (host_row s.kept host).inc
    → (host_row s.kept host).seq < n
    → PushFits (standing s) s.kept w file base ps
