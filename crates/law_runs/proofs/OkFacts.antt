-- What a client and the journal have of the client's call under way, so that an ok to it is kept.
use Rattle.std.proofs.Common.{◌≡◌, ◌<◌, ◌≤◌, ◌⊎◌, ℕ, true, false, List, [], ◌++◌, Option, Some, None, ap, ◌∙◌}
use Rattle.std.specs.Prelude.{⊤}
use Rattle.nq_base.specs.declared.Call.{Call}
use Rattle.nq_base.specs.declared.Entry.{Entry}
use Rattle.nq_base.specs.declared.Entry.TheVariants.{W, S, L}
use Rattle.nq_base.specs.declared.HostRow.{HostRow}
use Rattle.nq_base.specs.declared.Loss.{Loss}
use Rattle.nq_base.specs.declared.Push.{Push}
use Rattle.nq_base.specs.declared.Request.{Request}
use Rattle.nq_base.specs.declared.Verdict.{Verdict}
use Rattle.nq_base.specs.declared.Who.{Who}
use Rattle.walk_files.proofs.CallsFit.{entry_who}
use Rattle.walk_steps.proofs.SettleCases.{IsRead}
use Rattle.walk_steps.proofs.ClientMoves.{none-some}
use Rattle.nq_model.specs.protocol.Client.{Client, ClientStep, for_call, Ticket, UnderWay, losses_of, is_clean_in}
use Rattle.nq_base.specs.Calls.{told}
use Rattle.nq_model.specs.laws.Journal.{Exists, Throughout, Somewhere, IsOpen, call_of, IsWriteBy, IsThrough}
use Rattle.nq_model.specs.protocol.Message.{sequence_of}
use Rattle.nq_model.specs.laws.Reported.{Names}
use Rattle.nq_model.specs.protocol.Settle.{ticket_is_for_call, is_for_call}
use Rattle.nq_model.specs.laws.Synchronized.{IsSettledResize}
use Rattle.nq_model.specs.laws.LossesAreReported.{IsLossOf, IsOneOf, cleans}
use Rattle.walk_steps.proofs.Packets.{In}
use Rattle.law_runs.proofs.KeptPlaces.{KeptHere}

-- ---- the journal

-- the entry is this delayed write, and the call is open before it
abbrev pub IsPutWrite : (who : Who) (q file block number value : ℕ) → Entry → List Entry → Type 0
IsPutWrite who q file block number value e before = (e ≡ W who file block number value false) × IsOpen before who q

-- a put's delayed write stands while it is open, and no L covers it
pub record PutWaits (who : Who) (q file block : ℕ) (journal : List Entry) : Type 0 where
  pub number : ℕ
  pub value : ℕ
  pub stands : Somewhere (IsPutWrite who q file block number value) journal
  pub unlost : (first last : ℕ) → In journal (L who file block first last) → first ≤ number → number ≤ last → ⊥

-- the entry is a write through of an incarnation whose call is open before it
abbrev pub IsThroughWrite : (who : Who) (q : ℕ) → Entry → List Entry → Type 0
IsThroughWrite who q e before = IsWriteBy who e × IsThrough e × IsOpen before who q

-- an S or L of the incarnation covers this number of the block
pub data CoversNumber (journal : List Entry) (who : Who) (file block n : ℕ) : Type 0 where
  by_store : (first last now : ℕ) → In journal (S who file block first last now) → first ≤ n → n ≤ last → CoversNumber journal who file block n
  by_loss : (first last : ℕ) → In journal (L who file block first last) → first ≤ n → n ≤ last → CoversNumber journal who file block n

-- delayed writes of a client on this block enclose a number
pub data LiesWithin (dirty : List Push) (push : Option Push) (file block n : ℕ) : Type 0 where
  in_list : (p : Push) → In dirty p → p.file ≡ file → p.block ≡ block → p.first ≤ n → n ≤ p.last → LiesWithin dirty push file block n
  under_way : (p : Push) → push ≡ Some p → p.file ≡ file → p.block ≡ block → p.first ≤ n → n ≤ p.last → LiesWithin dirty push file block n

-- the kept line of a host has decided the request of this incarnation and sequence, and it was done
pub record IsDone (line : HostRow) (who : Who) (seq : ℕ) : Type 0 where
  pub inc : line.inc ≡ who.inc
  pub decided : line.seq ≡ seq
  pub told : line.verdict ≡ Verdict.Done

-- what a call's request that was done has made in the journal
abbrev pub Made : (who : Who) (q : ℕ) → Request → List Entry → Type 0
Made who q (Request.Write w seq file block first last None body) journal = Somewhere (IsThroughWrite who q) journal
Made who q (Request.Resize w seq n file blocks) journal = Somewhere (IsSettledResize journal journal who q file) journal
Made who q (Request.Remove w seq n file) journal = Somewhere (IsSettledResize journal journal who q file) journal
Made who q other journal = ⊤

-- the call is open as the journal tells it
pub record IsOpenAs (who : Who) (u : UnderWay) (journal : List Entry) : Type 0 where
  pub is_open : IsOpen journal who u.q
  pub tells : call_of journal who u.q ≡ Some (told u.call)

-- ---- a client

-- the call's request is for what the call asks; a resize's or removal's file is clean
abbrev pub IsFor : UnderWay → List Push → Option Push → Request → Type 0
IsFor u dirty push (Request.Lookup w name) = u.call ≡ Call.Lookup name
IsFor u dirty push (Request.Create w seq name blocks) = u.call ≡ Call.Create name blocks
IsFor u dirty push (Request.GetAttr w file) = u.call ≡ Call.Attr file
IsFor u dirty push (Request.Read w q file block want) = IsRead u.call file block
IsFor u dirty push (Request.Write w seq file block first last base body) = (u.call ≡ Call.Write file block body) ⊎ (u.call ≡ Call.Put file block body)
IsFor u dirty push (Request.Resize w seq q file blocks) = (u.call ≡ Call.Resize file blocks) × (q ≡ u.q) × (is_clean_in file dirty push ≡ true)
IsFor u dirty push (Request.Remove w seq q file) = (u.call ≡ Call.Remove file) × (q ≡ u.q) × (is_clean_in file dirty push ≡ true)
IsFor u dirty push other = ⊤

-- the numbers of a client's delayed writes, and of its losses, are below its next number
pub record Numbered (who : Who) (number : ℕ) (dirty : List Push) (push : Option Push) (journal : List Entry) : Type 0 where
  pub listed : (p : Push) → In dirty p → p.last < number
  pub pushed : (p : Push) → push ≡ Some p → p.last < number
  pub lost : (file block first last : ℕ) → In journal (L who file block first last) → last < number

-- what is kept of a client; the calls that are not spared are about to be told losses
pub record KeepsOk (Spared : UnderWay → Type 0) (line : HostRow) (who : Who) (number : ℕ) (call : Option UnderWay) (ticket : Option Ticket)
    (losses : List Loss) (dirty : List Push) (push : Option Push) (journal : List Entry) : Type 0 where
  -- the call's request is for the call
  pub fits : (t : Ticket) (u : UnderWay) → ticket ≡ Some t → t.job ≡ for_call → call ≡ Some u → IsFor u dirty push t.request
  -- the call under way is open
  pub is_open : (u : UnderWay) → call ≡ Some u → IsOpenAs who u journal
  -- while a sync, resize or removal is under way, its file has no unnamed loss
  pub told : (u : UnderWay) (file : ℕ) → call ≡ Some u → Spared u → cleans file u.call ≡ true → losses_of file losses ≡ []
  -- the delayed write of a put stands, and is not lost
  pub put : (u : UnderWay) (file block : ℕ) (body : List ℕ) → call ≡ Some u → Spared u → u.call ≡ Call.Put file block body → u.written ≡ true
      → PutWaits who u.q file block journal
  -- a call's request that was done has made what it asks
  pub made : (t : Ticket) (u : UnderWay) (n : ℕ) → ticket ≡ Some t → t.job ≡ for_call → call ≡ Some u → sequence_of t.request ≡ Some n
      → IsDone line who n → Made who u.q t.request journal
  pub numbers : Numbered who number dirty push journal

-- all calls
abbrev pub All : UnderWay → Type 0
All u = ⊤

abbrev pub KeepsOf : HostRow → Client → List Entry → Type 0
KeepsOf line c journal = KeepsOk All line c.who c.number c.call c.ticket c.losses c.dirty c.push journal

-- ---- a client in the middle of a step

pub record Book : Type 0 where
  pub who : Who
  pub seq : ℕ
  pub number : ℕ
  pub call : Option UnderWay
  pub ticket : Option Ticket
  pub losses : List Loss
  pub dirty : List Push
  pub push : Option Push
  pub entries : List Entry

abbrev pub book_of : ClientStep → Book
book_of t = record {
  who = t.client.who;
  seq = t.client.seq;
  number = t.client.number;
  call = t.client.call;
  ticket = t.client.ticket;
  losses = t.client.losses;
  dirty = t.client.dirty;
  push = t.client.push;
  entries = t.entries;
}

pub record Mid (Spared : UnderWay → Type 0) (line : HostRow) (journal : List Entry) (b : Book) : Type 0 where
  pub keeps : KeepsOk Spared line b.who b.number b.call b.ticket b.losses b.dirty b.push (b.entries ++ journal)
  -- the next sequence was not decided
  pub above : line.inc ≡ b.who.inc → line.seq < b.seq
  -- each ok is kept at its place
  pub kept : Throughout KeptHere (b.entries ++ journal)
  -- the step's entries are of the client
  pub own : (e : Entry) → In b.entries e → entry_who e ≡ Some b.who

-- what is known of the delayed writes and losses of a client after the step
pub record After (journal : List Entry) (b : Book) : Type 0 where
  pub unsaved : (file block n value : ℕ) → In (b.entries ++ journal) (W b.who file block n value false)
      → CoversNumber (b.entries ++ journal) b.who file block n ⊎ LiesWithin b.dirty b.push file block n
  pub named : (loss : Loss) → Exists (IsLossOf b.who loss) (b.entries ++ journal)
      → IsOneOf b.losses loss ⊎ Exists (Names (b.entries ++ journal) b.who loss) (b.entries ++ journal)

-- ---- first consequences

-- where no call is under way only numbers are to be shown
pub ended : {Spared : UnderWay → Type 0} {line : HostRow} {who : Who} {number : ℕ} {ticket : Option Ticket} {losses : List Loss} {dirty : List Push}
    {push : Option Push} {journal : List Entry} → Numbered who number dirty push journal
    → KeepsOk Spared line who number None ticket losses dirty push journal
ended n = record {
  fits = λ t u a j c. none-some u c;
  is_open = λ u c. none-some u c;
  told = λ u file c. none-some u c;
  put = λ u file block body c. none-some u c;
  made = λ t u m a j c. none-some u c;
  numbers = n;
}

-- where the request under way is not the call's
pub not-for-call : (ticket : Option Ticket) (t : Ticket) → ticket_is_for_call ticket ≡ false → ticket ≡ Some t → t.job ≡ for_call → ⊥
not-for-call ticket t idle is job = let yes : ticket_is_for_call ticket ≡ true = ap ticket_is_for_call is ∙ ap is_for_call job in absurd (cc)
