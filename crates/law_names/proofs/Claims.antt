-- What a host was granted on a directory, and how it stays right.
use Rattle.std.proofs.Common.{◌≡◌, ◌<◌, ◌≤◌, ◌⊎◌, ℕ, ◌+◌, true, List, [], Option, Some, None, length, nat_lt, refl, ap, ◌∙◌, arith, inl, inr}
use Rattle.std.specs.Prelude.{⊤}
use Rattle.nq_base.specs.declared.Call.{Call}
use Rattle.nq_base.specs.declared.Event.{Event}
use Rattle.nq_base.specs.declared.Grant.{Grant}
use Rattle.nq_base.specs.declared.Party.{Party}
use Rattle.nq_base.specs.declared.Tag.{Tag}
use Rattle.nq_base.specs.declared.Who.{Who}
use Rattle.nq_directory.specs.declared.FileName.{FileName}
use Rattle.nq_directory.specs.Prefix.{directory}
use Rattle.nq_directory.specs.declared.listing.messages.DirTag.{DirTag}
use Rattle.nq_directory.specs.declared.listing.messages.ReadDir.{ReadDir}
use Rattle.nq_directory.specs.Messages.{Answer, Listing, page, most_names}
use Rattle.nq_directory.specs.Reading.{read_dir_in, dir_vacated_in, told_in}
use Rattle.nq_model.specs.protocol.Client.{Lease}
use Rattle.nq_model.specs.protocol.Kept.{File, Kept, host_row}
use Rattle.nq_model.specs.laws.LeaseInterval.{cover_end}
use Rattle.nq_model.specs.protocol.Server.{Phase, serving, recovering}
use Rattle.nq_model.specs.protocol.Table.{tag_below}
use Rattle.nq_directory.specs.Asking.{is_reading}
use Rattle.nq_directory.specs.NameCacheNames.{DirList, Names, Request}
use Rattle.nq_name_server.specs.Served.{Served, names_behind}
use Rattle.nq_name_server.specs.Outer.{Outer}
use Rattle.walk_steps.proofs.Packets.{In}
use Rattle.law_names.proofs.Chains.{Chained, HasFit, Leads, WasDrawn}
use Rattle.law_names.proofs.Entries.{entries_in, page-same, upto-same, whole-same, behind-same}
use Rattle.law_names.proofs.Pages.{IsPage, IsUpTo, IsWhole}

-- ---- what a claim rests on

-- the leases on directories, or those of the last boot while the server recovers; what is kept; the phase; the inner events that were
-- run; and the packets that travel
pub record Ground : Type 0 where
  pub served : Served
  pub kept : Kept
  pub phase : Phase
  pub ran : List Event
  pub sent : List Outer

-- ---- the packets beside those of the inner world

-- a host gave up a tag
pub record GaveUp (sent : List Outer) (host : ℕ) (t : DirTag) : Type 0 where
  pub packet : Outer
  pub there : In sent packet
  pub sender : packet.sender ≡ Party.Client host
  pub beside : packet.is ≡ None
  pub no_request : read_dir_in packet.bytes ≡ None
  pub reads : dir_vacated_in packet.bytes ≡ Some t

-- a host asked for a page
pub record AskedFor (sent : List Outer) (host : ℕ) (r : ReadDir) : Type 0 where
  pub packet : Outer
  pub there : In sent packet
  pub sender : packet.sender ≡ Party.Client host
  pub beside : packet.is ≡ None
  pub reads : read_dir_in packet.bytes ≡ Some r

-- a host was told something in reply to a number
pub record ToldTo (sent : List Outer) (host xid inc : ℕ) (a : Answer) : Type 0 where
  pub packet : Outer
  pub there : In sent packet
  pub to : packet.to ≡ Party.Client host
  pub beside : packet.is ≡ None
  pub reads : told_in xid inc packet.bytes ≡ Some a

-- ---- one claim

-- the recovery does not end before this
abbrev pub Outlasts : Phase → (end : ℕ) → Type 0
Outlasts serving end = ⊤
Outlasts (recovering until heard last) end = end ≤ until

-- a host has a claim to a directory, by a tag, asked for at a time of its clock with a term; `Right` is what it knows of the files. It
-- is right while the chain goes on, and the chain goes on while the claim runs
pub record Good (e : Ground) (host : ℕ) (who : Who) (now : ℕ) (prefix : List ℕ) (tag : Tag) (asked term : ℕ) (Right : List File → Type 0) : Type 0 where
  pub drawn : WasDrawn e.served tag
  pub past : asked ≤ now
  pub inc : (host_row e.kept host).inc ≡ who.inc
  pub right : Chained e.served prefix who tag → Right e.kept.files
  pub short : now < asked + term → term ≤ e.kept.longest
  pub covered : now < asked + term → HasFit e.served prefix who tag (cover_end host asked term e.ran)
  pub waits : now < asked + term → Outlasts e.phase (cover_end host asked term e.ran)
  pub above : (t : DirTag) → GaveUp e.sent host t → t.who.inc ≡ who.inc → t.prefix ≡ prefix → tag_below t.tag tag ≡ true

-- what is known rests on the entries of the directory alone
abbrev pub RestsOn : (prefix : List ℕ) → (List File → Type 0) → Type 0
RestsOn prefix Right = (files after : List File) → entries_in prefix files ≡ entries_in prefix after → Right files → Right after

-- the tags that a host gave up are below one
abbrev pub IsAbove : Ground → (host : ℕ) → Who → (prefix : List ℕ) → Tag → Type 0
IsAbove e host who prefix tag = (t : DirTag) → GaveUp e.sent host t → t.who.inc ≡ who.inc → t.prefix ≡ prefix → tag_below t.tag tag ≡ true

-- a claim runs: its term is short, a row fits it, and a recovery outlasts it
pub record Runs (e : Ground) (host : ℕ) (who : Who) (prefix : List ℕ) (tag : Tag) (asked term : ℕ) : Type 0 where
  pub short : term ≤ e.kept.longest
  pub covered : HasFit e.served prefix who tag (cover_end host asked term e.ran)
  pub waits : Outlasts e.phase (cover_end host asked term e.ran)

-- the ground of a claim shifts
pub record Shift (e after : Ground) (host : ℕ) (who : Who) (now later : ℕ) (prefix : List ℕ) (tag : Tag) : Type 0 where
  pub leads : Leads e.served after.served
  pub time : now ≤ later
  pub inc : (host_row e.kept host).inc ≡ who.inc → (host_row after.kept host).inc ≡ who.inc
  pub same : (host_row e.kept host).inc ≡ who.inc → Chained after.served prefix who tag → entries_in prefix e.kept.files ≡ entries_in prefix after.kept.files
  pub runs : (asked term : ℕ) → asked ≤ now → later < asked + term → (host_row e.kept host).inc ≡ who.inc → IsAbove e host who prefix tag
      → Runs e host who prefix tag asked term → Runs after host who prefix tag asked term
  pub gave : (t : DirTag) → GaveUp after.sent host t → t.prefix ≡ prefix → GaveUp e.sent host t

pub shifted : (e after : Ground) (host : ℕ) (who : Who) (now later : ℕ) (prefix : List ℕ) (tag : Tag) (asked term : ℕ) (Right : List File → Type 0)
    → RestsOn prefix Right → Shift e after host who now later prefix tag → Good e host who now prefix tag asked term Right
    → Good after host who later prefix tag asked term Right
shifted e after host who now later prefix tag asked term Right rests s g = record {
  drawn = s.leads.drawn tag g.drawn;
  past = let p = g.past in let t = s.time in omega arith;
  inc = s.inc g.inc;
  right = λ c. rests e.kept.files after.kept.files (s.same g.inc c) (g.right (s.leads.chain prefix who tag g.drawn c));
  short = λ runs. (goes runs).short;
  covered = λ runs. (goes runs).covered;
  waits = λ runs. (goes runs).waits;
  above = λ t gave inc of. g.above t (s.gave t gave of) inc of;
} where
  goes : later < asked + term → Runs after host who prefix tag asked term
  goes runs =
      let t = s.time in
      let before : now < asked + term = omega arith in
      s.runs asked term g.past runs g.inc g.above (record { short = g.short before; covered = g.covered before; waits = g.waits before })

-- ---- what a host has

-- a whole list
pub record ListFits (e : Ground) (host : ℕ) (who : Who) (now : ℕ) (l : DirList) : Type 0 where
  pub lease : Lease
  pub has : l.lease ≡ Some lease
  pub asked : ℕ
  pub expires : lease.expiry ≡ asked + lease.term
  pub good : Good e host who now l.prefix lease.tag asked lease.term (IsWhole l.prefix l.names)

-- what came of a list so far
abbrev pub PartFits : Ground → (host : ℕ) → Who → (now : ℕ) → Request → Option Lease → Type 0
PartFits e host who now r None = (r.part.names ≡ []) × (r.after ≡ 0)
PartFits e host who now r (Some lease) = (asked : ℕ) × Good e host who now r.part.prefix lease.tag asked lease.term (IsUpTo r.part.prefix r.after r.part.names)

-- what a page says of a directory
pub record IsLeaf (prefix : List ℕ) (after : ℕ) (l : Listing) (files : List File) : Type 0 where
  pub names : IsPage most_names prefix after l.names files
  pub more : l.more ≡ nat_lt most_names (length (names_behind prefix after files))

-- a page that can be taken
pub record PageFits (e : Ground) (host : ℕ) (who : Who) (now : ℕ) (r : Request) (l : Listing) (g : Grant) : Type 0 where
  pub good : Good e host who now r.part.prefix g.tag r.sent g.term (IsLeaf r.part.prefix r.after l)
  pub since : (c : Chained e.served r.part.prefix who g.tag) → c.row.since ≡ g.since

-- the directory of a list, or of what came of one
abbrev pub IsClaimed : Names → (prefix : List ℕ) → Type 0
IsClaimed n prefix = ((l : DirList) × In n.lists l × (l.prefix ≡ prefix)) ⊎ ((r : Request) × (n.asked ≡ Some r) × (r.part.prefix ≡ prefix))

-- while a call that changes a directory is under way, none of its names are kept
abbrev pub IsForgotten : Names → Call → Type 0
IsForgotten n (Call.Create name blocks) = IsClaimed n (directory name) → ⊥
IsForgotten n (Call.Remove file) = (prefix : List ℕ) → IsClaimed n prefix → ⊥
IsForgotten n other = ⊤

-- what a host keeps of names fits
pub record HostFits (e : Ground) (host : ℕ) (n : Names) (now : ℕ) : Type 0 where
  pub lists : (l : DirList) → In n.lists l → ListFits e host n.who now l
  pub part : (r : Request) → n.asked ≡ Some r → (r.sent ≤ now) × PartFits e host n.who now r r.part.lease
  pub pages : (r : Request) (l : Listing) (g : Grant) → n.asked ≡ Some r → ToldTo e.sent host r.xid n.who.inc (page l) → l.grant ≡ Some g
      → is_reading g.mode ≡ true → PageFits e host n.who now r l g

rests-whole : (prefix : List ℕ) (names : List FileName) → RestsOn prefix (IsWhole prefix names)
rests-whole prefix names files after same h = whole-same prefix files after same names h

rests-upto : (prefix : List ℕ) (id : ℕ) (names : List FileName) → RestsOn prefix (IsUpTo prefix id names)
rests-upto prefix id names files after same h = upto-same prefix files after same id names h

rests-leaf : (prefix : List ℕ) (id : ℕ) (l : Listing) → RestsOn prefix (IsLeaf prefix id l)
rests-leaf prefix id l files after same h = record {
  names = page-same prefix files after same most_names id l.names h.names;
  more = h.more ∙ ap (λ ns. nat_lt most_names (length ns)) (behind-same prefix files after same id);
}

-- a row of one chain stays one of it
keeps-since : (e after : Ground) (prefix : List ℕ) (who : Who) (g : Grant) → Leads e.served after.served → WasDrawn e.served g.tag
    → ((c : Chained e.served prefix who g.tag) → c.row.since ≡ g.since)
    → ((c : Chained after.served prefix who g.tag) → c.row.since ≡ g.since)
keeps-since e after prefix who g leads drawn h c =
    leads.since prefix who g.tag drawn c ∙ h (leads.chain prefix who g.tag drawn c)

-- a list, what came of one, and a page stay right where the ground shifts
pub list-shifted : (e after : Ground) (host : ℕ) (who : Who) (now later : ℕ) (l : DirList)
    → ((tag : Tag) → Shift e after host who now later l.prefix tag) → ListFits e host who now l → ListFits after host who later l
list-shifted e after host who now later l shift f = record {
  lease = f.lease;
  has = f.has;
  asked = f.asked;
  expires = f.expires;
  good = shifted e after host who now later l.prefix f.lease.tag f.asked f.lease.term (IsWhole l.prefix l.names)
      (rests-whole l.prefix l.names) (shift f.lease.tag) f.good;
}

pub part-shifted : (e after : Ground) (host : ℕ) (who : Who) (now later : ℕ) (r : Request) → ((tag : Tag) → Shift e after host who now later r.part.prefix tag)
    → (o : Option Lease) → PartFits e host who now r o → PartFits after host who later r o
part-shifted e after host who now later r shift None p = p
part-shifted e after host who now later r shift (Some lease) p = (
  p.0,
  shifted e after host who now later r.part.prefix lease.tag p.0 lease.term (IsUpTo r.part.prefix r.after r.part.names)
      (rests-upto r.part.prefix r.after r.part.names) (shift lease.tag) p.1,
)

pub page-shifted : (e after : Ground) (host : ℕ) (who : Who) (now later : ℕ) (r : Request) (l : Listing) (g : Grant)
    → Shift e after host who now later r.part.prefix g.tag → PageFits e host who now r l g → PageFits after host who later r l g
page-shifted e after host who now later r l g s p = record {
  good = shifted e after host who now later r.part.prefix g.tag r.sent g.term (IsLeaf r.part.prefix r.after l)
      (rests-leaf r.part.prefix r.after l) s p.good;
  since = keeps-since e after r.part.prefix who g s.leads p.good.drawn p.since;
}

-- all that a host has stays right where the ground shifts for each of its claims
pub host-shifted : (e after : Ground) (host : ℕ) (n : Names) (now later : ℕ)
    → ((prefix : List ℕ) (tag : Tag) → IsClaimed n prefix → Shift e after host n.who now later prefix tag)
    → now ≤ later
    → ((xid : ℕ) (a : Answer) → ToldTo after.sent host xid n.who.inc a → ToldTo e.sent host xid n.who.inc a)
    → HostFits e host n now → HostFits after host n later
host-shifted e after host n now later shift time told h = record {
  lists = λ l i. list-shifted e after host n.who now later l (λ tag. shift l.prefix tag (inl (l, i, refl))) (h.lists l i);
  part = λ r is.
      let p = h.part r is in
      (let a = p.0 in omega arith, part-shifted e after host n.who now later r (λ tag. shift r.part.prefix tag (inr (r, is, refl))) r.part.lease p.1);
  pages = λ r l g is t has reads.
      page-shifted e after host n.who now later r l g (shift r.part.prefix g.tag (inr (r, is, refl))) (h.pages r l g is (told r.xid (page l) t) has reads);
}
