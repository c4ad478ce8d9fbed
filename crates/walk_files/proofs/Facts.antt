-- What is known of contents, and how it stays known while a journal goes on.
use Rattle.std.proofs.Common.{◌≡◌, ◌≢◌, ◌≤◌, ◌<◌, ◌⊎◌, ℕ, ◌+◌, true, List, ◌++◌, Option, Some, None, map, length, sym, ap, ◌∙◌, arith, inl, inr}
use Rattle.std.specs.Prelude.{slice_get}
use Rattle.nq_base.specs.Block.{value_of}
use Rattle.nq_base.specs.declared.Entry.{Entry}
use Rattle.nq_base.specs.declared.Grant.{Grant}
use Rattle.nq_base.specs.declared.HostRow.{HostRow}
use Rattle.nq_base.specs.declared.PushBase.{PushBase}
use Rattle.nq_base.specs.declared.Reply.{Reply}
use Rattle.nq_base.specs.declared.Request.{Request}
use Rattle.nq_base.specs.declared.Verdict.{Verdict}
use Rattle.nq_base.specs.declared.Who.{Who}
use Rattle.walk_files.proofs.Histories.{count-more, content-more, delayed-more, change-more}
use Rattle.nq_model.specs.laws.Contents.{changes_of, delayed_value, content_at, change_at}
use Rattle.nq_model.specs.laws.Told.{HasValue, HasLength, GrantIsOf, IsChangeBy}
use Rattle.nq_model.specs.protocol.Kept.{File, find_file}
use Rattle.nq_model.specs.protocol.Message.{Packet, asker, sequence_of}
use Rattle.walk_steps.proofs.Packets.{Asked}

-- a journal, the first lengths of files, and the next id
pub record History : Type 0 where
  pub journal : List Entry
  pub first : ℕ → ℕ
  pub next : ℕ

-- a history after another: what was reached stays as it was
pub record Follows (h g : History) : Type 0 where
  pub ids : h.next ≤ g.next
  pub counts : (file : ℕ) → changes_of h.journal file ≤ changes_of g.journal file
  pub contents : (file rev : ℕ) → file < h.next → rev ≤ changes_of h.journal file
      → content_at g.journal (g.first file) file rev ≡ content_at h.journal (h.first file) file rev
  pub delayed : (who : Who) (file block number v : ℕ) → delayed_value h.journal who file block number ≡ Some v
      → delayed_value g.journal who file block number ≡ Some v
  pub changed : (file rev : ℕ) (c : Entry) → change_at h.journal file rev ≡ Some c → change_at g.journal file rev ≡ Some c

pub follows : (h : History) (es : List Entry) (first : ℕ → ℕ) (next : ℕ) → h.next ≤ next → ((id : ℕ) → id < h.next → first id ≡ h.first id)
    → Follows h (record { journal = es ++ h.journal; first = first; next = next })
follows h es first next more same = record {
  ids = more;
  counts = λ file. count-more es h.journal file;
  contents =
      λ file rev drawn reached. ap (λ n. content_at (es ++ h.journal) n file rev) (same file drawn)
      ∙ content-more es h.journal (h.first file) file rev reached;
  delayed = λ who file block number v. delayed-more es h.journal who file block number v;
  changed = λ file rev c. change-more es h.journal file rev c;
}

-- ---- values and lengths at a revision

pub record HadValue (h : History) (file rev block v : ℕ) : Type 0 where
  pub drawn : file < h.next
  pub had : HasValue h.first h.journal file rev block v

pub record HadLength (h : History) (file rev blocks : ℕ) : Type 0 where
  pub drawn : file < h.next
  pub had : HasLength h.first h.journal file rev blocks

pub value-follows : {h g : History} (file rev block v : ℕ) → Follows h g → HadValue h file rev block v → HadValue g file rev block v
value-follows file rev block v f k =
    let drawn = k.drawn in let reached = k.had.reached in let ids = f.ids in let counts = f.counts file in
    record {
      drawn = omega arith;
      had = record { reached = omega arith; has = ap (λ values. slice_get values block) (f.contents file rev k.drawn k.had.reached) ∙ k.had.has };
    }

pub value-before : {h g : History} (file rev block v : ℕ) → Follows h g → file < h.next → rev ≤ changes_of h.journal file → HadValue g file rev block v
    → HadValue h file rev block v
value-before file rev block v f drawn reached k = record {
  drawn = drawn;
  had = record { reached = reached; has = ap (λ values. slice_get values block) (sym (f.contents file rev drawn reached)) ∙ k.had.has };
}

pub length-follows : {h g : History} (file rev blocks : ℕ) → Follows h g → HadLength h file rev blocks → HadLength g file rev blocks
length-follows file rev blocks f k =
    let drawn = k.drawn in let reached = k.had.reached in let ids = f.ids in let counts = f.counts file in
    record {
      drawn = omega arith;
      had = record { reached = omega arith; length = ap (λ values. length values) (f.contents file rev k.drawn k.had.reached) ∙ k.had.length };
    }

-- a change gave a block its value, and left the others
pub record SetsBlock (h : History) (file rev block v : ℕ) : Type 0 where
  pub value : HadValue h file rev block v
  pub others : (old other w : ℕ) → rev ≡ old + 1 → other ≢ block → HadValue h file old other w → HadValue h file rev other w

pub sets-follows : {h g : History} (file rev block v : ℕ) → Follows h g → SetsBlock h file rev block v → SetsBlock g file rev block v
sets-follows file rev block v f k = record {
  value = value-follows file rev block v f k.value;
  others = λ old other w next apart had.
      let reached = k.value.had.reached in
      value-follows file rev other w f (k.others old other w next apart (value-before file old other w f k.value.drawn (omega arith) had));
}

-- ---- what replies tell

abbrev pub GrantTells : History → (file : ℕ) → Option Grant → Type 0
GrantTells h file None = Unit {0}
GrantTells h file (Some g) = HadLength h file g.rev g.blocks

-- a push came over the revision before
abbrev pub IsOverBase : Option PushBase → (rev : ℕ) → Type 0
IsOverBase None rev = Unit {0}
IsOverBase (Some push) rev = rev ≡ push.base + 1

abbrev pub Tells : History → Request → Reply → Type 0
Tells h (Request.Read who q file block want) (Reply.Read inc rev body grant) =
    HadValue h file rev block (value_of body) × GrantTells h file grant × GrantIsOf rev grant
Tells h (Request.GetLease who file want) (Reply.GetLease inc grant) = GrantTells h file grant
Tells h (Request.Write who seq file block f l push body) (Reply.Write inc rev) = SetsBlock h file rev block (value_of body) × IsOverBase push rev
Tells h (Request.Resize who seq q file blocks) (Reply.Resize inc rev) = HadLength h file rev blocks
Tells h other r = Unit {0}

grant-follows : {h g : History} (file : ℕ) (o : Option Grant) → Follows h g → GrantTells h file o → GrantTells g file o
grant-follows file None f k = k
grant-follows file (Some x) f k = length-follows file x.rev x.blocks f k

pub tells-follows : {h g : History} (r : Request) (a : Reply) → Follows h g → Tells h r a → Tells g r a
tells-follows (Request.Read who q file block want) (Reply.Read inc rev body grant) f k =
    (value-follows file rev block (value_of body) f k.0, grant-follows file grant f k.1, k.2)
tells-follows (Request.GetLease who file want) (Reply.GetLease inc grant) f k = grant-follows file grant f k
tells-follows (Request.Write who seq file block n l push body) (Reply.Write inc rev) f k = (sets-follows file rev block (value_of body) f k.0, k.1)
tells-follows (Request.Resize who seq q file blocks) (Reply.Resize inc rev) f k = length-follows file rev blocks f k
tells-follows other a f k = tt

-- ---- what was done

abbrev pub Changed : History → (value : ℕ) → Request → Type 0
Changed h value (Request.Write who seq file block f l push body) = SetsBlock h file value block (value_of body)
Changed h value (Request.Resize who seq q file blocks) = HadLength h file value blocks
Changed h value other = Unit {0}

-- a request was done with this value
pub record IsDone (h : History) (value : ℕ) (r : Request) : Type 0 where
  pub changed : Changed h value r
  pub change : IsChangeBy h.journal value r

changed-follows : {h g : History} (value : ℕ) (r : Request) → Follows h g → Changed h value r → Changed g value r
changed-follows value (Request.Write who seq file block n l push body) f k = sets-follows file value block (value_of body) f k
changed-follows value (Request.Resize who seq q file blocks) f k = length-follows file value blocks f k
changed-follows value other f k = tt

change-follows : {h g : History} (value : ℕ) (r : Request) → Follows h g → IsChangeBy h.journal value r → IsChangeBy g.journal value r
change-follows value (Request.Write who seq file block n l None body) f k = f.changed file value (Entry.W who file block n (value_of body) true) k
change-follows value (Request.Write who seq file block n l (Some push) body) f k = (
  k.0,
  f.delayed who file block l (value_of body) k.1,
  record
      { some = k.2.some; change = f.changed file value (Entry.S who file block n l k.2.some) k.2.change },
)
change-follows value (Request.Resize who seq q file blocks) f k =
    record { some = k.some; change = f.changed file value (Entry.Z who q file k.some blocks) k.change }
change-follows value other f k = tt

pub done-follows : {h g : History} (value : ℕ) (r : Request) → Follows h g → IsDone h value r → IsDone g value r
done-follows value r f k = record { changed = changed-follows value r f k.changed; change = change-follows value r f k.change }

-- ---- the line of a host: the request that was decided last

pub record IsLast (h : History) (ps : List Packet) (host : ℕ) (line : HostRow) : Type 0 where
  pub xid : ℕ
  pub asks : Request
  pub who : Who
  pub sent : Asked ps host xid asks
  pub by : asker asks ≡ Some who
  pub home : who.host ≡ host
  pub inc : who.inc ≡ line.inc
  pub sequence : sequence_of asks ≡ Some line.seq
  pub done : line.verdict ≡ Verdict.Done → IsDone h line.value asks

-- none was decided of the kept incarnation, or that one
abbrev pub LineTells : History → List Packet → (host : ℕ) → HostRow → Type 0
LineTells h ps host line = (line.seq ≡ 0) ⊎ IsLast h ps host line

pub line-follows : {h g : History} (ps qs : List Packet) (host : ℕ) (line : HostRow) → Follows h g
    → ((xid : ℕ) (r : Request) → Asked ps host xid r → Asked qs host xid r) → LineTells h ps host line → LineTells g qs host line
line-follows ps qs host line f more (inl none) = inl none
line-follows ps qs host line f more (inr k) =
    inr
    (record {
      xid = k.xid;
      asks = k.asks;
      who = k.who;
      sent = more k.xid k.asks k.sent;
      by = k.by;
      home = k.home;
      inc = k.inc;
      sequence = k.sequence;
      done = λ d. done-follows line.value k.asks f (k.done d);
    })

-- ---- kept files

pub record IsFile (h : History) (id : ℕ) (f : File) : Type 0 where
  pub drawn : id < h.next
  pub revision : f.rev ≡ changes_of h.journal id
  pub content : map value_of f.bodies ≡ content_at h.journal (h.first id) id f.rev

abbrev pub FilesFit : History → List File → Type 0
FilesFit h files = (id : ℕ) (f : File) → find_file id files ≡ Some f → IsFile h id f

-- a file that was not made yet was not changed
abbrev pub UnusedFit : History → Type 0
UnusedFit h = (id : ℕ) → h.next ≤ id → changes_of h.journal id ≡ 0
