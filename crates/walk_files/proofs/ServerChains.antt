-- What a step of the server does to rows, files and lines, as what is known of chained leases needs it.
use Rattle.std.proofs.Common.{◌≡◌, ◌<◌, ◌≤◌, ◌⊎◌, ℕ, ◌+◌, true, false, List, ◌++◌, Option, Some, None}
use Rattle.nq_base.specs.declared.Grant.{Grant}
use Rattle.nq_base.specs.declared.Mode.{Mode}
use Rattle.nq_base.specs.declared.Reply.{Reply}
use Rattle.nq_base.specs.declared.Request.{Request}
use Rattle.nq_base.specs.declared.Row.{Row}
use Rattle.nq_base.specs.declared.Tag.{Tag}
use Rattle.nq_base.specs.declared.Verdict.{Verdict}
use Rattle.nq_base.specs.declared.Who.{Who}
use Rattle.walk_files.proofs.ChainFacts.{line_for, done_at, VerdictFits}
use Rattle.nq_model.specs.laws.Chained.{OwnRow}
use Rattle.nq_model.specs.protocol.Client.{Lease, Ticket, lease_on}
use Rattle.nq_model.specs.protocol.Decide.{verdict_reply}
use Rattle.nq_model.specs.protocol.Hear.{inc_of}
use Rattle.nq_model.specs.protocol.Kept.{File, blocks_of, find_file, host_row}
use Rattle.nq_model.specs.laws.LeaseInterval.{is_at_least, grant_in, requested_file}
use Rattle.nq_model.specs.protocol.Message.{Packet, reply, asker, sequence_of}
use Rattle.nq_model.specs.protocol.Server.{serving, Server, ServerStep, standing}
use Rattle.nq_model.specs.protocol.Table.{Table, caches, is_writing, same_tag, find_row, next_tag}
use Rattle.walk_steps.proofs.CoverFacts.{IsTakeable}
use Rattle.walk_steps.proofs.Packets.{Asked, Told}

-- ---- rows

-- a row goes on: it is of the same holder and chain, of at least its kind, and its latest tag is the same or the next
pub record Continues (before : Table) (row row' : Row) : Type 0 where
  pub who : row'.who ≡ row.who
  pub since : row'.since ≡ row.since
  pub tag : (row'.tag ≡ row.tag) ⊎ (row'.tag ≡ next_tag before)
  pub kind : (mode : Mode) → is_at_least row.mode mode ≡ true → is_at_least row'.mode mode ≡ true

-- where a row that stands after a step comes from: it is new, or it goes on
pub data RowFrom (before : Table) (file host : ℕ) (row' : Row) : Type 0 where
  row_fresh : row'.tag ≡ next_tag before → row'.since ≡ next_tag before → RowFrom before file host row'
  row_on : (row : Row) → find_row file host before.rows ≡ Some row → Continues before row row' → RowFrom before file host row'

-- what becomes of a row that lets its holder write
pub data RowOn (ps : List Packet) (s t : Server) (file host : ℕ) (row : Row) : Type 0 where
  goes_on : (row' : Row) → find_row file host (standing t).rows ≡ Some row' → Continues (standing s) row row' → RowOn ps s t file host row
  vacated : (x : ℕ) (w : Who) (tag : Tag) → Asked ps host x (Request.Vacated w file tag) → w.host ≡ host → w.inc ≡ row.who.inc
      → same_tag row.tag tag ≡ true → RowOn ps s t file host row
  superseded : (host_row s.kept host).inc < (host_row t.kept host).inc → RowOn ps s t file host row
  loosened : (f f' : File) → find_file file s.kept.files ≡ Some f → find_file file t.kept.files ≡ Some f' → f.rev < f'.rev → t.kept.hosts ≡ s.kept.hosts
      → RowOn ps s t file host row
  removed : find_file file t.kept.files ≡ None → RowOn ps s t file host row
  reopened : s.kept.opened < t.kept.opened → RowOn ps s t file host row

pub record RowsMove (ps : List Packet) (s t : Server) (host : ℕ) : Type 0 where
  pub from : (file : ℕ) (row' : Row) → find_row file host (standing t).rows ≡ Some row' → RowFrom (standing s) file host row'
  pub on : (file : ℕ) (row : Row) → find_row file host (standing s).rows ≡ Some row → is_writing row.mode ≡ true → RowOn ps s t file host row

-- ---- lines

-- the line of a host: it stays, an incarnation begins, or a request of the kept one is decided
pub data LineTo (ps : List Packet) (s t : Server) (host : ℕ) : Type 0 where
  line_stays : host_row t.kept host ≡ host_row s.kept host → LineTo ps s t host
  line_begins : (x : ℕ) (w : Who) → Asked ps host x (Request.Attach w) → w.host ≡ host → (host_row s.kept host).inc < w.inc
      → (host_row t.kept host).inc ≡ w.inc → (host_row t.kept host).seq ≡ 0 → LineTo ps s t host
  line_decides : (x : ℕ) (r : Request) (w : Who) (n : ℕ) (v : Verdict) (value : ℕ) → Asked ps host x r → asker r ≡ Some w → w.host ≡ host
      → w.inc ≡ (host_row s.kept host).inc → sequence_of r ≡ Some n → (host_row s.kept host).seq < n
      → host_row t.kept host ≡ record { inc = w.inc; seq = n; verdict = v; value = value } → VerdictFits r v value → LineTo ps s t host

-- ---- files

-- a client holds a lease on a file, or can take one
abbrev pub Claims : (ps : List Packet) (who : Who) (ticket : Option Ticket) (leases : List Lease) (file : ℕ) → Type 0
Claims ps who ticket leases file = ((l : Lease) × (lease_on file leases ≡ Some l)) ⊎ ((g : Grant) × (t : Ticket) × IsTakeable ps who ticket file g t)

-- no caching row of an incarnation that claims a file stands before and after a step
abbrev pub NoneCaches : (s t : Server) (who : Who) (file : ℕ) → Type 0 → Type 0
NoneCaches s t who file Claimed = (row row' : Row) → OwnRow (standing s) who file row → caches row.mode ≡ true → OwnRow (standing t) who file row'
    → Claimed → ⊥

-- what becomes of a file, as one client sees it: it stays; its own write was done; another change was made, and it had no chained
-- claim; or the file is gone
pub data FileMove (s t : Server) (who : Who) (ticket : Option Ticket) (file : ℕ) (Claimed : Type 0) : Type 0 where
  file_stays : find_file file t.kept.files ≡ find_file file s.kept.files → done_at t.kept who ticket file ≡ done_at s.kept who ticket file
      → (done_at s.kept who ticket file ≡ true → (line_for t.kept who).value ≡ (line_for s.kept who).value) → FileMove s t who ticket file Claimed
  file_written : (f f' : File) → find_file file s.kept.files ≡ Some f → find_file file t.kept.files ≡ Some f' → f'.rev ≡ f.rev + 1
      → blocks_of f' ≡ blocks_of f → done_at s.kept who ticket file ≡ false → done_at t.kept who ticket file ≡ true
      → (line_for t.kept who).value ≡ f'.rev → FileMove s t who ticket file Claimed
  file_changed : (f f' : File) → find_file file s.kept.files ≡ Some f → find_file file t.kept.files ≡ Some f' → f.rev < f'.rev
      → done_at t.kept who ticket file ≡ done_at s.kept who ticket file → NoneCaches s t who file Claimed → FileMove s t who ticket file Claimed
  file_gone : find_file file t.kept.files ≡ None → NoneCaches s t who file Claimed → FileMove s t who ticket file Claimed

-- what becomes of a file's revision
pub data FileGrows (s t : Server) (file : ℕ) : Type 0 where
  rev_stays : find_file file t.kept.files ≡ find_file file s.kept.files → FileGrows s t file
  rev_rises : (f f' : File) → find_file file s.kept.files ≡ Some f → find_file file t.kept.files ≡ Some f' → f.rev < f'.rev → FileGrows s t file
  rev_gone : find_file file t.kept.files ≡ None → FileGrows s t file

-- what a step does to the revisions of all files
pub record FilesGrow (s t : Server) : Type 0 where
  pub files : (file : ℕ) → file < s.kept.next → FileGrows s t file
  pub next : s.kept.next ≤ t.kept.next
  pub opened : s.kept.opened ≤ t.kept.opened

-- ---- what is said

-- a grant is of a row that was put for its asker, new or going on, and tells of the file as it is kept
pub record NewGrant (s t : Server) (who : Who) (file : ℕ) (g : Grant) : Type 0 where
  pub serves : s.phase ≡ serving
  pub same : t.kept ≡ s.kept
  pub f : File
  pub found : find_file file s.kept.files ≡ Some f
  pub rev : g.rev ≡ f.rev
  pub blocks : g.blocks ≡ blocks_of f
  pub tag : g.tag ≡ next_tag s.table
  pub row : Row
  pub stands : find_row file who.host (standing t).rows ≡ Some row
  pub row_tag : row.tag ≡ g.tag
  pub row_since : row.since ≡ g.since
  pub row_mode : row.mode ≡ g.mode
  pub alone : caches g.mode ≡ false → g.since ≡ g.tag
  pub origin : (g.since ≡ next_tag s.table)
      ⊎ ((own : Row) × (find_row file who.host (standing s).rows ≡ Some own) × (g.since ≡ own.since)
      × ((mode : Mode) → is_at_least own.mode mode ≡ true → is_at_least g.mode mode ≡ true))

-- a new reply to a request: to one that is decided once it is what the kept verdict gives, or it was decided before, or the asker
-- is not attached
pub record NewReply (ps : List Packet) (s t : Server) (host x : ℕ) (a : Reply) : Type 0 where
  pub asks : Request
  pub who : Who
  pub sent : Asked ps host x asks
  pub by : asker asks ≡ Some who
  pub same_host : who.host ≡ host
  pub inc : inc_of a ≡ who.inc
  pub verdict : (n : ℕ) → sequence_of asks ≡ Some n
      → ((host_row t.kept host).seq ≡ n × (a ≡ verdict_reply who.inc (host_row t.kept host).verdict (host_row t.kept host).value asks))
      ⊎ ((n < (host_row s.kept host).seq) ⊎ ((host_row s.kept host).inc < who.inc))
  pub grants : (g : Grant) → grant_in a ≡ Some g → (file : ℕ) → requested_file asks ≡ Some file → NewGrant s t who file g

-- ---- all of it

-- what a step does, as one client sees it
pub record ChainEffect (ps : List Packet) (s : Server) (t : ServerStep) (who : Who) (ticket : Option Ticket) (leases : List Lease) : Type 0 where
  pub rows : RowsMove ps s t.server who.host
  pub line : LineTo ps s t.server who.host
  pub files : (file : ℕ) → file < s.kept.next → FileMove s t.server who ticket file (Claims ps who ticket leases file)
  pub next : s.kept.next ≤ t.server.kept.next
  pub opened : s.kept.opened ≤ t.server.kept.opened
  pub said : (x : ℕ) (a : Reply) → Told (ps ++ t.sends) who.host (reply x a) → Told ps who.host (reply x a) ⊎ NewReply ps s t.server who.host x a
