-- What a server makes of READDIRLOOK and DIRVACATED, of requests that change a directory, and of its clock.
use Rattle.std.specs.Prelude.{◌≡◌, ℕ, ◌+◌, ◌%◌, ◌==◌, ◌&&◌, List, [], ◌∷◌, ◌++◌, Option, Some, None, filter, length, nat_lt, if◌then◌else◌}
use Rattle.nq_base.specs.declared.Access.{Access}
use Rattle.nq_base.specs.declared.Asked.{Asked}
use Rattle.nq_base.specs.declared.Grant.{Grant}
use Rattle.nq_base.specs.declared.Mode.{Mode}
use Rattle.nq_base.specs.declared.Question.{Question}
use Rattle.nq_base.specs.declared.Row.{Row}
use Rattle.nq_base.specs.declared.Who.{Who}
use Rattle.nq_directory.specs.declared.listing.messages.DirTag.{DirTag}
use Rattle.nq_directory.specs.declared.listing.messages.ReadDir.{ReadDir}
use Rattle.nq_directory.specs.Messages.{page, wait, answer_bytes, dir_evicted_bytes, front_bytes}
use Rattle.nq_model.specs.protocol.Ask.{ask, conflicts}
use Rattle.nq_model.specs.protocol.Profile.{xid_end}
use Rattle.nq_model.specs.protocol.ServerStep.{end_reading, vacated_rows}
use Rattle.nq_model.specs.protocol.Table.{Table, find_row, drop_row, with_rows}
use Rattle.nq_xdr.specs.Message.{spelling, reply_with, null}
use Rattle.nq_name_server.specs.Served.{Served, Leaf, most_directories, number_of}

-- a datagram to a host
pub record ToHost : Type 0 where
  pub host : ℕ
  pub bytes : List ℕ

-- what the server keeps then, and the datagrams that it sends
pub record Serves : Type 0 where
  pub served : Served
  pub sends : List ToHost

-- nothing is sent
abbrev pub quiet : Served → Serves
quiet s = record { served = s; sends = [] }

-- ---- notices

-- the DIREVICTED to the holder of a row
abbrev pub notice_to : (prefix : List ℕ) → (xid : ℕ) → Row → ToHost
notice_to prefix xid row = record {
  host = row.who.host;
  bytes = dir_evicted_bytes (record { xid = xid; who = row.who; prefix = prefix; tag = row.tag });
}

-- notices to the holders of these rows; their numbers begin here and wrap
abbrev pub notices : (prefix : List ℕ) → (xid : ℕ) → List Row → List ToHost
notices prefix xid [] = []
notices prefix xid (row ∷ rows) = notice_to prefix xid row ∷ notices prefix ((xid + 1) % xid_end) rows

-- the number behind so many notices
abbrev pub notice_after : (xid sent : ℕ) → ℕ
notice_after xid sent = (xid + sent) % xid_end

-- ---- READDIRLOOK

-- what the lease table is asked: for a reading lease on a directory
abbrev pub lists_for : Served → ReadDir → (number : ℕ) → Question
lists_for s r number = record {
  who = r.who;
  file = number;
  access = Access.Read;
  want = Some (record { mode = Mode.Reading; term = r.term });
  longest = s.longest;
  time = s.time;
  rev = 0;
  blocks = 0;
}

-- the reply with a page, and with a lease, if one is granted
abbrev pub tells : ReadDir → Leaf → Option Grant → ToHost
tells r leaf grant = record {
  host = r.who.host;
  bytes = answer_bytes r.xid r.who.inc (page (record { names = leaf.names; more = leaf.more; grant = grant }));
}

-- the reply that the client is to ask again later
abbrev pub puts_off : ReadDir → ToHost
puts_off r = record { host = r.who.host; bytes = answer_bytes r.xid r.who.inc wait }

-- a row, where its holder is to give it up
abbrev pub evicting : Option Row → List Row
evicting None = []
evicting (Some row) = if row.evicting then row ∷ [] else []

-- the asker is put off: where its own row is to be given up, it is told so before
abbrev pub delays : Served → ReadDir → Table → List Row → Serves
delays s r table own = record {
  served = record s { table = table; notice = notice_after s.notice (length own) };
  sends = notices r.prefix s.notice own ++ puts_off r ∷ [];
}

-- the asker gets the page
abbrev pub answers : Served → ReadDir → Table → Leaf → Option Grant → Serves
answers s r table leaf grant = record { served = record s { table = table }; sends = tells r leaf grant ∷ [] }

-- by what the lease table says
abbrev pub leased : Served → ReadDir → Table → Leaf → List Row → Asked → Serves
leased s r table leaf own (Asked.TryLater clash) = delays s r table own
leased s r table leaf own (Asked.Granted grant) = answers s r table leaf (Some grant)
leased s r table leaf own Asked.NoLease = answers s r table leaf None
leased s r table leaf own Asked.Free = answers s r table leaf None

-- the rows without the asker's, where that is of another incarnation
abbrev pub own_again : (who : Who) → (number : ℕ) → Option Row → List Row → List Row
own_again who number None rows = rows
own_again who number (Some row) rows = if row.who.inc == who.inc then rows else drop_row number who.host rows

-- the table without the asker's row of another incarnation
abbrev pub for_asker : Table → (who : Who) → (number : ℕ) → Table
for_asker table who number = with_rows table (own_again who number (find_row number who.host table.rows) table.rows)

-- a directory with a number is asked for, with this table
abbrev pub asks_table : Served → ReadDir → (number : ℕ) → Leaf → Table → Serves
asks_table s r number leaf table =
    leased s r
    (ask table (lists_for s r number)).table
    leaf
    (evicting (find_row number r.who.host table.rows))
    (ask table (lists_for s r number)).asked

-- a directory that has a number
abbrev pub reads_numbered : Served → ReadDir → Leaf → (number : ℕ) → Serves
reads_numbered s r leaf number = asks_table s r number leaf (for_asker s.table r.who number)

-- a directory that has none yet: it gets one where there is one left, and else no lease is granted
abbrev pub reads_new : Served → ReadDir → Leaf → Serves
reads_new s r leaf =
    if nat_lt (length s.directories) most_directories
    then reads_numbered (record s { directories = s.directories ++ r.prefix ∷ [] }) r leaf (length s.directories)
    else answers s r s.table leaf None

-- by whether it has one
abbrev pub reads_as : Served → ReadDir → Leaf → Option ℕ → Serves
reads_as s r leaf None = reads_new s r leaf
reads_as s r leaf (Some number) = reads_numbered s r leaf number

-- what a server makes of a READDIRLOOK while it serves, for which this is the page
abbrev pub reads_dir : Served → ReadDir → Leaf → Serves
reads_dir s r leaf = reads_as s r leaf (number_of r.prefix s.directories)

-- ---- requests that change a directory

-- what the lease table is asked: a host is about to change a directory
abbrev pub changes_for : Served → (who : Who) → (number : ℕ) → Question
changes_for s who number = record {
  who = who;
  file = number;
  access = Access.Write;
  want = None;
  longest = s.longest;
  time = s.time;
  rev = 0;
  blocks = 0;
}

-- the rows of other hosts whose lists a change of a directory would make wrong
abbrev pub readers : (number host : ℕ) → List Row → List Row
readers number host rows = filter (conflicts number host Access.Write) rows

-- the request is held up: the rows are marked, and their holders are told
abbrev pub holds : Served → (who : Who) → (prefix : List ℕ) → (number : ℕ) → List Row → Serves
holds s who prefix number rows = record {
  served = record s { table = (ask s.table (changes_for s who number)).table; notice = notice_after s.notice (length rows) };
  sends = notices prefix s.notice rows;
}

-- None where no other host reads the directory, and the request goes on
abbrev pub holds_for : Served → (who : Who) → (prefix : List ℕ) → (number : ℕ) → List Row → Option Serves
holds_for s who prefix number [] = None
holds_for s who prefix number (row ∷ rows) = Some (holds s who prefix number (row ∷ rows))

abbrev pub holds_as : Served → (who : Who) → (prefix : List ℕ) → Option ℕ → Option Serves
holds_as s who prefix None = None
holds_as s who prefix (Some number) = holds_for s who prefix number (readers number who.host s.table.rows)

-- what a server makes of a request that changes a directory, where another host reads it
abbrev pub holds_up : Served → (who : Who) → (prefix : List ℕ) → Option Serves
holds_up s who prefix = holds_as s who prefix (number_of prefix s.directories)

-- ---- DIRVACATED

-- a list is given up
abbrev pub gives_up : Served → DirTag → Option ℕ → Served
gives_up s t None = s
gives_up s t (Some number) =
    record s { table = with_rows s.table (vacated_rows t.who number t.tag s.table.rows (find_row number t.who.host s.table.rows)) }

abbrev pub vacates : Served → DirTag → Served
vacates s t = gives_up s t (number_of t.prefix s.directories)

-- ---- time

-- the clock shows this time: reading leases that are over end
abbrev pub ticks : Served → (time : ℕ) → Served
ticks s time = record s { table = with_rows s.table (end_reading time s.table.rows); time = time }

-- ---- the same in the order of the code

-- the number of a directory, or the next one, if one is left
abbrev pub number_or_next : Served → Option ℕ → Option ℕ
number_or_next s (Some number) = Some number
number_or_next s None = if nat_lt (length s.directories) most_directories then Some (length s.directories) else None

abbrev pub number_for : Served → (prefix : List ℕ) → Option ℕ
number_for s prefix = number_or_next s (number_of prefix s.directories)

-- the directories, where this number is the next one
abbrev pub entered : (number : ℕ) → (prefix : List ℕ) → List (List ℕ) → List (List ℕ)
entered number prefix directories = if number == length directories then directories ++ prefix ∷ [] else directories

-- the asker's own row, where it is to be given up: it is of this incarnation
abbrev pub own_told : (who : Who) → Option Row → List Row
own_told who None = []
own_told who (Some row) = if row.who.inc == who.inc && row.evicting then row ∷ [] else []

-- the DIREVICTED to the asker itself, if there is one
abbrev pub warnings : ReadDir → Option (List ℕ) → List ToHost
warnings r None = []
warnings r (Some bytes) = record { host = r.who.host; bytes = bytes } ∷ []

-- the asker is put off, behind what it is told about its own row
abbrev pub waits : Served → ReadDir → (before : List ToHost) → Serves
waits s r before =
    record { served = record s { notice = notice_after s.notice (length before) }; sends = before ++ puts_off r ∷ [] }

-- by what the lease table says, whose rows are those that it left
abbrev pub replied : Served → ReadDir → Leaf → (before : List ToHost) → Asked → Serves
replied s r leaf before (Asked.TryLater clash) = waits s r before
replied s r leaf before (Asked.Granted grant) = answers s r s.table leaf (Some grant)
replied s r leaf before Asked.NoLease = answers s r s.table leaf None
replied s r leaf before Asked.Free = answers s r s.table leaf None

-- what is ready before the lease table is asked: a page of which only the grant is missing, and the reply that puts off
pub record AreReady (r : ReadDir) (leaf : Leaf) (begun put-off : List ℕ) : Type 0 where
  pub paged : (rest : List ℕ) → begun ++ rest ≡ spelling (reply_with r.xid (front_bytes r.who.inc leaf.names leaf.more ++ rest)) null null
  pub delayed : put-off ≡ answer_bytes r.xid r.who.inc wait
