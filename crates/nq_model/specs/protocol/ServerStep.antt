-- The server's step: a datagram, a tick, a crash (Macklem 1994).
use Rattle.std.specs.Prelude.{ℕ, ◌+◌, ◌==◌, Bool, true, false, not, ◌&&◌, List, [], ◌∷◌, ◌++◌, Option, Some, None, filter, find, length, max, nat_lt}
use Rattle.std.specs.Prelude.{nat_le, slice_get, if◌then◌else◌}
use Rattle.nq_base.specs.Block.{value_of}
use Rattle.nq_base.specs.declared.Access.{Access}
use Rattle.nq_base.specs.declared.Asked.{Asked}
use Rattle.nq_base.specs.declared.Entry.{Entry}
use Rattle.nq_base.specs.declared.Grant.{Grant}
use Rattle.nq_base.specs.declared.HostRow.{HostRow}
use Rattle.nq_base.specs.declared.Question.{Question}
use Rattle.nq_base.specs.declared.Refusal.{Refusal}
use Rattle.nq_base.specs.declared.Reply.{Reply as Answer}
use Rattle.nq_base.specs.declared.Request.{Request}
use Rattle.nq_base.specs.declared.Request.TheVariants.{Null, Attach, Lookup, Create, GetAttr, Read, Write, GetLease, Vacated, Evicted, Resize, Remove}
use Rattle.nq_base.specs.declared.Row.{Row}
use Rattle.nq_base.specs.declared.Tag.{Tag}
use Rattle.nq_base.specs.declared.Verdict.{Verdict}
use Rattle.nq_base.specs.declared.Want.{Want}
use Rattle.nq_base.specs.declared.Who.{Who}
use Rattle.nq_model.specs.protocol.Ask.{Reply, ask}
use Rattle.nq_model.specs.protocol.Decide.{decided_once, in_the_way}
use Rattle.nq_model.specs.protocol.Kept.{File, Kept, blocks_of, find_file, find_name, replace_file, fenced_file, with_files, with_row, can_be_kept, can_rise}
use Rattle.nq_model.specs.protocol.Kept.{host_row}
use Rattle.nq_model.specs.protocol.Message.{reply, error, Datagram, too_long, no_message, no_call, other_rpc, other_program, other_version, unknown_procedure}
use Rattle.nq_model.specs.protocol.Message.{garbage_vacated, garbage, request, rpc_mismatch, program_unavailable, program_mismatch, procedure_unavailable}
use Rattle.nq_model.specs.protocol.Message.{garbage_arguments, was_too_long, was_no_message, was_no_call, wrong_host, old_incarnation, out_of_bounds}
use Rattle.nq_model.specs.protocol.Message.{no_reply_owed, asker}
use Rattle.nq_model.specs.protocol.Profile.{skew, write_slack, most_hosts}
use Rattle.nq_model.specs.protocol.Server.{Phase, serving, recovering, Server, ServerStep, taken, to_host, quiet, drops, says, replies, refuses, notices}
use Rattle.nq_model.specs.protocol.Server.{after_notices, keeping_with, with_table, last_in}
use Rattle.nq_model.specs.protocol.Table.{Table, is_writing, same_tag, find_row, drop_row, drop_host, with_rows, empty_table}

-- the row with which an incarnation begins
abbrev pub row_of_attach : Who → HostRow
row_of_attach who = record { inc = who.inc; seq = 0; verdict = Verdict.Done; value = 0 }

-- ATTACH of a later incarnation: the host's row begins anew, and its leases are gone
unfoldable pub attaches : Server → Who → (xid : ℕ) → ServerStep
attaches s who xid = record {
  server = keeping_with
      s
      (with_row s.kept who.host (row_of_attach who))
      (with_rows s.table (drop_host who.host s.table.rows));
  sends = to_host who.host (reply xid (Answer.Attach who.inc)) ∷ [];
  entries = [];
  outcome = taken;
}

-- ATTACH of a later incarnation, which is dropped where its number can not be kept
abbrev pub attach_later : Server → Who → (xid : ℕ) → ServerStep
attach_later s who xid = if can_be_kept (row_of_attach who) then attaches s who xid else drops s out_of_bounds

-- ATTACH: a later incarnation begins, the kept one is answered again, an older one is dropped
abbrev pub attach : Server → Who → (xid : ℕ) → HostRow → ServerStep
attach s who xid line =
    if nat_lt line.inc who.inc
    then attach_later s who xid
    else (if nat_lt who.inc line.inc then drops s old_incarnation else replies s who.host xid (Answer.Attach who.inc))

-- LOOKUP while serving
abbrev pub look_up : Server → Who → (xid : ℕ) → Option File → ServerStep
look_up s who xid None = refuses s who xid Refusal.NoEnt
look_up s who xid (Some file) = replies s who.host xid (Answer.Lookup who.inc file.id (blocks_of file))

-- GETATTR while serving
abbrev pub get_attr : Server → Who → (xid : ℕ) → Option File → ServerStep
get_attr s who xid None = refuses s who xid Refusal.Stale
get_attr s who xid (Some file) = replies s who.host xid (Answer.GetAttr who.inc (blocks_of file) file.rev)

-- what a wanted lease is for
abbrev pub access_of_mode : Bool → Access
access_of_mode true = Access.Write
access_of_mode false = Access.Read

abbrev pub access_of : Option Want → Access
access_of None = Access.Read
access_of (Some want) = access_of_mode (is_writing want.mode)

-- the question of a host that reads a file or asks for a lease on it
abbrev pub to_read : Server → Who → File → Option Want → Question
to_read s who file want = record {
  who = who;
  file = file.id;
  access = access_of want;
  want = want;
  longest = s.longest;
  time = s.now;
  rev = file.rev;
  blocks = blocks_of file;
}

-- the rows whose holders get a notice when the asker is put off
abbrev pub noticed : Server → (file host : ℕ) → Access → Row → (own : Bool) → List Row
noticed s file host access row true = row ∷ []
noticed s file host access row false = in_the_way s file host access

-- the asker is put off: notices, then the refusal
unfoldable pub tells_later : Server → Who → (xid : ℕ) → Table → List Row → ServerStep
tells_later s who xid table rows = record {
  server = after_notices s table (length rows);
  sends = notices s.notice rows ++ to_host who.host (reply xid (Answer.Refused who.inc Refusal.TryLater)) ∷ [];
  entries = [];
  outcome = taken;
}

-- the entry of a grant
abbrev pub grants : Server → Who → (file : ℕ) → Option Grant → List Entry
grants s who file None = []
grants s who file (Some g) = Entry.G who file g.mode g.tag g.term s.now ∷ []

-- a block is read, with the grant if there is one; the reply is the packet of this number
unfoldable pub serves : Server → Who → (xid next q : ℕ) → File → (block : ℕ) (body : List ℕ) → Table → Option Grant → ServerStep
serves s who xid next q file block body table grant = record {
  server = with_table s table;
  sends = to_host who.host (reply xid (Answer.Read who.inc file.rev body grant)) ∷ [];
  entries = Entry.R who q file.id block (value_of body) (Some next) ∷ grants s who file.id grant;
  outcome = taken;
}

-- READ of a block that is there, by what the ask table told
abbrev pub read_asked : Server → Who → (xid next q : ℕ) → File → (block : ℕ) (body : List ℕ) → Access → Table → Asked → ServerStep
read_asked s who xid next q file block body access table (Asked.TryLater clash) =
    tells_later s who xid table (noticed s file.id who.host access clash.row clash.own)
read_asked s who xid next q file block body access table (Asked.Granted g) =
    serves s who xid next q file block body table (Some g)
read_asked s who xid next q file block body access table Asked.Free = serves s who xid next q file block body table None
read_asked s who xid next q file block body access table Asked.NoLease = serves s who xid next q file block body table None

abbrev pub read_of : Server → Who → (xid next q : ℕ) → File → (block : ℕ) (body : List ℕ) → Option Want → Reply → ServerStep
read_of s who xid next q file block body want answer =
    read_asked s who xid next q file block body (access_of want) answer.table answer.asked

-- READ of a file, by the block if it is there
abbrev pub read_block : Server → Who → (xid next q : ℕ) → File → (block : ℕ) → Option Want → Option (List ℕ) → ServerStep
read_block s who xid next q file block want None = refuses s who xid Refusal.Inval
read_block s who xid next q file block want (Some body) =
    read_of s who xid next q file block body want (ask s.table (to_read s who file want))

-- READ while serving
abbrev pub read : Server → Who → (xid next q block : ℕ) → Option Want → Option File → ServerStep
read s who xid next q block want None = refuses s who xid Refusal.Stale
read s who xid next q block want (Some file) = read_block s who xid next q file block want (slice_get file.bodies block)

-- a lease is granted, or the request is answered without one
unfoldable pub leases : Server → Who → (xid file : ℕ) → Table → Option Grant → ServerStep
leases s who xid file table grant = record {
  server = with_table s table;
  sends = to_host who.host (reply xid (Answer.GetLease who.inc grant)) ∷ [];
  entries = grants s who file grant;
  outcome = taken;
}

-- GETLEASE, by what the ask table told
abbrev pub lease_asked : Server → Who → (xid file : ℕ) → Access → Table → Asked → ServerStep
lease_asked s who xid file access table (Asked.TryLater clash) =
    tells_later s who xid table (noticed s file who.host access clash.row clash.own)
lease_asked s who xid file access table (Asked.Granted g) = leases s who xid file table (Some g)
lease_asked s who xid file access table Asked.Free = leases s who xid file table None
lease_asked s who xid file access table Asked.NoLease = leases s who xid file table None

abbrev pub lease_of : Server → Who → (xid : ℕ) → File → Want → Reply → ServerStep
lease_of s who xid file want answer = lease_asked s who xid file.id (access_of (Some want)) answer.table answer.asked

-- GETLEASE while serving
abbrev pub get_lease : Server → Who → (xid : ℕ) → Want → Option File → ServerStep
get_lease s who xid want None = refuses s who xid Refusal.Stale
get_lease s who xid want (Some file) = lease_of s who xid file want (ask s.table (to_read s who file (Some want)))

-- the row goes exactly where it is this incarnation's and this is its latest tag
abbrev pub vacated_rows : Who → (file : ℕ) → Tag → List Row → Option Row → List Row
vacated_rows who file tag rows None = rows
vacated_rows who file tag rows (Some row) =
    if row.who.inc == who.inc && same_tag row.tag tag then drop_row file who.host rows else rows

-- VACATED, in both phases
unfoldable pub vacates : Server → Who → (file : ℕ) → Tag → ServerStep
vacates s who file tag =
    quiet (with_table s (with_rows s.table (vacated_rows who file tag s.table.rows (find_row file who.host s.table.rows))))

-- a request of the kept incarnation that asks and changes no file, by the phase
abbrev pub look : Server → Phase → Who → (xid next : ℕ) → Request → ServerStep
look s serving who xid next (Lookup w name) = look_up s who xid (find_name name s.kept.files)
look s serving who xid next (GetAttr w file) = get_attr s who xid (find_file file s.kept.files)
look s serving who xid next (Read w q file block want) = read s who xid next q block want (find_file file s.kept.files)
look s serving who xid next (GetLease w file want) = get_lease s who xid want (find_file file s.kept.files)
look s serving who xid next other = quiet s
look s (recovering until heard last) who xid next other = refuses s who xid Refusal.TryLater

-- a request of the kept incarnation
abbrev pub perform : Server → Who → (xid next : ℕ) → HostRow → Request → ServerStep
perform s who xid next line (Create w seq name blocks) = decided_once s who seq xid (Create w seq name blocks) line
perform s who xid next line (Write w seq file block first last push body) =
    decided_once s who seq xid (Write w seq file block first last push body) line
perform s who xid next line (Resize w seq q file blocks) = decided_once s who seq xid (Resize w seq q file blocks) line
perform s who xid next line (Remove w seq q file) = decided_once s who seq xid (Remove w seq q file) line
perform s who xid next line (Vacated w file tag) = vacates s who file tag
perform s who xid next line (Lookup w name) = look s s.phase who xid next (Lookup w name)
perform s who xid next line (GetAttr w file) = look s s.phase who xid next (GetAttr w file)
perform s who xid next line (Read w q file block want) = look s s.phase who xid next (Read w q file block want)
perform s who xid next line (GetLease w file want) = look s s.phase who xid next (GetLease w file want)
perform s who xid next line (Attach w) = attach s who xid line
perform s who xid next line (Evicted w file tag) = quiet s
perform s who xid next line Null = quiet s

-- a request of an incarnation that is not attached
abbrev pub not_attached : Server → Who → (xid : ℕ) → Request → ServerStep
not_attached s who xid (Vacated w file tag) = quiet s
not_attached s who xid other = refuses s who xid Refusal.NotAttached

-- whether a request is ATTACH
abbrev pub is_attach : Request → Bool
is_attach (Attach w) = true
is_attach other = false

-- a request, by the incarnation that is kept
abbrev pub admit : Server → Who → (xid next : ℕ) → Request → HostRow → ServerStep
admit s who xid next r line =
    if is_attach r
    then attach s who xid line
    else (if nat_lt who.inc line.inc
    then drops s old_incarnation
    else (if nat_lt line.inc who.inc then not_attached s who xid r else perform s who xid next line r))

-- a request, by who asks: he has to be the sender, and a host that there can be
abbrev pub answer_request : Server → (sender xid next : ℕ) → Request → Option Who → ServerStep
answer_request s sender xid next r None = replies s sender xid Answer.Null
answer_request s sender xid next r (Some who) =
    if who.host == sender && nat_lt who.host most_hosts
    then admit s who xid next r (host_row s.kept who.host)
    else drops s wrong_host

-- a datagram from a host; the number is that of the packet that is sent next
abbrev pub receive : Server → (sender next : ℕ) → Datagram → ServerStep
receive s sender next too_long = drops s was_too_long
receive s sender next (no_message fault) = drops s (was_no_message fault)
receive s sender next no_call = drops s was_no_call
receive s sender next (other_rpc xid) = says s sender (error xid rpc_mismatch)
receive s sender next (other_program xid) = says s sender (error xid program_unavailable)
receive s sender next (other_version xid) = says s sender (error xid program_mismatch)
receive s sender next (unknown_procedure xid) = says s sender (error xid procedure_unavailable)
receive s sender next garbage_vacated = drops s no_reply_owed
receive s sender next (garbage xid) = says s sender (error xid garbage_arguments)
receive s sender next (request xid r) = answer_request s sender xid next r (asker r)

-- whether a reading or non-caching row is over
abbrev pub is_over : (now : ℕ) → Row → Bool
is_over now row = not (is_writing row.mode) && nat_le row.until now

-- the rows without the reading and non-caching ones that are over
abbrev pub end_reading : (now : ℕ) → List Row → List Row
end_reading now rows = filter (λ r. not (is_over now r)) rows

-- whether a writing row is over: the write slack has passed since its end, and since a write was last heard
abbrev pub is_due : (now : ℕ) → Row → Bool
is_due now row = is_writing row.mode && nat_le (max row.until row.heard + write_slack) now

-- the kept state after a file was fenced
abbrev pub fence : Kept → Option File → Kept
fence kept None = kept
fence kept (Some file) = with_files kept (replace_file (fenced_file file) kept.files)

-- a writing row ends in silence: the revision rises first, so that no older write is stored any more
unfoldable pub ends_writing : Server → List Row → Row → ServerStep
ends_writing s rows row = record {
  server = keeping_with
      s
      (fence s.kept (find_file row.file s.kept.files))
      (with_rows s.table (drop_row row.file row.who.host rows));
  sends = [];
  entries = Entry.F row.who row.file row.until row.heard s.now ∷ [];
  outcome = taken;
}

-- a row that is due ends where the revision of its file can rise; else it stays
abbrev pub end_due : Server → List Row → Row → ServerStep
end_due s rows row =
    if can_rise (find_file row.file s.kept.files)
    then ends_writing s rows row
    else quiet (with_table s (with_rows s.table rows))

-- at most one writing row ends, the first that is due
abbrev pub end_writing : Server → List Row → Option Row → ServerStep
end_writing s rows None = quiet (with_table s (with_rows s.table rows))
end_writing s rows (Some row) = end_due s rows row

abbrev pub end_leases : Server → List Row → ServerStep
end_leases s rows = end_writing s rows (find (is_due s.now) rows)

-- the recovery ends: the boot serves, and is kept as the last that did, with its longest term
unfoldable pub opens : Server → (until heard : ℕ) → ServerStep
opens s until heard = record {
  server = record s {
    kept = record s.kept { opened = s.kept.boot; longest = s.longest };
    phase = serving;
  };
  sends = [];
  entries = Entry.O s.kept.boot until heard s.now ∷ [];
  outcome = taken;
}

-- a tick, by the phase
abbrev pub tick_in : Server → Phase → ServerStep
tick_in s serving = end_leases s (end_reading s.now s.table.rows)
tick_in s (recovering until heard last) = if nat_le until s.now then opens s until heard else quiet s

-- the server with another time
unfoldable pub at_time : Server → ℕ → Server
at_time s now = record s { now = now }

-- a tick of the server's clock, which now shows this time
abbrev pub tick : Server → (now : ℕ) → ServerStep
tick s now = tick_in (at_time s now) s.phase

-- a boot over this kept state: it serves at once where none served before, else it recovers. The wait is for the
-- longest term of the boot that served last, the skew and the write slack
abbrev pub boot_phase : (opened longest now : ℕ) → Option Table → Phase
boot_phase opened longest now last =
    if opened == 0 then serving else recovering (now + longest + (skew + write_slack)) now last

-- the kept state after a boot: its number rises, and a boot that serves at once is kept as one that did
abbrev pub booted : Kept → (longest : ℕ) → Kept
booted kept longest =
    if kept.opened == 0
    then record kept { boot = kept.boot + 1; opened = kept.boot + 1; longest = longest }
    else record kept { boot = kept.boot + 1 }

-- the server after a boot over this kept state at this time, with this longest term; the table is the last one that
-- served, if one is known
unfoldable pub boot : Kept → (longest now : ℕ) → Option Table → Server
boot kept longest now last = record {
  kept = booted kept longest;
  phase = boot_phase kept.opened kept.longest now last;
  table = empty_table (kept.boot + 1);
  longest = longest;
  notice = 1;
  now = now;
}

-- a crash: all but what is kept is lost, and the server boots at its clock's time. The entry tells the longest term
-- that the recovery waits for
unfoldable pub crash : Server → (longest : ℕ) → ServerStep
crash s longest = record {
  server = boot s.kept longest s.now (last_in s.phase s.table);
  sends = [];
  entries = Entry.X (s.kept.boot + 1) s.now (booted s.kept longest).longest ∷ [];
  outcome = taken;
}
