-- Requests that are decided once: CREATE, WRITE, RESIZE and REMOVE. The verdict is kept with its effect in one
-- change, so a copy of the request that comes later is answered and not executed again.
use Rattle.std.specs.Prelude.{ℕ, ◌+◌, ◌-◌, ◌%◌, ◌==◌, Bool, true, ◌&&◌, ◌||◌, List, [], ◌∷◌, ◌++◌, Option, Some, None, filter, length, max, nat_lt}
use Rattle.std.specs.Prelude.{nat_le, is_some, if◌then◌else◌}
use Rattle.nq_base.specs.Block.{value_of}
use Rattle.nq_base.specs.declared.Access.{Access}
use Rattle.nq_base.specs.declared.Asked.{Asked}
use Rattle.nq_base.specs.declared.Entry.{Entry}
use Rattle.nq_base.specs.declared.HostRow.{HostRow}
use Rattle.nq_base.specs.declared.PushBase.{PushBase}
use Rattle.nq_base.specs.declared.Question.{Question}
use Rattle.nq_base.specs.declared.Refusal.{Refusal}
use Rattle.nq_base.specs.declared.Reply.{Reply as Answer}
use Rattle.nq_base.specs.declared.Request.{Request}
use Rattle.nq_base.specs.declared.Request.TheVariants.{Create, Write, Resize, Remove}
use Rattle.nq_base.specs.declared.Row.{Row}
use Rattle.nq_base.specs.declared.Verdict.{Verdict}
use Rattle.nq_base.specs.declared.Verdict.TheVariants.{Done, Fenced, Exist, NoSpace, Invalid, Stale, TryLater}
use Rattle.nq_base.specs.declared.Who.{Who}
use Rattle.nq_model.specs.protocol.Ask.{Reply, ask, conflicts}
use Rattle.nq_model.specs.protocol.Kept.{File, blocks_of, blocks_in_all, find_file, find_name, replace_file, drop_file, written_file, resized_file, with_files}
use Rattle.nq_model.specs.protocol.Kept.{with_new_file, with_row, can_be_kept}
use Rattle.nq_model.specs.protocol.Message.{Packet, out_of_bounds, reply}
use Rattle.nq_model.specs.protocol.Profile.{write_slack, most_files, most_blocks, most_blocks_of_file, most_ids}
use Rattle.nq_model.specs.protocol.Server.{Phase, serving, recovering, Server, ServerStep, taken, to_host, drops, refuses, replies, notices, after_notices}
use Rattle.nq_model.specs.protocol.Server.{keeping, keeping_with}
use Rattle.nq_model.specs.protocol.Table.{Table, is_writing, find_row, put_row, drop_rows_of, with_rows}

-- a decision: the server with the effect but without the host's row, the notices that it sends, its entries, and what
-- is kept of it
pub record Decision : Type 0 where
  pub server : Server
  pub sends : List Packet
  pub entries : List Entry
  pub verdict : Verdict
  pub value : ℕ

-- a decision without effect
unfoldable pub decides : Server → Verdict → Decision
decides s verdict = record { server = s; sends = []; entries = []; verdict = verdict; value = 0 }

-- the file is made, and its id is kept
unfoldable pub creates : Server → (name : List ℕ) (blocks : ℕ) → Decision
creates s name blocks = record {
  server = keeping s (with_new_file s.kept name blocks);
  sends = [];
  entries = [];
  verdict = Done;
  value = s.kept.next;
}

-- a write that goes through is stored: the revision rises, and is kept
unfoldable pub writes_through : Server → Who → File → (block number : ℕ) (body : List ℕ) → Decision
writes_through s who file block number body = record {
  server = keeping s (with_files s.kept (replace_file (written_file file block body) s.kept.files));
  sends = [];
  entries = Entry.W who file.id block number (value_of body) true ∷ [];
  verdict = Done;
  value = file.rev + 1;
}

-- delayed writes are stored, while their row goes on, which was heard now
unfoldable pub stores : Server → Who → File → Row → (block first last : ℕ) (body : List ℕ) → Decision
stores s who file row block first last body = record {
  server = keeping_with
      s
      (with_files s.kept (replace_file (written_file file block body) s.kept.files))
      (with_rows s.table (put_row (record row { heard = s.now }) s.table.rows));
  sends = [];
  entries = Entry.S who file.id block first last s.now ∷ [];
  verdict = Done;
  value = file.rev + 1;
}

-- a recovery in which a write was heard now: it goes on for the write slack at least
unfoldable pub wrote : Server → (until : ℕ) (last : Option Table) → Server
wrote s until last = record s { phase = recovering (max until (s.now + write_slack)) s.now last }

-- delayed writes are stored while the server recovers
unfoldable pub stores_recovering : Server → (until : ℕ) (last : Option Table) → Who → File → (block first final : ℕ) (body : List ℕ) → Decision
stores_recovering s until last who file block first final body = record {
  server = keeping (wrote s until last) (with_files s.kept (replace_file (written_file file block body) s.kept.files));
  sends = [];
  entries = Entry.S who file.id block first final s.now ∷ [];
  verdict = Done;
  value = file.rev + 1;
}

-- the file gets another length: the revision rises, and is kept
unfoldable pub resizes : Server → Who → (q : ℕ) → File → (blocks : ℕ) → Decision
resizes s who q file blocks = record {
  server = keeping s (with_files s.kept (replace_file (resized_file file blocks) s.kept.files));
  sends = [];
  entries = Entry.Z who q file.id (blocks_of file) blocks ∷ [];
  verdict = Done;
  value = file.rev + 1;
}

-- the file is taken away, and all its rows
unfoldable pub removes : Server → Who → (q : ℕ) → File → Decision
removes s who q file = record {
  server = keeping_with
      s
      (with_files s.kept (drop_file file.id s.kept.files))
      (with_rows s.table (drop_rows_of file.id s.table.rows));
  sends = [];
  entries = Entry.Z who q file.id (blocks_of file) 0 ∷ [];
  verdict = Done;
  value = 0;
}

-- the question of a host that is about to change a file and wants no lease
abbrev pub to_change : Server → Who → File → Question
to_change s who file = record {
  who = who;
  file = file.id;
  access = Access.Write;
  want = None;
  longest = s.longest;
  time = s.now;
  rev = file.rev;
  blocks = blocks_of file;
}

-- the rows that stand in the way of one who is about to do this with a file
abbrev pub in_the_way : Server → (file host : ℕ) → Access → List Row
in_the_way s file host access = filter (conflicts file host access) s.table.rows

-- the change is put off: the holders of conflicting rows get notices
unfoldable pub puts_off : Server → Who → (file : ℕ) → Table → Decision
puts_off s who file table = record {
  server = after_notices s table (length (in_the_way s file who.host Access.Write));
  sends = notices s.notice (in_the_way s file who.host Access.Write);
  entries = [];
  verdict = TryLater;
  value = 0;
}

-- the change is made, unless a row of another host conflicts
abbrev pub unless_told : Server → Who → (file : ℕ) → Table → Asked → Decision → Decision
unless_told s who file table (Asked.TryLater clash) change = puts_off s who file table
unless_told s who file table Asked.Free change = change
unless_told s who file table (Asked.Granted grant) change = change
unless_told s who file table Asked.NoLease change = change

abbrev pub unless_asked : Server → Who → (file : ℕ) → Reply → Decision → Decision
unless_asked s who file answer change = unless_told s who file answer.table answer.asked change

abbrev pub unless_conflict : Server → Who → File → Decision → Decision
unless_conflict s who file change = unless_asked s who file.id (ask s.table (to_change s who file)) change

-- CREATE while serving
abbrev pub decide_create : Server → (name : List ℕ) (blocks : ℕ) → Decision
decide_create s name blocks =
    if blocks == 0 || nat_lt most_blocks_of_file blocks
    then decides s Invalid
    else (if is_some (find_name name s.kept.files)
    then decides s Exist
    else (if nat_le most_files (length s.kept.files) || nat_lt most_blocks (blocks_in_all s.kept.files + blocks) || nat_le most_ids s.kept.next
    then decides s NoSpace
    else creates s name blocks))

-- whether a row lets its holder's push over this base be stored
abbrev pub lets_push : Server → Who → File → PushBase → Row → Bool
lets_push s who file base row =
    is_writing row.mode && row.who.inc == who.inc && base.boot == s.kept.boot && base.base == file.rev

-- a push while serving, by its own row
abbrev pub decide_push : Server → Who → File → (block first last : ℕ) → PushBase → (body : List ℕ) → Option Row → Decision
decide_push s who file block first last base body None = decides s Fenced
decide_push s who file block first last base body (Some row) =
    if lets_push s who file base row then stores s who file row block first last body else decides s Fenced

-- a WRITE of either kind while serving, of a block that the file has
abbrev pub decide_write_in : Server → Who → File → (block first last : ℕ) → Option PushBase → (body : List ℕ) → Decision
decide_write_in s who file block first last None body =
    unless_conflict s who file (writes_through s who file block first body)
decide_write_in s who file block first last (Some base) body =
    decide_push s who file block first last base body (find_row file.id who.host s.table.rows)

-- a WRITE while serving
abbrev pub decide_write : Server → Who → Option File → (block first last : ℕ) → Option PushBase → (body : List ℕ) → Decision
decide_write s who None block first last push body = decides s Stale
decide_write s who (Some file) block first last push body =
    if nat_le (blocks_of file) block then decides s Invalid else decide_write_in s who file block first last push body

-- a push while recovering: it is stored where it rests on the boot that served last and on the kept revision
abbrev pub decide_push_recovering : Server → (until : ℕ) (last : Option Table) → Who → Option File → (block first final : ℕ) → PushBase
    → (body : List ℕ) → Decision
decide_push_recovering s until last who None block first final base body = decides s Stale
decide_push_recovering s until last who (Some file) block first final base body =
    if nat_le (blocks_of file) block
    then decides s Invalid
    else (if base.boot == s.kept.opened && base.base == file.rev
    then stores_recovering s until last who file block first final body
    else decides s Fenced)

-- a WRITE while recovering: one that goes through is put off
abbrev pub decide_write_recovering : Server → (until : ℕ) (last : Option Table) → Who → (file block first final : ℕ) → Option PushBase
    → (body : List ℕ) → Decision
decide_write_recovering s until last who file block first final None body = decides s TryLater
decide_write_recovering s until last who file block first final (Some base) body =
    decide_push_recovering s until last who (find_file file s.kept.files) block first final base body

-- RESIZE while serving
abbrev pub decide_resize : Server → Who → (q : ℕ) → Option File → (blocks : ℕ) → Decision
decide_resize s who q None blocks = decides s Stale
decide_resize s who q (Some file) blocks =
    if blocks == 0 || nat_lt most_blocks_of_file blocks
    then decides s Invalid
    else (if nat_lt most_blocks ((blocks_in_all s.kept.files - blocks_of file) + blocks)
    then decides s NoSpace
    else unless_conflict s who file (resizes s who q file blocks))

-- REMOVE while serving
abbrev pub decide_remove : Server → Who → (q : ℕ) → Option File → Decision
decide_remove s who q None = decides s Stale
decide_remove s who q (Some file) = unless_conflict s who file (removes s who q file)

-- how a fresh request is decided, by the phase
abbrev pub decide_in : Server → Phase → Who → Request → Decision
decide_in s serving who (Create w seq name blocks) = decide_create s name blocks
decide_in s serving who (Write w seq file block first last push body) =
    decide_write s who (find_file file s.kept.files) block first last push body
decide_in s serving who (Resize w seq q file blocks) = decide_resize s who q (find_file file s.kept.files) blocks
decide_in s serving who (Remove w seq q file) = decide_remove s who q (find_file file s.kept.files)
decide_in s serving who other = decides s TryLater
decide_in s (recovering until heard last) who (Write w seq file block first final push body) =
    decide_write_recovering s until last who file block first final push body
decide_in s (recovering until heard last) who other = decides s TryLater

abbrev pub decide : Server → Who → Request → Decision
decide s who request = decide_in s s.phase who request

-- the status of a verdict that is not Done
abbrev pub status_of : Verdict → Refusal
status_of Done = Refusal.TryLater
status_of Fenced = Refusal.Fenced
status_of Exist = Refusal.Exist
status_of NoSpace = Refusal.NoSpc
status_of Invalid = Refusal.Inval
status_of Stale = Refusal.Stale
status_of TryLater = Refusal.TryLater

-- the reply to a request that was done, with the kept value
abbrev pub done_reply : (inc value : ℕ) → Request → Answer
done_reply inc value (Create w seq name blocks) = Answer.Create inc (value % 4294967296)
done_reply inc value (Write w seq file block first last push body) = Answer.Write inc value
done_reply inc value (Resize w seq q file blocks) = Answer.Resize inc value
done_reply inc value (Remove w seq q file) = Answer.Remove inc
done_reply inc value other = Answer.Null

-- the reply that a kept verdict and value give
abbrev pub verdict_reply : (inc : ℕ) → Verdict → (value : ℕ) → Request → Answer
verdict_reply inc Done value request = done_reply inc value request
verdict_reply inc Fenced value request = Answer.Refused inc Refusal.Fenced
verdict_reply inc Exist value request = Answer.Refused inc Refusal.Exist
verdict_reply inc NoSpace value request = Answer.Refused inc Refusal.NoSpc
verdict_reply inc Invalid value request = Answer.Refused inc Refusal.Inval
verdict_reply inc Stale value request = Answer.Refused inc Refusal.Stale
verdict_reply inc TryLater value request = Answer.Refused inc Refusal.TryLater

-- the host's row after a decision
abbrev pub row_after : Who → (seq : ℕ) → Decision → HostRow
row_after who seq d = record { inc = who.inc; seq = seq; verdict = d.verdict; value = d.value }

-- the effect and the host's row are kept in one change; then the reply is sent
unfoldable pub commits : Who → (seq xid : ℕ) → Request → Decision → ServerStep
commits who seq xid request d = record {
  server = keeping d.server (with_row d.server.kept who.host (row_after who seq d));
  sends = d.sends ++ to_host who.host (reply xid (verdict_reply who.inc d.verdict d.value request)) ∷ [];
  entries = d.entries;
  outcome = taken;
}

-- a request that would leave a row of its host which can not be kept is dropped, and changes nothing
abbrev pub commits_within : Server → Who → (seq xid : ℕ) → Request → Decision → ServerStep
commits_within s who seq xid request d =
    if can_be_kept (row_after who seq d) then commits who seq xid request d else drops s out_of_bounds

-- a request of this sequence: the one that was decided last is answered again, an older one is refused, and a later
-- one is decided now
abbrev pub decided_once : Server → Who → (seq xid : ℕ) → Request → HostRow → ServerStep
decided_once s who seq xid request line =
    if seq == line.seq
    then replies s who.host xid (verdict_reply who.inc line.verdict line.value request)
    else (if nat_lt seq line.seq
    then refuses s who xid Refusal.Old
    else commits_within s who seq xid request (decide s who request))
