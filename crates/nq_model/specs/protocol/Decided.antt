-- How requests are decided that are decided once, from the kept state and a gate alone: ATTACH, CREATE, WRITE, RESIZE
-- and REMOVE. A fresh one is kept with its effect in one change. The server's step is this, and what it does aside.
use Rattle.std.specs.Prelude.{ℕ, ◌+◌, ◌-◌, ◌%◌, ◌==◌, Bool, true, false, ◌&&◌, ◌||◌, List, [], ◌∷◌, ◌++◌, Option, Some, None, find, length, max}
use Rattle.std.specs.Prelude.{nat_lt, nat_le, is_some, if◌then◌else◌}
use Rattle.nq_base.specs.Block.{value_of}
use Rattle.nq_base.specs.Name.{IsName}
use Rattle.nq_base.specs.declared.Access.{Access}
use Rattle.nq_base.specs.declared.Change.{Change}
use Rattle.nq_base.specs.declared.Decided.{Decided}
use Rattle.nq_base.specs.declared.Decided.TheVariants.{Fresh, Again, Old, OldIncarnation, NotAttached, OutOfBounds}
use Rattle.nq_base.specs.declared.Effect.{Effect}
use Rattle.nq_base.specs.declared.Entry.{Entry}
use Rattle.nq_base.specs.declared.FileRow.{FileRow}
use Rattle.nq_base.specs.declared.Gate.{Gate}
use Rattle.nq_base.specs.declared.Gate.TheVariants.{Recovering, Serving}
use Rattle.nq_base.specs.declared.Heads.{Heads}
use Rattle.nq_base.specs.declared.HostRow.{HostRow}
use Rattle.nq_base.specs.declared.PushBase.{PushBase}
use Rattle.nq_base.specs.declared.Refusal.{Refusal}
use Rattle.nq_base.specs.declared.Reply.{Reply as Answer}
use Rattle.nq_base.specs.declared.Request.{Request}
use Rattle.nq_base.specs.declared.Request.TheVariants.{Attach, Create, Write, Resize, Remove}
use Rattle.nq_base.specs.declared.Row.{Row}
use Rattle.nq_base.specs.declared.Space.{Space}
use Rattle.nq_base.specs.declared.Verdict.{Verdict}
use Rattle.nq_base.specs.declared.Verdict.TheVariants.{Done, Fenced, Exist, NoSpace, Invalid, Stale, TryLater}
use Rattle.nq_base.specs.declared.Who.{Who}
use Rattle.nq_model.specs.protocol.Ask.{conflicts, marked}
use Rattle.nq_model.specs.protocol.Change.{raised_row, row_of_found, heads_of, space_of, applied, no_change, IsBody}
use Rattle.nq_model.specs.protocol.Decide.{in_the_way, verdict_reply}
use Rattle.nq_model.specs.protocol.Kept.{Kept, blocks_in_all, find_file, find_name, can_be_kept, host_row}
use Rattle.nq_model.specs.protocol.Message.{Packet, reply, old_incarnation, out_of_bounds}
use Rattle.nq_model.specs.protocol.Profile.{write_slack, most_files, most_blocks, most_blocks_of_file, most_ids, xid_end}
use Rattle.nq_model.specs.protocol.Server.{Phase, serving, recovering, Server, ServerStep, taken, to_host, drops, refuses, replies, notices}
use Rattle.nq_model.specs.protocol.Table.{Table, is_writing, find_row, put_row, drop_host, drop_rows_of, with_rows}

-- a decision that changes nothing
unfoldable pub no_effect : Verdict → Effect
no_effect verdict = record { verdict = verdict; value = 0; change = record { file = None; block = None; host = None; heads = None; removed = None } }

-- a file is made: it takes the next id, which then rises
unfoldable pub creation : Heads → (name : List ℕ) (blocks : ℕ) → Effect
creation heads name blocks = record {
  verdict = Done;
  value = heads.next;
  change = record {
    file = Some (record { id = heads.next; name = name; blocks = blocks; rev = 0 });
    block = None;
    host = None;
    heads = Some (record heads { next = heads.next + 1 });
    removed = None;
  };
}

-- a block is written: the file's revision rises, and is kept as the value
unfoldable pub block_write : FileRow → (block : ℕ) (body : List ℕ) → Effect
block_write row block body = record {
  verdict = Done;
  value = row.rev + 1;
  change = record {
    file = Some (raised_row row row.blocks);
    block = Some (record { file = row.id; block = block; body = body });
    host = None;
    heads = None;
    removed = None;
  };
}

-- a file gets another length: its revision rises, and is kept as the value
unfoldable pub length_change : FileRow → (blocks : ℕ) → Effect
length_change row blocks = record {
  verdict = Done;
  value = row.rev + 1;
  change = record { file = Some (raised_row row blocks); block = None; host = None; heads = None; removed = None };
}

-- a file is taken away
unfoldable pub removal : FileRow → Effect
removal row = record {
  verdict = Done;
  value = 0;
  change = record { file = None; block = None; host = None; heads = None; removed = Some row.id };
}

-- CREATE, by how much is kept, the server's numbers, and whether a kept file has the name
abbrev pub effect_of_create : Space → Heads → (is_there : Bool) (name : List ℕ) (blocks : ℕ) → Effect
effect_of_create space heads is_there name blocks =
    if blocks == 0 || nat_lt most_blocks_of_file blocks
    then no_effect Invalid
    else (if is_there
    then no_effect Exist
    else (if nat_le most_files space.files || nat_lt most_blocks (space.blocks + blocks) || nat_le most_ids heads.next
    then no_effect NoSpace
    else creation heads name blocks))

-- a push: it is stored where its sender holds a writing lease, and it rests on this boot and on the kept revision
abbrev pub effect_of_push : (boot : ℕ) (held : Bool) → FileRow → (block : ℕ) → PushBase → (body : List ℕ) → Effect
effect_of_push boot held row block base body =
    if held && base.boot == boot && base.base == row.rev then block_write row block body else no_effect Fenced

-- a WRITE of a block that the file has: one that goes through is put off where another host caches the file
abbrev pub effect_of_write_in : (boot : ℕ) (conflict held : Bool) → FileRow → (block : ℕ) → Option PushBase → (body : List ℕ) → Effect
effect_of_write_in boot conflict held row block None body =
    if conflict then no_effect TryLater else block_write row block body
effect_of_write_in boot conflict held row block (Some base) body = effect_of_push boot held row block base body

-- a WRITE, by the file if it is kept
abbrev pub effect_of_write : (boot : ℕ) (conflict held : Bool) → Option FileRow → (block : ℕ) → Option PushBase → (body : List ℕ) → Effect
effect_of_write boot conflict held None block push body = no_effect Stale
effect_of_write boot conflict held (Some row) block push body =
    if nat_le row.blocks block
    then no_effect Invalid
    else effect_of_write_in boot conflict held row block push body

-- a WRITE while the server recovers: one that goes through is put off, and a push has to rest on the boot that served last
abbrev pub effect_of_write_recovering : (opened : ℕ) → Option FileRow → (block : ℕ) → Option PushBase → (body : List ℕ) → Effect
effect_of_write_recovering opened row block None body = no_effect TryLater
effect_of_write_recovering opened row block (Some base) body =
    effect_of_write opened false true row block (Some base) body

-- RESIZE, by how many blocks are kept and by the file if it is kept
abbrev pub effect_of_resize : (in_all : ℕ) (conflict : Bool) → Option FileRow → (blocks : ℕ) → Effect
effect_of_resize in_all conflict None blocks = no_effect Stale
effect_of_resize in_all conflict (Some row) blocks =
    if blocks == 0 || nat_lt most_blocks_of_file blocks
    then no_effect Invalid
    else (if nat_lt most_blocks ((in_all - row.blocks) + blocks)
    then no_effect NoSpace
    else (if conflict then no_effect TryLater else length_change row blocks))

-- REMOVE, by the file if it is kept
abbrev pub effect_of_remove : (conflict : Bool) → Option FileRow → Effect
effect_of_remove conflict None = no_effect Stale
effect_of_remove conflict (Some row) = if conflict then no_effect TryLater else removal row

-- what a fresh request comes to
abbrev pub effect_of : Kept → Gate → Request → Effect
effect_of kept gate (Attach who) = no_effect Done
effect_of kept (Serving boot conflict held) (Create who seq name blocks) =
    effect_of_create (space_of kept) (heads_of kept) (is_some (find_name name kept.files)) name blocks
effect_of kept (Serving boot conflict held) (Write who seq file block first last push body) =
    effect_of_write boot conflict held (row_of_found (find_file file kept.files)) block push body
effect_of kept (Serving boot conflict held) (Resize who seq q file blocks) =
    effect_of_resize (blocks_in_all kept.files) conflict (row_of_found (find_file file kept.files)) blocks
effect_of kept (Serving boot conflict held) (Remove who seq q file) =
    effect_of_remove conflict (row_of_found (find_file file kept.files))
effect_of kept (Serving boot conflict held) other = no_effect TryLater
effect_of kept (Recovering opened) (Write who seq file block first last push body) =
    effect_of_write_recovering opened (row_of_found (find_file file kept.files)) block push body
effect_of kept (Recovering opened) other = no_effect TryLater

-- whether a request is decided once
abbrev pub is_decided_once : Request → Bool
is_decided_once (Attach who) = true
is_decided_once (Create who seq name blocks) = true
is_decided_once (Write who seq file block first last push body) = true
is_decided_once (Resize who seq q file blocks) = true
is_decided_once (Remove who seq q file) = true
is_decided_once other = false

-- the row of a host that an effect leaves
abbrev pub row_with : Who → (seq : ℕ) → Effect → HostRow
row_with who seq effect = record { inc = who.inc; seq = seq; verdict = effect.verdict; value = effect.value }

-- how a fresh request is decided: as its effect says, where the row that it leaves of its host can be kept
abbrev pub fresh_decided : Who → (seq : ℕ) → Effect → Decided
fresh_decided who seq effect =
    if can_be_kept (row_with who seq effect) then Fresh effect.verdict effect.value else OutOfBounds

-- how an ATTACH is decided, by the kept row of its host
abbrev pub attach_decided : Who → HostRow → Decided
attach_decided who line =
    if nat_lt line.inc who.inc
    then fresh_decided who 0 (no_effect Done)
    else (if nat_lt who.inc line.inc then OldIncarnation else Again line.verdict line.value)

-- what is said of a request of this sequence that is not fresh, by the kept row of its host
abbrev pub decided_before : Who → (seq : ℕ) → HostRow → Option Decided
decided_before who seq line =
    if nat_lt who.inc line.inc
    then Some OldIncarnation
    else (if nat_lt line.inc who.inc
    then Some NotAttached
    else (if seq == line.seq then Some (Again line.verdict line.value) else (if nat_lt seq line.seq then Some Old else None)))

-- a request of which nothing is said is fresh
abbrev pub or_fresh : Option Decided → (fresh : Decided) → Decided
or_fresh (Some decision) fresh = decision
or_fresh None fresh = fresh

-- how a request of this sequence is decided
abbrev pub sequence_decided : Who → (seq : ℕ) → HostRow → Effect → Decided
sequence_decided who seq line effect = or_fresh (decided_before who seq line) (fresh_decided who seq effect)

-- how a request is decided; the others are not decided once, and say nothing here
abbrev pub decided : Kept → Gate → Request → Decided
decided kept gate (Attach who) = attach_decided who (host_row kept who.host)
decided kept gate (Create who seq name blocks) =
    sequence_decided who seq (host_row kept who.host) (effect_of kept gate (Create who seq name blocks))
decided kept gate (Write who seq file block first last push body) =
    sequence_decided
    who
    seq
    (host_row kept who.host)
    (effect_of kept gate (Write who seq file block first last push body))
decided kept gate (Resize who seq q file blocks) =
    sequence_decided who seq (host_row kept who.host) (effect_of kept gate (Resize who seq q file blocks))
decided kept gate (Remove who seq q file) =
    sequence_decided who seq (host_row kept who.host) (effect_of kept gate (Remove who seq q file))
decided kept gate other = NotAttached

-- the change in which an effect is kept, together with the row of the host that asked
unfoldable pub change_with : Who → (seq : ℕ) → Effect → Change
change_with who seq effect = record effect.change { host = Some (record { host = who.host; row = row_with who seq effect }) }

-- the change that a fresh request commits; an ATTACH begins the host's row anew, with sequence 0
abbrev pub fresh_change : Kept → Gate → Request → Change
fresh_change kept gate (Attach who) = change_with who 0 (effect_of kept gate (Attach who))
fresh_change kept gate (Create who seq name blocks) =
    change_with who seq (effect_of kept gate (Create who seq name blocks))
fresh_change kept gate (Write who seq file block first last push body) =
    change_with who seq (effect_of kept gate (Write who seq file block first last push body))
fresh_change kept gate (Resize who seq q file blocks) =
    change_with who seq (effect_of kept gate (Resize who seq q file blocks))
fresh_change kept gate (Remove who seq q file) = change_with who seq (effect_of kept gate (Remove who seq q file))
fresh_change kept gate other = no_change

-- only a fresh request changes what is kept
abbrev pub if_fresh : Decided → Change → Option Change
if_fresh (Fresh verdict value) change = Some change
if_fresh other change = None

-- the change that a request commits, if it commits one
abbrev pub change_of : Kept → Gate → Request → Option Change
change_of kept gate r = if_fresh (decided kept gate r) (fresh_change kept gate r)

-- the file that a request is about to change
abbrev pub file_to_change : Request → Option ℕ
file_to_change (Write who seq file block first last push body) = Some file
file_to_change (Resize who seq q file blocks) = Some file
file_to_change (Remove who seq q file) = Some file
file_to_change other = None

-- whether a row is a writing lease of this incarnation
abbrev pub is_held_writing : Who → Option Row → Bool
is_held_writing who None = false
is_held_writing who (Some row) = is_writing row.mode && row.who.inc == who.inc

-- what the server knows beside its kept state when an incarnation is about to change a file
abbrev pub gate_in : Server → Phase → Who → Option ℕ → Gate
gate_in s serving who None = Serving s.kept.boot false false
gate_in s serving who (Some file) =
    Serving
    s.kept.boot
    (is_some (find (conflicts file who.host Access.Write) s.table.rows))
    (is_held_writing who (find_row file who.host s.table.rows))
gate_in s (recovering until heard last) who file = Recovering s.kept.opened

-- the gate of a request
abbrev pub gate_of : Server → Who → Request → Gate
gate_of s who r = gate_in s s.phase who (file_to_change r)

-- what a fresh request does beside the kept state: the table, the phase and the number of the next notice after it, its
-- notices, and its entries
pub record Aside : Type 0 where
  pub table : Table
  pub phase : Phase
  pub notice : ℕ
  pub sends : List Packet
  pub entries : List Entry

-- nothing is done aside
unfoldable pub nothing_aside : Server → Aside
nothing_aside s = record { table = s.table; phase = s.phase; notice = s.notice; sends = []; entries = [] }

-- an entry is made, and nothing else
unfoldable pub entry_aside : Server → Entry → Aside
entry_aside s entry = record {
  table = s.table;
  phase = s.phase;
  notice = s.notice;
  sends = [];
  entries = entry ∷ [];
}

-- the table gets these rows
unfoldable pub rows_aside : Server → List Row → List Entry → Aside
rows_aside s rows entries = record {
  table = with_rows s.table rows;
  phase = s.phase;
  notice = s.notice;
  sends = [];
  entries = entries;
}

-- a write was heard while the server recovers: the recovery goes on for the write slack at least
unfoldable pub heard_aside : Server → (until : ℕ) (last : Option Table) → Entry → Aside
heard_aside s until last entry = record {
  table = s.table;
  phase = recovering (max until (s.now + write_slack)) s.now last;
  notice = s.notice;
  sends = [];
  entries = entry ∷ [];
}

-- the request is put off: the conflicting rows are to be given up, and their holders get notices
unfoldable pub put_off_aside : Server → Who → (file : ℕ) → Aside
put_off_aside s who file = record {
  table = with_rows s.table (marked file who.host Access.Write s.table.rows);
  phase = s.phase;
  notice = (s.notice + length (in_the_way s file who.host Access.Write)) % xid_end;
  sends = notices s.notice (in_the_way s file who.host Access.Write);
  entries = [];
}

-- the kept length of a file, 0 where it is not kept
abbrev pub kept_length : Option FileRow → ℕ
kept_length None = 0
kept_length (Some row) = row.blocks

-- a push was stored under this row, which was heard now
abbrev pub stored_aside : Server → Option Row → Entry → Aside
stored_aside s None entry = entry_aside s entry
stored_aside s (Some row) entry = rows_aside s (put_row (record row { heard = s.now }) s.table.rows) (entry ∷ [])

-- a WRITE was done while serving
abbrev pub written_aside : Server → Who → (file block first last : ℕ) → Option PushBase → (body : List ℕ) → Aside
written_aside s who file block first last None body =
    entry_aside s (Entry.W who file block first (value_of body) true)
written_aside s who file block first last (Some base) body =
    stored_aside s (find_row file who.host s.table.rows) (Entry.S who file block first last s.now)

-- a request was done, by the phase
abbrev pub done_aside : Server → Phase → Who → Request → Aside
done_aside s phase who (Attach w) = rows_aside s (drop_host who.host s.table.rows) []
done_aside s serving who (Write w seq file block first last push body) =
    written_aside s who file block first last push body
done_aside s serving who (Resize w seq q file blocks) =
    entry_aside s (Entry.Z who q file (kept_length (row_of_found (find_file file s.kept.files))) blocks)
done_aside s serving who (Remove w seq q file) =
    rows_aside
    s
    (drop_rows_of file s.table.rows)
    (Entry.Z who q file (kept_length (row_of_found (find_file file s.kept.files))) 0 ∷ [])
done_aside s serving who other = nothing_aside s
done_aside s (recovering until heard last) who (Write w seq file block first final push body) =
    heard_aside s until last (Entry.S who file block first final s.now)
done_aside s (recovering until heard last) who other = nothing_aside s

-- a request was put off: while the server recovers without more
abbrev pub later_aside : Server → Phase → Who → Option ℕ → Aside
later_aside s serving who None = nothing_aside s
later_aside s serving who (Some file) = put_off_aside s who file
later_aside s (recovering until heard last) who file = nothing_aside s

-- what a fresh request does beside the kept state, by its verdict
abbrev pub aside_in : Server → Phase → Who → Request → Verdict → Aside
aside_in s phase who r Done = done_aside s phase who r
aside_in s phase who r TryLater = later_aside s phase who (file_to_change r)
aside_in s phase who r other = nothing_aside s

abbrev pub aside : Server → Who → Request → Verdict → Aside
aside s who r verdict = aside_in s s.phase who r verdict

-- the reply to a request that was decided
abbrev pub decided_answer : (inc : ℕ) → Verdict → (value : ℕ) → Request → Answer
decided_answer inc verdict value (Attach who) = Answer.Attach inc
decided_answer inc verdict value other = verdict_reply inc verdict value other

-- a fresh request: one change, what is done aside, and the reply
unfoldable pub fresh_step : Server → Who → (xid : ℕ) → Change → Aside → Answer → ServerStep
fresh_step s who xid change beside answer = record {
  server = record {
    kept = applied s.kept change;
    phase = beside.phase;
    table = beside.table;
    longest = s.longest;
    notice = beside.notice;
    now = s.now;
  };
  sends = beside.sends ++ to_host who.host (reply xid answer) ∷ [];
  entries = beside.entries;
  outcome = taken;
}

-- the server's step on a request that was decided so
abbrev pub decided_step : Server → Who → (xid : ℕ) → Request → Decided → ServerStep
decided_step s who xid r (Fresh verdict value) =
    fresh_step
    s
    who
    xid
    (fresh_change s.kept (gate_of s who r) r)
    (aside s who r verdict)
    (decided_answer who.inc verdict value r)
decided_step s who xid r (Again verdict value) = replies s who.host xid (decided_answer who.inc verdict value r)
decided_step s who xid r Old = refuses s who xid Refusal.Old
decided_step s who xid r OldIncarnation = drops s old_incarnation
decided_step s who xid r NotAttached = refuses s who xid Refusal.NotAttached
decided_step s who xid r OutOfBounds = drops s out_of_bounds

-- a request's name is one that a file can have, and its body one that a block can have
abbrev pub HasText : Request → Type 0
HasText (Create who seq name blocks) = IsName name
HasText (Write who seq file block first last push body) = IsBody body
HasText other = Unit {0}
