-- What the server's step for a datagram may be, each outcome with what led to it.
use Rattle.std.proofs.Common.{◌≡◌, ◌<◌, ◌≤◌, ℕ, ◌+◌, ◌-◌, ◌==◌, Bool, true, false, ◌&&◌, ◌||◌, nat_lt, nat_le, List, [], ◌∷◌, Option, Some, None, length}
use Rattle.std.specs.List.{find}
use Rattle.std.specs.Prelude.{slice_get, is_some}
use Rattle.nq_base.specs.declared.Access.{Access}
use Rattle.nq_base.specs.declared.HostRow.{HostRow}
use Rattle.nq_base.specs.declared.PushBase.{PushBase}
use Rattle.nq_base.specs.declared.Refusal.{Refusal}
use Rattle.nq_base.specs.declared.Reply.{Reply as Answer}
use Rattle.nq_base.specs.declared.Request.{Request}
use Rattle.nq_base.specs.declared.Row.{Row}
use Rattle.nq_base.specs.declared.Tag.{Tag}
use Rattle.nq_base.specs.declared.Verdict.{Verdict}
use Rattle.nq_base.specs.declared.Want.{Want}
use Rattle.nq_base.specs.declared.Who.{Who}
use Rattle.nq_model.specs.protocol.Ask.{conflicts, marked, grant_of}
use Rattle.nq_model.specs.protocol.Decide.{decides, creates, writes_through, stores, stores_recovering, resizes, removes, puts_off, in_the_way, verdict_reply}
use Rattle.nq_model.specs.protocol.Decide.{commits}
use Rattle.nq_model.specs.protocol.Kept.{File, blocks_of, blocks_in_all, find_file, find_name, can_rise, host_row}
use Rattle.nq_model.specs.laws.LeaseInterval.{requested_file}
use Rattle.nq_model.specs.protocol.Message.{Message, error, Datagram, too_long, no_message, no_call, other_rpc, other_program, other_version}
use Rattle.nq_model.specs.protocol.Message.{unknown_procedure, garbage_vacated, garbage, request, rpc_mismatch, program_unavailable, program_mismatch}
use Rattle.nq_model.specs.protocol.Message.{procedure_unavailable, garbage_arguments, Reason, asker, sequence_of, reply}
use Rattle.nq_model.specs.protocol.Profile.{most_hosts, most_files, most_blocks, most_blocks_of_file, most_ids}
use Rattle.nq_model.specs.protocol.Server.{serving, recovering, Server, ServerStep, quiet, drops, says, replies, with_table}
use Rattle.nq_model.specs.protocol.ServerStep.{attaches, vacates, tells_later, serves, leases, to_read, access_of, is_attach, at_time, opens, is_due}
use Rattle.nq_model.specs.protocol.ServerStep.{end_reading, ends_writing}
use Rattle.nq_model.specs.protocol.Table.{Table, is_writing, find_row, put_row, with_rows, after_draw}
use Rattle.walk_steps.proofs.AskCases.{clash_in, own_in, has_room, with_marked, with_waiter, IsGranted}

-- the error that a datagram which is no request is answered with
abbrev pub error_for : Datagram → Option Message
error_for too_long = None
error_for (no_message fault) = None
error_for no_call = None
error_for (other_rpc xid) = Some (error xid rpc_mismatch)
error_for (other_program xid) = Some (error xid program_unavailable)
error_for (other_version xid) = Some (error xid program_mismatch)
error_for (unknown_procedure xid) = Some (error xid procedure_unavailable)
error_for garbage_vacated = None
error_for (garbage xid) = Some (error xid garbage_arguments)
error_for (request xid r) = None

-- and it is no reply
pub error-no-reply : (d : Datagram) (m : Message) (x : ℕ) (a : Answer) → error_for d ≡ Some m → m ≡ reply x a → ⊥
error-no-reply (other_rpc xid) m x a e is = cc
error-no-reply (other_program xid) m x a e is = cc
error-no-reply (other_version xid) m x a e is = cc
error-no-reply (unknown_procedure xid) m x a e is = cc
error-no-reply (garbage xid) m x a e is = cc
error-no-reply other m x a e is = cc

-- the file that a request is about to change
abbrev pub file_changed_by : Request → Option ℕ
file_changed_by (Request.Write who seq file block first last push body) = Some file
file_changed_by (Request.Resize who seq q file blocks) = Some file
file_changed_by (Request.Remove who seq q file) = Some file
file_changed_by other = None

-- the lease that a request wants
abbrev pub wanted_by : Request → Option Want
wanted_by (Request.Read who q file block want) = want
wanted_by (Request.GetLease who file want) = Some want
wanted_by other = None

-- what a request to store delayed writes rests on
abbrev pub base_in : Request → Option PushBase
base_in (Request.Write who seq file block first last push body) = push
base_in other = None

-- whether a request asks and changes no file
abbrev pub only_asks : Request → Bool
only_asks (Request.Lookup who name) = true
only_asks (Request.GetAttr who file) = true
only_asks (Request.Read who q file block want) = true
only_asks (Request.GetLease who file want) = true
only_asks other = false

-- what is kept of the asker's host
abbrev pub line_of : Server → Who → HostRow
line_of s who = host_row s.kept who.host

-- a request comes from the host that it names, and there can be such a host
pub record IsFrom (sender : ℕ) (who : Who) : Type 0 where
  pub host : who.host ≡ sender
  pub possible : who.host < most_hosts

-- and it is of the incarnation that is kept
pub record IsCurrent (s : Server) (sender : ℕ) (who : Who) : Type 0 where
  pub from : IsFrom sender who
  pub inc : who.inc ≡ (line_of s who).inc

-- and its sequence is above the one that was decided last
pub record IsFresh (s : Server) (sender : ℕ) (who : Who) (seq : ℕ) : Type 0 where
  pub current : IsCurrent s sender who
  pub above : (line_of s who).seq < seq

-- the server recovers
pub record IsRecovering (s : Server) : Type 0 where
  pub until : ℕ
  pub heard : ℕ
  pub last : Option Table
  pub phase : s.phase ≡ recovering until heard last

-- a reply that brings no lease and changes nothing, by the request that it answers
pub data IsPlain (s : Server) (who : Who) (r : Request) (reply : Answer) : Type 0 where
  unattached : (line_of s who).inc < who.inc → is_attach r ≡ false → reply ≡ Answer.Refused who.inc Refusal.NotAttached → IsPlain s who r reply
  attached_again : r ≡ Request.Attach who → who.inc ≡ (line_of s who).inc → reply ≡ Answer.Attach who.inc → IsPlain s who r reply
  not_yet : who.inc ≡ (line_of s who).inc → IsRecovering s → only_asks r ≡ true → reply ≡ Answer.Refused who.inc Refusal.TryLater → IsPlain s who r reply
  no_entry : (name : List ℕ) → who.inc ≡ (line_of s who).inc → s.phase ≡ serving → r ≡ Request.Lookup who name → find_name name s.kept.files ≡ None
      → reply ≡ Answer.Refused who.inc Refusal.NoEnt → IsPlain s who r reply
  entry : (name : List ℕ) (f : File) → who.inc ≡ (line_of s who).inc → s.phase ≡ serving → r ≡ Request.Lookup who name
      → find_name name s.kept.files ≡ Some f → reply ≡ Answer.Lookup who.inc f.id (blocks_of f) → IsPlain s who r reply
  no_attributes : (file : ℕ) → who.inc ≡ (line_of s who).inc → s.phase ≡ serving → r ≡ Request.GetAttr who file → find_file file s.kept.files ≡ None
      → reply ≡ Answer.Refused who.inc Refusal.Stale → IsPlain s who r reply
  attributes : (file : ℕ) (f : File) → who.inc ≡ (line_of s who).inc → s.phase ≡ serving → r ≡ Request.GetAttr who file
      → find_file file s.kept.files ≡ Some f → reply ≡ Answer.GetAttr who.inc (blocks_of f) f.rev → IsPlain s who r reply
  no_file : (file : ℕ) → who.inc ≡ (line_of s who).inc → s.phase ≡ serving → requested_file r ≡ Some file → find_file file s.kept.files ≡ None
      → reply ≡ Answer.Refused who.inc Refusal.Stale → IsPlain s who r reply
  no_block : (q file block : ℕ) (want : Option Want) (f : File) → who.inc ≡ (line_of s who).inc → s.phase ≡ serving
      → r ≡ Request.Read who q file block want → find_file file s.kept.files ≡ Some f → slice_get f.bodies block ≡ None
      → reply ≡ Answer.Refused who.inc Refusal.Inval → IsPlain s who r reply
  decided_again : (seq : ℕ) → who.inc ≡ (line_of s who).inc → sequence_of r ≡ Some seq → seq ≡ (line_of s who).seq
      → reply ≡ verdict_reply who.inc (line_of s who).verdict (line_of s who).value r → IsPlain s who r reply
  is_old : (seq : ℕ) → who.inc ≡ (line_of s who).inc → sequence_of r ≡ Some seq → seq < (line_of s who).seq → reply ≡ Answer.Refused who.inc Refusal.Old
      → IsPlain s who r reply

-- a request of the kept incarnation asks the lease table about a file that is kept: to read it, or for a lease
pub record IsAsking (s : Server) (sender : ℕ) (who : Who) (f : File) : Type 0 where
  pub current : IsCurrent s sender who
  pub serves : s.phase ≡ serving
  pub found : find_file f.id s.kept.files ≡ Some f

-- a fresh request is about to change a file that is kept, while the server serves
pub record IsChanging (s : Server) (sender : ℕ) (who : Who) (seq : ℕ) (f : File) : Type 0 where
  pub fresh : IsFresh s sender who seq
  pub serves : s.phase ≡ serving
  pub found : find_file f.id s.kept.files ≡ Some f

-- the first row of another host that stands in the way of one who changes a file
abbrev pub clash_with : Server → (file host : ℕ) → Option Row
clash_with s file host = find (conflicts file host Access.Write) s.table.rows

-- a file of so many blocks can be made under this name
pub record CanCreate (s : Server) (name : List ℕ) (blocks : ℕ) : Type 0 where
  pub some : 0 < blocks
  pub few : blocks ≤ most_blocks_of_file
  pub free : find_name name s.kept.files ≡ None
  pub file_room : length s.kept.files < most_files
  pub block_room : blocks_in_all s.kept.files + blocks ≤ most_blocks
  pub id_room : s.kept.next < most_ids

-- a file can get so many blocks
pub record CanResize (s : Server) (f : File) (blocks : ℕ) : Type 0 where
  pub some : 0 < blocks
  pub few : blocks ≤ most_blocks_of_file
  pub room : (blocks_in_all s.kept.files - blocks_of f) + blocks ≤ most_blocks

-- delayed writes over this base can be stored under this row
pub record CanStore (s : Server) (who : Who) (f : File) (base : PushBase) (row : Row) : Type 0 where
  pub row_found : find_row f.id who.host s.table.rows ≡ Some row
  pub writes : is_writing row.mode ≡ true
  pub inc : row.who.inc ≡ who.inc
  pub boot : base.boot ≡ s.kept.boot
  pub rev : base.base ≡ f.rev

-- no further file of so many blocks can be kept: there are too many files, blocks or ids
abbrev pub has_no_room : Server → (blocks : ℕ) → Bool
has_no_room s blocks = nat_le most_files (length s.kept.files) || nat_lt most_blocks (blocks_in_all s.kept.files + blocks) || nat_le most_ids s.kept.next

-- with so many blocks in this file, too many would be kept in all
abbrev pub cannot_grow : Server → File → (blocks : ℕ) → Bool
cannot_grow s f blocks = nat_lt most_blocks ((blocks_in_all s.kept.files - blocks_of f) + blocks)

-- a decision that has no effect, by its reason
pub data IsDeclined (s : Server) (who : Who) (r : Request) (verdict : Verdict) : Type 0 where
  bad_length : (seq blocks : ℕ) (name : List ℕ) → s.phase ≡ serving → r ≡ Request.Create who seq name blocks
      → (blocks == 0 || nat_lt most_blocks_of_file blocks) ≡ true → verdict ≡ Verdict.Invalid → IsDeclined s who r verdict
  name_taken : (seq blocks : ℕ) (name : List ℕ) → s.phase ≡ serving → r ≡ Request.Create who seq name blocks
      → is_some (find_name name s.kept.files) ≡ true → verdict ≡ Verdict.Exist → IsDeclined s who r verdict
  no_room : (seq blocks : ℕ) (name : List ℕ) → s.phase ≡ serving → r ≡ Request.Create who seq name blocks
      → has_no_room s blocks ≡ true → verdict ≡ Verdict.NoSpace → IsDeclined s who r verdict
  not_kept : (file : ℕ) → file_changed_by r ≡ Some file → find_file file s.kept.files ≡ None → verdict ≡ Verdict.Stale → IsDeclined s who r verdict
  outside : (seq file block first last : ℕ) (push : Option PushBase) (body : List ℕ) (f : File)
      → r ≡ Request.Write who seq file block first last push body → find_file file s.kept.files ≡ Some f → blocks_of f ≤ block
      → verdict ≡ Verdict.Invalid → IsDeclined s who r verdict
  no_row : (seq file block first last : ℕ) (base : PushBase) (body : List ℕ) (f : File) → s.phase ≡ serving
      → r ≡ Request.Write who seq file block first last (Some base) body → find_file file s.kept.files ≡ Some f
      → find_row f.id who.host s.table.rows ≡ None → verdict ≡ Verdict.Fenced → IsDeclined s who r verdict
  not_under : (seq file block first last : ℕ) (base : PushBase) (body : List ℕ) (f : File) (row : Row) → s.phase ≡ serving
      → r ≡ Request.Write who seq file block first last (Some base) body → find_file file s.kept.files ≡ Some f
      → find_row f.id who.host s.table.rows ≡ Some row
      → (is_writing row.mode && row.who.inc == who.inc && base.boot == s.kept.boot && base.base == f.rev) ≡ false → verdict ≡ Verdict.Fenced
      → IsDeclined s who r verdict
  not_over : (seq file block first last : ℕ) (base : PushBase) (body : List ℕ) (f : File) → IsRecovering s
      → r ≡ Request.Write who seq file block first last (Some base) body → find_file file s.kept.files ≡ Some f
      → (base.boot == s.kept.opened && base.base == f.rev) ≡ false → verdict ≡ Verdict.Fenced → IsDeclined s who r verdict
  not_while_recovering : IsRecovering s → base_in r ≡ None → verdict ≡ Verdict.TryLater → IsDeclined s who r verdict
  bad_size : (seq q file blocks : ℕ) (f : File) → s.phase ≡ serving → r ≡ Request.Resize who seq q file blocks → find_file file s.kept.files ≡ Some f
      → (blocks == 0 || nat_lt most_blocks_of_file blocks) ≡ true → verdict ≡ Verdict.Invalid → IsDeclined s who r verdict
  no_room_to_grow : (seq q file blocks : ℕ) (f : File) → s.phase ≡ serving → r ≡ Request.Resize who seq q file blocks
      → find_file file s.kept.files ≡ Some f → cannot_grow s f blocks ≡ true → verdict ≡ Verdict.NoSpace → IsDeclined s who r verdict

-- a decision without effect is not Done
pub declined-not : (s : Server) (who : Who) (r : Request) (v : Verdict) → IsDeclined s who r v → v ≡ Verdict.Done → ⊥
declined-not s who r v (bad_length seq blocks name p on bad is) done = cc
declined-not s who r v (name_taken seq blocks name p on taken is) done = cc
declined-not s who r v (no_room seq blocks name p on full is) done = cc
declined-not s who r v (not_kept file on none is) done = cc
declined-not s who r v (outside seq file block first last push body f on found out is) done = cc
declined-not s who r v (no_row seq file block first last base body f p on found none is) done = cc
declined-not s who r v (not_under seq file block first last base body f row p on found some bars is) done = cc
declined-not s who r v (not_over seq file block first last base body f rec on found bars is) done = cc
declined-not s who r v (not_while_recovering rec none is) done = cc
declined-not s who r v (bad_size seq q file blocks f p on found bad is) done = cc
declined-not s who r v (no_room_to_grow seq q file blocks f p on found full is) done = cc

-- the outcomes of a datagram
pub record ServerCases (s : Server) (sender next : ℕ) (d : Datagram) (Q : ServerStep → Type 0) : Type 0 where
  -- nothing happens
  pub stays : Q (quiet s)
  -- the datagram is dropped
  pub dropping : (reason : Reason) → Q (drops s reason)
  -- it is no request, and is answered with an error
  pub erring : (m : Message) → error_for d ≡ Some m → Q (says s sender m)
  -- NULL is answered
  pub answers_null : (xid : ℕ) → d ≡ request xid Request.Null → Q (replies s sender xid Answer.Null)
  -- a reply that brings no lease, and changes nothing
  pub replying : (xid : ℕ) (who : Who) (r : Request) (reply : Answer) → d ≡ request xid r → asker r ≡ Some who → IsFrom sender who
      → IsPlain s who r reply → Q (replies s who.host xid reply)
  -- a later incarnation begins
  pub attaching : (xid : ℕ) (who : Who) → d ≡ request xid (Request.Attach who) → IsFrom sender who → (line_of s who).inc < who.inc → Q (attaches s who xid)
  -- a lease was given up, in both phases
  pub vacating : (xid : ℕ) (who : Who) (file : ℕ) (tag : Tag) → d ≡ request xid (Request.Vacated who file tag) → IsCurrent s sender who
      → Q (vacates s who file tag)
  -- the asker is put off by the rows of others
  pub putting_off : (xid : ℕ) (who : Who) (r : Request) (f : File) (clash : Row) → d ≡ request xid r → asker r ≡ Some who → requested_file r ≡ Some f.id
      → IsAsking s sender who f → clash_in s.table (to_read s who f (wanted_by r)) ≡ Some clash
      → Q (tells_later s who xid (with_marked s.table (to_read s who f (wanted_by r))) (in_the_way s f.id who.host (access_of (wanted_by r))))
  -- the same, and he gets a row that waits
  pub putting_off_waiting : (xid : ℕ) (who : Who) (r : Request) (f : File) (clash : Row) (want : Want) → d ≡ request xid r → asker r ≡ Some who
      → requested_file r ≡ Some f.id → wanted_by r ≡ Some want → IsAsking s sender who f → clash_in s.table (to_read s who f (Some want)) ≡ Some clash
      → own_in s.table (to_read s who f (Some want)) ≡ None → has_room (with_marked s.table (to_read s who f (Some want))) ≡ true
      → Q (tells_later s who xid (with_waiter s.table (to_read s who f (Some want)) want) (in_the_way s f.id who.host (access_of (Some want))))
  -- the asker is to give up his own row first
  pub putting_off_by_own : (xid : ℕ) (who : Who) (r : Request) (f : File) (want : Want) (own : Row) → d ≡ request xid r → asker r ≡ Some who
      → requested_file r ≡ Some f.id → wanted_by r ≡ Some want → IsAsking s sender who f → clash_in s.table (to_read s who f (Some want)) ≡ None
      → own_in s.table (to_read s who f (Some want)) ≡ Some own → own.evicting ≡ true → Q (tells_later s who xid s.table (own ∷ []))
  -- a block is read, and no lease is wanted
  pub reading : (xid : ℕ) (who : Who) (q block : ℕ) (f : File) (body : List ℕ) → d ≡ request xid (Request.Read who q f.id block None)
      → IsAsking s sender who f → slice_get f.bodies block ≡ Some body → clash_in s.table (to_read s who f None) ≡ None
      → Q (serves s who xid next q f block body s.table None)
  -- a block is read, and there is no room for a lease
  pub reading_full : (xid : ℕ) (who : Who) (q block : ℕ) (want : Want) (f : File) (body : List ℕ)
      → d ≡ request xid (Request.Read who q f.id block (Some want)) → IsAsking s sender who f → slice_get f.bodies block ≡ Some body
      → clash_in s.table (to_read s who f (Some want)) ≡ None → own_in s.table (to_read s who f (Some want)) ≡ None → has_room s.table ≡ false
      → Q (serves s who xid next q f block body s.table None)
  -- a block is read, and a lease is granted
  pub reading_granted : (xid : ℕ) (who : Who) (q block : ℕ) (want : Want) (f : File) (body : List ℕ) (row : Row) (term : ℕ)
      → d ≡ request xid (Request.Read who q f.id block (Some want)) → IsAsking s sender who f → slice_get f.bodies block ≡ Some body
      → clash_in s.table (to_read s who f (Some want)) ≡ None → IsGranted s.table (to_read s who f (Some want)) want row term
      → Q (serves s who xid next q f block body (after_draw s.table (put_row row s.table.rows)) (Some (grant_of (to_read s who f (Some want)) row term)))
  -- there is no room for a lease
  pub leasing_full : (xid : ℕ) (who : Who) (want : Want) (f : File) → d ≡ request xid (Request.GetLease who f.id want) → IsAsking s sender who f
      → clash_in s.table (to_read s who f (Some want)) ≡ None → own_in s.table (to_read s who f (Some want)) ≡ None → has_room s.table ≡ false
      → Q (leases s who xid f.id s.table None)
  -- a lease is granted
  pub leasing : (xid : ℕ) (who : Who) (want : Want) (f : File) (row : Row) (term : ℕ) → d ≡ request xid (Request.GetLease who f.id want)
      → IsAsking s sender who f → clash_in s.table (to_read s who f (Some want)) ≡ None → IsGranted s.table (to_read s who f (Some want)) want row term
      → Q (leases s who xid f.id (after_draw s.table (put_row row s.table.rows)) (Some (grant_of (to_read s who f (Some want)) row term)))
  -- a fresh request is decided, without effect
  pub declining : (xid : ℕ) (who : Who) (seq : ℕ) (r : Request) (verdict : Verdict) → d ≡ request xid r → asker r ≡ Some who → sequence_of r ≡ Some seq
      → IsFresh s sender who seq → IsDeclined s who r verdict → Q (commits who seq xid r (decides s verdict))
  -- a fresh request to change a file is put off by the rows of others
  pub putting_off_change : (xid : ℕ) (who : Who) (seq : ℕ) (r : Request) (f : File) (clash : Row) → d ≡ request xid r → asker r ≡ Some who
      → sequence_of r ≡ Some seq → file_changed_by r ≡ Some f.id → base_in r ≡ None → IsChanging s sender who seq f
      → clash_with s f.id who.host ≡ Some clash
      → Q (commits who seq xid r (puts_off s who f.id (with_rows s.table (marked f.id who.host Access.Write s.table.rows))))
  -- a file is made
  pub creating : (xid : ℕ) (who : Who) (seq blocks : ℕ) (name : List ℕ) → d ≡ request xid (Request.Create who seq name blocks)
      → IsFresh s sender who seq → s.phase ≡ serving → CanCreate s name blocks
      → Q (commits who seq xid (Request.Create who seq name blocks) (creates s name blocks))
  -- a write goes through
  pub writing_through : (xid : ℕ) (who : Who) (seq block first last : ℕ) (body : List ℕ) (f : File)
      → d ≡ request xid (Request.Write who seq f.id block first last None body) → IsChanging s sender who seq f → block < blocks_of f
      → clash_with s f.id who.host ≡ None
      → Q (commits who seq xid (Request.Write who seq f.id block first last None body) (writes_through s who f block first body))
  -- delayed writes are stored
  pub storing : (xid : ℕ) (who : Who) (seq block first last : ℕ) (base : PushBase) (body : List ℕ) (f : File) (row : Row)
      → d ≡ request xid (Request.Write who seq f.id block first last (Some base) body) → IsChanging s sender who seq f → block < blocks_of f
      → CanStore s who f base row
      → Q (commits who seq xid (Request.Write who seq f.id block first last (Some base) body) (stores s who f row block first last body))
  -- delayed writes are stored while the server recovers
  pub storing_recovering : (xid : ℕ) (who : Who) (seq block first final : ℕ) (base : PushBase) (body : List ℕ) (f : File) (until heard : ℕ)
      (last : Option Table) → d ≡ request xid (Request.Write who seq f.id block first final (Some base) body) → IsFresh s sender who seq
      → s.phase ≡ recovering until heard last → find_file f.id s.kept.files ≡ Some f → block < blocks_of f → base.boot ≡ s.kept.opened
      → base.base ≡ f.rev
      → Q (commits who seq xid (Request.Write who seq f.id block first final (Some base) body)
      (stores_recovering s until last who f block first final body))
  -- a file gets another length
  pub resizing : (xid : ℕ) (who : Who) (seq q blocks : ℕ) (f : File) → d ≡ request xid (Request.Resize who seq q f.id blocks)
      → IsChanging s sender who seq f → CanResize s f blocks → clash_with s f.id who.host ≡ None
      → Q (commits who seq xid (Request.Resize who seq q f.id blocks) (resizes s who q f blocks))
  -- a file is taken away
  pub removing : (xid : ℕ) (who : Who) (seq q : ℕ) (f : File) → d ≡ request xid (Request.Remove who seq q f.id) → IsChanging s sender who seq f
      → clash_with s f.id who.host ≡ None → Q (commits who seq xid (Request.Remove who seq q f.id) (removes s who q f))

-- no writing row ends at this time: none is due, or the first that is stays, since the revision of its file can not rise
pub data NoneEnds (s : Server) (now : ℕ) (rows : List Row) : Type 0 where
  none_due : find (is_due now) rows ≡ None → NoneEnds s now rows
  first_stays : (row : Row) → find (is_due now) rows ≡ Some row → can_rise (find_file row.file s.kept.files) ≡ false → NoneEnds s now rows

-- the outcomes of a tick of the server's clock
pub record TickCases (s : Server) (now : ℕ) (Q : ServerStep → Type 0) : Type 0 where
  -- the recovery goes on
  pub waits : (until heard : ℕ) (last : Option Table) → s.phase ≡ recovering until heard last → now < until → Q (quiet (at_time s now))
  -- the recovery ends
  pub opening : (until heard : ℕ) (last : Option Table) → s.phase ≡ recovering until heard last → until ≤ now → Q (opens (at_time s now) until heard)
  -- no writing row ends
  pub ends_reading : s.phase ≡ serving → NoneEnds s now (end_reading now s.table.rows)
      → Q (quiet (with_table (at_time s now) (with_rows s.table (end_reading now s.table.rows))))
  -- a writing row ends in silence
  pub ending_writing : (row : Row) → s.phase ≡ serving → find (is_due now) (end_reading now s.table.rows) ≡ Some row
      → Q (ends_writing (at_time s now) (end_reading now s.table.rows) row)
