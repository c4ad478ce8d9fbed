-- What any bytes are as a message of leased directories: the message, or none.
use Rattle.std.specs.Prelude.{ℕ, ◌==◌, ◌&&◌, List, [], ◌∷◌, ◌++◌, length, Option, Some, None, Result, Ok, Err, nat_lt, if◌then◌else◌, zero, suc}
use Rattle.nq_datagrams.specs.Messages.{program, version, rpc_version}
use Rattle.nq_xdr.specs.declared.rpc.message.CallMessage.{CallMessage}
use Rattle.nq_xdr.specs.declared.rpc.message.Message.{Message as Said}
use Rattle.nq_xdr.specs.declared.rpc.message.Message.TheVariants as said
use Rattle.nq_xdr.specs.declared.rpc.message.Outcome.{Outcome}
use Rattle.nq_xdr.specs.declared.rpc.message.Outcome.TheVariants as outcome
use Rattle.nq_xdr.specs.declared.rpc.fault.RpcFault.{RpcFault}
use Rattle.nq_xdr.specs.RpcReading.{message_at}
use Rattle.nq_wire.specs.declared.Garbage.{Garbage}
use Rattle.nq_wire.specs.Garbage.{garbage}
use Rattle.nq_wire.specs.Reading.{item, head_at, tag_at, grant_at, optional_at, name_at}
use Rattle.nq_xdr.specs.Reading.{◌>>=◌, word_at, boolean_at, opaque_at}
use Rattle.nq_directory.specs.declared.listing.messages.DirTag.{DirTag}
use Rattle.nq_directory.specs.declared.names.FileName.{FileName}
use Rattle.nq_directory.specs.declared.listing.messages.ReadDir.{ReadDir}
use Rattle.nq_directory.specs.Messages.{Listing, Answer, page, wait, read_dir, dir_evicted, dir_vacated, later, most_names}

-- ---- calls and replies

-- a call of this procedure of the program: its number and its arguments
unfoldable pub call_as : (procedure : ℕ) → CallMessage → Option (ℕ × List ℕ)
call_as procedure m =
    if m.rpcvers == rpc_version && m.head.prog == program && m.head.vers == version && m.head.procedure == procedure
    then Some (m.head.xid, m.arguments)
    else None

-- what was read, if it is such a call
abbrev pub call_by : (procedure : ℕ) → Result Said RpcFault → Option (ℕ × List ℕ)
call_by procedure (Err e) = None
call_by procedure (Ok (said.Reply r)) = None
call_by procedure (Ok (said.Call m)) = call_as procedure m

-- the call of this procedure that bytes are
unfoldable pub call_in : (procedure : ℕ) → List ℕ → Option (ℕ × List ℕ)
call_in procedure bytes = call_by procedure (message_at bytes)

-- the results of a reply to the call of number `of`, where that is the awaited one
unfoldable pub results_of : (xid of : ℕ) → Outcome → Option (List ℕ)
results_of xid of (outcome.Success results) = if of == xid then Some results else None
results_of xid of other = None

-- what was read, if it is such a reply
abbrev pub results_by : (xid : ℕ) → Result Said RpcFault → Option (List ℕ)
results_by xid (Err e) = None
results_by xid (Ok (said.Call m)) = None
results_by xid (Ok (said.Reply r)) = results_of xid r.xid r.outcome

-- the results that bytes bring as the reply to the call of this number
unfoldable pub results_in : (xid : ℕ) → List ℕ → Option (List ℕ)
results_in xid bytes = results_by xid (message_at bytes)

-- ---- the parts

-- nothing is left
unfoldable pub end_at : List ℕ → Result (Unit {0}) Garbage
end_at rest = if length rest == 0 then Ok tt else Err garbage

-- a prefix: at most 64 bytes
unfoldable pub prefix_at : List ℕ → Result (List ℕ × List ℕ) Garbage
prefix_at bytes = item (opaque_at 64 bytes)

-- a file with its name
unfoldable pub entry_at : List ℕ → Result (FileName × List ℕ) Garbage
entry_at bytes = do
  file ← item (word_at bytes)
  name ← name_at file.1
  Ok (record { file = file.0; name = name.0 }, name.1)

-- so many further files with their names, behind those that were read
abbrev pub entries_at : (done : List FileName) → (left : ℕ) → List ℕ → Result (List FileName × List ℕ) Garbage
entries_at done zero bytes = Ok (done, bytes)
entries_at done (suc left) bytes = do
  entry ← entry_at bytes
  entries_at (done ++ entry.0 ∷ []) left entry.1

-- how many files a page has: at most 32
unfoldable pub count_at : List ℕ → Result (ℕ × List ℕ) Garbage
count_at bytes = do
  count ← item (word_at bytes)
  if nat_lt most_names count.0 then Err garbage else Ok count

-- a page
unfoldable pub page_at : List ℕ → Result (Listing × List ℕ) Garbage
page_at bytes = do
  count ← count_at bytes
  names ← entries_at [] count.0 count.1
  more ← item (boolean_at names.1)
  grant ← optional_at grant_at more.1
  Ok (record { names = names.0; more = more.0; grant = grant.0 }, grant.1)

-- ---- the arguments and the results

-- the arguments of READDIRLOOK
unfoldable pub read_dir_at : (xid : ℕ) → List ℕ → Result ReadDir Garbage
read_dir_at xid bytes = do
  who ← head_at bytes
  prefix ← prefix_at who.1
  after ← item (word_at prefix.1)
  term ← item (word_at after.1)
  done ← end_at term.1
  Ok (record { xid = xid; who = who.0; prefix = prefix.0; after = after.0; term = term.0 })

-- the arguments of DIREVICTED and of DIRVACATED
unfoldable pub dir_tag_at : (xid : ℕ) → List ℕ → Result DirTag Garbage
dir_tag_at xid bytes = do
  who ← head_at bytes
  prefix ← prefix_at who.1
  tag ← tag_at prefix.1
  done ← end_at tag.1
  Ok (record { xid = xid; who = who.0; prefix = prefix.0; tag = tag.0 })

-- a page with nothing behind it
unfoldable pub page_alone : List ℕ → Result Answer Garbage
page_alone bytes = do
  listing ← page_at bytes
  done ← end_at listing.1
  Ok (page listing.0)

-- that the client is to ask again later, with nothing behind it
unfoldable pub wait_alone : List ℕ → Result Answer Garbage
wait_alone bytes = do
  done ← end_at bytes
  Ok wait

-- what stands behind a status
unfoldable pub answer_at : (status : ℕ) → List ℕ → Result Answer Garbage
answer_at status bytes =
    if status == 0 then page_alone bytes else (if status == later then wait_alone bytes else Err garbage)

-- the results of READDIRLOOK: the incarnation that asked, and what it is told
unfoldable pub told_at : List ℕ → Result (ℕ × Answer) Garbage
told_at bytes = do
  inc ← item (word_at bytes)
  status ← item (word_at inc.1)
  answer ← answer_at status.0 status.1
  Ok (inc.0, answer)

-- ---- whole datagrams

-- what was read, if anything
abbrev pub read : {A : Type 0} → Result A Garbage → Option A
read (Ok x) = Some x
read (Err e) = None

-- the READDIRLOOK of a call
abbrev pub read_dir_by : Option (ℕ × List ℕ) → Option ReadDir
read_dir_by None = None
read_dir_by (Some called) = read (read_dir_at called.0 called.1)

-- the READDIRLOOK that bytes are
unfoldable pub read_dir_in : List ℕ → Option ReadDir
read_dir_in bytes = read_dir_by (call_in read_dir bytes)

-- the DIREVICTED or DIRVACATED of a call
abbrev pub dir_tag_by : Option (ℕ × List ℕ) → Option DirTag
dir_tag_by None = None
dir_tag_by (Some called) = read (dir_tag_at called.0 called.1)

-- the DIREVICTED that bytes are
unfoldable pub dir_evicted_in : List ℕ → Option DirTag
dir_evicted_in bytes = dir_tag_by (call_in dir_evicted bytes)

-- the DIRVACATED that bytes are
unfoldable pub dir_vacated_in : List ℕ → Option DirTag
dir_vacated_in bytes = dir_tag_by (call_in dir_vacated bytes)

-- what is told to this incarnation
abbrev pub told_for : (inc : ℕ) → Result (ℕ × Answer) Garbage → Option Answer
told_for inc (Err e) = None
told_for inc (Ok t) = if t.0 == inc then Some t.1 else None

abbrev pub told_by : (inc : ℕ) → Option (List ℕ) → Option Answer
told_by inc None = None
told_by inc (Some bytes) = told_for inc (told_at bytes)

-- what bytes tell as the reply to the READDIRLOOK of this number and incarnation
unfoldable pub told_in : (xid inc : ℕ) → List ℕ → Option Answer
told_in xid inc bytes = told_by inc (results_in xid bytes)
