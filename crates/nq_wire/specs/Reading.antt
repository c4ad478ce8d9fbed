-- Reading requests and results from the left: the value and the bytes behind it, or a fault.
use Rattle.std.specs.Prelude.{◌≡◌, ℕ, ◌&&◌, not, List, ◌++◌, length, Option, Some, None, is_none, Result, Ok, Err, ◌==◌, if◌then◌else◌, IfOk}
use Rattle.nq_base.specs.Name.{is_name}
use Rattle.nq_base.specs.declared.Grant.{Grant}
use Rattle.nq_base.specs.declared.Mode.{Mode}
use Rattle.nq_base.specs.declared.Mode.TheVariants.{NonCaching, Reading, Writing}
use Rattle.nq_base.specs.declared.PushBase.{PushBase}
use Rattle.nq_base.specs.declared.Refusal.{Refusal}
use Rattle.nq_base.specs.declared.Refusal.TheVariants as refusal
use Rattle.nq_base.specs.declared.Reply.{Reply}
use Rattle.nq_base.specs.declared.Reply.TheVariants as reply
use Rattle.nq_base.specs.declared.Request.{Request}
use Rattle.nq_base.specs.declared.Request.TheVariants as request
use Rattle.nq_base.specs.declared.Tag.{Tag}
use Rattle.nq_base.specs.declared.Want.{Want}
use Rattle.nq_base.specs.declared.Who.{Who}
use Rattle.nq_xdr.specs.declared.XdrFault.{XdrFault}
use Rattle.nq_xdr.specs.Reading.{◌>>=◌, word_at, hyper_at, boolean_at, opaque_at}
use Rattle.nq_wire.specs.declared.fault.Garbage.{Garbage}
use Rattle.nq_wire.specs.declared.fault.WireFault.{WireFault}
use Rattle.nq_wire.specs.declared.fault.WireFault.TheVariants as fault
use Rattle.nq_wire.specs.Garbage.{garbage}
use Rattle.nq_wire.specs.Procedure.{numbered}
use Rattle.nq_wire.specs.declared.procedure.Procedure.{Procedure}
use Rattle.nq_wire.specs.declared.procedure.Procedure.TheVariants as procedure

-- What a call gave is spelled by the bytes that it passed over.
abbrev pub Reads : {A F : Type 0} → (A → List ℕ) → (A → Type 0) → List ℕ → List ℕ → Result A F → Type 0
Reads spelling Fits old new result = IfOk result (λ x. Fits x × (old ≡ spelling x ++ new))

-- an item: any fault of it makes garbage of the whole
abbrev pub item : {A : Type 0} → Result A XdrFault → Result A Garbage
item (Ok x) = Ok x
item (Err e) = Err garbage

-- ---- the parts

-- who asks
unfoldable pub head_at : List ℕ → Result (Who × List ℕ) Garbage
head_at bytes = do
  host ← item (word_at bytes)
  inc ← item (word_at host.1)
  Ok (record { host = host.0; inc = inc.0 }, inc.1)

-- a tag
unfoldable pub tag_at : List ℕ → Result (Tag × List ℕ) Garbage
tag_at bytes = do
  boot ← item (word_at bytes)
  number ← item (hyper_at boot.1)
  Ok (record { boot = boot.0; number = number.0 }, number.1)

-- the mode of a lease that is wanted, by its number
unfoldable pub wanted_mode : ℕ → Result Mode Garbage
wanted_mode n = if n == 1 then Ok Reading else (if n == 2 then Ok Writing else Err garbage)

-- a want: its mode is 1 or 2
unfoldable pub want_at : List ℕ → Result (Want × List ℕ) Garbage
want_at bytes = do
  number ← item (word_at bytes)
  mode ← wanted_mode number.0
  term ← item (word_at number.1)
  Ok (record { mode = mode; term = term.0 }, term.1)

-- the mode of a lease that is granted, by its number
unfoldable pub granted_mode : ℕ → Result Mode Garbage
granted_mode n = if n == 0 then Ok NonCaching else (if n == 1 then Ok Reading else (if n == 2 then Ok Writing else Err garbage))

-- a grant: its mode is 0, 1 or 2
unfoldable pub grant_at : List ℕ → Result (Grant × List ℕ) Garbage
grant_at bytes = do
  number ← item (word_at bytes)
  mode ← granted_mode number.0
  term ← item (word_at number.1)
  tag ← tag_at term.1
  since ← tag_at tag.1
  rev ← item (hyper_at since.1)
  blocks ← item (word_at rev.1)
  Ok (record { mode = mode; term = term.0; tag = tag.0; since = since.0; rev = rev.0; blocks = blocks.0 }, blocks.1)

-- what a delayed write rests on
unfoldable pub base_at : List ℕ → Result (PushBase × List ℕ) Garbage
base_at bytes = do
  boot ← item (word_at bytes)
  base ← item (hyper_at boot.1)
  Ok (record { boot = boot.0; base = base.0 }, base.1)

-- a part that is there
abbrev pub some_of : {A : Type 0} → Result (A × List ℕ) Garbage → Result (Option A × List ℕ) Garbage
some_of (Ok x) = Ok (Some x.0, x.1)
some_of (Err e) = Err e

-- a part that may be there
unfoldable pub optional_at : {A : Type 0} → (List ℕ → Result (A × List ℕ) Garbage) → List ℕ → Result (Option A × List ℕ) Garbage
optional_at part_at bytes = do
  there ← item (boolean_at bytes)
  if there.0 then some_of (part_at there.1) else Ok (None, there.1)

-- the name of these bytes
unfoldable pub name_of : List ℕ → Result (List ℕ) Garbage
name_of bytes = if is_name bytes then Ok bytes else Err garbage

-- a name
unfoldable pub name_at : List ℕ → Result (List ℕ × List ℕ) Garbage
name_at bytes = do
  body ← item (opaque_at 64 bytes)
  name ← name_of body.0
  Ok (name, body.1)

-- the body of a block: 4096 bytes
unfoldable pub body_at : List ℕ → Result (List ℕ × List ℕ) Garbage
body_at bytes = do
  body ← item (opaque_at 4096 bytes)
  if length body.0 == 4096 then Ok (body.0, body.1) else Err garbage

-- ---- the arguments of each procedure, behind who asks

-- the arguments of LOOKUP
unfoldable pub lookup_at : Who → List ℕ → Result (Request × List ℕ) Garbage
lookup_at who bytes = do
  name ← name_at bytes
  Ok (request.Lookup who name.0, name.1)

-- the arguments of CREATE
unfoldable pub create_at : Who → List ℕ → Result (Request × List ℕ) Garbage
create_at who bytes = do
  seq ← item (hyper_at bytes)
  name ← name_at seq.1
  blocks ← item (word_at name.1)
  Ok (request.Create who seq.0 name.0 blocks.0, blocks.1)

-- the arguments of GETATTR
unfoldable pub get_attr_at : Who → List ℕ → Result (Request × List ℕ) Garbage
get_attr_at who bytes = do
  file ← item (word_at bytes)
  Ok (request.GetAttr who file.0, file.1)

-- the arguments of READ
unfoldable pub read_at : Who → List ℕ → Result (Request × List ℕ) Garbage
read_at who bytes = do
  call ← item (hyper_at bytes)
  file ← item (word_at call.1)
  block ← item (word_at file.1)
  want ← optional_at want_at block.1
  Ok (request.Read who call.0 file.0 block.0 want.0, want.1)

-- the write numbers, and what they rest on where the WRITE is a push
unfoldable pub span_at : List ℕ → Result ((ℕ × ℕ × Option PushBase) × List ℕ) Garbage
span_at bytes = do
  first ← item (hyper_at bytes)
  last ← item (hyper_at first.1)
  push ← optional_at base_at last.1
  if is_none push.0 && not (first.0 == last.0) then Err garbage else Ok ((first.0, last.0, push.0), push.1)

-- the arguments of WRITE
unfoldable pub write_at : Who → List ℕ → Result (Request × List ℕ) Garbage
write_at who bytes = do
  seq ← item (hyper_at bytes)
  file ← item (word_at seq.1)
  block ← item (word_at file.1)
  span ← span_at block.1
  body ← body_at span.1
  Ok (request.Write who seq.0 file.0 block.0 span.0.0 span.0.1 span.0.2 body.0, body.1)

-- the arguments of GETLEASE
unfoldable pub get_lease_at : Who → List ℕ → Result (Request × List ℕ) Garbage
get_lease_at who bytes = do
  file ← item (word_at bytes)
  want ← want_at file.1
  Ok (request.GetLease who file.0 want.0, want.1)

-- the arguments of VACATED
unfoldable pub vacated_at : Who → List ℕ → Result (Request × List ℕ) Garbage
vacated_at who bytes = do
  file ← item (word_at bytes)
  tag ← tag_at file.1
  Ok (request.Vacated who file.0 tag.0, tag.1)

-- the arguments of EVICTED
unfoldable pub evicted_at : Who → List ℕ → Result (Request × List ℕ) Garbage
evicted_at who bytes = do
  file ← item (word_at bytes)
  tag ← tag_at file.1
  Ok (request.Evicted who file.0 tag.0, tag.1)

-- the arguments of RESIZE
unfoldable pub resize_at : Who → List ℕ → Result (Request × List ℕ) Garbage
resize_at who bytes = do
  seq ← item (hyper_at bytes)
  call ← item (hyper_at seq.1)
  file ← item (word_at call.1)
  blocks ← item (word_at file.1)
  Ok (request.Resize who seq.0 call.0 file.0 blocks.0, blocks.1)

-- the arguments of REMOVE
unfoldable pub remove_at : Who → List ℕ → Result (Request × List ℕ) Garbage
remove_at who bytes = do
  seq ← item (hyper_at bytes)
  call ← item (hyper_at seq.1)
  file ← item (word_at call.1)
  Ok (request.Remove who seq.0 call.0 file.0, file.1)

-- the arguments of a procedure behind who asks; NULL tells nobody
abbrev pub arguments_at : Procedure → Who → List ℕ → Result (Request × List ℕ) Garbage
arguments_at procedure.Null who bytes = Err garbage
arguments_at procedure.Attach who bytes = Ok (request.Attach who, bytes)
arguments_at procedure.Lookup who bytes = lookup_at who bytes
arguments_at procedure.Create who bytes = create_at who bytes
arguments_at procedure.GetAttr who bytes = get_attr_at who bytes
arguments_at procedure.Read who bytes = read_at who bytes
arguments_at procedure.Write who bytes = write_at who bytes
arguments_at procedure.GetLease who bytes = get_lease_at who bytes
arguments_at procedure.Vacated who bytes = vacated_at who bytes
arguments_at procedure.Evicted who bytes = evicted_at who bytes
arguments_at procedure.Resize who bytes = resize_at who bytes
arguments_at procedure.Remove who bytes = remove_at who bytes

-- who asks, and what follows
unfoldable pub asked_at : Procedure → List ℕ → Result (Request × List ℕ) Garbage
asked_at p bytes = do
  who ← head_at bytes
  arguments_at p who.0 who.1

-- the arguments of a procedure
abbrev pub request_at : Procedure → List ℕ → Result (Request × List ℕ) Garbage
request_at procedure.Null bytes = Ok (request.Null, bytes)
request_at p bytes = asked_at p bytes

-- ---- the results of each procedure, behind the incarnation and the status OK

-- the results of LOOKUP
unfoldable pub found_at : ℕ → List ℕ → Result (Reply × List ℕ) Garbage
found_at inc bytes = do
  file ← item (word_at bytes)
  blocks ← item (word_at file.1)
  Ok (reply.Lookup inc file.0 blocks.0, blocks.1)

-- the results of CREATE
unfoldable pub created_at : ℕ → List ℕ → Result (Reply × List ℕ) Garbage
created_at inc bytes = do
  file ← item (word_at bytes)
  Ok (reply.Create inc file.0, file.1)

-- the results of GETATTR
unfoldable pub attributes_at : ℕ → List ℕ → Result (Reply × List ℕ) Garbage
attributes_at inc bytes = do
  blocks ← item (word_at bytes)
  rev ← item (hyper_at blocks.1)
  Ok (reply.GetAttr inc blocks.0 rev.0, rev.1)

-- the results of READ
unfoldable pub block_at : ℕ → List ℕ → Result (Reply × List ℕ) Garbage
block_at inc bytes = do
  rev ← item (hyper_at bytes)
  body ← body_at rev.1
  grant ← optional_at grant_at body.1
  Ok (reply.Read inc rev.0 body.0 grant.0, grant.1)

-- the results of WRITE
unfoldable pub written_at : ℕ → List ℕ → Result (Reply × List ℕ) Garbage
written_at inc bytes = do
  rev ← item (hyper_at bytes)
  Ok (reply.Write inc rev.0, rev.1)

-- the results of GETLEASE
unfoldable pub lease_at : ℕ → List ℕ → Result (Reply × List ℕ) Garbage
lease_at inc bytes = do
  grant ← optional_at grant_at bytes
  Ok (reply.GetLease inc grant.0, grant.1)

-- the results of RESIZE
unfoldable pub resized_at : ℕ → List ℕ → Result (Reply × List ℕ) Garbage
resized_at inc bytes = do
  rev ← item (hyper_at bytes)
  Ok (reply.Resize inc rev.0, rev.1)

-- the results of a procedure
abbrev pub results_at : Procedure → ℕ → List ℕ → Result (Reply × List ℕ) Garbage
results_at procedure.Null inc bytes = Err garbage
results_at procedure.Attach inc bytes = Ok (reply.Attach inc, bytes)
results_at procedure.Lookup inc bytes = found_at inc bytes
results_at procedure.Create inc bytes = created_at inc bytes
results_at procedure.GetAttr inc bytes = attributes_at inc bytes
results_at procedure.Read inc bytes = block_at inc bytes
results_at procedure.Write inc bytes = written_at inc bytes
results_at procedure.GetLease inc bytes = lease_at inc bytes
results_at procedure.Vacated inc bytes = Err garbage
results_at procedure.Evicted inc bytes = Err garbage
results_at procedure.Resize inc bytes = resized_at inc bytes
results_at procedure.Remove inc bytes = Ok (reply.Remove inc, bytes)

-- the status of a number that is not 0
unfoldable pub refusal_of : ℕ → Result Refusal Garbage
refusal_of n =
    if n == 2 then Ok refusal.NoEnt else (
    if n == 17 then Ok refusal.Exist else (
    if n == 22 then Ok refusal.Inval else (
    if n == 28 then Ok refusal.NoSpc else (
    if n == 70 then Ok refusal.Stale else (
    if n == 501 then Ok refusal.TryLater else (
    if n == 502 then Ok refusal.Fenced else (
    if n == 503 then Ok refusal.NotAttached else (
    if n == 504 then Ok refusal.Old else Err garbage))))))))

-- the incarnation and the status, and what follows them
unfoldable pub answer_at : Procedure → List ℕ → Result (Reply × List ℕ) Garbage
answer_at p bytes = do
  inc ← item (word_at bytes)
  status ← item (word_at inc.1)
  if status.0 == 0 then results_at p inc.0 status.1 else (refusal_of status.0 >>= λ status'. Ok (reply.Refused inc.0 status', status.1))

-- the results of a procedure
abbrev pub reply_at : Procedure → List ℕ → Result (Reply × List ℕ) Garbage
reply_at procedure.Null bytes = Ok (reply.Null, bytes)
reply_at procedure.Vacated bytes = Err garbage
reply_at procedure.Evicted bytes = Err garbage
reply_at p bytes = answer_at p bytes

-- ---- all of the bytes

-- what was read, where nothing follows it
abbrev pub whole : {A : Type 0} → Result (A × List ℕ) Garbage → Result A Garbage
whole (Ok x) = if length x.1 == 0 then Ok x.0 else Err garbage
whole (Err e) = Err e

-- ---- by the number of a procedure

-- what is not in the grammar, as a fault
abbrev pub wired : {A : Type 0} → Result A Garbage → Result A WireFault
wired (Ok x) = Ok x
wired (Err e) = Err fault.Garbage

-- the request of these arguments, where there is such a procedure
abbrev pub request_by : Option Procedure → List ℕ → Result Request WireFault
request_by None bytes = Err fault.NoSuchProc
request_by (Some p) bytes = wired (whole (request_at p bytes))

-- the request whose arguments are all of the bytes
unfoldable pub request_in : (procedure : ℕ) → List ℕ → Result Request WireFault
request_in procedure bytes = request_by (numbered procedure) bytes

-- the reply of these results, where there is such a procedure
abbrev pub reply_by : Option Procedure → List ℕ → Result Reply WireFault
reply_by None bytes = Err fault.NoSuchProc
reply_by (Some p) bytes = wired (whole (reply_at p bytes))

-- the reply whose results are all of the bytes
unfoldable pub reply_in : (procedure : ℕ) → List ℕ → Result Reply WireFault
reply_in procedure bytes = reply_by (numbered procedure) bytes
