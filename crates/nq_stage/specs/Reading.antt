-- What any bytes are as a message of staged writes: the message, or none.
use Rattle.std.specs.Prelude.{ℕ, Bool, false, ◌==◌, ◌&&◌, List, length, Option, Some, None, Result, Ok, Err, if◌then◌else◌}
use Rattle.nq_base.specs.declared.PushBase.{PushBase}
use Rattle.nq_datagrams.specs.Messages.{program, version, rpc_version}
use Rattle.nq_xdr.specs.declared.rpc.message.CallMessage.{CallMessage}
use Rattle.nq_xdr.specs.declared.rpc.message.Message.{Message as Said}
use Rattle.nq_xdr.specs.declared.rpc.message.Message.TheVariants as said
use Rattle.nq_xdr.specs.declared.rpc.message.Outcome.{Outcome}
use Rattle.nq_xdr.specs.declared.rpc.message.Outcome.TheVariants as outcome
use Rattle.nq_xdr.specs.declared.rpc.fault.RpcFault.{RpcFault}
use Rattle.nq_xdr.specs.RpcReading.{message_at}
use Rattle.nq_xdr.specs.declared.XdrFault.{XdrFault}
use Rattle.nq_xdr.specs.declared.XdrFault.TheVariants.{Short, Bool as NoBoolean, Trailing}
use Rattle.nq_xdr.specs.Reading.{◌>>=◌, word_at, hyper_at, boolean_at, opaque_at}
use Rattle.nq_stage.specs.declared.messages.Commit.{Commit}
use Rattle.nq_stage.specs.declared.messages.Pushed.{Pushed}
use Rattle.nq_stage.specs.declared.messages.Written.{Written}
use Rattle.nq_stage.specs.declared.reading.Front.{Front}
use Rattle.nq_stage.specs.Messages.{commit, stage, unstaged}

-- a STAGE: its number, which write the body is of, and the body
pub record Stage : Type 0 where
  pub xid : ℕ
  pub written : Written
  pub body : List ℕ

-- ---- calls and replies

-- a call of this procedure of the program: its number and its arguments
unfoldable pub call_as : (procedure : ℕ) → CallMessage → Option (ℕ × List ℕ)
call_as procedure m =
    if m.rpcvers == rpc_version && m.head.prog == program && m.head.vers == version && m.head.procedure == procedure
    then Some (m.head.xid, m.arguments)
    else None

-- what was read, if it is such a call
abbrev pub call_by : (procedure : ℕ) → Result Said RpcFault → Option (ℕ × List ℕ)
call_by procedure (Err e) = None
call_by procedure (Ok (said.Reply r)) = None
call_by procedure (Ok (said.Call m)) = call_as procedure m

-- the call of this procedure that bytes are
unfoldable pub call_in : (procedure : ℕ) → List ℕ → Option (ℕ × List ℕ)
call_in procedure bytes = call_by procedure (message_at bytes)

-- the results of a reply to the call of number `of`, where that is the awaited one
unfoldable pub results_of : (xid of : ℕ) → Outcome → Option (List ℕ)
results_of xid of (outcome.Success results) = if of == xid then Some results else None
results_of xid of other = None

-- what was read, if it is such a reply
abbrev pub results_by : (xid : ℕ) → Result Said RpcFault → Option (List ℕ)
results_by xid (Err e) = None
results_by xid (Ok (said.Call m)) = None
results_by xid (Ok (said.Reply r)) = results_of xid r.xid r.outcome

-- the results that bytes bring as the reply to the call of this number
unfoldable pub results_in : (xid : ℕ) → List ℕ → Option (List ℕ)
results_in xid bytes = results_by xid (message_at bytes)

-- ---- the parts

-- nothing is left
unfoldable pub end_at : List ℕ → Result (Unit {0}) XdrFault
end_at rest = if length rest == 0 then Ok tt else Err Trailing

-- which write a body is of
unfoldable pub written_at : List ℕ → Result (Written × List ℕ) XdrFault
written_at bytes = do
  host ← word_at bytes
  inc ← word_at host.1
  file ← word_at inc.1
  block ← word_at file.1
  last ← hyper_at block.1
  Ok (record { host = host.0; inc = inc.0; file = file.0; block = block.0; last = last.0 }, last.1)

-- the body of a block: 4096 bytes
unfoldable pub body_at : List ℕ → Result (List ℕ × List ℕ) XdrFault
body_at bytes = do
  body ← opaque_at 4096 bytes
  if length body.0 == 4096 then Ok (body.0, body.1) else Err Short

-- what a push rests on
unfoldable pub base_at : List ℕ → Result (PushBase × List ℕ) XdrFault
base_at bytes = do
  boot ← word_at bytes
  base ← hyper_at boot.1
  Ok (record { boot = boot.0; base = base.0 }, base.1)

-- what a push and its COMMIT begin with
unfoldable pub front_at : List ℕ → Result (Front × List ℕ) XdrFault
front_at bytes = do
  host ← word_at bytes
  inc ← word_at host.1
  seq ← hyper_at inc.1
  file ← word_at seq.1
  block ← word_at file.1
  first ← hyper_at block.1
  last ← hyper_at first.1
  Ok (record { who = record { host = host.0; inc = inc.0 }; seq = seq.0; file = file.0; block = block.0; first = first.0; last = last.0 }, last.1)

-- the push with this front and this base
abbrev pub pushed_of : (xid : ℕ) → Front → PushBase → Pushed
pushed_of xid f base =
    record { xid = xid; who = f.who; seq = f.seq; file = f.file; block = f.block; first = f.first; last = f.last; base = base }

-- ---- the arguments and the results

-- the arguments of STAGE
unfoldable pub stage_at : (xid : ℕ) → List ℕ → Result Stage XdrFault
stage_at xid bytes = do
  written ← written_at bytes
  body ← body_at written.1
  done ← end_at body.1
  Ok (record { xid = xid; written = written.0; body = body.0 })

-- the arguments of COMMIT
unfoldable pub commit_at : (xid : ℕ) → List ℕ → Result Commit XdrFault
commit_at xid bytes = do
  front ← front_at bytes
  base ← base_at front.1
  verifier ← word_at base.1
  done ← end_at verifier.1
  Ok (record { pushed = pushed_of xid front.0 base.0; verifier = verifier.0 })

-- the arguments of a WRITE that is a push
unfoldable pub push_at : (xid : ℕ) → List ℕ → Result Pushed XdrFault
push_at xid bytes = do
  front ← front_at bytes
  there ← boolean_at front.1
  base ← (if there.0 then base_at there.1 else Err NoBoolean)
  body ← body_at base.1
  done ← end_at body.1
  Ok (pushed_of xid front.0 base.0)

-- the results of STAGE: the incarnation, the status and the verifier
unfoldable pub staged_at : List ℕ → Result (ℕ × ℕ × ℕ) XdrFault
staged_at bytes = do
  inc ← word_at bytes
  status ← word_at inc.1
  verifier ← word_at status.1
  done ← end_at verifier.1
  Ok (inc.0, status.0, verifier.0)

-- the incarnation and the status of results with nothing behind them
unfoldable pub unstaged_at : List ℕ → Result (ℕ × ℕ) XdrFault
unstaged_at bytes = do
  inc ← word_at bytes
  status ← word_at inc.1
  done ← end_at status.1
  Ok (inc.0, status.0)

-- ---- whole datagrams

-- what was read, if anything
abbrev pub read : {A : Type 0} → Result A XdrFault → Option A
read (Ok x) = Some x
read (Err e) = None

-- the STAGE of a call
abbrev pub stage_by : Option (ℕ × List ℕ) → Option Stage
stage_by None = None
stage_by (Some called) = read (stage_at called.0 called.1)

-- the STAGE that bytes are
unfoldable pub stage_in : List ℕ → Option Stage
stage_in bytes = stage_by (call_in stage bytes)

-- the COMMIT of a call
abbrev pub commit_by : Option (ℕ × List ℕ) → Option Commit
commit_by None = None
commit_by (Some called) = read (commit_at called.0 called.1)

-- the COMMIT that bytes are
unfoldable pub commit_in : List ℕ → Option Commit
commit_in bytes = commit_by (call_in commit bytes)

-- the push of a WRITE
abbrev pub push_by : Option (ℕ × List ℕ) → Option Pushed
push_by None = None
push_by (Some called) = read (push_at called.0 called.1)

-- the push that bytes are, without its body
unfoldable pub push_in : List ℕ → Option Pushed
push_in bytes = push_by (call_in 6 bytes)

-- the verifier in results of this incarnation with the status OK
abbrev pub verifier_for : (inc : ℕ) → Result (ℕ × ℕ × ℕ) XdrFault → Option ℕ
verifier_for inc (Err e) = None
verifier_for inc (Ok s) = if s.0 == inc && s.1 == 0 then Some s.2 else None

abbrev pub verifier_by : (inc : ℕ) → Option (List ℕ) → Option ℕ
verifier_by inc None = None
verifier_by inc (Some results) = verifier_for inc (staged_at results)

-- the verifier that bytes bring as the reply to the STAGE of this number and incarnation
unfoldable pub verifier_in : (xid inc : ℕ) → List ℕ → Option ℕ
verifier_in xid inc bytes = verifier_by inc (results_in xid bytes)

-- whether results are of this incarnation with the status UNSTAGED
abbrev pub unstaged_for : (inc : ℕ) → Result (ℕ × ℕ) XdrFault → Bool
unstaged_for inc (Err e) = false
unstaged_for inc (Ok s) = s.0 == inc && s.1 == unstaged

abbrev pub unstaged_by : (inc : ℕ) → Option (List ℕ) → Bool
unstaged_by inc None = false
unstaged_by inc (Some results) = unstaged_for inc (unstaged_at results)

-- whether bytes are the reply UNSTAGED to the COMMIT of this number and incarnation
unfoldable pub is_unstaged_in : (xid inc : ℕ) → List ℕ → Bool
is_unstaged_in xid inc bytes = unstaged_by inc (results_in xid bytes)
