-- Reading a message from the left: the message, or the first fault.
use Rattle.std.specs.Prelude.{◌≡◌, ◌⊎◌, ℕ, List, length, Result, Ok, Err, ◌==◌, if◌then◌else◌, IsOk}
use Rattle.nq_xdr.specs.declared.fault.XdrFault.{XdrFault}
use Rattle.nq_xdr.specs.declared.fault.XdrFault.TheVariants as xdr
use Rattle.nq_xdr.specs.Reading.{◌>>=◌, map_err, word_at, opaque_at}
use Rattle.nq_xdr.specs.declared.rpc.fault.RpcFault.{RpcFault}
use Rattle.nq_xdr.specs.declared.rpc.fault.RpcFault.TheVariants.{Short, BadKind, BadAuth, Xdr, Memory}
use Rattle.nq_xdr.specs.declared.rpc.message.Outcome.{Outcome}
use Rattle.nq_xdr.specs.declared.rpc.message.Outcome.TheVariants.{Success, ProgUnavail, ProgMismatch, ProcUnavail, GarbageArgs, RpcMismatch, AuthError}
use Rattle.nq_xdr.specs.declared.rpc.message.Message.{Message}
use Rattle.nq_xdr.specs.declared.rpc.message.Message.TheVariants.{Call, Reply}

-- the fault of a message one of whose items has a fault
abbrev pub fault_of : XdrFault → RpcFault
fault_of xdr.Short = Short
fault_of xdr.Bool = Xdr
fault_of xdr.TooLong = BadAuth
fault_of xdr.Pad = Xdr
fault_of xdr.Trailing = Xdr

-- an item of a message
abbrev pub item : {A : Type 0} → Result A XdrFault → Result A RpcFault
item read = map_err fault_of read

-- what stands behind the credential or the verifier at the front
unfoldable pub behind_auth : List ℕ → Result (List ℕ) RpcFault
behind_auth bytes = do
  flavor ← item (word_at bytes)
  body ← item (opaque_at 400 flavor.1)
  Ok body.1

-- the call with this xid
unfoldable pub call_at : ℕ → List ℕ → Result Message RpcFault
call_at xid bytes = do
  rpcvers ← item (word_at bytes)
  prog ← item (word_at rpcvers.1)
  vers ← item (word_at prog.1)
  procedure ← item (word_at vers.1)
  verifier ← behind_auth procedure.1
  arguments ← behind_auth verifier
  Ok (Call (record { head = record { xid = xid; prog = prog.0; vers = vers.0; procedure = procedure.0 }; rpcvers = rpcvers.0; arguments = arguments }))

-- an error reply, which ends here
unfoldable pub ended : Outcome → List ℕ → Result Outcome RpcFault
ended outcome rest = if length rest == 0 then Ok outcome else Err Xdr

-- two numbers, and what stands behind them
unfoldable pub bounds_at : List ℕ → Result (ℕ × ℕ × List ℕ) RpcFault
bounds_at bytes = do
  low ← item (word_at bytes)
  high ← item (word_at low.1)
  Ok (low.0, high.0, high.1)

-- an accepted reply whose accept_stat is this number
unfoldable pub accepted_as : ℕ → List ℕ → Result Outcome RpcFault
accepted_as stat bytes =
    if stat == 0 then Ok (Success bytes) else (
    if stat == 1 then ended ProgUnavail bytes else (
    if stat == 2 then (bounds_at bytes >>= λ bounds. ended (ProgMismatch bounds.0 bounds.1) bounds.2) else (
    if stat == 3 then ended ProcUnavail bytes else (
    if stat == 4 then ended GarbageArgs bytes else Err BadKind))))

-- an accepted reply
unfoldable pub accepted_at : List ℕ → Result Outcome RpcFault
accepted_at bytes = do
  rest ← behind_auth bytes
  stat ← item (word_at rest)
  accepted_as stat.0 stat.1

-- a denied reply whose reject_stat is this number
unfoldable pub denied_as : ℕ → List ℕ → Result Outcome RpcFault
denied_as stat bytes =
    if stat == 0 then (bounds_at bytes >>= λ bounds. ended (RpcMismatch bounds.0 bounds.1) bounds.2) else (
    if stat == 1 then (item (word_at bytes) >>= λ stat. ended (AuthError stat.0) stat.1) else Err BadKind)

-- a denied reply
unfoldable pub denied_at : List ℕ → Result Outcome RpcFault
denied_at bytes = do
  stat ← item (word_at bytes)
  denied_as stat.0 stat.1

-- what a reply says behind its xid and its message type
unfoldable pub outcome_at : List ℕ → Result Outcome RpcFault
outcome_at bytes = do
  stat ← item (word_at bytes)
  if stat.0 == 0 then accepted_at stat.1 else (if stat.0 == 1 then denied_at stat.1 else Err BadKind)

-- the reply with this xid
unfoldable pub reply_at : ℕ → List ℕ → Result Message RpcFault
reply_at xid bytes = do
  outcome ← outcome_at bytes
  Ok (Reply (record { xid = xid; outcome = outcome }))

-- a message, all of the bytes
unfoldable pub message_at : List ℕ → Result Message RpcFault
message_at bytes = do
  xid ← item (word_at bytes)
  kind ← item (word_at xid.1)
  if kind.0 == 0 then call_at xid.0 kind.1 else (if kind.0 == 1 then reply_at xid.0 kind.1 else Err BadKind)

-- A call gave what reading gives, or it wanted memory for the message that reading gives.
abbrev pub Decodes : {X : Type 0} → Result X RpcFault → Result X RpcFault → Type 0
Decodes (Ok x) read = read ≡ Ok x
Decodes (Err e) read = (read ≡ Err e) ⊎ ((e ≡ Memory) × IsOk read)
