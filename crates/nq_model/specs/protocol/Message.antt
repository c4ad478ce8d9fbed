-- What travels: calls and replies of RPC, typed (RFC 1057 section 8).
use Rattle.std.specs.Prelude.{ℕ, Option, Some, None}
use Rattle.nq_base.specs.declared.Party.{Party}
use Rattle.nq_base.specs.declared.Reply.{Reply}
use Rattle.nq_base.specs.declared.Request.{Request}
use Rattle.nq_base.specs.declared.Request.TheVariants.{Null, Attach, Lookup, Create, GetAttr, Read, Write, GetLease, Vacated, Evicted, Resize, Remove}
use Rattle.nq_base.specs.declared.Who.{Who}

-- the replies of RPC that bring no result: other version of RPC, other program, other version of it, unknown
-- procedure, arguments outside their grammar
pub data RpcError : Type 0 where
  rpc_mismatch : RpcError
  program_unavailable : RpcError
  program_mismatch : RpcError
  procedure_unavailable : RpcError
  garbage_arguments : RpcError

-- a message: a call, the reply to the call of that number, or an error in its place
pub data Message : Type 0 where
  call : (xid : ℕ) → Request → Message
  reply : (xid : ℕ) → Reply → Message
  error : (xid : ℕ) → RpcError → Message

-- the sequence of a request that is decided once
abbrev pub sequence_of : Request → Option ℕ
sequence_of (Create who seq name blocks) = Some seq
sequence_of (Write who seq file block first last push body) = Some seq
sequence_of (Resize who seq q file blocks) = Some seq
sequence_of (Remove who seq q file) = Some seq
sequence_of other = None

-- a message under way
pub record Packet : Type 0 where
  pub sender : Party
  pub to : Party
  pub message : Message

-- what a server makes of a datagram. The classes are tried in this order: too long, no message of RPC (with the number
-- of its fault), a reply, a call of another version of RPC, of another program, of another version of the program,
-- of no procedure that is served, with arguments outside their grammar (of VACATED, or of another procedure), and a
-- request
pub data Datagram : Type 0 where
  too_long : Datagram
  no_message : (fault : ℕ) → Datagram
  no_call : Datagram
  other_rpc : (xid : ℕ) → Datagram
  other_program : (xid : ℕ) → Datagram
  other_version : (xid : ℕ) → Datagram
  unknown_procedure : (xid : ℕ) → Datagram
  garbage_vacated : Datagram
  garbage : (xid : ℕ) → Datagram
  request : (xid : ℕ) → Request → Datagram

-- why a datagram is dropped
pub data Reason : Type 0 where
  was_too_long : Reason
  was_no_message : (fault : ℕ) → Reason
  was_no_call : Reason
  wrong_host : Reason
  old_incarnation : Reason
  out_of_bounds : Reason
  no_reply_owed : Reason

-- the datagram that a call is: EVICTED is sent by the server alone, and no procedure that it serves
abbrev pub datagram_of_call : (xid : ℕ) → Request → Datagram
datagram_of_call xid (Evicted who file tag) = unknown_procedure xid
datagram_of_call xid other = request xid other

-- the datagram that a message is
abbrev pub datagram_of : Message → Datagram
datagram_of (call xid r) = datagram_of_call xid r
datagram_of (reply xid r) = no_call
datagram_of (error xid e) = no_call

-- the incarnation that asks, but for NULL
abbrev pub asker : Request → Option Who
asker Null = None
asker (Attach who) = Some who
asker (Lookup who name) = Some who
asker (Create who seq name blocks) = Some who
asker (GetAttr who file) = Some who
asker (Read who q file block want) = Some who
asker (Write who seq file block first last push body) = Some who
asker (GetLease who file want) = Some who
asker (Vacated who file tag) = Some who
asker (Evicted who file tag) = Some who
asker (Resize who seq q file blocks) = Some who
asker (Remove who seq q file) = Some who
