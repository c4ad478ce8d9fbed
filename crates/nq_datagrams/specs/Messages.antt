-- The messages of the protocol as bytes: each is one message of RPC version 2 (RFC 1057 section 8), with AUTH_NULL.
use Rattle.std.specs.Prelude.{ℕ, ◌^◌, ◌<◌, List}
use Rattle.nq_base.specs.declared.Reply.{Reply}
use Rattle.nq_base.specs.declared.Request.{Request}
use Rattle.nq_model.specs.protocol.Message.{Message, call, reply, error, RpcError, rpc_mismatch, program_unavailable, program_mismatch, procedure_unavailable}
use Rattle.nq_model.specs.protocol.Message.{garbage_arguments}
use Rattle.nq_xdr.specs.declared.rpc.message.Message.{Message as Said}
use Rattle.nq_xdr.specs.declared.rpc.message.Message.TheVariants as said
use Rattle.nq_xdr.specs.declared.rpc.message.Outcome.{Outcome}
use Rattle.nq_xdr.specs.declared.rpc.message.Outcome.TheVariants as outcome
use Rattle.nq_xdr.specs.Message.{spelling, null}
use Rattle.nq_wire.specs.Procedure.{number_of}
use Rattle.nq_wire.specs.Reply.{results, IsReply}
use Rattle.nq_wire.specs.Request.{procedure_of, arguments, IsRequest, HasSpelling}

-- the number of the program, of its version, and of the version of RPC
abbrev pub program : ℕ
program = 536890961

abbrev pub version : ℕ
version = 1

abbrev pub rpc_version : ℕ
rpc_version = 2

-- a request as a call of the program
abbrev pub call_message : (xid : ℕ) → Request → Said
call_message xid asked = said.Call (record {
  head = record { xid = xid; prog = program; vers = version; procedure = number_of (procedure_of asked) };
  rpcvers = rpc_version;
  arguments = arguments asked;
})

-- a reply as an accepted reply with results
abbrev pub reply_message : (xid : ℕ) → Reply → Said
reply_message xid answer = said.Reply (record { xid = xid; outcome = outcome.Success (results answer) })

-- a reply that brings no result; a mismatch names the one version that is served
abbrev pub error_outcome : RpcError → Outcome
error_outcome rpc_mismatch = outcome.RpcMismatch rpc_version rpc_version
error_outcome program_unavailable = outcome.ProgUnavail
error_outcome program_mismatch = outcome.ProgMismatch version version
error_outcome procedure_unavailable = outcome.ProcUnavail
error_outcome garbage_arguments = outcome.GarbageArgs

-- the message of RPC
abbrev pub message_of : Message → Said
message_of (call xid asked) = call_message xid asked
message_of (reply xid answer) = reply_message xid answer
message_of (error xid e) = said.Reply (record { xid = xid; outcome = error_outcome e })

-- the numbers of a message are within their fields, so that it has a spelling
abbrev pub FitsMessage : Message → Type 0
FitsMessage (call xid asked) = (xid < 2 ^ 32) × IsRequest asked × HasSpelling asked
FitsMessage (reply xid answer) = (xid < 2 ^ 32) × IsReply answer
FitsMessage (error xid e) = xid < 2 ^ 32

-- the bytes that are sent for a message
unfoldable pub bytes_of : Message → List ℕ
bytes_of m = spelling (message_of m) null null
