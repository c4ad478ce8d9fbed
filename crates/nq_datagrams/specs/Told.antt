-- What the code makes of a datagram, as the protocol's definitions see it.
use Rattle.std.specs.Prelude.{Option, Some, None}
use Rattle.nq_model.specs.protocol.Message.{Message, call, reply, RpcError, rpc_mismatch, program_unavailable, program_mismatch, procedure_unavailable}
use Rattle.nq_model.specs.protocol.Message.{garbage_arguments, Datagram, too_long, no_message, no_call, other_rpc, other_program, other_version}
use Rattle.nq_model.specs.protocol.Message.{unknown_procedure, garbage_vacated, garbage, request}
use Rattle.nq_xdr.specs.RpcFault.{fault_number}
use Rattle.nq_wire.specs.Lent.{lent_reply}
use Rattle.nq_datagrams.specs.declared.to_client.Heard.{Heard}
use Rattle.nq_datagrams.specs.declared.to_client.LentHeard.{LentHeard}
use Rattle.nq_datagrams.specs.declared.to_server.Incoming.{Incoming}
use Rattle.nq_datagrams.specs.declared.writing.ErrorReply.{ErrorReply}

-- what a datagram is to the server
abbrev pub told : Incoming → Datagram
told Incoming.TooLong = too_long
told (Incoming.NoMessage fault) = no_message (fault_number fault)
told Incoming.NoCall = no_call
told (Incoming.OtherRpc xid) = other_rpc xid
told (Incoming.OtherProgram xid) = other_program xid
told (Incoming.OtherVersion xid) = other_version xid
told (Incoming.UnknownProcedure xid) = unknown_procedure xid
told Incoming.GarbageVacated = garbage_vacated
told (Incoming.Garbage xid) = garbage xid
told (Incoming.Request xid r) = request xid r

-- what it is to a client
abbrev pub told_message : Heard → Message
told_message (Heard.Notice xid r) = call xid r
told_message (Heard.Reply xid r) = reply xid r

abbrev pub told_client : Option Heard → Option Message
told_client None = None
told_client (Some heard) = Some (told_message heard)

-- the same with a body of its own
abbrev pub owned : LentHeard → Heard
owned (LentHeard.Notice xid r) = Heard.Notice xid r
owned (LentHeard.Reply xid r) = Heard.Reply xid (lent_reply r)

-- what it is to a client, where a body is lent
abbrev pub told_lent : Option LentHeard → Option Message
told_lent None = None
told_lent (Some heard) = Some (told_message (owned heard))

-- which reply without a result it is
abbrev pub told_error : ErrorReply → RpcError
told_error ErrorReply.RpcMismatch = rpc_mismatch
told_error ErrorReply.ProgramUnavailable = program_unavailable
told_error ErrorReply.ProgramMismatch = program_mismatch
told_error ErrorReply.ProcedureUnavailable = procedure_unavailable
told_error ErrorReply.GarbageArguments = garbage_arguments
