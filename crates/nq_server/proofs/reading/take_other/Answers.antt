use Rattle.std.proofs.Common.{ap, subst}
use Rattle.nq_datagrams.specs.Told.{told}
use Rattle.nq_model.specs.protocol.Message.{error, rpc_mismatch, program_unavailable, program_mismatch, procedure_unavailable, garbage_arguments}
use Rattle.nq_model.specs.protocol.ServerStep.{receive}
use Rattle.nq_server.proofs.AnsweredSteps.{does-answered, does-dropped}
use Rattle.nq_server.specs.Answering.{IsNoRequest}
use Rattle.nq_server.specs.declared.received.Reason.TheVariants as reason
use Rattle.nq_server.specs.State.{server_of}
use Rattle.nq_server.proofs.reading.take_other.Goals as goal

pub returns-in-TooLong : goal.returns-in-TooLong
returns-in-TooLong c =
    λ held kept next log.
    does-dropped reason.TooLong (receive (server_of held kept) c.args.sender next (told c.args.incoming.now)) held kept c.args.out.now log
    (ap (λ i. receive (server_of held kept) c.args.sender next (told i)) c.in-TooLong.is)

pub returns-in-NoCall : goal.returns-in-NoCall
returns-in-NoCall c =
    λ held kept next log.
    does-dropped reason.NotACall (receive (server_of held kept) c.args.sender next (told c.args.incoming.now)) held kept c.args.out.now log
    (ap (λ i. receive (server_of held kept) c.args.sender next (told i)) c.in-NoCall.is)

pub returns-in-GarbageVacated : goal.returns-in-GarbageVacated
returns-in-GarbageVacated c =
    λ held kept next log.
    does-dropped reason.NoReplyOwed (receive (server_of held kept) c.args.sender next (told c.args.incoming.now)) held kept c.args.out.now log
    (ap (λ i. receive (server_of held kept) c.args.sender next (told i)) c.in-GarbageVacated.is)

pub returns-in-NoMessage : goal.returns-in-NoMessage
returns-in-NoMessage c =
    λ held kept next log.
    does-dropped (reason.Rpc c.in-NoMessage.fault) (receive (server_of held kept) c.args.sender next (told c.args.incoming.now)) held kept c.args.out.now log
    (ap (λ i. receive (server_of held kept) c.args.sender next (told i)) c.in-NoMessage.is)

pub returns-in-OtherRpc : goal.returns-in-OtherRpc
returns-in-OtherRpc c =
    λ held kept next log.
    does-answered c.args.sender (error c.in-OtherRpc.xid rpc_mismatch) c.say_error.result (receive (server_of held kept) c.args.sender next
    (told c.args.incoming.now)) held kept c.args.out.now c.say_error.new.out log c.say_error.ensures
    (ap (λ i. receive (server_of held kept) c.args.sender next (told i)) c.in-OtherRpc.is)

pub returns-in-OtherProgram : goal.returns-in-OtherProgram
returns-in-OtherProgram c =
    λ held kept next log.
    does-answered c.args.sender (error c.in-OtherProgram.xid program_unavailable) c.say_error-in-OtherProgram.result (receive (server_of held kept)
    c.args.sender next (told c.args.incoming.now)) held kept c.args.out.now c.say_error-in-OtherProgram.new.out log c.say_error-in-OtherProgram.ensures
    (ap (λ i. receive (server_of held kept) c.args.sender next (told i)) c.in-OtherProgram.is)

pub returns-in-OtherVersion : goal.returns-in-OtherVersion
returns-in-OtherVersion c =
    λ held kept next log.
    does-answered c.args.sender (error c.in-OtherVersion.xid program_mismatch) c.say_error-in-OtherVersion.result (receive (server_of held kept)
    c.args.sender next (told c.args.incoming.now)) held kept c.args.out.now c.say_error-in-OtherVersion.new.out log c.say_error-in-OtherVersion.ensures
    (ap (λ i. receive (server_of held kept) c.args.sender next (told i)) c.in-OtherVersion.is)

pub returns-in-UnknownProcedure : goal.returns-in-UnknownProcedure
returns-in-UnknownProcedure c =
    λ held kept next log.
    does-answered c.args.sender (error c.in-UnknownProcedure.xid procedure_unavailable) c.say_error-in-UnknownProcedure.result
    (receive (server_of held kept) c.args.sender next (told c.args.incoming.now)) held kept c.args.out.now c.say_error-in-UnknownProcedure.new.out
    log c.say_error-in-UnknownProcedure.ensures
    (ap (λ i. receive (server_of held kept) c.args.sender next (told i)) c.in-UnknownProcedure.is)

pub returns-in-Garbage : goal.returns-in-Garbage
returns-in-Garbage c =
    λ held kept next log.
    does-answered c.args.sender (error c.in-Garbage.xid garbage_arguments) c.say_error-in-Garbage.result (receive (server_of held kept) c.args.sender
    next (told c.args.incoming.now)) held kept c.args.out.now c.say_error-in-Garbage.new.out log c.say_error-in-Garbage.ensures
    (ap (λ i. receive (server_of held kept) c.args.sender next (told i)) c.in-Garbage.is)

pub unreachable-requires : goal.unreachable-requires
unreachable-requires c = subst IsNoRequest c.in-Request.is c.requires
