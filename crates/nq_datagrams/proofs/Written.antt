-- What is written for a message is read again.
use Rattle.std.proofs.Common.{◌≡◌, ◌≤◌, length, Ok, refl, arith}
use Rattle.nq_base.specs.declared.Reply.{Reply}
use Rattle.nq_base.specs.declared.Request.{Request}
use Rattle.nq_model.specs.protocol.Message.{Message, call, reply, error, RpcError, rpc_mismatch, program_unavailable, program_mismatch, procedure_unavailable}
use Rattle.nq_model.specs.protocol.Message.{garbage_arguments}
use Rattle.nq_xdr.specs.Message.{spelling_len, null, IsMessage, IsOutcome}
use Rattle.nq_xdr.specs.RpcReading.{message_at}
use Rattle.nq_xdr.proofs.Messages.{message_again, null_fits}
use Rattle.nq_xdr.proofs.Spellings.{length-spelling}
use Rattle.nq_wire.specs.declared.Procedure.{Procedure}
use Rattle.nq_wire.specs.Procedure.{number_of}
use Rattle.nq_wire.specs.Reading.{request_in, reply_in}
use Rattle.nq_wire.specs.Reply.{results, IsReply, Answers}
use Rattle.nq_wire.specs.Request.{arguments, procedure_of, IsRequest, HasSpelling}
use Rattle.nq_wire.proofs.Lengths.{length-arguments, arguments_len-most, length-results, results_len-most}
use Rattle.nq_wire.proofs.Whole.{request_whole, request_is, reply_whole, reply_is, number_of-most, numbered-number_of}
use Rattle.nq_datagrams.specs.Messages.{error_outcome, message_of, FitsMessage, bytes_of}

-- the numbers of a message of RPC are words
error-fits : (e : RpcError) → IsOutcome (error_outcome e)
error-fits rpc_mismatch = (omega arith, omega arith)
error-fits program_unavailable = tt
error-fits program_mismatch = (omega arith, omega arith)
error-fits procedure_unavailable = tt
error-fits garbage_arguments = tt

message-fits : (m : Message) → FitsMessage m → IsMessage (message_of m)
message-fits (call xid r) fits = record {
  xid = fits.0;
  rpcvers = omega arith;
  prog = omega arith;
  vers = omega arith;
  procedure = omega (arith, number_of-most (procedure_of r));
}
message-fits (reply xid r) fits = (fits.0, tt)
message-fits (error xid e) fits = (fits, error-fits e)

pub message-again : (m : Message) → FitsMessage m → message_at (bytes_of m) ≡ Ok (message_of m)
unfolding bytes_of
message-again m fits = message_again (message_of m) null null (message-fits m fits) null_fits null_fits

-- no datagram is longer than a READ's reply with a grant
most-bytes : (m : Message) → FitsMessage m → spelling_len (message_of m) ≤ 4204
most-bytes (call xid r) fits = omega (arith, length-arguments r fits.1, arguments_len-most r fits.1)
most-bytes (reply xid r) fits = omega (arith, length-results r fits.1, results_len-most r fits.1)
most-bytes (error xid rpc_mismatch) fits = omega arith
most-bytes (error xid program_unavailable) fits = omega arith
most-bytes (error xid program_mismatch) fits = omega arith
most-bytes (error xid procedure_unavailable) fits = omega arith
most-bytes (error xid garbage_arguments) fits = omega arith

pub length-bytes_of : (m : Message) → FitsMessage m → length (bytes_of m) ≤ 4204
unfolding bytes_of
length-bytes_of m fits = let same = length-spelling (message_of m) in let most = most-bytes m fits in omega arith

-- arguments and results are read by the number of their procedure
pub request-again : (r : Request) → IsRequest r → HasSpelling r → request_in (number_of (procedure_of r)) (arguments r) ≡ Ok r
request-again r fits has =
    request_is
    (procedure_of r)
    (number_of (procedure_of r))
    (arguments r)
    (arguments r)
    (Ok r)
    (numbered-number_of (procedure_of r))
    refl
    (request_whole (procedure_of r) r (arguments r) (record { procedure_is = refl; value_fits = fits; has_spelling = has; bytes_are = refl }))

pub reply-again : (p : Procedure) (r : Reply) → Answers r p → IsReply r → reply_in (number_of p) (results r) ≡ Ok r
reply-again p r answers fits =
    reply_is
    p
    (number_of p)
    (results r)
    (results r)
    (Ok r)
    (numbered-number_of p)
    refl
    (reply_whole p r (results r) (record { procedure = p; procedure_is = refl; answers = answers; value_fits = fits; bytes_are = refl }))
