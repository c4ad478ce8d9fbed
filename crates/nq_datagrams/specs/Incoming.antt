-- What the bytes of a datagram are to the server, and to a client.
use Rattle.std.specs.Prelude.{ℕ, ◌==◌, ◌||◌, ◌&&◌, not, List, length, Option, Some, None, Result, Ok, Err, nat_lt, if◌then◌else◌}
use Rattle.nq_base.specs.declared.Reply.{Reply}
use Rattle.nq_base.specs.declared.Request.{Request}
use Rattle.nq_model.specs.protocol.Client.{Client, ClientStep, Ticket}
use Rattle.nq_model.specs.protocol.Hear.{hear}
use Rattle.nq_model.specs.protocol.Message.{Message, call, reply, Datagram, too_long, no_message, no_call, other_rpc, other_program, other_version}
use Rattle.nq_model.specs.protocol.Message.{unknown_procedure, garbage_vacated, garbage, request}
use Rattle.nq_xdr.specs.declared.rpc.message.CallMessage.{CallMessage}
use Rattle.nq_xdr.specs.declared.rpc.message.Message.{Message as Said}
use Rattle.nq_xdr.specs.declared.rpc.message.Message.TheVariants as said
use Rattle.nq_xdr.specs.declared.rpc.message.Outcome.{Outcome}
use Rattle.nq_xdr.specs.declared.rpc.message.Outcome.TheVariants as outcome
use Rattle.nq_xdr.specs.declared.rpc.fault.RpcFault.{RpcFault}
use Rattle.nq_xdr.specs.RpcFault.{fault_number}
use Rattle.nq_xdr.specs.RpcReading.{message_at}
use Rattle.nq_wire.specs.declared.WireFault.{WireFault}
use Rattle.nq_wire.specs.Procedure.{number_of}
use Rattle.nq_wire.specs.Reading.{request_in, reply_in}
use Rattle.nq_wire.specs.Request.{procedure_of}
use Rattle.nq_datagrams.specs.declared.to_client.Awaited.{Awaited}
use Rattle.nq_datagrams.specs.Messages.{program, version, rpc_version}

-- the most bytes of a datagram that the server looks at
abbrev pub longest_datagram : ℕ
longest_datagram = 4400

-- the numbers of VACATED, of EVICTED, which the server does not serve, and of the last procedure
abbrev pub vacated : ℕ
vacated = 8

abbrev pub evicted : ℕ
evicted = 9

abbrev pub last_procedure : ℕ
last_procedure = 11

-- ---- to the server

-- a call of a procedure that is served, by what its arguments are
abbrev pub asked_as : (xid procedure : ℕ) → Result Request WireFault → Datagram
asked_as xid procedure (Ok r) = request xid r
asked_as xid procedure (Err e) = if procedure == vacated then garbage_vacated else garbage xid

-- a call, by its numbers in the order in which they are tested
unfoldable pub called_as : CallMessage → Datagram
called_as m =
    if not (m.rpcvers == rpc_version) then other_rpc m.head.xid else (
    if not (m.head.prog == program) then other_program m.head.xid else (
    if not (m.head.vers == version) then other_version m.head.xid else (
    if m.head.procedure == evicted || nat_lt last_procedure m.head.procedure then unknown_procedure m.head.xid else
    asked_as m.head.xid m.head.procedure (request_in m.head.procedure m.arguments))))

-- what was read, if it is a message of RPC
abbrev pub read_as : Result Said RpcFault → Datagram
read_as (Err e) = no_message (fault_number e)
read_as (Ok (said.Reply r)) = no_call
read_as (Ok (said.Call m)) = called_as m

-- what a datagram is to the server
unfoldable pub datagram_in : List ℕ → Datagram
datagram_in bytes = if nat_lt longest_datagram (length bytes) then too_long else read_as (message_at bytes)

-- ---- to a client

-- a notice, where the arguments are in its grammar
abbrev pub notice_in : (xid : ℕ) → Result Request WireFault → Option Message
notice_in xid (Ok r) = Some (call xid r)
notice_in xid (Err e) = None

-- a call: of those that come to a client, EVICTED alone concerns it
unfoldable pub call_in : CallMessage → Option Message
call_in m =
    if m.rpcvers == rpc_version && m.head.prog == program && m.head.vers == version && m.head.procedure == evicted
    then notice_in m.head.xid (request_in evicted m.arguments)
    else None

-- a reply, where the results are in the grammar
abbrev pub answer_in : (xid : ℕ) → Result Reply WireFault → Option Message
answer_in xid (Ok r) = Some (reply xid r)
answer_in xid (Err e) = None

-- the number and the procedure of a request under way
abbrev pub awaited_of : Option Ticket → Option Awaited
awaited_of None = None
awaited_of (Some t) = Some (record { xid = t.xid; procedure = procedure_of t.request })

-- a reply, which names no procedure: one to the request under way is read by the procedure of that request
unfoldable pub reply_to : Option Awaited → (xid : ℕ) → Outcome → Option Message
reply_to (Some awaited) xid (outcome.Success results) =
    if xid == awaited.xid then answer_in xid (reply_in (number_of awaited.procedure) results) else None
reply_to (Some awaited) xid other = None
reply_to None xid other = None

-- what was read, if it is a message of RPC
abbrev pub heard_as : Option Awaited → Result Said RpcFault → Option Message
heard_as awaited (Err e) = None
heard_as awaited (Ok (said.Call m)) = call_in m
heard_as awaited (Ok (said.Reply r)) = reply_to awaited r.xid r.outcome

-- what a datagram is to a client that waits for this reply
unfoldable pub heard_for : Option Awaited → List ℕ → Option Message
heard_for awaited bytes = heard_as awaited (message_at bytes)

-- what a datagram is to a client with this request under way: the message that it takes in, if any
abbrev pub heard_in : Option Ticket → List ℕ → Option Message
heard_in ticket bytes = heard_for (awaited_of ticket) bytes

-- the step of a client on what it heard
abbrev pub hears : Client → (number : ℕ) → Option Message → Option ClientStep
hears c number None = None
hears c number (Some m) = hear c number m

-- the step of a client on a datagram, which is the packet of this number: None where it is ignored
abbrev pub hears_in : Client → (number : ℕ) → List ℕ → Option ClientStep
hears_in c number bytes = hears c number (heard_in c.ticket bytes)
