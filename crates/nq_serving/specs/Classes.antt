-- What kind of message a datagram is, for the counts of what comes to a server and goes from it.
use Rattle.std.specs.Prelude.{ℕ, ◌==◌, List, Option, Some, None, Result, Ok, Err, if◌then◌else◌}
use Rattle.nq_xdr.specs.declared.fault.XdrFault.{XdrFault}
use Rattle.nq_xdr.specs.declared.rpc.fault.RpcFault.{RpcFault}
use Rattle.nq_xdr.specs.declared.rpc.message.CallHead.{CallHead}
use Rattle.nq_xdr.specs.declared.rpc.message.Message.{Message}
use Rattle.nq_xdr.specs.declared.rpc.message.Outcome.{Outcome}
use Rattle.nq_xdr.specs.Reading.{word_at}
use Rattle.nq_xdr.specs.RpcReading.{message_at}
use Rattle.nq_datagrams.specs.Messages.{program}
use Rattle.nq_serving.specs.declared.traffic.classes.ClassHeard.{ClassHeard}
use Rattle.nq_serving.specs.declared.traffic.classes.ClassSaid.{ClassSaid}

-- a call, by its program and its procedure
abbrev pub call_class : CallHead → ClassHeard
call_class head = if head.prog == program then ClassHeard.Call head.procedure else ClassHeard.Strange

-- what came, by the message that was read
abbrev pub heard_as : Result Message RpcFault → ClassHeard
heard_as (Ok (Message.Call m)) = call_class m.head
heard_as (Ok (Message.Reply r)) = ClassHeard.Strange
heard_as (Err e) = ClassHeard.Strange

-- what came to a server, by its bytes
abbrev pub class_heard : List ℕ → ClassHeard
class_heard bytes = heard_as (message_at bytes)

-- the number of a word that was read
abbrev pub number_read : Result (ℕ × List ℕ) XdrFault → Option ℕ
number_read (Ok x) = Some x.0
number_read (Err e) = None

-- the number of the word behind one that was read
abbrev pub number_behind : Result (ℕ × List ℕ) XdrFault → Option ℕ
number_behind (Ok x) = number_read (word_at x.1)
number_behind (Err e) = None

-- the status in the results of a reply, behind the incarnation for which it is
unfoldable pub status_in : List ℕ → Option ℕ
status_in results = number_behind (word_at results)

-- a reply, by its status: OK, TRYLATER, FENCED, or another one
unfoldable pub status_class : ℕ → ClassSaid
status_class status =
    if status == 0 then ClassSaid.Done else (
    if status == 501 then ClassSaid.Later else (
    if status == 502 then ClassSaid.Fenced else ClassSaid.Refused))

-- a reply, by the status in its results; that to NULL has none
abbrev pub results_class : Option ℕ → ClassSaid
results_class None = ClassSaid.Done
results_class (Some status) = status_class status

-- a reply, by its outcome
abbrev pub outcome_class : Outcome → ClassSaid
outcome_class (Outcome.Success results) = results_class (status_in results)
outcome_class other = ClassSaid.Error

-- what was sent, by the message that is read
abbrev pub said_as : Result Message RpcFault → ClassSaid
said_as (Ok (Message.Call m)) = ClassSaid.Notice
said_as (Ok (Message.Reply r)) = outcome_class r.outcome
said_as (Err e) = ClassSaid.Error

-- what a server sent, by its bytes
abbrev pub class_said : List ℕ → ClassSaid
class_said bytes = said_as (message_at bytes)
