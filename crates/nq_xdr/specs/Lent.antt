-- Messages whose arguments or results are lent.
use Rattle.nq_xdr.specs.declared.rpc.lent.LentMessage.{LentMessage}
use Rattle.nq_xdr.specs.declared.rpc.lent.LentOutcome.{LentOutcome}
use Rattle.nq_xdr.specs.declared.rpc.message.Message.{Message}
use Rattle.nq_xdr.specs.declared.rpc.message.Outcome.{Outcome}

-- what became of a call, with the results that are lent
abbrev pub lent_outcome : LentOutcome → Outcome
lent_outcome (LentOutcome.Success results) = Outcome.Success results.now
lent_outcome LentOutcome.ProgUnavail = Outcome.ProgUnavail
lent_outcome (LentOutcome.ProgMismatch low high) = Outcome.ProgMismatch low high
lent_outcome LentOutcome.ProcUnavail = Outcome.ProcUnavail
lent_outcome LentOutcome.GarbageArgs = Outcome.GarbageArgs
lent_outcome (LentOutcome.RpcMismatch low high) = Outcome.RpcMismatch low high
lent_outcome (LentOutcome.AuthError stat) = Outcome.AuthError stat

-- the message, with the arguments or results that are lent
abbrev pub lent_message : LentMessage → Message
lent_message (LentMessage.Call m) = Message.Call (record { head = m.head; rpcvers = m.rpcvers; arguments = m.arguments.now })
lent_message (LentMessage.Reply r) = Message.Reply (record { xid = r.xid; outcome = lent_outcome r.outcome })
