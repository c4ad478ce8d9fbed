-- A datagram that is a request is the call of that request.
use Rattle.std.proofs.Common.{◌≡◌, ℕ}
use Rattle.nq_base.specs.declared.Request.{Request}
use Rattle.nq_model.specs.protocol.Message.{Message, call, reply, error, request, datagram_of, datagram_of_call}

-- a datagram that is a request is that call
call-of : (xid x : ℕ) (r q : Request) → datagram_of_call x q ≡ request xid r → Message.call x q ≡ Message.call xid r
call-of xid x r (Request.Evicted who file tag) e = absurd (cc)
call-of xid x r Request.Null e = cc
call-of xid x r (Request.Attach who) e = cc
call-of xid x r (Request.Lookup who name) e = cc
call-of xid x r (Request.Create who seq name blocks) e = cc
call-of xid x r (Request.GetAttr who file) e = cc
call-of xid x r (Request.Read who q file block want) e = cc
call-of xid x r (Request.Write who seq file block first last push body) e = cc
call-of xid x r (Request.GetLease who file want) e = cc
call-of xid x r (Request.Vacated who file tag) e = cc
call-of xid x r (Request.Resize who seq q file blocks) e = cc
call-of xid x r (Request.Remove who seq q file) e = cc

pub message-of : (m : Message) (xid : ℕ) (r : Request) → datagram_of m ≡ request xid r → m ≡ Message.call xid r
message-of (call x q) xid r e = call-of xid x r q e
message-of (reply x a) xid r e = absurd (cc)
message-of (error x a) xid r e = absurd (cc)
