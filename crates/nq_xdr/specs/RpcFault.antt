-- What is wrong with bytes that are no message: where in a message they go wrong, and how.
use Rattle.std.specs.Prelude.{◌≡◌, ℕ, ◌*◌, ◌^◌, ◌<◌, ◌⊎◌, List, [], ◌++◌, length}
use Rattle.nq_xdr.specs.Item.{word}
use Rattle.nq_xdr.specs.Fault.{BeginsWithWord, IsOpaqueFault}
use Rattle.nq_xdr.specs.declared.fault.XdrFault.TheVariants as xdr
use Rattle.nq_xdr.specs.declared.rpc.fault.RpcFault.{RpcFault}
use Rattle.nq_xdr.specs.declared.rpc.fault.RpcFault.TheVariants.{Short, BadKind, BadAuth, Xdr, Memory}
use Rattle.nq_xdr.specs.declared.rpc.message.CallMessage.{CallMessage}
use Rattle.nq_xdr.specs.declared.rpc.message.Outcome.{Outcome}
use Rattle.nq_xdr.specs.declared.rpc.message.Message.{Message}
use Rattle.nq_xdr.specs.Message.{Auth, IsAuth, auth, numbers, outcome, IsCall, IsOutcome, IsError, IsSpelled}

-- the number of a fault
abbrev pub fault_number : RpcFault → ℕ
fault_number Short = 1
fault_number BadKind = 2
fault_number BadAuth = 3
fault_number Xdr = 4
fault_number Memory = 5

-- what comes next in a message
pub data Next : Type 0 where
  -- so many numbers, of any value
  Numbers : ℕ → Next
  -- a number to which RFC 1057 gives meanings from 0 to this one
  Choice : ℕ → Next
  -- a credential or a verifier
  Authentication : Next
  -- nothing more
  End : Next

-- the bytes have this fault where that should come next
abbrev pub IsItemFault : Next → List ℕ → RpcFault → Type 0
IsItemFault (Numbers count) rest Short = length rest < 4 * count
IsItemFault (Choice top) rest Short = length rest < 4
IsItemFault (Choice top) rest BadKind = BeginsWithWord rest (λ n _. top < n)
IsItemFault Authentication rest Short = (length rest < 4) ⊎ BeginsWithWord rest (λ _ body. IsOpaqueFault 400 body xdr.Short)
IsItemFault Authentication rest BadAuth = BeginsWithWord rest (λ _ body. IsOpaqueFault 400 body xdr.TooLong)
IsItemFault Authentication rest Xdr = BeginsWithWord rest (λ _ body. IsOpaqueFault 400 body xdr.Pad)
IsItemFault End rest Xdr = 0 < length rest
IsItemFault _ rest _ = ⊥

-- a place in a reply, behind its xid and its message type: what was said up to there
pub data ReplyPlace : Type 0 where
  ReplyStat : ReplyPlace
  ReplyVerifier : ReplyPlace
  AcceptStat : Auth → ReplyPlace
  ProgramVersions : Auth → ReplyPlace
  RejectStat : ReplyPlace
  RpcVersions : ReplyPlace
  AuthStat : ReplyPlace
  EndOfReply : Outcome → Auth → ReplyPlace

-- a place in a message: what was said up to there
pub data Place : Type 0 where
  Xid : Place
  MessageType : ℕ → Place
  CallNumbers : ℕ → Place
  Credential : CallMessage → Place
  Verifier : CallMessage → Auth → Place
  InReply : ℕ → ReplyPlace → Place

-- the bytes of a reply up to a place (RFC 1057 section 8)
unfoldable pub reply_front : ReplyPlace → List ℕ
reply_front ReplyStat = []
reply_front ReplyVerifier = word 0
reply_front (AcceptStat verifier) = word 0 ++ auth verifier
reply_front (ProgramVersions verifier) = word 0 ++ auth verifier ++ word 2
reply_front RejectStat = word 1
reply_front RpcVersions = word 1 ++ word 0
reply_front AuthStat = word 1 ++ word 1
reply_front (EndOfReply error verifier) = outcome error verifier

-- what comes next at a place of a reply
abbrev pub reply_next : ReplyPlace → Next
reply_next ReplyStat = Choice 1
reply_next ReplyVerifier = Authentication
reply_next (AcceptStat verifier) = Choice 4
reply_next (ProgramVersions verifier) = Numbers 2
reply_next RejectStat = Choice 1
reply_next RpcVersions = Numbers 2
reply_next AuthStat = Numbers 1
reply_next (EndOfReply error verifier) = End

-- the bytes of a message up to a place (RFC 1057 section 8)
unfoldable pub front : Place → List ℕ
front Xid = []
front (MessageType xid) = word xid
front (CallNumbers xid) = word xid ++ word 0
front (Credential m) = numbers m
front (Verifier m credential) = numbers m ++ auth credential
front (InReply xid place) = word xid ++ word 1 ++ reply_front place

-- what comes next at a place of a message
abbrev pub next : Place → Next
next Xid = Numbers 1
next (MessageType xid) = Choice 1
next (CallNumbers xid) = Numbers 4
next (Credential m) = Authentication
next (Verifier m credential) = Authentication
next (InReply xid place) = reply_next place

-- what was said up to a place of a reply is well formed
abbrev pub IsReplyPlace : ReplyPlace → Type 0
IsReplyPlace (AcceptStat verifier) = IsAuth verifier
IsReplyPlace (ProgramVersions verifier) = IsAuth verifier
IsReplyPlace (EndOfReply error verifier) = IsError error × IsOutcome error × IsAuth verifier
IsReplyPlace _ = Unit {0}

-- what was said up to a place of a message is well formed
abbrev pub IsPlace : Place → Type 0
IsPlace Xid = Unit {0}
IsPlace (MessageType xid) = xid < 2 ^ 32
IsPlace (CallNumbers xid) = xid < 2 ^ 32
IsPlace (Credential m) = IsCall m
IsPlace (Verifier m credential) = IsCall m × IsAuth credential
IsPlace (InReply xid place) = (xid < 2 ^ 32) × IsReplyPlace place

-- the bytes are a well-formed reply up to a place, and have the fault there
abbrev pub IsReplyFault : List ℕ → RpcFault → Type 0
IsReplyFault bytes fault =
    (place : ReplyPlace) × ((rest : List ℕ) × (IsReplyPlace place × (bytes ≡ reply_front place ++ rest) × IsItemFault (reply_next place) rest fault))

-- the bytes are a well-formed message up to a place, and have the fault there
abbrev pub IsMessageFault : List ℕ → RpcFault → Type 0
IsMessageFault bytes fault =
    (place : Place) × ((rest : List ℕ) × (IsPlace place × (bytes ≡ front place ++ rest) × IsItemFault (next place) rest fault))

-- the bytes have the fault, or they are a message for which memory was wanted
abbrev pub IsDecodeFault : List ℕ → RpcFault → Type 0
IsDecodeFault bytes Memory = (message : Message) × IsSpelled message bytes
IsDecodeFault bytes fault = IsMessageFault bytes fault
