-- RPC messages as bytes, by RFC 1057 sections 7.2 and 8: one spelling for each credential and verifier.
use Rattle.std.specs.Prelude.{◌≡◌, ℕ, ◌+◌, ◌^◌, ◌<◌, ◌≤◌, List, [], ◌++◌, length}
use Rattle.nq_xdr.specs.Item.{word, opaque}
use Rattle.nq_xdr.specs.declared.rpc.message.CallMessage.{CallMessage}
use Rattle.nq_xdr.specs.declared.rpc.message.CallHead.{CallHead}
use Rattle.nq_xdr.specs.declared.rpc.message.Outcome.{Outcome}
use Rattle.nq_xdr.specs.declared.rpc.message.Outcome.TheVariants.{Success, ProgUnavail, ProgMismatch, ProcUnavail, GarbageArgs, RpcMismatch, AuthError}
use Rattle.nq_xdr.specs.declared.rpc.message.Message.{Message}
use Rattle.nq_xdr.specs.declared.rpc.message.Message.TheVariants.{Call, Reply}

-- a credential or a verifier (section 7.2)
pub record Auth : Type 0 where
  pub flavor : ℕ
  pub body : List ℕ

-- a flavor is a word, and a body has at most 400 bytes
pub record IsAuth (a : Auth) : Type 0 where
  pub flavor : a.flavor < 2 ^ 32
  pub body : length a.body ≤ 400

-- a credential or a verifier: its flavor and its body
unfoldable pub auth : Auth → List ℕ
auth a = word a.flavor ++ opaque a.body

-- AUTH_NULL: flavor 0 and no body (section 9.1)
abbrev pub null : Auth
null = record { flavor = 0; body = [] }

-- what a call says before its credential
unfoldable pub numbers : CallMessage → List ℕ
numbers m =
    word m.head.xid ++ word 0 ++ word m.rpcvers ++ word m.head.prog ++ word m.head.vers ++ word m.head.procedure

-- what a reply says behind its xid and its message type, with the verifier where it was accepted
unfoldable pub outcome : Outcome → Auth → List ℕ
outcome (Success results) verifier = word 0 ++ auth verifier ++ word 0 ++ results
outcome ProgUnavail verifier = word 0 ++ auth verifier ++ word 1
outcome (ProgMismatch low high) verifier = word 0 ++ auth verifier ++ word 2 ++ word low ++ word high
outcome ProcUnavail verifier = word 0 ++ auth verifier ++ word 3
outcome GarbageArgs verifier = word 0 ++ auth verifier ++ word 4
outcome (RpcMismatch low high) verifier = word 1 ++ word 0 ++ word low ++ word high
outcome (AuthError stat) verifier = word 1 ++ word 1 ++ word stat

-- the bytes of a message with this credential and this verifier
unfoldable pub spelling : Message → Auth → Auth → List ℕ
spelling (Call m) credential verifier = numbers m ++ auth credential ++ auth verifier ++ m.arguments
spelling (Reply r) credential verifier = word r.xid ++ word 1 ++ outcome r.outcome verifier

-- a call of version 2 of RPC with these arguments
abbrev pub call_with : CallHead → List ℕ → Message
call_with head arguments = Call (record { head = head; rpcvers = 2; arguments = arguments })

-- a reply with these results
abbrev pub reply_with : (xid : ℕ) → List ℕ → Message
reply_with xid results = Reply (record { xid = xid; outcome = Success results })

-- ---- what has a spelling

-- the numbers of a call are words
pub record IsCall (m : CallMessage) : Type 0 where
  pub xid : m.head.xid < 2 ^ 32
  pub rpcvers : m.rpcvers < 2 ^ 32
  pub prog : m.head.prog < 2 ^ 32
  pub vers : m.head.vers < 2 ^ 32
  pub procedure : m.head.procedure < 2 ^ 32

-- the numbers of an outcome are words
abbrev pub IsOutcome : Outcome → Type 0
IsOutcome (ProgMismatch low high) = (low < 2 ^ 32) × (high < 2 ^ 32)
IsOutcome (RpcMismatch low high) = (low < 2 ^ 32) × (high < 2 ^ 32)
IsOutcome (AuthError stat) = stat < 2 ^ 32
IsOutcome _ = Unit {0}

-- the outcome has no results, and nothing stands behind it
abbrev pub IsError : Outcome → Type 0
IsError (Success results) = ⊥
IsError _ = Unit {0}

-- the numbers of a message are words
abbrev pub IsMessage : Message → Type 0
IsMessage (Call m) = IsCall m
IsMessage (Reply r) = (r.xid < 2 ^ 32) × IsOutcome r.outcome

-- the bytes are the message, with this credential and this verifier
pub record Spells (message : Message) (credential verifier : Auth) (bytes : List ℕ) : Type 0 where
  pub message_fits : IsMessage message
  pub credential_fits : IsAuth credential
  pub verifier_fits : IsAuth verifier
  pub bytes_are : bytes ≡ spelling message credential verifier

-- the bytes are the message, with some credential and some verifier
abbrev pub IsSpelled : Message → List ℕ → Type 0
IsSpelled message bytes = (credential : Auth) × ((verifier : Auth) × Spells message credential verifier bytes)

-- ---- how long a message is that is written with AUTH_NULL

-- how many bytes an outcome takes behind xid and message type
abbrev pub outcome_len : Outcome → ℕ
outcome_len (Success results) = 16 + length results
outcome_len ProgUnavail = 16
outcome_len (ProgMismatch low high) = 24
outcome_len ProcUnavail = 16
outcome_len GarbageArgs = 16
outcome_len (RpcMismatch low high) = 16
outcome_len (AuthError stat) = 12

-- how many bytes the message takes
abbrev pub spelling_len : Message → ℕ
spelling_len (Call m) = 40 + length m.arguments
spelling_len (Reply r) = 8 + outcome_len r.outcome
