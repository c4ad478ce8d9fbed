-- The messages of staged writes as bytes: each has one spelling with AUTH_NULL. A STAGE sends a body ahead, as an UNSTABLE
-- write does (RFC 1813 section 3.3.7), and a COMMIT stands for the push of that body (section 3.3.21).
use Rattle.std.specs.Prelude.{ℕ, ◌^◌, ◌<◌, List, ◌++◌, Some}
use Rattle.nq_base.specs.declared.Request.{Request}
use Rattle.nq_base.specs.declared.Request.TheVariants.{Write}
use Rattle.nq_datagrams.specs.Messages.{program, version, bytes_of}
use Rattle.nq_model.specs.protocol.Message.{call}
use Rattle.nq_xdr.specs.declared.rpc.message.CallHead.{CallHead}
use Rattle.nq_xdr.specs.Message.{spelling, call_with, reply_with, null}
use Rattle.nq_wire.specs.Parts.{head, base_bytes, IsPushBase}
use Rattle.nq_xdr.specs.Item.{word, hyper, opaque}
use Rattle.nq_stage.specs.declared.messages.Pushed.{Pushed}
use Rattle.nq_stage.specs.declared.messages.Written.{Written}

-- the number of the procedure COMMIT
abbrev pub commit : ℕ
commit = 12

-- the number of the procedure STAGE
abbrev pub stage : ℕ
stage = 14

-- the status of a COMMIT whose body the server does not have
abbrev pub unstaged : ℕ
unstaged = 505

-- what a call of a procedure of the program begins with
abbrev pub head_of : (xid procedure : ℕ) → CallHead
head_of xid procedure = record { xid = xid; prog = program; vers = version; procedure = procedure }

-- ---- STAGE and its reply

-- which write a body is of: the host and its incarnation, the file, the block, and the number of the write
unfoldable pub written_bytes : Written → List ℕ
written_bytes w = word w.host ++ word w.inc ++ word w.file ++ word w.block ++ hyper w.last

-- a STAGE: which write the body is of, and the body
unfoldable pub stage_bytes : (xid : ℕ) → Written → (body : List ℕ) → List ℕ
stage_bytes xid w body = spelling (call_with (head_of xid stage) (written_bytes w ++ opaque body)) null null

-- the reply to a STAGE: the incarnation that asked, the status OK, and the verifier
unfoldable pub staged_bytes : (xid inc verifier : ℕ) → List ℕ
staged_bytes xid inc verifier = spelling (reply_with xid (word inc ++ word 0 ++ word verifier)) null null

-- ---- COMMIT, what it stands for, and its reply where the server does not have the body

-- what a push and its COMMIT begin with
unfoldable pub pushed_bytes : Pushed → List ℕ
pushed_bytes p = head p.who ++ hyper p.seq ++ word p.file ++ word p.block ++ hyper p.first ++ hyper p.last

-- a COMMIT: the push without its body, and the verifier in place of the body
unfoldable pub commit_bytes : Pushed → (verifier : ℕ) → List ℕ
commit_bytes p verifier =
    spelling (call_with (head_of p.xid commit) (pushed_bytes p ++ base_bytes p.base ++ word verifier)) null null

-- the request that a push with this body is
abbrev pub write_of : Pushed → (body : List ℕ) → Request
write_of p body = Write p.who p.seq p.file p.block p.first p.last (Some p.base) body

-- the WRITE that a push with this body is
abbrev pub write_bytes : Pushed → (body : List ℕ) → List ℕ
write_bytes p body = bytes_of (call p.xid (write_of p body))

-- the write whose body a push brings
abbrev pub written_of : Pushed → Written
written_of p = record { host = p.who.host; inc = p.who.inc; file = p.file; block = p.block; last = p.last }

-- the reply to a COMMIT whose body the server does not have: the incarnation that asked, and the status
unfoldable pub unstaged_bytes : (xid inc : ℕ) → List ℕ
unstaged_bytes xid inc = spelling (reply_with xid (word inc ++ word unstaged)) null null

-- ---- what every value of these types is

-- the numbers of a write are words and hyper integers
pub record IsWritten (w : Written) : Type 0 where
  pub host : w.host < 2 ^ 32
  pub inc : w.inc < 2 ^ 32
  pub file : w.file < 2 ^ 32
  pub block : w.block < 2 ^ 32
  pub last : w.last < 2 ^ 64

-- so are the numbers with which a push and its COMMIT begin
pub record IsFront (p : Pushed) : Type 0 where
  pub host : p.who.host < 2 ^ 32
  pub inc : p.who.inc < 2 ^ 32
  pub seq : p.seq < 2 ^ 64
  pub file : p.file < 2 ^ 32
  pub block : p.block < 2 ^ 32
  pub first : p.first < 2 ^ 64
  pub last : p.last < 2 ^ 64

-- and all numbers of a push
pub record IsPushed (p : Pushed) : Type 0 where
  pub xid : p.xid < 2 ^ 32
  pub front : IsFront p
  pub base : IsPushBase p.base
