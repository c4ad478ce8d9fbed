-- To each datagram for which the protocol names a reply a server sends exactly one, behind its notices; to any other it sends nothing.
use Rattle.std.specs.Prelude.{◌≡◌, ◌==◌, ◌&&◌, ◌++◌, ℕ, Bool, true, false, not, List, [], ◌∷◌, Option, Some, None, nat_lt, if◌then◌else◌, ⊤}
use Rattle.nq_base.specs.declared.HostRow.{HostRow}
use Rattle.nq_base.specs.declared.Reply.{Reply}
use Rattle.nq_base.specs.declared.Request.{Request}
use Rattle.nq_base.specs.declared.Row.{Row}
use Rattle.nq_base.specs.declared.Who.{Who}
use Rattle.nq_model.specs.protocol.Decide.{decide, row_after}
use Rattle.nq_model.specs.protocol.Kept.{can_be_kept, host_row}
use Rattle.nq_model.specs.protocol.Message.{Packet, Datagram, other_rpc, other_program, other_version, unknown_procedure, garbage, request, reply, error}
use Rattle.nq_model.specs.protocol.Message.{RpcError, asker, sequence_of}
use Rattle.nq_model.specs.protocol.Profile.{most_hosts}
use Rattle.nq_model.specs.protocol.Server.{Server, to_host, notices}
use Rattle.nq_model.specs.protocol.ServerStep.{receive, row_of_attach}

-- whether a procedure has a reply: all but VACATED and EVICTED
abbrev pub has_reply : Request → Bool
has_reply (Request.Vacated who file tag) = false
has_reply (Request.Evicted who file tag) = false
has_reply other = true

-- whether a request of this sequence goes out of bounds: it is later than the one that was decided last, and decided now it would
-- leave a row of its host that can not be kept, by its sequence or by the revision that it would give a file
abbrev pub goes_out : Server → Who → Request → HostRow → Option ℕ → Bool
goes_out s who r line None = false
goes_out s who r line (Some seq) =
    who.inc == line.inc && nat_lt line.seq seq && not (can_be_kept (row_after who seq (decide s who r)))

-- whether a request goes out of bounds; an ATTACH does where it is of a later incarnation, whose number can not be kept
abbrev pub is_out_of_bounds : Server → Who → Request → HostRow → Bool
is_out_of_bounds s who (Request.Attach w) line = nat_lt line.inc who.inc && not (can_be_kept (row_of_attach who))
is_out_of_bounds s who other line = goes_out s who other line (sequence_of other)

-- whether an incarnation is owed a reply: not one that is older than the kept one, and none to a request that goes out of bounds
abbrev pub owes_incarnation : Server → Who → Request → HostRow → Bool
owes_incarnation s who r line =
    if nat_lt who.inc line.inc then false else has_reply r && not (is_out_of_bounds s who r line)

-- whether a request is owed a reply: NULL is; another one is where he who asks is the sender and a host that there can be
abbrev pub owes_request : Server → (sender : ℕ) → Request → Option Who → Bool
owes_request s sender r None = true
owes_request s sender r (Some who) =
    if who.host == sender && nat_lt who.host most_hosts then owes_incarnation s who r (host_row s.kept who.host) else false

-- whether a datagram is owed a reply: not what is too long, no message, no call, or a VACATED outside its grammar; a call that is
-- not served is owed an error (RFC 1057 section 8)
abbrev pub owes : Server → (sender : ℕ) → Datagram → Bool
owes s sender (other_rpc xid) = true
owes s sender (other_program xid) = true
owes s sender (other_version xid) = true
owes s sender (unknown_procedure xid) = true
owes s sender (garbage xid) = true
owes s sender (request xid r) = owes_request s sender r (asker r)
owes s sender other = false

-- a datagram that there can be: EVICTED is no procedure that a server serves, so its datagram is one of an unknown procedure
abbrev pub CanBe : Datagram → Type 0
CanBe (request xid (Request.Evicted who file tag)) = ⊥
CanBe other = ⊤

-- the packet is a reply of RPC to a host, with a result or an error
pub data IsReply (p : Packet) : Type 0 where
  brings_result : (host xid : ℕ) (r : Reply) → p ≡ to_host host (reply xid r) → IsReply p
  brings_error : (host xid : ℕ) (e : RpcError) → p ≡ to_host host (error xid e) → IsReply p

-- what is sent are notices for some rows, and one reply behind them
pub record IsReplied (s : Server) (sends : List Packet) : Type 0 where
  pub rows : List Row
  pub answer : Packet
  pub is : sends ≡ notices s.notice rows ++ answer ∷ []
  pub replies : IsReply answer

-- a datagram that is owed a reply gets exactly one, and another one gets nothing
pub record AnswersAsOwed (s : Server) (sender next : ℕ) (d : Datagram) : Type 0 where
  pub owed : owes s sender d ≡ true → IsReplied s (receive s sender next d).sends
  pub unowed : owes s sender d ≡ false → (receive s sender next d).sends ≡ []

-- so it is for every server, every sender and every datagram
abbrev pub RepliesAreOwed : Type 0
RepliesAreOwed = (s : Server) (sender next : ℕ) (d : Datagram) → CanBe d → AnswersAsOwed s sender next d
