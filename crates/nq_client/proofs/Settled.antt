-- What a settled step leaves as it was, and how much it takes.
use Rattle.std.proofs.Common.{◌≡◌, ◌≤◌, ◌+◌, ℕ, Bool, true, false, not, ◌&&◌, List, length, Option, Some, None, nat_le, is_some, if◌then◌else◌, refl, arith}
use Rattle.nq_base.specs.declared.Answer.{Answer}
use Rattle.nq_base.specs.declared.Call.{Call}
use Rattle.nq_base.specs.declared.Call.TheVariants.{Create, Lookup, Attr, Read, Fetch, Write, Put, Sync, Resize, Remove}
use Rattle.nq_base.specs.declared.Value.{Value}
use Rattle.nq_model.specs.protocol.Client.{Lease, UnderWay, ClientStep, lease_on, notice_on, lets_read, lets_write, is_clean}
use Rattle.nq_model.specs.protocol.Settle.{answers, cached_body, reads_cached, after_read, settle_body, settle_read, after_write, delays, marks_written}
use Rattle.nq_model.specs.protocol.Settle.{after_delay, is_full, settle_write_in, settle_write, settle_sync, settle_put, settle_call, ticket_is_for_call}
use Rattle.nq_model.specs.protocol.Settle.{settle_under_way, settle}

-- an answer that a step gives: it tells of no want of memory, and that not all was taken in
abbrev pub is_given : Option Answer → Bool
is_given None = true
is_given (Some Answer.Memory) = false
is_given (Some Answer.Spent) = false
is_given (Some Answer.Pending) = false
is_given (Some other) = true

pub record Settled (t s : ClientStep) : Type 0 where
  pub now : s.client.now ≡ t.client.now
  pub calls : s.client.calls ≡ t.client.calls
  pub seq : s.client.seq ≡ t.client.seq
  pub xid : s.client.xid ≡ t.client.xid
  pub number : s.client.number ≤ t.client.number + 1
  pub ticket : s.client.ticket ≡ t.client.ticket
  pub push : s.client.push ≡ t.client.push
  pub sends : s.sends ≡ t.sends
  pub entries : length s.entries ≤ length t.entries + 2
  pub given : is_given t.answer ≡ true → is_given s.answer ≡ true

pub choice : {X : Type 0} (Q : X → Type 0) (b : Bool) (x y : X) → Q x → Q y → Q (if b then x else y)
choice Q true x y p q = p
choice Q false x y p q = q

same : (t : ClientStep) → Settled t t
same t = record {
  now = refl;
  calls = refl;
  seq = refl;
  xid = refl;
  number = omega arith;
  ticket = refl;
  push = refl;
  sends = refl;
  entries = omega arith;
  given = λ h. h;
}

answered : (t : ClientStep) (q : ℕ) (answer : Answer) (by : Option ℕ) → is_given (Some answer) ≡ true → Settled t (answers t q answer by)
unfolding answers
answered t q answer by given = record {
  now = refl;
  calls = refl;
  seq = refl;
  xid = refl;
  number = omega arith;
  ticket = refl;
  push = refl;
  sends = refl;
  entries = omega arith;
  given = λ h. given;
}

read : (t : ClientStep) (u : UnderWay) (file block : ℕ) (body : List ℕ) → Settled t (reads_cached t u file block body)
unfolding reads_cached answers after_read
read t u file block body = record {
  now = refl;
  calls = refl;
  seq = refl;
  xid = refl;
  number = omega arith;
  ticket = refl;
  push = refl;
  sends = refl;
  entries = omega arith;
  given = λ h. refl;
}

body-settled : (t : ClientStep) (u : UnderWay) (file block : ℕ) (o : Option (List ℕ)) → Settled t (settle_body t u file block o)
body-settled t u file block None = same t
body-settled t u file block (Some body) = read t u file block body

read-settled : (t : ClientStep) (u : UnderWay) (file block : ℕ) (o : Option Lease) → Settled t (settle_read t u file block o)
read-settled t u file block None = same t
read-settled t u file block (Some lease) =
    choice (Settled t) (lets_read t.client.now lease) _ _
    (choice (Settled t) (nat_le lease.blocks block) _ _
    (answered t u.q Answer.Range None refl)
    (body-settled t u file block (cached_body t.client file block)))
    (same t)

delayed : (t : ClientStep) (u : UnderWay) (sync : Bool) (file block : ℕ) (body : List ℕ) → Settled t (after_delay (delays t file block body) u sync)
unfolding after_write answers marks_written
delayed t u true file block body = record {
  now = refl;
  calls = refl;
  seq = refl;
  xid = refl;
  number = omega arith;
  ticket = refl;
  push = refl;
  sends = refl;
  entries = omega arith;
  given = λ h. h;
}
delayed t u false file block body = record {
  now = refl;
  calls = refl;
  seq = refl;
  xid = refl;
  number = omega arith;
  ticket = refl;
  push = refl;
  sends = refl;
  entries = omega arith;
  given = λ h. refl;
}

write_in-settled : (t : ClientStep) (u : UnderWay) (sync : Bool) (file block : ℕ) (body : List ℕ) (lease : Lease)
    → Settled t (settle_write_in t u sync file block body lease)
write_in-settled t u sync file block body lease =
    choice (Settled t) (nat_le lease.blocks block) _ _
    (answered t u.q Answer.Range None refl)
    (choice (Settled t) (is_full t.client file block) _ _
    (answered t u.q Answer.DirtyFull None refl)
    (delayed t u sync file block body))

write-settled : (t : ClientStep) (u : UnderWay) (sync : Bool) (file block : ℕ) (body : List ℕ) (o : Option Lease)
    → Settled t (settle_write t u sync file block body o)
write-settled t u sync file block body None = same t
write-settled t u sync file block body (Some lease) =
    choice (Settled t) (lets_write t.client.now lease && not (is_some (notice_on file t.client.notices)) && not u.through) _ _
    (write_in-settled t u sync file block body lease)
    (same t)

sync-settled : (t : ClientStep) (u : UnderWay) (file : ℕ) → Settled t (settle_sync t u file)
sync-settled t u file =
    choice (Settled t) (is_clean t.client file) _ _ (answered t u.q (Answer.Ok Value.Nothing) None refl) (same t)

put-settled : (t : ClientStep) (u : UnderWay) (written : Bool) (file block : ℕ) (body : List ℕ) → Settled t (settle_put t u written file block body)
put-settled t u true file block body = sync-settled t u file
put-settled t u false file block body = write-settled t u true file block body (lease_on file t.client.leases)

call-settled : (t : ClientStep) (u : UnderWay) (op : Call) → Settled t (settle_call t u op)
call-settled t u (Read file block) = read-settled t u file block (lease_on file t.client.leases)
call-settled t u (Fetch file block) = read-settled t u file block (lease_on file t.client.leases)
call-settled t u (Write file block body) = write-settled t u false file block body (lease_on file t.client.leases)
call-settled t u (Put file block body) = put-settled t u u.written file block body
call-settled t u (Sync file) = sync-settled t u file
call-settled t u (Create name blocks) = same t
call-settled t u (Lookup name) = same t
call-settled t u (Attr file) = same t
call-settled t u (Resize file blocks) = same t
call-settled t u (Remove file) = same t

under_way-settled : (t : ClientStep) (o : Option UnderWay) → Settled t (settle_under_way t o)
under_way-settled t None = same t
under_way-settled t (Some u) =
    choice (Settled t) (ticket_is_for_call t.client.ticket) _ _ (same t) (call-settled t u u.call)

-- a settled step
pub settled : (t : ClientStep) → Settled t (settle t)
settled t = under_way-settled t t.client.call
