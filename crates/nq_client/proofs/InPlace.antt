-- The call under way is settled, and asks, where it stands in the client.
use Rattle.std.proofs.Common.{◌≡◌, ℕ, Bool, true, false, not, ◌&&◌, List, Option, Some, None, nat_le, is_some, if◌then◌else◌, ◌⊎◌, inl, inr, refl}
use Rattle.std.proofs.Common.{sym, ap, ◌∙◌}
use Rattle.std.specs.Option.{option_map}
use Rattle.nq_base.specs.declared.Answer.{Answer}
use Rattle.nq_base.specs.declared.Call.{Call}
use Rattle.nq_client_parts.specs.Calls.{body_of_call}
use Rattle.nq_client.specs.Settling.{called_body, goes_on_delayed, settles_body, settles_put, settles_read, settles_write, with_written}
use Rattle.nq_client.specs.State.{under_way}
use Rattle.nq_client.specs.declared.state.UnderWay as code
use Rattle.nq_model.specs.protocol.Client.{ClientStep, Lease, UnderWay, in_state, lease_on, lets_read, lets_write, notice_on}
use Rattle.nq_model.specs.protocol.Settle.{after_delay, after_write, answers, cached_body, delays, is_full, marks_written, reads_cached, settle, settle_body}
use Rattle.nq_model.specs.protocol.Settle.{settle_call, settle_put, settle_read, settle_under_way, settle_write, ticket_is_for_call}

body-in-place : (t : ClientStep) (u : UnderWay) (file block : ℕ) (o : Option (List ℕ)) → settles_body t u.q file block o ≡ settle_body t u file block o
unfolding reads_cached
body-in-place t u file block None = refl
body-in-place t u file block (Some body) = refl

read-in-place : (t : ClientStep) (u : UnderWay) (file block : ℕ) (o : Option Lease) → settles_read t u.q file block o ≡ settle_read t u file block o
read-in-place t u file block None = refl
read-in-place t u file block (Some lease) =
    ap (λ (s : ClientStep). if lets_read t.client.now lease then (if nat_le lease.blocks block then answers t u.q Answer.Range None else s) else t)
    (body-in-place t u file block (cached_body t.client file block))

delay-in-place : (t : ClientStep) (u : UnderWay) (sync : Bool) (file block : ℕ) (body : List ℕ) → t.client.call ≡ Some u
    → goes_on_delayed (delays t file block body) u.q sync ≡ after_delay (delays t file block body) u sync
unfolding after_write marks_written
delay-in-place t u false file block body e = refl
delay-in-place t u true file block body e =
    ap (λ (o : Option UnderWay). in_state (delays t file block body) (record (delays t file block body).client { call = with_written o })) e

pub write-in-place : (t : ClientStep) (u : UnderWay) (sync : Bool) (file block : ℕ) (body : List ℕ) (o : Option Lease) → t.client.call ≡ Some u
    → settles_write t u.q u.through sync file block body o ≡ settle_write t u sync file block body o
write-in-place t u sync file block body None e = refl
write-in-place t u sync file block body (Some lease) e =
    ap (λ (s : ClientStep). if lets_write t.client.now lease && not (is_some (notice_on file t.client.notices)) && not u.through
    then (if nat_le lease.blocks block then answers t u.q Answer.Range None else (if is_full t.client file block then answers t u.q
    Answer.DirtyFull None else s)) else t)
    (delay-in-place t u sync file block body e)

put-written : (t : ClientStep) (u : UnderWay) (written : Bool) (file block : ℕ) (body : List ℕ) → t.client.call ≡ Some u → settles_put t u.q written
    u.through file block body ≡ settle_put t u written file block body
put-written t u true file block body e = refl
put-written t u false file block body e = write-in-place t u true file block body (lease_on file t.client.leases) e

pub put-in-place : (t : ClientStep) (u : UnderWay) (file block : ℕ) (body : List ℕ) → t.client.call ≡ Some u → settles_put t u.q u.written u.through
    file block body ≡ settle_put t u u.written file block body
put-in-place t u file block body e = put-written t u u.written file block body e

not-its-own : (b : Bool) (t s : ClientStep) → b ≡ false → s ≡ (if b then t else s)
not-its-own true t s h = absurd cc
not-its-own false t s h = refl

-- a call whose own request is under way needs nothing
pub settled-own : (t : ClientStep) → ticket_is_for_call t.client.ticket ≡ true → t ≡ settle t
settled-own t h = by t.client.call
  where
    by : (o : Option UnderWay) → t ≡ settle_under_way t o
    by None = refl
    by (Some u) = rw h refl

-- the block of the call under way, by what it is
pub called-body : (t : ClientStep) (u : UnderWay) (k : Call) → t.client.call ≡ Some u → u.call ≡ k → called_body t.client.call ≡ body_of_call k
called-body t u k e h = ap called_body e ∙ ap body_of_call h

-- the call under way, by what it is, where the request under way is not its own
pub settled-as : (t : ClientStep) (o : Option code.UnderWay) (u : code.UnderWay) (k : Call) → t.client.call ≡ option_map under_way o → o ≡ Some u
    → u.call ≡ k → ticket_is_for_call t.client.ticket ≡ false → settle_call t (under_way u) k ≡ settle t
settled-as t o u k f e h free =
    ap (settle_call t (under_way u)) (sym h)
    ∙ not-its-own (ticket_is_for_call t.client.ticket) t (settle_call t (under_way u) u.call) free
    ∙ sym (ap (settle_under_way t) (f ∙ ap (option_map under_way) e))

-- a read under way, with or without a want
pub settled-read : (t : ClientStep) (o : Option code.UnderWay) (u : code.UnderWay) (file block : ℕ) → t.client.call ≡ option_map under_way o
    → o ≡ Some u → (u.call ≡ Call.Read file block) ⊎ (u.call ≡ Call.Fetch file block) → ticket_is_for_call t.client.ticket ≡ false
    → settles_read t u.q file block (lease_on file t.client.leases) ≡ settle t
settled-read t o u file block f e (inl h) free =
    read-in-place t (under_way u) file block (lease_on file t.client.leases) ∙ settled-as t o u (Call.Read file block) f e h free
settled-read t o u file block f e (inr h) free =
    read-in-place t (under_way u) file block (lease_on file t.client.leases) ∙ settled-as t o u (Call.Fetch file block) f e h free
