-- What a step leaves as it was that sends a request, and how much it takes.
use Rattle.std.proofs.Common.{◌≡◌, ◌≤◌, ◌+◌, ◌==◌, ◌⊎◌, inl, inr, ℕ, Bool, true, false, ◌||◌, List, Option, Some, None, nat_le, is_some, IsTrue}
use Rattle.std.proofs.Common.{if◌then◌else◌, refl, sym, subst, arith}
use Rattle.std.proofs.lemmas.Bool.Decides.{nat_tests}
use Rattle.nq_base.specs.declared.Call.{Call}
use Rattle.nq_base.specs.declared.Call.TheVariants.{Create, Lookup, Attr, Read, Fetch, Write, Put, Sync, Resize, Remove}
use Rattle.nq_base.specs.declared.Mode.{Mode}
use Rattle.nq_base.specs.declared.Push.{Push}
use Rattle.nq_base.specs.declared.Request.{Request}
use Rattle.nq_client.specs.Tied.{TiedFor, Tied}
use Rattle.nq_client.proofs.Settled.{choice}
use Rattle.nq_model.specs.protocol.Client.{Lease, UnderWay, Job, for_call, renewing, pushing, Ticket, ClientStep, lease_on, first_dirty, is_clean}
use Rattle.nq_model.specs.protocol.Send.{sends_request, after_seq, after_number, base_of, takes_push, pushes_these, noticed_file, ending_file, want_of}
use Rattle.nq_model.specs.protocol.Send.{shares_live, read_want, sends_write, next_write, next_put, gives_up, next_change, asks, next_of_call}
use Rattle.nq_model.specs.protocol.Send.{next_of_under_way, renews_lease, renews, renewed_file, is_asking, then_renews, then_calls, pushes_due, then_pushes}
use Rattle.nq_model.specs.protocol.Send.{then_ending, send_next}

-- no request was under way, and one is now
record Sends (t s : ClientStep) : Type 0 where
  idle : is_asking t ≡ false
  asking : is_asking s ≡ true
  now : s.client.now ≡ t.client.now
  calls : s.client.calls ≡ t.client.calls
  seq : s.client.seq ≤ t.client.seq + 1
  number : s.client.number ≤ t.client.number + 1
  xid : s.client.xid ≤ t.client.xid + 1
  entries : s.entries ≡ t.entries
  answer : s.answer ≡ t.answer
  tied : t.client.push ≡ None → Tied s.client.ticket s.client.push

-- a step that has taken the numbers of a request
record IsReady (t s : ClientStep) : Type 0 where
  now : s.client.now ≡ t.client.now
  calls : s.client.calls ≡ t.client.calls
  seq : s.client.seq ≤ t.client.seq + 1
  number : s.client.number ≤ t.client.number + 1
  xid : s.client.xid ≡ t.client.xid
  entries : s.entries ≡ t.entries
  answer : s.answer ≡ t.answer

-- nothing was done, or a request was sent
abbrev Stage : (t s : ClientStep) → Type 0
Stage t s = (s ≡ t) ⊎ Sends t s

sent : (t s : ClientStep) (job : Job) (request : Request) → is_asking t ≡ false → IsReady t s
    → (t.client.push ≡ None → TiedFor job request s.client.push) → Sends t (sends_request s job request)
unfolding sends_request
sent t s job request idle ready tied = record {
  idle = idle;
  asking = refl;
  now = ready.now;
  calls = ready.calls;
  seq = ready.seq;
  number = ready.number;
  xid = let e = ready.xid in omega arith;
  entries = ready.entries;
  answer = ready.answer;
  tied = tied;
}

ready : (t : ClientStep) → IsReady t t
ready t = record {
  now = refl;
  calls = refl;
  seq = omega arith;
  number = omega arith;
  xid = refl;
  entries = refl;
  answer = refl;
}

ready-seq : (t : ClientStep) → IsReady t (after_seq t)
unfolding after_seq
ready-seq t = record {
  now = refl;
  calls = refl;
  seq = omega arith;
  number = omega arith;
  xid = refl;
  entries = refl;
  answer = refl;
}

ready-number : (t : ClientStep) → IsReady t (after_number t)
unfolding after_number
ready-number t = record {
  now = refl;
  calls = refl;
  seq = omega arith;
  number = omega arith;
  xid = refl;
  entries = refl;
  answer = refl;
}

ready-change : (t : ClientStep) (file : ℕ) → IsReady t (after_seq (gives_up t file))
unfolding after_seq gives_up
ready-change t file = record {
  now = refl;
  calls = refl;
  seq = omega arith;
  number = omega arith;
  xid = refl;
  entries = refl;
  answer = refl;
}

ready-push : (t : ClientStep) (p : Push) → IsReady t (after_seq (takes_push t p))
unfolding after_seq takes_push
ready-push t p = record {
  now = refl;
  calls = refl;
  seq = omega arith;
  number = omega arith;
  xid = refl;
  entries = refl;
  answer = refl;
}

own : (n : ℕ) → IsTrue (n == n)
own n = grind (arith, nat_tests)

-- a request of the call that takes no number
plain : (t : ClientStep) (request : Request) → is_asking t ≡ false → Stage t (sends_request t for_call request)
plain t request idle = inr (sent t t for_call request idle (ready t) (λ h. h))

in_order : (t : ClientStep) (request : Request) → is_asking t ≡ false → Stage t (sends_request (after_seq t) for_call request)
unfolding after_seq
in_order t request idle = inr (sent t (after_seq t) for_call request idle (ready-seq t) (λ h. h))

changes : (t : ClientStep) (file : ℕ) (request : Request) → is_asking t ≡ false → Stage t (sends_request (after_seq (gives_up t file)) for_call request)
unfolding after_seq gives_up
changes t file request idle = inr (sent t (after_seq (gives_up t file)) for_call request idle (ready-change t file) (λ h. h))

writes : (t : ClientStep) (file block : ℕ) (body : List ℕ) → is_asking t ≡ false → Stage t (sends_write t file block body)
unfolding after_number
writes t file block body idle =
    inr (sent t (after_number t) for_call (Request.Write t.client.who t.client.seq file block t.client.number t.client.number None body) idle
    (ready-number t) (λ h. h))

quiet : (t : ClientStep) → Stage t t
quiet t = inl refl

pushed : (t : ClientStep) (o : Option Push) → is_asking t ≡ false → Stage t (pushes_these t o)
unfolding after_seq takes_push
pushed t None idle = inl refl
pushed t (Some p) idle =
    inr (sent t (after_seq (takes_push t p)) pushing (Request.Write t.client.who t.client.seq p.file p.block p.first p.last
    (Some (base_of t.client p.file)) p.body) idle (ready-push t p) (λ h. own p.file))

written : (t : ClientStep) (u : UnderWay) (file block : ℕ) (body : List ℕ) → is_asking t ≡ false → Stage t (next_write t u file block body)
written t u file block body idle =
    choice (Stage t) (u.through || shares_live t.client.now (lease_on file t.client.leases)) _ _
    (writes t file block body idle)
    (plain t (Request.GetLease t.client.who file (want_of t.client Mode.Writing)) idle)

put : (t : ClientStep) (delayed may_ask : Bool) (file block : ℕ) (body : List ℕ) → is_asking t ≡ false → Stage t (next_put t delayed may_ask file block body)
put t true may_ask file block body idle = pushed t (first_dirty file t.client.dirty) idle
put t false true file block body idle = writes t file block body idle
put t false false file block body idle = quiet t

changed : (t : ClientStep) (may_ask : Bool) (file : ℕ) (request : Request) → is_asking t ≡ false → Stage t (next_change t may_ask file request)
changed t may_ask file request idle =
    choice (Stage t) (is_clean t.client file) _ _
    (choice (Stage t) may_ask _ _ (changes t file request idle) (quiet t))
    (pushed t (first_dirty file t.client.dirty) idle)

asked : (t : ClientStep) (may_ask : Bool) (request : Request) → is_asking t ≡ false → Stage t (asks t may_ask request)
asked t true request idle = plain t request idle
asked t false request idle = quiet t

of_call : (t : ClientStep) (u : UnderWay) (may_ask : Bool) (op : Call) → is_asking t ≡ false → Stage t (next_of_call t u may_ask op)
of_call t u may_ask (Create name blocks) idle =
    choice (Stage t) may_ask _ _ (in_order t (Request.Create t.client.who t.client.seq name blocks) idle) (quiet t)
of_call t u may_ask (Lookup name) idle = asked t may_ask (Request.Lookup t.client.who name) idle
of_call t u may_ask (Attr file) idle = asked t may_ask (Request.GetAttr t.client.who file) idle
of_call t u may_ask (Read file block) idle =
    asked t may_ask (Request.Read t.client.who u.q file block (read_want t.client file)) idle
of_call t u may_ask (Fetch file block) idle = asked t may_ask (Request.Read t.client.who u.q file block None) idle
of_call t u may_ask (Write file block body) idle =
    choice (Stage t) may_ask _ _ (written t u file block body idle) (quiet t)
of_call t u may_ask (Put file block body) idle = put t u.written may_ask file block body idle
of_call t u may_ask (Sync file) idle = pushed t (first_dirty file t.client.dirty) idle
of_call t u may_ask (Resize file blocks) idle =
    changed t may_ask file (Request.Resize t.client.who t.client.seq u.q file blocks) idle
of_call t u may_ask (Remove file) idle = changed t may_ask file (Request.Remove t.client.who t.client.seq u.q file) idle

of_under_way : (t : ClientStep) (may_ask : Bool) (o : Option UnderWay) → is_asking t ≡ false → Stage t (next_of_under_way t may_ask o)
of_under_way t may_ask None idle = quiet t
of_under_way t may_ask (Some u) idle = of_call t u may_ask u.call idle

renewed-lease : (t : ClientStep) (o : Option Lease) → is_asking t ≡ false → Stage t (renews_lease t o)
renewed-lease t None idle = quiet t
renewed-lease t (Some lease) idle =
    inr (sent t t renewing (Request.GetLease t.client.who lease.file (want_of t.client lease.mode)) idle (ready t) (λ h. h))

renewed : (t : ClientStep) (o : Option ℕ) → is_asking t ≡ false → Stage t (renews t o)
renewed t None idle = quiet t
renewed t (Some file) idle = renewed-lease t (lease_on file t.client.leases) idle

due : (t : ClientStep) (o : Option ℕ) → is_asking t ≡ false → Stage t (pushes_due t o)
due t None idle = quiet t
due t (Some file) idle = pushed t (first_dirty file t.client.dirty) idle

-- ---- the stages, one after another

choice_by : {X : Type 0} (Q : X → Type 0) (b : Bool) (x y : X) → (b ≡ true → Q x) → (b ≡ false → Q y) → Q (if b then x else y)
choice_by Q true x y p q = p refl
choice_by Q false x y p q = q refl

pub skipped : {X : Type 0} (b : Bool) (x y : X) → b ≡ true → (if b then x else y) ≡ x
skipped true x y h = refl
skipped false x y h = absurd cc

stage-pushes : (t : ClientStep) (o : Option ℕ) → Stage t (then_pushes t o)
stage-pushes t o = choice_by (Stage t) (is_asking t) _ _ (λ h. quiet t) (λ h. due t o h)

stage-calls : (t : ClientStep) → Stage t (then_calls t)
stage-calls t =
    choice_by (Stage t) (is_asking t) _ _ (λ h. quiet t) (λ h. of_under_way t (nat_le t.client.pause t.client.now) t.client.call h)

stage-renews : (in_tick : Bool) (t : ClientStep) → Stage t (then_renews in_tick t)
stage-renews false t = quiet t
stage-renews true t =
    choice_by (Stage t) (is_asking t) _ _
    (λ h. quiet t)
    (λ h. choice (Stage t) (nat_le t.client.pause t.client.now) _ _ (renewed t (renewed_file t.client) h) (quiet t))

pub stays-renews : (in_tick : Bool) (t : ClientStep) → is_asking t ≡ true → then_renews in_tick t ≡ t
stays-renews false t h = refl
stays-renews true t h = skipped (is_asking t) _ _ h

next : (f : ClientStep → ClientStep) → ((u : ClientStep) → is_asking u ≡ true → f u ≡ u) → ((u : ClientStep) → Stage u (f u)) → (t u : ClientStep)
    → Stage t u → Stage t (f u)
next f stays stage t u (inl e) = subst (λ x. (f u ≡ x) ⊎ Sends x (f u)) e (stage u)
next f stays stage t u (inr s) = inr (subst (Sends t) (sym (stays u s.asking)) s)

stage : (in_tick : Bool) (t : ClientStep) → Stage t (send_next in_tick t)
stage in_tick t =
    next (then_renews in_tick) (stays-renews in_tick) (stage-renews in_tick) t _
    (next then_calls (λ u h. skipped (is_asking u) _ _ h) stage-calls t _
    (next then_ending (λ u h. skipped (is_asking u) _ _ h) (λ u. stage-pushes u (ending_file u.client)) t _
    (stage-pushes t (noticed_file t.client))))

-- ---- what is known of the step

-- a step that may have sent a request
pub record Sent (t s : ClientStep) : Type 0 where
  pub now : s.client.now ≡ t.client.now
  pub calls : s.client.calls ≡ t.client.calls
  pub seq : s.client.seq ≤ t.client.seq + 1
  pub number : s.client.number ≤ t.client.number + 1
  pub xid : s.client.xid ≤ t.client.xid + 1
  pub entries : s.entries ≡ t.entries
  pub answer : s.answer ≡ t.answer
  pub tied : Tied t.client.ticket t.client.push → Tied s.client.ticket s.client.push

unsent : (t : ClientStep) → Sent t t
unsent t = record {
  now = refl;
  calls = refl;
  seq = omega arith;
  number = omega arith;
  xid = omega arith;
  entries = refl;
  answer = refl;
  tied = λ h. h;
}

none-pushed : (o : Option Ticket) (p : Option Push) → is_some o ≡ false → Tied o p → p ≡ None
none-pushed None p h tied = tied
none-pushed (Some t) p h tied = absurd cc

staged : (t s : ClientStep) → Stage t s → Sent t s
staged t s (inl e) = subst (Sent t) (sym e) (unsent t)
staged t s (inr x) = record {
  now = x.now;
  calls = x.calls;
  seq = x.seq;
  number = x.number;
  xid = x.xid;
  entries = x.entries;
  answer = x.answer;
  tied = λ h. x.tied (none-pushed t.client.ticket t.client.push x.idle h);
}

pub sends : (in_tick : Bool) (t : ClientStep) → Sent t (send_next in_tick t)
sends in_tick t = staged t (send_next in_tick t) (stage in_tick t)
