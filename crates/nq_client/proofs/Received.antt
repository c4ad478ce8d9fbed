-- How much a datagram takes that counts, and what it keeps.
use Rattle.std.proofs.Common.{◌≡◌, ◌≤◌, ◌<◌, ◌^◌, ◌+◌, ℕ, true, false, length, Option, Some, None, IsTrue, refl, sym, ap, subst, ◌∙◌, arith}
use Rattle.nq_base.specs.declared.Reply.{Reply}
use Rattle.nq_base.specs.declared.Request.{Request}
use Rattle.nq_base.specs.declared.Tag.{Tag}
use Rattle.nq_base.specs.declared.Who.{Who}
use Rattle.nq_client.proofs.Calls.{Within}
use Rattle.nq_client.proofs.RepliedKept.{Kept, answered-kept}
use Rattle.nq_client.proofs.Replied.{answered-none}
use Rattle.nq_client.proofs.Requested.{sends, Sent}
use Rattle.nq_client.proofs.Settled.{choice, settled, Settled, is_given}
use Rattle.nq_client.proofs.Ties.{tied-cancelled}
use Rattle.nq_client_parts.specs.Calls.{file_at_stake}
use Rattle.nq_client.specs.Receiving.{answered, after_reply, at_stake, Counts, IsHeeded, most_entries, on_call, on_heard, on_notice, on_reply}
use Rattle.nq_client.specs.State.{client_of}
use Rattle.nq_client.specs.Step.{HasNumbers, step_of}
use Rattle.nq_client.specs.Tied.{Tied, TiedFor}
use Rattle.nq_client.specs.declared.step.Step.{Step}
use Rattle.nq_datagrams.specs.declared.Heard.{Heard}
use Rattle.nq_model.specs.protocol.Client.{Client, ClientStep, Ticket, begun, is_clean}
use Rattle.nq_model.specs.protocol.Hear.{all_dirty, cancelled, cancels, evicted, goes_on, notes_notice, replied, reply_counts, spends, vacates_lease}
use Rattle.nq_model.specs.protocol.Send.{send_next}
use Rattle.nq_model.specs.protocol.Settle.{settle}

-- a reply that counts spends the request, and then the request is answered
pub replied-answered : (t : ClientStep) (number : ℕ) (ticket : Ticket) (r : Reply) → replied t number ticket r ≡ answered (spends t) number ticket r
replied-answered t number ticket (Reply.Refused inc status) = refl
replied-answered t number ticket other = refl

-- a step from which the client goes on
pub went-on : (entries : ℕ) (c : Client) (s : ClientStep) → s.client.now ≡ c.now → s.client.calls ≡ c.calls → s.client.seq ≡ c.seq → s.client.number
    ≡ c.number → s.client.xid ≤ c.xid + 1 → length s.entries + 2 ≤ entries → is_given s.answer ≡ true
    → (Tied c.ticket c.push → Tied s.client.ticket s.client.push) → Within entries c (goes_on s)
went-on entries c s now calls seq number xid few given tied =
    let x : Settled s (settle s) = settled s in
    let y : Sent (settle s) (send_next false (settle s)) = sends false (settle s) in
    record {
      now = y.now ∙ x.now ∙ now;
      calls = let e = x.calls in let f = y.calls in omega arith;
      seq = let e = x.seq in let f = y.seq in omega arith;
      number = let e = x.number in let f = y.number in omega arith;
      xid = let e = x.xid in let f = y.xid in omega arith;
      few = let e = x.entries in subst (λ es. length es ≤ entries) (sym y.entries) (omega arith);
      given = subst (λ a. is_given a ≡ true) (sym y.answer) (x.given given);
      tied = λ h. y.tied (subst (λ o. Tied o (settle s).client.push) (sym x.ticket) (subst (λ p. Tied s.client.ticket p) (sym x.push) (tied h)));
    }

no-ticket : (o : Option Ticket) (s : ClientStep) → s.client.ticket ≡ None → s.client.push ≡ None → Tied s.client.ticket s.client.push
no-ticket o s t p = subst (λ k. Tied k s.client.push) (sym t) p

replied-within : (c : Client) (number : ℕ) (ticket : Ticket) (r : Reply) → c.ticket ≡ Some ticket → IsTrue (reply_counts r ticket)
    → Within (length (all_dirty c (file_at_stake ticket.request)) + 4) c (goes_on (answered (spends (begun c)) number ticket r))
unfolding spends
replied-within c number ticket r e h =
    let t = spends (begun c) in
    let s = answered (spends (begun c)) number ticket r in
    let k : Kept 1 (length (all_dirty c (file_at_stake ticket.request)) + 2) (spends (begun c)) (answered (spends (begun c)) number ticket r) =
    answered-kept (spends (begun c)) number ticket r in
    went-on (length (all_dirty c (file_at_stake ticket.request)) + 4) c (answered (spends (begun c)) number ticket r) k.now k.calls k.seq k.number k.xid
    (let f = k.entries_few in omega arith)
    (k.given refl)
    (λ tied. no-ticket None (answered (spends (begun c)) number ticket r) k.ticket (answered-none (spends (begun c)) number ticket r
    (subst (λ o. Tied o c.push) e tied) h))

reply-within : (c : Client) (number : ℕ) (r : Reply) (o : Option Ticket) → c.ticket ≡ o → Counts o r → Within (length (all_dirty c (at_stake o)) + 4)
    c (on_reply c number r o)
reply-within c number r None e h = absurd h
reply-within c number r (Some ticket) e h =
    subst (λ s. Within (length (all_dirty c (file_at_stake ticket.request)) + 4) c (goes_on s)) (sym (replied-answered (begun c) number ticket r))
    (replied-within c number ticket r e h)

-- ---- what a reply leaves for the client to go on with

-- a part of a step of this client that takes one number of a request at most
record IsNear (c : Client) (s : ClientStep) : Type 0 where
  now : s.client.now ≡ c.now
  seq : s.client.seq ≡ c.seq
  number : s.client.number ≡ c.number
  xid : s.client.xid ≤ c.xid + 1
  tied : Tied s.client.ticket s.client.push

near-answered : (c : Client) (number : ℕ) (ticket : Ticket) (r : Reply) → TiedFor ticket.job ticket.request c.push → IsTrue (reply_counts r ticket)
    → IsNear c (answered (spends (begun c)) number ticket r)
unfolding spends
near-answered c number ticket r tied h =
    let k : Kept 1 (length (all_dirty c (file_at_stake ticket.request)) + 2) (spends (begun c)) (answered (spends (begun c)) number ticket r) =
    answered-kept (spends (begun c)) number ticket r in
    record {
      now = k.now;
      seq = k.seq;
      number = k.number;
      xid = k.xid;
      tied = no-ticket None (answered (spends (begun c)) number ticket r) k.ticket (answered-none (spends (begun c)) number ticket r tied h);
    }

near-reply : (c : Client) (number : ℕ) (r : Reply) (o : Option Ticket) → Tied o c.push → Counts o r → IsNear c (after_reply (begun c) number o r)
near-reply c number r None tied h = absurd h
near-reply c number r (Some ticket) tied h =
    subst (IsNear c) (sym (replied-answered (begun c) number ticket r)) (near-answered c number ticket r tied h)

near-same : (c : Client) (s u : ClientStep) → u ≡ s → IsNear c s → IsNear c u
near-same c s u e x = subst (IsNear c) (sym e) x

-- the step of the code after a reply is that of the model
pub reply-made : (t u : ClientStep) (c : Client) (number : ℕ) (r : Reply) (o : Option Ticket) → t ≡ begun c → Counts o r
    → ((ticket : Ticket) → o ≡ Some ticket → u ≡ replied t number ticket r) → u ≡ after_reply (begun c) number o r
reply-made t u c number r None e h made = absurd h
reply-made t u c number r (Some ticket) e h made = made ticket refl ∙ ap (λ x. replied x number ticket r) e

-- delayed writes are not under way any more
pub tied-after : (c : Client) (s : Step) (number : ℕ) (r : Reply) (o : Option Ticket) → step_of s ≡ after_reply (begun c) number o r → Tied o c.push
    → Counts o r → Tied s.state.asked s.state.dirty.push
tied-after c s number r o e tied h =
    (near-same c (after_reply (begun c) number o r) (step_of s) e (near-reply c number r o tied h)).tied

-- the numbers of what follows are left
pub numbers-after : (a s : Step) (number : ℕ) (r : Reply) (o : Option Ticket) → step_of s ≡ after_reply (begun (client_of a.state)) number o r
    → Tied o a.state.dirty.push → Counts o r → HasNumbers 3 a.state → HasNumbers 2 s.state
numbers-after a s number r o e tied h left =
    let x = near-same (client_of a.state) (after_reply (begun (client_of a.state)) number o r) (step_of s) e (near-reply (client_of a.state) number r
    o tied h) in
    let now : s.state.time ≡ a.state.time = x.now in
    let seq : s.state.seq ≡ a.state.seq = x.seq in
    let writes : s.state.number ≡ a.state.number = x.number in
    let xid : s.state.xid ≤ a.state.xid + 1 = x.xid in
    let early : a.state.time < 2 ^ 62 = left.time in
    let seqs : a.state.seq + 3 < 2 ^ 64 = left.seq in
    let numbers : a.state.number + 3 < 2 ^ 64 = left.number in
    let xids : a.state.xid + 3 < 2 ^ 32 = left.xid in
    record { time = omega arith; seq = omega arith; number = omega arith; xid = omega arith }

-- ---- notices

-- a notice that was taken in
record Noted (t s : ClientStep) : Type 0 where
  now : s.client.now ≡ t.client.now
  calls : s.client.calls ≡ t.client.calls
  seq : s.client.seq ≡ t.client.seq
  number : s.client.number ≡ t.client.number
  xid : s.client.xid ≤ t.client.xid + 1
  ticket : s.client.ticket ≡ t.client.ticket
  push : s.client.push ≡ t.client.push
  entries : s.entries ≡ t.entries
  answer : s.answer ≡ t.answer

given-up : (t : ClientStep) (file : ℕ) (tag : Tag) → Noted t (vacates_lease t file tag)
unfolding vacates_lease
given-up t file tag = record {
  now = refl;
  calls = refl;
  seq = refl;
  number = refl;
  xid = omega arith;
  ticket = refl;
  push = refl;
  entries = refl;
  answer = refl;
}

waits : (t : ClientStep) (file : ℕ) (tag : Tag) → Noted t (notes_notice t file tag)
unfolding notes_notice
waits t file tag = record {
  now = refl;
  calls = refl;
  seq = refl;
  number = refl;
  xid = omega arith;
  ticket = refl;
  push = refl;
  entries = refl;
  answer = refl;
}

noted : (t : ClientStep) (file : ℕ) (tag : Tag) → Noted t (evicted t file tag)
noted t file tag = choice (Noted t) (is_clean t.client file) _ _ (given-up t file tag) (waits t file tag)

notice-within : (n : ℕ) (c : Client) (file : ℕ) (tag : Tag) → Within (n + 4) c (on_notice c file tag)
unfolding cancels
notice-within n c file tag =
    let k : Noted (cancels (begun c) file) (evicted (cancels (begun c) file) file tag) = noted (cancels (begun c) file) file tag in
    went-on (n + 4) c (evicted (cancels (begun c) file) file tag) k.now k.calls k.seq k.number k.xid
    (let e = ap length k.entries in omega arith)
    (ap is_given k.answer)
    (λ tied. subst (λ o. Tied o (evicted (cancels (begun c) file) file tag).client.push) (sym k.ticket) (subst (λ p. Tied (cancelled file c.ticket) p)
    (sym k.push) (tied-cancelled file c.ticket c.push tied)))

idle-within : (n : ℕ) (c : Client) → Within (n + 4) c (begun c)
idle-within n c = record {
  now = refl;
  calls = omega arith;
  seq = omega arith;
  number = omega arith;
  xid = omega arith;
  few = omega arith;
  given = refl;
  tied = λ h. h;
}

call-within : (n : ℕ) (c : Client) (r : Request) → Within (n + 4) c (on_call c r)
call-within n c (Request.Evicted who file tag) = notice-within n c file tag
call-within n c other = idle-within n c

-- a call of the server that is no notice makes no step
pub no-notice : (c : Client) (r : Request) → ((who : Who) (file : ℕ) (tag : Tag) → r ≡ Request.Evicted who file tag → ⊥) → begun c ≡ on_call c r
no-notice c (Request.Evicted who file tag) h = absurd (h who file tag refl)
no-notice c other h = refl

-- what counts
pub heard-within : (c : Client) (number : ℕ) (heard : Heard) → IsHeeded c.ticket heard → Within (most_entries c) c (on_heard c number heard)
heard-within c number (Heard.Notice xid r) h = call-within (length (all_dirty c (at_stake c.ticket))) c r
heard-within c number (Heard.Reply xid r) h = reply-within c number r c.ticket refl h
