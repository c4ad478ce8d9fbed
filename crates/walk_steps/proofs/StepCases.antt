-- A client's step, walked once: a call, a tick, a datagram. Each outcome with what led to it.
use Rattle.std.proofs.Common.{◌≡◌, ◌<◌, ◌≤◌, ◌⊎◌, ℕ, ◌+◌, Bool, true, false, ◌||◌, ◌&&◌, not, List, [], ◌∷◌, Option, Some, None, is_some, nat_le}
use Rattle.std.proofs.Common.{if◌then◌else◌, refl, subst, ap, ◌∙◌, inl, inr}
use Rattle.std.proofs.lemmas.Bool.{and_parts, not-true}
use Rattle.nq_base.specs.declared.Call.{Call}
use Rattle.nq_base.specs.declared.Loss.{Loss}
use Rattle.nq_base.specs.declared.Reply.{Reply}
use Rattle.nq_base.specs.declared.Request.{Request}
use Rattle.nq_base.specs.declared.Tag.{Tag}
use Rattle.nq_base.specs.declared.Who.{Who}
use Rattle.walk_steps.proofs.ClientMoves.{some-same}
use Rattle.nq_model.specs.protocol.Client.{Client, ClientStep, Ticket, UnderWay, begun, lease_on, losses_of, is_clean}
use Rattle.nq_model.specs.protocol.ClientStep.{begins_call, is_called, sends_unless_cached, tell_losses, call_past_losses, says_busy, losses_for, changed_file}
use Rattle.nq_model.specs.protocol.ClientStep.{client_call, at_time, sends_again, tick_asking, client_tick}
use Rattle.nq_model.specs.protocol.Hear.{vacates_lease, notes_notice, evicted, cancels, holds_later, inc_of, reply_counts, is_reply_to, replied, goes_on}
use Rattle.nq_model.specs.protocol.Hear.{hear_reply, hear_call, hear}
use Rattle.nq_model.specs.protocol.Message.{Message, call, reply, error}
use Rattle.nq_model.specs.protocol.Profile.{patience}
use Rattle.nq_model.specs.protocol.Send.{send_next}
use Rattle.nq_model.specs.protocol.Settle.{names_losses, settle}
use Rattle.nq_model.specs.protocol.Table.{same_who}
use Rattle.walk_steps.proofs.Incarnations.{who-same}
use Rattle.walk_steps.proofs.Rows.{choice, same-number}
use Rattle.walk_steps.proofs.Tests.{is-at-most, is-not-at-most}

-- ---- a call

pub record CallCases (c : Client) (op : Call) (Q : ClientStep → Type 0) : Type 0 where
  -- another call is under way, or the client is not attached yet
  pub busy : (is_some c.call ≡ true) ⊎ (c.attached ≡ false) → Q (says_busy (begins_call c op))
  -- the call is told the losses of its file
  pub telling : (file : ℕ) (loss : Loss) (losses : List Loss) → c.call ≡ None → c.attached ≡ true → changed_file op ≡ Some file
      → losses_of file c.losses ≡ loss ∷ losses → Q (names_losses (begins_call c op) (begins_call c op).client.calls file)
  -- the call is under way
  pub going : c.call ≡ None → c.attached ≡ true → losses_for (changed_file op) c.losses ≡ []
      → Q (sends_unless_cached (settle (is_called (begins_call c op) op)))

pub call-cases : (c : Client) (op : Call) (Q : ClientStep → Type 0) → CallCases c op Q → Q (client_call c op)
call-cases c op Q cases =
    choice
    Q
    (is_some c.call || not c.attached)
    (says_busy (begins_call c op))
    (call_past_losses (begins_call c op) op (losses_for (changed_file op) c.losses))
    (λ e. cases.busy (either c.call c.attached e))
    (λ e. let a = neither c.call c.attached e in past a.0 a.1 (changed_file op) refl (losses_for (changed_file op) c.losses) refl)
  where
    either : (o : Option UnderWay) (b : Bool) → (is_some o || not b) ≡ true → (is_some o ≡ true) ⊎ (b ≡ false)
    either (Some u) b e = inl refl
    either None false e = inr refl
    either None true e = cc

    neither : (o : Option UnderWay) (b : Bool) → (is_some o || not b) ≡ false → (o ≡ None) × (b ≡ true)
    neither (Some u) b e = cc
    neither None false e = cc
    neither None true e = (refl, refl)

    tells : c.call ≡ None → c.attached ≡ true → (o : Option ℕ) → changed_file op ≡ o → (loss : Loss) (losses : List Loss)
        → losses_for o c.losses ≡ loss ∷ losses → Q (tell_losses (begins_call c op) o)
    tells none on None f loss losses e = absurd (cc)
    tells none on (Some file) f loss losses e = cases.telling file loss losses none on f e

    past : c.call ≡ None → c.attached ≡ true → (o : Option ℕ) → changed_file op ≡ o → (losses : List Loss)
        → losses_for (changed_file op) c.losses ≡ losses → Q (call_past_losses (begins_call c op) op losses)
    past none on o f [] e = cases.going none on e
    past none on o f (loss ∷ losses) e = tells none on (changed_file op) refl loss losses e

-- after a call was answered from the cache nothing is sent
pub unless-cached-cases : (t : ClientStep) (Q : ClientStep → Type 0) → (t.cached ≡ true → Q t) → (t.cached ≡ false → Q (send_next false t))
    → Q (sends_unless_cached t)
unless-cached-cases t Q when otherwise = choice Q t.cached t (send_next false t) when otherwise

-- ---- a tick

pub record TickCases (c : Client) (now : ℕ) (Q : ClientStep → Type 0) : Type 0 where
  -- the request under way is sent again
  pub again : (ticket : Ticket) → c.ticket ≡ Some ticket → ticket.last + patience ≤ now → Q (sends_again (begun (at_time c now)) ticket)
  -- the request under way was sent a short time ago
  pub quiet : (ticket : Ticket) → c.ticket ≡ Some ticket → now < ticket.last + patience → Q (begun (at_time c now))
  -- no request is under way
  pub free : c.ticket ≡ None → Q (send_next true (settle (begun (at_time c now))))

pub tick-cases : (c : Client) (now : ℕ) (Q : ClientStep → Type 0) → TickCases c now Q → Q (client_tick c now)
unfolding at_time
tick-cases c now Q cases = case c.ticket refl
  where
    case : (o : Option Ticket) → c.ticket ≡ o → Q (tick_asking (begun (at_time c now)) o)
    case None e = cases.free e
    case (Some ticket) e =
        choice
        Q
        (nat_le (ticket.last + patience) now)
        (sends_again (begun (at_time c now)) ticket)
        (begun (at_time c now))
        (λ f. cases.again ticket e (is-at-most _ _ f))
        (λ f. cases.quiet ticket e (is-not-at-most _ _ f))

-- ---- a notice

pub record EvictedCases (t : ClientStep) (file : ℕ) (tag : Tag) (Q : ClientStep → Type 0) : Type 0 where
  -- a clean file's lease is given up at once
  pub clean : is_clean t.client file ≡ true → Q (vacates_lease t file tag)
  -- else the notice waits
  pub waiting : is_clean t.client file ≡ false → Q (notes_notice t file tag)

pub evicted-cases : (t : ClientStep) (file : ℕ) (tag : Tag) (Q : ClientStep → Type 0) → EvictedCases t file tag Q → Q (evicted t file tag)
evicted-cases t file tag Q cases = choice Q (is_clean t.client file) (vacates_lease t file tag) (notes_notice t file tag) cases.clean cases.waiting

-- ---- a datagram that counts

pub record HeardCases (c : Client) (k : ℕ) (m : Message) (Q : ClientStep → Type 0) : Type 0 where
  -- the reply to the request under way
  pub answered : (xid : ℕ) (r : Reply) (ticket : Ticket) → m ≡ reply xid r → c.ticket ≡ Some ticket → xid ≡ ticket.xid → inc_of r ≡ c.who.inc
      → reply_counts r ticket ≡ true → Q (goes_on (replied (begun c) k ticket r))
  -- a notice
  pub noticed : (xid file : ℕ) (tag : Tag) → m ≡ call xid (Request.Evicted c.who file tag) → holds_later tag (lease_on file c.leases) ≡ false
      → Q (goes_on (evicted (cancels (begun c) file) file tag))

pub heard-cases : (c : Client) (k : ℕ) (m : Message) (t : ClientStep) (Q : ClientStep → Type 0) → hear c k m ≡ Some t → HeardCases c k m Q → Q t
heard-cases c k m t Q hears cases = case m refl hears
  where
    replies : (xid : ℕ) (r : Reply) → m ≡ reply xid r → (o : Option Ticket) → c.ticket ≡ o → hear_reply c k xid r o ≡ Some t → Q t
    replies xid r is None f e = absurd (cc)
    replies xid r is (Some ticket) f e = counts (is_reply_to c xid r ticket) refl e
      where
        counts : (b : Bool) → is_reply_to c xid r ticket ≡ b → (if b then Some (goes_on (replied (begun c) k ticket r)) else None) ≡ Some t → Q t
        counts false g e = absurd (cc)
        counts true g e =
            let a = and_parts _ _ g in
            let b = and_parts _ _ a.0 in
            let same : goes_on (replied (begun c) k ticket r) ≡ t = some-same _ _ e in
            subst Q same (cases.answered xid r ticket is f (same-number _ _ b.0) (same-number _ _ b.1) a.1)

    notices : (xid : ℕ) (who : Who) (file : ℕ) (tag : Tag) → m ≡ call xid (Request.Evicted who file tag) → (b : Bool)
        → (same_who who c.who && not (holds_later tag (lease_on file c.leases))) ≡ b
        → (if b then Some (goes_on (evicted (cancels (begun c) file) file tag)) else None) ≡ Some t → Q t
    notices xid who file tag is false g e = absurd (cc)
    notices xid who file tag is true g e =
        let a = and_parts _ _ g in
        let one : who ≡ c.who = who-same who c.who a.0 in
        let same : goes_on (evicted (cancels (begun c) file) file tag) ≡ t = some-same _ _ e in
        subst Q same (cases.noticed xid file tag (is ∙ ap (λ w. call xid (Request.Evicted w file tag)) one) (not-true _ a.1))

    calls : (xid : ℕ) (r : Request) → m ≡ call xid r → hear_call c r ≡ Some t → Q t
    calls xid (Request.Evicted who file tag) is e = notices xid who file tag is _ refl e
    calls xid other is e = absurd (cc)

    case : (n : Message) → m ≡ n → hear c k n ≡ Some t → Q t
    case (reply xid r) is e = replies xid r is c.ticket refl e
    case (call xid r) is e = calls xid r is e
    case (error xid err) is e = absurd (cc)
