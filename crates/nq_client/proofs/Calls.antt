-- How much a call or a tick takes, and what it keeps.
use Rattle.std.proofs.Common.{◌≡◌, ◌≤◌, ◌+◌, ℕ, true, false, not, ◌||◌, List, [], ◌∷◌, length, Option, Some, None, nat_le, is_some, refl, sym, subst}
use Rattle.std.proofs.Common.{◌∙◌, arith}
use Rattle.nq_base.specs.declared.Call.{Call}
use Rattle.nq_base.specs.declared.Loss.{Loss}
use Rattle.nq_client.specs.Tied.{Tied}
use Rattle.nq_client.proofs.Requested.{sends, Sent}
use Rattle.nq_client.proofs.Settled.{choice, settled, Settled, is_given}
use Rattle.nq_model.specs.protocol.Client.{Ticket, Client, ClientStep, begun}
use Rattle.nq_model.specs.protocol.ClientStep.{changed_file, begins_call, is_called, losses_for, call_freely, tell_losses, call_past_losses, says_busy}
use Rattle.nq_model.specs.protocol.ClientStep.{client_call, at_time, sends_again, tick_asking, client_tick}
use Rattle.nq_model.specs.protocol.Profile.{patience}
use Rattle.nq_model.specs.protocol.Send.{send_next}
use Rattle.nq_model.specs.protocol.Settle.{answers, settle}

-- a step of a client in which so many entries are made at most
pub record Within (entries : ℕ) (c : Client) (s : ClientStep) : Type 0 where
  pub now : s.client.now ≡ c.now
  pub calls : s.client.calls ≤ c.calls + 1
  pub seq : s.client.seq ≤ c.seq + 2
  pub number : s.client.number ≤ c.number + 2
  pub xid : s.client.xid ≤ c.xid + 2
  pub few : length s.entries ≤ entries
  pub given : is_given s.answer ≡ true
  pub tied : Tied c.ticket c.push → Tied s.client.ticket s.client.push

busy : (c : Client) (op : Call) → Within 3 c (says_busy (begins_call c op))
unfolding begins_call says_busy
busy c op = record {
  now = refl;
  calls = omega arith;
  seq = omega arith;
  number = omega arith;
  xid = omega arith;
  few = omega arith;
  given = refl;
  tied = λ h. h;
}

told : (c : Client) (op : Call) (file : Option ℕ) → Within 3 c (tell_losses (begins_call c op) file)
unfolding begins_call answers
told c op None = record {
  now = refl;
  calls = omega arith;
  seq = omega arith;
  number = omega arith;
  xid = omega arith;
  few = omega arith;
  given = refl;
  tied = λ h. h;
}
told c op (Some file) = record {
  now = refl;
  calls = omega arith;
  seq = omega arith;
  number = omega arith;
  xid = omega arith;
  few = omega arith;
  given = refl;
  tied = λ h. h;
}

-- a step that was settled, from a client with so many entries
after_settled : (entries : ℕ) (c : Client) (t s : ClientStep) → Settled t s → t.client.now ≡ c.now → t.client.calls ≤ c.calls + 1 → t.client.seq
    ≡ c.seq → t.client.number ≡ c.number → t.client.xid ≡ c.xid → length t.entries + 2 ≤ entries → is_given t.answer ≡ true → t.client.ticket
    ≡ c.ticket → t.client.push ≡ c.push → Within entries c s
after_settled entries c t s x now calls seq number xid few given ticket push = record {
  now = x.now ∙ now;
  calls = let e = x.calls in omega arith;
  seq = let e = x.seq in omega arith;
  number = let e = x.number in omega arith;
  xid = let e = x.xid in omega arith;
  few = let e = x.entries in omega arith;
  given = x.given given;
  tied = λ h. subst (λ o. Tied o s.client.push) (sym (x.ticket ∙ ticket)) (subst (λ p. Tied c.ticket p) (sym (x.push ∙ push)) h);
}

-- and then sent a request
after_sent : (entries : ℕ) (c : Client) (t s u : ClientStep) → Settled t s → Sent s u → t.client.now ≡ c.now → t.client.calls ≤ c.calls + 1
    → t.client.seq ≡ c.seq → t.client.number ≡ c.number → t.client.xid ≡ c.xid → length t.entries + 2 ≤ entries → is_given t.answer ≡ true
    → t.client.ticket ≡ c.ticket → t.client.push ≡ c.push → Within entries c u
after_sent entries c t s u x y now calls seq number xid few given ticket push = record {
  now = y.now ∙ x.now ∙ now;
  calls = let e = x.calls in let f = y.calls in omega arith;
  seq = let e = x.seq in let f = y.seq in omega arith;
  number = let e = x.number in let f = y.number in omega arith;
  xid = let e = x.xid in let f = y.xid in omega arith;
  few = let e = x.entries in subst (λ es. length es ≤ entries) (sym y.entries) (omega arith);
  given = subst (λ a. is_given a ≡ true) (sym y.answer) (x.given given);
  tied = λ h. y.tied (subst (λ o. Tied o s.client.push) (sym (x.ticket ∙ ticket)) (subst (λ p. Tied c.ticket p) (sym (x.push ∙ push)) h));
}

free : (c : Client) (op : Call) → Within 3 c (call_freely (begins_call c op) op)
unfolding begins_call is_called
free c op =
    let t = is_called (begins_call c op) op in
    choice (Within 3 c) ((settle (is_called (begins_call c op) op)).cached) _ _
    (after_settled 3 c (is_called (begins_call c op) op) (settle (is_called (begins_call c op) op)) (settled (is_called (begins_call c op) op)) refl
    (omega arith) refl refl refl (omega arith) refl refl refl)
    (after_sent 3 c (is_called (begins_call c op) op) (settle (is_called (begins_call c op) op))
    (send_next false (settle (is_called (begins_call c op) op))) (settled (is_called (begins_call c op) op))
    (sends false (settle (is_called (begins_call c op) op))) refl (omega arith) refl refl refl (omega arith) refl refl refl)

past : (c : Client) (op : Call) (losses : List Loss) → Within 3 c (call_past_losses (begins_call c op) op losses)
past c op [] = free c op
past c op (loss ∷ losses) = told c op (changed_file op)

-- a call
pub called : (c : Client) (op : Call) → Within 3 c (client_call c op)
called c op =
    choice (Within 3 c) (is_some c.call || not c.attached) _ _ (busy c op) (past c op (losses_for (changed_file op) c.losses))

again : (c : Client) (ticket : Ticket) → c.ticket ≡ Some ticket → Within 2 c (sends_again (begun c) ticket)
unfolding sends_again
again c ticket e = record {
  now = refl;
  calls = omega arith;
  seq = omega arith;
  number = omega arith;
  xid = omega arith;
  few = omega arith;
  given = refl;
  tied = λ h. subst (λ o. Tied o c.push) e h;
}

idle : (c : Client) → Within 2 c (begun c)
idle c = record {
  now = refl;
  calls = omega arith;
  seq = omega arith;
  number = omega arith;
  xid = omega arith;
  few = omega arith;
  given = refl;
  tied = λ h. h;
}

ticked-from : (c : Client) (o : Option Ticket) → c.ticket ≡ o → Within 2 c (tick_asking (begun c) o)
ticked-from c None e =
    after_sent 2 c (begun c) (settle (begun c)) (send_next true (settle (begun c))) (settled (begun c)) (sends true (settle (begun c))) refl
    (omega arith) refl refl refl (omega arith) refl refl refl
ticked-from c (Some ticket) e =
    choice (Within 2 c) (nat_le (ticket.last + patience) c.now) _ _ (again c ticket e) (idle c)

-- a tick, from the client with the new time
pub ticked : (c : Client) (now : ℕ) → Within 2 (at_time c now) (client_tick c now)
unfolding at_time
ticked c now = ticked-from (at_time c now) c.ticket refl
