-- A client draws at most one sequence for each packet that it sends.
use Rattle.std.proofs.Common.{◌≡◌, ◌≤◌, ◌<◌, ◌⊎◌, ℕ, ◌+◌, true, not, ◌&&◌, List, [], ◌∷◌, ◌++◌, Option, Some, None, length, refl, sym, subst, ap, ◌∙◌}
use Rattle.std.proofs.Common.{arith, inl, inr, length-append}
use Rattle.std.proofs.lemmas.Bool.{and_parts}
use Rattle.nq_base.specs.declared.Call.{Call}
use Rattle.nq_base.specs.declared.Grant.{Grant}
use Rattle.nq_base.specs.declared.Reply.{Reply}
use Rattle.nq_base.specs.declared.Request.{Request}
use Rattle.nq_base.specs.declared.Tag.{Tag}
use Rattle.nq_base.specs.declared.Who.{Who}
use Rattle.nq_model.specs.protocol.Client.{Client, ClientStep, begun, Ticket, lease_on}
use Rattle.nq_model.specs.protocol.ClientStep.{client_call, client_tick, at_time, restart, starts, fresh_client}
use Rattle.nq_model.specs.protocol.Hear.{inc_of, is_reply_to, reply_counts, hear, hear_reply, hear_notice, hear_call, goes_on, replied, holds_later, evicted}
use Rattle.nq_model.specs.protocol.Hear.{cancels}
use Rattle.nq_model.specs.protocol.Message.{Message, Packet, call, reply, error, asker, sequence_of}
use Rattle.nq_model.specs.protocol.Table.{same_who}
use Rattle.walk_steps.proofs.ClientCases.{Core, core_of, Closed, Both}
use Rattle.walk_steps.proofs.ClientMoves.{some-same, none-some, keeps-or-cancels}
use Rattle.walk_steps.proofs.ClientWalk.{Replying, reply-keeps, notice-keeps, call-keeps, tick-keeps}
use Rattle.walk_steps.proofs.Packets.{In, in-last, call-same, Told}
use Rattle.walk_steps.proofs.ServerKnows.{NoneHeard, NoneGiven}
use Rattle.walk_steps.proofs.Worlds.{IsAt, given-by}
use Rattle.walk_steps.proofs.Rows.{choice, same-number}

-- in the middle of a step: the incarnation is the same, each sequence that was drawn is below this number and the number of
-- messages so far, and what was sent is of the incarnation
record Draws (base : ℕ) (who : Who) (k : Core) : Type 0 where
  same : k.who ≡ who
  seq : k.seq ≤ base + length k.sends
  ticket : (t : Ticket) (q : ℕ) → k.ticket ≡ Some t → sequence_of t.request ≡ Some q → q < base + length k.sends
  sent : (xid : ℕ) (r : Request) (q : ℕ) → In k.sends (call xid r) → sequence_of r ≡ Some q → q < base + length k.sends
  asks : (t : Ticket) → k.ticket ≡ Some t → asker t.request ≡ Some who
  own : (xid : ℕ) (r : Request) → In k.sends (call xid r) → asker r ≡ Some who
  -- and each is 1 at least
  first : 1 ≤ k.seq
  ticket_first : (t : Ticket) (q : ℕ) → k.ticket ≡ Some t → sequence_of t.request ≡ Some q → 1 ≤ q
  sent_first : (xid : ℕ) (r : Request) (q : ℕ) → In k.sends (call xid r) → sequence_of r ≡ Some q → 1 ≤ q

-- the messages with one more
one-longer : (sends : List Message) (m : Message) → length (sends ++ m ∷ []) ≡ length sends + 1
one-longer sends m = length-append sends (m ∷ [])

-- a message whose sequence, if it has one, is below this number
module _ (base : ℕ) (sends : List Message) (x : ℕ) (request : Request) (low : (q : ℕ) → sequence_of request ≡ Some q → q < base + length sends + 1)
    (old : (xid : ℕ) (r : Request) (q : ℕ) → In sends (call xid r) → sequence_of r ≡ Some q → q < base + length sends) where
  sent-more : (xid : ℕ) (r : Request) (q : ℕ) → In (sends ++ call x request ∷ []) (call xid r) → sequence_of r ≡ Some q
      → q < base + length (sends ++ call x request ∷ [])
  sent-more xid r q i sq = by (in-last sends (call x request) (call xid r) i)
    where
      by : In sends (call xid r) ⊎ (call x request ≡ call xid r) → q < base + length (sends ++ call x request ∷ [])
      by (inl there) = let longer = one-longer sends (call x request) in let below = old xid r q there sq in omega arith
      by (inr new) = let longer = one-longer sends (call x request) in let below = low q (ap sequence_of (call-same x xid request r new).1 ∙ sq) in omega arith

-- one more message, whose sequence, if it has one, is 1 at least
first-more :
    (sends : List Message) (x : ℕ) (request : Request) → ((q : ℕ) → sequence_of request ≡ Some q → 1 ≤ q)
    → ((xid : ℕ) (r : Request) (q : ℕ) → In sends (call xid r) → sequence_of r ≡ Some q → 1 ≤ q)
    → (xid : ℕ) (r : Request) (q : ℕ) → In (sends ++ call x request ∷ []) (call xid r) → sequence_of r ≡ Some q → 1 ≤ q
first-more sends x request low old xid r q i sq = by (in-last sends (call x request) (call xid r) i)
  where
    by : In sends (call xid r) ⊎ (call x request ≡ call xid r) → 1 ≤ q
    by (inl there) = old xid r q there sq
    by (inr new) = low q (ap sequence_of (call-same x xid request r new).1 ∙ sq)

-- one more message of the incarnation
own-more : (who : Who) (sends : List Message) (x : ℕ) (request : Request) → asker request ≡ Some who
    → ((xid : ℕ) (r : Request) → In sends (call xid r) → asker r ≡ Some who) → (xid : ℕ) (r : Request) → In (sends ++ call x request ∷ []) (call xid r)
    → asker r ≡ Some who
own-more who sends x request asks old xid r i = by (in-last sends (call x request) (call xid r) i)
  where
    by : In sends (call xid r) ⊎ (call x request ≡ call xid r) → asker r ≡ Some who
    by (inl there) = old xid r there
    by (inr new) = ap asker (sym (call-same x xid request r new).1) ∙ asks

draws-closed : (base : ℕ) (who : Who) (Heard : ℕ → Tag → Type 0) (Given : ℕ → Grant → ℕ → Type 0) → Closed Heard Given (Draws base who)
draws-closed base who Heard Given = record {
  uses =
      λ k file d. record {
        same = d.same;
        seq = d.seq;
        ticket = d.ticket;
        sent = d.sent;
        asks = d.asks;
        own = d.own;
        first = d.first;
        ticket_first = d.ticket_first;
        sent_first = d.sent_first;
      };
  drops =
      λ k file d. record {
        same = d.same;
        seq = d.seq;
        ticket = d.ticket;
        sent = d.sent;
        asks = d.asks;
        own = d.own;
        first = d.first;
        ticket_first = d.ticket_first;
        sent_first = d.sent_first;
      };
  vacates = λ k file tag can d.
      let longer = one-longer k.sends (call k.xid (Request.Vacated k.who file tag)) in
      record {
        same = d.same;
        seq = let s = d.seq in omega arith;
        ticket = λ t q e sq. let below = d.ticket t q e sq in omega arith;
        sent = sent-more base k.sends k.xid (Request.Vacated k.who file tag) (λ q e. none-some q e) d.sent;
        asks = d.asks;
        own = own-more who k.sends k.xid (Request.Vacated k.who file tag) (ap Some d.same) d.own;
        first = d.first;
        ticket_first = d.ticket_first;
        sent_first = first-more k.sends k.xid (Request.Vacated k.who file tag) (λ q e. none-some q e) d.sent_first;
      };
  asks = λ k job request no_seq can d.
      let longer = one-longer k.sends (call k.xid request) in
      record {
        same = d.same;
        seq = let s = d.seq in omega arith;
        ticket = λ t q e sq. none-some q (sym no_seq ∙ ap (λ u. sequence_of u.request) (some-same _ t e) ∙ sq);
        sent = sent-more base k.sends k.xid request (λ q e. none-some q (sym no_seq ∙ e)) d.sent;
        asks = λ t e. ap (λ u. asker u.request) (sym (some-same _ t e)) ∙ can.asks ∙ ap Some d.same;
        own = own-more who k.sends k.xid request (can.asks ∙ ap Some d.same) d.own;
        first = d.first;
        ticket_first = λ t q e sq. none-some q (sym no_seq ∙ ap (λ u. sequence_of u.request) (some-same _ t e) ∙ sq);
        sent_first = first-more k.sends k.xid request (λ q e. none-some q (sym no_seq ∙ e)) d.sent_first;
      };
  decides = λ k job request seq can d.
      let longer = one-longer k.sends (call k.xid request) in
      record {
        same = d.same;
        seq = let s = d.seq in omega arith;
        ticket =
            λ t q e sq. let own : k.seq ≡ q = some-same k.seq q (sym seq ∙ ap (λ u. sequence_of u.request) (some-same _ t e) ∙ sq) in let s = d.seq in
            omega arith;
        sent = sent-more base k.sends k.xid request (λ q e. let own : k.seq ≡ q = some-same k.seq q (sym seq ∙ e) in let s = d.seq in omega arith) d.sent;
        asks = λ t e. ap (λ u. asker u.request) (sym (some-same _ t e)) ∙ can.asks ∙ ap Some d.same;
        own = own-more who k.sends k.xid request (can.asks ∙ ap Some d.same) d.own;
        first = omega arith;
        ticket_first = λ t q e sq.
            let own : k.seq ≡ q = some-same k.seq q (sym seq ∙ ap (λ u. sequence_of u.request) (some-same _ t e) ∙ sq) in
            let s = d.first in
            omega arith;
        sent_first =
            first-more k.sends k.xid request (λ q e. let own : k.seq ≡ q = some-same k.seq q (sym seq ∙ e) in let s = d.first in omega arith) d.sent_first;
      };
  again = λ k t is d.
      let longer = one-longer k.sends (call t.xid t.request) in
      record {
        same = d.same;
        seq = let s = d.seq in omega arith;
        ticket = λ u q e sq. let below = d.ticket t q is (ap (λ v. sequence_of v.request) (some-same _ u e) ∙ sq) in omega arith;
        sent = sent-more base k.sends t.xid t.request (λ q e. let below = d.ticket t q is e in omega arith) d.sent;
        asks = λ u e. ap (λ v. asker v.request) (sym (some-same _ u e)) ∙ d.asks t is;
        own = own-more who k.sends t.xid t.request (d.asks t is) d.own;
        first = d.first;
        ticket_first = λ u q e sq. d.ticket_first t q is (ap (λ v. sequence_of v.request) (some-same _ u e) ∙ sq);
        sent_first = first-more k.sends t.xid t.request (λ q e. d.ticket_first t q is e) d.sent_first;
      };
  holds =
      λ k file g sent given free unnoticed d. record {
        same = d.same;
        seq = d.seq;
        ticket = d.ticket;
        sent = d.sent;
        asks = d.asks;
        own = d.own;
        first = d.first;
        ticket_first = d.ticket_first;
        sent_first = d.sent_first;
      };
  cancels =
      λ k file d. record {
        same = d.same;
        seq = d.seq;
        ticket = λ t q e sq. d.ticket t q (keeps-or-cancels file k.ticket t e).0 sq;
        sent = d.sent;
        asks = λ t e. d.asks t (keeps-or-cancels file k.ticket t e).0;
        own = d.own;
        first = d.first;
        ticket_first = λ t q e sq.
            d.ticket_first t q (keeps-or-cancels file k.ticket t e).0 sq;
        sent_first = d.sent_first;
      };
  notes =
      λ k file tag heard d. record {
        same = d.same;
        seq = d.seq;
        ticket = d.ticket;
        sent = d.sent;
        asks = d.asks;
        own = d.own;
        first = d.first;
        ticket_first = d.ticket_first;
        sent_first = d.sent_first;
      };
}

-- ---- steps of a client, before which this many packets were sent

pub record DrewUpTo (packets most : ℕ) (t : ClientStep) : Type 0 where
  pub inc : t.client.who.inc ≤ most
  pub seq : t.client.seq ≤ packets + length t.sends + 1
  pub sent : (xid : ℕ) (r : Request) (q : ℕ) → In t.sends (call xid r) → sequence_of r ≡ Some q → q ≤ packets + length t.sends
  pub own : (xid : ℕ) (r : Request) (w : Who) → In t.sends (call xid r) → asker r ≡ Some w → w.inc ≤ most
  pub first : 1 ≤ t.client.seq
  pub sent_first : (xid : ℕ) (r : Request) (q : ℕ) → In t.sends (call xid r) → sequence_of r ≡ Some q → 1 ≤ q

-- and the client before it
pub record HasDrawn (packets : ℕ) (c : Client) : Type 0 where
  pub few : c.seq ≤ packets + 1
  pub first : 1 ≤ c.seq
  pub ticket : (t : Ticket) (q : ℕ) → c.ticket ≡ Some t → sequence_of t.request ≡ Some q → 1 ≤ q

drew : (packets : ℕ) (who : Who) (t : ClientStep) → Both (Draws (packets + 1) who) t → DrewUpTo packets who.inc t
drew packets who t b = record {
  inc = let e : t.client.who.inc ≡ who.inc = ap (λ w. w.inc) b.core.same in omega arith;
  seq = let s = b.core.seq in omega arith;
  sent = λ xid r q i sq. let below = b.core.sent xid r q i sq in omega arith;
  own = λ xid r w i by. let e : who.inc ≡ w.inc = ap (λ v. v.inc) (some-same who w (sym (b.core.own xid r i) ∙ by)) in omega arith;
  first = b.core.first;
  sent_first = b.core.sent_first;
}

begun-draws : (packets host : ℕ) (c : Client) (ps : List Packet) → IsAt host c ps → HasDrawn packets c → Draws (packets + 1) c.who (core_of (begun c))
begun-draws packets host c ps a few = record {
  same = refl;
  seq = let s = few.few in omega arith;
  ticket = λ t q e sq. let s = few.few in let below = (a.alone.asking.ticketed t e).drawn q sq in omega arith;
  sent = λ xid r q i. absurd i;
  asks = λ t e. (a.alone.asking.ticketed t e).asks;
  own = λ xid r i. absurd i;
  first = few.first;
  ticket_first = few.ticket;
  sent_first = λ xid r q i. absurd i;
}

timed-draws :
    (packets host : ℕ) (c : Client) (ps : List Packet) (now : ℕ) → IsAt host c ps → HasDrawn packets c
    → Draws (packets + 1) c.who (core_of (begun (at_time c now)))
unfolding at_time
timed-draws packets host c ps now a few = record {
  same = refl;
  seq = let s = few.few in omega arith;
  ticket = λ t q e sq. let s = few.few in let below = (a.alone.asking.ticketed t e).drawn q sq in omega arith;
  sent = λ xid r q i. absurd i;
  asks = λ t e. (a.alone.asking.ticketed t e).asks;
  own = λ xid r i. absurd i;
  first = few.first;
  ticket_first = few.ticket;
  sent_first = λ xid r q i. absurd i;
}

pub call-draws :
    (packets host : ℕ) (c : Client) (ps : List Packet) (op : Call) → IsAt host c ps → HasDrawn packets c → DrewUpTo packets c.who.inc (client_call c op)
call-draws packets host c ps op a few =
    drew packets c.who (client_call c op) (call-keeps (draws-closed (packets + 1) c.who NoneHeard NoneGiven) c op a.alone (begun-draws packets host c
    ps a few))

pub tick-draws :
    (packets host : ℕ) (c : Client) (ps : List Packet) → IsAt host c ps → HasDrawn packets c → DrewUpTo packets c.who.inc (client_tick c (c.now + 1))
tick-draws packets host c ps a few =
    drew packets c.who (client_tick c (c.now + 1))
    (tick-keeps (draws-closed (packets + 1) c.who NoneHeard NoneGiven) c (c.now + 1) (omega arith) a.alone
    (timed-draws packets host c ps (c.now + 1) a few))

-- the next incarnation has drawn none
pub restart-draws : (packets : ℕ) (c : Client) → DrewUpTo packets (c.who.inc + 1) (restart c)
unfolding starts fresh_client
restart-draws packets c = record {
  inc = omega arith;
  seq = omega arith;
  sent = only;
  own = next;
  first = omega arith;
  sent_first = none;
} where
  none : (xid : ℕ) (r : Request) (q : ℕ) → (call 1 (Request.Attach (record c.who { inc = c.who.inc + 1 })) ≡ call xid r) ⊎ ⊥ → sequence_of r ≡ Some q → 1 ≤ q
  none xid r q (inl e) sq = none-some q (ap sequence_of (call-same 1 xid _ r e).1 ∙ sq)
  none xid r q (inr bad) sq = absurd bad

  next : (xid : ℕ) (r : Request) (w : Who) → (call 1 (Request.Attach (record c.who { inc = c.who.inc + 1 })) ≡ call xid r) ⊎ ⊥ → asker r ≡ Some w
      → w.inc ≤ c.who.inc + 1
  next xid r w (inl e) by = let same : c.who.inc + 1 ≡ w.inc = ap (λ v. v.inc) (some-same _ w (ap asker (call-same 1 xid _ r e).1 ∙ by)) in omega arith
  next xid r w (inr bad) by = absurd bad

  only : (xid : ℕ) (r : Request) (q : ℕ) → (call 1 (Request.Attach (record c.who { inc = c.who.inc + 1 })) ≡ call xid r) ⊎ ⊥ → sequence_of r ≡ Some q
      → q ≤ packets + 1
  only xid r q (inl e) sq = none-some q (ap sequence_of (call-same 1 xid _ r e).1 ∙ sq)
  only xid r q (inr bad) sq = absurd bad

-- ---- a datagram at a client

abbrev pub DrewIf : (packets most : ℕ) → Option ClientStep → Type 0
DrewIf packets most None = Unit {0}
DrewIf packets most (Some t) = DrewUpTo packets most t

reply-draws :
    (packets host : ℕ) (c : Client) (ps : List Packet) (number xid : ℕ) (r : Reply) (o : Option Ticket) → c.ticket ≡ o → Told ps host (reply xid r)
    → IsAt host c ps → HasDrawn packets c → DrewIf packets c.who.inc (hear_reply c number xid r o)
reply-draws packets host c ps number xid r None is sent a few = tt
reply-draws packets host c ps number xid r (Some t) is sent a few =
    choice (DrewIf packets c.who.inc) (is_reply_to c xid r t) (Some (goes_on (replied (begun c) number t r))) None
    (λ e. let k = and_parts _ _ e in let l = and_parts _ _ k.0 in
    drew packets c.who (goes_on (replied (begun c) number t r))
    (reply-keeps (draws-closed (packets + 1) c.who NoneHeard (given-by t)) c number t r (replying k.1 (same-number _ _ l.0) (same-number _ _ l.1))))
    (λ e. tt)
  where
    before : Draws (packets + 1) c.who (core_of (begun c))
    before = begun-draws packets host c ps a few

    replying : reply_counts r t ≡ true → xid ≡ t.xid → inc_of r ≡ c.who.inc → Replying (given-by t) (Draws (packets + 1) c.who) c t r
    replying counts same inc = record {
      asked = is;
      counts = counts;
      alone = a.alone;
      spent =
          λ other. record {
            same = refl;
            seq = before.seq;
            ticket = λ u q e sq. none-some u e;
            sent = before.sent;
            asks = λ u e. none-some u e;
            own = before.own;
            first = before.first;
            ticket_first = λ u q e sq. none-some u e;
            sent_first = before.sent_first;
          };
      attached =
          λ job. record {
            same = refl;
            seq = before.seq;
            ticket = λ u q e sq. none-some u e;
            sent = before.sent;
            asks = λ u e. none-some u e;
            own = before.own;
            first = before.first;
            ticket_first = λ u q e sq. none-some u e;
            sent_first = before.sent_first;
          };
      brings =
          λ file on g grants. (
            on,
            (a.mail.replied xid r (subst (λ n. Told ps n (reply xid r)) (sym a.here) sent) inc).wants t is (sym same) g grants
                file on,
          );
      only = λ file g at given. given;
    }

notice-draws :
    (packets host : ℕ) (c : Client) (ps : List Packet) (who : Who) (file : ℕ) (tag : Tag) → IsAt host c ps → HasDrawn packets c
    → DrewIf packets c.who.inc (hear_notice c who file tag)
notice-draws packets host c ps who file tag a few =
    choice (DrewIf packets c.who.inc) (same_who who c.who && not (holds_later tag (lease_on file c.leases)))
    (Some (goes_on (evicted (cancels (begun c) file) file tag))) None
    (λ e. drew packets c.who (goes_on (evicted (cancels (begun c) file) file tag))
    (notice-keeps (draws-closed (packets + 1) c.who (λ f v. Unit {0}) NoneGiven) c file tag tt (λ g sent bad. bad) a.alone
    (begun-draws packets host c ps a few)))
    (λ e. tt)

called-draws : (packets host : ℕ) (c : Client) (ps : List Packet) (r : Request) → IsAt host c ps → HasDrawn packets c → DrewIf packets c.who.inc
    (hear_call c r)
called-draws packets host c ps (Request.Evicted who file tag) a few = notice-draws packets host c ps who file tag a few
called-draws packets host c ps other a few = tt

pub hear-draws :
    (packets host : ℕ) (c : Client) (ps : List Packet) (number : ℕ) (m : Message) → Told ps host m → IsAt host c ps → HasDrawn packets c
    → DrewIf packets c.who.inc (hear c number m)
hear-draws packets host c ps number (reply xid r) sent a few = reply-draws packets host c ps number xid r c.ticket refl sent a few
hear-draws packets host c ps number (call xid r) sent a few = called-draws packets host c ps r a few
hear-draws packets host c ps number (error xid er) sent a few = tt
