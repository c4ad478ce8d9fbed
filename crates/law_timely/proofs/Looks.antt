-- A client with an open call that needs no lease: the request under way is that call's own, or a push; and it pauses until no later than before,
-- unless that request is put off.
use Rattle.std.proofs.Common.{◌≡◌, ◌≤◌, ◌⊎◌, ℕ, ◌+◌, Bool, true, false, not, nat_le, List, Some, None, refl, sym, subst, ap, ◌∙◌, arith, inl, inr}
use Rattle.std.specs.Prelude.{⊤}
use Rattle.nq_base.specs.declared.Call.{Call}
use Rattle.nq_base.specs.declared.Refusal.{Refusal}
use Rattle.nq_base.specs.declared.Reply.{Reply}
use Rattle.nq_base.specs.declared.Request.{Request}
use Rattle.nq_model.specs.protocol.Client.{Client, ClientStep, Job, attaching, for_call, renewing, pushing, Ticket, UnderWay, begun}
use Rattle.nq_model.specs.protocol.ClientStep.{client_tick, sends_again, at_time}
use Rattle.nq_model.specs.protocol.Hear.{hear, inc_of, is_put_off, refusal_counts, reply_counts, replied, cancels, vacates_lease, notes_notice, evicted}
use Rattle.nq_model.specs.protocol.Message.{Message, call, reply}
use Rattle.nq_model.specs.protocol.Send.{is_asking, sends_request, after_seq, after_number, takes_push, gives_up, send_next}
use Rattle.nq_model.specs.protocol.Settle.{answers, reads_cached, after_read, after_write, marks_written, settle}
use Rattle.walk_steps.proofs.ClientFacts.{Alone}
use Rattle.walk_steps.proofs.ClientMoves.{some-same, none-some, keeps-or-cancels}
use Rattle.walk_steps.proofs.SendCases.{send-cases}
use Rattle.walk_steps.proofs.SettleCases.{settle-cases, settle-settles, Settled, IsWrite, IsSync, of_sync, of_put}
use Rattle.walk_steps.proofs.StepCases.{tick-cases, evicted-cases, heard-cases}
use Rattle.walk_steps.proofs.Tests.{is-at-most, is-not-at-most}
use Rattle.law_rounds.proofs.Busy.{asks-next}
use Rattle.law_rounds.proofs.Meant.{replied-free}
use Rattle.law_timely.specs.NobodyIsWaitedFor.{needs_no_lease}
use Rattle.law_rounds.proofs.Calling.{StillOpen, settles, sends, hear-keeps, tick-keeps}

-- whether a request is of such a call
abbrev pub is_look : Request → Bool
is_look (Request.Lookup who name) = true
is_look (Request.GetAttr who file) = true
is_look (Request.Create who seq name blocks) = true
is_look other = false

-- the request under way is such a call's own, or none of a call and no renewal
pub record IsLook (t : Ticket) : Type 0 where
  pub own : t.job ≡ for_call → is_look t.request ≡ true
  pub none : t.job ≡ renewing → ⊥

-- a client with such a call pauses until no later than this
pub record Looking (limit : ℕ) (c : Client) : Type 0 where
  pub soon : (u : UnderWay) → c.call ≡ Some u → needs_no_lease u.call ≡ true → c.pause ≤ limit
  pub asks : (u : UnderWay) → c.call ≡ Some u → needs_no_lease u.call ≡ true → (t : Ticket) → c.ticket ≡ Some t → IsLook t

-- ---- the request under way

record Asks (t : ClientStep) : Type 0 where
  asks : (u : UnderWay) → t.client.call ≡ Some u → needs_no_lease u.call ≡ true → (k : Ticket) → t.client.ticket ≡ Some k → IsLook k

over : (t : ClientStep) → t.client.call ≡ None → Asks t
over t none = record { asks = λ u is look k asks. none-some u (sym none ∙ is) }

free : (t : ClientStep) → t.client.ticket ≡ None → Asks t
free t none = record { asks = λ u is look k asks. none-some k (sym none ∙ asks) }

settled : (t : ClientStep) → Asks t → Asks (settle t)
unfolding answers reads_cached after_read after_write marks_written
settled t h = settle-cases t Asks (record {
  idle = λ none. h;
  asking = λ u called own. h;
  read_out = λ u file block lease is read can out. over _ refl;
  reading = λ u file block lease body is read can below has. over _ refl;
  read_waits = λ u file block is read waits. h;
  write_out = λ u sync file block body lease is write can out. over _ refl;
  write_full = λ u sync file block body lease is write can below full. over _ refl;
  writing = λ u file block body lease is write can below room. over _ refl;
  putting = λ u file block body lease is put first can below room. record {
    asks = λ v called look k has. absurd (no-put file block body u v put
        called look);
  };
  write_waits = λ u sync file block body is write waits. h;
  syncing = λ u file is sync clean. over _ refl;
  sync_waits = λ u file is sync dirty. h;
  others = λ u is needs. h;
})
  where
    no-put : (file block : ℕ) (body : List ℕ) (u v : UnderWay) → u.call ≡ Call.Put file block body → Some (record u { written = true }) ≡ Some v
        → needs_no_lease v.call ≡ true → ⊥
    no-put file block body u v put called look =
        let same : u.call ≡ v.call = ap (λ (x : UnderWay). x.call) (some-same (record u { written = true }) v called) in
        let bad : needs_no_lease v.call ≡ false = ap needs_no_lease (sym same ∙ put) in
        absurd (cc)

-- a request of a call that is no such one
no-look : (t v : ClientStep) (u : UnderWay) (op : Call) → t.client.call ≡ Some u → v.client.call ≡ t.client.call → u.call ≡ op
    → needs_no_lease op ≡ false → Asks v
no-look t v u op called same is none = record {
  asks = λ w has look k asks.
      let one : u ≡ w = some-same u w (sym called ∙ sym same ∙ has) in
      let other : needs_no_lease w.call ≡ false = ap (λ (x : UnderWay). needs_no_lease x.call) (sym one) ∙ ap needs_no_lease is ∙ none in
      absurd (cc);
}

asked : (v : ClientStep) (k : Ticket) → v.client.ticket ≡ Some k → IsLook k → Asks v
asked v k has is = record { asks = λ u called look t asks. subst IsLook (some-same k t (sym has ∙ asks)) is }

nexts : (in_tick : Bool) (t : ClientStep) → (in_tick ≡ true → t.client.pause ≤ t.client.now → (u : UnderWay) → t.client.call ≡ Some u → needs_no_lease u.call
    ≡ true → ⊥) → Asks t → Asks (send_next in_tick t)
unfolding sends_request after_seq after_number takes_push gives_up
nexts in_tick t never h = send-cases in_tick t Asks (record {
  stays_asking = λ ticket asks. h;
  stays = λ free nothing. h;
  pushing = λ file p free first of. asked _ _ refl (record { own = λ e. absurd (cc); none = λ e. cc });
  creating = λ u name blocks free is. asked _ _ refl (record { own = λ e. refl; none = λ e. cc });
  looking_up = λ u name free is. asked _ _ refl (record { own = λ e. refl; none = λ e. cc });
  getting_attributes = λ u file free is. asked _ _ refl (record { own = λ e. refl; none = λ e. cc });
  reading = λ u file block free is. no-look t _ u _ free.called refl is refl;
  fetching = λ u file block free is. no-look t _ u _ free.called refl is refl;
  writing = λ u file block body free is through. no-look t _ u _ free.called refl is refl;
  leasing = λ u file block body free is no alone. no-look t _ u _ free.called refl is refl;
  putting = λ u file block body free is first. no-look t _ u _ free.called refl is refl;
  resizing = λ u file blocks free is clean. no-look t _ u _ free.called refl is refl;
  removing = λ u file free is clean. no-look t _ u _ free.called refl is refl;
  renewing = λ file lease tick free nothing unpaused renewed held of clean quiet. record {
    asks = λ u called look k has.
        absurd (never tick unpaused u called look);
  };
})

-- ---- a datagram

module _ (limit : ℕ) (c : Client) (alone : Alone c) (h : Looking limit c) (k : ℕ) (m : Message) (t : ClientStep) (hears : hear c k m ≡ Some t)
    (kept : (inc : ℕ) (status : Refusal) (ticket : Ticket) → c.ticket ≡ Some ticket → m ≡ reply ticket.xid (Reply.Refused inc status)
    → inc ≡ c.who.inc → is_put_off status ≡ true → ticket.job ≡ for_call → is_look ticket.request ≡ true → ⊥) where
  -- while such a call is open nothing of it is put off
  never-off : (v : UnderWay) → c.call ≡ Some v → needs_no_lease v.call ≡ true → (xid inc : ℕ) (status : Refusal) → m ≡ reply xid (Reply.Refused inc status)
      → is_put_off status ≡ true → ⊥
  never-off v called look xid inc status says off = heard-cases c k m t (λ (u : ClientStep). ⊥) hears (record {
    answered = λ x r ticket is asks own same counts.
        let two : reply x r ≡ reply xid (Reply.Refused inc status) = sym is ∙ says in
        let r_is : r ≡ Reply.Refused inc status = cc in
        let x_is : x ≡ xid = cc in
        by ticket asks (ap (λ n. reply n (Reply.Refused inc status)) (sym x_is ∙ own)) (ap inc_of (sym r_is) ∙ same) (ap (λ a. reply_counts a ticket)
        (sym r_is) ∙ counts) ticket.job refl;
    noticed = λ x file tag is older. let two : call x (Request.Evicted c.who file tag) ≡ reply xid (Reply.Refused inc status) = sym is ∙ says in absurd (cc);
  })
    where
      by : (ticket : Ticket) → c.ticket ≡ Some ticket → reply xid (Reply.Refused inc status) ≡ reply ticket.xid (Reply.Refused inc status)
          → inc ≡ c.who.inc → refusal_counts status ticket.request ticket.job ≡ true → (job : Job) → ticket.job ≡ job → ⊥
      by ticket asks number same counts attaching is = let no : refusal_counts status ticket.request ticket.job ≡ false =
          ap (refusal_counts status ticket.request) is in absurd (cc)
      by ticket asks number same counts for_call is =
          kept inc status ticket asks (says ∙ number) same off is ((h.asks v called look ticket asks).own is)
      by ticket asks number same counts renewing is = (h.asks v called look ticket asks).none is
      by ticket asks number same counts pushing is = let no : refusal_counts status ticket.request ticket.job ≡ false =
          ap (refusal_counts status ticket.request) is ∙ ap not off in absurd (cc)

  opened : StillOpen c.call t.client.call
  opened = (hear-keeps ⊥ c k m t alone hears (λ no. absurd no)).calls

  asks-on : Asks t
  unfolding cancels vacates_lease notes_notice
  asks-on = heard-cases c k m t Asks hears (record {
    answered = λ xid r ticket is asks own inc counts. nexts false (settle (replied (begun c) k ticket r)) (λ e. absurd (cc))
        (settled (replied (begun c) k ticket r) (free (replied (begun c) k ticket r) (replied-free c k ticket r asks counts alone)));
    noticed = λ xid file tag is older.
        let cut : Asks (cancels (begun c) file) = record { asks = λ u called look v has. h.asks u called look v (keeps-or-cancels file c.ticket v has).0 } in
        let gone = evicted (cancels (begun c) file) file tag in
        nexts false (settle gone) (λ e. absurd (cc)) (settled gone (evicted-cases (cancels (begun c) file) file tag Asks
        (record { clean = λ e. record { asks = cut.asks }; waiting = λ e. record { asks = cut.asks } })));
  })

  pub hear-looking : Looking limit t.client
  hear-looking = record {
    soon = λ u called look.
        let v = opened u called in
        let was : needs_no_lease v.0.call ≡ true = ap needs_no_lease (sym v.2) ∙ look in
        let same = hear-keeps ⊤ c k m t alone hears (λ yes. never-off v.0 v.1 was) in
        let first = h.soon v.0 v.1 was in
        let pause = same.pause tt in
        omega arith;
    asks = asks-on.asks;
  }

-- ---- a tick

-- such a call needs a packet
settles-not : (t : ClientStep) (u : UnderWay) → t.client.call ≡ Some u → needs_no_lease u.call ≡ true → settle t ≡ t
unfolding answers
settles-not t u called look = settle-cases t (λ v. v ≡ t) (record {
  idle = λ none. refl;
  asking = λ v is own. refl;
  read_out = λ v file block lease is read can out. absurd (bad v (either v.call file block read) is.called);
  reading = λ v file block lease body is read can below has. absurd (bad v (either v.call file block read) is.called);
  read_waits = λ v file block is read waits. refl;
  write_out = λ v sync file block body lease is write can out. absurd (bad v (writes v file block body sync write) is.called);
  write_full = λ v sync file block body lease is write can below full. absurd (bad v (writes v file block body sync write) is.called);
  writing = λ v file block body lease is write can below room. absurd (bad v (ap needs_no_lease write) is.called);
  putting = λ v file block body lease is put first can below room. absurd (bad v (ap needs_no_lease put) is.called);
  write_waits = λ v sync file block body is write waits. refl;
  syncing = λ v file is sync clean. absurd (bad v (syncs v file sync) is.called);
  sync_waits = λ v file is sync dirty. refl;
  others = λ v is needs. refl;
})
  where
    bad : (v : UnderWay) → needs_no_lease v.call ≡ false → t.client.call ≡ Some v → ⊥
    bad v other is =
        let yes : needs_no_lease v.call ≡ true = ap (λ (x : UnderWay). needs_no_lease x.call) (sym (some-same u v (sym called ∙ is))) ∙ look in
        absurd (cc)

    either : (op : Call) (file block : ℕ) → (op ≡ Call.Read file block) ⊎ (op ≡ Call.Fetch file block) → needs_no_lease op ≡ false
    either op file block (inl e) = ap needs_no_lease e
    either op file block (inr e) = ap needs_no_lease e

    writes : (v : UnderWay) (file block : ℕ) (body : List ℕ) (sync : Bool) → IsWrite v sync file block body → needs_no_lease v.call ≡ false
    writes v file block body true e = ap needs_no_lease e.0
    writes v file block body false e = ap needs_no_lease e

    syncs : (v : UnderWay) (file : ℕ) → IsSync v file → needs_no_lease v.call ≡ false
    syncs v file (of_sync e) = ap needs_no_lease e
    syncs v file (of_put block body e written) = ap needs_no_lease e

renews-not : (t : ClientStep) → is_asking (send_next false t) ≡ true → send_next true t ≡ send_next false t
renews-not t e = rw e refl

module _ (limit : ℕ) (c : Client) (alone : Alone c) (h : Looking limit c) where
  ticked-free : c.ticket ≡ None → Asks (send_next true (settle (begun (at_time c (c.now + 1)))))
  unfolding at_time
  ticked-free none = record { asks = λ u called look. by u called look (opened u called) }
    where
      opened : StillOpen c.call (send_next true (settle (begun (at_time c (c.now + 1))))).client.call
      opened = (sends ⊥ (at_time c (c.now + 1)) true (settle (begun (at_time c (c.now + 1)))) (settles ⊥ (at_time c (c.now + 1))
          (begun (at_time c (c.now + 1))) (record { calls = λ v is. (v, is, refl, refl); now = refl; pause = λ no. absurd no }))).calls

      by : (u : UnderWay) → (send_next true (settle (begun (at_time c (c.now + 1))))).client.call ≡ Some u → needs_no_lease u.call ≡ true → (v : UnderWay)
          × (c.call ≡ Some v) × (u.call ≡ v.call) × (u.q ≡ v.q) → (k : Ticket)
          → (send_next true (settle (begun (at_time c (c.now + 1))))).client.ticket ≡ Some k → IsLook k
      by u called look v k asks =
          let was : needs_no_lease v.0.call ≡ true = ap needs_no_lease (sym v.2) ∙ look in
          let same : settle (begun (at_time c (c.now + 1))) ≡ begun (at_time c (c.now + 1)) = settles-not (begun (at_time c (c.now + 1))) v.0 v.1 was in
          (later v.0 v.1 was same (nat_le c.pause (c.now + 1)) refl).asks u (ap (λ (s : ClientStep). (send_next true s).client.call) (sym same)
          ∙ called) look k (ap (λ (s : ClientStep). (send_next true s).client.ticket) (sym same) ∙ asks)
        where
          later : (v : UnderWay) → c.call ≡ Some v → needs_no_lease v.call ≡ true → settle (begun (at_time c (c.now + 1))) ≡ begun (at_time c (c.now + 1))
              → (late : Bool) → nat_le c.pause (c.now + 1) ≡ late → Asks (send_next true (begun (at_time c (c.now + 1))))
          later v has was same true e =
              let settled_now : Settled (begun (at_time c (c.now + 1))) = subst Settled same (settle-settles (begun (at_time c (c.now + 1)))) in
              let asking = asks-next false (begun (at_time c (c.now + 1))) v has (is-at-most _ _ e) settled_now alone.delaying in
              subst Asks (sym (renews-not (begun (at_time c (c.now + 1))) asking)) (nexts false (begun (at_time c (c.now + 1))) (λ f. absurd (cc))
              (free (begun (at_time c (c.now + 1))) none))
          later v has was same false e = nexts true (begun (at_time c (c.now + 1))) (λ f unpaused. let above = is-not-at-most c.pause (c.now + 1) e in
              absurd (omega arith)) (free (begun (at_time c (c.now + 1))) none)

  pub tick-looking : Looking limit (client_tick c (c.now + 1)).client
  unfolding at_time sends_again
  tick-looking = record {
    soon = λ u called look.
        let v = (tick-keeps c).calls u called in
        let was : needs_no_lease v.0.call ≡ true = ap needs_no_lease (sym v.2) ∙ look in
        let first = h.soon v.0 v.1 was in
        let pause = (tick-keeps c).pause tt in
        omega arith;
    asks = (tick-cases c (c.now + 1) Asks (record {
      again = λ ticket asks long. record { asks = λ u called look k has. subst IsLook (some-same _ k has) (again ticket (h.asks u called look ticket asks)) };
      quiet = λ ticket asks short. record { asks = h.asks };
      free = λ none. ticked-free none;
    })).asks;
  }
    where
      again : (ticket : Ticket) → IsLook ticket → IsLook (record ticket { last = c.now + 1 })
      again ticket i = record { own = i.own; none = i.none }
