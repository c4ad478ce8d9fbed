-- What a step leaves of a client's call: it is answered, or the same with its number; and the client pauses as before, unless a request was
-- put off.
use Rattle.std.proofs.Common.{◌≡◌, ◌⊎◌, ℕ, ◌+◌, Bool, true, false, Option, Some, None, refl, sym, ap, ◌∙◌, inl, inr}
use Rattle.std.specs.Prelude.{⊤}
use Rattle.nq_base.specs.declared.Answer.{Answer}
use Rattle.nq_base.specs.declared.Refusal.{Refusal}
use Rattle.nq_base.specs.declared.Reply.{Reply}
use Rattle.nq_base.specs.declared.Request.{Request}
use Rattle.nq_base.specs.declared.Value.{Value}
use Rattle.nq_model.specs.protocol.Client.{Client, ClientStep, Job, Ticket, UnderWay, begun}
use Rattle.nq_model.specs.protocol.ClientStep.{client_tick, sends_again, at_time}
use Rattle.nq_model.specs.protocol.Hear.{hear, reply_counts, is_put_off, answers_call, marks_through, with_through, pauses, replied, cancels, vacates_lease}
use Rattle.nq_model.specs.protocol.Hear.{notes_notice, evicted}
use Rattle.nq_model.specs.protocol.Message.{Message, reply}
use Rattle.nq_model.specs.protocol.Send.{sends_request, after_seq, after_number, takes_push, gives_up, send_next}
use Rattle.nq_model.specs.protocol.Settle.{answers, after_read, reads_cached, after_write, marks_written, settle}
use Rattle.walk_steps.proofs.ClientFacts.{Alone}
use Rattle.walk_steps.proofs.ClientMoves.{some-same, none-some}
use Rattle.walk_steps.proofs.PartCases.{answers-call-cases, lease-done-cases}
use Rattle.walk_steps.proofs.RepliedCases.{replied-cases}
use Rattle.walk_steps.proofs.SendCases.{send-cases}
use Rattle.walk_steps.proofs.SettleCases.{settle-cases}
use Rattle.walk_steps.proofs.StepCases.{tick-cases, evicted-cases, heard-cases}
use Rattle.law_rounds.proofs.EffortHeard.{Goes, start, optional-goes, pushed-goes, refused-goes, known-goes}
use Rattle.law_rounds.proofs.EffortCalls.{read-goes, write-goes, attached-goes}
use Rattle.law_rounds.proofs.EffortHeard.{start-same}

-- a call that is open now was open before
abbrev pub StillOpen : (before after : Option UnderWay) → Type 0
StillOpen before after = (u : UnderWay) → after ≡ Some u → (v : UnderWay) × (before ≡ Some v) × (u.call ≡ v.call) × (u.q ≡ v.q)

-- and under a premise the client pauses as before
pub record Keeps (Premise : Type 0) (c : Client) (t : ClientStep) : Type 0 where
  pub calls : StillOpen c.call t.client.call
  pub now : t.client.now ≡ c.now
  pub pause : Premise → t.client.pause ≡ c.pause

same-open : (before after : Option UnderWay) → after ≡ before → StillOpen before after
same-open before after e u is = (u, sym e ∙ is, refl, refl)

none-open : (before after : Option UnderWay) → after ≡ None → StillOpen before after
none-open before after e u is = none-some u (sym e ∙ is)

then-open : (a b c : Option UnderWay) → StillOpen a b → StillOpen b c → StillOpen a c
then-open a b c f g u is = let y = g u is in let x = f y.0 y.1 in (x.0, x.1, y.2 ∙ x.2, y.3 ∙ x.3)

module _ (Premise : Type 0) (c : Client) where
  -- a step that changes nothing of this
  same : (t u : ClientStep) → u.client.call ≡ t.client.call → u.client.now ≡ t.client.now → u.client.pause ≡ t.client.pause → Keeps Premise c t
      → Keeps Premise c u
  same t u called now pause h = record {
    calls = then-open c.call t.client.call u.client.call h.calls (same-open t.client.call u.client.call called);
    now = now ∙ h.now;
    pause = λ k. pause ∙ h.pause k;
  }

  over : (t u : ClientStep) → u.client.call ≡ None → u.client.now ≡ t.client.now → u.client.pause ≡ t.client.pause → Keeps Premise c t → Keeps Premise c u
  over t u called now pause h = record { calls = none-open c.call u.client.call called; now = now ∙ h.now; pause = λ k. pause ∙ h.pause k }

  -- a part of a step that answers the call or leaves it
  goes : (n : ℕ) (t u : ClientStep) → Goes 0 0 n t u → Keeps Premise c t → Keeps Premise c u
  goes n t u g h = by g.call
    where
      by : (u.client.call ≡ t.client.call) ⊎ (u.client.call ≡ None) → Keeps Premise c u
      by (inl e) = same t u e g.now g.pause h
      by (inr e) = over t u e g.now g.pause h

  pub settles : (t : ClientStep) → Keeps Premise c t → Keeps Premise c (settle t)
  unfolding answers reads_cached after_read after_write marks_written
  settles t h = settle-cases t (Keeps Premise c) (record {
    idle = λ none. h;
    asking = λ u called own. h;
    read_out = λ u file block lease is read can out. over t (answers t u.q Answer.Range None) refl refl refl h;
    reading = λ u file block lease body is read can below has. over t (reads_cached t u file block body) refl refl refl h;
    read_waits = λ u file block is read waits. h;
    write_out = λ u sync file block body lease is write can out. over t (answers t u.q Answer.Range None) refl refl refl h;
    write_full = λ u sync file block body lease is write can below full. over t (answers t u.q Answer.DirtyFull None) refl refl refl h;
    writing = λ u file block body lease is write can below room. record { calls = none-open c.call None refl; now = h.now; pause = h.pause };
    putting = λ u file block body lease is put first can below room. record {
      calls = then-open c.call t.client.call
          (Some (record u { written = true })) h.calls (marked u is.called);
      now = h.now;
      pause = h.pause;
    };
    write_waits = λ u sync file block body is write waits. h;
    syncing = λ u file is sync clean. over t (answers t u.q (Answer.Ok Value.Nothing) None) refl refl refl h;
    sync_waits = λ u file is sync dirty. h;
    others = λ u is needs. h;
  })
    where
      marked : (u : UnderWay) → t.client.call ≡ Some u → StillOpen t.client.call (Some (record u { written = true }))
      marked u called v is = (u, called, ap (λ (x : UnderWay). x.call) (sym (some-same _ v is)), ap (λ (x : UnderWay). x.q) (sym (some-same _ v is)))

  sent : (t u : ClientStep) (job : Job) (request : Request) → u.client.call ≡ t.client.call → u.client.now ≡ t.client.now → u.client.pause
      ≡ t.client.pause → Keeps Premise c t → Keeps Premise c (sends_request u job request)
  unfolding sends_request
  sent t u job request called now pause h = same t (sends_request u job request) called now pause h

  pub sends : (in_tick : Bool) (t : ClientStep) → Keeps Premise c t → Keeps Premise c (send_next in_tick t)
  unfolding after_seq after_number takes_push gives_up
  sends in_tick t h = send-cases in_tick t (Keeps Premise c) (record {
    stays_asking = λ ticket asks. h;
    stays = λ free nothing. h;
    pushing = λ file p free first of. sent t _ _ _ refl refl refl h;
    creating = λ u name blocks free is. sent t _ _ _ refl refl refl h;
    looking_up = λ u name free is. sent t t _ _ refl refl refl h;
    getting_attributes = λ u file free is. sent t t _ _ refl refl refl h;
    reading = λ u file block free is. sent t t _ _ refl refl refl h;
    fetching = λ u file block free is. sent t t _ _ refl refl refl h;
    writing = λ u file block body free is through. sent t _ _ _ refl refl refl h;
    leasing = λ u file block body free is no alone. sent t t _ _ refl refl refl h;
    putting = λ u file block body free is first. sent t _ _ _ refl refl refl h;
    resizing = λ u file blocks free is clean. sent t _ _ _ refl refl refl h;
    removing = λ u file free is clean. sent t _ _ _ refl refl refl h;
    renewing = λ file lease tick free nothing unpaused renewed held of clean quiet. sent t t _ _ refl refl refl h;
  })

  through : (on : Bool) (t : ClientStep) → Keeps Premise c t → Keeps Premise c (marks_through on t)
  unfolding marks_through
  through on t h = record {
    calls = then-open c.call t.client.call (with_through on t.client.call) h.calls (marked t.client.call);
    now = h.now;
    pause = h.pause;
  }
    where
      marked : (o : Option UnderWay) → StillOpen o (with_through on o)
      marked None u is = none-some u is
      marked (Some v) u is = (v, refl, ap (λ (x : UnderWay). x.call) (sym (some-same _ u is)), ap (λ (x : UnderWay). x.q) (sym (some-same _ u is)))

  answered : (t : ClientStep) (answer : Answer) (number : Option ℕ) → Keeps Premise c t → Keeps Premise c (answers_call t answer number)
  unfolding answers
  answered t answer number h = answers-call-cases t answer number (Keeps Premise c) (λ none. h) (λ u is. over t (answers t u.q answer number) refl refl refl h)

  begins : Keeps Premise c (start c)
  begins = let s = start-same 0 0 c in record { calls = same-open c.call (start c).client.call s.0; now = s.2; pause = λ k. s.3 }

  paused : (t : ClientStep) → (Premise → ⊥) → Keeps Premise c t → Keeps Premise c (pauses t)
  unfolding pauses marks_through
  paused t never h =
      let u = through false t h in
      record { calls = u.calls; now = u.now; pause = λ k. absurd (never k) }

  -- a reply; under the premise it puts nothing off
  replies : (number : ℕ) (ticket : Ticket) (r : Reply) → Alone c → c.ticket ≡ Some ticket → reply_counts r ticket ≡ true
      → (Premise → (inc : ℕ) (status : Refusal) → r ≡ Reply.Refused inc status → is_put_off status ≡ true → ⊥)
      → Keeps Premise c (replied (begun c) number ticket r)
  replies number ticket r alone asks counts goes-on = replied-cases c number ticket r (Keeps Premise c) (alone.asking.ticketed ticket asks).fits
      counts (record {
        attaching = λ who inc job is own. goes 1 (start c) _ (attached-goes 0 0 c) begins;
        named = λ answer job is. answered (start c) answer None begins;
        reading = λ who q file block want inc rev body grant of is. answered _ _ _ (goes 1 (start c) _ (read-goes 0 0 (start c) file block body grant
            ticket.first) begins);
        leasing = λ who file want inc grant of is. lease-done-cases (start c) file grant ticket.first (Keeps Premise c)
            (λ caching. goes 1 (start c) _ (optional-goes 0 0 (start c) file grant ticket.first) begins)
            (λ other. through true _ (goes 1 (start c) _ (optional-goes 0 0 (start c) file grant ticket.first) begins));
        writing = λ who seq file block first last body inc rev of is. answered _ _ _ (goes 1 (start c) _ (write-goes 0 0 (start c) file block body
            rev) begins);
        resizing = λ who seq q file blocks inc rev of is. answered _ _ _ (goes 0 (start c) _ (known-goes 0 0 (start c) file rev) begins);
        removing = λ who seq q file inc of is. answered _ _ _ begins;
        renewing = λ who file want inc grant job is own. goes 1 (start c) _ (optional-goes 0 0 (start c) file grant ticket.first) begins;
        pushed = λ who seq file block first last base body inc rev job is own. goes 1 (start c) _ (pushed-goes 0 0 (start c) file block body rev) begins;
        putting_off = λ inc status job is off. paused (start c) (λ k. goes-on k inc status is off) begins;
        refusing = λ inc status job is counted final. answered _ _ _ begins;
        renewal_refused = λ inc status job is final. begins;
        push_refused = λ who seq file block first last base body inc status job is own final. goes 1 (start c) _ (refused-goes 0 0 (start c) file) begins;
      })

  -- what a client hears keeps its call, unless it is answered; and it pauses as before, unless it hears that a request is put off
  pub hear-keeps : (k : ℕ) (m : Message) (t : ClientStep) → Alone c → hear c k m ≡ Some t → (Premise → (xid inc : ℕ) (status : Refusal)
      → m ≡ reply xid (Reply.Refused inc status) → is_put_off status ≡ true → ⊥) → Keeps Premise c t
  unfolding cancels vacates_lease notes_notice
  hear-keeps k m t alone hears goes-on = heard-cases c k m t (Keeps Premise c) hears (record {
    answered = λ xid r ticket is asks own inc counts.
        sends false (settle (replied (begun c) k ticket r)) (settles (replied (begun c) k ticket r) (replies k ticket r alone asks counts
        (λ pr i status e off. goes-on pr xid i status (is ∙ ap (λ x. reply xid x) e) off)));
    noticed = λ xid file tag is older.
        let gone = evicted (cancels (begun c) file) file tag in
        let cut : Keeps Premise c (cancels (begun c) file) = record { calls = same-open c.call c.call refl; now = refl; pause = λ pr. refl } in
        sends false (settle gone) (settles gone (evicted-cases (cancels (begun c) file) file tag (Keeps Premise c) (record {
          clean = λ e. same (cancels (begun c) file) (vacates_lease (cancels (begun c) file) file tag) refl refl refl cut;
          waiting = λ e. same (cancels (begun c) file) (notes_notice (cancels (begun c) file) file tag) refl refl refl cut;
        })));
  })

-- ---- a tick

-- a tick keeps the call and the pause
pub tick-keeps : (c : Client) → Keeps ⊤ (at_time c (c.now + 1)) (client_tick c (c.now + 1))
unfolding at_time sends_again
tick-keeps c = tick-cases c (c.now + 1) (Keeps ⊤ (at_time c (c.now + 1))) (record {
  again = λ ticket asks long. record { calls = λ v is. (v, is, refl, refl); now = refl; pause = λ yes. refl };
  quiet = λ ticket asks short. start;
  free = λ none. sends ⊤ (at_time c (c.now + 1)) true (settle (begun (at_time c (c.now + 1)))) (settles ⊤ (at_time c (c.now + 1))
      (begun (at_time c (c.now + 1))) start);
})
  where
    start : Keeps ⊤ (at_time c (c.now + 1)) (begun (at_time c (c.now + 1)))
    start = record { calls = λ v is. (v, is, refl, refl); now = refl; pause = λ yes. refl }

pub tick-opens : (c : Client) → StillOpen c.call (client_tick c (c.now + 1)).client.call
unfolding at_time
tick-opens c = (tick-keeps c).calls
