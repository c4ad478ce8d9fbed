-- A client that is attached and has no open call is so after each of its steps but a call and a restart; and where it has no delayed
-- writes it gets none.
use Rattle.std.proofs.Common.{◌≡◌, ℕ, Bool, true, false, not, ◌&&◌, List, [], Option, Some, None, refl, sym, subst, ap, ◌∙◌}
use Rattle.std.specs.Prelude.{is_some}
use Rattle.nq_base.specs.declared.Answer.{Answer}
use Rattle.nq_base.specs.declared.Grant.{Grant}
use Rattle.nq_base.specs.declared.Push.{Push}
use Rattle.nq_base.specs.declared.Refusal.{Refusal}
use Rattle.nq_base.specs.declared.Reply.{Reply}
use Rattle.nq_base.specs.declared.Request.{Request}
use Rattle.nq_base.specs.declared.Tag.{Tag}
use Rattle.nq_model.specs.protocol.Client.{Client, ClientStep, lease_on, notice_on, first_dirty, dirty_at, drop_dirty, other_dirty, is_clean, revision_of}
use Rattle.nq_model.specs.protocol.Client.{is_revision_before, Job, attaching, for_call, renewing, pushing, Notice, Ticket, UnderWay, begun}
use Rattle.nq_model.specs.protocol.ClientStep.{client_tick, sends_again, at_time}
use Rattle.nq_model.specs.protocol.Hear.{hear, waits_for, breaks, grant_caches, holds_caching, is_put_off, answer_of, answers_call, vacates_lease}
use Rattle.nq_model.specs.protocol.Hear.{vacates_noticed, other_push, loses, reports_to, without_lease, push_refused, breaks_chain, if_broken, holds}
use Rattle.nq_model.specs.protocol.Hear.{takes_grant, takes_optional, answers_call_of, caches_block, purges, knows_revision, then_caches, read_done}
use Rattle.nq_model.specs.protocol.Hear.{with_through, marks_through, lease_done, caches_write, write_done, ends_push, caches_push, push_done, spends}
use Rattle.nq_model.specs.protocol.Hear.{attached, pauses, done_for_call, done_renewal, done_push, done, refused_push, refused, replied, cancels, notes_notice}
use Rattle.nq_model.specs.protocol.Hear.{evicted}
use Rattle.nq_model.specs.protocol.Message.{Message}
use Rattle.nq_model.specs.protocol.Send.{sends_request, after_seq, after_number, takes_push, gives_up, send_next}
use Rattle.nq_model.specs.protocol.Settle.{answers, names_losses, settle}
use Rattle.walk_steps.proofs.ClientMoves.{none-some}
use Rattle.walk_steps.proofs.SendCases.{send-cases}
use Rattle.walk_steps.proofs.SettleCases.{settle-cases}
use Rattle.walk_steps.proofs.StepCases.{tick-cases, evicted-cases, heard-cases}
use Rattle.walk_steps.proofs.Rows.{choice}

-- a client is attached and has no open call, and under a premise no delayed writes
pub record Rests (Premise : Type 0) (c : Client) : Type 0 where
  pub attached : c.attached ≡ true
  pub answered : c.call ≡ None
  pub dirty : Premise → c.dirty ≡ []
  pub push : Premise → c.push ≡ None

module _ (Premise : Type 0) where
  -- the client after a step so far rests
  abbrev Idle : ClientStep → Type 0
  Idle t = Rests Premise t.client

  same : (t u : ClientStep) → u.client.call ≡ t.client.call → u.client.attached ≡ t.client.attached → u.client.dirty ≡ t.client.dirty → u.client.push
      ≡ t.client.push → Idle t → Idle u
  same t u called on kept going h = record {
    attached = on ∙ h.attached;
    answered = called ∙ h.answered;
    dirty = λ k. kept ∙ h.dirty k;
    push = λ k.
        going ∙ h.push k;
  }

  -- ---- what needs no packet, and the next request

  settles : (t : ClientStep) → Idle t → Idle (settle t)
  settles t h = settle-cases t Idle (record {
    idle = λ none. h;
    asking = λ u called own. h;
    read_out = λ u file block lease is read can out. none-some u (sym h.answered ∙ is.called);
    reading = λ u file block lease body is read can below has. none-some u (sym h.answered ∙ is.called);
    read_waits = λ u file block is read waits. h;
    write_out = λ u sync file block body lease is write can out. none-some u (sym h.answered ∙ is.called);
    write_full = λ u sync file block body lease is write can below full. none-some u (sym h.answered ∙ is.called);
    writing = λ u file block body lease is write can below room. none-some u (sym h.answered ∙ is.called);
    putting = λ u file block body lease is put first can below room. none-some u (sym h.answered ∙ is.called);
    write_waits = λ u sync file block body is write waits. h;
    syncing = λ u file is sync clean. none-some u (sym h.answered ∙ is.called);
    sync_waits = λ u file is sync dirty. h;
    others = λ u is needs. h;
  })

  requests : (t u : ClientStep) (job : Job) (request : Request) → u.client.call ≡ t.client.call → u.client.attached ≡ t.client.attached
      → u.client.dirty ≡ t.client.dirty → u.client.push ≡ t.client.push → Idle t → Idle (sends_request u job request)
  unfolding sends_request
  requests t u job request called on kept going h = record {
    attached = on ∙ h.attached;
    answered = called ∙ h.answered;
    dirty = λ k. kept
        ∙ h.dirty k;
    push = λ k. going ∙ h.push k;
  }

  -- a push takes delayed writes from the list; where there are none it is not sent
  begins-push : (t : ClientStep) (file : ℕ) (p : Push) (request : Request) → first_dirty file t.client.dirty ≡ Some p → Idle t
      → Idle (sends_request (after_seq (takes_push t p)) pushing request)
  unfolding sends_request after_seq takes_push
  begins-push t file p request first h = record {
    attached = h.attached;
    answered = h.answered;
    dirty = λ k. ap (drop_dirty p.file p.block) (h.dirty k);
    push = λ k. none-some p (subst (λ ps. first_dirty file ps ≡ Some p) (h.dirty k) first);
  }

  sends : (in_tick : Bool) (t : ClientStep) → Idle t → Idle (send_next in_tick t)
  unfolding after_seq after_number takes_push gives_up
  sends in_tick t h = send-cases in_tick t Idle (record {
    stays_asking = λ ticket asks. h;
    stays = λ free nothing. h;
    pushing = λ file p free first of. begins-push t file p _ first h;
    creating = λ u name blocks free is. requests t _ for_call _ refl refl refl refl h;
    looking_up = λ u name free is. requests t t for_call _ refl refl refl refl h;
    getting_attributes = λ u file free is. requests t t for_call _ refl refl refl refl h;
    reading = λ u file block free is. requests t t for_call _ refl refl refl refl h;
    fetching = λ u file block free is. requests t t for_call _ refl refl refl refl h;
    writing = λ u file block body free is through. requests t _ for_call _ refl refl refl refl h;
    leasing = λ u file block body free is no alone. requests t t for_call _ refl refl refl refl h;
    putting = λ u file block body free is first. requests t _ for_call _ refl refl refl refl h;
    resizing = λ u file blocks free is clean. requests t _ for_call _ refl refl refl refl h;
    removing = λ u file free is clean. requests t _ for_call _ refl refl refl refl h;
    renewing = λ file lease tick free nothing unpaused renewed held of clean quiet. requests t t renewing _ refl refl refl refl h;
  })

  -- ---- what a reply or a notice brings

  vacates : (t : ClientStep) (file : ℕ) (tag : Tag) → Idle t → Idle (vacates_lease t file tag)
  unfolding vacates_lease
  vacates t file tag h = same t (vacates_lease t file tag) refl refl refl refl h

  noticed : (t : ClientStep) (file : ℕ) (o : Option Notice) → Idle t → Idle (vacates_noticed t file o)
  noticed t file None h = h
  noticed t file (Some n) h = vacates t file n.tag h

  reported : (t : ClientStep) (file : ℕ) (o : Option UnderWay) → Idle t → Idle (reports_to t file o)
  unfolding answers
  reported t file None h = h
  reported t file (Some u) h = choice Idle (waits_for file u.written u.call) (names_losses t u.q file) t (λ e. record {
    attached = h.attached;
    answered = refl;
    dirty = h.dirty;
    push = h.push;
  }) (λ e. h)

  broken : (t : ClientStep) (file : ℕ) → Idle t → Idle (breaks_chain t file)
  unfolding loses
  broken t file h =
      let lost : Idle (loses t file) = record {
        attached = h.attached;
        answered = h.answered;
        dirty = λ k. ap (other_dirty file) (h.dirty k);
        push =
            λ k. ap (other_push file) (h.push k);
      } in
      let gone = vacates_noticed (loses t file) file (notice_on file t.client.notices) in
      reported gone file gone.client.call (noticed (loses t file) file _ lost)

  refused-push : (t : ClientStep) (file : ℕ) → Idle t → Idle (push_refused t file)
  unfolding loses without_lease
  refused-push t file h =
      let free = without_lease (loses t file) file in
      let lost : Idle free = record {
        attached = h.attached;
        answered = h.answered;
        dirty = λ k. ap (other_dirty file) (h.dirty k);
        push = λ k.
            ap (other_push file) (h.push k);
      } in
      let gone = vacates_noticed free file (notice_on file t.client.notices) in
      reported gone file gone.client.call (noticed free file _ lost)

  taken : (t : ClientStep) (file : ℕ) (g : Grant) (sent : ℕ) → Idle t → Idle (takes_grant t file g sent)
  unfolding holds
  taken t file g sent h =
      let still : Idle (if_broken t file g) = choice Idle (breaks g (lease_on file t.client.leases) && not (is_clean t.client file))
      (breaks_chain t file) t (λ e. broken t file h) (λ e. h) in
      same (if_broken t file g) (holds (if_broken t file g) file g sent) refl refl refl refl still

  optional : (t : ClientStep) (file : ℕ) (o : Option Grant) (sent : ℕ) → Idle t → Idle (takes_optional t file o sent)
  optional t file None sent h = h
  optional t file (Some g) sent h = taken t file g sent h

  answered : (t : ClientStep) (answer : Answer) (by : Option ℕ) (o : Option UnderWay) → Idle t → Idle (answers_call_of t answer by o)
  unfolding answers
  answered t answer by None h = h
  answered t answer by (Some u) h = record { attached = h.attached; answered = refl; dirty = h.dirty; push = h.push }

  read : (t : ClientStep) (file block : ℕ) (body : List ℕ) (g : Option Grant) (sent number : ℕ) → Idle t → Idle (read_done t file block body g sent number)
  unfolding caches_block
  read t file block body g sent number h =
      let u = takes_optional t file g sent in
      let v = then_caches u file block body g in
      let took : Idle u = optional t file g sent h in
      let kept : Idle v = choice Idle (grant_caches g) (caches_block u file block body) u (λ e. same u (caches_block u file block body) refl refl refl
      refl took) (λ e. took) in
      answered v _ _ v.client.call kept

  through : (on : Bool) (t : ClientStep) → Idle t → Idle (marks_through on t)
  unfolding marks_through
  through on t h = record { attached = h.attached; answered = ap (with_through on) h.answered; dirty = h.dirty; push = h.push }

  leased : (t : ClientStep) (file : ℕ) (g : Option Grant) (sent : ℕ) → Idle t → Idle (lease_done t file g sent)
  leased t file g sent h =
      let u = takes_optional t file g sent in
      choice Idle (grant_caches g) u (marks_through true u) (λ e. optional t file g sent h) (λ e. through true u (optional t file g sent h))

  written : (t : ClientStep) (file block : ℕ) (body : List ℕ) (rev : ℕ) → Idle t → Idle (write_done t file block body rev)
  unfolding caches_block purges knows_revision
  written t file block body rev h =
      let u = caches_write t file block body rev in
      let v = knows_revision u file rev in
      let kept : Idle u = choice Idle (holds_caching (lease_on file t.client.leases) && is_revision_before rev (revision_of file t.client.revisions))
      (caches_block t file block body) (purges t file) (λ e. same t (caches_block t file block body) refl refl refl refl h)
      (λ e. same t (purges t file) refl refl refl refl h) in
      answered v _ _ v.client.call (same u v refl refl refl refl kept)

  pushed : (t : ClientStep) (file block : ℕ) (body : List ℕ) (rev : ℕ) → Idle t → Idle (push_done t file block body rev)
  unfolding caches_block knows_revision ends_push
  pushed t file block body rev h =
      let known = knows_revision (ends_push t) file rev in
      let u = caches_push known file block body in
      let knew : Idle known = record { attached = h.attached; answered = h.answered; dirty = h.dirty; push = λ k. refl } in
      let kept : Idle u = choice Idle (is_some (dirty_at file block t.client.dirty)) known (caches_block known file block body) (λ e. knew)
      (λ e. same known (caches_block known file block body) refl refl refl refl knew) in
      choice Idle (is_clean u.client file) (vacates_noticed u file (notice_on file u.client.notices)) u
      (λ e. noticed u file (notice_on file u.client.notices) kept) (λ e. kept)

  known : (t : ClientStep) (file rev : ℕ) → Idle t → Idle (knows_revision t file rev)
  unfolding knows_revision
  known t file rev h = same t (knows_revision t file rev) refl refl refl refl h

  called : (t : ClientStep) (number sent : ℕ) (request : Request) (r : Reply) → Idle t → Idle (done_for_call t number sent request r)
  called t number sent (Request.Lookup who name) (Reply.Lookup inc file blocks) h = answered t _ _ t.client.call h
  called t number sent (Request.Create who seq name blocks) (Reply.Create inc file) h = answered t _ _ t.client.call h
  called t number sent (Request.GetAttr who file) (Reply.GetAttr inc blocks rev) h = answered t _ _ t.client.call h
  called t number sent (Request.Read who q file block want) (Reply.Read inc rev body grant) h = read t file block body grant sent number h
  called t number sent (Request.GetLease who file want) (Reply.GetLease inc grant) h = leased t file grant sent h
  called t number sent (Request.Write who seq file block first last push body) (Reply.Write inc rev) h = written t file block body rev h
  called t number sent (Request.Resize who seq q file blocks) (Reply.Resize inc rev) h =
      answered (knows_revision t file rev) _ _ (knows_revision t file rev).client.call (known t file rev h)
  called t number sent (Request.Remove who seq q file) (Reply.Remove inc) h = answered t _ _ t.client.call h
  called t number sent request other h = h

  renewed : (t : ClientStep) (sent : ℕ) (request : Request) (r : Reply) → Idle t → Idle (done_renewal t sent request r)
  renewed t sent (Request.GetLease who file want) (Reply.GetLease inc grant) h = optional t file grant sent h
  renewed t sent request other h = h

  stored : (t : ClientStep) (request : Request) (r : Reply) → Idle t → Idle (done_push t request r)
  stored t (Request.Write who seq file block first last push body) (Reply.Write inc rev) h = pushed t file block body rev h
  stored t request other h = h

  finished : (t : ClientStep) (number : ℕ) (ticket : Ticket) (job : Job) (r : Reply) → Idle t → Idle (done t number ticket job r)
  unfolding attached
  finished t number ticket attaching r h = record { attached = refl; answered = h.answered; dirty = h.dirty; push = h.push }
  finished t number ticket for_call r h = called t number ticket.first ticket.request r h
  finished t number ticket renewing r h = renewed t ticket.first ticket.request r h
  finished t number ticket pushing r h = stored t ticket.request r h

  refuses-push : (t : ClientStep) (request : Request) → Idle t → Idle (refused_push t request)
  refuses-push t (Request.Write who seq file block first last push body) h = refused-push t file h
  refuses-push t other h = h

  paused : (t : ClientStep) → Idle t → Idle (pauses t)
  unfolding pauses marks_through
  paused t h = record { attached = h.attached; answered = ap (with_through false) h.answered; dirty = h.dirty; push = h.push }

  refusal : (t : ClientStep) (status : Refusal) (ticket : Ticket) (job : Job) → Idle t → Idle (refused t status ticket job)
  refusal t status ticket attaching h = h
  refusal t status ticket for_call h = choice Idle (is_put_off status) (pauses t) (answers_call t (answer_of status) None) (λ e. paused t h)
      (λ e. answered t (answer_of status) None t.client.call h)
  refusal t status ticket renewing h = choice Idle (is_put_off status) (pauses t) t (λ e. paused t h) (λ e. h)
  refusal t status ticket pushing h = refuses-push t ticket.request h

  spent : (t : ClientStep) → Idle t → Idle (spends t)
  unfolding spends
  spent t h = same t (spends t) refl refl refl refl h

  replies : (t : ClientStep) (number : ℕ) (ticket : Ticket) (r : Reply) → Idle t → Idle (replied t number ticket r)
  replies t number ticket (Reply.Refused inc status) h = refusal (spends t) status ticket ticket.job (spent t h)
  replies t number ticket other h = finished (spends t) number ticket ticket.job other (spent t h)

  evicts : (t : ClientStep) (file : ℕ) (tag : Tag) → Idle t → Idle (evicted t file tag)
  unfolding notes_notice
  evicts t file tag h = evicted-cases t file tag Idle (record {
    clean = λ e. vacates t file tag h;
    waiting = λ e. same t (notes_notice t file tag)
        refl refl refl refl h;
  })

  -- ---- the steps

  pub tick-idles : (c : Client) (now : ℕ) → Rests Premise c → Idle (client_tick c now)
  unfolding sends_again at_time
  tick-idles c now h =
      let at : Idle (begun (at_time c now)) = record { attached = h.attached; answered = h.answered; dirty = h.dirty; push = h.push } in
      tick-cases c now Idle (record {
        again = λ ticket asks long. record { attached = h.attached; answered = h.answered; dirty = h.dirty; push = h.push };
        quiet = λ ticket asks short. at;
        free = λ free. sends true (settle (begun (at_time c now))) (settles (begun (at_time c now)) at);
      })

  pub hear-idles : (c : Client) (k : ℕ) (m : Message) (t : ClientStep) → hear c k m ≡ Some t → Rests Premise c → Idle t
  unfolding cancels
  hear-idles c k m t hears h =
      let from : Idle (begun c) = record { attached = h.attached; answered = h.answered; dirty = h.dirty; push = h.push } in
      heard-cases c k m t Idle hears (record {
        answered = λ xid r ticket is asks own inc counts. sends false (settle (replied (begun c) k ticket r)) (settles (replied (begun c) k ticket r)
            (replies (begun c) k ticket r from));
        noticed = λ xid file tag is older.
            let cut : Idle (cancels (begun c) file) = record { attached = h.attached; answered = h.answered; dirty = h.dirty; push = h.push } in
            let gone = evicted (cancels (begun c) file) file tag in
            sends false (settle gone) (settles gone (evicts (cancels (begun c) file) file tag cut));
      })
