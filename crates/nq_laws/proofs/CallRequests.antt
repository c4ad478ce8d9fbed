-- In every run a request for a call is about the file of the call, and its client does not pause.
use Rattle.std.proofs.Common.{◌≡◌, ◌≢◌, ◌≤◌, ℕ, ◌+◌, ◌==◌, Bool, true, false, List, [], ◌∷◌, Some, None, is_some, refl, sym, ap, subst, ◌∙◌, arith}
use Rattle.std.specs.Prelude.{slice_get, slice_set}
use Rattle.nq_base.specs.declared.Access.{Access}
use Rattle.nq_base.specs.declared.Call.{Call}
use Rattle.nq_base.specs.declared.Event.{Event}
use Rattle.nq_base.specs.declared.Request.{Request}
use Rattle.nq_base.specs.declared.Tag.{Tag}
use Rattle.nq_model.specs.protocol.Client.{Client, ClientStep, begun, for_call, Ticket, UnderWay, lease_on}
use Rattle.nq_model.specs.protocol.ClientStep.{begins_call, is_called, says_busy, client_call, at_time, sends_again, client_tick, attached_client, starts}
use Rattle.nq_model.specs.protocol.ClientStep.{fresh_client, restart}
use Rattle.nq_model.specs.protocol.Hear.{hear, replied, cancels, vacates_lease, notes_notice, evicted}
use Rattle.nq_model.specs.protocol.Message.{Message}
use Rattle.nq_model.specs.protocol.Send.{sends_request, after_seq, after_number, takes_push, gives_up, read_want, shares_live, send_next}
use Rattle.nq_model.specs.protocol.ServerStep.{access_of}
use Rattle.nq_model.specs.protocol.Settle.{answers, after_read, reads_cached, after_write, marks_written, is_for_call, ticket_is_for_call, settle}
use Rattle.nq_model.specs.protocol.World.{Head, World, after_server, after_client, start, run}
use Rattle.walk_steps.proofs.ClientFacts.{Alone}
use Rattle.walk_steps.proofs.ClientMoves.{some-same, none-some, keeps-or-cancels}
use Rattle.walk_steps.proofs.SendCases.{send-cases}
use Rattle.walk_steps.proofs.SettleCases.{settle-cases}
use Rattle.walk_steps.proofs.StepCases.{call-cases, unless-cached-cases, tick-cases, evicted-cases, heard-cases}
use Rattle.walk_steps.proofs.Steps.{Changes, nothing, by_client, by_server, ClientActs, called, ticked, restarted, heard, step-changes}
use Rattle.walk_steps.proofs.Worlds.{Holds, run-holds, get-set-same, get-set-other, first-client}
use Rattle.walk_steps.proofs.Rows.{same-number, number-same}
use Rattle.law_rounds.proofs.Meant.{replied-free}
use Rattle.nq_laws.specs.PutOff.{file_of, access_by}
use Rattle.nq_laws.proofs.Hope.{file_of_call, access_of_call}

-- a request is about the file of a call, and does with it what the call does
pub record IsAbout (r : Request) (op : Call) : Type 0 where
  pub about : (f : ℕ) → file_of r ≡ Some f → (file_of_call op ≡ Some f) × (access_by r ≡ access_of_call op)

-- so is the request for a call, and its client does not pause
pub record Asks (c : Client) : Type 0 where
  pub about : (t : Ticket) (u : UnderWay) → c.ticket ≡ Some t → t.job ≡ for_call → c.call ≡ Some u → IsAbout t.request u.call
  pub early : (t : Ticket) → c.ticket ≡ Some t → t.job ≡ for_call → c.pause ≤ c.now

other-asks : (c : Client) → ((t : Ticket) → c.ticket ≡ Some t → t.job ≡ for_call → ⊥) → Asks c
other-asks c other = record { about = λ t u asks job has. absurd (other t asks job); early = λ t asks job. absurd (other t asks job) }

free-asks : (c : Client) → c.ticket ≡ None → Asks c
free-asks c none = other-asks c (λ t asks job. none-some t (sym none ∙ asks))

same-asks : (c d : Client) → d.ticket ≡ c.ticket → d.call ≡ c.call → d.pause ≡ c.pause → c.now ≤ d.now → Asks c → Asks d
same-asks c d ticket calls pause later m = record {
  about = λ t u asks job has. m.about t u (sym ticket ∙ asks) job (sym calls ∙ has);
  early = λ t asks job. let e = m.early t (sym ticket ∙ asks) job in omega arith;
}

idle-asks : (c d : Client) → d.ticket ≡ c.ticket → d.call ≡ None → d.pause ≡ c.pause → d.now ≡ c.now → Asks c → Asks d
idle-asks c d ticket none pause now m = record {
  about = λ t u asks job has. none-some u (sym none ∙ has);
  early = λ t asks job. let e = m.early t (sym ticket ∙ asks) job in omega arith;
}

-- where the request under way is not the call's
settling-asks : (c : Client) → ticket_is_for_call c.ticket ≡ false → Asks c
settling-asks c idle = other-asks c (λ t asks job. clash t job (ap ticket_is_for_call (sym asks) ∙ idle))
  where
    clash : (t : Ticket) → t.job ≡ for_call → is_for_call t.job ≡ false → ⊥
    clash t job e = let bad : true ≡ false = sym (ap is_for_call job) ∙ e in cc

-- ---- what is sent

none-about : (r : Request) (op : Call) → file_of r ≡ None → IsAbout r op
none-about r op none = record { about = λ f on. none-some f (sym none ∙ on) }

some-about : (r : Request) (op : Call) (file : ℕ) → file_of r ≡ Some file → file_of_call op ≡ Some file → access_by r ≡ access_of_call op → IsAbout r op
some-about r op file is has access = record { about = λ f on. (has ∙ sym is ∙ on, access) }

module _ (t : ClientStep) (m : Asks t.client) where
  -- a request of the call, where the call is this
  sent : (d : Client) (u : UnderWay) (k : Ticket) (op : Call) → d.ticket ≡ Some k → d.call ≡ Some u → u.call ≡ op → d.pause ≤ d.now → IsAbout k.request op
      → Asks d
  sent d u k op asks has of early is = record {
    about = λ s w asked job other. subst (λ x. IsAbout x w.call) (ap (λ (x : Ticket). x.request) (some-same k s (sym asks
        ∙ asked))) (subst (λ x. IsAbout k.request x) (sym of ∙ ap (λ (x : UnderWay). x.call) (some-same u w (sym has ∙ other))) is);
    early = λ s asked job. early;
  }

  other-job : (d : Client) (k : Ticket) → d.ticket ≡ Some k → (k.job ≡ for_call → ⊥) → Asks d
  other-job d k asks other = other-asks d (λ s asked job. other (ap (λ (x : Ticket). x.job) (some-same k s (sym asks ∙ asked)) ∙ job))

  sends : (in_tick : Bool) → Asks (send_next in_tick t).client
  unfolding sends_request after_seq after_number takes_push gives_up
  sends in_tick = send-cases in_tick t (λ v. Asks v.client) (record {
    stays_asking = λ ticket is. m;
    stays = λ free none. m;
    pushing = λ file p free first same. other-job _ _ refl (λ e. cc);
    creating = λ u name blocks free is. sent _ u _ _ refl free.called is free.unpaused (none-about _ _ refl);
    looking_up = λ u name free is. sent _ u _ _ refl free.called is free.unpaused (none-about _ _ refl);
    getting_attributes = λ u file free is. sent _ u _ _ refl free.called is free.unpaused (none-about _ _ refl);
    reading = λ u file block free is. sent _ u _ _ refl free.called is free.unpaused (some-about _ _ file refl refl (reads file (shares_live t.client.now
        (lease_on file t.client.leases)) refl));
    fetching = λ u file block free is. sent _ u _ _ refl free.called is free.unpaused (some-about _ _ file refl refl refl);
    writing = λ u file block body free is through. sent _ u _ _ refl free.called is free.unpaused (some-about _ _ file refl refl refl);
    leasing = λ u file block body free is through shares. sent _ u _ _ refl free.called is free.unpaused (some-about _ _ file refl refl refl);
    putting = λ u file block body free is written. sent _ u _ _ refl free.called is free.unpaused (some-about _ _ file refl refl refl);
    resizing = λ u file blocks free is clean. sent _ u _ _ refl free.called is free.unpaused (some-about _ _ file refl refl refl);
    removing = λ u file free is clean. sent _ u _ _ refl free.called is free.unpaused (some-about _ _ file refl refl refl);
    renewing = λ file lease ticks free none unpaused due held same clean unnoticed. other-job _ _ refl (λ e. cc);
  })
    where
      reads : (file : ℕ) (b : Bool) → shares_live t.client.now (lease_on file t.client.leases) ≡ b → access_of (read_want t.client file) ≡ Access.Read
      reads file true e = rw e refl
      reads file false e = rw e refl

  -- ---- what needs no packet

  settles : Asks (settle t).client
  unfolding answers after_read reads_cached after_write marks_written
  settles = settle-cases t (λ v. Asks v.client) (record {
    idle = λ none. m;
    asking = λ u has own. m;
    read_out = λ u file block lease is read can out. idle-asks t.client _ refl refl refl refl m;
    reading = λ u file block lease body is read can below has. idle-asks t.client _ refl refl refl refl m;
    read_waits = λ u file block is read waits. m;
    write_out = λ u sync file block body lease is write can out. idle-asks t.client _ refl refl refl refl m;
    write_full = λ u sync file block body lease is write can below full. idle-asks t.client _ refl refl refl refl m;
    writing = λ u file block body lease is write can below room. idle-asks t.client _ refl refl refl refl m;
    putting = λ u file block body lease is put first can below room. settling-asks _ is.idle;
    write_waits = λ u sync file block body is write waits. m;
    syncing = λ u file is sync clean. idle-asks t.client _ refl refl refl refl m;
    sync_waits = λ u file is sync dirty. m;
    others = λ u is needs. m;
  })

-- sent again, it is the same request
again-asks : (c : Client) (ticket : Ticket) → c.ticket ≡ Some ticket → Asks c → Asks (sends_again (begun (at_time c (c.now + 1))) ticket).client
unfolding at_time sends_again
again-asks c ticket is m = record {
  about = λ t u asks job has.
      let same : record ticket { last = c.now + 1 } ≡ t = some-same _ t asks in
      subst (λ r. IsAbout r u.call) (ap (λ (x : Ticket). x.request) same) (m.about ticket u is (ap (λ (x : Ticket). x.job) same ∙ job) has);
  early = λ t asks job.
      let same : record ticket { last = c.now + 1 } ≡ t = some-same _ t asks in
      let e = m.early ticket is (ap (λ (x : Ticket). x.job) same ∙ job) in
      omega arith;
}

-- a notice leaves the call and the request
evicted-asks : (t : ClientStep) (file : ℕ) (tag : Tag) → Asks t.client → Asks (evicted t file tag).client
unfolding vacates_lease notes_notice
evicted-asks t file tag m = evicted-cases t file tag (λ v. Asks v.client) (record {
  clean = λ e. same-asks t.client _ refl refl refl (omega arith) m;
  waiting = λ e. same-asks t.client _ refl refl refl (omega arith) m;
})

-- ---- each step

module _ (c : Client) where
  next : (t : ClientStep) (in_tick : Bool) → Asks t.client → Asks (send_next in_tick (settle t)).client
  next t in_tick m = sends (settle t) (settles t m) in_tick

  cut : (file : ℕ) → Asks c → Asks (cancels (begun c) file).client
  unfolding cancels
  cut file m = record {
    about = λ t u asks job has. m.about t u (keeps-or-cancels file c.ticket t asks).0 job has;
    early = λ t asks job. m.early t (keeps-or-cancels file c.ticket t asks).0 job;
  }

  hear-asks : (k : ℕ) (msg : Message) (t : ClientStep) → Alone c → Asks c → hear c k msg ≡ Some t → Asks t.client
  hear-asks k msg t alone m hears = heard-cases c k msg t (λ v. Asks v.client) hears (record {
    answered = λ xid r ticket is asks own inc counts. next (replied (begun c) k ticket r) false (free-asks _ (replied-free c k ticket r asks counts alone));
    noticed = λ xid file tag is older. next (evicted (cancels (begun c) file) file tag) false (evicted-asks (cancels (begun c) file) file tag (cut file m));
  })

  call-asks : (op : Call) → Alone c → Asks c → Asks (client_call c op).client
  unfolding says_busy begins_call is_called answers
  call-asks op alone m = call-cases c op (λ v. Asks v.client) (record {
    busy = λ why. same-asks c _ refl refl refl (omega arith) m;
    telling = λ file loss losses idle on changes has. idle-asks c _ refl refl refl refl m;
    going = λ idle on none.
        let asked : Asks (is_called (begins_call c op) op).client = other-asks _ (λ t asks job. let has =
        alone.asking.called t asks job in let bad : false ≡ true = ap is_some (sym idle) ∙ has in cc) in
        let settled = settles (is_called (begins_call c op) op) asked in
        unless-cached-cases (settle (is_called (begins_call c op) op)) (λ v. Asks v.client) (λ cached. settled) (λ other. sends (settle (is_called
        (begins_call c op) op)) settled false);
  })

  tick-asks : Asks c → Asks (client_tick c (c.now + 1)).client
  unfolding at_time sends_again
  tick-asks m = tick-cases c (c.now + 1) (λ v. Asks v.client) (record {
    again = λ ticket is late. resent ticket is;
    quiet = λ ticket is soon. same-asks c _ refl refl refl (omega arith) m;
    free = λ none. next (begun (at_time c (c.now + 1))) true (free-asks _ none);
  })
    where
      resent : (ticket : Ticket) → c.ticket ≡ Some ticket → Asks (sends_again (begun (at_time c (c.now + 1))) ticket).client
      resent ticket is = again-asks c ticket is m

  restart-asks : Asks (restart c).client
  unfolding starts fresh_client
  restart-asks = other-asks _ (λ t asks job. let same = some-same _ t asks in let bad : _ ≡ for_call = ap (λ (x : Ticket). x.job) same ∙ job in cc)

-- ---- worlds

EachAsks : World → Type 0
EachAsks w = (host : ℕ) (c : Client) → slice_get w.clients host ≡ Some c → Asks c

acted : (w : World) (host : ℕ) (c : Client) (t : ClientStep) → ClientActs w host c t → Alone c → Asks c → Asks t.client
acted w host c t (called op is) own m = subst (λ (v : ClientStep). Asks v.client) (sym is) (call-asks c op own m)
acted w host c t (ticked is) own m = subst (λ (v : ClientStep). Asks v.client) (sym is) (tick-asks c m)
acted w host c t (restarted is) own m = subst (λ (v : ClientStep). Asks v.client) (sym is) (restart-asks c)
acted w host c t (heard k p sent to hears) own m = hear-asks c k p.message t own m hears

client-asks : (w : World) (host : ℕ) (c : Client) (t : ClientStep) → slice_get w.clients host ≡ Some c → ClientActs w host c t → Holds w → EachAsks w
    → EachAsks (after_client w host t)
unfolding after_client EachAsks
client-asks w host c t at acts before all = λ other d is. case other d (other == host) refl is
  where
    here : Asks t.client
    here = acted w host c t acts (before.clients host c at).alone (all host c at)

    case : (other : ℕ) (d : Client) (b : Bool) → (other == host) ≡ b → slice_get (slice_set w.clients host t.client) other ≡ Some d → Asks d
    case other d true same is =
        let one : other ≡ host = same-number other host same in
        let new : d ≡ t.client = get-set-same w.clients host t.client d (subst (λ n. slice_get (slice_set w.clients host t.client) n ≡ Some d) one is) in
        subst (λ x. Asks x) (sym new) here
    case other d false differs is =
        let apart : other ≢ host = λ same. let yes : (other == host) ≡ true = number-same other host same in absurd (cc) in
        all other d (sym (get-set-other w.clients host other t.client apart) ∙ is)

changed-asks : (w v : World) → Changes w v → Holds w → EachAsks w → EachAsks v
unfolding after_server EachAsks
changed-asks w v (nothing is) before all = subst EachAsks (sym is) all
changed-asks w v (by_client host c t at acts to) before all = subst EachAsks (sym to) (client-asks w host c t at acts before all)
changed-asks w v (by_server t acts to) before all = subst EachAsks (sym to) all

first-asks : (head : Head) → EachAsks (start head)
unfolding start attached_client fresh_client EachAsks
first-asks head host c is =
    let same = first-client head.term 0 head.hosts host c is in
    subst (λ x. Asks x) (sym same) (free-asks _ refl)

run-each : (head : Head) (events : List Event) → EachAsks (run head events)
run-each head [] = first-asks head
run-each head (e ∷ events) = changed-asks (run head events) (run head (e ∷ events)) (step-changes (run head events) e) (run-holds head events)
    (run-each head events)

pub run-asks : (head : Head) (events : List Event) (host : ℕ) (c : Client) → slice_get (run head events).clients host ≡ Some c → Asks c
unfolding EachAsks
run-asks head events host c at = run-each head events host c at
