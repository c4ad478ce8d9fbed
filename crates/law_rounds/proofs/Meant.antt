-- In every run a request that wants a lease for a call is of the call that is under way.
use Rattle.std.proofs.Common.{◌≡◌, ◌≢◌, ℕ, ◌+◌, ◌==◌, Bool, true, false, List, [], ◌∷◌, Option, Some, None, is_some, refl, sym, ap, subst, ◌∙◌}
use Rattle.std.specs.Prelude.{slice_get, slice_set}
use Rattle.nq_base.specs.declared.Answer.{Answer}
use Rattle.nq_base.specs.declared.Call.{Call}
use Rattle.nq_base.specs.declared.Event.{Event}
use Rattle.nq_base.specs.declared.Mode.{Mode}
use Rattle.nq_base.specs.declared.Reply.{Reply}
use Rattle.nq_base.specs.declared.Request.{Request}
use Rattle.nq_base.specs.declared.Tag.{Tag}
use Rattle.nq_base.specs.declared.Value.{Value}
use Rattle.nq_base.specs.declared.Want.{Want}
use Rattle.nq_base.specs.declared.Who.{Who}
use Rattle.nq_model.specs.protocol.Client.{Client, ClientStep, begun, for_call, Ticket, UnderWay, lease_on}
use Rattle.nq_model.specs.protocol.ClientStep.{begins_call, is_called, says_busy, client_call, at_time, sends_again, client_tick, attached_client, starts}
use Rattle.nq_model.specs.protocol.ClientStep.{fresh_client, restart}
use Rattle.nq_model.specs.protocol.Hear.{hear, spends, answers_call, takes_optional, then_caches, knows_revision, caches_write, marks_through, push_done}
use Rattle.nq_model.specs.protocol.Hear.{push_refused, attached, pauses, replied, cancels, vacates_lease, notes_notice, evicted, reply_counts}
use Rattle.nq_model.specs.protocol.Message.{Message}
use Rattle.nq_model.specs.protocol.Send.{sends_request, after_seq, after_number, takes_push, gives_up, want_of, read_want, shares_live, send_next}
use Rattle.nq_model.specs.protocol.Settle.{answers, after_read, reads_cached, after_write, marks_written, is_for_call, ticket_is_for_call, settle}
use Rattle.nq_model.specs.protocol.World.{Head, World, after_server, after_client, start, run}
use Rattle.walk_steps.proofs.ClientFacts.{Alone}
use Rattle.walk_steps.proofs.ClientMoves.{some-same, none-some, keeps-or-cancels}
use Rattle.walk_steps.proofs.PartCases.{answers-call-cases, lease-done-cases}
use Rattle.walk_steps.proofs.RepliedCases.{replied-cases}
use Rattle.walk_steps.proofs.SendCases.{send-cases}
use Rattle.walk_steps.proofs.SettleCases.{settle-cases}
use Rattle.walk_steps.proofs.StepCases.{call-cases, unless-cached-cases, tick-cases, evicted-cases, heard-cases}
use Rattle.walk_steps.proofs.Steps.{Changes, nothing, by_client, by_server, ClientActs, called, ticked, restarted, heard, step-changes}
use Rattle.walk_steps.proofs.Worlds.{Holds, run-holds, get-set-same, get-set-other, first-client}
use Rattle.walk_steps.proofs.Rows.{same-number, number-same}
use Rattle.law_rounds.specs.RequestsAreMeant.{wanted, IsMeant, RequestsAreMeant}
use Rattle.law_rounds.proofs.EffortHeard.{Goes, start as spent, start-same, known-goes, optional-goes, pushed-goes, refused-goes}
use Rattle.law_rounds.proofs.EffortCalls.{read-goes}
use Rattle.law_rounds.proofs.EffortCalls.{write-goes, attached-goes}

-- a client's request is meant
Meant : Client → Type 0
Meant c = (t : Ticket) (u : UnderWay) → c.ticket ≡ Some t → t.job ≡ for_call → c.call ≡ Some u → IsMeant c t u

-- a request of another job is never one of the call
other-meant : (c : Client) → ((t : Ticket) → c.ticket ≡ Some t → t.job ≡ for_call → ⊥) → Meant c
unfolding Meant
other-meant c other t u asks job has = absurd (other t asks job)

free-meant : (c : Client) → c.ticket ≡ None → Meant c
free-meant c none = other-meant c (λ t asks job. none-some t (sym none ∙ asks))

idle-meant : (c : Client) → c.call ≡ None → Meant c
unfolding Meant
idle-meant c none t u asks job has = none-some u (sym none ∙ has)

same-meant : (c d : Client) → d.who ≡ c.who → d.term ≡ c.term → d.ticket ≡ c.ticket → d.call ≡ c.call → Meant c → Meant d
unfolding Meant
same-meant c d who term ticket call m t u asks job has =
    let old = m t u (sym ticket ∙ asks) job (sym call ∙ has) in
    record {
      reads = λ w q file block want e. let k = old.reads w q file block want e in (
        k.0,
        k.1 ∙ ap (λ v. Request.Read v u.q file block (Some (wanted c Mode.Reading))) (sym who)
            ∙ ap (λ n. Request.Read d.who u.q file block (Some (record { mode = Mode.Reading; term = n }))) (sym term),
      );
      leases = λ w file want e. let k = old.leases w file want e in (
        k.0,
        k.1 ∙ ap (λ v. Request.GetLease v file (wanted c Mode.Writing)) (sym who)
            ∙ ap (λ n. Request.GetLease d.who file (record { mode = Mode.Writing; term = n })) (sym term),
      );
    }

-- where the request under way is not the call's
settling-meant : (c : Client) → ticket_is_for_call c.ticket ≡ false → Meant c
settling-meant c idle = other-meant c (λ t asks job. clash t job (ap ticket_is_for_call (sym asks) ∙ idle))
  where
    clash : (t : Ticket) → t.job ≡ for_call → is_for_call t.job ≡ false → ⊥
    clash t job e = let bad : true ≡ false = sym (ap is_for_call job) ∙ e in cc

-- ---- what is sent

-- no request that wants a lease
plain-meant : (c : Client) (t : Ticket) (u : UnderWay) → ((who : Who) (q file block : ℕ) (want : Want) → t.request ≡ Request.Read who q file block
    (Some want) → ⊥) → ((who : Who) (file : ℕ) (want : Want) → t.request ≡ Request.GetLease who file want → ⊥) → IsMeant c t u
plain-meant c t u no_read no_lease = record {
  reads = λ who q file block want is. absurd (no_read who q file block want is);
  leases =
      λ who file want is. absurd (no_lease who file want is);
}

module _ (t : ClientStep) (m : Meant t.client) where
  -- a request of the call, where the call is this
  sent : (d : Client) (u : UnderWay) (k : Ticket) → d.ticket ≡ Some k → d.call ≡ Some u → IsMeant d k u → Meant d
  unfolding Meant
  sent d u k asks has is s w asked job other = subst (λ x. IsMeant d x w) (some-same k s (sym asks ∙ asked)) (subst (λ x. IsMeant d k x)
      (some-same u w (sym has ∙ other)) is)

  other-job : (d : Client) (k : Ticket) → d.ticket ≡ Some k → (k.job ≡ for_call → ⊥) → Meant d
  other-job d k asks other = other-meant d (λ s asked job. other (ap (λ (x : Ticket). x.job) (some-same k s (sym asks ∙ asked)) ∙ job))

  sends : (in_tick : Bool) → Meant (send_next in_tick t).client
  unfolding sends_request after_seq after_number takes_push gives_up
  sends in_tick = send-cases in_tick t (λ v. Meant v.client) (record {
    stays_asking = λ ticket is. m;
    stays = λ free none. m;
    pushing = λ file p free first same. other-job _ _ refl (λ e. cc);
    creating = λ u name blocks free is. sent _ u _ refl free.called (plain-meant _ _ u (λ who q f b w e. cc) (λ who f w e. cc));
    looking_up = λ u name free is. sent _ u _ refl free.called (plain-meant _ _ u (λ who q f b w e. cc) (λ who f w e. cc));
    getting_attributes = λ u file free is. sent _ u _ refl free.called (plain-meant _ _ u (λ who q f b w e. cc) (λ who f w e. cc));
    reading = λ u file block free is. sent _ u _ refl free.called (read _ _ u file block refl refl refl is);
    fetching = λ u file block free is. sent _ u _ refl free.called (plain-meant _ _ u (λ who q f b w e. cc) (λ who f w e. cc));
    writing = λ u file block body free is through. sent _ u _ refl free.called (plain-meant _ _ u (λ who q f b w e. cc) (λ who f w e. cc));
    leasing = λ u file block body free is through shares. sent _ u _ refl free.called (lease _ _ u file block body refl refl refl is through);
    putting = λ u file block body free is written. sent _ u _ refl free.called (plain-meant _ _ u (λ who q f b w e. cc) (λ who f w e. cc));
    resizing = λ u file blocks free is clean. sent _ u _ refl free.called (plain-meant _ _ u (λ who q f b w e. cc) (λ who f w e. cc));
    removing = λ u file free is clean. sent _ u _ refl free.called (plain-meant _ _ u (λ who q f b w e. cc) (λ who f w e. cc));
    renewing = λ file lease ticks free none unpaused due held same clean unnoticed. other-job _ _ refl (λ e. cc);
  })
    where
      same : (d : Client) (u : UnderWay) (file : ℕ) (b : Bool) → d.who ≡ t.client.who → d.term ≡ t.client.term → shares_live t.client.now
          (lease_on file t.client.leases) ≡ b → (want : Want) → read_want t.client file ≡ Some want → Some want ≡ Some (wanted d Mode.Reading)
      same d u file true who term e want is = let none : read_want t.client file ≡ None = rw e refl in none-some want (sym none ∙ is)
      same d u file false who term e want is = let some : read_want t.client file ≡ Some (want_of t.client Mode.Reading) = rw e refl in sym is ∙ some
          ∙ ap (λ n. Some (record { mode = Mode.Reading; term = n })) (sym term)

      read : (d : Client) (k : Ticket) (u : UnderWay) (file block : ℕ) → d.who ≡ t.client.who → d.term ≡ t.client.term → k.request ≡ Request.Read
          t.client.who u.q file block (read_want t.client file) → u.call ≡ Call.Read file block → IsMeant d k u
      read d k u file block mine term request is = record {
        reads = λ who q f b want e.
            let both : Request.Read t.client.who u.q file block (read_want t.client file) ≡ Request.Read who q f b (Some want) = sym request ∙ e in
            let same_file : file ≡ f = cc in
            let same_block : block ≡ b = cc in
            let same_want : read_want t.client file ≡ Some want = cc in
            let wants = same d u file (shares_live t.client.now (lease_on file t.client.leases)) mine term refl want same_want in (
              is ∙ ap (λ g. Call.Read g block) same_file ∙ ap (λ n. Call.Read f n) same_block,
              request ∙ ap (λ w. Request.Read t.client.who u.q file block w) (same_want ∙ wants)
                  ∙ ap (λ v. Request.Read v u.q file block (Some (wanted d Mode.Reading))) (sym mine)
                  ∙ ap (λ g. Request.Read d.who u.q g block (Some (wanted d Mode.Reading))) same_file
                  ∙ ap (λ n. Request.Read d.who u.q f n (Some (wanted d Mode.Reading))) same_block,
            );
        leases = λ who f want e. let both : Request.Read t.client.who u.q file block (read_want t.client file) ≡ Request.GetLease who f want =
            sym request ∙ e in absurd (cc);
      }

      lease : (d : Client) (k : Ticket) (u : UnderWay) (file block : ℕ) (body : List ℕ) → d.who ≡ t.client.who → d.term ≡ t.client.term → k.request
          ≡ Request.GetLease t.client.who file (want_of t.client Mode.Writing) → u.call ≡ Call.Write file block body → u.through ≡ false → IsMeant d k u
      lease d k u file block body mine term request is through = record {
        reads = λ who q f b want e. let both : Request.GetLease t.client.who file (want_of t.client Mode.Writing) ≡ Request.Read who q f b
            (Some want) = sym request ∙ e in absurd (cc);
        leases = λ who f want e.
            let both : Request.GetLease t.client.who file (want_of t.client Mode.Writing) ≡ Request.GetLease who f want = sym request ∙ e in
            let same_file : file ≡ f = cc in (
              record { block = block; body = body; is = is ∙ ap (λ g. Call.Write g block body) same_file; delayed = through },
              request ∙ ap (λ v. Request.GetLease v file (want_of t.client Mode.Writing)) (sym mine)
                  ∙ ap (λ n. Request.GetLease d.who file (record { mode = Mode.Writing; term = n })) (sym term)
                  ∙ ap (λ g. Request.GetLease d.who g (wanted d Mode.Writing)) same_file,
            );
      }

  -- ---- what needs no packet

  settles : Meant (settle t).client
  unfolding answers after_read reads_cached after_write marks_written
  settles = settle-cases t (λ v. Meant v.client) (record {
    idle = λ none. m;
    asking = λ u has own. m;
    read_out = λ u file block lease is read can out. idle-meant _ refl;
    reading = λ u file block lease body is read can below has. idle-meant _ refl;
    read_waits = λ u file block is read waits. m;
    write_out = λ u sync file block body lease is write can out. idle-meant _ refl;
    write_full = λ u sync file block body lease is write can below full. idle-meant _ refl;
    writing = λ u file block body lease is write can below room. idle-meant _ refl;
    putting = λ u file block body lease is put first can below room. settling-meant _ is.idle;
    write_waits = λ u sync file block body is write waits. m;
    syncing = λ u file is sync clean. idle-meant _ refl;
    sync_waits = λ u file is sync dirty. m;
    others = λ u is needs. m;
  })

-- sent again, it is the same request
again-meant : (c : Client) (ticket : Ticket) → c.ticket ≡ Some ticket → Meant c → Meant (sends_again (begun (at_time c (c.now + 1))) ticket).client
unfolding at_time sends_again Meant
again-meant c ticket is m t u asks job has =
    let same : record ticket { last = c.now + 1 } ≡ t = some-same _ t asks in
    let one : ticket.request ≡ t.request = ap (λ (x : Ticket). x.request) same in
    let old = m ticket u is (ap (λ (x : Ticket). x.job) same ∙ job) has in
    record {
      reads = λ who q file block want e. let k = old.reads who q file block want (one ∙ e) in (k.0, sym one ∙ k.1);
      leases = λ who file want e. let k = old.leases who file want (one ∙ e) in (k.0, sym one ∙ k.1);
    }

-- a notice leaves the call and the request
evicted-meant : (t : ClientStep) (file : ℕ) (tag : Tag) → Meant t.client → Meant (evicted t file tag).client
unfolding vacates_lease notes_notice
evicted-meant t file tag m = evicted-cases t file tag (λ v. Meant v.client) (record {
  clean = λ e. same-meant t.client _ refl refl refl refl m;
  waiting = λ e. same-meant t.client _ refl refl refl refl m;
})

-- ---- each step

-- after a reply the request under way is spent
module _ (c : Client) where
  pub replied-free : (number : ℕ) (ticket : Ticket) (r : Reply) → c.ticket ≡ Some ticket → reply_counts r ticket ≡ true → Alone c
      → (replied (begun c) number ticket r).client.ticket ≡ None
  unfolding answers pauses marks_through spends
  replied-free number ticket r asks counts alone = replied-cases c number ticket r (λ v. v.client.ticket ≡ None) (alone.asking.ticketed ticket
      asks).fits counts (record {
        attaching = λ who inc job request is. gone (attached (spent c)) 1 (attached-goes 3 5 c);
        named = λ answer job is. said (spent c) answer None free;
        reading = λ who q file block want inc rev body grant of is. said (then_caches (takes_optional (spent c) file grant ticket.first) file block body
            grant) (Answer.Ok (Value.Body body)) (Some number) (gone (then_caches (takes_optional (spent c) file grant ticket.first) file block body
            grant) 1 (read-goes 3 5 (spent c) file block body grant ticket.first));
        leasing = λ who file want inc grant of is.
            let taken = gone (takes_optional (spent c) file grant ticket.first) 1 (optional-goes 3 5 (spent c) file grant ticket.first) in
            lease-done-cases (spent c) file grant ticket.first (λ v. v.client.ticket ≡ None) (λ caching. taken) (λ other. taken);
        writing = λ who seq file block first last body inc rev of is. said (knows_revision (caches_write (spent c) file block body rev) file rev)
            (Answer.Ok Value.Nothing) None (gone (knows_revision (caches_write (spent c) file block body rev) file rev) 1 (write-goes 3 5 (spent c) file
            block body rev));
        resizing = λ who seq q file blocks inc rev of is. said (knows_revision (spent c) file rev) (Answer.Ok Value.Nothing) None
            (gone (knows_revision (spent c) file rev) 0 (known-goes 3 5 (spent c) file rev));
        removing = λ who seq q file inc of is. said (spent c) (Answer.Ok Value.Nothing) None free;
        renewing = λ who file want inc grant job request is. gone (takes_optional (spent c) file grant ticket.first) 1 (optional-goes 3 5 (spent c) file
            grant ticket.first);
        pushed = λ who seq file block first last base body inc rev job request is. gone (push_done (spent c) file block body rev) 1
            (pushed-goes 3 5 (spent c) file block body rev);
        putting_off = λ inc status of is off. refl;
        refusing = λ inc status job is counted final. said (spent c) _ None free;
        renewal_refused = λ inc status job is final. free;
        push_refused = λ who seq file block first last base body inc status job request is final. gone (push_refused (spent c) file) 1
            (refused-goes 3 5 (spent c) file);
      })
    where
      free : (spent c).client.ticket ≡ None
      free = (start-same 3 5 c).1

      gone : (v : ClientStep) (n : ℕ) → Goes 3 5 n (spent c) v → v.client.ticket ≡ None
      gone v n g = g.ticket ∙ free

      said : (v : ClientStep) (answer : Answer) (by : Option ℕ) → v.client.ticket ≡ None → (answers_call v answer by).client.ticket ≡ None
      said v answer by none = answers-call-cases v answer by (λ x. x.client.ticket ≡ None) (λ idle. none) (λ u is. none)

  next : (t : ClientStep) (in_tick : Bool) → Meant t.client → Meant (send_next in_tick (settle t)).client
  next t in_tick m = sends (settle t) (settles t m) in_tick

  cut : (file : ℕ) → Meant c → Meant (cancels (begun c) file).client
  unfolding cancels Meant
  cut file m t u asks job has =
      let old = m t u (keeps-or-cancels file c.ticket t asks).0 job has in
      record { reads = old.reads; leases = old.leases }

  hear-meant : (k : ℕ) (msg : Message) (t : ClientStep) → Alone c → Meant c → hear c k msg ≡ Some t → Meant t.client
  hear-meant k msg t alone m hears = heard-cases c k msg t (λ v. Meant v.client) hears (record {
    answered = λ xid r ticket is asks own inc counts. next (replied (begun c) k ticket r) false (free-meant _ (replied-free k ticket r asks counts alone));
    noticed = λ xid file tag is older. next (evicted (cancels (begun c) file) file tag) false (evicted-meant (cancels (begun c) file) file tag (cut file m));
  })

  call-meant : (op : Call) → Alone c → Meant c → Meant (client_call c op).client
  unfolding says_busy begins_call is_called answers
  call-meant op alone m = call-cases c op (λ v. Meant v.client) (record {
    busy = λ why. same-meant c _ refl refl refl refl m;
    telling = λ file loss losses idle on changes has. idle-meant _ refl;
    going = λ idle on none.
        let asked : Meant (is_called (begins_call c op) op).client = other-meant _ (λ t asks job. let has = alone.asking.called t asks job in
        let bad : false ≡ true = ap is_some (sym idle) ∙ has in cc) in
        let settled = settles (is_called (begins_call c op) op) asked in
        unless-cached-cases (settle (is_called (begins_call c op) op)) (λ v. Meant v.client) (λ cached. settled)
        (λ other. sends (settle (is_called (begins_call c op) op)) settled false);
  })

  tick-meant : Meant c → Meant (client_tick c (c.now + 1)).client
  unfolding at_time sends_again
  tick-meant m = tick-cases c (c.now + 1) (λ v. Meant v.client) (record {
    again = λ ticket is late. resent ticket is;
    quiet = λ ticket is soon. same-meant c _ refl refl refl refl m;
    free = λ none. next (begun (at_time c (c.now + 1))) true (free-meant _ none);
  })
    where
      resent : (ticket : Ticket) → c.ticket ≡ Some ticket → Meant (sends_again (begun (at_time c (c.now + 1))) ticket).client
      resent ticket is = again-meant c ticket is m

  restart-meant : Meant (restart c).client
  unfolding starts fresh_client
  restart-meant = idle-meant _ refl

-- ---- worlds

EachMeant : World → Type 0
EachMeant w = (host : ℕ) (c : Client) → slice_get w.clients host ≡ Some c → Meant c

acted : (w : World) (host : ℕ) (c : Client) (t : ClientStep) → ClientActs w host c t → Alone c → Meant c → Meant t.client
acted w host c t (called op is) own m = subst (λ (v : ClientStep). Meant v.client) (sym is) (call-meant c op own m)
acted w host c t (ticked is) own m = subst (λ (v : ClientStep). Meant v.client) (sym is) (tick-meant c m)
acted w host c t (restarted is) own m = subst (λ (v : ClientStep). Meant v.client) (sym is) (restart-meant c)
acted w host c t (heard k p sent to hears) own m = hear-meant c k p.message t own m hears

client-meant : (w : World) (host : ℕ) (c : Client) (t : ClientStep) → slice_get w.clients host ≡ Some c → ClientActs w host c t → Holds w
    → EachMeant w → EachMeant (after_client w host t)
unfolding after_client EachMeant
client-meant w host c t at acts before all = λ other d is. case other d (other == host) refl is
  where
    here : Meant t.client
    here = acted w host c t acts (before.clients host c at).alone (all host c at)

    case : (other : ℕ) (d : Client) (b : Bool) → (other == host) ≡ b → slice_get (slice_set w.clients host t.client) other ≡ Some d → Meant d
    case other d true same is =
        let one : other ≡ host = same-number other host same in
        let new : d ≡ t.client = get-set-same w.clients host t.client d (subst (λ n. slice_get (slice_set w.clients host t.client) n ≡ Some d) one is) in
        subst (λ x. Meant x) (sym new) here
    case other d false differs is =
        let apart : other ≢ host = λ same. let yes : (other == host) ≡ true = number-same other host same in absurd (cc) in
        all other d (sym (get-set-other w.clients host other t.client apart) ∙ is)

changed-meant : (w v : World) → Changes w v → Holds w → EachMeant w → EachMeant v
unfolding after_server EachMeant
changed-meant w v (nothing is) before all = subst EachMeant (sym is) all
changed-meant w v (by_client host c t at acts to) before all = subst EachMeant (sym to) (client-meant w host c t at acts before all)
changed-meant w v (by_server t acts to) before all = subst EachMeant (sym to) all

first-meant : (head : Head) → EachMeant (start head)
unfolding start attached_client fresh_client EachMeant
first-meant head host c is =
    let same = first-client head.term 0 head.hosts host c is in
    subst (λ x. Meant x) (sym same) (idle-meant _ refl)

run-meant : (head : Head) (events : List Event) → EachMeant (run head events)
run-meant head [] = first-meant head
run-meant head (e ∷ events) = changed-meant (run head events) (run head (e ∷ events)) (step-changes (run head events) e) (run-holds head events)
    (run-meant head events)

pub requests-are-meant : RequestsAreMeant
unfolding EachMeant Meant
requests-are-meant head events host c t u at asks job has = run-meant head events host c at t u asks job has
