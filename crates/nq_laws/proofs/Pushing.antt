-- In every run a client whose push is under way has the delayed writes that it pushes.
use Rattle.std.proofs.Common.{◌≡◌, ◌≢◌, ℕ, ◌+◌, ◌==◌, Bool, true, false, List, [], ◌∷◌, Some, None, is_some, refl, sym, ap, subst, ◌∙◌}
use Rattle.std.specs.Prelude.{slice_get, slice_set}
use Rattle.nq_base.specs.declared.Call.{Call}
use Rattle.nq_base.specs.declared.Event.{Event}
use Rattle.nq_base.specs.declared.Tag.{Tag}
use Rattle.law_rounds.proofs.Meant.{replied-free}
use Rattle.nq_model.specs.protocol.Client.{Client, ClientStep, begun, pushing, Ticket}
use Rattle.nq_model.specs.protocol.ClientStep.{begins_call, is_called, says_busy, client_call, at_time, sends_again, client_tick, attached_client, starts}
use Rattle.nq_model.specs.protocol.ClientStep.{fresh_client, restart}
use Rattle.nq_model.specs.protocol.Hear.{hear, replied, cancels, vacates_lease, notes_notice, evicted}
use Rattle.nq_model.specs.protocol.Message.{Message}
use Rattle.nq_model.specs.protocol.Send.{sends_request, after_seq, after_number, takes_push, gives_up, send_next}
use Rattle.nq_model.specs.protocol.Settle.{answers, after_read, reads_cached, after_write, marks_written, settle}
use Rattle.nq_model.specs.protocol.World.{Head, World, after_server, after_client, start, run}
use Rattle.walk_steps.proofs.ClientFacts.{Alone}
use Rattle.walk_steps.proofs.ClientMoves.{some-same, none-some, keeps-or-cancels}
use Rattle.walk_steps.proofs.Rows.{same-number, number-same}
use Rattle.walk_steps.proofs.SendCases.{send-cases}
use Rattle.walk_steps.proofs.SettleCases.{settle-cases}
use Rattle.walk_steps.proofs.StepCases.{call-cases, unless-cached-cases, tick-cases, evicted-cases, heard-cases}
use Rattle.walk_steps.proofs.Steps.{Changes, nothing, by_client, by_server, ClientActs, called, ticked, restarted, heard, step-changes}
use Rattle.walk_steps.proofs.Worlds.{Holds, run-holds, get-set-same, get-set-other, first-client}

-- where the request under way is a push, there is one
abbrev pub HasPush : Client → Type 0
HasPush c = (t : Ticket) → c.ticket ≡ Some t → t.job ≡ pushing → is_some c.push ≡ true

-- a request of another job is no push
not-it : (a b : Ticket) → Some a ≡ Some b → b.job ≡ pushing → (a.job ≡ pushing → ⊥) → ⊥
not-it a b same job other = other (ap (λ (x : Ticket). x.job) (some-same a b same) ∙ job)

free-push : (c : Client) → c.ticket ≡ None → HasPush c
free-push c none t is job = none-some t (sym none ∙ is)

module _ (t : ClientStep) (m : HasPush t.client) where
  sends : (in_tick : Bool) → HasPush (send_next in_tick t).client
  unfolding sends_request after_seq after_number takes_push gives_up
  sends in_tick = send-cases in_tick t (λ v. HasPush v.client) (record {
    stays_asking = λ ticket is. m;
    stays = λ free none. m;
    pushing = λ file p free first same k e job. refl;
    creating = λ u name blocks free is. (λ k e job. absurd (not-it _ k e job (λ bad. cc)));
    looking_up = λ u name free is. (λ k e job. absurd (not-it _ k e job (λ bad. cc)));
    getting_attributes = λ u file free is. (λ k e job. absurd (not-it _ k e job (λ bad. cc)));
    reading = λ u file block free is. (λ k e job. absurd (not-it _ k e job (λ bad. cc)));
    fetching = λ u file block free is. (λ k e job. absurd (not-it _ k e job (λ bad. cc)));
    writing = λ u file block body free is through. (λ k e job. absurd (not-it _ k e job (λ bad. cc)));
    leasing = λ u file block body free is through shares. (λ k e job. absurd (not-it _ k e job (λ bad. cc)));
    putting = λ u file block body free is written. (λ k e job. absurd (not-it _ k e job (λ bad. cc)));
    resizing = λ u file blocks free is clean. (λ k e job. absurd (not-it _ k e job (λ bad. cc)));
    removing = λ u file free is clean. (λ k e job. absurd (not-it _ k e job (λ bad. cc)));
    renewing = λ file lease ticks free none unpaused due held same clean unnoticed. (λ k e job. absurd (not-it _ k e job (λ bad. cc)));
  })

  settles : HasPush (settle t).client
  unfolding answers after_read reads_cached after_write marks_written
  settles = settle-cases t (λ v. HasPush v.client) (record {
    idle = λ none. m;
    asking = λ u has own. m;
    read_out = λ u file block lease is read can out. m;
    reading = λ u file block lease body is read can below has. m;
    read_waits = λ u file block is read waits. m;
    write_out = λ u sync file block body lease is write can out. m;
    write_full = λ u sync file block body lease is write can below full. m;
    writing = λ u file block body lease is write can below room. m;
    putting = λ u file block body lease is put first can below room. m;
    write_waits = λ u sync file block body is write waits. m;
    syncing = λ u file is sync clean. m;
    sync_waits = λ u file is sync dirty. m;
    others = λ u is needs. m;
  })

evicted-push : (t : ClientStep) (file : ℕ) (tag : Tag) → HasPush t.client → HasPush (evicted t file tag).client
unfolding vacates_lease notes_notice
evicted-push t file tag m = evicted-cases t file tag (λ v. HasPush v.client) (record { clean = λ e. m; waiting = λ e. m })

module _ (c : Client) where
  next : (t : ClientStep) (in_tick : Bool) → HasPush t.client → HasPush (send_next in_tick (settle t)).client
  next t in_tick m = sends (settle t) (settles t m) in_tick

  cut : (file : ℕ) → HasPush c → HasPush (cancels (begun c) file).client
  unfolding cancels
  cut file m t asks job = m t (keeps-or-cancels file c.ticket t asks).0 job

  hear-push : (k : ℕ) (msg : Message) (t : ClientStep) → Alone c → HasPush c → hear c k msg ≡ Some t → HasPush t.client
  hear-push k msg t alone m hears = heard-cases c k msg t (λ v. HasPush v.client) hears (record {
    answered = λ xid r ticket is asks own inc counts.
        next (replied (begun c) k ticket r) false (free-push (replied (begun c) k ticket r).client (replied-free c k ticket r asks counts alone));
    noticed = λ xid file tag is older. next (evicted (cancels (begun c) file) file tag) false (evicted-push (cancels (begun c) file) file tag (cut file m));
  })

  call-push : (op : Call) → HasPush c → HasPush (client_call c op).client
  unfolding says_busy begins_call is_called answers
  call-push op m = call-cases c op (λ v. HasPush v.client) (record {
    busy = λ why. m;
    telling = λ file loss losses idle on changes has. m;
    going = λ idle on none.
        let settled = settles (is_called (begins_call c op) op) m in
        unless-cached-cases (settle (is_called (begins_call c op) op)) (λ v. HasPush v.client) (λ cached. settled)
        (λ other. sends (settle (is_called (begins_call c op) op)) settled false);
  })

  tick-push : HasPush c → HasPush (client_tick c (c.now + 1)).client
  unfolding at_time sends_again
  tick-push m = tick-cases c (c.now + 1) (λ v. HasPush v.client) (record {
    again = λ ticket is late t e job. m ticket is (ap (λ (x : Ticket). x.job) (some-same (record ticket { last = c.now + 1 }) t e) ∙ job);
    quiet = λ ticket is soon. m;
    free = λ none. next (begun (at_time c (c.now + 1))) true (free-push (begun (at_time c (c.now + 1))).client none);
  })

  restart-push : HasPush (restart c).client
  unfolding starts fresh_client
  restart-push = λ k e job. absurd (not-it _ k e job (λ bad. cc))

-- ---- worlds

EachHasPush : World → Type 0
EachHasPush w = (host : ℕ) (c : Client) → slice_get w.clients host ≡ Some c → HasPush c

acted : (w : World) (host : ℕ) (c : Client) (t : ClientStep) → ClientActs w host c t → Alone c → HasPush c → HasPush t.client
acted w host c t (called op is) own m = subst (λ (v : ClientStep). HasPush v.client) (sym is) (call-push c op m)
acted w host c t (ticked is) own m = subst (λ (v : ClientStep). HasPush v.client) (sym is) (tick-push c m)
acted w host c t (restarted is) own m = subst (λ (v : ClientStep). HasPush v.client) (sym is) (restart-push c)
acted w host c t (heard k p sent to hears) own m = hear-push c k p.message t own m hears

client-push : (w : World) (host : ℕ) (c : Client) (t : ClientStep) → slice_get w.clients host ≡ Some c → ClientActs w host c t → Holds w
    → EachHasPush w → EachHasPush (after_client w host t)
unfolding after_client EachHasPush
client-push w host c t at acts before all = λ other d is. case other d (other == host) refl is
  where
    here : HasPush t.client
    here = acted w host c t acts (before.clients host c at).alone (all host c at)

    case : (other : ℕ) (d : Client) (b : Bool) → (other == host) ≡ b → slice_get (slice_set w.clients host t.client) other ≡ Some d → HasPush d
    case other d true same is =
        let one : other ≡ host = same-number other host same in
        let new : d ≡ t.client = get-set-same w.clients host t.client d (subst (λ n. slice_get (slice_set w.clients host t.client) n ≡ Some d) one is) in
        subst (λ x. HasPush x) (sym new) here
    case other d false differs is =
        let apart : other ≢ host = λ same. let yes : (other == host) ≡ true = number-same other host same in absurd (cc) in
        all other d (sym (get-set-other w.clients host other t.client apart) ∙ is)

changed-push : (w v : World) → Changes w v → Holds w → EachHasPush w → EachHasPush v
unfolding after_server EachHasPush
changed-push w v (nothing is) before all = subst EachHasPush (sym is) all
changed-push w v (by_client host c t at acts to) before all = subst EachHasPush (sym to) (client-push w host c t at acts before all)
changed-push w v (by_server t acts to) before all = subst EachHasPush (sym to) all

first-push : (head : Head) → EachHasPush (start head)
unfolding start attached_client fresh_client EachHasPush
first-push head host c is = subst (λ x. HasPush x) (sym (first-client head.term 0 head.hosts host c is)) (λ t e. none-some t e)

run-push : (head : Head) (events : List Event) → EachHasPush (run head events)
run-push head [] = first-push head
run-push head (e ∷ events) =
    changed-push (run head events) (run head (e ∷ events)) (step-changes (run head events) e) (run-holds head events) (run-push head events)

pub pushes-are-had : (head : Head) (events : List Event) (host : ℕ) (c : Client) → slice_get (run head events).clients host ≡ Some c → HasPush c
unfolding EachHasPush
pushes-are-had head events host c is = run-push head events host c is
