-- In every run each client goes on.
use Rattle.std.proofs.Common.{◌≡◌, ◌≢◌, ◌<◌, ◌⊎◌, ℕ, ◌+◌, ◌==◌, nat_le, Bool, true, false, List, [], ◌∷◌, Some, None, is_some, refl, sym, ap, subst}
use Rattle.std.proofs.Common.{◌∙◌, arith, inl, inr}
use Rattle.std.specs.Prelude.{slice_get, slice_set}
use Rattle.nq_base.specs.declared.Call.{Call}
use Rattle.nq_base.specs.declared.Event.{Event}
use Rattle.nq_base.specs.declared.Request.{Request}
use Rattle.nq_base.specs.declared.Who.{Who}
use Rattle.nq_model.specs.protocol.Client.{Client, ClientStep, UnderWay, begun}
use Rattle.nq_model.specs.protocol.ClientStep.{begins_call, is_called, says_busy, client_call, at_time, sends_again, client_tick, attached_client, starts}
use Rattle.nq_model.specs.protocol.ClientStep.{fresh_client, restart}
use Rattle.nq_model.specs.protocol.Hear.{hear, replied, cancels, evicted}
use Rattle.nq_model.specs.protocol.Message.{Message, asker}
use Rattle.nq_model.specs.protocol.Send.{send_next, is_asking}
use Rattle.nq_model.specs.protocol.Settle.{answers, names_losses, after_read, reads_cached, after_write, marks_written, settle}
use Rattle.nq_model.specs.protocol.World.{Head, World, after_server, after_client, start, run}
use Rattle.walk_steps.proofs.ClientFacts.{Alone, fits_attach, fits_job}
use Rattle.walk_steps.proofs.ClientMoves.{some-same, none-some}
use Rattle.walk_steps.proofs.SettleCases.{settle-cases, settle-settles}
use Rattle.walk_steps.proofs.StepCases.{call-cases, unless-cached-cases, tick-cases, heard-cases}
use Rattle.walk_steps.proofs.Steps.{Changes, nothing, by_client, by_server, ClientActs, called, ticked, restarted, heard, step-changes}
use Rattle.walk_steps.proofs.Worlds.{Holds, run-holds, get-set-same, get-set-other, set-there, first-client}
use Rattle.walk_steps.proofs.Rows.{same-number, number-same}
use Rattle.walk_steps.proofs.Tests.{is-at-most, is-not-at-most}
use Rattle.law_rounds.specs.CallsGoOn.{AsksToBeAttached, CallsGoOn}
use Rattle.law_rounds.proofs.Busy.{Busy, asks-next}
use Rattle.law_rounds.proofs.Prompt.{Prompt, hear-prompt, call-prompt, tick-prompt, restart-prompt}
use Rattle.law_rounds.proofs.Dues.{sent-or-same}

-- ---- a step that ends with the next request

ends-busy : (in_tick : Bool) (t : ClientStep) → Alone (send_next in_tick (settle t)).client → Busy (send_next in_tick (settle t))
ends-busy in_tick t alone = by (sent-or-same in_tick (settle t))
  where
    s : ClientStep
    s = settle t

    paused : (u : UnderWay) → s.client.call ≡ Some u → Alone s.client → (b : Bool) → nat_le s.client.pause s.client.now ≡ b
        → (is_asking (send_next in_tick s) ≡ true) ⊎ (s.client.now < s.client.pause)
    paused u has own true e = inl (asks-next in_tick s u has (is-at-most s.client.pause s.client.now e) (settle-settles t) own.delaying)
    paused u has own false e = inr (is-not-at-most s.client.pause s.client.now e)

    stays : (v : ClientStep) → v ≡ s → Alone s.client → ((u : UnderWay) → s.client.call ≡ Some u → (is_asking v ≡ true)
        ⊎ (s.client.now < s.client.pause)) → Busy v
    stays v same own given u is = move (given u (ap (λ (x : ClientStep). x.client.call) (sym same) ∙ is))
      where
        move : (is_asking v ≡ true) ⊎ (s.client.now < s.client.pause) → (is_some v.client.ticket ≡ true) ⊎ (v.client.now < v.client.pause)
        move (inl asks) = inl asks
        move (inr late) = inr (subst (λ (x : ClientStep). x.client.now < x.client.pause) (sym same) late)

    by : (is_asking (send_next in_tick s) ≡ true) ⊎ (send_next in_tick s ≡ s) → Busy (send_next in_tick s)
    by (inl asks) = λ u is. inl asks
    by (inr same) =
        let own : Alone s.client = subst (λ (x : ClientStep). Alone x.client) same alone in
        stays (send_next in_tick s) same own (λ u has. paused u has own (nat_le s.client.pause s.client.now) refl)

-- ---- each step

-- a read from the cache answers its call
cached-answered : (t : ClientStep) → t.cached ≡ false → (settle t).cached ≡ true → (settle t).client.call ≡ None
unfolding answers reads_cached after_read after_write marks_written
cached-answered t none = settle-cases t (λ u. u.cached ≡ true → u.client.call ≡ None) (record {
  idle = λ idle e. idle;
  asking = λ u is own e. absurd (cc);
  read_out = λ u file block lease is read can out e. refl;
  reading = λ u file block lease body is read can below has e. refl;
  read_waits = λ u file block is read waits e. absurd (cc);
  write_out = λ u sync file block body lease is write can out e. refl;
  write_full = λ u sync file block body lease is write can below full e. refl;
  writing = λ u file block body lease is write can below room e. refl;
  putting = λ u file block body lease is put first can below room e. absurd (cc);
  write_waits = λ u sync file block body is write waits e. absurd (cc);
  syncing = λ u file is sync clean e. refl;
  sync_waits = λ u file is sync dirty e. absurd (cc);
  others = λ u is needs e. absurd (cc);
})

idle-busy : (t : ClientStep) → t.client.call ≡ None → Busy t
idle-busy t none u is = none-some u (sym none ∙ is)

call-busy : (c : Client) (op : Call) → Alone (client_call c op).client → ((u : UnderWay) → c.call ≡ Some u → (is_some c.ticket ≡ true)
    ⊎ (c.now < c.pause)) → Busy (client_call c op)
unfolding says_busy begins_call is_called answers
call-busy c op alone before = call-cases c op (λ t. Alone t.client → Busy t) (record {
  busy = λ why own. before;
  telling = λ file loss losses idle on changes has own. idle-busy (names_losses (begins_call c op) (begins_call c op).client.calls file) refl;
  going = λ idle on none. unless-cached-cases (settle (is_called (begins_call c op) op)) (λ t. Alone t.client → Busy t)
      (λ cached own. idle-busy (settle (is_called (begins_call c op) op)) (cached-answered (is_called (begins_call c op) op) refl cached))
      (λ other own. ends-busy false (is_called (begins_call c op) op) own);
}) alone

tick-busy : (c : Client) → Alone (client_tick c (c.now + 1)).client → Busy (client_tick c (c.now + 1))
unfolding at_time sends_again
tick-busy c alone = tick-cases c (c.now + 1) (λ t. Alone t.client → Busy t) (record {
  again = λ ticket is late own u has. inl refl;
  quiet = λ ticket is soon own u has. inl (ap is_some is);
  free = λ none own. ends-busy true (begun (at_time c (c.now + 1))) own;
}) alone

hear-busy : (c : Client) (k : ℕ) (m : Message) (t : ClientStep) → hear c k m ≡ Some t → Alone t.client → Busy t
hear-busy c k m t hears alone = heard-cases c k m t (λ u. Alone u.client → Busy u) hears (record {
  answered = λ xid r ticket is asks own inc counts after. ends-busy false (replied (begun c) k ticket r) after;
  noticed = λ xid file tag is older after. ends-busy false (evicted (cancels (begun c) file) file tag) after;
}) alone

restart-busy : (c : Client) → Busy (restart c)
unfolding starts fresh_client
restart-busy c = idle-busy (restart c) refl

-- ---- worlds

record Going (c : Client) : Type 0 where
  busy : (u : UnderWay) → c.call ≡ Some u → (is_some c.ticket ≡ true) ⊎ (c.now < c.pause)
  prompt : Prompt c

acted : (w : World) (host : ℕ) (c : Client) (t : ClientStep) → ClientActs w host c t → Alone c → Alone t.client → Going c → Going t.client
acted w host c t (called op is) own after g = subst (λ (u : ClientStep). Going u.client) (sym is)
    (record { busy = call-busy c op (subst (λ (u : ClientStep). Alone u.client) is after) g.busy; prompt = call-prompt c g.prompt op })
acted w host c t (ticked is) own after g = subst (λ (u : ClientStep). Going u.client) (sym is)
    (record { busy = tick-busy c (subst (λ (u : ClientStep). Alone u.client) is after); prompt = tick-prompt c g.prompt })
acted w host c t (restarted is) own after g = subst (λ (u : ClientStep). Going u.client) (sym is) (record { busy = restart-busy c; prompt = restart-prompt c })
acted w host c t (heard k p sent to hears) own after g = record {
  busy = hear-busy c k p.message t hears after;
  prompt = hear-prompt c g.prompt k
      p.message t own hears;
}

EachGoing : World → Type 0
EachGoing w = (host : ℕ) (c : Client) → slice_get w.clients host ≡ Some c → Going c

client-going : (w : World) (host : ℕ) (c : Client) (t : ClientStep) → slice_get w.clients host ≡ Some c → ClientActs w host c t → Holds w
    → Holds (after_client w host t) → EachGoing w → EachGoing (after_client w host t)
unfolding after_client EachGoing
client-going w host c t at acts before after all = λ other d is. case other d (other == host) refl is
  where
    own : Alone t.client
    own = (after.clients host t.client (set-there w.clients host t.client c at)).alone

    here : Going t.client
    here = acted w host c t acts (before.clients host c at).alone own (all host c at)

    case : (other : ℕ) (d : Client) (b : Bool) → (other == host) ≡ b → slice_get (slice_set w.clients host t.client) other ≡ Some d → Going d
    case other d true same is =
        let one : other ≡ host = same-number other host same in
        let new : d ≡ t.client = get-set-same w.clients host t.client d (subst (λ n. slice_get (slice_set w.clients host t.client) n ≡ Some d) one is) in
        subst (λ x. Going x) (sym new) here
    case other d false differs is =
        let apart : other ≢ host = λ same. let yes : (other == host) ≡ true = number-same other host same in absurd (cc) in
        all other d (sym (get-set-other w.clients host other t.client apart) ∙ is)

changed-going : (w v : World) → Changes w v → Holds w → Holds v → EachGoing w → EachGoing v
unfolding after_server EachGoing
changed-going w v (nothing is) before after all = subst EachGoing (sym is) all
changed-going w v (by_client host c t at acts to) before after all = subst EachGoing (sym to) (client-going w host c t at acts before
    (subst Holds to after) all)
changed-going w v (by_server t acts to) before after all = subst EachGoing (sym to) all

first-going : (head : Head) → EachGoing (start head)
unfolding start attached_client fresh_client EachGoing
first-going head host c is =
    let same = first-client head.term 0 head.hosts host c is in
    subst (λ x. Going x) (sym same) (record { busy = λ u e. none-some u e; prompt = record { short = omega arith; recent = λ t e. none-some t e } })

run-going : (head : Head) (events : List Event) → EachGoing (run head events)
run-going head [] = first-going head
run-going head (e ∷ events) = changed-going (run head events) (run head (e ∷ events)) (step-changes (run head events) e) (run-holds head events)
    (run-holds head (e ∷ events)) (run-going head events)

-- who is not attached asks to be
asks-attach : (who : Who) (request : Request) → fits_attach request ≡ true → asker request ≡ Some who → request ≡ Request.Attach who
asks-attach who (Request.Attach w) fits asks = ap (λ x. Request.Attach x) (some-same w who asks)
asks-attach who other fits asks = absurd (cc)

waits-attached : (c : Client) → Alone c → c.attached ≡ false → AsksToBeAttached c
waits-attached c alone off =
    let w = alone.asking.waiting off in
    let k = alone.asking.ticketed w.request w.asks in
    record {
      ticket = w.request;
      under_way = w.asks;
      asks = asks-attach c.who w.request.request (subst (λ j. fits_job j w.request.request ≡ true) w.job k.fits) k.asks;
    }

pub calls-go-on : CallsGoOn
unfolding EachGoing
calls-go-on head events host c is =
    let g = run-going head events host c is in
    let alone = ((run-holds head events).clients host c is).alone in
    record { busy = g.busy; short = g.prompt.short; recent = g.prompt.recent; attaching = waits-attached c alone }
