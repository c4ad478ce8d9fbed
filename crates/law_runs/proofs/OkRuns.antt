-- In every run each ok is kept, where the delayed writes, the losses and the calls of each client stand as the journal tells.
use Rattle.std.proofs.Common.{◌≡◌, ◌≢◌, ◌≤◌, ℕ, ◌+◌, true, false, refl, inl, List, [], ◌∷◌, ◌++◌, Some, length, sym, subst, ap, ◌∙◌}
use Rattle.std.specs.Prelude.{slice_get}
use Rattle.nq_base.specs.declared.Entry.{Entry}
use Rattle.nq_base.specs.declared.Event.{Event}
use Rattle.nq_base.specs.declared.Party.{Party}
use Rattle.nq_base.specs.declared.Who.{Who}
use Rattle.walk_files.proofs.CallsFit.{entry_who, entry_call}
use Rattle.walk_steps.proofs.ClientMoves.{none-some}
use Rattle.law_runs.proofs.AnsweredWorlds.{run-answered}
use Rattle.walk_steps.proofs.LeaseIntervals.{run-runs}
use Rattle.nq_model.specs.laws.Bounds.{KeepsBounds, InEveryRun}
use Rattle.nq_model.specs.protocol.Client.{Client, ClientStep, UnderWay}
use Rattle.nq_model.specs.protocol.ClientStep.{client_call, client_tick, restart, starts as starts_client, attached_client, fresh_client}
use Rattle.nq_model.specs.protocol.Hear.{hear}
use Rattle.nq_model.specs.laws.Journal.{Each, Throughout}
use Rattle.nq_model.specs.protocol.Kept.{host_row}
use Rattle.nq_model.specs.protocol.Message.{Packet, reply, datagram_of}
use Rattle.nq_model.specs.protocol.Server.{ServerStep}
use Rattle.nq_model.specs.protocol.Skew.{IsWithinSkew}
use Rattle.nq_model.specs.protocol.World.{Head, World, after_server, after_client, at_client, after_hearing, sending_host, deliver_to_client, deliver_to}
use Rattle.nq_model.specs.protocol.World.{deliver, start, run}
use Rattle.nq_model.specs.laws.BusyIsSaidAtOnce.{IsBusyOnly, IsStarting}
use Rattle.walk_steps.proofs.WorldClocks.{StillOf, StillIf, call-still, tick-still, hear-still}
use Rattle.walk_steps.proofs.RunCases.{During, client_at, Keeps, run-keeps, OfClients, clients-after}
use Rattle.walk_steps.proofs.Packets.{In, in-get, Told}
use Rattle.walk_steps.proofs.Worlds.{to-server, to-told, first-client, run-holds, set-there}
use Rattle.law_runs.proofs.KeptPlaces.{KeptHere, synchronized}
use Rattle.law_runs.proofs.OkClient.{Ready, call-end, tick-end, hear-end, restart-end}
use Rattle.law_runs.proofs.OkFacts.{KeepsOf, book_of, After, ended}
use Rattle.law_runs.proofs.OkMoves.{IsMild, foreign-mild}
use Rattle.law_runs.proofs.OkServer.{Standing, all-mild, all-kept, server-keeps}
use Rattle.law_runs.proofs.OkSettle.{End}
use Rattle.law_runs.proofs.ServerMakes.{ServerMakes, LineMoves, hears-makes, tick-makes, crash-makes}
use Rattle.nq_model.specs.laws.OksAreKept.{SynchronizedInEveryRun}
use Rattle.law_runs.proofs.Starting.{all-idle, still-starting, next-idle, call-idles, tick-idles, hear-idles}

-- what is known of the delayed writes and losses of each client, in every run
abbrev pub StandingInEveryRun : Type 0
StandingInEveryRun =
    (most : ℕ) (head : Head) (events : List Event)
    → KeepsBounds most head events
    → IsWithinSkew head.hosts most events
    → (host : ℕ) (c : Client) → client_at head events host ≡ Some c → Standing c (run head events).journal

-- and of its calls
pub record Counted (c : Client) (journal : List Entry) : Type 0 where
  pub under_way : (u : UnderWay) → c.call ≡ Some u → u.q ≤ c.calls
  pub numbers : (e : Entry) (q : ℕ) → In journal e → entry_who e ≡ Some c.who → entry_call e ≡ Some q → q ≤ c.calls
  pub past : (e : Entry) (w : Who) → In journal e → entry_who e ≡ Some w → w.host ≡ c.who.host → w.inc ≤ c.who.inc

abbrev pub CountedInEveryRun : Type 0
CountedInEveryRun =
    (most : ℕ) (head : Head) (events : List Event)
    → KeepsBounds most head events
    → IsWithinSkew head.hosts most events
    → (host : ℕ) (c : Client) → client_at head events host ≡ Some c → Counted c (run head events).journal

-- what is kept of each client
abbrev pub OkOf : ℕ → Client → World → Type 0
OkOf host c w = KeepsOf (host_row w.server.kept host) c w.journal

-- an incarnation that is not attached is starting
abbrev pub BeganOf : ℕ → Client → World → Type 0
BeganOf host c w = c.attached ≡ false → IsStarting c.who w.journal

pub record Oks (w : World) : Type 0 where
  pub clients : OfClients OkOf w
  pub began : OfClients BeganOf w
  pub kept : Throughout KeptHere w.journal

-- the start
starts : (head : Head) → Oks (start head)
unfolding start attached_client fresh_client
starts head = record {
  clients =
      λ host c is. subst (λ z. KeepsOf (host_row (start head).server.kept host) z []) (sym (first-client head.term 0 head.hosts host c is)) (ended (record {
        listed = λ p i. absurd i;
        pushed = λ p e. none-some p e;
        lost = λ file block first last i. absurd i;
      }));
  began = λ host c is off. let on : c.attached ≡ true = ap (λ z. z.attached) (first-client head.term 0 head.hosts host c is) in absurd (cc);
  kept = tt;
}

module _ (stands : StandingInEveryRun) (counts : CountedInEveryRun) (most : ℕ) (head : Head) where
  -- a client before its step
  ready : (e : Event) (events : List Event) (host : ℕ) (c : Client) → During most head e events → client_at head events host ≡ Some c
      → Oks (run head events) → Ready (host_row (run head events).server.kept host) c (run head events).journal
  ready e events host c during is g =
      let n = counts most head events during.bounds during.within host c is in
      record {
        keeps = g.clients host c is;
        above = (run-answered most head events during.bounds during.within host c is).kept;
        kept = g.kept;
        alone = ((run-holds head events).clients host c is).alone;
        began = g.began host c is;
        counted = n.under_way;
        numbers = n.numbers;
        past = n.past;
      }

  -- a step of a client
  client-step : (e : Event) (events : List Event) (host : ℕ) (c : Client) (t : ClientStep) → During most head e events
      → client_at head events host ≡ Some c → run head (e ∷ events) ≡ after_client (run head events) host t
      → (After (run head events).journal (book_of t) → End (host_row (run head events).server.kept host) (run head events).journal (book_of t))
      → (t.client.attached ≡ false → IsStarting t.client.who (t.entries ++ (run head events).journal)) → Oks (run head events)
      → Oks (after_client (run head events) host t)
  unfolding after_client
  client-step e events host c t during is same goes began g = record {
    clients = clients-after OkOf w host t ended_here.keeps others;
    began = clients-after BeganOf w host t began (λ other d apart there off. still-starting d.who t.entries w.journal
        (all-idle d.who t.entries (λ x i. foreign other d apart there x i)) (g.began other d there off));
    kept = ended_here.kept;
  } where
    w : World
    w = run head events

    after : World
    after = after_client w host t

    there : slice_get after.clients host ≡ Some t.client
    there = set-there w.clients host t.client c is

    at_end : client_at head (e ∷ events) host ≡ Some t.client
    at_end = ap (λ z. slice_get z.clients host) same ∙ there

    standing : Standing t.client (t.entries ++ w.journal)
    standing = subst (λ z. Standing t.client z.journal) same (stands most head (e ∷ events) during.bounds_after during.within_after host t.client at_end)

    ended_here : End (host_row w.server.kept host) w.journal (book_of t)
    ended_here = goes (record { unsaved = standing.unsaved; named = standing.named })

    here : t.client.who.host ≡ host
    here = ((run-holds head (e ∷ events)).clients host t.client at_end).here

    foreign : (other : ℕ) (d : Client) → other ≢ host → slice_get w.clients other ≡ Some d → (x : Entry) → In t.entries x → IsMild d.who x
    foreign other d apart there x i =
        foreign-mild d.who t.client.who x (ended_here.own x i)
        (λ eq. apart (sym ((run-holds head events).clients other d there).here ∙ ap (λ z. z.host) (sym eq) ∙ here))

    others : (other : ℕ) (d : Client) → other ≢ host → slice_get w.clients other ≡ Some d → KeepsOf (host_row w.server.kept other) d (t.entries ++ w.journal)
    others other d apart there = all-mild d t.entries w.journal (λ x i. foreign other d apart there x i) (g.clients other d there)

  -- a step of the server
  server-step : (e : Event) (events : List Event) (t : ServerStep) → During most head e events
      → ServerMakes (run head events).packets (run head events).server t → Oks (run head events) → Oks (after_server (run head events) t)
  unfolding after_server
  server-step e events t during makes g = record {
    clients = λ host c is. keeps host c is;
    began = λ host c is off. still-starting c.who t.entries (run head events).journal (all-idle c.who t.entries (λ x i. makes.mild x i c.who))
        (g.began host c is off);
    kept = all-kept t.entries (run head events).journal makes.mild g.kept;
  } where
    w : World
    w = run head events

    keeps : (host : ℕ) (c : Client) → slice_get w.clients host ≡ Some c → KeepsOf (host_row t.server.kept host) c (t.entries ++ w.journal)
    keeps host c is =
        let a = (run-holds head events).clients host c is in
        let k = (run-runs most head events during.bounds during.within).known.clients host c is in
        server-keeps c w.packets (host_row w.server.kept host) (host_row t.server.kept host) w.journal (g.clients host c is) k.lined a.mail a.alone
        (stands most head events during.bounds during.within host c is) t.entries makes.mild
        (subst (λ n. LineMoves w.packets (host_row w.server.kept host) (host_row t.server.kept host) n t.entries) (sym a.here) (makes.moves host))

  -- a client that is still not attached after its step is still starting
  still-began : (events : List Event) (host now : ℕ) (c : Client) (t : ClientStep) → client_at head events host ≡ Some c → StillOf now c t
      → (c.attached ≡ false → Each (IsBusyOnly c.who) t.entries) → Oks (run head events) → t.client.attached ≡ false
      → IsStarting t.client.who (t.entries ++ (run head events).journal)
  still-began events host now c t is s idles g off =
      subst (λ v. IsStarting v (t.entries ++ (run head events).journal)) (sym s.same)
      (still-starting c.who t.entries (run head events).journal (idles (s.stays off)) (g.began host c is (s.stays off)))

  restart-began : (c : Client) (journal : List Entry)
      → ((e : Entry) (w : Who) → In journal e → entry_who e ≡ Some w → w.host ≡ c.who.host → w.inc ≤ c.who.inc)
      → IsStarting (restart c).client.who ((restart c).entries ++ journal)
  unfolding starts_client fresh_client
  restart-began c journal past = record { started = inl refl; idle = (tt, next-idle c journal past) }

  -- a delivery to a client
  delivered : (events : List Event) (k : ℕ) (p : Packet) (host : ℕ) (c : Client) (t : ClientStep) → slice_get (run head events).packets k ≡ Some p
      → p.to ≡ Party.Client host → client_at head events host ≡ Some c → hear c k p.message ≡ Some t
      → run head (Event.Deliver k ∷ events) ≡ after_client (run head events) host t
  delivered events k p host c t sent to is hears =
      let w = run head events in
      ap (deliver w k) sent ∙ ap (deliver_to w k p) to ∙ ap (deliver_to_client w k host p.message) is ∙ ap (after_hearing w host) hears

  oks-keep : Keeps most head Oks
  oks-keep = record {
    starts = λ b. starts head;
    called =
        λ events host c op during is g. client-step (Event.Call host op) events host c (client_call c op) during is
        (ap (at_client (run head events) host (λ d. client_call d op)) is) (call-end _ c _ (ready (Event.Call host op) events host c during is g) op)
        (still-began events host c.now c (client_call c op) is (call-still host c _ op ((run-holds head events).clients host c is)) (call-idles c op) g) g;
    ticked =
        λ events host c during is g. client-step (Event.ClientTick host) events host c (client_tick c (c.now + 1)) during is
        (ap (at_client (run head events) host (λ d. client_tick d (d.now + 1))) is)
        (tick-end _ c _ (ready (Event.ClientTick host) events host c during is g) (c.now + 1))
        (still-began events host (c.now + 1) c (client_tick c (c.now + 1)) is (tick-still host c _ ((run-holds head events).clients host c is))
        (tick-idles c (c.now + 1) ((run-holds head events).clients host c is).alone) g) g;
    restarted =
        λ events host c during is g. client-step (Event.Restart host) events host c (restart c) during is
        (ap (at_client (run head events) host restart) is) (λ a. restart-end _ _ c _ (ready (Event.Restart host) events host c during is g))
        (λ off. restart-began c (run head events).journal (counts most head events during.bounds during.within host c is).past) g;
    heard = λ events k p host c t during sent to is hears g.
        let w = run head events in
        let held = run-holds head events in
        let at = held.clients host c is in
        let i : In w.packets p = in-get w.packets k p sent in
        let told : Told w.packets host p.message = to-told w.packets p host (held.sent p i) to i in
        let answered = run-answered most head events during.bounds during.within host c is in
        client-step (Event.Deliver k) events host c t during is (delivered events k p host c t sent to is hears)
        (hear-end _ c _ (ready (Event.Deliver k) events host c during is g) k p.message t
        (λ xid r ticket n m has same inc draws. answered.replies xid r
        (subst (λ z. Told w.packets z (reply xid r)) (sym at.here) (subst (Told w.packets host) m told)) inc ticket has (sym same) n draws)
        hears)
        (still-began events host c.now c t is (subst (StillIf c) hears (hear-still host c w.packets k p.message told at))
        (λ off. hear-idles c k p.message t at.alone off hears) g)
        g;
    received = λ events k p during sent to g.
        let w = run head events in
        let held = run-holds head events in
        let i : In w.packets p = in-get w.packets k p sent in
        server-step (Event.Deliver k) events _ during
        (hears-makes w.packets w.server (sending_host p.sender) (length w.packets) (datagram_of p.message)
        (λ xid r d. (to-server w.packets p (held.sent p i) to i xid r d).0) (run-runs most head events during.bounds during.within).served.lines) g;
    server_ticked =
        λ events during g. server-step Event.ServerTick events _ during
        (tick-makes (run head events).packets (run head events).server ((run head events).server.now + 1)) g;
    crashed =
        λ events longest during long few g. server-step (Event.Crash longest) events _ during
        (crash-makes (run head events).packets (run head events).server longest) g;
  }

-- what is kept of each client in every run
pub oks-runs : StandingInEveryRun → CountedInEveryRun → InEveryRun (λ head events. Oks (run head events))
oks-runs stands counts most head events bounds within = run-keeps (oks-keep stands counts most head) events bounds within

-- each answer at its place
pub answered-runs : StandingInEveryRun → CountedInEveryRun → InEveryRun (λ head events. Throughout KeptHere (run head events).journal)
answered-runs stands counts most head events bounds within = (run-keeps (oks-keep stands counts most head) events bounds within).kept

-- the law
pub synchronized-runs : StandingInEveryRun → CountedInEveryRun → SynchronizedInEveryRun
synchronized-runs stands counts most head events bounds within =
    synchronized (run head events).journal (answered-runs stands counts most head events bounds within)
