-- Event after event of a timely part: until the rows of the last table are over the recovery's end stays near, and then all live clients sleep.
use Rattle.std.proofs.Common.{◌≡◌, ◌≤◌, ◌<◌, ◌⊎◌, ℕ, ◌+◌, ◌-◌, max, nat_lt, Bool, true, false, List, [], Option, Some, None, refl, sym, subst}
use Rattle.std.proofs.Common.{length, ap, ◌∙◌, arith, inl, inr}
use Rattle.std.specs.Prelude.{slice_get}
use Rattle.std.proofs.lemmas.Bool.{and_parts}
use Rattle.nq_base.specs.declared.Call.{Call}
use Rattle.nq_base.specs.declared.Event.{Event}
use Rattle.nq_model.specs.protocol.Client.{Client, ClientStep}
use Rattle.nq_model.specs.protocol.ClientStep.{client_call, client_tick}
use Rattle.nq_model.specs.protocol.Lines.{Play, play}
use Rattle.nq_model.specs.protocol.Message.{Packet, Datagram, datagram_of}
use Rattle.nq_model.specs.protocol.Profile.{skew, write_slack}
use Rattle.nq_model.specs.protocol.Server.{Phase, serving, recovering, Server, ServerStep, quiet, keeping_with, with_table}
use Rattle.nq_model.specs.protocol.ServerStep.{receive, tick, at_time as at_server_time, opens, ends_writing}
use Rattle.nq_model.specs.protocol.Skew.{server_ticks, ticks_of}
use Rattle.nq_model.specs.protocol.Table.{Table}
use Rattle.nq_model.specs.protocol.World.{Head, World, after_client, after_server, at_client, sending_host, step, run}
use Rattle.walk_steps.proofs.LeaseIntervals.{run-runs}
use Rattle.walk_steps.proofs.Packets.{in-get}
use Rattle.walk_steps.proofs.ServerCases.{server-ticks}
use Rattle.walk_steps.proofs.ServerMoves.{server-moves, phase-moves, receive-keeps, tick-moves}
use Rattle.walk_steps.proofs.Tests.{is-below, is-not-below}
use Rattle.walk_steps.proofs.WorldClocks.{call-still, run-clocked}
use Rattle.walk_steps.proofs.Worlds.{Holds, run-holds}
use Rattle.law_rounds.specs.CalmRoundsAreLawful.{IsLawful}
use Rattle.law_rounds.specs.DeliveryEnds.{calmed}
use Rattle.law_rounds.specs.QuietDeliveries.{recovers}
use Rattle.law_rounds.proofs.Attaching.{hear-stays, tick-stays}
use Rattle.law_rounds.proofs.Coming.{Delivery, no_packet, at_server, at_host, ignored, no_client, delivery}
use Rattle.law_rounds.proofs.Flows.{Covered, first-covers}
use Rattle.law_rounds.proofs.LastRows.{same-until, not-serving, run-ends}
use Rattle.law_rounds.proofs.QuietFlows.{delivered-phase}
use Rattle.law_rounds.proofs.RecoveryRounds.{delivered-now}
use Rattle.law_rounds.proofs.Quiet.{quiet-client}
use Rattle.law_rounds.proofs.Recovering.{RecoversBy, by-tick, goes-on-after, early, quiet-sleeps, phase-same, none-stored, grants-over}
use Rattle.law_rounds.proofs.RowEnds.{recoveries-end-soon}
use Rattle.law_rounds.proofs.Sleeping.{Asleep, tick-sleeps, hear-sleeps}
use Rattle.law_timely.specs.RecoveriesEndInTime.{RecoveriesEndInTime}
use Rattle.law_timely.specs.Timely.{goes_on_live_link}
use Rattle.law_rounds.specs.WholeRounds.{is_next}
use Rattle.law_timely.proofs.Covers.{Aged, aged-event, none-asks}
use Rattle.law_timely.proofs.Drowsy.{call-sleeps}
use Rattle.law_timely.proofs.Moves.{Moves, stays, called, ticked, heard, moves, is-at, mail-at}
use Rattle.law_timely.proofs.Parts.{During, led, led-lawful}
use Rattle.law_timely.proofs.Settled.{server-append, host-append, ticks-twice, Since, since-event, now-is}
use Rattle.law_timely.proofs.Stores.{LiveAsleep, live-sender}

-- ---- the server

tick-now : (s : Server) (now : ℕ) → (tick s now).server.now ≡ now
unfolding quiet at_server_time opens ends_writing keeping_with with_table
tick-now s now = server-ticks s now (λ (t : ServerStep). t.server.now ≡ now) (record {
  waits = λ until hears last p goes. refl;
  opening = λ until hears last p over. refl;
  ends_reading = λ p none. refl;
  ending_writing = λ row p due. refl;
})

before-tick : (s : Server) (now until hears : ℕ) (last : Option Table) → (tick s now).server.phase ≡ recovering until hears last → s.phase
    ≡ recovering until hears last
before-tick s now until hears last = tick-moves s now (λ kept phase table. phase ≡ recovering until hears last → s.phase ≡ recovering until hears
    last) (record {
      waits = λ u hd l p goes e. e;
      opening = λ u hd l p over e. absurd (not-serving until hears last e);
      ends_reading = λ serves e. e;
      ending_writing = λ row serves due e. e;
    })

-- a recovery is to go on at this time
abbrev GoesOn : (now : ℕ) → Phase → Type 0
GoesOn now phase = (until hears : ℕ) (last : Option Table) → phase ≡ recovering until hears last → now < until

goes-receive : (s : Server) (sender next : ℕ) (d : Datagram) → GoesOn s.now s.phase → GoesOn s.now (receive s sender next d).server.phase
goes-receive s sender next d h = server-moves s sender next d (λ kept phase table. GoesOn s.now phase)
    (phase-moves s d (λ longest phase. GoesOn s.now phase) h (λ until hears last is u hd l e.
    more until (s.now + write_slack) u (same-until _ u _ hd last l e) s.now (omega arith)))
  where
    more : (a b u : ℕ) → max a b ≡ u → (n : ℕ) → n < b → n < u
    more a b u e n below = omega arith

same-server : (w : World) (h : ℕ) (f : Client → ClientStep) (o : Option Client) → (at_client w h f o).server ≡ w.server
unfolding after_client
same-server w h f None = refl
same-server w h f (Some c) = refl

module _ (most : ℕ) (head : Head) (dead : List ℕ) (base : Play) (U : ℕ) where
  record Early (p : Play) : Type 0 where
    near : RecoversBy U p.world.server.phase
    soon : p.world.server.now ≤ U

  record Late (p : Play) : Type 0 where
    near : RecoversBy U p.world.server.phase
    past : U ≤ p.world.server.now
    asleep : (until hears : ℕ) (last : Option Table) → p.world.server.phase ≡ recovering until hears last → LiveAsleep dead p.world

  record State (p : Play) : Type 0 where
    aged : (host : ℕ) → Aged most head host (ticks_of host base.events) p
    since : Since base p
    goes : Early p ⊎ Late p
    on : base.world.server.now < p.world.server.now → GoesOn p.world.server.now p.world.server.phase

  -- ---- an event that leaves the server as it is

  keeps-early : (p : Play) (e : Event) → (step p.world e).server ≡ p.world.server → Early p → Early (play p e)
  keeps-early p e same s = record {
    near = subst (λ (x : Server). RecoversBy U x.phase) (sym same) s.near;
    soon = subst (λ (x : Server). x.now ≤ U) (sym same) s.soon;
  }

  -- ---- the clients

  -- the clients of live hosts sleep on
  sleeps : (p : Play) (e : Event) → During most head dead p e → (until hears : ℕ) (last : Option Table) → p.world.server.phase
      ≡ recovering until hears last → Late p → LiveAsleep dead (step p.world e)
  sleeps p e during until hears last phase s host d live there = by (moves most head host dead p e during d there)
    where
      all : LiveAsleep dead p.world
      all = s.asleep until hears last phase

      calls : (c : Client) (op : Call) → slice_get p.world.clients host ≡ Some c → Asleep (client_call c op).client
          × ((client_call c op).client.attached ≡ true)
      calls c op at = (call-sleeps c op (all host c live at).0, attached (client_call c op).client.attached refl)
        where
          attached : (b : Bool) → (client_call c op).client.attached ≡ b → (client_call c op).client.attached ≡ true
          attached true e = e
          attached false e =
              let was = (call-still host c p.world.packets op (is-at most head host p during.before c at)).stays e in
              let on = (all host c live at).1 in
              absurd (cc)

      by : Moves most head host p e d → Asleep d × (d.attached ≡ true)
      by (stays at) = all host d live at
      by (called c op e_is at new) = subst (λ (x : Client). Asleep x × (x.attached ≡ true)) (sym new) (calls c op at)
      by (ticked c e_is at new leads) = subst (λ (x : Client). Asleep x × (x.attached ≡ true)) (sym new)
          (tick-sleeps c (all host c live at).0, tick-stays c (is-at most head host p during.before c at).alone (all host c live at).1)
      by (heard c k z t e_is sent to at hears_it new leads) = subst (λ (x : Client). Asleep x × (x.attached ≡ true)) (sym new) (
        hear-sleeps c k z.message t hears_it (grants-over most head U p during.before until hears last phase s.near s.past host c k z at sent to)
            (all host c live at).0,
        hear-stays host c p.world.packets k z.message t (is-at most head host p during.before c at) (mail-at most head host p during.before k z sent
            to) (all host c live at).1 hears_it,
      )

  -- ---- a delivery

  link-of : (p : Play) (k : ℕ) (z : Packet) → During most head dead p (Event.Deliver k) → slice_get p.world.packets k ≡ Some z
      → goes_on_live_link dead (Some z) ≡ true
  link-of p k z during sent =
      let parts = and_parts (goes_on_live_link dead (slice_get p.world.packets k)) (is_next p.world.packets p.fresh k) during.timely in
      ap (goes_on_live_link dead) (sym sent) ∙ parts.0

  holds-at : (p : Play) → IsLawful most head p → Holds p.world
  holds-at p l = subst (λ u. Holds u) (sym l.is_run) (run-holds head p.events)

  near-late : (p : Play) (k : ℕ) → During most head dead p (Event.Deliver k) → LiveAsleep dead p.world → RecoversBy U p.world.server.phase
      → RecoversBy U (step p.world (Event.Deliver k)).server.phase
  unfolding after_server after_client
  near-late p k during all near = by (delivery p.world k)
    where
      by : Delivery p.world k (step p.world (Event.Deliver k)) → RecoversBy U (step p.world (Event.Deliver k)).server.phase
      by (no_packet none is) = subst (λ (w : World). RecoversBy U w.server.phase) (sym is) near
      by (at_host host q c t sent to at hears is) = subst (λ (w : World). RecoversBy U w.server.phase) (sym is) near
      by (ignored host q c sent to at hears is) = subst (λ (w : World). RecoversBy U w.server.phase) (sym is) near
      by (no_client host q sent to none is) = subst (λ (w : World). RecoversBy U w.server.phase) (sym is) near
      by (at_server q sent to is) =
          let live = live-sender dead q ((holds-at p during.before).sent q (in-get p.world.packets k q sent)) to (link-of p k q during sent) in
          let same = phase-same p.world.server (sending_host q.sender) (length p.world.packets) (datagram_of q.message)
          (none-stored most head U p during.before k q sent to (λ c at. all (sending_host q.sender) c live at)) in
          subst (λ (w : World). RecoversBy U w.server.phase) (sym is) (subst (λ ph. RecoversBy U ph) (sym same) near)

  goes-delivered : (p : Play) (k : ℕ) → GoesOn p.world.server.now p.world.server.phase
      → GoesOn (step p.world (Event.Deliver k)).server.now (step p.world (Event.Deliver k)).server.phase
  unfolding after_server after_client
  goes-delivered p k h = by (delivery p.world k)
    where
      same : step p.world (Event.Deliver k) ≡ p.world → GoesOn (step p.world (Event.Deliver k)).server.now (step p.world (Event.Deliver k)).server.phase
      same is = subst (λ (w : World). GoesOn w.server.now w.server.phase) (sym is) h

      by : Delivery p.world k (step p.world (Event.Deliver k)) → GoesOn (step p.world (Event.Deliver k)).server.now
          (step p.world (Event.Deliver k)).server.phase
      by (no_packet none is) = same is
      by (ignored host q c sent to at hears is) = same is
      by (no_client host q sent to none is) = same is
      by (at_host host q c t sent to at hears is) = subst (λ (w : World). GoesOn w.server.now w.server.phase) (sym is) h
      by (at_server q sent to is) =
          let now = (receive-keeps p.world.server (sending_host q.sender) (length p.world.packets) (datagram_of q.message)).1 in
          subst (λ (w : World). GoesOn w.server.now w.server.phase) (sym is) (subst (λ n. GoesOn n (receive p.world.server (sending_host q.sender)
          (length p.world.packets) (datagram_of q.message)).server.phase) (sym now) (goes-receive p.world.server (sending_host q.sender)
          (length p.world.packets) (datagram_of q.message) h))

  recovers-still : (p : Play) (k until hears : ℕ) (last : Option Table) → (step p.world (Event.Deliver k)).server.phase ≡ recovering until hears last
      → recovers p.world.server.phase ≡ true
  recovers-still p k until hears last is = sym (delivered-phase p.world k (slice_get p.world.packets k)) ∙ ap recovers is

  late-delivered : (p : Play) (k : ℕ) → During most head dead p (Event.Deliver k) → Late p → Late (play p (Event.Deliver k))
  late-delivered p k during s = by p.world.server.phase refl
    where
      past : U ≤ (step p.world (Event.Deliver k)).server.now
      past = let same = delivered-now p.world k in let first = s.past in omega arith

      by : (phase : Phase) → p.world.server.phase ≡ phase → Late (play p (Event.Deliver k))
      by serving is = record {
        near = λ until hears last f. absurd (serves until hears last f);
        past = past;
        asleep = λ until hears last f. absurd (serves until hears last f);
      }
        where
          serves : (until hears : ℕ) (last : Option Table) → (step p.world (Event.Deliver k)).server.phase ≡ recovering until hears last → ⊥
          serves until hears last f =
              let yes = recovers-still p k until hears last f in
              let no : recovers p.world.server.phase ≡ false = ap recovers is in
              absurd (cc)
      by (recovering until hears last) is = record {
        near = near-late p k during (s.asleep until hears last is) s.near;
        past = past;
        asleep = λ u hd la f. sleeps p (Event.Deliver k) during until hears last is s;
      }

  -- ---- a tick of the server's clock

  asleep-all : (p : Play) → During most head dead p Event.ServerTick → State p → base.world.server.now + 5 ≤ p.world.server.now
      → base.world ≡ run head base.events → RecoversBy U p.world.server.phase → U ≤ p.world.server.now → (until hears : ℕ) (last : Option Table)
      → p.world.server.phase ≡ recovering until hears last → LiveAsleep dead p.world
  asleep-all p during s late is near past until hears last phase host c live at =
      quiet-sleeps most head U p during.before until hears last phase near past host c at
      (quiet-client most head p during.before host c at (none-asks most head host dead live p during.before during.timely covered c at))
    where
      there : host < head.hosts
      there = (run-runs most head p.events during.before.bounds during.before.within).few host c
          (subst (λ (w : World). slice_get w.clients host ≡ Some c) during.before.is_run at)

      covered : Covered most head host 0 p
      covered =
          let long : 1 ≤ most = let a = during.before.bounds.first_long in let b = during.before.bounds.first_short in omega arith in
          let now = now-is most head p during.before in
          let first : base.world.server.now ≡ server_ticks base.events = ap (λ (w : World). w.server.now) is ∙ (run-clocked head base.events).server in
          let all = ap server_ticks s.since.1 in
          let parts = server-append s.since.0 base.events in
          let twice = ticks-twice head.hosts most host p.events s.since.0 base.events during.before.within s.since.1 there long (omega arith) in
          let hosts = ap (ticks_of host) s.since.1 in
          let shares = host-append host s.since.0 base.events in
          let none : (ticks_of host base.events + 2) - ticks_of host p.events ≡ 0 = omega arith in
          subst (λ due. Covered most head host due p) none (s.aged host)

  module _ (is : base.world ≡ run head base.events) (far : base.world.server.now + 5 ≤ U) where
    ticked-server : (p : Play) → During most head dead p Event.ServerTick → State p → Early p ⊎ Late p
        → Early (play p Event.ServerTick) ⊎ Late (play p Event.ServerTick)
    unfolding after_server
    ticked-server p during s (inr e) = inr (record {
      near = by-tick U p.world.server (p.world.server.now + 1) e.near;
      past = let now = tick-now p.world.server (p.world.server.now + 1) in let first = e.past in omega arith;
      asleep = λ until hears last f. e.asleep until hears last (before-tick p.world.server (p.world.server.now + 1) until hears last f);
    })
    ticked-server p during s (inl e) = by (nat_lt p.world.server.now U) refl
      where
        by : (b : Bool) → nat_lt p.world.server.now U ≡ b → Early (play p Event.ServerTick) ⊎ Late (play p Event.ServerTick)
        by true early_yet =
            let below = is-below p.world.server.now U early_yet in
            inl (record {
              near = by-tick U p.world.server (p.world.server.now + 1) e.near;
              soon = let now = tick-now p.world.server (p.world.server.now + 1) in omega arith;
            })
        by false over =
            let high = is-not-below p.world.server.now U over in
            inr (record {
              near = by-tick U p.world.server (p.world.server.now + 1) e.near;
              past = let now = tick-now p.world.server (p.world.server.now + 1) in omega arith;
              asleep = λ until hears last f.
                  asleep-all p during s (omega arith) is e.near high until hears last
                  (before-tick p.world.server (p.world.server.now + 1) until hears last f);
            })

    -- ---- each event

    quiet-event : (p : Play) (e : Event) → During most head dead p e → (step p.world e).server ≡ p.world.server → State p → Early (play p e) ⊎ Late (play p e)
    quiet-event p e during same s = by s.goes
      where
        by : Early p ⊎ Late p → Early (play p e) ⊎ Late (play p e)
        by (inl x) = inl (keeps-early p e same x)
        by (inr x) = inr (record {
          near = subst (λ (y : Server). RecoversBy U y.phase) (sym same) x.near;
          past = subst (λ (y : Server). U ≤ y.now) (sym same) x.past;
          asleep = λ until hears last f. sleeps p e during until hears last (ap (λ (y : Server). y.phase) (sym same) ∙ f) x;
        })

    state-goes : (p : Play) (e : Event) → During most head dead p e → State p → Early (play p e) ⊎ Late (play p e)
    state-goes p (Event.Call h op) during s = quiet-event p (Event.Call h op) during (same-server p.world h (λ c. client_call c op)
        (slice_get p.world.clients h)) s
    state-goes p (Event.ClientTick h) during s = quiet-event p (Event.ClientTick h) during (same-server p.world h (λ c. client_tick c (c.now + 1))
        (slice_get p.world.clients h)) s
    state-goes p Event.ServerTick during s = ticked-server p during s s.goes
    state-goes p (Event.Deliver k) during s = by s.goes
      where
        by : Early p ⊎ Late p → Early (play p (Event.Deliver k)) ⊎ Late (play p (Event.Deliver k))
        by (inl x) = inl (record {
          near = early most head U p during.before k x.soon x.near;
          soon = let same = delivered-now p.world k in let first = x.soon in omega arith;
        })
        by (inr x) = inr (late-delivered p k during x)
    state-goes p (Event.Restart h) during s = let no : false ≡ true = during.timely in absurd (cc)
    state-goes p (Event.Crash longest) during s = let no : false ≡ true = during.timely in absurd (cc)

    state-on : (p : Play) (e : Event) → During most head dead p e → State p → base.world.server.now < (step p.world e).server.now
        → GoesOn (step p.world e).server.now (step p.world e).server.phase
    unfolding after_server
    state-on p (Event.Call h op) during s later =
        let same = same-server p.world h (λ c. client_call c op) (slice_get p.world.clients h) in
        subst (λ (x : Server). GoesOn x.now x.phase) (sym same) (s.on (subst (λ (x : Server). base.world.server.now < x.now) same later))
    state-on p (Event.ClientTick h) during s later =
        let same = same-server p.world h (λ c. client_tick c (c.now + 1)) (slice_get p.world.clients h) in
        subst (λ (x : Server). GoesOn x.now x.phase) (sym same) (s.on (subst (λ (x : Server). base.world.server.now < x.now) same later))
    state-on p Event.ServerTick during s later = λ until hears last f.
        let goes = goes-on-after p.world.server (p.world.server.now + 1) until hears last f in
        let now = tick-now p.world.server (p.world.server.now + 1) in
        omega arith
    state-on p (Event.Deliver k) during s later =
        goes-delivered p k (s.on (let same = delivered-now p.world k in omega arith))
    state-on p (Event.Restart h) during s later = let no : false ≡ true = during.timely in absurd (cc)
    state-on p (Event.Crash longest) during s later = let no : false ≡ true = during.timely in absurd (cc)

    state-event : (p : Play) (e : Event) → During most head dead p e → State p → State (play p e)
    state-event p e during s = record {
      aged = λ host. aged-event most head host (ticks_of host base.events) dead p e during (s.aged host);
      since = since-event base p e s.since;
      goes = state-goes p e during s;
      on = λ later. state-on p e during s later;
    }

-- the end of a run's recovery, and the rows of its last table
first-near : (most : ℕ) (head : Head) (p : Play) → IsLawful most head p → RecoversBy (p.world.server.now + (most + skew)) p.world.server.phase
first-near most head p l until hears last is =
    let there : (run head p.events).server.phase ≡ recovering until hears last = subst (λ (u : World). u.server.phase ≡ recovering until hears last)
    l.is_run is in
    let soon : until ≤ ((run head p.events).server.now + (run head p.events).server.kept.longest) + (skew + write_slack) = recoveries-end-soon head
    p.events until hears last there in
    let few = (run-runs most head p.events l.bounds l.within).served.terms.kept_few in
    let same : (run head p.events).server.now ≡ p.world.server.now = ap (λ (u : World). u.server.now) (sym l.is_run) in
    let ends = run-ends most head p.events l.bounds l.within until hears last there in
    (omega arith, λ file host row found. let before = ends file host row found in omega arith)

pub recoveries-end-in-time : RecoveriesEndInTime
unfolding calmed
recoveries-end-in-time most head events under_way dead moment leads l small late = by moment.world.server.phase refl
  where
    l0 : IsLawful most head (calmed head events under_way)
    l0 = led-lawful most head dead (calmed head events under_way) moment leads refl l

    far : (run head events).server.now + 5 ≤ (run head events).server.now + (most + skew)
    far = let a = l.bounds.first_long in let b = l.bounds.first_short in omega arith

    two : (n : ℕ) → 2 ≡ (n + 2) - n
    two n = omega arith

    first : State most head dead (calmed head events under_way) ((run head events).server.now + (most + skew)) (calmed head events under_way)
    first = record {
      aged = λ host. subst (λ due. Covered most head host due (calmed head events under_way)) (two (ticks_of host events))
          (first-covers most head host (calmed head events under_way) l0);
      since = ([], refl);
      goes = inl (record { near = first-near most head (calmed head events under_way) l0; soon = omega arith });
      on = λ later. absurd (omega arith);
    }

    end : State most head dead (calmed head events under_way) ((run head events).server.now + (most + skew)) moment
    end = led most head dead (State most head dead (calmed head events under_way) ((run head events).server.now + (most + skew)))
        (state-event most head dead (calmed head events under_way) ((run head events).server.now + (most + skew)) refl far)
        (calmed head events under_way) moment leads refl l small first

    near-of : Early most head dead (calmed head events under_way) ((run head events).server.now + (most + skew)) moment
        ⊎ Late most head dead (calmed head events under_way) ((run head events).server.now + (most + skew)) moment
        → RecoversBy ((run head events).server.now + (most + skew)) moment.world.server.phase
    near-of (inl x) = x.near
    near-of (inr x) = x.near

    by : (phase : Phase) → moment.world.server.phase ≡ phase → recovers moment.world.server.phase ≡ false
    by serving is = ap recovers is
    by (recovering until hears last) is =
        let near = (near-of end.goes until hears last is).0 in
        let goes = end.on (omega arith) until hears last is in
        absurd (omega arith)
