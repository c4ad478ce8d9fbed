-- Round after round: until the rows of the last table are over the recovery's end stays near, and then all clients sleep.
use Rattle.std.proofs.Common.{◌≡◌, ◌≢◌, ◌≤◌, ◌<◌, ◌⊎◌, ℕ, ◌+◌, ◌==◌, nat_lt, Bool, true, false, zero, suc, List, [], ◌∷◌, Option, Some, None, length}
use Rattle.std.proofs.Common.{refl, sym, subst, ap, ◌∙◌, arith, inl, inr}
use Rattle.std.specs.Prelude.{slice_get, slice_set}
use Rattle.nq_base.specs.declared.Event.{Event}
use Rattle.nq_model.specs.protocol.Client.{Client, ClientStep}
use Rattle.nq_model.specs.protocol.ClientStep.{client_tick}
use Rattle.nq_model.specs.protocol.Lines.{Play, play, play_hosts}
use Rattle.nq_model.specs.protocol.Message.{datagram_of}
use Rattle.nq_model.specs.protocol.Profile.{skew, write_slack}
use Rattle.nq_model.specs.protocol.Server.{Phase, serving, recovering, Server, ServerStep, quiet, keeping_with, with_table}
use Rattle.nq_model.specs.protocol.ServerStep.{tick, at_time, opens, ends_writing}
use Rattle.nq_model.specs.protocol.Table.{Table}
use Rattle.nq_model.specs.protocol.World.{Head, World, after_client, after_server, at_client, sending_host, step, run}
use Rattle.law_rounds.proofs.RowEnds.{recoveries-end-soon}
use Rattle.walk_steps.proofs.LeaseIntervals.{run-runs}
use Rattle.law_rounds.specs.DeliveryEnds.{calmed}
use Rattle.law_rounds.specs.CalmRoundsAreLawful.{IsLawful}
use Rattle.law_rounds.specs.QuietDeliveries.{recovers}
use Rattle.law_rounds.proofs.Attaching.{tick-stays}
use Rattle.law_rounds.proofs.CalmIsLawful.{played-quiet}
use Rattle.law_rounds.proofs.QuietFlows.{delivered-phase}
use Rattle.walk_steps.proofs.Worlds.{get-set-same, get-set-other, run-holds}
use Rattle.walk_steps.proofs.Rows.{same-number, number-same}
use Rattle.walk_steps.proofs.ServerCases.{server-ticks}
use Rattle.walk_steps.proofs.ServerMoves.{receive-keeps, tick-moves}
use Rattle.walk_steps.proofs.Tests.{is-below, is-not-below}
use Rattle.law_rounds.specs.RoundsEndQuiet.{IsSmall, IsQuiet}
use Rattle.law_rounds.specs.WholeRounds.{play_order, whole_round, whole_rounds, AreWhole, WholeRecoveriesEnd}
use Rattle.law_rounds.proofs.Coming.{Delivery, no_packet, at_server, at_host, ignored, no_client, delivery}
use Rattle.law_rounds.proofs.Flows.{Covered, whole-small, wholes-small, wholes-cover, later-covers}
use Rattle.law_rounds.proofs.LastRows.{not-serving, run-ends}
use Rattle.law_rounds.proofs.Orders.{order-lawful, whole-lawful}
use Rattle.law_rounds.proofs.Quiet.{order-ends-quiet}
use Rattle.law_rounds.proofs.Recovering.{RecoversBy, AllAsleep, by-tick, goes-on-after, early, late, sleeps-on, quiet-sleeps}
use Rattle.law_rounds.proofs.Sleeping.{Asleep, tick-sleeps}

-- ---- clocks

pub delivered-now : (w : World) (k : ℕ) → (step w (Event.Deliver k)).server.now ≡ w.server.now
unfolding after_server after_client
delivered-now w k = by (delivery w k)
  where
    by : Delivery w k (step w (Event.Deliver k)) → (step w (Event.Deliver k)).server.now ≡ w.server.now
    by (no_packet none is) = ap (λ (v : World). v.server.now) is
    by (at_server q sent to is) = ap (λ (v : World). v.server.now) is ∙ (receive-keeps w.server (sending_host q.sender) (length w.packets)
        (datagram_of q.message)).1
    by (at_host host q c t sent to at hears is) = ap (λ (v : World). v.server.now) is
    by (ignored host q c sent to at hears is) = ap (λ (v : World). v.server.now) is
    by (no_client host q sent to none is) = ap (λ (v : World). v.server.now) is

tick-now : (s : Server) (now : ℕ) → (tick s now).server.now ≡ now
unfolding quiet at_time opens ends_writing keeping_with with_table
tick-now s now = server-ticks s now (λ (t : ServerStep). t.server.now ≡ now) (record {
  waits = λ until heard last p goes. refl;
  opening = λ until heard last p over. refl;
  ends_reading = λ p none. refl;
  ending_writing = λ row p due. refl;
})

client-server : (w : World) (h : ℕ) (o : Option Client) → (at_client w h (λ c. client_tick c (c.now + 1)) o).server ≡ w.server
unfolding after_client
client-server w h None = refl
client-server w h (Some c) = refl

before-tick : (s : Server) (now until heard : ℕ) (last : Option Table) → (tick s now).server.phase ≡ recovering until heard last → s.phase
    ≡ recovering until heard last
before-tick s now until heard last = tick-moves s now (λ kept phase table. phase ≡ recovering until heard last → s.phase ≡ recovering until heard
    last) (record {
      waits = λ u hd l p goes e. e;
      opening = λ u hd l p over e. absurd (not-serving until heard last e);
      ends_reading = λ serves e. e;
      ending_writing = λ row serves due e. e;
    })

serves-on : (w : World) (k until heard : ℕ) (last : Option Table) → w.server.phase ≡ serving → (step w (Event.Deliver k)).server.phase
    ≡ recovering until heard last → ⊥
serves-on w k until heard last serves e =
    let same = delivered-phase w k (slice_get w.packets k) in
    let yes : recovers (step w (Event.Deliver k)).server.phase ≡ true = ap recovers e in
    let no : recovers w.server.phase ≡ false = ap recovers serves in
    absurd (cc)

-- ---- a server that serves goes on to

pub order-phase : (order : List ℕ) (p : Play) → recovers (play_order order p).world.server.phase ≡ recovers p.world.server.phase
order-phase [] p = refl
order-phase (k ∷ order) p = order-phase order (play p (Event.Deliver k)) ∙ delivered-phase p.world k (slice_get p.world.packets k)

hosts-server : (count h : ℕ) (p : Play) → (play_hosts count h p).world.server ≡ p.world.server
hosts-server zero h p = refl
hosts-server (suc count) h p = hosts-server count (h + 1) (play p (Event.ClientTick h)) ∙ client-server p.world h (slice_get p.world.clients h)

tick-serves : (s : Server) (now : ℕ) → recovers s.phase ≡ false → recovers (tick s now).server.phase ≡ false
tick-serves s now serves = by (tick s now).server.phase refl
  where
    by : (phase : Phase) → (tick s now).server.phase ≡ phase → recovers (tick s now).server.phase ≡ false
    by serving is = ap recovers is
    by (recovering until heard last) is = let yes : recovers s.phase ≡ true = ap recovers (before-tick s now until heard last is) in absurd (cc)

serving-round : (order : List ℕ) (p : Play) → recovers p.world.server.phase ≡ false → recovers (whole_round order p).world.server.phase ≡ false
unfolding whole_round after_server
serving-round order p serves =
    let q = play_order order p in
    let r = play_hosts (length q.world.clients) 0 q in
    let same : recovers r.world.server.phase ≡ recovers q.world.server.phase = ap (λ (s : Server). recovers s.phase)
    (hosts-server (length q.world.clients) 0 q) in
    tick-serves r.world.server (r.world.server.now + 1) (same ∙ order-phase order p ∙ serves)

pub serving-rounds : (orders : List (List ℕ)) (p : Play) → recovers p.world.server.phase ≡ false → recovers (whole_rounds orders p).world.server.phase ≡ false
serving-rounds [] p serves = serves
serving-rounds (order ∷ orders) p serves = serving-rounds orders (whole_round order p) (serving-round order p serves)

stepped : (w : World) (host : ℕ) (t : ClientStep) → Asleep t.client × (t.client.attached ≡ true) → AllAsleep w → AllAsleep (after_client w host t)
unfolding after_client
stepped w host t own all other d there = case (other == host) refl
  where
    case : (b : Bool) → (other == host) ≡ b → Asleep d × (d.attached ≡ true)
    case true same =
        let one : other ≡ host = same-number other host same in
        let new : d ≡ t.client = get-set-same w.clients host t.client d (subst (λ n. slice_get (slice_set w.clients host t.client) n ≡ Some d) one there) in
        subst (λ z. Asleep z × (z.attached ≡ true)) (sym new) own
    case false differs =
        let apart : other ≢ host = λ same. let yes : (other == host) ≡ true = number-same other host same in absurd (cc) in
        all other d (sym (get-set-other w.clients host other t.client apart) ∙ there)

module _ (most : ℕ) (head : Head) (U : ℕ) where
  pub record Early (p : Play) : Type 0 where
    pub near : RecoversBy U p.world.server.phase
    pub soon : p.world.server.now ≤ U

  pub record Late (p : Play) : Type 0 where
    pub near : RecoversBy U p.world.server.phase
    pub past : U ≤ p.world.server.now
    pub asleep : (until heard : ℕ) (last : Option Table) → p.world.server.phase ≡ recovering until heard last → AllAsleep p.world

  -- ---- deliveries

  early-goes : (p : Play) (k : ℕ) → IsLawful most head p → Early p → Early (play p (Event.Deliver k))
  early-goes p k l e = record { near = early most head U p l k e.soon e.near; soon = let same = delivered-now p.world k in let first = e.soon in omega arith }

  late-goes : (p : Play) (k : ℕ) → IsLawful most head p → Late p → Late (play p (Event.Deliver k))
  late-goes p k l e = by p.world.server.phase refl
    where
      past : U ≤ (step p.world (Event.Deliver k)).server.now
      past = let same = delivered-now p.world k in let first = e.past in omega arith

      by : (phase : Phase) → p.world.server.phase ≡ phase → Late (play p (Event.Deliver k))
      by serving is = record {
        near = λ until heard last f. absurd (serves-on p.world k until heard last is f);
        past = past;
        asleep = λ until heard last f. absurd (serves-on p.world k until heard last is f);
      }
      by (recovering until heard last) is =
          let all = e.asleep until heard last is in
          record {
            near = late most head U p l k all e.near;
            past = past;
            asleep = λ u hd la f. sleeps-on most head U p l until heard last is e.near e.past k all;
          }

  order-early : (order : List ℕ) (p : Play) → IsLawful most head p → Early p → Early (play_order order p)
  order-early [] p l e = e
  order-early (k ∷ order) p l e = order-early order (play p (Event.Deliver k)) (played-quiet most head p (Event.Deliver k) tt refl l) (early-goes p k l e)

  order-late : (order : List ℕ) (p : Play) → IsLawful most head p → Late p → Late (play_order order p)
  order-late [] p l e = e
  order-late (k ∷ order) p l e = order-late order (play p (Event.Deliver k)) (played-quiet most head p (Event.Deliver k) tt refl l) (late-goes p k l e)

  -- ---- ticks

  ticks-on : (p : Play) (h : ℕ) → IsLawful most head p → IsLawful most head (play p (Event.ClientTick h))
  ticks-on p h l = played-quiet most head p (Event.ClientTick h) tt refl l

  early-hosts : (count h : ℕ) (p : Play) → Early p → Early (play_hosts count h p)
  early-hosts zero h p e = e
  early-hosts (suc count) h p e =
      let same = client-server p.world h (slice_get p.world.clients h) in
      early-hosts count (h + 1) (play p (Event.ClientTick h)) (record {
        near = subst (λ (s : Server). RecoversBy U s.phase) (sym same) e.near;
        soon = subst (λ (s : Server). s.now ≤ U) (sym same) e.soon;
      })

  asleep-tick : (p : Play) (h : ℕ) → IsLawful most head p → AllAsleep p.world → AllAsleep (step p.world (Event.ClientTick h))
  asleep-tick p h l all = by (slice_get p.world.clients h) refl
    where
      by : (o : Option Client) → slice_get p.world.clients h ≡ o → AllAsleep (at_client p.world h (λ c. client_tick c (c.now + 1)) o)
      by None none = all
      by (Some c) at = ticked c at (all h c at)
        where
          ticked : (c : Client) → slice_get p.world.clients h ≡ Some c → Asleep c × (c.attached ≡ true)
              → AllAsleep (after_client p.world h (client_tick c (c.now + 1)))
          ticked c at a = stepped p.world h (client_tick c (c.now + 1)) (
            tick-sleeps c a.0,
            tick-stays c ((run-holds head p.events).clients h c
                (subst (λ (u : World). slice_get u.clients h ≡ Some c) l.is_run at)).alone a.1,
          ) all

  late-hosts : (count h : ℕ) (p : Play) → IsLawful most head p → Late p → Late (play_hosts count h p)
  late-hosts zero h p l e = e
  late-hosts (suc count) h p l e =
      let same = client-server p.world h (slice_get p.world.clients h) in
      late-hosts count (h + 1) (play p (Event.ClientTick h)) (ticks-on p h l) (record {
        near = subst (λ (s : Server). RecoversBy U s.phase) (sym same) e.near;
        past = subst (λ (s : Server). U ≤ s.now) (sym same) e.past;
        asleep = λ until heard last f. asleep-tick p h l (e.asleep until heard last (ap (λ (s : Server). s.phase) (sym same) ∙ f));
      })

  early-server : (p : Play) → p.world.server.now < U → Early p → Early (play p Event.ServerTick)
  unfolding after_server
  early-server p below e = record {
    near = by-tick U p.world.server (p.world.server.now + 1) e.near;
    soon = let now = tick-now p.world.server (p.world.server.now + 1) in omega arith;
  }

  late-server : (p : Play) → Late p → Late (play p Event.ServerTick)
  unfolding after_server
  late-server p e = record {
    near = by-tick U p.world.server (p.world.server.now + 1) e.near;
    past = let now = tick-now p.world.server (p.world.server.now + 1) in let first = e.past in omega arith;
    asleep = λ until heard last f. e.asleep until heard last (before-tick p.world.server (p.world.server.now + 1) until heard last f);
  }

  hosts-now : (count h : ℕ) (p : Play) → (play_hosts count h p).world.server.now ≡ p.world.server.now
  hosts-now zero h p = refl
  hosts-now (suc count) h p = hosts-now count (h + 1) (play p (Event.ClientTick h)) ∙ ap (λ (s : Server). s.now)
      (client-server p.world h (slice_get p.world.clients h))

  order-now : (order : List ℕ) (p : Play) → (play_order order p).world.server.now ≡ p.world.server.now
  order-now [] p = refl
  order-now (k ∷ order) p = order-now order (play p (Event.Deliver k)) ∙ delivered-now p.world k

  pub round-now : (order : List ℕ) (p : Play) → (whole_round order p).world.server.now ≡ p.world.server.now + 1
  unfolding whole_round after_server
  round-now order p =
      let q = play_order order p in
      let r = play_hosts (length q.world.clients) 0 q in
      let a = order-now order p in
      let b = hosts-now (length q.world.clients) 0 q in
      let c = tick-now r.world.server (r.world.server.now + 1) in
      omega arith

  rounds-now : (orders : List (List ℕ)) (p : Play) → (whole_rounds orders p).world.server.now ≡ p.world.server.now + length orders
  rounds-now [] p = omega arith
  rounds-now (order ∷ orders) p = let rest = rounds-now orders (whole_round order p) in let one = round-now order p in omega arith

  -- ---- rounds

  early-round : (order : List ℕ) (p : Play) → IsLawful most head p → p.world.server.now < U → Early p → Early (whole_round order p)
  unfolding whole_round
  early-round order p l below e =
      let q = play_order order p in
      let r = play_hosts (length q.world.clients) 0 q in
      let now = order-now order p in
      let later = hosts-now (length q.world.clients) 0 q in
      early-server r (omega arith) (early-hosts (length q.world.clients) 0 q (order-early order p l e))

  late-after : (order : List ℕ) (p : Play) → IsLawful most head p → Late (play_order order p) → Late (whole_round order p)
  unfolding whole_round
  late-after order p l e =
      let q = play_order order p in
      let r = play_hosts (length q.world.clients) 0 q in
      late-server r (late-hosts (length q.world.clients) 0 q (order-lawful most head order p l) e)

  abbrev State : Play → Type 0
  State p = Early p ⊎ Late p

  -- where the rows are over once all has arrived, all clients sleep
  falls-asleep : (q : Play) → IsLawful most head q → ((host : ℕ) (c : Client) → slice_get q.world.clients host ≡ Some c → IsQuiet c)
      → U ≤ q.world.server.now → RecoversBy U q.world.server.phase → Late q
  falls-asleep q l quiet past near = record {
    near = near;
    past = past;
    asleep = λ until heard last is host c at. quiet-sleeps most head U q l until heard last is near past host c at (quiet host c at);
  }

  round-state : (order : List ℕ) (p : Play) → IsLawful most head p → (play_order order p).fresh ≡ [] → IsSmall (play_order order p)
      → ((host : ℕ) → host < head.hosts → Covered most head host 0 p) → State p → State (whole_round order p)
  round-state order p l none small covers (inr e) = inr (late-after order p l (order-late order p l e))
  round-state order p l none small covers (inl e) = by (nat_lt p.world.server.now U) refl
    where
      by : (b : Bool) → nat_lt p.world.server.now U ≡ b → State (whole_round order p)
      by true is = inl (early-round order p l (is-below p.world.server.now U is) e)
      by false is =
          let q = play_order order p in
          let lq = order-lawful most head order p l in
          let now = order-now order p in
          let high = is-not-below p.world.server.now U is in
          let goes = order-early order p l e in
          inr (late-after order p l (falls-asleep q lq (order-ends-quiet most head order p l none small covers) (omega arith) goes.near))

  pub near-of : (p : Play) → State p → RecoversBy U p.world.server.phase
  near-of p (inl e) = e.near
  near-of p (inr e) = e.near

  -- a recovery that the last tick did not end is to go on
  abbrev IsToGoOn : Play → Type 0
  IsToGoOn p = (until heard : ℕ) (last : Option Table) → p.world.server.phase ≡ recovering until heard last → p.world.server.now < until

  round-goes-on : (order : List ℕ) (p : Play) → IsToGoOn (whole_round order p)
  unfolding whole_round after_server
  round-goes-on order p until heard last is =
      let q = play_order order p in
      let r = play_hosts (length q.world.clients) 0 q in
      let goes = goes-on-after r.world.server (r.world.server.now + 1) until heard last is in
      let now = tick-now r.world.server (r.world.server.now + 1) in
      omega arith

  rounds-state : (orders : List (List ℕ)) (p : Play) → IsLawful most head p → AreWhole orders p → IsSmall (whole_rounds orders p)
      → ((host : ℕ) → host < head.hosts → Covered most head host 0 p) → State p → IsToGoOn p → State (whole_rounds orders p) × IsToGoOn (whole_rounds orders p)
  rounds-state [] p l whole small covers e goes = (e, goes)
  rounds-state (order ∷ orders) p l whole small covers e goes =
      let one = wholes-small orders (whole_round order p) small in
      rounds-state orders (whole_round order p) (whole-lawful most head order p l) whole.1 small
      (λ host below. wholes-cover most head host (order ∷ []) p l below one (covers host below))
      (round-state order p l whole.0 (whole-small order p one) covers e)
      (round-goes-on order p)

-- the end of a run's recovery, and the rows of its last table
first-near : (most : ℕ) (head : Head) (p : Play) → IsLawful most head p → RecoversBy (p.world.server.now + (most + skew)) p.world.server.phase
first-near most head p l until heard last is =
    let there : (run head p.events).server.phase ≡ recovering until heard last = subst (λ (u : World). u.server.phase ≡ recovering until heard last)
    l.is_run is in
    let soon : until ≤ ((run head p.events).server.now + (run head p.events).server.kept.longest) + (skew + write_slack) = recoveries-end-soon head
    p.events until heard last there in
    let few = (run-runs most head p.events l.bounds l.within).served.terms.kept_few in
    let same : (run head p.events).server.now ≡ p.world.server.now = ap (λ (u : World). u.server.now) (sym l.is_run) in
    let ends = run-ends most head p.events l.bounds l.within until heard last there in
    (omega arith, λ file host row found. let before = ends file host row found in omega arith)

serves-after : (most : ℕ) (head : Head) (base : Play) → IsLawful most head base → (first second : List ℕ) (orders : List (List ℕ))
    → most + (skew + write_slack) ≤ 2 + length orders → AreWhole (first ∷ second ∷ orders) base → IsSmall (whole_rounds (first ∷ second ∷ orders)
    base) → (until heard : ℕ) (last : Option Table) → (whole_rounds (first ∷ second ∷ orders) base).world.server.phase ≡ recovering until heard last → ⊥
serves-after most head base l first second orders enough whole small until heard last is =
    let U = base.world.server.now + (most + skew) in
    let long = l.bounds.first_long in
    let short = l.bounds.first_short in
    let p1 = whole_round first base in
    let p2 = whole_round second p1 in
    let l1 = whole-lawful most head first base l in
    let l2 = whole-lawful most head second p1 l1 in
    let now1 = round-now most head U first base in
    let now2 = round-now most head U second p1 in
    let e0 : Early most head U base = record { near = first-near most head base l; soon = omega arith } in
    let e1 : Early most head U p1 = early-round most head U first base l (omega arith) e0 in
    let e2 : Early most head U p2 = early-round most head U second p1 l1 (omega arith) e1 in
    let covers : (host : ℕ) → host < head.hosts → Covered most head host 0 p2 = λ host below. later-covers most head host (first ∷ second ∷ []) base
    (omega arith) l below (wholes-small orders p2 small) in
    let state = rounds-state most head U orders p2 l2 whole.1.1 small covers (inl e2) (round-goes-on most head U second p1) in
    let near = (near-of most head U (whole_rounds orders p2) state.0 until heard last is).0 in
    let late = state.1 until heard last is in
    let now = rounds-now most head U orders p2 in
    omega arith

-- of any lawful play: the server serves after so many whole rounds
pub serves-from : (most : ℕ) (head : Head) (base : Play) → IsLawful most head base → (orders : List (List ℕ)) → most + (skew + write_slack)
    ≤ length orders → AreWhole orders base → IsSmall (whole_rounds orders base) → recovers (whole_rounds orders base).world.server.phase ≡ false
serves-from most head base l orders enough whole small = by (whole_rounds orders base).world.server.phase refl
  where
    never : (orders : List (List ℕ)) → most + (skew + write_slack) ≤ length orders → AreWhole orders base → IsSmall (whole_rounds orders base)
        → (until heard : ℕ) (last : Option Table) → (whole_rounds orders base).world.server.phase ≡ recovering until heard last → ⊥
    never [] many w s until heard last is = absurd (omega arith)
    never (first ∷ []) many w s until heard last is = absurd (omega arith)
    never (first ∷ second ∷ rest) many w s until heard last is = serves-after most head base l first second rest (omega arith) w s until heard last is

    by : (phase : Phase) → (whole_rounds orders base).world.server.phase ≡ phase → recovers (whole_rounds orders base).world.server.phase ≡ false
    by serving is = ap recovers is
    by (recovering until heard last) is = absurd (never orders enough whole small until heard last is)

pub whole-recoveries-end : WholeRecoveriesEnd
unfolding calmed
whole-recoveries-end most head events bounds within under_way orders enough whole small =
    serves-from most head (calmed head events under_way) (record { is_run = refl; bounds = bounds; within = within }) orders enough whole small
