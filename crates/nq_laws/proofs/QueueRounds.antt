-- Each queue is in line through each calm delivery that begins where no client had a request under way before the ticks.
use Rattle.std.proofs.Common.{◌≡◌, ◌≢◌, ◌≤◌, ◌<◌, ℕ, ◌+◌, ◌==◌, ◌++◌, Bool, true, false, zero, suc, List, [], ◌∷◌, Option, Some, None, length, refl}
use Rattle.std.proofs.Common.{sym, subst, ap, ◌∙◌, arith, append-nil}
use Rattle.std.specs.Prelude.{map, slice_get}
use Rattle.nq_base.specs.declared.Event.{Event}
use Rattle.nq_base.specs.declared.Party.{Party}
use Rattle.nq_base.specs.declared.Reply.{Reply}
use Rattle.nq_base.specs.declared.Request.{Request}
use Rattle.nq_model.specs.protocol.Client.{Client, ClientStep}
use Rattle.nq_model.specs.protocol.ClientStep.{client_tick}
use Rattle.nq_model.specs.protocol.Hear.{hear}
use Rattle.nq_model.specs.protocol.Kept.{host_row}
use Rattle.nq_model.specs.protocol.Lines.{Play, play, play_hosts, play_rounds}
use Rattle.nq_model.specs.protocol.Message.{Message, Packet, call, reply, datagram_of}
use Rattle.nq_model.specs.protocol.Server.{to_host}
use Rattle.nq_model.specs.protocol.ServerStep.{receive}
use Rattle.nq_model.specs.protocol.World.{Head, World, from_host, after_client, after_server, at_client, sending_host, step, run}
use Rattle.law_rounds.proofs.ClientCount.{client-count}
use Rattle.walk_steps.proofs.LeaseIntervals.{run-runs}
use Rattle.law_rounds.specs.CalmRoundsAreLawful.{IsLawful}
use Rattle.law_rounds.proofs.Attaching.{hear-stays, tick-stays}
use Rattle.law_rounds.proofs.CalmEnds.{IsRising, played-rising, hosts-rising}
use Rattle.law_rounds.proofs.CalmIsLawful.{played-quiet, round}
use Rattle.walk_steps.proofs.WorldSequences.{run-draws}
use Rattle.law_rounds.proofs.Coming.{Delivery, no_packet, at_server, at_host, ignored, no_client, delivery}
use Rattle.law_rounds.proofs.Lines.{run-lined}
use Rattle.law_rounds.proofs.LineSteps.{line-goes}
use Rattle.law_rounds.proofs.Next.{IsNext}
use Rattle.walk_steps.proofs.ClientMoves.{none-some}
use Rattle.walk_steps.proofs.TickLines.{tick-line}
use Rattle.walk_steps.proofs.Packets.{in-get, Told, not-both, message-same}
use Rattle.walk_steps.proofs.Sequences.{Seqs}
use Rattle.walk_steps.proofs.Worlds.{Holds, run-holds, to-told, received-said, get-set-same, get-set-other}
use Rattle.walk_steps.proofs.Rows.{same-number, number-same}
use Rattle.nq_laws.proofs.InLine.{InLine, empty-line, other-line, client-line, server-line}
use Rattle.nq_laws.proofs.NewPackets.{get-mapped}
use Rattle.nq_laws.proofs.StepNumbers.{hear-sent, tick-sent}
use Rattle.nq_laws.proofs.Begin.{silent}

-- what another host sends, or nothing
others-sent : (host h : ℕ) → host ≢ h → (ms : List Message) (q : Packet) (i : ℕ) → slice_get (map (from_host h) ms) i ≡ Some q
    → ((x : ℕ) (r : Request) → q ≡ from_host host (call x r) → ⊥) × ((x : ℕ) (a : Reply) → q ≡ to_host host (reply x a) → ⊥)
others-sent host h apart ms q i there =
    let m = get-mapped (from_host h) ms q i there in
    (λ x r same. apart (sym (message-same h host m.0 (call x r) (m.2 ∙ same)).0), λ x a same. not-both h host m.0 (reply x a) (m.2 ∙ same))

abbrev no_packets : List Packet
no_packets = []

nothing-sent : (host : ℕ) (q : Packet) (i : ℕ) → slice_get no_packets i ≡ Some q
    → ((x : ℕ) (r : Request) → q ≡ from_host host (call x r) → ⊥) × ((x : ℕ) (a : Reply) → q ≡ to_host host (reply x a) → ⊥)
nothing-sent host q i there = none-some q there

module _ (most : ℕ) (head : Head) (host : ℕ) where
  -- the queue of the host is in line, and its client is attached
  pub record Queue (p : Play) : Type 0 where
    pub lawful : IsLawful most head p
    pub rises : IsRising p
    pub on : (c : Client) → slice_get p.world.clients host ≡ Some c → c.attached ≡ true
    pub below : host < head.hosts
    pub line : InLine host p

  module _ (p : Play) (l : IsLawful most head p) where
    holds : Holds p.world
    holds = subst (λ u. Holds u) (sym l.is_run) (run-holds head p.events)

    at-run : (h : ℕ) (c : Client) → slice_get p.world.clients h ≡ Some c → slice_get (run head p.events).clients h ≡ Some c
    at-run h c at = subst (λ (u : World). slice_get u.clients h ≡ Some c) l.is_run at

    -- who is attached is of the kept incarnation
    current : (c : Client) → slice_get p.world.clients host ≡ Some c → c.attached ≡ true → (host_row p.world.server.kept host).inc ≡ c.who.inc
    current c at on = ap (λ (u : World). (host_row u.server.kept host).inc) l.is_run ∙
        ((run-runs most head p.events l.bounds l.within).known.clients host c (at-run host c at)).lined.current on

    low : (c : Client) → slice_get p.world.clients host ≡ Some c → c.attached ≡ true → (host_row p.world.server.kept host).seq < c.seq
    low c at on =
        let lined = run-lined most head p.events l.bounds l.within host c (at-run host c at) in
        let inc : (host_row (run head p.events).server.kept host).inc ≡ c.who.inc =
        ((run-runs most head p.events l.bounds l.within).known.clients host c (at-run host c at)).lined.current on in
        let seq : (host_row p.world.server.kept host).seq ≡ (host_row (run head p.events).server.kept host).seq =
        ap (λ (u : World). (host_row u.server.kept host).seq) l.is_run in
        let small = lined.below inc in
        omega arith

    -- the host is there
    there : host < head.hosts → (c : Client) × (slice_get p.world.clients host ≡ Some c)
    there below = let many : length p.world.clients ≡ head.hosts = ap (λ (w : World). length w.clients) l.is_run ∙ client-count head p.events in
        get p.world.clients host (omega arith)
      where
        get : {A : Type 0} (xs : List A) (i : ℕ) → i < length xs → (x : A) × (slice_get xs i ≡ Some x)
        get [] i low = absurd (omega arith)
        get (x ∷ xs) zero low = (x, refl)
        get (x ∷ xs) (suc i) low = get xs i (omega arith)

  -- ---- a delivery

  module _ (p : Play) (k : ℕ) (next : IsNext p k) (h : Queue p) where
    after-lawful : IsLawful most head (play p (Event.Deliver k))
    after-lawful = played-quiet most head p (Event.Deliver k) tt refl h.lawful

    same-line : step p.world (Event.Deliver k) ≡ p.world → InLine host (play p (Event.Deliver k))
    same-line is = other-line host p (Event.Deliver k) h.rises h.line [] (ap (λ (w : World). w.packets) is ∙ sym (append-nil p.world.packets))
        (nothing-sent host) (λ c at. subst (λ (w : World). slice_get w.clients host ≡ Some c) is at) (ap (λ (w : World). host_row w.server.kept host) is)

    on-after : (c : Client) → slice_get (step p.world (Event.Deliver k)).clients host ≡ Some c → c.attached ≡ true
    unfolding after_server after_client
    on-after c at = by (delivery p.world k)
      where
        by : Delivery p.world k (step p.world (Event.Deliver k)) → c.attached ≡ true
        by (no_packet missing is) = h.on c (subst (λ (w : World). slice_get w.clients host ≡ Some c) is at)
        by (ignored h0 q d sent to there hears is) = h.on c (subst (λ (w : World). slice_get w.clients host ≡ Some c) is at)
        by (no_client h0 q sent to missing is) = h.on c (subst (λ (w : World). slice_get w.clients host ≡ Some c) is at)
        by (at_server q sent to is) = h.on c (subst (λ (w : World). slice_get w.clients host ≡ Some c) is at)
        by (at_host h0 q d u sent to there hears is) = case (host == h0) refl
          where
            case : (b : Bool) → (host == h0) ≡ b → c.attached ≡ true
            case true same =
                let one = same-number host h0 same in
                let new : c ≡ u.client = get-set-same p.world.clients h0 u.client c
                (subst (λ n. slice_get (after_client p.world h0 u).clients n ≡ Some c) one
                (subst (λ (w : World). slice_get w.clients host ≡ Some c) is at)) in
                let i = in-get p.world.packets k q sent in
                let mail : Told p.world.packets h0 q.message = to-told p.world.packets q h0 ((holds p h.lawful).sent q i) to i in
                ap (λ (x : Client). x.attached) new ∙ hear-stays h0 d p.world.packets k q.message u ((holds p h.lawful).clients h0 d there) mail
                (h.on d (subst (λ n. slice_get p.world.clients n ≡ Some d) (sym one) there)) hears
            case false differs =
                let apart : host ≢ h0 = λ same. let yes : (host == h0) ≡ true = number-same host h0 same in absurd (cc) in
                h.on c (sym (get-set-other p.world.clients h0 host u.client apart) ∙ subst (λ (w : World). slice_get w.clients host ≡ Some c) is at)

    at-server : (q : Packet) → slice_get p.world.packets k ≡ Some q → q.to ≡ Party.Server
        → step p.world (Event.Deliver k) ≡ after_server p.world
        (receive p.world.server (sending_host q.sender) (length p.world.packets) (datagram_of q.message)) → InLine host (play p (Event.Deliver k))
    unfolding after_server
    at-server q sent to is =
        let i = in-get p.world.packets k q sent in
        let c = there p h.lawful h.below in
        let before = current p h.lawful c.0 c.1 (h.on c.0 c.1) in
        let then : slice_get (step p.world (Event.Deliver k)).clients host ≡ Some c.0 = ap (λ (w : World). slice_get w.clients host) is ∙ c.1 in
        let after = current (play p (Event.Deliver k)) after-lawful c.0 then (h.on c.0 c.1) in
        let kept : (host_row (step p.world (Event.Deliver k)).server.kept host).inc ≡
        (host_row (receive p.world.server (sending_host q.sender) (length p.world.packets) (datagram_of q.message)).server.kept host).inc =
        ap (λ (w : World). (host_row w.server.kept host).inc) is in
        let lines = (run-runs most head p.events h.lawful.bounds h.lawful.within).served.lines in
        server-line host p k next h.rises h.line q sent ((holds p h.lawful).sent q i) to is (received-said p.world q i to (holds p h.lawful))
        (line-goes p.world.server (sending_host q.sender) (length p.world.packets) (datagram_of q.message) host
        (ap (λ (u : World). length u.server.kept.hosts) h.lawful.is_run ∙ lines))
        (sym kept ∙ after ∙ sym before)

    at-own : (q : Packet) (c : Client) (t : ClientStep) → slice_get p.world.packets k ≡ Some q → q.to ≡ Party.Client host
        → slice_get p.world.clients host ≡ Some c → hear c k q.message ≡ Some t → step p.world (Event.Deliver k) ≡ after_client p.world host t
        → InLine host (play p (Event.Deliver k))
    at-own q c t sent to at hears is =
        let i = in-get p.world.packets k q sent in
        let mail : Told p.world.packets host q.message = to-told p.world.packets q host ((holds p h.lawful).sent q i) to i in
        let a = (holds p h.lawful).clients host c at in
        let seqs = subst (λ (u : World). Seqs c.who c.seq u.packets) (sym h.lawful.is_run)
        ((run-draws head p.events).clients host c (at-run p h.lawful host c at)) in
        let drawn = (run-lined most head p.events h.lawful.bounds h.lawful.within host c (at-run p h.lawful host c at)).drawn in
        client-line host p (Event.Deliver k) h.rises h.line c t at is a seqs (hear-sent host c p.world.packets k q.message t a mail drawn hears)
        (low p h.lawful c at (h.on c at))

    at-other : (h0 : ℕ) (t : ClientStep) → host ≢ h0 → step p.world (Event.Deliver k) ≡ after_client p.world h0 t → InLine host (play p (Event.Deliver k))
    unfolding after_client
    at-other h0 t apart is =
        other-line host p (Event.Deliver k) h.rises h.line (map (from_host h0) t.sends) (ap (λ (w : World). w.packets) is) (others-sent host h0 apart t.sends)
        (λ c at. sym (get-set-other p.world.clients h0 host t.client apart) ∙ subst (λ (w : World). slice_get w.clients host ≡ Some c) is at)
        (ap (λ (w : World). host_row w.server.kept host) is)

    pub delivered-queue : Queue (play p (Event.Deliver k))
    delivered-queue = record {
      lawful = after-lawful;
      rises = played-rising p (Event.Deliver k) h.rises;
      on = on-after;
      below = h.below;
      line = by (delivery p.world k);
    }
      where
        by : Delivery p.world k (step p.world (Event.Deliver k)) → InLine host (play p (Event.Deliver k))
        by (no_packet missing is) = same-line is
        by (ignored h0 q c sent to at hears is) = same-line is
        by (no_client h0 q sent to missing is) = same-line is
        by (at_server q sent to is) = at-server q sent to is
        by (at_host h0 q c t sent to at hears is) = case (host == h0) refl
          where
            case : (b : Bool) → (host == h0) ≡ b → InLine host (play p (Event.Deliver k))
            case true same =
                let one = same-number host h0 same in
                at-own q c t sent (to ∙ ap Party.Client (sym one)) (subst (λ n. slice_get p.world.clients n ≡ Some c) (sym one) at) hears
                (is ∙ ap (λ n. after_client p.world n t) (sym one))
            case false differs = at-other h0 t (λ same. let yes : (host == h0) ≡ true = number-same host h0 same in absurd (cc)) is

  -- ---- ticks

  -- the host's client is attached and has no request under way
  abbrev pub Rests : Client → Type 0
  Rests c = (c.attached ≡ true) × (c.ticket ≡ None)

  abbrev pub At : (Client → Type 0) → Play → Type 0
  At P p = (c : Client) → slice_get p.world.clients host ≡ Some c → P c

  tick-is : (p : Play) (h : ℕ) (c : Client) → slice_get p.world.clients h ≡ Some c
      → step p.world (Event.ClientTick h) ≡ after_client p.world h (client_tick c (c.now + 1))
  tick-is p h c at = ap (at_client p.world h (λ d. client_tick d (d.now + 1))) at

  own-tick : (p : Play) → IsLawful most head p → IsRising p → InLine host p → At Rests p
      → InLine host (play p (Event.ClientTick host)) × At (λ c. c.attached ≡ true) (play p (Event.ClientTick host))
  unfolding after_client
  own-tick p l rises line all = by (slice_get p.world.clients host) refl
    where
      by : (o : Option Client) → slice_get p.world.clients host ≡ o → InLine host (play p (Event.ClientTick host)) × At (λ c. c.attached ≡ true)
          (play p (Event.ClientTick host))
      by None none =
          let is : step p.world (Event.ClientTick host) ≡ p.world = ap (at_client p.world host (λ d. client_tick d (d.now + 1))) none in (
            other-line host p (Event.ClientTick host) rises line [] (ap (λ (w : World). w.packets) is ∙ sym (append-nil p.world.packets))
                (nothing-sent host) (λ c at. subst (λ (w : World). slice_get w.clients host ≡ Some c) is at)
                (ap (λ (w : World). host_row w.server.kept host) is),
            λ c at. none-some c (sym none ∙ subst (λ (w : World). slice_get w.clients host ≡ Some c) is at),
          )
      by (Some c) at =
          let is = tick-is p host c at in
          let a = (holds p l).clients host c at in
          let k = all c at in
          let seqs = subst (λ (u : World). Seqs c.who c.seq u.packets) (sym l.is_run) ((run-draws head p.events).clients host c (at-run p l host c at)) in
          let drawn = (run-lined most head p.events l.bounds l.within host c (at-run p l host c at)).drawn in (
            client-line host p (Event.ClientTick host) rises line c (client_tick c (c.now + 1)) at is a seqs (tick-sent c a.alone drawn k.1)
                (low p l c at k.0),
            λ d there.
                let new : d ≡ (client_tick c (c.now + 1)).client =
                get-set-same p.world.clients host (client_tick c (c.now + 1)).client d
                (subst (λ (w : World). slice_get w.clients host ≡ Some d) is there) in
                ap (λ (x : Client). x.attached) new ∙ tick-stays c a.alone k.0,
          )

  other-tick : (P : Client → Type 0) (p : Play) (h : ℕ) → host ≢ h → IsRising p → InLine host p → At P p
      → InLine host (play p (Event.ClientTick h)) × At P (play p (Event.ClientTick h))
  unfolding after_client
  other-tick P p h apart rises line all = by (slice_get p.world.clients h) refl
    where
      by : (o : Option Client) → slice_get p.world.clients h ≡ o → InLine host (play p (Event.ClientTick h)) × At P (play p (Event.ClientTick h))
      by None none =
          let is : step p.world (Event.ClientTick h) ≡ p.world = ap (at_client p.world h (λ d. client_tick d (d.now + 1))) none in (
            other-line host p (Event.ClientTick h) rises line [] (ap (λ (w : World). w.packets) is ∙ sym (append-nil p.world.packets)) (nothing-sent host)
                (λ c at. subst (λ (w : World). slice_get w.clients host ≡ Some c) is at) (ap (λ (w : World). host_row w.server.kept host) is),
            λ c at. all c (subst (λ (w : World). slice_get w.clients host ≡ Some c) is at),
          )
      by (Some d) at =
          let is = tick-is p h d at in
          let old : (c : Client) → slice_get (step p.world (Event.ClientTick h)).clients host ≡ Some c
          → slice_get p.world.clients host ≡ Some c =
          λ c there. sym (get-set-other p.world.clients h host (client_tick d (d.now + 1)).client apart) ∙ subst
          (λ (w : World). slice_get w.clients host ≡ Some c) is there in (
            other-line host p (Event.ClientTick h) rises line (map (from_host h) (client_tick d (d.now + 1)).sends) (ap (λ (w : World). w.packets) is)
                (others-sent host h apart (client_tick d (d.now + 1)).sends) old (ap (λ (w : World). host_row w.server.kept host) is),
            λ c there. all c (old c there),
          )

  -- the clocks of hosts tick that were ticked already for this host
  past-ticks : (count h : ℕ) (p : Play) → host < h → IsRising p → InLine host p → At (λ c. c.attached ≡ true) p
      → InLine host (play_hosts count h p) × At (λ c. c.attached ≡ true) (play_hosts count h p)
  past-ticks zero h p past rises line all = (line, all)
  past-ticks (suc count) h p past rises line all =
      let one = other-tick (λ c. c.attached ≡ true) p h (λ same. omega arith) rises line all in
      past-ticks count (h + 1) (play p (Event.ClientTick h)) (omega arith) (played-rising p (Event.ClientTick h) rises) one.0 one.1

  hosts-tick : (count h : ℕ) (p : Play) → h ≤ host → host < h + count → IsLawful most head p → IsRising p → InLine host p → At Rests p
      → InLine host (play_hosts count h p) × At (λ c. c.attached ≡ true) (play_hosts count h p)
  hosts-tick zero h p from below l rises line all = absurd (omega arith)
  hosts-tick (suc count) h p from below l rises line all = by (host == h) refl (hosts-tick count (h + 1) (play p (Event.ClientTick h)))
    where
      by : (b : Bool) → (host == h) ≡ b →
          (h + 1 ≤ host → host < (h + 1) + count → IsLawful most head (play p (Event.ClientTick h)) → IsRising (play p (Event.ClientTick h))
          → InLine host (play p (Event.ClientTick h)) → At Rests (play p (Event.ClientTick h))
          → InLine host (play_hosts count (h + 1) (play p (Event.ClientTick h))) × At (λ c. c.attached ≡ true)
          (play_hosts count (h + 1) (play p (Event.ClientTick h)))) → InLine host (play_hosts (suc count) h p) × At (λ c. c.attached ≡ true)
          (play_hosts (suc count) h p)
      by true same again =
          let e : host ≡ h = same-number host h same in
          let one : InLine host (play p (Event.ClientTick h)) × At (λ c. c.attached ≡ true) (play p (Event.ClientTick h)) =
          subst (λ n. InLine host (play p (Event.ClientTick n)) × At (λ c. c.attached ≡ true) (play p (Event.ClientTick n))) e
          (own-tick p l rises line all) in
          past-ticks count (h + 1) (play p (Event.ClientTick h)) (omega arith) (played-rising p (Event.ClientTick h) rises) one.0 one.1
      by false differs again =
          let apart : host ≢ h = λ e. let yes : (host == h) ≡ true = number-same host h e in absurd (cc) in
          let one = other-tick Rests p h apart rises line all in
          again (omega arith) (omega arith) (played-quiet most head p (Event.ClientTick h) tt refl l) (played-rising p (Event.ClientTick h) rises) one.0 one.1

  -- all clocks tick where nothing is under way, and the host's client rests: after that its queue is in line
  pub round-queue : (p : Play) → IsLawful most head p → IsRising p → host < head.hosts → p.fresh ≡ [] → At Rests p → Queue (play_rounds 1 p)
  unfolding after_server
  round-queue p l rises below none all =
      let many : length p.world.clients ≡ head.hosts = ap (λ (w : World). length w.clients) l.is_run ∙ client-count head p.events in
      let q = play_hosts (length p.world.clients) 0 p in
      let one = hosts-tick (length p.world.clients) 0 p (omega arith) (omega arith) l rises (empty-line host p none) all in
      let up = hosts-rising (length p.world.clients) 0 p rises in
      record {
        lawful = round most head p l;
        rises = played-rising q Event.ServerTick up;
        on = one.1;
        below = below;
        line = other-line host q Event.ServerTick up one.0 [] (ap (λ ms. q.world.packets ++ ms) (silent q.world.server (q.world.server.now + 1)))
            (nothing-sent host) (λ c at. at) (tick-line q.world.server (q.world.server.now + 1) host);
      }
