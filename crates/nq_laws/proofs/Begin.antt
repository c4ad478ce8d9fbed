-- A delivery begins, after the ticks of a round: what is under way are the requests of clients, each just sent.
use Rattle.std.proofs.Common.{◌≡◌, ◌≤◌, ◌<◌, ◌⊎◌, ℕ, ◌+◌, ◌-◌, ◌++◌, true, false, zero, suc, [], Option, Some, None, is_some, length, refl, sym}
use Rattle.std.proofs.Common.{subst, ap, ◌∙◌, arith, inl, inr, append-nil}
use Rattle.std.specs.Prelude.{map, slice_get}
use Rattle.nq_base.specs.declared.Event.{Event}
use Rattle.nq_base.specs.declared.Mode.{Mode}
use Rattle.nq_base.specs.declared.Request.{Request}
use Rattle.nq_base.specs.declared.Row.{Row}
use Rattle.nq_base.specs.declared.Want.{Want}
use Rattle.nq_model.specs.protocol.Client.{Client, Job, attaching, for_call, renewing, pushing, Lease, Ticket, UnderWay, lease_on}
use Rattle.nq_model.specs.protocol.ClientStep.{client_tick}
use Rattle.nq_model.specs.laws.LeaseInterval.{HasFitting, IsCovered, claim_of, cover_end, is_at_least}
use Rattle.nq_model.specs.protocol.Lines.{Play, play, play_hosts, play_rounds}
use Rattle.nq_model.specs.protocol.Message.{Message, Packet, call}
use Rattle.nq_model.specs.protocol.Send.{want_of}
use Rattle.nq_model.specs.protocol.Server.{serving, Server, ServerStep, quiet, keeping_with, with_table}
use Rattle.nq_model.specs.protocol.ServerStep.{tick, at_time, opens, ends_writing}
use Rattle.nq_model.specs.protocol.Table.{caches, greater_mode, find_row}
use Rattle.nq_model.specs.protocol.World.{Head, World, from_host, after_client, after_server, at_client, step, run}
use Rattle.law_rounds.specs.RequestsAreMeant.{wanted, IsMeant}
use Rattle.law_rounds.proofs.ClientCount.{client-count}
use Rattle.law_rounds.proofs.Meant.{requests-are-meant}
use Rattle.walk_steps.proofs.LeaseIntervals.{run-runs}
use Rattle.law_rounds.specs.CalmRoundsAreLawful.{IsLawful}
use Rattle.law_rounds.specs.QuietDeliveries.{recovers}
use Rattle.law_rounds.proofs.PacketsCome.{Comes}
use Rattle.law_rounds.proofs.CalmIsLawful.{round}
use Rattle.walk_steps.proofs.ClientFacts.{fits_job, Alone}
use Rattle.walk_steps.proofs.ClientMoves.{some-same, none-some}
use Rattle.walk_steps.proofs.Packets.{In, message-same, call-same}
use Rattle.walk_steps.proofs.Worlds.{get-set-other, set-there, run-holds}
use Rattle.walk_steps.proofs.StepSends.{TickSends, rests, again, asks_now, tick-sends}
use Rattle.walk_steps.proofs.ServerCases.{server-ticks}
use Rattle.nq_laws.proofs.Hosts.{ticked}
use Rattle.law_rounds.proofs.ComesFrom.{comes-from}
use Rattle.nq_laws.proofs.CallRequests.{run-asks}
use Rattle.nq_laws.proofs.ClientHopes.{map-in}
use Rattle.nq_laws.proofs.UnderWay.{Wants, NoneRenew, WantedNow, of_call, of_row, serves-is}
use Rattle.nq_laws.proofs.FoundLeases.{run-found}
use Rattle.nq_laws.proofs.Queue.{queue, in-comes}
use Rattle.nq_laws.proofs.Served.{IsWant, by_read, by_lease, Fits, read_fits, write_fits}
use Rattle.nq_laws.proofs.TickRenews.{Renews, tick-renews}
use Rattle.law_rounds.proofs.ClientSteps.{get-below}

-- ---- what is under way

-- a packet is the request under way of a host's client, below some host
pub record FromTicket (upto : ℕ) (p : Play) (q : Packet) : Type 0 where
  pub host : ℕ
  pub below : host < upto
  pub client : Client
  pub at : slice_get p.world.clients host ≡ Some client
  pub ticket : Ticket
  pub asks : client.ticket ≡ Some ticket
  pub is : q ≡ from_host host (call ticket.xid ticket.request)

abbrev OfTickets : ℕ → Play → Type 0
OfTickets upto p = (q : Packet) → Comes p q → FromTicket upto p q

-- from a host on no client has a request under way
abbrev Free : ℕ → Play → Type 0
Free h p = (host : ℕ) (c : Client) → h ≤ host → slice_get p.world.clients host ≡ Some c → c.ticket ≡ None

one-tick : (p : Play) (h : ℕ) → OfTickets h p → Free h p → OfTickets (h + 1) (play p (Event.ClientTick h)) × Free (h + 1) (play p (Event.ClientTick h))
unfolding after_client
one-tick p h all free = by (slice_get p.world.clients h) refl
  where
    by : (o : Option Client) → slice_get p.world.clients h ≡ o → OfTickets (h + 1) (play p (Event.ClientTick h)) × Free (h + 1) (play p (Event.ClientTick h))
    by None none =
        let is : step p.world (Event.ClientTick h) ≡ p.world = ap (at_client p.world h (λ d. client_tick d (d.now + 1))) none in (
          λ q c. old is q (comes-from p (Event.ClientTick h) [] (ap (λ (w : World). w.packets) is ∙ sym (append-nil p.world.packets)) q c),
          λ host c later at. free host c (omega arith) (subst (λ (w : World). slice_get w.clients host ≡ Some c) is at),
        )
      where
        old : step p.world (Event.ClientTick h) ≡ p.world → (q : Packet) → Comes p q ⊎ ⊥ → FromTicket (h + 1) (play p (Event.ClientTick h)) q
        old is q (inr bad) = absurd bad
        old is q (inl c) = let f = all q c in record {
          host = f.host;
          below = (let low = f.below in omega arith);
          client = f.client;
          at = ap (λ
              (w : World). slice_get w.clients f.host) is ∙ f.at;
          ticket = f.ticket;
          asks = f.asks;
          is = f.is;
        }
    by (Some c) at =
        let is : step p.world (Event.ClientTick h) ≡ after_client p.world h (client_tick c (c.now + 1)) = ap (at_client p.world h (λ d. client_tick d
        (d.now + 1))) at in (
          λ q e. new is q (comes-from p (Event.ClientTick h) (map (from_host h) (client_tick c (c.now + 1)).sends) (ap (λ (w : World). w.packets) is) q e),
          λ host d later there. free host d (omega arith) (sym (get-set-other p.world.clients h host (client_tick c (c.now + 1)).client
              (λ same. omega arith)) ∙ subst (λ (w : World). slice_get w.clients host ≡ Some d) is there),
        )
      where
        sent : step p.world (Event.ClientTick h) ≡ after_client p.world h (client_tick c (c.now + 1)) → (q : Packet) (m : Message)
            → In (client_tick c (c.now + 1)).sends m → q ≡ from_host h m → TickSends c (client_tick c (c.now + 1))
            → FromTicket (h + 1) (play p (Event.ClientTick h)) q
        sent is q m i same (rests none ticket xid) = absurd (subst (λ ms. In ms m) none i)
        sent is q m i same (again ticket has now sends xid) = none-some ticket (sym (free h c (omega arith) at) ∙ has)
        sent is q m i same (asks_now ticket none has sends xid after first by fits) = one (subst (λ ms. In ms m) sends i)
          where
            one : (call ticket.xid ticket.request ≡ m) ⊎ ⊥ → FromTicket (h + 1) (play p (Event.ClientTick h)) q
            one (inr bad) = absurd bad
            one (inl e) = record {
              host = h;
              below = omega arith;
              client = (client_tick c (c.now + 1)).client;
              at = ap (λ (w : World). slice_get w.clients h) is ∙ set-there p.world.clients h (client_tick c (c.now + 1)).client c at;
              ticket = ticket;
              asks = has;
              is = same ∙ ap (from_host h) (sym e);
            }

        new : step p.world (Event.ClientTick h) ≡ after_client p.world h (client_tick c (c.now + 1)) → (q : Packet) → Comes p q
            ⊎ In (map (from_host h) (client_tick c (c.now + 1)).sends) q → FromTicket (h + 1) (play p (Event.ClientTick h)) q
        new is q (inl e) =
            let f = all q e in
            let low = f.below in
            record {
              host = f.host;
              below = omega arith;
              client = f.client;
              at = ap (λ (w : World). slice_get w.clients f.host) is ∙ get-set-other p.world.clients h f.host (client_tick c (c.now + 1)).client
                  (λ same. omega arith) ∙ f.at;
              ticket = f.ticket;
              asks = f.asks;
              is = f.is;
            }
        new is q (inr i) = let m = map-in (from_host h) (client_tick c (c.now + 1)).sends q i in sent is q m.0 m.1 m.2 (tick-sends c)

all-ticks : (count h : ℕ) (p : Play) → OfTickets h p → Free h p → OfTickets (h + count) (play_hosts count h p)
all-ticks zero h p all free = let e : h ≡ h + 0 = omega arith in subst (λ n. OfTickets n p) e all
all-ticks (suc count) h p all free =
    let one = one-tick p h all free in
    let e : (h + 1) + count ≡ h + suc count = omega arith in
    subst (λ n. OfTickets n (play_hosts count (h + 1) (play p (Event.ClientTick h)))) e (all-ticks count (h + 1) (play p (Event.ClientTick h)) one.0 one.1)

-- a tick of the server's clock sends nothing
pub silent : (s : Server) (now : ℕ) → (tick s now).sends ≡ []
unfolding quiet at_time opens ends_writing keeping_with with_table
silent s now = server-ticks s now (λ (t : ServerStep). t.sends ≡ []) (record {
  waits = λ until heard last p goes. refl;
  opening = λ until heard last p over. refl;
  ends_reading = λ p ends. refl;
  ending_writing = λ row p due. refl;
})

-- after the ticks of a round where nothing is under way, and no client has a request under way
pub round-tickets : (p : Play) → p.fresh ≡ [] → ((host : ℕ) (c : Client) → slice_get p.world.clients host ≡ Some c → c.ticket ≡ None) → (q : Packet)
    → Comes (play_rounds 1 p) q → FromTicket (length p.world.clients) (play_rounds 1 p) q
unfolding after_server
round-tickets p none free q c =
    let n = length p.world.clients in
    let hosts = play_hosts n 0 p in
    let all = all-ticks n 0 p (λ z e. absurd (subst (λ ns. In ns e.number) none e.fresh)) (λ host d later at. free host d at) in
    by (comes-from hosts Event.ServerTick [] (ap (λ ms. hosts.world.packets ++ ms) (silent hosts.world.server (hosts.world.server.now + 1))) q c) all
  where
    by : Comes (play_hosts (length p.world.clients) 0 p) q ⊎ ⊥ → OfTickets (0 + length p.world.clients) (play_hosts (length p.world.clients) 0 p)
        → FromTicket (length p.world.clients) (play_rounds 1 p) q
    by (inr bad) all = absurd bad
    by (inl e) all = let f = all q e in record {
      host = f.host;
      below = (let low = f.below in omega arith);
      client = f.client;
      at = f.at;
      ticket = f.ticket;
      asks = f.asks;
      is = f.is;
    }

-- ---- what is known of it

module _ (most : ℕ) (head : Head) (p : Play) (l : IsLawful most head p) (none : p.fresh ≡ []) (free : (host : ℕ) (c : Client)
    → slice_get p.world.clients host ≡ Some c → c.ticket ≡ None) (serves : recovers (play_rounds 1 p).world.server.phase ≡ false) where
  next-lawful : IsLawful most head (play_rounds 1 p)
  next-lawful = round most head p l

  record Ready (c : Client) : Type 0 where
    alone : Alone c
    found : (m : Lease) → In c.leases m → lease_on m.file c.leases ≡ Some m
    ticket : c.ticket ≡ None

  at-run : (host : ℕ) (c : Client) → slice_get p.world.clients host ≡ Some c → slice_get (run head p.events).clients host ≡ Some c
  at-run host c at = subst (λ (u : World). slice_get u.clients host ≡ Some c) l.is_run at

  renews-at : (host : ℕ) (c : Client) → slice_get (play_rounds 1 p).world.clients host ≡ Some c → (k : Ticket) → c.ticket ≡ Some k → k.job ≡ renewing
      → Renews c k
  renews-at host c at =
      let inside = get-below (play_rounds 1 p).world.clients host c at in
      let many : length (play_rounds 1 p).world.clients ≡ head.hosts = ap (λ (u : World). length u.clients) next-lawful.is_run
      ∙ client-count head (play_rounds 1 p).events in
      let before : length p.world.clients ≡ head.hosts = ap (λ (u : World). length u.clients) l.is_run ∙ client-count head p.events in
      ticked most head host Ready (λ (d : Client). (k : Ticket) → d.ticket ≡ Some k → k.job ≡ renewing
      → Renews d k) (λ d r. tick-renews d r.alone r.found r.ticket) p (omega arith)
      (λ d there. record {
        alone = ((run-holds head p.events).clients host d (at-run host d there)).alone;
        found = run-found head p.events host d
            (at-run host d there);
        ticket = free host d there;
      }) c at

  pub none-renew : NoneRenew (play_rounds 1 p).world
  none-renew host c t u at asks has job = none-some u (sym (renews-at host c at t asks job).idle ∙ has)

  -- the row of a lease that is renewed
  greater-same : (m n : Mode) → is_at_least m n ≡ true → greater_mode m n ≡ m
  greater-same Mode.NonCaching Mode.NonCaching e = refl
  greater-same Mode.NonCaching Mode.Reading e = cc
  greater-same Mode.NonCaching Mode.Writing e = cc
  greater-same Mode.Reading Mode.NonCaching e = refl
  greater-same Mode.Reading Mode.Reading e = refl
  greater-same Mode.Reading Mode.Writing e = cc
  greater-same Mode.Writing n e = refl

  at-least-caches : (m n : Mode) → is_at_least m n ≡ true → caches n ≡ true → caches m ≡ true
  at-least-caches m Mode.NonCaching e k = cc
  at-least-caches m Mode.Reading e k = e
  at-least-caches Mode.NonCaching Mode.Writing e k = cc
  at-least-caches Mode.Reading Mode.Writing e k = cc
  at-least-caches Mode.Writing Mode.Writing e k = refl

  record HasRow (host : ℕ) (lease : Lease) (file : ℕ) : Type 0 where
    row : Row
    there : find_row file host (play_rounds 1 p).world.server.table.rows ≡ Some row
    kind : is_at_least row.mode lease.mode ≡ true

  row-of : (host : ℕ) (c : Client) → slice_get (play_rounds 1 p).world.clients host ≡ Some c → (file : ℕ) (lease : Lease)
      → lease_on file c.leases ≡ Some lease → caches lease.mode ≡ true → c.now < lease.expiry → HasRow host lease file
  row-of host c at file lease holds caching live =
      let events = (play_rounds 1 p).events in
      let there : slice_get (run head events).clients host ≡ Some c = subst (λ (u : World). slice_get u.clients host ≡ Some c) next-lawful.is_run at in
      let phase : (run head events).server.phase ≡ serving = ap (λ (u : World). u.server.phase) (sym next-lawful.is_run)
      ∙ serves-is (play_rounds 1 p).world.server.phase serves in
      let r = run-runs most head events next-lawful.bounds next-lawful.within in
      let a = (run-holds head events).clients host c there in
      let first = (a.alone.asking.leased file lease holds).term in
      let covered = ((r.known.clients host c there)).covered.held file lease holds caching (omega arith) in
      let h : HasFitting (claim_of c.who file lease.mode lease.tag (cover_end c.who.host (lease.expiry - lease.term) lease.term events))
      (run head events).server.table = subst (λ ph. IsCovered (run head events).server ph (claim_of c.who file lease.mode lease.tag
      (cover_end c.who.host (lease.expiry - lease.term) lease.term events))) phase covered in
      record {
        row = h.row;
        there = subst (λ (u : World). find_row file host u.server.table.rows ≡ Some h.row) (sym next-lawful.is_run) (subst (λ n. find_row file n
            (run head events).server.table.rows ≡ Some h.row) a.here h.stands);
        kind = h.fits.kind;
      }

  pub round-wants : Wants (play_rounds 1 p).world (queue (play_rounds 1 p))
  round-wants host x f c r want at i w = by (round-tickets p none free (from_host host (call x r)) (in-comes (play_rounds 1 p) (from_host host (call x r)) i))
    where
      ticket-of : (y : ℕ) (s : Request) → FromTicket (length p.world.clients) (play_rounds 1 p) (from_host host (call y s)) → (t : Ticket)
          × (c.ticket ≡ Some t) × (t.xid ≡ y) × (t.request ≡ s)
      ticket-of y s o =
          let m = message-same host o.host (call y s) (call o.ticket.xid o.ticket.request) o.is in
          let k = call-same y o.ticket.xid s o.ticket.request m.1 in
          let one : c ≡ o.client = some-same c o.client (sym at ∙ ap (slice_get (play_rounds 1 p).world.clients) m.0 ∙ o.at) in
          (o.ticket, ap (λ (z : Client). z.ticket) one ∙ o.asks, sym k.0, sym k.1)

      there : slice_get (run head (play_rounds 1 p).events).clients host ≡ Some c
      there = subst (λ (u : World). slice_get u.clients host ≡ Some c) next-lawful.is_run at

      alone : Alone c
      alone = ((run-holds head (play_rounds 1 p).events).clients host c there).alone

      fit : (t : Ticket) (u : UnderWay) → t.request ≡ r → IsMeant c t u → IsWant r f want → Fits u f want
      fit t u req m (by_read who q block is_r) = read_fits block (m.reads who q f block want (req ∙ is_r)).0
      fit t u req m (by_lease who is_r) =
          let ls = m.leases who f want (req ∙ is_r) in
          let two : Request.GetLease who f want ≡ Request.GetLease c.who f (wanted c Mode.Writing) = sym (req ∙ is_r) ∙ ls.1 in
          let same_want : want ≡ wanted c Mode.Writing = cc in
          write_fits ls.0.block ls.0.body ls.0.is (ap (λ (z : Want). z.mode) same_want)

      not-other : (job : Job) → (job ≡ attaching) ⊎ (job ≡ pushing) → fits_job job r ≡ true → IsWant r f want → ⊥
      not-other job (inl e) ok (by_read who q block is_r) = let no : fits_job attaching (Request.Read who q f block (Some want)) ≡ true = subst
          (λ j. fits_job j (Request.Read who q f block (Some want)) ≡ true) e (subst (λ z. fits_job job z ≡ true) is_r ok) in cc
      not-other job (inr e) ok (by_read who q block is_r) = let no : fits_job pushing (Request.Read who q f block (Some want)) ≡ true = subst
          (λ j. fits_job j (Request.Read who q f block (Some want)) ≡ true) e (subst (λ z. fits_job job z ≡ true) is_r ok) in cc
      not-other job (inl e) ok (by_lease who is_r) = let no : fits_job attaching (Request.GetLease who f want) ≡ true = subst (λ j. fits_job j
          (Request.GetLease who f want) ≡ true) e (subst (λ z. fits_job job z ≡ true) is_r ok) in cc
      not-other job (inr e) ok (by_lease who is_r) = let no : fits_job pushing (Request.GetLease who f want) ≡ true = subst (λ j. fits_job j
          (Request.GetLease who f want) ≡ true) e (subst (λ z. fits_job job z ≡ true) is_r ok) in cc

      with-call : (t : Ticket) → c.ticket ≡ Some t → t.request ≡ r → t.job ≡ for_call → (o : Option UnderWay) → c.call ≡ o
          → WantedNow (play_rounds 1 p).world.server.table.rows (queue (play_rounds 1 p)) host c x f want
      with-call t asks req job None idle = let yes = alone.asking.called t asks job in let no : is_some c.call ≡ false = ap is_some idle in absurd (cc)
      with-call t asks req job (Some u) has = of_call u has ((run-asks head (play_rounds 1 p).events host c there).early t asks job) (fit t u req
          (requests-are-meant head (play_rounds 1 p).events host c t u there asks job has) w)

      want-mode : (t : Ticket) (k : Renews c t) → t.request ≡ r → IsWant r f want → (k.file ≡ f) × (want.mode ≡ k.lease.mode)
      want-mode t k req (by_read who q block is_r) = let two : Request.GetLease c.who k.file (want_of c k.lease.mode) ≡ Request.Read who q f block
          (Some want) = sym k.asks ∙ req ∙ is_r in absurd (cc)
      want-mode t k req (by_lease who is_r) =
          let two : Request.GetLease c.who k.file (want_of c k.lease.mode) ≡ Request.GetLease who f want = sym k.asks ∙ req ∙ is_r in
          let files : k.file ≡ f = cc in
          let wants : want_of c k.lease.mode ≡ want = cc in
          (files, ap (λ (z : Want). z.mode) (sym wants))

      renewal : (t : Ticket) → c.ticket ≡ Some t → t.xid ≡ x → t.request ≡ r → Renews c t → WantedNow (play_rounds 1 p).world.server.table.rows (queue
          (play_rounds 1 p)) host c x f want
      renewal t asks number req k =
          let m = want-mode t k req w in
          let o = row-of host c at k.file k.lease k.holds k.caching k.live in
          of_row o.row k.idle (subst (λ g. find_row g host (play_rounds 1 p).world.server.table.rows ≡ Some o.row) m.0 o.there)
          (at-least-caches o.row.mode k.lease.mode o.kind k.caching)
          (ap (greater_mode o.row.mode) m.1 ∙ greater-same o.row.mode k.lease.mode o.kind)
          (λ y s j. least y s j)
        where
          least : (y : ℕ) (s : Request) → In (queue (play_rounds 1 p)) (from_host host (call y s)) → x ≤ y
          least y s j =
              let z = ticket-of y s (round-tickets p none free (from_host host (call y s)) (in-comes (play_rounds 1 p) (from_host host (call y s)) j)) in
              let same : t.xid ≡ z.0.xid = ap (λ (v : Ticket). v.xid) (some-same t z.0 (sym asks ∙ z.1)) in
              let there_is = z.2 in
              omega arith

      of-job : (t : Ticket) → c.ticket ≡ Some t → t.xid ≡ x → t.request ≡ r → (job : Job) → t.job ≡ job
          → WantedNow (play_rounds 1 p).world.server.table.rows (queue (play_rounds 1 p)) host c x f want
      of-job t asks number req for_call job = with-call t asks req job c.call refl
      of-job t asks number req renewing job = renewal t asks number req (renews-at host c at t asks job)
      of-job t asks number req attaching job = absurd (not-other attaching (inl refl) (subst (λ z. fits_job attaching z ≡ true) req (subst
          (λ j. fits_job j t.request ≡ true) job (alone.asking.ticketed t asks).fits)) w)
      of-job t asks number req pushing job = absurd (not-other pushing (inr refl) (subst (λ z. fits_job pushing z ≡ true) req (subst
          (λ j. fits_job j t.request ≡ true) job (alone.asking.ticketed t asks).fits)) w)

      by : FromTicket (length p.world.clients) (play_rounds 1 p) (from_host host (call x r))
          → WantedNow (play_rounds 1 p).world.server.table.rows (queue (play_rounds 1 p)) host c x f want
      by o = let t = ticket-of x r o in of-job t.0 t.1 t.2 t.3 t.0.job refl
