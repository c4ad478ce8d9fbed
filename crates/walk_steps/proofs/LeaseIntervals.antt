-- In every run within skew the lease interval is kept.
use Rattle.std.proofs.Common.{◌≡◌, ◌≢◌, ◌≤◌, ℕ, zero, suc, ◌+◌, Bool, true, false, ◌==◌, List, [], ◌∷◌, ◌++◌, Option, Some, None, if◌then◌else◌}
use Rattle.std.proofs.Common.{length, refl, sym, subst, ap, ◌∙◌, arith, append-nil}
use Rattle.std.specs.Prelude.{slice_get, slice_set}
use Rattle.nq_base.specs.declared.Event.{Event}
use Rattle.nq_base.specs.declared.Party.{Party}
use Rattle.nq_base.specs.declared.Request.{Request}
use Rattle.nq_base.specs.declared.Row.{Row}
use Rattle.nq_base.specs.declared.Who.{Who}
use Rattle.walk_steps.proofs.ClientFacts.{fits_job}
use Rattle.walk_steps.proofs.ClientMoves.{some-same, none-some}
use Rattle.walk_steps.proofs.ClientSteps.{KnowsOf}
use Rattle.walk_steps.proofs.Clocks.{within-before}
use Rattle.walk_steps.proofs.Hearing.{Hearing}
use Rattle.walk_steps.proofs.KnownWorlds.{Known, at-clock, timely, to-client-known, call-known, tick-known, restart-known, server-known, known-covers}
use Rattle.walk_steps.proofs.KnownWorlds.{start-known, first-there, ignored-known}
use Rattle.walk_steps.proofs.LogFits.{fits-start}
use Rattle.walk_steps.proofs.Packets.{In, in-get, Told}
use Rattle.walk_steps.proofs.Rows.{same-number, number-same}
use Rattle.walk_steps.proofs.ServerFacts.{IncsFit, incs-receive, incs-tick, incs-crash}
use Rattle.walk_steps.proofs.ServerHears.{hears-effect}
use Rattle.walk_steps.proofs.ClientKnows.{Knows}
use Rattle.walk_steps.proofs.ServerCases.{server-ticks}
use Rattle.walk_steps.proofs.ServerKnows.{NoneHeard, NoneGiven}
use Rattle.walk_steps.proofs.ServerLives.{HasServed, knows-tick, knows-crash}
use Rattle.walk_steps.proofs.ServerMoves.{server-moves, tick-moves}
use Rattle.walk_steps.proofs.ServerNumbers.{terms-receive, terms-tick, terms-crash, lines-receive, lines-tick, lines-crash}
use Rattle.walk_steps.proofs.ServerTables.{boots-receive, boots-tick, boots-crash, stands-receive, stands-tick, stands-crash, NoneRecovering}
use Rattle.walk_steps.proofs.Unrowed.{IsUnrowed, unrowed-receive, unrowed-tick, unrowed-crash}
use Rattle.walk_steps.proofs.WorldClocks.{Clocked, StillOf, StillIf, call-still, tick-still, hear-still, run-clocked}
use Rattle.walk_steps.proofs.Worlds.{IsAt, Holds, get-set-same, get-set-other, to-server, to-told, run-holds, first-client}
use Rattle.nq_model.specs.laws.Bounds.{BootsWithin, KeepsBounds}
use Rattle.nq_model.specs.laws.LeaseIntervals.{LeaseIntervalInEveryRun}
use Rattle.nq_model.specs.protocol.Client.{Client, ClientStep, attaching, Ticket}
use Rattle.nq_model.specs.protocol.ClientStep.{client_call, client_tick, restart, starts, fresh_client, attached_client, next_incarnation}
use Rattle.nq_model.specs.protocol.Hear.{hear}
use Rattle.nq_model.specs.protocol.Kept.{Kept, File, host_row, with_row, with_files, with_new_file, find_file}
use Rattle.nq_model.specs.laws.LeaseInterval.{requested_file}
use Rattle.nq_model.specs.protocol.Message.{Message, Packet, datagram_of, Datagram}
use Rattle.nq_model.specs.protocol.Profile.{shortest_term}
use Rattle.nq_model.specs.protocol.Server.{Phase, serving, recovering, Server, ServerStep, quiet}
use Rattle.nq_model.specs.protocol.ServerStep.{receive, tick, crash, boot, booted, fence, opens, ends_writing}
use Rattle.nq_model.specs.protocol.Skew.{IsWithinSkew}
use Rattle.nq_model.specs.protocol.Table.{find_row}
use Rattle.nq_model.specs.protocol.World.{Head, World, after_server, after_client, at_client, after_hearing, sending_host, deliver_to_client, deliver_to}
use Rattle.nq_model.specs.protocol.World.{deliver, step, start, run}
use Rattle.walk_steps.proofs.Runs.{Served, none-served, Runs}
use Rattle.walk_steps.proofs.NoCrash.{bounds-before}

-- ---- the server alone

-- the boots of a kept state are those of another
same-boots : (kept after : Kept) → after.opened ≡ kept.opened → after.boot ≡ kept.boot → HasServed kept → HasServed after
same-boots kept after opened boot h = record { opened = let a = h.opened in omega arith; booted = let b = h.booted in omega arith }

opened-receive : (s : Server) (sender next : ℕ) (d : Datagram) → HasServed s.kept → HasServed (receive s sender next d).server.kept
unfolding with_row with_files with_new_file
opened-receive s sender next d h = server-moves s sender next d (λ kept phase table. HasServed kept) (record {
  stays = h;
  decided = λ kept phase table who line e f q. same-boots kept _ refl refl q;
  attaching = λ who later. same-boots s.kept _ refl refl h;
  vacating = λ who file tag current. h;
  marking = λ file host access serves. h;
  marking_waiting = λ xid r who f want e wants asking own room. h;
  granting = λ xid r who f want row term e wants asking c g. h;
  creating = λ name blocks serves can. same-boots s.kept _ refl refl h;
  changing = λ who f file serves current found same c. same-boots s.kept _ refl refl h;
  storing = λ who f file base row serves current found same can. same-boots s.kept _ refl refl h;
  storing_recovering = λ f file until heard last p found same. same-boots s.kept _ refl refl h;
  removing = λ who f serves current found c. same-boots s.kept _ refl refl h;
})

opened-fenced : (kept : Kept) (file : Option File) → HasServed kept → HasServed (fence kept file)
unfolding with_files
opened-fenced kept None h = h
opened-fenced kept (Some f) h = same-boots kept _ refl refl h

opened-tick : (s : Server) (now : ℕ) → HasServed s.kept → HasServed (tick s now).server.kept
opened-tick s now h = tick-moves s now (λ kept phase table. HasServed kept) (record {
  waits = λ until heard last p goes_on. h;
  opening = λ until heard last p over. record { opened = h.booted; booted = h.booted };
  ends_reading = λ p. h;
  ending_writing = λ row p due. opened-fenced s.kept (find_file row.file s.kept.files) h;
})

opened-booted : (kept : Kept) (longest : ℕ) → HasServed kept → HasServed (booted kept longest)
opened-booted kept longest h = by (kept.opened == 0)
  where
    by : (b : Bool)
        → HasServed (if b then record kept { boot = kept.boot + 1; opened = kept.boot + 1; longest = longest } else record kept { boot = kept.boot + 1 })
    by true = record { opened = omega arith; booted = omega arith }
    by false = record { opened = h.opened; booted = omega arith }

opened-crash : (s : Server) (longest : ℕ) → HasServed s.kept → HasServed (crash s longest).server.kept
unfolding crash boot
opened-crash s longest h = opened-booted s.kept longest h

served-receive : (most : ℕ) (s : Server) (sender next : ℕ) (d : Datagram) → Served most s → Served most (receive s sender next d).server
served-receive most s sender next d f = record {
  boots = boots-receive s sender next d f.boots;
  stood = stands-receive s sender next d f.stood;
  incs = incs-receive s sender next d f.stood f.incs;
  terms = terms-receive most s sender next d f.terms;
  lines = lines-receive s sender next d f.lines;
  opened = opened-receive s sender next d f.opened;
}

served-tick : (most : ℕ) (s : Server) (now : ℕ) → Served most s → Served most (tick s now).server
served-tick most s now f = record {
  boots = boots-tick s now f.boots;
  stood = stands-tick s now (none-served most s f) f.stood;
  incs = incs-tick s now (none-served most s f) f.stood f.incs;
  terms = terms-tick most s now f.terms;
  lines = lines-tick s now f.lines;
  opened = opened-tick s now f.opened;
}

served-crash : (most : ℕ) (s : Server) (longest : ℕ) → shortest_term ≤ longest → longest ≤ most → Served most s → Served most (crash s longest).server
served-crash most s longest long few f = record {
  boots = boots-crash s longest f.boots;
  stood = stands-crash s longest f.stood;
  incs = incs-crash s longest f.incs;
  terms = terms-crash most s longest long few f.terms;
  lines = lines-crash s longest f.lines;
  opened = opened-crash s longest f.opened;
}

start-opened : (head : Head) → HasServed (start head).server.kept
unfolding start boot
start-opened head = record { opened = omega arith; booted = omega arith }

start-served : (most : ℕ) (head : Head) (events : List Event) → KeepsBounds most head events → Served most (start head).server
start-served most head events b =
    let f = fits-start most head b.hosts b.first_long b.first_short in
    record { boots = f.boots; stood = f.stands; incs = f.incs; terms = f.terms; lines = f.lines; opened = start-opened head }

-- ---- what holds in a run

-- a host's client is one that was there, or one that stepped there
client-there : (w : World) (host other : ℕ) (t : ClientStep) (c : Client) → slice_get (after_client w host t).clients other ≡ Some c
    → (d : Client) × (slice_get w.clients other ≡ Some d)
unfolding after_client
client-there w host other t c is = there w.clients host other is
  where
    there : (cs : List Client) (i j : ℕ) → slice_get (slice_set cs i t.client) j ≡ Some c → (d : Client) × (slice_get cs j ≡ Some d)
    there [] i j e = none-some c e
    there (d ∷ cs) zero zero e = (d, refl)
    there (d ∷ cs) (suc i) zero e = (d, refl)
    there (d ∷ cs) zero (suc j) e = (c, e)
    there (d ∷ cs) (suc i) (suc j) e = there cs i j e

-- ---- a step of a client

-- a client's step leaves the server, and what is known after it is known
client-runs : (hosts most : ℕ) (w : World) (events : List Event) (e : Event) (host : ℕ) (t : ClientStep) → Known (after_client w host t) (e ∷ events)
    → (t.client.attached ≡ false → IsUnrowed t.client.who w.server.table.rows) → Runs hosts most w events
    → Runs hosts most (after_client w host t) (e ∷ events)
unfolding after_client
client-runs hosts most w events e host t known own h = record {
  served = h.served;
  few = λ other c is. let d = client-there w host other t c is in h.few other d.0 d.1;
  known = known;
  unrowed = λ other c is. case other c (other == host) refl is;
} where
  case : (other : ℕ) (c : Client) (b : Bool) → (other == host) ≡ b → slice_get (slice_set w.clients host t.client) other ≡ Some c → c.attached ≡ false
      → IsUnrowed c.who w.server.table.rows
  case other c true same is =
      let one : other ≡ host = same-number other host same in
      let new : c ≡ t.client = get-set-same w.clients host t.client c (subst (λ n. slice_get (slice_set w.clients host t.client) n ≡ Some c) one is) in
      subst (λ z. z.attached ≡ false → IsUnrowed z.who w.server.table.rows) (sym new) own
  case other c false differs is =
      let apart : other ≢ host = λ same. let yes : (other == host) ≡ true = number-same other host same in absurd (cc) in
      h.unrowed other c (sym (get-set-other w.clients host other t.client apart) ∙ is)

-- an event that does nothing
idle-runs : (hosts most : ℕ) (w : World) (events : List Event) (e : Event) → Known w (e ∷ events) → Runs hosts most w events → Runs hosts most w (e ∷ events)
idle-runs hosts most w events e known h = record { served = h.served; few = h.few; known = known; unrowed = h.unrowed }

-- an incarnation that goes on has no row where it had none
still-unrowed : {now : ℕ} (w : World) (c : Client) (t : ClientStep) → StillOf now c t → (c.attached ≡ false → IsUnrowed c.who w.server.table.rows)
    → t.client.attached ≡ false → IsUnrowed t.client.who w.server.table.rows
still-unrowed w c t s before e = subst (λ z. IsUnrowed z w.server.table.rows) (sym s.same) (before (s.stays e))

at-client-runs : (hosts most : ℕ) (w : World) (events : List Event) (e : Event) (host : ℕ) (f : Client → ClientStep) (o : Option Client)
    → slice_get w.clients host ≡ o → Known (at_client w host f o) (e ∷ events)
    → ((c : Client) → slice_get w.clients host ≡ Some c → (f c).client.attached ≡ false → IsUnrowed (f c).client.who w.server.table.rows)
    → Runs hosts most w events → Runs hosts most (at_client w host f o) (e ∷ events)
at-client-runs hosts most w events e host f None is known own h = idle-runs hosts most w events e known h
at-client-runs hosts most w events e host f (Some c) is known own h = client-runs hosts most w events e host (f c) known (own c is) h

hearing-runs : (hosts most : ℕ) (w : World) (events : List Event) (e : Event) (host : ℕ) (c : Client) (o : Option ClientStep)
    → slice_get w.clients host ≡ Some c → StillIf c o → Known (after_hearing w host o) (e ∷ events) → Runs hosts most w events
    → Runs hosts most (after_hearing w host o) (e ∷ events)
hearing-runs hosts most w events e host c None is still known h = idle-runs hosts most w events e known h
hearing-runs hosts most w events e host c (Some t) is still known h =
    client-runs hosts most w events e host t known (still-unrowed w c t still (h.unrowed host c is)) h

to-client-runs : (hosts most : ℕ) (w : World) (events : List Event) (k host : ℕ) (m : Message) (o : Option Client) → slice_get w.clients host ≡ o
    → Told w.packets host m → Holds w → Known (deliver_to_client w k host m o) (Event.Deliver k ∷ events) → Runs hosts most w events
    → Runs hosts most (deliver_to_client w k host m o) (Event.Deliver k ∷ events)
to-client-runs hosts most w events k host m None is sent held known h = idle-runs hosts most w events (Event.Deliver k) known h
to-client-runs hosts most w events k host m (Some c) is sent held known h =
    hearing-runs hosts most w events (Event.Deliver k) host c (hear c k m) is (hear-still host c w.packets k m sent (held.clients host c is)) known h

-- the next incarnation has no row: all are of the kept one, which is no later than the running one
fresh-unrowed : (s : Server) (phase : Phase) (c : Client) → (host_row s.kept c.who.host).inc ≤ c.who.inc → IncsFit s.kept phase s.table
    → NoneRecovering phase s.table → IsUnrowed (next_incarnation c.who) s.table.rows
fresh-unrowed s serving c past incs none = λ file row found inc. let same = incs file c.who.host row found in omega arith
fresh-unrowed s (recovering until heard last) c past incs none = λ file row found inc. none-some row (ap (find_row file c.who.host) (sym none) ∙ found)

restarted-who : (c : Client) → (restart c).client.who ≡ next_incarnation c.who
unfolding starts fresh_client
restarted-who c = refl

restart-unrowed : (hosts most : ℕ) (w : World) (events : List Event) (host : ℕ) (c : Client) → slice_get w.clients host ≡ Some c → Holds w
    → Runs hosts most w events → (restart c).client.attached ≡ false → IsUnrowed (restart c).client.who w.server.table.rows
restart-unrowed hosts most w events host c is held h e =
    let a = held.clients host c is in
    let past : (host_row w.server.kept c.who.host).inc ≤ c.who.inc = subst (λ n. (host_row w.server.kept n).inc ≤ c.who.inc) (sym a.here)
    (h.known.clients host c is).lined.past in
    subst (λ z. IsUnrowed z w.server.table.rows) (sym (restarted-who c))
    (fresh-unrowed w.server w.server.phase c past h.served.incs (none-served most w.server h.served))

-- ---- a datagram at the server

attach-requests-none : (r : Request) → fits_job attaching r ≡ true → requested_file r ≡ None
attach-requests-none (Request.Attach w) e = refl
attach-requests-none r e = absurd (cc)

-- a client that is not attached has no lease and asks for none
idle-asks : (c : Client) (ps : List Packet) (host : ℕ) → IsAt host c ps → c.attached ≡ false
    → (c.leases ≡ []) × ((t : Ticket) → c.ticket ≡ Some t → requested_file t.request ≡ None)
idle-asks c ps host a e =
    let w = a.alone.asking.waiting e in (
      w.no_lease,
      λ t is. let one : w.request ≡ t = some-same w.request t (sym w.asks ∙ is) in
          attach-requests-none t.request (subst (λ j. fits_job j t.request ≡ true) (ap (λ z. z.job) (sym one) ∙ w.job) (a.alone.asking.ticketed t is).fits),
    )

pub hearing : (hosts most : ℕ) (w : World) (events : List Event) (p : Packet) (host : ℕ) (c : Client) → slice_get w.clients host ≡ Some c
    → In w.packets p → p.to ≡ Party.Server → Holds w → Runs hosts most w events
    → Hearing w.packets w.server most (sending_host p.sender) (datagram_of p.message) events c.who c.now c.xid c.attached c.ticket c.leases c.notices
hearing hosts most w events p host c is i to held h =
    let a = held.clients host c is in
    record {
      was_sent = λ x r d. (to-server w.packets p (held.sent p i) to i x r d).0;
      no_null = λ x d. let some = (to-server w.packets p (held.sent p i) to i x Request.Null d).1 in absurd (cc);
      boots = h.served.boots;
      stood = h.served.stood;
      incs = h.served.incs;
      terms = h.served.terms;
      lines = h.served.lines;
      mail = a.mail;
      knows = subst (λ n. KnowsOf (host_row w.server.kept n) w.server events c w.packets) (sym a.here) (h.known.clients host c is);
      changing = a.alone.asking.changed;
      idle = idle-asks c w.packets host a;
    }

received-runs : (hosts most : ℕ) (w : World) (events : List Event) (k : ℕ) (p : Packet) → In w.packets p → p.to ≡ Party.Server → Holds w
    → Clocked w events → Runs hosts most w events
    → Runs hosts most (after_server w (receive w.server (sending_host p.sender) (length w.packets) (datagram_of p.message))) (Event.Deliver k ∷ events)
unfolding after_server
received-runs hosts most w events k p i to held clocked h =
    let sender : ℕ = sending_host p.sender in
    let next : ℕ = length w.packets in
    let d : Datagram = datagram_of p.message in
    record {
      served = served-receive most w.server sender next d h.served;
      few = h.few;
      known = server-known w (Event.Deliver k) events (receive w.server sender next d) (record {
        effects =
            λ host c is. hears-effect w.packets w.server most sender next d events c.who c.now c.xid c.attached c.ticket c.leases c.notices
            (hearing hosts most w events p host c is i to held h);
        unrowed = λ host c is e. h.unrowed host c is e;
      }) held clocked h.known;
      unrowed =
          λ host c is e. unrowed-receive w.packets w.server most sender next d events c.who c.now c.xid c.attached c.ticket c.leases c.notices
          (hearing hosts most w events p host c is i to held h) e (h.unrowed host c is e);
    }

delivered-runs : (hosts most : ℕ) (w : World) (events : List Event) (k : ℕ) (p : Packet) (to : Party) → p.to ≡ to → In w.packets p → Holds w
    → Clocked w events → Runs hosts most w events → Runs hosts most (deliver_to w k p to) (Event.Deliver k ∷ events)
delivered-runs hosts most w events k p Party.Server to i held clocked h = received-runs hosts most w events k p i to held clocked h
delivered-runs hosts most w events k p (Party.Client host) to i held clocked h =
    let told : Told w.packets host p.message = to-told w.packets p host (held.sent p i) to i in
    to-client-runs hosts most w events k host p.message (slice_get w.clients host) refl told held
    (to-client-known w (Event.Deliver k) events k host p.message (slice_get w.clients host) refl told held clocked h.known) h

deliver-runs : (hosts most : ℕ) (w : World) (events : List Event) (k : ℕ) (o : Option Packet) → slice_get w.packets k ≡ o → Holds w → Clocked w events
    → Runs hosts most w events → Runs hosts most (deliver w k o) (Event.Deliver k ∷ events)
deliver-runs hosts most w events k None is held clocked h =
    idle-runs hosts most w events (Event.Deliver k) (ignored-known w (Event.Deliver k) events held clocked h.known) h
deliver-runs hosts most w events k (Some p) is held clocked h = delivered-runs hosts most w events k p p.to refl (in-get w.packets k p is) held clocked h

-- ---- ticks of the server's clock, and crashes

quiet-sends : (s : Server) → (quiet s).sends ≡ []
unfolding quiet
quiet-sends s = refl

opens-sends : (s : Server) (until heard : ℕ) → (opens s until heard).sends ≡ []
unfolding opens
opens-sends s until heard = refl

ends-sends : (s : Server) (rows : List Row) (row : Row) → (ends_writing s rows row).sends ≡ []
unfolding ends_writing
ends-sends s rows row = refl

pub tick-sends : (s : Server) (now : ℕ) → (tick s now).sends ≡ []
tick-sends s now = server-ticks s now (λ t. t.sends ≡ []) (record {
  waits = λ until heard last p goes_on. quiet-sends _;
  opening = λ until heard last p over. opens-sends _ until heard;
  ends_reading = λ p none. quiet-sends _;
  ending_writing = λ row p due. ends-sends _ _ row;
})

pub crash-sends : (s : Server) (longest : ℕ) → (crash s longest).sends ≡ []
unfolding crash
crash-sends s longest = refl

-- a step that sends nothing, after which each client is known
silent-known : (w : World) (events : List Event) (e : Event) (t : ServerStep) → t.sends ≡ [] → Holds w
    → ((host : ℕ) (c : Client) → slice_get w.clients host ≡ Some c
    → Knows NoneHeard NoneGiven (host_row t.server.kept c.who.host) t.server (e ∷ events) c.who c.now c.attached c.ticket c.leases c.notices w.packets)
    → Known (after_server w t) (e ∷ events)
unfolding after_server
silent-known w events e t silent held knows = record {
  clients = λ host c is.
      subst (λ n. KnowsOf (host_row t.server.kept n) t.server (e ∷ events) c (w.packets ++ t.sends)) (held.clients host c is).here
      (subst (λ qs. KnowsOf (host_row t.server.kept c.who.host) t.server (e ∷ events) c (w.packets ++ qs)) (sym silent)
      (subst (λ qs. KnowsOf (host_row t.server.kept c.who.host) t.server (e ∷ events) c qs) (sym (append-nil w.packets))
      (knows host c is)));
}

known-here : (w : World) (events : List Event) (host : ℕ) (c : Client) → slice_get w.clients host ≡ Some c → Holds w → Known w events
    → KnowsOf (host_row w.server.kept c.who.host) w.server events c w.packets
known-here w events host c is held known =
    subst (λ n. KnowsOf (host_row w.server.kept n) w.server events c w.packets) (sym (held.clients host c is).here) (known.clients host c is)

tick-runs : (hosts most : ℕ) (w : World) (events : List Event) → IsWithinSkew hosts most (Event.ServerTick ∷ events) → Holds w → Clocked w events
    → Runs hosts most w events → Runs hosts most (after_server w (tick w.server (w.server.now + 1))) (Event.ServerTick ∷ events)
unfolding after_server
tick-runs hosts most w events within held clocked h = record {
  served = served-tick most w.server (w.server.now + 1) h.served;
  few = h.few;
  known = silent-known w events Event.ServerTick (tick w.server (w.server.now + 1)) (tick-sends w.server (w.server.now + 1)) held (λ host c is.
      knows-tick w.server hosts most events c.who c.now h.served.boots h.served.stood h.served.terms within
      (let below = h.few host c is in let here = (held.clients host c is).here in omega arith) (at-clock w events host c is held clocked)
      clocked.server c.attached c.ticket c.leases c.notices w.packets (timely w events host c is held clocked)
      (known-here w events host c is held h.known));
  unrowed = λ host c is e. unrowed-tick w.server (w.server.now + 1) c.who h.served.stood (h.unrowed host c is e);
}

crash-runs : (hosts most : ℕ) (w : World) (events : List Event) (longest : ℕ) → shortest_term ≤ longest → longest ≤ most → Holds w → Clocked w events
    → Runs hosts most w events → Runs hosts most (after_server w (crash w.server longest)) (Event.Crash longest ∷ events)
unfolding after_server
crash-runs hosts most w events longest long few held clocked h = record {
  served = served-crash most w.server longest long few h.served;
  few = h.few;
  known = silent-known w events (Event.Crash longest) (crash w.server longest) (crash-sends w.server longest) held (λ host c is.
      knows-crash w.server longest events c.who c.now h.served.boots h.served.stood h.served.opened (at-clock w events host c is held clocked)
      clocked.server c.attached c.ticket c.leases c.notices w.packets (timely w events host c is held clocked)
      (known-here w events host c is held h.known));
  unrowed = λ host c is e. unrowed-crash w.server longest c.who;
}

-- ---- each event

step-runs : (hosts most : ℕ) (w : World) (e : Event) (events : List Event) → BootsWithin most e → IsWithinSkew hosts most (e ∷ events) → Holds w
    → Clocked w events → Runs hosts most w events → Runs hosts most (step w e) (e ∷ events)
step-runs hosts most w (Event.Call host op) events boots within held clocked h =
    at-client-runs hosts most w events (Event.Call host op) host (λ c. client_call c op) (slice_get w.clients host) refl
    (call-known w events host op held clocked h.known)
    (λ c is. still-unrowed w c (client_call c op) (call-still host c w.packets op (held.clients host c is)) (h.unrowed host c is)) h
step-runs hosts most w (Event.Deliver k) events boots within held clocked h = deliver-runs hosts most w events k (slice_get w.packets k) refl held clocked h
step-runs hosts most w Event.ServerTick events boots within held clocked h = tick-runs hosts most w events within held clocked h
step-runs hosts most w (Event.ClientTick host) events boots within held clocked h =
    at-client-runs hosts most w events (Event.ClientTick host) host (λ c. client_tick c (c.now + 1)) (slice_get w.clients host) refl
    (tick-known w events host held clocked h.known)
    (λ c is. still-unrowed w c (client_tick c (c.now + 1)) (tick-still host c w.packets (held.clients host c is)) (h.unrowed host c is)) h
step-runs hosts most w (Event.Restart host) events boots within held clocked h =
    at-client-runs hosts most w events (Event.Restart host) host restart (slice_get w.clients host) refl (restart-known w events host held clocked h.known)
    (λ c is. restart-unrowed hosts most w events host c is held h) h
step-runs hosts most w (Event.Crash longest) events boots within held clocked h = crash-runs hosts most w events longest boots.0 boots.1 held clocked h

-- ---- the start

start-attached : (who : Who) (term : ℕ) → (attached_client who term 0).attached ≡ true
unfolding attached_client fresh_client
start-attached who term = refl

start-runs : (most : ℕ) (head : Head) → KeepsBounds most head [] → Runs head.hosts most (start head) []
unfolding start
start-runs most head b = record {
  served = start-served most head [] b;
  few = λ host c is. first-there head.term 0 head.hosts host c is;
  known = start-known head;
  unrowed =
      λ host c is e. let yes : c.attached ≡ true = ap (λ z. z.attached) (first-client head.term 0 head.hosts host c is) ∙ start-attached _ head.term in
      absurd (cc);
}

pub run-runs : (most : ℕ) (head : Head) (events : List Event) → KeepsBounds most head events → IsWithinSkew head.hosts most events
    → Runs head.hosts most (run head events) events
run-runs most head [] b within = start-runs most head b
run-runs most head (e ∷ earlier) b within =
    step-runs head.hosts most (run head earlier) e earlier (b.boots 0 e (omega arith)) within (run-holds head earlier) (run-clocked head earlier)
    (run-runs most head earlier (bounds-before most head e earlier b) (within-before head.hosts most e earlier within))

-- in every run within skew
pub kept-in-every-run : LeaseIntervalInEveryRun
kept-in-every-run most head events b within = known-covers (run head events) events (run-holds head events) (run-runs most head events b within).known
