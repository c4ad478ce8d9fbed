-- In every run each host has one open request at most, whether its incarnation still runs or not.
use Rattle.std.proofs.Common.{◌≡◌, ◌≢◌, ◌<◌, ◌≤◌, ◌⊎◌, ℕ, ◌+◌, Bool, true, false, ◌==◌, List, [], ◌∷◌, ◌++◌, Option, Some, None, refl, sym, subst, ap}
use Rattle.std.proofs.Common.{◌∙◌, arith, inl, inr, length}
use Rattle.std.specs.Prelude.{slice_get, slice_set}
use Rattle.nq_base.specs.declared.Event.{Event}
use Rattle.nq_base.specs.declared.HostRow.{HostRow}
use Rattle.nq_base.specs.declared.Party.{Party}
use Rattle.nq_base.specs.declared.Request.{Request}
use Rattle.walk_steps.proofs.ClientMoves.{some-same, none-some}
use Rattle.walk_steps.proofs.Clocks.{within-before}
use Rattle.walk_steps.proofs.HostLine.{IsSettled}
use Rattle.walk_steps.proofs.KnownWorlds.{Known}
use Rattle.walk_steps.proofs.Runs.{Runs}
use Rattle.walk_steps.proofs.LeaseIntervals.{run-runs, hearing}
use Rattle.walk_steps.proofs.NoCrash.{bounds-before}
use Rattle.walk_steps.proofs.Mail.{packets_with, other-asked}
use Rattle.walk_steps.proofs.Packets.{In, in-get, Asked, Told}
use Rattle.walk_steps.proofs.KeptChanges.{booted-line}
use Rattle.walk_steps.proofs.Rows.{same-number, number-same}
use Rattle.walk_steps.proofs.Sequences.{Seqs, Drew, DrewIf, call-draws, tick-draws, restart-draws, hear-draws, asked-before-server}
use Rattle.walk_steps.proofs.ServerHears.{hears-effect}
use Rattle.walk_steps.proofs.ServerKnows.{LineMoves, line_stays, line_decides, line_attaches}
use Rattle.walk_steps.proofs.ServerSays.{AllSaid}
use Rattle.walk_steps.proofs.WorldSequences.{Draws, run-draws}
use Rattle.walk_steps.proofs.Worlds.{IsAt, Holds, get-set-same, get-set-other, to-told, received-said, tick-said, crash-said, run-holds}
use Rattle.nq_model.specs.laws.Bounds.{KeepsBounds}
use Rattle.nq_model.specs.protocol.Client.{Client, ClientStep, Ticket}
use Rattle.nq_model.specs.protocol.ClientStep.{client_call, client_tick, restart}
use Rattle.nq_model.specs.protocol.Hear.{hear}
use Rattle.nq_model.specs.protocol.Kept.{host_row}
use Rattle.nq_model.specs.protocol.Message.{Message, Packet, datagram_of, sequence_of}
use Rattle.nq_model.specs.protocol.Server.{Server, ServerStep}
use Rattle.nq_model.specs.protocol.ServerStep.{receive, tick, crash, boot}
use Rattle.nq_model.specs.protocol.Skew.{IsWithinSkew}
use Rattle.nq_model.specs.protocol.World.{Head, World, after_server, after_client, at_client, after_hearing, sending_host, deliver_to_client, deliver_to}
use Rattle.nq_model.specs.protocol.World.{deliver, step, start, run}
use Rattle.walk_steps.proofs.OpenAt.{IsOpenAt, OneOpenAt, Opens}
use Rattle.walk_steps.proofs.TickLines.{tick-line}

-- ---- one open request of a host

-- where all that is open was open
open-fewer : {line after : HostRow} {ps qs : List Packet} {host : ℕ} → ((x : ℕ) (r : Request) → IsOpenAt after qs host x r → IsOpenAt line ps host x r)
    → OneOpenAt line ps host → OneOpenAt after qs host
open-fewer old h x y r s a b = h x y r s (old x r a) (old y s b)

-- where the kept incarnation runs, it is the request under way
open-runs : (w : World) (events : List Event) → Holds w → Known w events → (host : ℕ) (c : Client) → slice_get w.clients host ≡ Some c
    → (host_row w.server.kept host).inc ≡ c.who.inc → OneOpenAt (host_row w.server.kept host) w.packets host
open-runs w events held known host c is kept x y r s a b =
    let t = ticket x r a in
    let u = ticket y s b in
    let one : t.0 ≡ u.0 = some-same t.0 u.0 (sym t.1 ∙ u.1) in
    (sym t.2 ∙ ap (λ z. z.xid) one ∙ u.2, sym (request x r a t) ∙ ap (λ z. z.request) one ∙ request y s b u)
  where
    here : (z : ℕ) (q : Request) → Asked w.packets host z q → Asked w.packets c.who.host z q
    here z q asked = subst (λ h. Asked w.packets h z q) (sym (held.clients host c is).here) asked

    ticket : (z : ℕ) (q : Request) → IsOpenAt (host_row w.server.kept host) w.packets host z q → (t : Ticket) × (c.ticket ≡ Some t) × (t.xid ≡ z)
    ticket z q o = case ((known.clients host c is).lined.settled kept z q o.who o.seq (here z q o.asked) o.by (sym o.kept ∙ kept) o.draws)
      where
        case : IsSettled c.ticket (host_row w.server.kept host).seq z o.seq → (t : Ticket) × (c.ticket ≡ Some t) × (t.xid ≡ z)
        case (inl below) = let above = o.above in absurd (omega arith)
        case (inr t) = t

    request : (z : ℕ) (q : Request) (o : IsOpenAt (host_row w.server.kept host) w.packets host z q)
        (t : (t : Ticket) × (c.ticket ≡ Some t) × (t.xid ≡ z)) → t.0.request ≡ q
    request z q o t = ((held.clients host c is).mail.asked z q o.who (here z q o.asked) o.by).same (sym o.kept ∙ kept) t.0 t.1 t.2

-- so what is left are hosts whose kept incarnation is over
opens-from : (w : World) (events : List Event) → Holds w → Known w events
    → ((host : ℕ) (c : Client) → slice_get w.clients host ≡ Some c → (host_row w.server.kept host).inc < c.who.inc
    → OneOpenAt (host_row w.server.kept host) w.packets host) → Opens w
opens-from w events held known over =
    record {
      one = λ host c is. case host c is
          (either (host_row w.server.kept host).inc c.who.inc (subst (λ n. (host_row w.server.kept host).inc ≤ n) refl (known.clients host c is).lined.past));
    } where
      either : (a b : ℕ) → a ≤ b → (a ≡ b) ⊎ (a < b)
      either a b h = grind arith

      case : (host : ℕ) (c : Client) → slice_get w.clients host ≡ Some c
          → ((host_row w.server.kept host).inc ≡ c.who.inc) ⊎ ((host_row w.server.kept host).inc < c.who.inc)
          → OneOpenAt (host_row w.server.kept host) w.packets host
      case host c is (inl same) = open-runs w events held known host c is same
      case host c is (inr below) = over host c is below

-- ---- a step of a client

client-opens : (w : World) (events : List Event) (host : ℕ) (c : Client) (t : ClientStep) → slice_get w.clients host ≡ Some c → Drew host w.packets t
    → Holds (after_client w host t) → Known (after_client w host t) events → Opens w → Opens (after_client w host t)
unfolding after_client
client-opens w events host c t is new held known h =
    opens-from (after_client w host t) events held known (λ other d there below. case other d (other == host) refl there below)
  where
    case : (other : ℕ) (d : Client) (b : Bool) → (other == host) ≡ b → slice_get (slice_set w.clients host t.client) other ≡ Some d
        → (host_row w.server.kept other).inc < d.who.inc → OneOpenAt (host_row w.server.kept other) (packets_with w.packets host t.sends) other
    case other d true same there below =
        let one : other ≡ host = same-number other host same in
        let at : d ≡ t.client = get-set-same w.clients host t.client d (subst (λ n. slice_get (slice_set w.clients host t.client) n ≡ Some d) one there) in
        let over : (host_row w.server.kept host).inc < t.client.who.inc = subst (λ n. (host_row w.server.kept n).inc < t.client.who.inc) one
        (subst (λ z. (host_row w.server.kept other).inc < z.who.inc) at below) in
        subst (λ n. OneOpenAt (host_row w.server.kept n) (packets_with w.packets host t.sends) n) (sym one)
        (open-fewer (λ x r o. let k = o.kept in
        record {
          who = o.who;
          seq = o.seq;
          asked = new.own x r o.who o.asked o.by (omega arith);
          by = o.by;
          kept = o.kept;
          draws = o.draws;
          above = o.above;
        }) (h.one host c is))
    case other d false differs there below =
        let apart : other ≢ host = λ same. let yes : (other == host) ≡ true = number-same other host same in absurd (cc) in
        open-fewer
        (λ x r o. record {
          who = o.who;
          seq = o.seq;
          asked = other-asked w.packets host other t.sends x r apart o.asked;
          by = o.by;
          kept = o.kept;
          draws = o.draws;
          above = o.above;
        })
        (h.one other d (sym (get-set-other w.clients host other t.client apart) ∙ there))

at-client-opens : (w : World) (events : List Event) (host : ℕ) (f : Client → ClientStep) (o : Option Client) → slice_get w.clients host ≡ o
    → ((c : Client) → IsAt host c w.packets → Seqs c.who c.seq w.packets → Drew host w.packets (f c)) → Holds w → Draws w → Holds (at_client w host f o)
    → Known (at_client w host f o) events → Opens w → Opens (at_client w host f o)
at-client-opens w events host f None is goes before d held known h = h
at-client-opens w events host f (Some c) is goes before d held known h =
    client-opens w events host c (f c) is (goes c (before.clients host c is) (d.clients host c is)) held known h

hearing-opens : (w : World) (events : List Event) (host : ℕ) (c : Client) (o : Option ClientStep) → slice_get w.clients host ≡ Some c
    → DrewIf host w.packets o → Holds (after_hearing w host o) → Known (after_hearing w host o) events → Opens w → Opens (after_hearing w host o)
hearing-opens w events host c None is new held known h = h
hearing-opens w events host c (Some t) is new held known h = client-opens w events host c t is new held known h

to-client-opens : (w : World) (events : List Event) (k host : ℕ) (m : Message) (o : Option Client) → slice_get w.clients host ≡ o
    → Told w.packets host m → Holds w → Draws w → Holds (deliver_to_client w k host m o) → Known (deliver_to_client w k host m o) events → Opens w
    → Opens (deliver_to_client w k host m o)
to-client-opens w events k host m None is sent before d held known h = h
to-client-opens w events k host m (Some c) is sent before d held known h =
    hearing-opens w events host c (hear c k m) is (hear-draws host c w.packets k m sent (before.clients host c is) (d.clients host c is)) held known h

-- ---- a step of the server

-- what the step does to a line opens no request: an incarnation that is attached has only asked for that
server-opens : (w : World) (events : List Event) (t : ServerStep) → AllSaid w.packets t.sends
    → ((host : ℕ) (c : Client) → slice_get w.clients host ≡ Some c
    → LineMoves w.packets host (host_row w.server.kept host) (host_row t.server.kept host)) → Holds w → Known w events → Opens w → Opens (after_server w t)
unfolding after_server
server-opens w events t said moves held known h =
    record { one = λ host c is. open-fewer (λ x r o. old host c is x r o (moves host c is)) (h.one host c is) } where
      old : (host : ℕ) (c : Client) → slice_get w.clients host ≡ Some c → (x : ℕ) (r : Request)
          → IsOpenAt (host_row t.server.kept host) (w.packets ++ t.sends) host x r
          → LineMoves w.packets host (host_row w.server.kept host) (host_row t.server.kept host) → IsOpenAt (host_row w.server.kept host) w.packets host x r
      old host c is x r o (line_stays same) =
          let inc : (host_row t.server.kept host).inc ≡ (host_row w.server.kept host).inc = ap (λ z. z.inc) same in
          let seq : (host_row t.server.kept host).seq ≡ (host_row w.server.kept host).seq = ap (λ z. z.seq) same in
          let above = o.above in
          record {
            who = o.who;
            seq = o.seq;
            asked = asked-before-server w.packets t.sends said host x r o.asked;
            by = o.by;
            kept = sym inc
                ∙ o.kept;
            draws = o.draws;
            above = omega arith;
          }
      old host c is x r o (line_decides inc more) =
          let above = o.above in
          record {
            who = o.who;
            seq = o.seq;
            asked = asked-before-server w.packets t.sends said host x r o.asked;
            by = o.by;
            kept = sym inc
                ∙ o.kept;
            draws = o.draws;
            above = omega arith;
          }
      old host c is x r o (line_attaches later y v sent inc) =
          let asked : Asked w.packets c.who.host x r = subst (λ n. Asked w.packets n x r) (sym (held.clients host c is).here)
          (asked-before-server w.packets t.sends said host x r o.asked) in
          let kept = o.kept in
          let attaches : r ≡ Request.Attach o.who = (known.clients host c is).lined.above x r o.who asked o.by (omega arith) in
          none-some o.seq (ap sequence_of (sym attaches) ∙ o.draws)

received-moves : (hosts most : ℕ) (w : World) (events : List Event) (p : Packet) → In w.packets p → p.to ≡ Party.Server → Holds w
    → Runs hosts most w events → (host : ℕ) (c : Client) → slice_get w.clients host ≡ Some c
    → LineMoves w.packets host (host_row w.server.kept host)
    (host_row (receive w.server (sending_host p.sender) (length w.packets) (datagram_of p.message)).server.kept host)
received-moves hosts most w events p i to held h host c is =
    subst (λ n. LineMoves w.packets n (host_row w.server.kept n)
    (host_row (receive w.server (sending_host p.sender) (length w.packets) (datagram_of p.message)).server.kept n)) (held.clients host c is).here
    (hears-effect w.packets w.server most (sending_host p.sender) (length w.packets) (datagram_of p.message) events c.who c.now c.xid c.attached
    c.ticket c.leases c.notices (hearing hosts most w events p host c is i to held h)).line

crash-line : (s : Server) (longest host : ℕ) → host_row (crash s longest).server.kept host ≡ host_row s.kept host
unfolding crash boot
crash-line s longest host = booted-line s.kept longest host (s.kept.opened == 0) refl

-- ---- each event

delivered-opens : (hosts most : ℕ) (w : World) (events : List Event) (k : ℕ) (p : Packet) (to : Party) → p.to ≡ to → In w.packets p → Holds w → Draws w
    → Runs hosts most w events → Holds (deliver_to w k p to) → Known (deliver_to w k p to) (Event.Deliver k ∷ events) → Opens w
    → Opens (deliver_to w k p to)
delivered-opens hosts most w events k p Party.Server to i before d runs held known h =
    server-opens w events (receive w.server (sending_host p.sender) (length w.packets) (datagram_of p.message)) (received-said w p i to before)
    (received-moves hosts most w events p i to before runs) before runs.known h
delivered-opens hosts most w events k p (Party.Client host) to i before d runs held known h =
    to-client-opens w (Event.Deliver k ∷ events) k host p.message (slice_get w.clients host) refl (to-told w.packets p host (before.sent p i) to i)
    before d held known h

deliver-opens : (hosts most : ℕ) (w : World) (events : List Event) (k : ℕ) (o : Option Packet) → slice_get w.packets k ≡ o → Holds w → Draws w
    → Runs hosts most w events → Holds (deliver w k o) → Known (deliver w k o) (Event.Deliver k ∷ events) → Opens w → Opens (deliver w k o)
deliver-opens hosts most w events k None is before d runs held known h = h
deliver-opens hosts most w events k (Some p) is before d runs held known h =
    delivered-opens hosts most w events k p p.to refl (in-get w.packets k p is) before d runs held known h

step-opens : (hosts most : ℕ) (w : World) (e : Event) (events : List Event) → Holds w → Draws w → Runs hosts most w events → Holds (step w e)
    → Known (step w e) (e ∷ events) → Opens w → Opens (step w e)
step-opens hosts most w (Event.Call host op) events before d runs held known h =
    at-client-opens w (Event.Call host op ∷ events) host (λ c. client_call c op) (slice_get w.clients host) refl
    (λ c a q. call-draws host c w.packets op a q) before d held known h
step-opens hosts most w (Event.Deliver k) events before d runs held known h =
    deliver-opens hosts most w events k (slice_get w.packets k) refl before d runs held known h
step-opens hosts most w Event.ServerTick events before d runs held known h =
    server-opens w events (tick w.server (w.server.now + 1)) (tick-said w.packets w.server (w.server.now + 1))
    (λ host c is. line_stays (tick-line w.server (w.server.now + 1) host)) before runs.known h
step-opens hosts most w (Event.ClientTick host) events before d runs held known h =
    at-client-opens w (Event.ClientTick host ∷ events) host (λ c. client_tick c (c.now + 1)) (slice_get w.clients host) refl
    (λ c a q. tick-draws host c w.packets a q) before d held known h
step-opens hosts most w (Event.Restart host) events before d runs held known h =
    at-client-opens w (Event.Restart host ∷ events) host restart (slice_get w.clients host) refl (λ c a q. restart-draws host c w.packets a q) before d
    held known h
step-opens hosts most w (Event.Crash longest) events before d runs held known h =
    server-opens w events (crash w.server longest) (crash-said w.packets w.server longest) (λ host c is. line_stays (crash-line w.server longest host))
    before runs.known h

start-opens : (head : Head) → Opens (start head)
unfolding start
start-opens head = record { one = λ host c is x y r s a b. absurd a.asked }

-- in every run within skew
pub run-opens : (most : ℕ) (head : Head) (events : List Event) → KeepsBounds most head events → IsWithinSkew head.hosts most events → Opens (run head events)
run-opens most head [] b within = start-opens head
run-opens most head (e ∷ earlier) b within =
    let before = bounds-before most head e earlier b in
    let part = within-before head.hosts most e earlier within in
    step-opens head.hosts most (run head earlier) e earlier (run-holds head earlier) (run-draws head earlier) (run-runs most head earlier before part)
    (run-holds head (e ∷ earlier)) (run-runs most head (e ∷ earlier) b within).known
    (run-opens most head earlier before part)
