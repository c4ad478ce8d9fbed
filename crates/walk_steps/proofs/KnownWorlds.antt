-- What the server and each client of a world know of each other, kept by each event; and what it says of their leases.
use Rattle.std.proofs.Common.{◌≡◌, ◌≢◌, ◌<◌, ℕ, zero, suc, ◌+◌, ◌-◌, Bool, true, false, ◌==◌, List, [], ◌∷◌, ◌++◌, Option, Some, None, refl, sym}
use Rattle.std.proofs.Common.{subst, ap, ◌∙◌, arith}
use Rattle.std.specs.Prelude.{slice_get, slice_set, replicate, unwrap_or}
use Rattle.std.proofs.lemmas.Bool.{and_parts}
use Rattle.nq_base.specs.declared.Call.{Call}
use Rattle.nq_base.specs.declared.Event.{Event}
use Rattle.nq_base.specs.declared.Grant.{Grant}
use Rattle.nq_base.specs.declared.HostRow.{HostRow}
use Rattle.nq_base.specs.declared.Row.{Row}
use Rattle.walk_steps.proofs.ClientMoves.{none-some}
use Rattle.walk_steps.proofs.ClientRestarts.{restart-knows, other-knows}
use Rattle.walk_steps.proofs.ClientSteps.{KnowsOf, KnowsIf, knows-passes, call-knows, tick-knows, hear-knows}
use Rattle.walk_steps.proofs.CoverFacts.{IsTakeable}
use Rattle.walk_steps.proofs.Mail.{packets_with}
use Rattle.walk_steps.proofs.Packets.{In, Told, in-get}
use Rattle.walk_steps.proofs.Rows.{same-number, number-same}
use Rattle.walk_steps.proofs.ServerKnows.{Effect, Timely, knows-after}
use Rattle.walk_steps.proofs.WorldClocks.{Clocked}
use Rattle.walk_steps.proofs.Worlds.{IsAt, Holds, get-set-same, get-set-other, first-client, to-told}
use Rattle.nq_model.specs.protocol.Client.{Client, ClientStep, Ticket}
use Rattle.nq_model.specs.protocol.ClientStep.{client_call, client_tick, restart, fresh_client, attached_client}
use Rattle.nq_model.specs.protocol.Hear.{inc_of, hear}
use Rattle.nq_model.specs.protocol.Kept.{fresh_row, host_row}
use Rattle.nq_model.specs.laws.LeaseInterval.{claim_of, IsCovered, cover_end, CanTake, HeldAreCovered, TakeableAreCovered, KeepsLeaseInterval}
use Rattle.nq_model.specs.protocol.Message.{Message, reply}
use Rattle.nq_model.specs.protocol.Server.{Server, ServerStep}
use Rattle.nq_model.specs.protocol.ServerStep.{boot}
use Rattle.nq_model.specs.protocol.Profile.{most_hosts}
use Rattle.nq_model.specs.protocol.Skew.{ticks_of}
use Rattle.nq_model.specs.protocol.Table.{find_row}
use Rattle.nq_model.specs.protocol.World.{Head, World, after_server, after_client, at_client, after_hearing, deliver_to_client, first_row, first_clients, start}

-- ---- what each client and the server know

pub record Known (w : World) (events : List Event) : Type 0 where
  pub clients : (host : ℕ) (c : Client) → slice_get w.clients host ≡ Some c → KnowsOf (host_row w.server.kept host) w.server events c w.packets

-- the clock of a client shows how often it ticked
pub at-clock : (w : World) (events : List Event) (host : ℕ) (c : Client) → slice_get w.clients host ≡ Some c → Holds w → Clocked w events
    → c.now ≡ ticks_of c.who.host events
at-clock w events host c is held clocked = clocked.clients host c is ∙ ap (λ n. ticks_of n events) (sym (held.clients host c is).here)

-- an event that does nothing
pub ignored-known : (w : World) (e : Event) (events : List Event) → Holds w → Clocked w events → Known w events → Known w (e ∷ events)
ignored-known w e events held clocked h = record {
  clients = λ host c is. knows-passes e c.now c (at-clock w events host c is held clocked) (omega arith) (held.clients host c is).alone (h.clients host c is);
}

-- a step of a client
client-known : (w : World) (e : Event) (events : List Event) (host : ℕ) (t : ClientStep)
    → KnowsOf (host_row w.server.kept host) w.server (e ∷ events) t.client (packets_with w.packets host t.sends) → Holds w → Clocked w events
    → Known w events → Known (after_client w host t) (e ∷ events)
unfolding after_client
client-known w e events host t knows held clocked h = record { clients = λ other c is. case other c (other == host) refl is } where
  case : (other : ℕ) (c : Client) (b : Bool) → (other == host) ≡ b → slice_get (slice_set w.clients host t.client) other ≡ Some c
      → KnowsOf (host_row w.server.kept other) w.server (e ∷ events) c (packets_with w.packets host t.sends)
  case other c true same is =
      let one : other ≡ host = same-number other host same in
      let new : c ≡ t.client = get-set-same w.clients host t.client c (subst (λ n. slice_get (slice_set w.clients host t.client) n ≡ Some c) one is) in
      subst (λ n. KnowsOf (host_row w.server.kept n) w.server (e ∷ events) c (packets_with w.packets host t.sends)) (sym one)
      (subst (λ z. KnowsOf (host_row w.server.kept host) w.server (e ∷ events) z (packets_with w.packets host t.sends)) (sym new) knows)
  case other c false differs is =
      let apart : other ≢ host = λ same. let yes : (other == host) ≡ true = number-same other host same in absurd (cc) in
      let there : slice_get w.clients other ≡ Some c = sym (get-set-other w.clients host other t.client apart) ∙ is in
      let a = held.clients other c there in
      other-knows e host c w.packets t.sends (λ same. apart (sym a.here ∙ same)) (at-clock w events other c there held clocked) a.alone
      (h.clients other c there)

at-client-known : (w : World) (e : Event) (events : List Event) (host : ℕ) (f : Client → ClientStep) (o : Option Client) → slice_get w.clients host ≡ o
    → ((c : Client) → c.now ≡ ticks_of c.who.host events → IsAt host c w.packets → KnowsOf (host_row w.server.kept host) w.server events c w.packets
    → KnowsOf (host_row w.server.kept host) w.server (e ∷ events) (f c).client (packets_with w.packets host (f c).sends)) → Holds w → Clocked w events
    → Known w events → Known (at_client w host f o) (e ∷ events)
at-client-known w e events host f None is goes held clocked h = ignored-known w e events held clocked h
at-client-known w e events host f (Some c) is goes held clocked h =
    client-known w e events host (f c) (goes c (at-clock w events host c is held clocked) (held.clients host c is) (h.clients host c is)) held clocked h

hearing-known : (w : World) (e : Event) (events : List Event) (host : ℕ) (o : Option ClientStep)
    → KnowsIf (host_row w.server.kept host) w.server (e ∷ events) host w.packets o → Holds w → Clocked w events → Known w events
    → Known (after_hearing w host o) (e ∷ events)
hearing-known w e events host None knows held clocked h = ignored-known w e events held clocked h
hearing-known w e events host (Some t) knows held clocked h = client-known w e events host t knows held clocked h

pub to-client-known : (w : World) (e : Event) (events : List Event) (k host : ℕ) (m : Message) (o : Option Client) → slice_get w.clients host ≡ o
    → Told w.packets host m → Holds w → Clocked w events → Known w events → Known (deliver_to_client w k host m o) (e ∷ events)
to-client-known w e events k host m None is sent held clocked h = ignored-known w e events held clocked h
to-client-known w e events k host m (Some c) is sent held clocked h =
    hearing-known w e events host (hear c k m)
    (hear-knows e host c w.packets k m (at-clock w events host c is held clocked) sent (held.clients host c is) (h.clients host c is)) held clocked h

pub call-known : (w : World) (events : List Event) (host : ℕ) (op : Call) → Holds w → Clocked w events → Known w events
    → Known (at_client w host (λ c. client_call c op) (slice_get w.clients host)) (Event.Call host op ∷ events)
call-known w events host op held clocked h =
    at-client-known w (Event.Call host op) events host (λ c. client_call c op) (slice_get w.clients host) refl
    (λ c clock a k. call-knows (Event.Call host op) host c w.packets op clock a k) held clocked h

pub tick-known : (w : World) (events : List Event) (host : ℕ) → Holds w → Clocked w events → Known w events
    → Known (at_client w host (λ c. client_tick c (c.now + 1)) (slice_get w.clients host)) (Event.ClientTick host ∷ events)
tick-known w events host held clocked h =
    at-client-known w (Event.ClientTick host) events host (λ c. client_tick c (c.now + 1)) (slice_get w.clients host) refl
    (λ c clock a k. tick-knows (Event.ClientTick host) host c w.packets clock a k) held clocked h

pub restart-known : (w : World) (events : List Event) (host : ℕ) → Holds w → Clocked w events → Known w events
    → Known (at_client w host restart (slice_get w.clients host)) (Event.Restart host ∷ events)
restart-known w events host held clocked h =
    at-client-known w (Event.Restart host) events host restart (slice_get w.clients host) refl
    (λ c clock a k. restart-knows (Event.Restart host) host c w.packets clock a k) held clocked h

-- ---- a step of the server

-- as each client sees it
pub record Seen (w : World) (t : ServerStep) : Type 0 where
  pub effects : (host : ℕ) (c : Client) → slice_get w.clients host ≡ Some c → Effect w.packets w.server t c.who c.ticket c.leases
  pub unrowed : (host : ℕ) (c : Client) → slice_get w.clients host ≡ Some c → c.attached ≡ false → (file : ℕ) (row : Row)
      → find_row file c.who.host w.server.table.rows ≡ Some row → row.who.inc ≡ c.who.inc → ⊥

-- when a client asked
pub timely : (w : World) (events : List Event) (host : ℕ) (c : Client) → slice_get w.clients host ≡ Some c → Holds w → Clocked w events
    → Timely w.server events c.who c.now c.ticket c.leases
timely w events host c is held clocked =
    let a = (held.clients host c is).alone.asking in
    record {
      client = at-clock w events host c is held clocked;
      server = clocked.server;
      leased = a.leased;
      asked = λ t asked. let k = a.ticketed t asked in let p = k.sent in let q = k.past in omega arith;
    }

pub server-known : (w : World) (e : Event) (events : List Event) (t : ServerStep) → Seen w t → Holds w → Clocked w events → Known w events
    → Known (after_server w t) (e ∷ events)
unfolding after_server
server-known w e events t seen held clocked h = record { clients = λ host c is. after host c is (held.clients host c is).here } where
  after : (host : ℕ) (c : Client) → slice_get w.clients host ≡ Some c → c.who.host ≡ host
      → KnowsOf (host_row t.server.kept host) t.server (e ∷ events) c (after_server w t).packets
  after host c is here =
      subst (λ n. KnowsOf (host_row t.server.kept n) t.server (e ∷ events) c (after_server w t).packets) here
      (knows-after w.packets w.server events e t c.who c.now c.xid c.attached c.ticket c.leases c.notices
      (subst (λ n. KnowsOf (host_row w.server.kept n) w.server events c w.packets) (sym here) (h.clients host c is))
      (held.clients host c is).mail (timely w events host c is held clocked) (seen.unrowed host c is) (seen.effects host c is))

-- ---- what it says of leases

held-covered : (w : World) (events : List Event) → Holds w → Known w events → HeldAreCovered w events
held-covered w events held h host c l is holds caching runs =
    let a = held.clients host c is in
    let past = (a.alone.asking.leased l.file l holds).term in
    subst (λ n. IsCovered w.server w.server.phase (claim_of c.who l.file l.mode l.tag (cover_end n (l.expiry - l.term) l.term events))) a.here
    ((h.clients host c is).covered.held l.file l holds caching (omega arith))

pub takeable : (w : World) (host : ℕ) (c : Client) (t : Ticket) (file : ℕ) (g : Grant) → IsAt host c w.packets → Holds w → CanTake w host c t file g
    → IsTakeable w.packets c.who c.ticket file g t
takeable w host c t file g a held k = record {
  x = k.xid;
  a = k.answer;
  told =
      subst (λ n. Told w.packets n (reply k.xid k.answer)) (sym a.here)
      (subst (λ m. Told w.packets host m) k.brings (to-told w.packets k.packet host (held.sent k.packet sent) k.for_host sent));
  inc = same-number (inc_of k.answer) c.who.inc both.1;
  asked = k.asked;
  number = sym (same-number k.xid t.xid both.0);
  on_file = k.on_file;
  gives = k.grants;
} where
  sent : In w.packets k.packet
  sent = in-get w.packets k.k k.packet k.sent

  both : ((k.xid == t.xid) ≡ true) × ((inc_of k.answer == c.who.inc) ≡ true)
  both = and_parts _ _ (and_parts _ _ k.counts).0

takeable-covered : (w : World) (events : List Event) → Holds w → Known w events → TakeableAreCovered w events
takeable-covered w events held h host c t file g is can caching runs =
    let a = held.clients host c is in
    subst (λ n. IsCovered w.server w.server.phase (claim_of c.who file g.mode g.tag (cover_end n t.first g.term events))) a.here
    ((h.clients host c is).covered.given file g t (takeable w host c t file g a held can) caching runs)

-- what each client and the server know of each other keeps the lease interval
pub known-covers : (w : World) (events : List Event) → Holds w → Known w events → KeepsLeaseInterval w events
known-covers w events held h = record { held = held-covered w events held h; takeable = takeable-covered w events held h }

-- ---- the start

pub first-there : (term first count host : ℕ) (c : Client) → slice_get (first_clients term first count) host ≡ Some c → host < count
first-there term first zero host c e = none-some c e
first-there term first (suc count) zero c e = omega arith
first-there term first (suc count) (suc host) c e = let h = first-there term (first + 1) count host c e in omega arith

replicated : (count host : ℕ) (line : HostRow) (more : List HostRow) → host < count → slice_get (replicate count line ++ more) host ≡ Some line
replicated zero host line more h = absurd (omega arith)
replicated (suc count) zero line more h = refl
replicated (suc count) (suc host) line more h = replicated count host line more (omega arith)

pub first-line : (head : Head) (host : ℕ) → host < head.hosts → host_row (start head).server.kept host ≡ first_row
unfolding start boot
first-line head host there = ap (λ o. unwrap_or o fresh_row) (replicated head.hosts host first_row (replicate (most_hosts - head.hosts) fresh_row) there)

-- a client that is attached from the start, over a line of its incarnation
knows-starts : (line : HostRow) (s : Server) (host term : ℕ) → line.inc ≡ 1 → KnowsOf line s [] (attached_client (record { host = host; inc = 1 }) term 0) []
unfolding attached_client fresh_client
knows-starts line s host term one = record {
  lined = record {
    past = omega arith;
    current = λ e. one;
    told = λ x inc sent. absurd sent;
    above = λ x r w sent. absurd sent;
    waiting = λ e. absurd (cc);
    unnoticed = λ e. refl;
    evicted_past = λ x w file tag sent. absurd sent;
    unheard = λ e. absurd (cc);
    settled = λ kept x r w n sent. absurd sent;
    answered = λ x a sent. absurd sent;
  };
  tagged = record {
    held = λ file l e. none-some l e;
    noticed = λ file n e. none-some n e;
    evicts = λ x w file tag sent. absurd sent;
    vacates = λ x w file tag sent. absurd sent;
    grants = λ x a g sent. absurd sent;
    past_held = λ x w file tag l sent. absurd sent;
    past_given = λ x w file tag y a g t sent. absurd sent;
  };
  covered = record {
    held = λ file l e. none-some l e;
    held_short = λ file l e. none-some l e;
    given = λ file g t k. absurd k.told;
    given_short = λ file g t k. absurd k.told;
  };
  heard = λ file tag bad. absurd bad;
  pending = λ file g sent bad. absurd bad;
}

pub start-known : (head : Head) → Known (start head) []
unfolding start
start-known head = record { clients = λ host c is. starts host c is } where
  starts : (host : ℕ) (c : Client) → slice_get (start head).clients host ≡ Some c → KnowsOf (host_row (start head).server.kept host)
      (start head).server [] c []
  starts host c is =
      subst (λ z. KnowsOf (host_row (start head).server.kept host) (start head).server [] z [])
      (sym (first-client head.term 0 head.hosts host c is ∙ ap (λ n. attached_client (record { host = n; inc = 1 }) head.term 0) (omega arith)))
      (knows-starts (host_row (start head).server.kept host) (start head).server host head.term
      (ap (λ l. l.inc) (first-line head host (first-there head.term 0 head.hosts host c is))))
