-- In every world a write has one body, and all delayed writes and pushes carry the bodies of their writes.
use Rattle.std.proofs.Common.{◌≡◌, ◌≢◌, ◌≤◌, ◌<◌, ◌^◌, ℕ, zero, suc, ◌+◌, List, [], ◌∷◌, Option, Some, None, length, map, refl, sym, subst, ◌∙◌, arith}
use Rattle.std.specs.Prelude.{slice_get, All}
use Rattle.std.proofs.lemmas.List.Elements.{All-head, All-tail}
use Rattle.nq_base.specs.declared.Call.{Call}
use Rattle.nq_base.specs.declared.Event.{Event}
use Rattle.nq_base.specs.declared.Party.{Party}
use Rattle.nq_base.specs.declared.Who.{Who}
use Rattle.walk_steps.proofs.Saying.{server-says-plainly}
use Rattle.nq_stage.proofs.KnownBodies.{Bodies, Carries, Says, HasOne, AllFit, More, more-asks, more-says, KnowsIn, IsKnown, begun-knows}
use Rattle.nq_stage.proofs.KnownSteps.{call-knows, tick-knows, hear-knows, restart-knows}
use Rattle.nq_model.proofs.Lists.{each-append, each-map}
use Rattle.nq_model.specs.protocol.Client.{Client, ClientStep, begun}
use Rattle.nq_model.specs.protocol.ClientStep.{client_call, client_tick, restart, next_incarnation, fresh_client, attached_client}
use Rattle.nq_model.specs.protocol.Hear.{hear}
use Rattle.nq_model.specs.laws.Journal.{Each}
use Rattle.nq_model.specs.protocol.Message.{Message, Packet, datagram_of}
use Rattle.nq_model.specs.protocol.Server.{ServerStep}
use Rattle.nq_model.specs.protocol.Profile.{most_hosts}
use Rattle.nq_model.specs.protocol.World.{Head, World, from_host, after_server, after_client, at_client, after_hearing, sending_host, deliver_to_client}
use Rattle.nq_model.specs.protocol.World.{deliver_to, deliver, first_clients, start, step}
use Rattle.nq_stage.specs.declared.messages.Written.{Written}
use Rattle.nq_stage.specs.Theorem.{BringsBlock, EventBrings}
use Rattle.walk_steps.proofs.ClientMoves.{none-some}
use Rattle.walk_steps.proofs.Packets.{In}
use Rattle.walk_steps.proofs.RunCases.{clients-after}
use Rattle.walk_steps.proofs.Worlds.{Holds, step-holds, first-client, set-there}

-- a client's packet carries what it says
abbrev pub PacketKnown : Bodies → Packet → Type 0
PacketKnown g p = (host : ℕ) → p.sender ≡ Party.Client host → Says g p.message

-- what is known of a world, in which no host gave a number above `most`
pub record Knowing (g : Bodies) (most : ℕ) (w : World) : Type 0 where
  pub one : HasOne g
  pub fit : AllFit g
  pub clients : (host : ℕ) (c : Client) → slice_get w.clients host ≡ Some c → IsKnown g most c
  pub packets : Each (PacketKnown g) w.packets

-- what is known after a step: it may have become more
pub record Grows (g : Bodies) (most : ℕ) (w : World) : Type 0 where
  pub now : Bodies
  pub more : More g now
  pub knowing : Knowing now most w

-- numbers that are not above a number are not above a later one
later-client : (g : Bodies) (most : ℕ) (c : Client) → IsKnown g most c → IsKnown g (most + 1 + 1) c
later-client g most c h = record {
  host = h.host;
  inc = let i = h.inc in omega arith;
  few = let i = h.few in omega arith;
  fresh = h.fresh;
  called =
      h.called;
  listed = h.listed;
  apart = h.apart;
  pushes = h.pushes;
  asked = h.asked;
}

pub later-knowing : (g : Bodies) (most : ℕ) (w : World) → Knowing g most w → Knowing g (most + 1 + 1) w
later-knowing g most w h = record { one = h.one; fit = h.fit; clients = λ host c e. later-client g most c (h.clients host c e); packets = h.packets }

same : (g : Bodies) (most : ℕ) (w : World) → Knowing g most w → Grows g (most + 1 + 1) w
same g most w h = record { now = g; more = λ v b i. i; knowing = later-knowing g most w h }

-- ---- a step of the server

all-each : {X : Type 0} (F : X → Type 0) (xs : List X) → All F xs → Each F xs
all-each F [] h = tt
all-each F (x ∷ xs) h = (All-head F x xs h, all-each F xs (All-tail F x xs h))

own-known : (g : Bodies) (p : Packet) → p.sender ≡ Party.Server → PacketKnown g p
own-known g p own host by = let e : Party.Server ≡ Party.Client host = sym own ∙ by in absurd cc

server-knows : (g : Bodies) (most : ℕ) (w : World) (t : ServerStep) → All (λ p. p.sender ≡ Party.Server) t.sends → Knowing g most w
    → Grows g (most + 1 + 1) (after_server w t)
unfolding after_server
server-knows g most w t own h = same g most _ (record {
  one = h.one;
  fit = h.fit;
  clients = h.clients;
  packets = each-append (PacketKnown g) w.packets t.sends h.packets (each-map (λ p. p.sender ≡ Party.Server) (PacketKnown g) t.sends (own-known g)
      (all-each (λ p. p.sender ≡ Party.Server) t.sends own));
})

-- ---- a step of a client

sent-known : (g : Bodies) (host : ℕ) (sends : List Message) → Each (Says g) sends → Each (PacketKnown g) (map (from_host host) sends)
sent-known g host [] h = tt
sent-known g host (m ∷ sends) h = (λ other by. h.0, sent-known g host sends h.1)

more-known : (g g' : Bodies) → More g g' → (ps : List Packet) → Each (PacketKnown g) ps → Each (PacketKnown g') ps
more-known g g' more ps h = each-map (PacketKnown g) (PacketKnown g') ps (λ p k host by. more-says g g' more p.message (k host by)) h

-- what is known of a client whose host made no step
other-known : (g g' : Bodies) (most : ℕ) (c : Client) → More g g' → ((v : Written) (b : List ℕ) → In g' (v, b) → v.host ≡ c.who.host → In g (v, b))
    → IsKnown g most c → IsKnown g' most c
other-known g g' most c more own h = record {
  host = h.host;
  inc = h.inc;
  few = h.few;
  fresh = λ v b i at. h.fresh v b (own v b i at) at;
  called = h.called;
  listed = each-map (Carries g c.who) (Carries g' c.who) c.dirty (λ p k. more _ p.body k) h.listed;
  apart = h.apart;
  pushes = λ p e. more _ p.body (h.pushes p e);
  asked = λ t e. more-asks g g' more t.request (h.asked t e);
}

step-known : (g : Bodies) (old : Who) (most : ℕ) (t : ClientStep) (m : KnowsIn g old most t) → IsKnown m.now most t.client
step-known g old most t m = record {
  host = m.host;
  inc = m.inc;
  few = m.few;
  fresh = m.fresh;
  called = m.called;
  listed = m.listed;
  apart = m.apart;
  pushes = m.pushes;
  asked = m.asked;
}

client-knows : (g : Bodies) (old : Who) (most : ℕ) (w : World) (host : ℕ) (t : ClientStep) → Holds w → t.client.who.host ≡ host
    → KnowsIn g old (most + 1 + 1) t → Knowing g most w → Grows g (most + 1 + 1) (after_client w host t)
unfolding after_client
client-knows g old most w host t held here m h =
    let own : IsKnown m.now (most + 1 + 1) t.client = step-known g old (most + 1 + 1) t m in
    let F = λ (n : ℕ) (c : Client) (v : World). IsKnown m.now (most + 1 + 1) c in
    let others = λ (other : ℕ) (c : Client) (apart : other ≢ host) (is : slice_get w.clients other ≡ Some c).
    (let at : c.who.host ≡ other = (held.clients other c is).here in
    later-client m.now most c (other-known g m.now most c m.more (λ v b i by. m.others v b i (λ mine. apart (sym at ∙ sym by ∙ mine ∙ here)))
    (h.clients other c is)))
    in
    record {
      now = m.now;
      more = m.more;
      knowing = record {
        one = m.one;
        fit = m.fit;
        clients = clients-after F w host t own others;
        packets = each-append (PacketKnown m.now) w.packets _ (more-known g m.now m.more w.packets h.packets) (sent-known m.now host t.sends m.sent);
      };
    }

-- the client that made a step is at its host
stands : (w : World) (host : ℕ) (t : ClientStep) (c : Client) → slice_get w.clients host ≡ Some c → Holds (after_client w host t) → t.client.who.host ≡ host
unfolding after_client
stands w host t c is held = (held.clients host t.client (set-there w.clients host t.client c is)).here

module _ (g : Bodies) (most : ℕ) (small : most < 2 ^ 32) (w : World) (held : Holds w) (h : Knowing g most w) where
  begins : (host : ℕ) (c : Client) → slice_get w.clients host ≡ Some c → KnowsIn g c.who most (begun c)
  begins host c is = begun-knows g most c h.one h.fit (h.clients host c is)

  at-client-knows : (host : ℕ) (f : Client → ClientStep) (o : Option Client) → slice_get w.clients host ≡ o → Holds (at_client w host f o)
      → (after-who : Client → Who) → ((c : Client) → KnowsIn g c.who most (begun c) → KnowsIn g (after-who c) (most + 1 + 1) (f c))
      → Grows g (most + 1 + 1) (at_client w host f o)
  at-client-knows host f None is after who goes = same g most w h
  at-client-knows host f (Some c) is after who goes = client-knows g (who c) most w host (f c) held (stands w host (f c) c is after)
      (goes c (begins host c is)) h

  -- ---- a delivery

  hearing-knows : (k host : ℕ) (m : Message) (c : Client) (o : Option ClientStep) → hear c k m ≡ o → slice_get w.clients host ≡ Some c
      → Holds (after_hearing w host o) → Grows g (most + 1 + 1) (after_hearing w host o)
  hearing-knows k host m c None hears is after = same g most w h
  hearing-knows k host m c (Some t) hears is after = client-knows g c.who most w host t held (stands w host t c is after)
      (hear-knows g c.who most small c k m t (held.clients host c is).alone hears (begins host c is)) h

  to-client-knows : (k host : ℕ) (m : Message) (o : Option Client) → slice_get w.clients host ≡ o → Holds (deliver_to_client w k host m o)
      → Grows g (most + 1 + 1) (deliver_to_client w k host m o)
  to-client-knows k host m None is after = same g most w h
  to-client-knows k host m (Some c) is after = hearing-knows k host m c (hear c k m) refl is after

  to-knows : (k : ℕ) (p : Packet) (to : Party) → Holds (deliver_to w k p to) → Grows g (most + 1 + 1) (deliver_to w k p to)
  to-knows k p Party.Server after = server-knows g most w _ (server-says-plainly.receives w.server (sending_host p.sender) (length w.packets)
      (datagram_of p.message)).own h
  to-knows k p (Party.Client host) after = to-client-knows k host p.message (slice_get w.clients host) refl after

  deliver-knows : (k : ℕ) (o : Option Packet) → Holds (deliver w k o) → Grows g (most + 1 + 1) (deliver w k o)
  deliver-knows k None after = same g most w h
  deliver-knows k (Some p) after = to-knows k p p.to after

  -- ---- an event

  pub step-knows : (e : Event) → EventBrings e → Grows g (most + 1 + 1) (step w e)
  step-knows (Event.Call host op) brings = at-client-knows host (λ c. client_call c op) (slice_get w.clients host) refl
      (step-holds w (Event.Call host op) held) (λ c. c.who) (λ c m. call-knows g c.who most small c op brings m)
  step-knows (Event.Deliver k) brings = deliver-knows k (slice_get w.packets k) (step-holds w (Event.Deliver k) held)
  step-knows Event.ServerTick brings = server-knows g most w _ (server-says-plainly.ticks w.server (w.server.now + 1)).own h
  step-knows (Event.ClientTick host) brings = at-client-knows host (λ c. client_tick c (c.now + 1)) (slice_get w.clients host) refl
      (step-holds w (Event.ClientTick host) held) (λ c. c.who) (λ c m. tick-knows g c.who most small c (c.now + 1) m)
  step-knows (Event.Restart host) brings = at-client-knows host restart (slice_get w.clients host) refl (step-holds w (Event.Restart host) held)
      (λ c. next_incarnation c.who) (λ c m. restart-knows g c.who most c m)
  step-knows (Event.Crash longest) brings = server-knows g most w _ (server-says-plainly.crashes w.server longest).own h

-- ---- who a client is

-- each client is the one that it was before
abbrev pub SameWho : World → World → Type 0
SameWho w v = (host : ℕ) (c : Client) → slice_get v.clients host ≡ Some c → (b : Client) × (slice_get w.clients host ≡ Some b) × (c.who ≡ b.who)

same-world : (w : World) → SameWho w w
same-world w host c is = (c, is, refl)

server-who : (w : World) (t : ServerStep) → SameWho w (after_server w t)
unfolding after_server
server-who w t host c is = (c, is, refl)

client-who : (w : World) (host : ℕ) (t : ClientStep) (c : Client) → slice_get w.clients host ≡ Some c → t.client.who ≡ c.who
    → SameWho w (after_client w host t)
client-who w host t c is kept = clients-after (λ n d v. (b : Client) × (slice_get w.clients n ≡ Some b) × (d.who ≡ b.who)) w host t (c, is, kept)
    (λ other d apart there. (d, there, refl))

module _ (g : Bodies) (most : ℕ) (small : most < 2 ^ 32) (w : World) (h : Knowing g most w) where
  before : (host : ℕ) (c : Client) → slice_get w.clients host ≡ Some c → KnowsIn g c.who most (begun c)
  before host c is = begun-knows g most c h.one h.fit (h.clients host c is)

  at-client-who : (host : ℕ) (f : Client → ClientStep) (o : Option Client) → slice_get w.clients host ≡ o
      → ((c : Client) → KnowsIn g c.who most (begun c) → KnowsIn g c.who (most + 1 + 1) (f c)) → SameWho w (at_client w host f o)
  at-client-who host f None is goes = same-world w
  at-client-who host f (Some c) is goes = client-who w host (f c) c is (goes c (before host c is)).kept

  hearing-who : (held : Holds w) (k host : ℕ) (m : Message) (c : Client) (o : Option ClientStep) → hear c k m ≡ o → slice_get w.clients host ≡ Some c
      → SameWho w (after_hearing w host o)
  hearing-who held k host m c None hears is = same-world w
  hearing-who held k host m c (Some t) hears is = client-who w host t c is (hear-knows g c.who most small c k m t (held.clients host c is).alone hears
      (before host c is)).kept

  to-client-who : (held : Holds w) (k host : ℕ) (m : Message) (o : Option Client) → slice_get w.clients host ≡ o → SameWho w (deliver_to_client w k host m o)
  to-client-who held k host m None is = same-world w
  to-client-who held k host m (Some c) is = hearing-who held k host m c (hear c k m) refl is

  to-who : (held : Holds w) (k : ℕ) (p : Packet) (to : Party) → SameWho w (deliver_to w k p to)
  to-who held k p Party.Server = server-who w _
  to-who held k p (Party.Client host) = to-client-who held k host p.message (slice_get w.clients host) refl

  deliver-who : (held : Holds w) (k : ℕ) (o : Option Packet) → SameWho w (deliver w k o)
  deliver-who held k None = same-world w
  deliver-who held k (Some p) = to-who held k p p.to

  pub call-who : (host : ℕ) (op : Call) → BringsBlock op → SameWho w (step w (Event.Call host op))
  call-who host op brings = at-client-who host (λ c. client_call c op) (slice_get w.clients host) refl (λ c m. call-knows g c.who most small c op brings m)

  pub delivery-who : Holds w → (k : ℕ) → SameWho w (step w (Event.Deliver k))
  delivery-who held k = deliver-who held k (slice_get w.packets k)

  pub tick-who : (host : ℕ) → SameWho w (step w (Event.ClientTick host))
  tick-who host = at-client-who host (λ c. client_tick c (c.now + 1)) (slice_get w.clients host) refl (λ c m. tick-knows g c.who most small c (c.now + 1) m)

pub server-tick-who : (w : World) → SameWho w (step w Event.ServerTick)
server-tick-who w = server-who w _

pub crash-who : (w : World) (longest : ℕ) → SameWho w (step w (Event.Crash longest))
crash-who w longest = server-who w _

-- ---- the start

attached-known : (host term : ℕ) → host < 2 ^ 32 → IsKnown [] 1 (attached_client (record { host = host; inc = 1 }) term 0)
unfolding attached_client fresh_client
attached-known host term few = record {
  host = few;
  inc = omega arith;
  few = omega arith;
  fresh = λ v b i own. absurd i;
  called = λ u e. none-some u e;
  listed = tt;
  apart = tt;
  pushes = λ p e. none-some p e;
  asked = λ t e. none-some t e;
}

-- a host of which there is a client is below the number of hosts
below : (term base count host : ℕ) (c : Client) → slice_get (first_clients term base count) host ≡ Some c → host < count
below term base zero host c e = none-some c e
below term base (suc count) zero c e = omega arith
below term base (suc count) (suc host) c e = let rest = below term (base + 1) count host c e in omega arith

pub start-knows : (head : Head) → head.hosts ≤ most_hosts → Knowing [] 1 (start head)
unfolding start
start-knows head few = record {
  one = λ v b c i j. absurd i;
  fit = λ v b i. absurd i;
  clients = λ host c e.
      let early = below head.term 0 head.hosts host c e in
      subst (IsKnown [] 1) (sym (first-client head.term 0 head.hosts host c e)) (attached-known (0 + host) head.term (omega arith));
  packets = tt;
}
