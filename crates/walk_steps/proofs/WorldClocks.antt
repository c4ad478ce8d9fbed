-- In every run: the clocks of the server and of the clients show how often they ticked.
use Rattle.std.proofs.Common.{◌≡◌, ◌≢◌, ℕ, ◌+◌, Bool, true, false, not, ◌&&◌, ◌==◌, List, [], ◌∷◌, Option, Some, None, if◌then◌else◌, refl, sym}
use Rattle.std.proofs.Common.{subst, ap, ◌∙◌, arith, length}
use Rattle.std.specs.Prelude.{slice_get, slice_set}
use Rattle.std.proofs.lemmas.Bool.{and_parts}
use Rattle.nq_base.specs.declared.Call.{Call}
use Rattle.nq_base.specs.declared.Event.{Event}
use Rattle.nq_base.specs.declared.Grant.{Grant}
use Rattle.nq_base.specs.declared.Party.{Party}
use Rattle.nq_base.specs.declared.Reply.{Reply}
use Rattle.nq_base.specs.declared.Request.{Request}
use Rattle.nq_base.specs.declared.Tag.{Tag}
use Rattle.nq_base.specs.declared.Who.{Who}
use Rattle.walk_steps.proofs.ClientCases.{Core, core_of, Closed}
use Rattle.walk_steps.proofs.ClientWalk.{Replying, reply-keeps, notice-keeps, call-keeps, tick-keeps}
use Rattle.walk_steps.proofs.Packets.{Told, in-get}
use Rattle.walk_steps.proofs.Rows.{choice, same-number, number-same}
use Rattle.walk_steps.proofs.ServerKnows.{NoneHeard, NoneGiven}
use Rattle.walk_steps.proofs.ServerMoves.{receive-keeps, tick-keeps as server-tick-keeps}
use Rattle.walk_steps.proofs.Worlds.{IsAt, Holds, given-by, get-set-same, get-set-other, first-client, to-told, run-holds}
use Rattle.nq_model.specs.protocol.Client.{Client, ClientStep, begun, Ticket, lease_on}
use Rattle.nq_model.specs.protocol.ClientStep.{client_call, client_tick, at_time, restart, starts, fresh_client, attached_client}
use Rattle.nq_model.specs.protocol.Hear.{inc_of, is_reply_to, reply_counts, hear, hear_reply, hear_notice, hear_call, goes_on, replied, holds_later, evicted}
use Rattle.nq_model.specs.protocol.Hear.{cancels}
use Rattle.nq_model.specs.protocol.Message.{Message, Packet, call, reply, error, datagram_of}
use Rattle.nq_model.specs.protocol.Server.{ServerStep}
use Rattle.nq_model.specs.protocol.ServerStep.{receive, tick, crash, boot}
use Rattle.nq_model.specs.protocol.Skew.{is_server_tick, is_tick_of, server_ticks, ticks_of}
use Rattle.nq_model.specs.protocol.Table.{same_who}
use Rattle.nq_model.specs.protocol.World.{Head, World, after_server, after_client, at_client, after_hearing, sending_host, deliver_to_client, deliver_to}
use Rattle.nq_model.specs.protocol.World.{deliver, step, start, run}

-- ---- a client in the middle of a step

-- it is the same incarnation, its clock shows this time, and if it was attached it still is
pub record IsStill (who : Who) (now : ℕ) (attached : Bool) (k : Core) : Type 0 where
  pub same : k.who ≡ who
  pub time : k.now ≡ now
  pub stays : k.attached ≡ false → attached ≡ false

still-closed : (who : Who) (now : ℕ) (attached : Bool) (Heard : ℕ → Tag → Type 0) (Given : ℕ → Grant → ℕ → Type 0)
    → Closed Heard Given (IsStill who now attached)
still-closed who now attached Heard Given = record {
  uses = λ k file h. record { same = h.same; time = h.time; stays = h.stays };
  drops = λ k file h. record { same = h.same; time = h.time; stays = h.stays };
  vacates = λ k file tag can h. record { same = h.same; time = h.time; stays = h.stays };
  asks = λ k job request no_seq can h. record { same = h.same; time = h.time; stays = h.stays };
  decides = λ k job request seq can h. record { same = h.same; time = h.time; stays = h.stays };
  again = λ k ticket is h. record { same = h.same; time = h.time; stays = h.stays };
  holds = λ k file g sent given free unnoticed h. record { same = h.same; time = h.time; stays = h.stays };
  cancels = λ k file h. record { same = h.same; time = h.time; stays = h.stays };
  notes = λ k file tag heard h. record { same = h.same; time = h.time; stays = h.stays };
}

-- a client after its step, at this time
abbrev pub StillOf : (now : ℕ) → Client → ClientStep → Type 0
StillOf now c t = IsStill c.who now c.attached (core_of t)

begun-still : (c : Client) → StillOf c.now c (begun c)
begun-still c = record { same = refl; time = refl; stays = λ e. e }

pub call-still : (host : ℕ) (c : Client) (ps : List Packet) (op : Call) → IsAt host c ps → StillOf c.now c (client_call c op)
call-still host c ps op a = (call-keeps (still-closed c.who c.now c.attached NoneHeard NoneGiven) c op a.alone (begun-still c)).core

timed-still : (c : Client) (now : ℕ) → StillOf now c (begun (at_time c now))
unfolding at_time
timed-still c now = record { same = refl; time = refl; stays = λ e. e }

pub tick-still : (host : ℕ) (c : Client) (ps : List Packet) → IsAt host c ps → StillOf (c.now + 1) c (client_tick c (c.now + 1))
tick-still host c ps a =
    (tick-keeps (still-closed c.who (c.now + 1) c.attached NoneHeard NoneGiven) c (c.now + 1) (omega arith) a.alone (timed-still c (c.now + 1))).core

restart-time : (c : Client) → (restart c).client.now ≡ c.now
unfolding starts fresh_client
restart-time c = refl

abbrev pub StillIf : Client → Option ClientStep → Type 0
StillIf c None = Unit {0}
StillIf c (Some t) = StillOf c.now c t

reply-still : (host : ℕ) (c : Client) (ps : List Packet) (number xid : ℕ) (r : Reply) (o : Option Ticket) → c.ticket ≡ o → Told ps host (reply xid r)
    → IsAt host c ps → StillIf c (hear_reply c number xid r o)
reply-still host c ps number xid r None is sent a = tt
reply-still host c ps number xid r (Some t) is sent a =
    choice (StillIf c) (is_reply_to c xid r t) (Some (goes_on (replied (begun c) number t r))) None
    (λ e. let k = and_parts _ _ e in let l = and_parts _ _ k.0 in
    (reply-keeps (still-closed c.who c.now c.attached NoneHeard (given-by t)) c number t r
    (replying k.1 (same-number _ _ l.0) (same-number _ _ l.1))).core)
    (λ e. tt)
  where
    replying : reply_counts r t ≡ true → xid ≡ t.xid → inc_of r ≡ c.who.inc → Replying (given-by t) (IsStill c.who c.now c.attached) c t r
    replying counts same inc = record {
      asked = is;
      counts = counts;
      alone = a.alone;
      spent = λ other. record { same = refl; time = refl; stays = λ e. e };
      attached = λ job. record { same = refl; time = refl; stays = λ e. absurd (cc) };
      brings =
          λ file on g grants. (
            on,
            (a.mail.replied xid r (subst (λ h. Told ps h (reply xid r)) (sym a.here) sent) inc).wants t is (sym same) g grants
                file on,
          );
      only = λ file g at given. given;
    }

notice-still : (host : ℕ) (c : Client) (ps : List Packet) (w : Who) (file : ℕ) (tag : Tag) → IsAt host c ps → StillIf c (hear_notice c w file tag)
notice-still host c ps w file tag a =
    choice (StillIf c) (same_who w c.who && not (holds_later tag (lease_on file c.leases))) (Some (goes_on (evicted (cancels (begun c) file) file tag))) None
    (λ e. (notice-keeps (still-closed c.who c.now c.attached (λ f v. Unit {0}) NoneGiven) c file tag tt (λ g at bad. bad) a.alone (begun-still c)).core)
    (λ e. tt)

called-still : (host : ℕ) (c : Client) (ps : List Packet) (r : Request) → IsAt host c ps → StillIf c (hear_call c r)
called-still host c ps (Request.Evicted w file tag) a = notice-still host c ps w file tag a
called-still host c ps other a = tt

pub hear-still : (host : ℕ) (c : Client) (ps : List Packet) (number : ℕ) (m : Message) → Told ps host m → IsAt host c ps → StillIf c (hear c number m)
hear-still host c ps number (reply xid r) sent a = reply-still host c ps number xid r c.ticket refl sent a
hear-still host c ps number (call xid r) sent a = called-still host c ps r a
hear-still host c ps number (error xid er) sent a = tt

-- ---- the clocks of a world

pub record Clocked (w : World) (events : List Event) : Type 0 where
  pub server : w.server.now ≡ server_ticks events
  pub clients : (host : ℕ) (c : Client) → slice_get w.clients host ≡ Some c → c.now ≡ ticks_of host events

-- an event that ticks no clock
quiet-clocked : (w : World) (e : Event) (events : List Event) → is_server_tick e ≡ 0
    → ((host : ℕ) (c : Client) → slice_get w.clients host ≡ Some c → is_tick_of host e ≡ 0) → Clocked w events → Clocked w (e ∷ events)
quiet-clocked w e events none few h = record {
  server = let k = h.server in omega arith;
  clients = λ host c is. let k = h.clients host c is in let z = few host c is in omega arith;
}

-- a step of a client
client-clocked : (w : World) (e : Event) (events : List Event) (host : ℕ) (c : Client) (t : ClientStep) → slice_get w.clients host ≡ Some c
    → is_server_tick e ≡ 0 → t.client.now ≡ c.now + is_tick_of host e → ((other : ℕ) → other ≢ host → is_tick_of other e ≡ 0) → Clocked w events
    → Clocked (after_client w host t) (e ∷ events)
unfolding after_client
client-clocked w e events host c t there none time others h = record {
  server = let k = h.server in omega arith;
  clients = λ other d is. case other d (other == host) refl is;
} where
  case : (other : ℕ) (d : Client) (b : Bool) → (other == host) ≡ b → slice_get (slice_set w.clients host t.client) other ≡ Some d
      → d.now ≡ ticks_of other (e ∷ events)
  case other d true same is =
      let one : other ≡ host = same-number other host same in
      let new : d ≡ t.client = get-set-same w.clients host t.client d (subst (λ n. slice_get (slice_set w.clients host t.client) n ≡ Some d) one is) in
      let at : d.now ≡ t.client.now = ap (λ z. z.now) new in
      let before = h.clients host c there in
      subst (λ n. d.now ≡ ticks_of n (e ∷ events)) (sym one) (omega arith)
  case other d false differs is =
      let apart : other ≢ host = λ same. let yes : (other == host) ≡ true = number-same other host same in absurd (cc) in
      let before = h.clients other d (sym (get-set-other w.clients host other t.client apart) ∙ is) in
      let z = others other apart in
      omega arith

-- a step of the server
server-clocked : (w : World) (e : Event) (events : List Event) (t : ServerStep) → t.server.now ≡ w.server.now + is_server_tick e
    → ((host : ℕ) → is_tick_of host e ≡ 0) → Clocked w events → Clocked (after_server w t) (e ∷ events)
unfolding after_server
server-clocked w e events t time none h = record {
  server = let k = h.server in omega arith;
  clients = λ host c is. let k = h.clients host c is in let z = none host in omega arith;
}

at-client-clocked : (w : World) (e : Event) (events : List Event) (host : ℕ) (f : Client → ClientStep) (o : Option Client)
    → slice_get w.clients host ≡ o → is_server_tick e ≡ 0 → ((c : Client) → IsAt host c w.packets → (f c).client.now ≡ c.now + is_tick_of host e)
    → ((other : ℕ) → other ≢ host → is_tick_of other e ≡ 0) → Holds w → Clocked w events → Clocked (at_client w host f o) (e ∷ events)
at-client-clocked w e events host f None is none time others held h =
    quiet-clocked w e events none (λ other c there. others other
    (λ same. let found : None ≡ Some c = sym is ∙ ap (slice_get w.clients) (sym same) ∙ there in absurd (cc))) h
at-client-clocked w e events host f (Some c) is none time others held h =
    client-clocked w e events host c (f c) is none (time c (held.clients host c is)) others h

hearing-clocked : (w : World) (k : ℕ) (events : List Event) (host : ℕ) (c : Client) (o : Option ClientStep) → slice_get w.clients host ≡ Some c
    → StillIf c o → Clocked w events → Clocked (after_hearing w host o) (Event.Deliver k ∷ events)
hearing-clocked w k events host c None is time h = quiet-clocked w (Event.Deliver k) events refl (λ other d there. refl) h
hearing-clocked w k events host c (Some t) is time h =
    client-clocked w (Event.Deliver k) events host c t is refl (time.time ∙ omega arith) (λ other apart. refl) h

to-client-clocked : (w : World) (k : ℕ) (events : List Event) (host : ℕ) (m : Message) (o : Option Client) → slice_get w.clients host ≡ o
    → Told w.packets host m → Holds w → Clocked w events → Clocked (deliver_to_client w k host m o) (Event.Deliver k ∷ events)
to-client-clocked w k events host m None is sent held h = quiet-clocked w (Event.Deliver k) events refl (λ other d there. refl) h
to-client-clocked w k events host m (Some c) is sent held h =
    hearing-clocked w k events host c (hear c k m) is (hear-still host c w.packets k m sent (held.clients host c is)) h

delivered-clocked : (w : World) (k : ℕ) (events : List Event) (p : Packet) (to : Party) → p.to ≡ to → slice_get w.packets k ≡ Some p → Holds w
    → Clocked w events → Clocked (deliver_to w k p to) (Event.Deliver k ∷ events)
delivered-clocked w k events p Party.Server to is held h =
    server-clocked w (Event.Deliver k) events (receive w.server (sending_host p.sender) (length w.packets) (datagram_of p.message))
    ((receive-keeps w.server (sending_host p.sender) (length w.packets) (datagram_of p.message)).1 ∙ omega arith) (λ host. refl) h
delivered-clocked w k events p (Party.Client host) to is held h =
    let i = in-get w.packets k p is in
    to-client-clocked w k events host p.message (slice_get w.clients host) refl (to-told w.packets p host (held.sent p i) to i) held h

deliver-clocked : (w : World) (k : ℕ) (events : List Event) (o : Option Packet) → slice_get w.packets k ≡ o → Holds w → Clocked w events
    → Clocked (deliver w k o) (Event.Deliver k ∷ events)
deliver-clocked w k events None is held h = quiet-clocked w (Event.Deliver k) events refl (λ host c there. refl) h
deliver-clocked w k events (Some p) is held h = delivered-clocked w k events p p.to refl is held h

-- a tick of a host's clock ticks no other, and that one by one
ticks-own : (host : ℕ) → is_tick_of host (Event.ClientTick host) ≡ 1
ticks-own host = let same : (host == host) ≡ true = number-same host host refl in rw same refl

ticks-no-other : (host other : ℕ) → other ≢ host → is_tick_of other (Event.ClientTick host) ≡ 0
ticks-no-other host other apart = step (host == other) refl
  where
    step : (b : Bool) → (host == other) ≡ b → ◌≡◌ {A = ℕ} (if b then 1 else 0) 0
    step true e = absurd (apart (sym (same-number host other e)))
    step false e = refl

crash-time : (w : World) (longest : ℕ) → (crash w.server longest).server.now ≡ w.server.now
unfolding crash boot
crash-time w longest = refl

step-clocked : (w : World) (e : Event) (events : List Event) → Holds w → Clocked w events → Clocked (step w e) (e ∷ events)
step-clocked w (Event.Call host op) events held h =
    at-client-clocked w (Event.Call host op) events host (λ c. client_call c op) (slice_get w.clients host) refl refl
    (λ c a. (call-still host c w.packets op a).time ∙ omega arith) (λ other apart. refl) held h
step-clocked w (Event.Deliver k) events held h = deliver-clocked w k events (slice_get w.packets k) refl held h
step-clocked w Event.ServerTick events held h =
    server-clocked w Event.ServerTick events (tick w.server (w.server.now + 1)) (server-tick-keeps w.server (w.server.now + 1)).1 (λ host. refl) h
step-clocked w (Event.ClientTick host) events held h =
    at-client-clocked w (Event.ClientTick host) events host (λ c. client_tick c (c.now + 1)) (slice_get w.clients host) refl refl
    (λ c a. let one = ticks-own host in let t = (tick-still host c w.packets a).time in omega arith) (λ other apart. ticks-no-other host other apart) held h
step-clocked w (Event.Restart host) events held h =
    at-client-clocked w (Event.Restart host) events host restart (slice_get w.clients host) refl refl (λ c a. restart-time c ∙ omega arith)
    (λ other apart. refl) held h
step-clocked w (Event.Crash longest) events held h =
    server-clocked w (Event.Crash longest) events (crash w.server longest) (crash-time w longest ∙ omega arith) (λ host. refl) h

first-time : (who : Who) (term : ℕ) → (attached_client who term 0).now ≡ 0
unfolding attached_client fresh_client
first-time who term = refl

start-clocked : (head : Head) → Clocked (start head) []
unfolding start boot
start-clocked head = record { server = refl; clients = λ host c is. ap (λ z. z.now) (first-client head.term 0 head.hosts host c is) ∙ first-time _ head.term }

-- in every run
pub run-clocked : (head : Head) (events : List Event) → Clocked (run head events) events
run-clocked head [] = start-clocked head
run-clocked head (e ∷ earlier) = step-clocked (run head earlier) e earlier (run-holds head earlier) (run-clocked head earlier)
