-- Each event changes one party, from what that party has and what the event brings.
use Rattle.std.proofs.Common.{◌≡◌, ℕ, ◌+◌, List, [], ◌++◌, Option, Some, None, length, map, refl, sym, subst, ap, ◌∙◌, arith, append-nil}
use Rattle.std.proofs.lemmas.List.{length-append}
use Rattle.std.specs.Prelude.{slice_get, slice_set}
use Rattle.nq_base.specs.declared.Event.{Event}
use Rattle.nq_base.specs.declared.Party.{Party}
use Rattle.nq_model.specs.protocol.Client.{Client, ClientStep}
use Rattle.nq_model.specs.protocol.ClientStep.{client_call, client_tick, restart}
use Rattle.nq_model.specs.protocol.Hear.{hear}
use Rattle.nq_model.specs.protocol.Message.{Message, Packet, datagram_of}
use Rattle.nq_model.specs.protocol.Server.{Server, ServerStep}
use Rattle.nq_model.specs.protocol.ServerStep.{receive, tick, crash}
use Rattle.nq_model.specs.protocol.World.{World, from_host, after_server, after_client, at_client, after_hearing, sending_host, deliver_to_client, deliver_to}
use Rattle.nq_model.specs.protocol.World.{deliver}
use Rattle.nq_model.specs.laws.StepsAreOfOneHost.{receiver_of, ChangesOnly, StepsAreOfOneHost, IsAlike, DoesSame, StepsRestOnTheirHost}
use Rattle.walk_steps.proofs.Worlds.{set-there, get-set-other}

-- ---- one party

nothing : (who : Party) (w : World) → ChangesOnly who w w
nothing who w = record { clients = λ host apart. refl; server = λ apart. refl; sends = []; packets = sym (append-nil w.packets); entries = []; journal = refl }

server-only : (w : World) (t : ServerStep) → ChangesOnly Party.Server w (after_server w t)
unfolding after_server
server-only w t =
    record { clients = λ host apart. refl; server = λ apart. absurd (apart refl); sends = t.sends; packets = refl; entries = t.entries; journal = refl }

client-only : (w : World) (host : ℕ) (t : ClientStep) → ChangesOnly (Party.Client host) w (after_client w host t)
unfolding after_client
client-only w host t = record {
  clients = λ other apart. get-set-other w.clients host other t.client (λ same. apart (ap (λ n. Party.Client n) same));
  server = λ apart. refl;
  sends = map (from_host host) t.sends;
  packets = refl;
  entries = t.entries;
  journal = refl;
}

at-client-only : (w : World) (host : ℕ) (f : Client → ClientStep) (o : Option Client) → ChangesOnly (Party.Client host) w (at_client w host f o)
at-client-only w host f None = nothing (Party.Client host) w
at-client-only w host f (Some c) = client-only w host (f c)

hearing-only : (w : World) (host : ℕ) (o : Option ClientStep) → ChangesOnly (Party.Client host) w (after_hearing w host o)
hearing-only w host None = nothing (Party.Client host) w
hearing-only w host (Some t) = client-only w host t

told-only : (w : World) (k host : ℕ) (m : Message) (o : Option Client) → ChangesOnly (Party.Client host) w (deliver_to_client w k host m o)
told-only w k host m None = nothing (Party.Client host) w
told-only w k host m (Some c) = hearing-only w host (hear c k m)

to-only : (w : World) (k : ℕ) (p : Packet) (to : Party) → ChangesOnly to w (deliver_to w k p to)
to-only w k p Party.Server = server-only w _
to-only w k p (Party.Client host) = told-only w k host p.message (slice_get w.clients host)

deliver-only : (w : World) (k : ℕ) (o : Option Packet) → ChangesOnly (receiver_of o) w (deliver w k o)
deliver-only w k None = nothing Party.Server w
deliver-only w k (Some p) = to-only w k p p.to

pub of-one-host : StepsAreOfOneHost
of-one-host w (Event.Call host op) = at-client-only w host (λ c. client_call c op) (slice_get w.clients host)
of-one-host w (Event.Deliver k) = deliver-only w k (slice_get w.packets k)
of-one-host w Event.ServerTick = server-only w _
of-one-host w (Event.ClientTick host) = at-client-only w host (λ c. client_tick c (c.now + 1)) (slice_get w.clients host)
of-one-host w (Event.Restart host) = at-client-only w host restart (slice_get w.clients host)
of-one-host w (Event.Crash longest) = server-only w _

-- ---- from what it has

as-many : (xs ys zs : List Packet) → length xs ≡ length ys → length (xs ++ zs) ≡ length (ys ++ zs)
as-many xs ys zs same = omega (arith, length-append {A = Packet})

still : (who : Party) (v w : World) → IsAlike who v w → DoesSame who v w v w
still who v w a =
    record {
      alike = a;
      sends = [];
      v_packets = sym (append-nil v.packets);
      w_packets = sym (append-nil w.packets);
      entries = [];
      v_journal = refl;
      w_journal = refl;
    }

server-same : (v w : World) (t : ServerStep) → IsAlike Party.Server v w → DoesSame Party.Server v w (after_server v t) (after_server w t)
unfolding after_server
server-same v w t a = record {
  alike = record { client = λ host same. absurd (cc); server = λ same. refl; sent = as-many v.packets w.packets t.sends a.sent };
  sends = t.sends;
  v_packets = refl;
  w_packets = refl;
  entries = t.entries;
  v_journal = refl;
  w_journal = refl;
}

client-same : (v w : World) (host : ℕ) (c d : Client) (t : ClientStep) → slice_get v.clients host ≡ Some c → slice_get w.clients host ≡ Some d
    → IsAlike (Party.Client host) v w → DoesSame (Party.Client host) v w (after_client v host t) (after_client w host t)
unfolding after_client
client-same v w host c d t in_v in_w a = record {
  alike =
      record {
        client = λ other same. at other same;
        server = λ same. absurd (cc);
        sent = as-many v.packets w.packets (map (from_host host) t.sends)
            a.sent;
      };
  sends = map (from_host host) t.sends;
  v_packets = refl;
  w_packets = refl;
  entries = t.entries;
  v_journal = refl;
  w_journal = refl;
} where
  at : (other : ℕ) → Party.Client other ≡ Party.Client host
      → slice_get (slice_set v.clients host t.client) other ≡ slice_get (slice_set w.clients host t.client) other
  at other same =
      let one : host ≡ other = cc in
      subst (λ n. slice_get (slice_set v.clients host t.client) n ≡ slice_get (slice_set w.clients host t.client) n) one
      (set-there v.clients host t.client c in_v ∙ sym (set-there w.clients host t.client d in_w))

at-client-same : (v w : World) (host : ℕ) (f : Client → ClientStep) (o : Option Client) → slice_get v.clients host ≡ o → slice_get w.clients host ≡ o
    → IsAlike (Party.Client host) v w → DoesSame (Party.Client host) v w (at_client v host f o) (at_client w host f o)
at-client-same v w host f None in_v in_w a = still (Party.Client host) v w a
at-client-same v w host f (Some c) in_v in_w a = client-same v w host c c (f c) in_v in_w a

own-same : (v w : World) (host : ℕ) (f : Client → ClientStep) → IsAlike (Party.Client host) v w
    → DoesSame (Party.Client host) v w (at_client v host f (slice_get v.clients host)) (at_client w host f (slice_get w.clients host))
own-same v w host f a =
    let same : slice_get v.clients host ≡ slice_get w.clients host = a.client host refl in
    subst (λ o. DoesSame (Party.Client host) v w (at_client v host f o) (at_client w host f (slice_get w.clients host))) (sym same)
    (at-client-same v w host f (slice_get w.clients host) same refl a)

hearing-same : (v w : World) (host : ℕ) (c : Client) (o : Option ClientStep) → slice_get v.clients host ≡ Some c → slice_get w.clients host ≡ Some c
    → IsAlike (Party.Client host) v w → DoesSame (Party.Client host) v w (after_hearing v host o) (after_hearing w host o)
hearing-same v w host c None in_v in_w a = still (Party.Client host) v w a
hearing-same v w host c (Some t) in_v in_w a = client-same v w host c c t in_v in_w a

told-same : (v w : World) (k host : ℕ) (m : Message) (o : Option Client) → slice_get v.clients host ≡ o → slice_get w.clients host ≡ o
    → IsAlike (Party.Client host) v w → DoesSame (Party.Client host) v w (deliver_to_client v k host m o) (deliver_to_client w k host m o)
told-same v w k host m None in_v in_w a = still (Party.Client host) v w a
told-same v w k host m (Some c) in_v in_w a = hearing-same v w host c (hear c k m) in_v in_w a

-- the server takes in a packet in two worlds
abbrev receives : (s : Server) (p : Packet) (sent : ℕ) → ServerStep
receives s p sent = receive s (sending_host p.sender) sent (datagram_of p.message)

to-same : (v w : World) (k : ℕ) (p : Packet) (to : Party) → IsAlike to v w → DoesSame to v w (deliver_to v k p to) (deliver_to w k p to)
to-same v w k p Party.Server a =
    subst (λ s. DoesSame Party.Server v w (after_server v (receives s p (length v.packets))) (after_server w (receives w.server p (length w.packets))))
    (sym (a.server refl))
    (subst (λ n. DoesSame Party.Server v w (after_server v (receives w.server p n)) (after_server w (receives w.server p (length w.packets)))) (sym a.sent)
    (server-same v w (receives w.server p (length w.packets)) a))
to-same v w k p (Party.Client host) a =
    let same : slice_get v.clients host ≡ slice_get w.clients host = a.client host refl in
    subst (λ o. DoesSame (Party.Client host) v w (deliver_to_client v k host p.message o)
    (deliver_to_client w k host p.message (slice_get w.clients host))) (sym same)
    (told-same v w k host p.message (slice_get w.clients host) same refl a)

deliver-same : (v w : World) (k : ℕ) (o : Option Packet) → IsAlike (receiver_of o) v w → DoesSame (receiver_of o) v w (deliver v k o) (deliver w k o)
deliver-same v w k None a = still Party.Server v w a
deliver-same v w k (Some p) a = to-same v w k p p.to a

-- a step of the server's own
serves-same : (v w : World) (f : Server → ServerStep) → IsAlike Party.Server v w
    → DoesSame Party.Server v w (after_server v (f v.server)) (after_server w (f w.server))
serves-same v w f a =
    subst (λ s. DoesSame Party.Server v w (after_server v (f s)) (after_server w (f w.server))) (sym (a.server refl)) (server-same v w (f w.server) a)

pub rest-on-their-host : StepsRestOnTheirHost
rest-on-their-host v w (Event.Call host op) a same = own-same v w host (λ c. client_call c op) a
rest-on-their-host v w (Event.Deliver k) a same =
    subst (λ o. DoesSame (receiver_of (slice_get w.packets k)) v w (deliver v k o) (deliver w k (slice_get w.packets k))) (sym same)
    (deliver-same v w k (slice_get w.packets k) a)
rest-on-their-host v w Event.ServerTick a same = serves-same v w (λ s. tick s (s.now + 1)) a
rest-on-their-host v w (Event.ClientTick host) a same = own-same v w host (λ c. client_tick c (c.now + 1)) a
rest-on-their-host v w (Event.Restart host) a same = own-same v w host restart a
rest-on-their-host v w (Event.Crash longest) a same = serves-same v w (λ s. crash s longest) a
