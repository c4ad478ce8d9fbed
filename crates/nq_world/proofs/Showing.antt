-- The bytes that a world shows are those of the protocol, event by event.
use Rattle.std.proofs.Common.{◌≡◌, ℕ, zero, suc, List, [], ◌∷◌, ◌++◌, Some, length, map, reverse, refl, sym, subst, ap, ◌∙◌}
use Rattle.std.proofs.lemmas.List.{length-map, map-append, reverse-append}
use Rattle.std.proofs.lemmas.List.Elements.{All-append, All-map, All-head, All-tail}
use Rattle.std.specs.List.{All}
use Rattle.std.specs.Prelude.{slice_get, slice_set}
use Rattle.nq_base.specs.Plain.{plain}
use Rattle.nq_base.specs.declared.Entry.{Entry}
use Rattle.nq_base.specs.declared.Party.{Party}
use Rattle.nq_datagrams.specs.Incoming.{datagram_in, hears_in}
use Rattle.nq_datagrams.specs.Messages.{FitsMessage, bytes_of}
use Rattle.nq_datagrams.specs.Sent.{sent}
use Rattle.nq_datagrams.proofs.Readers.{server-reads-messages}
use Rattle.nq_model.specs.protocol.Hear.{hear}
use Rattle.nq_model.specs.protocol.Message.{Message, Packet, datagram_of}
use Rattle.nq_model.specs.protocol.ServerStep.{receive}
use Rattle.nq_model.specs.protocol.World.{World, from_host, after_server, after_client, after_hearing, sending_host, deliver_to_client, deliver_to, deliver}
use Rattle.nq_model.specs.protocol.World.{run}
use Rattle.nq_link.specs.Packets.{Datagram}
use Rattle.nq_world.proofs.ReplyWorlds.{each-packet-is-heard}
use Rattle.nq_world.specs.Shown.{datagram, FitsPacket, sent_from, to_server, Seen, Shows}
use Rattle.nq_world.specs.Stepping.{ServerStepsAreShown, ClientStepsAreShown, DeliveriesToTheServer, DeliveriesToClients, BytesShowTheRun}

-- ---- lists

-- the server's own packets, as they travel
own-datagrams : (sends : List Packet) → All (λ p. p.sender ≡ Party.Server) sends → map (sent_from Party.Server) (map sent sends) ≡ map datagram sends
own-datagrams [] own = refl
own-datagrams (p ∷ sends) own =
    let first : p.sender ≡ Party.Server = All-head (λ q. q.sender ≡ Party.Server) p sends own in
    ap (λ s. record { sender = s; to = p.to; bytes = bytes_of p.message } ∷ map (sent_from Party.Server) (map sent sends)) (sym first)
    ∙ ap (λ ds. datagram p ∷ ds) (own-datagrams sends (All-tail (λ q. q.sender ≡ Party.Server) p sends own))

-- a client's packets, as they travel
client-datagrams : (host : ℕ) (sends : List Message) → map (sent_from (Party.Client host)) (map to_server sends) ≡ map datagram (map (from_host host) sends)
client-datagrams host [] = refl
client-datagrams host (m ∷ sends) = ap (λ ds. datagram (from_host host m) ∷ ds) (client-datagrams host sends)

-- entries in the journal's order
reversed-plain : (entries : List Entry) → map plain entries ≡ entries → map plain (reverse entries) ≡ reverse entries
reversed-plain entries same = map-reverse entries ∙ ap reverse same
  where
    map-reverse : (xs : List Entry) → map plain (reverse xs) ≡ reverse (map plain xs)
    map-reverse [] = refl
    map-reverse (x ∷ xs) =
        ap (map plain) (reverse-append (x ∷ []) xs)
        ∙ map-append plain (reverse xs) (x ∷ [])
        ∙ ap (λ ys. ys ++ plain x ∷ []) (map-reverse xs)
        ∙ sym (reverse-append (plain x ∷ []) (map plain xs))

-- ---- steps

pub server-shown : ServerStepsAreShown
unfolding after_server
server-shown w t seen out shows says fit is = record {
  clients = shows.clients;
  datagrams =
      map-append-to seen.datagrams w.packets (map (sent_from Party.Server) out) t.sends shows.datagrams
      (ap (map (sent_from Party.Server)) is ∙ own-datagrams t.sends says.own);
  fit = All-append FitsPacket w.packets t.sends shows.fit fit;
  entries = map-append plain seen.entries (reverse t.entries)
      ∙ ap (λ es. es ++ map plain (reverse t.entries)) shows.entries
      ∙ ap (λ es. reverse w.journal ++ es) (reversed-plain t.entries says.plain)
      ∙ sym (reverse-append t.entries w.journal);
} where
  map-append-to : (ds : List Datagram) (ps : List Packet) (more : List Datagram) (sends : List Packet) → ds ≡ map datagram ps
      → more ≡ map datagram sends → ds ++ more ≡ map datagram (ps ++ sends)
  map-append-to ds ps more sends old new = ap (λ xs. xs ++ more) old ∙ ap (λ xs. map datagram ps ++ xs) new ∙ sym (map-append datagram ps sends)

pub client-shown : ClientStepsAreShown
unfolding after_client
client-shown w host t seen out more shows fit is told = record {
  clients = ap (λ cs. slice_set cs host t.client) shows.clients;
  datagrams = ap (λ xs. xs ++ map (sent_from (Party.Client host)) out) shows.datagrams
      ∙ ap (λ xs. map datagram w.packets ++ xs) (ap (map (sent_from (Party.Client host))) is ∙ client-datagrams host t.sends)
      ∙ sym (map-append datagram w.packets (map (from_host host) t.sends));
  fit = All-append FitsPacket w.packets (map (from_host host) t.sends) shows.fit (All-map FitsPacket (from_host host) t.sends fit);
  entries = map-append plain seen.entries more
      ∙ ap (λ es. es ++ map plain more) shows.entries
      ∙ ap (λ es. reverse w.journal ++ es) told
      ∙ sym (reverse-append t.entries w.journal);
}

-- ---- deliveries

-- the packet of a datagram
pub record IsDatagramOf (packets : List Packet) (k : ℕ) (d : Datagram) : Type 0 where
  pub packet : Packet
  pub there : slice_get packets k ≡ Some packet
  pub is : d ≡ datagram packet

datagram-of : (packets : List Packet) (k : ℕ) (d : Datagram) → slice_get (map datagram packets) k ≡ Some d → IsDatagramOf packets k d
datagram-of [] k d e = absurd (cc)
datagram-of (p ∷ packets) zero d e = record {
  packet = p;
  there = refl;
  is = let same : Some (datagram p) ≡ Some d = e in let one : datagram p ≡ d =
      cc in sym one;
}
datagram-of (p ∷ packets) (suc k) d e = let rest = datagram-of packets k d e in record { packet = rest.packet; there = rest.there; is = rest.is }

pub found-packet : (w : World) (seen : Seen) (k : ℕ) (d : Datagram) → Shows w seen → slice_get seen.datagrams k ≡ Some d → IsDatagramOf w.packets k d
found-packet w seen k d shows e = datagram-of w.packets k d (ap (λ ds. slice_get ds k) (sym shows.datagrams) ∙ e)

fits-at : (packets : List Packet) (k : ℕ) (p : Packet) → All FitsPacket packets → slice_get packets k ≡ Some p → FitsMessage p.message
fits-at [] k p each e = absurd (cc)
fits-at (q ∷ packets) zero p each e = let one : q ≡ p = cc in subst FitsPacket one (All-head FitsPacket q packets each)
fits-at (q ∷ packets) (suc k) p each e = fits-at packets k p (All-tail FitsPacket q packets each) e

pub packet-fits : (w : World) (seen : Seen) (k : ℕ) (p : Packet) → Shows w seen → slice_get w.packets k ≡ Some p → FitsMessage p.message
packet-fits w seen k p shows e = fits-at w.packets k p shows.fit e

datagrams-sent : (w : World) (seen : Seen) → Shows w seen → length seen.datagrams ≡ length w.packets
datagrams-sent w seen shows = ap length shows.datagrams ∙ length-map w.packets datagram

to-the-server : (w : World) (seen : Seen) (k : ℕ) (d : Datagram) (p : Packet) → Shows w seen → slice_get w.packets k ≡ Some p → d ≡ datagram p
    → d.to ≡ Party.Server
    → deliver w k (slice_get w.packets k) ≡ after_server w (receive w.server (sending_host d.sender) (length seen.datagrams) (datagram_in d.bytes))
to-the-server w seen k d p shows there is to =
    let own : p.to ≡ Party.Server = sym (ap (λ x. x.to) is) ∙ to in
    let read : datagram_in d.bytes ≡ datagram_of p.message = ap (λ x. datagram_in x.bytes) is ∙ server-reads-messages p.message
    (packet-fits w seen k p shows there) in
    let from : sending_host d.sender ≡ sending_host p.sender = ap (λ x. sending_host x.sender) is in
    ap (deliver w k) there
    ∙ ap (deliver_to w k p) own
    ∙ ap (λ host. after_server w (receive w.server host (length w.packets) (datagram_of p.message))) (sym from)
    ∙ ap (λ n. after_server w (receive w.server (sending_host d.sender) n (datagram_of p.message))) (sym (datagrams-sent w seen shows))
    ∙ ap (λ x. after_server w (receive w.server (sending_host d.sender) (length seen.datagrams) x)) (sym read)

pub deliveries-to-the-server : DeliveriesToTheServer
deliveries-to-the-server head events seen k d shows e to =
    let found = found-packet (run head events) seen k d shows e in
    to-the-server (run head events) seen k d found.packet shows found.there found.is to

pub deliveries-to-clients : DeliveriesToClients
deliveries-to-clients head events seen k host d c shows e to here =
    let w : World = run head events in
    let found = found-packet w seen k d shows e in
    let p : Packet = found.packet in
    let own : p.to ≡ Party.Client host = sym (ap (λ x. x.to) found.is) ∙ to in
    let client : slice_get w.clients host ≡ Some c = ap (λ cs. slice_get cs host) (sym shows.clients) ∙ here in
    let heard : hears_in c k (bytes_of p.message) ≡ hear c k p.message =
    each-packet-is-heard head events k host p c (record { client = client; packet = found.there; to = own }) (packet-fits w seen k p shows found.there) in
    ap (deliver w k) found.there
    ∙ ap (deliver_to w k p) own
    ∙ ap (deliver_to_client w k host p.message) client
    ∙ ap (after_hearing w host) (sym heard)
    ∙ ap (λ x. after_hearing w host (hears_in c k x.bytes)) (sym found.is)

pub bytes-show-the-run : BytesShowTheRun
bytes-show-the-run = record {
  server = server-shown;
  client = client-shown;
  to_server = deliveries-to-the-server;
  to_clients = deliveries-to-clients;
}
