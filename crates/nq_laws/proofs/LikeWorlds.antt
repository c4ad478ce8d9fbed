-- A torn world and the world of its schedule stay alike, whatever comes.
use Rattle.std.proofs.Common.{◌≡◌, ◌<◌, ◌≤◌, ◌⊎◌, ◌+◌, ◌-◌, ◌||◌, ◌&&◌, ℕ, Bool, true, false, List, [], ◌∷◌, ◌++◌, Option, Some, None, length, map}
use Rattle.std.proofs.Common.{nat_lt, refl, sym, subst, ap, ◌∙◌, arith, inl, inr, append-nil}
use Rattle.std.specs.Prelude.{nat_le, replicate, slice_get, slice_set}
use Rattle.std.proofs.lemmas.List.{length-append, length-replicate}
use Rattle.std.proofs.lemmas.Bool.{or_parts}
use Rattle.std.proofs.lemmas.Bool.Decides.{nat_tests}
use Rattle.nq_base.specs.declared.Entry.{Entry}
use Rattle.nq_base.specs.declared.Event.{Event}
use Rattle.nq_base.specs.declared.Party.{Party}
use Rattle.nq_model.specs.protocol.Client.{Client, ClientStep}
use Rattle.nq_model.specs.protocol.ClientStep.{client_call, client_tick, restart}
use Rattle.nq_model.specs.protocol.Hear.{hear}
use Rattle.nq_model.specs.protocol.Kept.{Kept}
use Rattle.nq_model.specs.protocol.Message.{Message, Packet, datagram_of}
use Rattle.nq_model.specs.protocol.Server.{ServerStep, last_in, taken}
use Rattle.nq_model.specs.protocol.ServerStep.{receive, tick, boot, booted, crash}
use Rattle.nq_model.specs.protocol.World.{World, from_host, after_server, after_client, at_client, after_hearing, sending_host, deliver_to_client, deliver_to}
use Rattle.nq_model.specs.protocol.World.{deliver, step}
use Rattle.nq_laws.proofs.LastTable.{Alike, receives-alike, ticks-alike, boots-alike}
use Rattle.nq_laws.proofs.Numbers.{get-longer, get-more, get-beside, get-stands}
use Rattle.nq_laws.specs.TornRuns.{Span, is_within, is_unsent, no_packet, brings_unsent, boots_over, unheard, numbers_made, without_last, IsWorldOf}

-- a world is torn from another: the packets of these numbers were never sent in it
abbrev pub Like : List Span → (u v : World) → Type 0
Like unsent u v = IsWorldOf (record { world = u; unsent = unsent }) v

-- they stay alike, and the same packets are sent in both
pub record Goes (unsent : List Span) (u v u_after v_after : World) : Type 0 where
  pub alike : Like unsent u_after v_after
  pub more : List Packet
  pub u_packets : u_after.packets ≡ u.packets ++ more
  pub v_packets : v_after.packets ≡ v.packets ++ more

pub stays : (unsent : List Span) (u v : World) → Like unsent u v → Goes unsent u v u v
stays unsent u v l = record { alike = l; more = []; u_packets = sym (append-nil u.packets); v_packets = sym (append-nil v.packets) }

longer : (xs ys zs : List Packet) → length xs ≡ length ys → length (xs ++ zs) ≡ length (ys ++ zs)
longer xs ys zs same = omega (arith, length-append {A = Packet})

-- ---- steps

served : (unsent : List Span) (u v : World) (t s : ServerStep) → Like unsent u v → Alike t s → Goes unsent u v (after_server u t) (after_server v s)
unfolding after_server
served unsent u v t s l same = record {
  alike = record {
    server = ap (λ z. z.server) same;
    clients = l.clients;
    journal = ap (λ z. z.entries ++ u.journal) same ∙ ap (λ j. s.entries ++ j) l.journal;
    as_many = longer u.packets v.packets t.sends l.as_many ∙ ap (λ z. length (v.packets ++ z.sends)) same;
    sent = λ k out. get-more u.packets v.packets t.sends k l.as_many (l.sent k out) ∙ ap (λ z. slice_get (v.packets ++ z.sends) k) same;
    unsent = λ k is. get-longer u.packets t.sends k no_packet (l.unsent k is);
  };
  more = t.sends;
  u_packets = refl;
  v_packets = ap (λ z. v.packets ++ z.sends) (sym same);
}

acted : (unsent : List Span) (u v : World) (host : ℕ) (t : ClientStep) → Like unsent u v → Goes unsent u v (after_client u host t) (after_client v host t)
unfolding after_client
acted unsent u v host t l = record {
  alike = record {
    server = l.server;
    clients = ap (λ cs. slice_set cs host t.client) l.clients;
    journal = ap (λ j. t.entries ++ j) l.journal;
    as_many = longer u.packets v.packets (map (from_host host) t.sends) l.as_many;
    sent = λ k out. get-more u.packets v.packets (map (from_host host) t.sends) k l.as_many (l.sent k out);
    unsent = λ k is. get-longer u.packets (map (from_host host) t.sends) k no_packet (l.unsent k is);
  };
  more = map (from_host host) t.sends;
  u_packets = refl;
  v_packets = refl;
}

at-client : (unsent : List Span) (u v : World) (host : ℕ) (f : Client → ClientStep) (o : Option Client) → Like unsent u v
    → Goes unsent u v (at_client u host f o) (at_client v host f o)
at-client unsent u v host f None l = stays unsent u v l
at-client unsent u v host f (Some c) l = acted unsent u v host (f c) l

of-host : (unsent : List Span) (u v : World) (host : ℕ) (f : Client → ClientStep) → Like unsent u v
    → Goes unsent u v (at_client u host f (slice_get u.clients host)) (at_client v host f (slice_get v.clients host))
of-host unsent u v host f l =
    subst (λ cs. Goes unsent u v (at_client u host f (slice_get u.clients host)) (at_client v host f (slice_get cs host))) l.clients
    (at-client unsent u v host f (slice_get u.clients host) l)

heard : (unsent : List Span) (u v : World) (host : ℕ) (o : Option ClientStep) → Like unsent u v
    → Goes unsent u v (after_hearing u host o) (after_hearing v host o)
heard unsent u v host None l = stays unsent u v l
heard unsent u v host (Some t) l = acted unsent u v host t l

told : (unsent : List Span) (u v : World) (k host : ℕ) (m : Message) (o : Option Client) → Like unsent u v
    → Goes unsent u v (deliver_to_client u k host m o) (deliver_to_client v k host m o)
told unsent u v k host m None l = stays unsent u v l
told unsent u v k host m (Some c) l = heard unsent u v host (hear c k m) l

came-to : (unsent : List Span) (u v : World) (k : ℕ) (p : Packet) (to : Party) → Like unsent u v → Goes unsent u v (deliver_to u k p to) (deliver_to v k p to)
came-to unsent u v k p Party.Server l =
    subst
    (λ n. Goes unsent u v (after_server u (receive u.server (sending_host p.sender) (length u.packets) (datagram_of p.message))) (after_server v
    (receive v.server (sending_host p.sender) n (datagram_of p.message))))
    l.as_many
    (served unsent u v (receive u.server (sending_host p.sender) (length u.packets) (datagram_of p.message)) (receive v.server
    (sending_host p.sender) (length u.packets) (datagram_of p.message)) l
    (receives-alike (sending_host p.sender) (length u.packets) (datagram_of p.message) u.server v.server l.server))
came-to unsent u v k p (Party.Client host) l =
    subst (λ cs. Goes unsent u v (deliver_to_client u k host p.message (slice_get u.clients host)) (deliver_to_client v k host p.message
    (slice_get cs host))) l.clients
    (told unsent u v k host p.message (slice_get u.clients host) l)

delivered : (unsent : List Span) (u v : World) (k : ℕ) (o : Option Packet) → Like unsent u v → Goes unsent u v (deliver u k o) (deliver v k o)
delivered unsent u v k None l = stays unsent u v l
delivered unsent u v k (Some p) l = came-to unsent u v k p p.to l

crashed : (u v : World) (longest : ℕ) → without_last u.server ≡ without_last v.server → Alike (crash u.server longest) (crash v.server longest)
unfolding crash
crashed u v longest same =
    let parts : (kept : Kept) (now : ℕ) → ServerStep = λ kept now. record {
      server = without_last (boot kept longest now None);
      sends = [];
      entries = Entry.X (kept.boot + 1) now (booted kept longest).longest ∷ [];
      outcome = taken;
    } in
    ap (λ z. record (crash u.server longest) { server = z }) (boots-alike u.server.kept longest u.server.now (last_in u.server.phase u.server.table))
    ∙ ap (λ z. parts z.kept z.now) same
    ∙ ap (λ z. record (crash v.server longest) { server = z }) (sym (boots-alike v.server.kept longest v.server.now (last_in v.server.phase v.server.table)))

-- an event that brings nothing unsent
pub steps-alike : (unsent : List Span) (u v : World) (e : Event) → Like unsent u v → brings_unsent unsent e ≡ false → Goes unsent u v (step u e) (step v e)
steps-alike unsent u v (Event.Call host op) l out = of-host unsent u v host (λ c. client_call c op) l
steps-alike unsent u v (Event.Deliver k) l out =
    subst (λ o. Goes unsent u v (deliver u k (slice_get u.packets k)) (deliver v k o)) (l.sent k out) (delivered unsent u v k (slice_get u.packets k) l)
steps-alike unsent u v Event.ServerTick l out =
    served unsent u v (tick u.server (u.server.now + 1)) (tick v.server (v.server.now + 1)) l (ticks-alike u.server v.server l.server)
steps-alike unsent u v (Event.ClientTick host) l out = of-host unsent u v host (λ c. client_tick c (c.now + 1)) l
steps-alike unsent u v (Event.Restart host) l out = of-host unsent u v host restart l
steps-alike unsent u v (Event.Crash longest) l out = served unsent u v (crash u.server longest) (crash v.server longest) l (crashed u v longest l.server)

-- ---- the boot after a stop

pub boots-like : (unsent : List Span) (u v : World) (longest : ℕ) → Like unsent u v
    → Like unsent (boots_over u u.server.kept longest u.server.now) (step v (Event.Crash longest))
unfolding boots_over after_server crash
boots-like unsent u v longest l =
    let kept : u.server.kept ≡ v.server.kept = ap (λ z. z.kept) l.server in
    let now : u.server.now ≡ v.server.now = ap (λ z. z.now) l.server in
    let none : v.packets ++ [] ≡ v.packets = append-nil v.packets in
    record {
      server =
          ap (λ z. without_last (boot z.kept longest z.now None)) l.server
          ∙ sym (boots-alike v.server.kept longest v.server.now (last_in v.server.phase v.server.table));
      clients = l.clients;
      journal =
          ap (λ z. Entry.X (z.kept.boot + 1) z.now (booted z.kept longest).longest ∷ u.journal) l.server
          ∙ ap (λ j. Entry.X (v.server.kept.boot + 1) v.server.now (booted v.server.kept longest).longest ∷ j) l.journal;
      as_many = l.as_many ∙ ap length (sym none);
      sent = λ k out. l.sent k out ∙ ap (λ ps. slice_get ps k) (sym none);
      unsent = l.unsent;
    }

-- ---- the packets of a torn event

beside-span : (k first past : ℕ) → (nat_le first k && nat_lt k past) ≡ false → (k < first) ⊎ (past ≤ k)
beside-span k first past h = grind (arith, nat_tests)

in-span : (k first past : ℕ) → (nat_le first k && nat_lt k past) ≡ true → (first ≤ k) × (k < past)
in-span k first past h = (grind (arith, nat_tests), grind (arith, nat_tests))

either : (x y : Bool) → (x || y) ≡ true → (x ≡ true) ⊎ (y ≡ true)
either true y h = inl refl
either false y h = inr h

as-many-made : (u after : List Packet) (more : List Packet) → after ≡ u ++ more → length after - length u ≡ length more
as-many-made u after more e = subst (λ z. length z - length u ≡ length more) (sym e) (omega (arith, length-append {A = Packet}))

pub unheard-like : (unsent : List Span) (u v u_after v_after : World) → Like unsent u v → Goes unsent u v u_after v_after
    → Like (numbers_made u u_after ∷ unsent) (unheard u u_after) v_after
unfolding unheard
unheard-like unsent u v u_after v_after l g =
    let n = as-many-made u.packets u_after.packets g.more g.u_packets in
    let all : length u_after.packets ≡ length u.packets + length g.more = ap length g.u_packets ∙ length-append u.packets g.more in
    record {
      server = g.alike.server;
      clients = g.alike.clients;
      journal = g.alike.journal;
      as_many = as-many n all;
      sent = λ k out. let parts = or_parts _ _ out in beside k parts.0 n all ∙ g.alike.sent k parts.1;
      unsent = λ k is. stands k (either _ _ is) n all;
    }
  where
    as-many : length u_after.packets - length u.packets ≡ length g.more → length u_after.packets ≡ length u.packets + length g.more
        → length (u.packets ++ replicate (length u_after.packets - length u.packets) no_packet) ≡ length v_after.packets
    as-many n all = length-append u.packets (replicate (length u_after.packets - length u.packets) no_packet)
        ∙ ap (λ z. length u.packets + z) (length-replicate (length u_after.packets - length u.packets) no_packet ∙ n) ∙ sym all ∙ g.alike.as_many

    beside : (k : ℕ) → is_within k (numbers_made u u_after) ≡ false → length u_after.packets - length u.packets ≡ length g.more
        → length u_after.packets ≡ length u.packets + length g.more
        → slice_get (u.packets ++ replicate (length u_after.packets - length u.packets) no_packet) k ≡ slice_get u_after.packets k
    beside k out n all =
        get-beside u.packets (replicate (length u_after.packets - length u.packets) no_packet) g.more k
        (length-replicate (length u_after.packets - length u.packets) no_packet ∙ n)
        (place (beside-span k (length u.packets) (length u_after.packets) out))
        ∙ ap (λ ps. slice_get ps k) (sym g.u_packets)
      where
        place : (k < length u.packets) ⊎ (length u_after.packets ≤ k)
            → (k < length u.packets) ⊎ (length u.packets + length (replicate (length u_after.packets - length u.packets) no_packet) ≤ k)
        place (inl below) = inl below
        place (inr past) =
            inr (subst (λ z. length u.packets + z ≤ k) (sym (length-replicate (length u_after.packets - length u.packets) no_packet ∙ n)) (subst
            (λ z. z ≤ k) all past))

    stands : (k : ℕ) → (is_within k (numbers_made u u_after) ≡ true) ⊎ (is_unsent k unsent ≡ true) → length u_after.packets - length u.packets ≡ length g.more
        → length u_after.packets ≡ length u.packets + length g.more
        → slice_get (u.packets ++ replicate (length u_after.packets - length u.packets) no_packet) k ≡ Some no_packet
    stands k (inl is) n all =
        let h = in-span k (length u.packets) (length u_after.packets) is in
        get-stands u.packets (length u_after.packets - length u.packets) k no_packet h.0
        (subst (λ z. k < length u.packets + z) (sym n) (subst (λ z. k < z) all h.1))
    stands k (inr is) n all =
        get-longer u.packets (replicate (length u_after.packets - length u.packets) no_packet) k no_packet (l.unsent k is)
