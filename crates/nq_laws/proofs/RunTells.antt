-- In every run what a reply tells of files was so at the server.
use Rattle.std.proofs.Common.{◌≡◌, ◌⊎◌, ◌≤◌, ◌<◌, ℕ, ◌+◌, ◌==◌, List, [], ◌∷◌, ◌++◌, Option, Some, None, map, length, refl, sym, subst, ap, ◌∙◌, inl}
use Rattle.std.proofs.Common.{inr, arith}
use Rattle.std.specs.Prelude.{◌-◌, slice_get, replicate, unwrap_or, zero, suc}
use Rattle.nq_base.specs.declared.Event.{Event}
use Rattle.nq_base.specs.declared.HostRow.{HostRow}
use Rattle.nq_base.specs.declared.Party.{Party}
use Rattle.nq_base.specs.declared.Refusal.{Refusal}
use Rattle.nq_base.specs.declared.Reply.{Reply}
use Rattle.nq_base.specs.declared.Request.{Request}
use Rattle.nq_base.specs.declared.Who.{Who}
use Rattle.nq_model.specs.protocol.Client.{Client, ClientStep}
use Rattle.nq_model.specs.protocol.ClientStep.{client_call, client_tick, restart}
use Rattle.nq_model.specs.protocol.Decide.{verdict_reply}
use Rattle.nq_model.specs.protocol.Hear.{hear, inc_of}
use Rattle.nq_model.specs.protocol.Kept.{File, Kept, find_file, with_files, fresh_row, host_row}
use Rattle.nq_model.specs.protocol.Message.{Message, Packet, call, reply, request, asker, datagram_of, sequence_of}
use Rattle.nq_model.specs.protocol.Profile.{most_hosts}
use Rattle.nq_model.specs.protocol.Server.{Server, ServerStep, quiet, with_table, keeping_with, to_host}
use Rattle.nq_model.specs.protocol.ServerStep.{receive, tick, crash, boot, fence, at_time, opens, ends_writing}
use Rattle.nq_model.specs.protocol.World.{Head, World, from_host, after_server, after_client, at_client, after_hearing, sending_host, deliver_to_client}
use Rattle.nq_model.specs.protocol.World.{deliver_to, deliver, first_row, start, run}
use Rattle.nq_model.specs.laws.RepliesTellWhatWas.{Once, WasSo, RepliesTellWhatWas}
use Rattle.walk_steps.proofs.Mail.{none-to-host}
use Rattle.walk_steps.proofs.Packets.{In, in-append, in-left, in-get, Asked, Told}
use Rattle.walk_steps.proofs.Worlds.{to-server, run-holds}
use Rattle.walk_steps.proofs.Incarnations.{one-who}
use Rattle.walk_steps.proofs.KeptChanges.{booted-line}
use Rattle.walk_steps.proofs.ServerCases.{server-ticks}
use Rattle.walk_steps.proofs.WorldNumbers.{drawn-up-to}
use Rattle.walk_steps.proofs.OneRequests.{one-in-every-run}
use Rattle.walk_steps.proofs.Places.{in-place}
use Rattle.nq_laws.specs.RefusalsHaveCauses.{HadCause, RefusalsHaveCauses}
use Rattle.nq_laws.proofs.Causes.{IsTold}
use Rattle.nq_laws.proofs.ServerTells.{Reason, so_before, so_after, again, Tells, RowMove, row_stays, row_begins, row_decided, receive-tells}

-- ---- moments

once-now : (P : World → Type 0) (head : Head) (events : List Event) → P (run head events) → Once P head events
once-now P head [] now = now
once-now P head (event ∷ earlier) now = inl now

pub once-map : (P Q : World → Type 0) (head : Head) (events : List Event) → ((w : World) → P w → Q w) → Once P head events → Once Q head events
once-map P Q head [] f once = f (run head []) once
once-map P Q head (event ∷ earlier) f (inl now) = inl (f (run head (event ∷ earlier)) now)
once-map P Q head (event ∷ earlier) f (inr before) = inr (once-map P Q head earlier f before)

-- ---- what is kept of a run

-- the request had been sent, what the reply tells was so, and a refusal had its cause
abbrev pub HadSo : (host xid : ℕ) → Reply → Request → World → Type 0
HadSo host xid a r w = Asked w.packets host xid r × IsTold w.server.kept.files w.server.kept.next a r

pub record IsTrue (head : Head) (events : List Event) (host xid : ℕ) (a : Reply) : Type 0 where
  pub asks : Request
  pub who : Who
  pub by : asker asks ≡ Some who
  pub inc : inc_of a ≡ who.inc
  pub sent : Asked (run head events).packets host xid asks
  pub was : Once (HadSo host xid a asks) head events

-- a host's row is of a request that was sent, and what it tells was so
record IsDeed (head : Head) (events : List Event) (k : ℕ) (line : HostRow) : Type 0 where
  xid : ℕ
  asks : Request
  who : Who
  by : asker asks ≡ Some who
  home : who.host ≡ k
  inc : who.inc ≡ line.inc
  sequence : sequence_of asks ≡ Some line.seq
  sent : Asked (run head events).packets k xid asks
  was : Once (HadSo k xid (verdict_reply line.inc line.verdict line.value asks) asks) head events

abbrev RowTrue : Head → List Event → ℕ → HostRow → Type 0
RowTrue head events k line = 1 ≤ line.seq → IsDeed head events k line

pub record AllTrue (head : Head) (events : List Event) : Type 0 where
  pub replies : (host xid : ℕ) (a : Reply) → Told (run head events).packets host (reply xid a) → IsTrue head events host xid a
  rows : (k : ℕ) → RowTrue head events k (host_row (run head events).server.kept k)

later-true : (head : Head) (event : Event) (earlier : List Event) (host xid : ℕ) (a : Reply)
    → ((h x : ℕ) (r : Request) → Asked (run head earlier).packets h x r → Asked (run head (event ∷ earlier)).packets h x r)
    → IsTrue head earlier host xid a → IsTrue head (event ∷ earlier) host xid a
later-true head event earlier host xid a more t =
    record { asks = t.asks; who = t.who; by = t.by; inc = t.inc; sent = more host xid t.asks t.sent; was = inr t.was }

later-deed : (head : Head) (event : Event) (earlier : List Event) (k : ℕ) (line : HostRow)
    → ((host xid : ℕ) (r : Request) → Asked (run head earlier).packets host xid r → Asked (run head (event ∷ earlier)).packets host xid r)
    → IsDeed head earlier k line → IsDeed head (event ∷ earlier) k line
later-deed head event earlier k line more d = record {
  xid = d.xid;
  asks = d.asks;
  who = d.who;
  by = d.by;
  home = d.home;
  inc = d.inc;
  sequence = d.sequence;
  sent = more k d.xid d.asks d.sent;
  was = inr d.was;
}

-- ---- steps that tell nothing

-- after an event that tells no host anything new and leaves the rows
same-true : (head : Head) (event : Event) (earlier : List Event) (w : World) → run head (event ∷ earlier) ≡ w
    → ((host xid : ℕ) (a : Reply) → Told w.packets host (reply xid a) → Told (run head earlier).packets host (reply xid a))
    → ((host xid : ℕ) (r : Request) → Asked (run head earlier).packets host xid r → Asked w.packets host xid r)
    → ((k : ℕ) → host_row w.server.kept k ≡ host_row (run head earlier).server.kept k) → AllTrue head earlier → AllTrue head (event ∷ earlier)
same-true head event earlier w is old more rows t = record {
  replies =
      λ host xid a told. later-true head event earlier host xid a (λ h x r asked. subst (λ v. Asked v.packets h x r) (sym is) (more h x r asked))
      (t.replies host xid a (old host xid a (subst (λ v. Told v.packets host (reply xid a)) is told)));
  rows = λ k one.
      let same : host_row (run head (event ∷ earlier)).server.kept k ≡ host_row (run head earlier).server.kept k = ap (λ v. host_row v.server.kept k) is
      ∙ rows k in
      subst (IsDeed head (event ∷ earlier) k) (sym same)
      (later-deed head event earlier k (host_row (run head earlier).server.kept k)
      (λ host xid r asked. subst (λ v. Asked v.packets host xid r) (sym is) (more host xid r asked))
      (t.rows k (subst (λ l. 1 ≤ l.seq) same one)));
}

unmoved : (head : Head) (event : Event) (earlier : List Event) → run head (event ∷ earlier) ≡ run head earlier → AllTrue head earlier
    → AllTrue head (event ∷ earlier)
unmoved head event earlier is t = same-true head event earlier (run head earlier) is (λ host xid a told. told) (λ host xid r asked. asked) (λ k. refl) t

client-true : (head : Head) (event : Event) (earlier : List Event) (host : ℕ) (t : ClientStep)
    → run head (event ∷ earlier) ≡ after_client (run head earlier) host t → AllTrue head earlier → AllTrue head (event ∷ earlier)
unfolding after_client
client-true head event earlier host t is all =
    same-true head event earlier (after_client (run head earlier) host t) is
    (λ other xid a told. before other xid a (in-append (run head earlier).packets (map (from_host host) t.sends) (to_host other (reply xid a)) told))
    (λ other xid r asked. in-left (run head earlier).packets (map (from_host host) t.sends) (from_host other (call xid r)) asked)
    (λ k. refl)
    all
  where
    before : (other xid : ℕ) (a : Reply)
        → In (run head earlier).packets (to_host other (reply xid a)) ⊎ In (map (from_host host) t.sends) (to_host other (reply xid a))
        → In (run head earlier).packets (to_host other (reply xid a))
    before other xid a (inl old) = old
    before other xid a (inr new) = absurd (none-to-host host other t.sends (reply xid a) new)

at-true : (head : Head) (event : Event) (earlier : List Event) (host : ℕ) (f : Client → ClientStep) (o : Option Client)
    → run head (event ∷ earlier) ≡ at_client (run head earlier) host f o → AllTrue head earlier → AllTrue head (event ∷ earlier)
at-true head event earlier host f None is t = unmoved head event earlier is t
at-true head event earlier host f (Some c) is t = client-true head event earlier host (f c) is t

hearing-true : (head : Head) (event : Event) (earlier : List Event) (host : ℕ) (o : Option ClientStep)
    → run head (event ∷ earlier) ≡ after_hearing (run head earlier) host o → AllTrue head earlier → AllTrue head (event ∷ earlier)
hearing-true head event earlier host None is t = unmoved head event earlier is t
hearing-true head event earlier host (Some h) is t = client-true head event earlier host h is t

to-client-true : (head : Head) (event : Event) (earlier : List Event) (k host : ℕ) (m : Message) (o : Option Client)
    → run head (event ∷ earlier) ≡ deliver_to_client (run head earlier) k host m o → AllTrue head earlier → AllTrue head (event ∷ earlier)
to-client-true head event earlier k host m None is t = unmoved head event earlier is t
to-client-true head event earlier k host m (Some c) is t = hearing-true head event earlier host (hear c k m) is t

-- a step of the server that sends nothing and leaves the rows
silent-true : (head : Head) (event : Event) (earlier : List Event) (t : ServerStep) → run head (event ∷ earlier) ≡ after_server (run head earlier) t
    → t.sends ≡ [] → ((k : ℕ) → host_row t.server.kept k ≡ host_row (run head earlier).server.kept k) → AllTrue head earlier
    → AllTrue head (event ∷ earlier)
unfolding after_server
silent-true head event earlier t is none rows all =
    same-true head event earlier (after_server (run head earlier) t) is
    (λ host xid a told. before host xid a (in-append (run head earlier).packets t.sends (to_host host (reply xid a)) told))
    (λ host xid r asked. in-left (run head earlier).packets t.sends (from_host host (call xid r)) asked)
    rows
    all
  where
    before : (host xid : ℕ) (a : Reply) → In (run head earlier).packets (to_host host (reply xid a)) ⊎ In t.sends (to_host host (reply xid a))
        → In (run head earlier).packets (to_host host (reply xid a))
    before host xid a (inl old) = old
    before host xid a (inr new) = absurd (subst (λ xs. In xs (to_host host (reply xid a))) none new)

fence-line : (kept : Kept) (o : Option File) (k : ℕ) → host_row (fence kept o) k ≡ host_row kept k
unfolding with_files
fence-line kept None k = refl
fence-line kept (Some f) k = refl

-- a tick sends nothing and leaves the rows
abbrev IsSilent : Server → ServerStep → Type 0
IsSilent s t = (t.sends ≡ []) × ((k : ℕ) → host_row t.server.kept k ≡ host_row s.kept k)

tick-silent : (s : Server) (now : ℕ) → IsSilent s (tick s now)
unfolding quiet at_time opens ends_writing keeping_with with_table
tick-silent s now = server-ticks s now (IsSilent s) (record {
  waits = λ until heard last p goes_on. (refl, λ k. refl);
  opening = λ until heard last p over. (refl, λ k. refl);
  ends_reading = λ p none. (refl, λ k. refl);
  ending_writing = λ row p due. (refl, λ k. fence-line s.kept (find_file row.file s.kept.files) k);
})

crash-silent : (s : Server) (longest : ℕ) → IsSilent s (crash s longest)
unfolding crash boot
crash-silent s longest = (refl, λ k. booted-line s.kept longest k (s.kept.opened == 0) refl)

-- ---- a datagram at the server

-- a kept row tells what was so of each request with its sequence
repeats : (head : Head) (earlier : List Event) (host xid seq : ℕ) (r : Request) (who : Who) (line : HostRow) → IsDeed head earlier who.host line
    → Asked (run head earlier).packets host xid r → host ≡ who.host → asker r ≡ Some who → sequence_of r ≡ Some seq → line.inc ≡ who.inc
    → line.seq ≡ seq → Once (HadSo host xid (verdict_reply who.inc line.verdict line.value r) r) head earlier
repeats head earlier host xid seq r who line deed asked home by sq inc same =
    once-map (HadSo who.host deed.xid (verdict_reply line.inc line.verdict line.value deed.asks) deed.asks)
    (HadSo host xid (verdict_reply who.inc line.verdict line.value r) r) head earlier
    (λ v had.
    subst (λ n. HadSo host xid (verdict_reply n line.verdict line.value r) r v) inc
    (subst (λ q. HadSo host xid (verdict_reply line.inc line.verdict line.value q) q v) one.1
    (subst (λ x. HadSo host x (verdict_reply line.inc line.verdict line.value deed.asks) deed.asks v) one.0
    (subst (λ h. HadSo h deed.xid (verdict_reply line.inc line.verdict line.value deed.asks) deed.asks v) (sym home) had))))
    deed.was
  where
    same-who : deed.who ≡ who
    same-who = one-who deed.who who deed.home (deed.inc ∙ inc)

    first : (j : ℕ) × (j < length (run head earlier).packets) × (slice_get (run head earlier).packets j ≡ Some (from_host who.host (call deed.xid deed.asks)))
    first = in-place (run head earlier).packets (from_host who.host (call deed.xid deed.asks)) deed.sent

    second : (j : ℕ) × (j < length (run head earlier).packets) × (slice_get (run head earlier).packets j ≡ Some (from_host host (call xid r)))
    second = in-place (run head earlier).packets (from_host host (call xid r)) asked

    one : (deed.xid ≡ xid) × (deed.asks ≡ r)
    one =
        let both = one-in-every-run head earlier first.0 second.0 who.host host deed.xid xid deed.asks r who seq
        (record { sent = first.2; by = deed.by ∙ ap Some same-who; sequence = deed.sequence ∙ ap Some same })
        (record { sent = second.2; by = by; sequence = sq }) in
        (both.2, both.3)

module _ (head : Head) (event : Event) (earlier : List Event) (p : Packet) (i : In (run head earlier).packets p) (to : p.to ≡ Party.Server)
    (t : AllTrue head earlier) where
  abbrev w : World
  w = run head earlier

  abbrev step_of : ServerStep
  step_of = receive w.server (sending_host p.sender) (length w.packets) (datagram_of p.message)

  asked-of : (xid : ℕ) (r : Request) → datagram_of p.message ≡ request xid r → Asked w.packets (sending_host p.sender) xid r
  asked-of xid r is = (to-server w.packets p ((run-holds head earlier).sent p i) to i xid r is).0

  no-null : (xid : ℕ) → datagram_of p.message ≡ request xid Request.Null → ⊥
  no-null xid is = let some = (to-server w.packets p ((run-holds head earlier).sent p i) to i xid Request.Null is).1 in absurd (cc)

  -- the world after the step
  module _ (is : run head (event ∷ earlier) ≡ after_server w step_of) where
    asked-later : (host xid : ℕ) (r : Request) → Asked w.packets host xid r → Asked (run head (event ∷ earlier)).packets host xid r
    unfolding after_server
    asked-later host xid r asked = subst (λ v. Asked v.packets host xid r) (sym is) (in-left w.packets step_of.sends (from_host host (call xid r)) asked)

    so-later : (a : Reply) (r : Request) → IsTold step_of.server.kept.files step_of.server.kept.next a r
        → IsTold (run head (event ∷ earlier)).server.kept.files (run head (event ∷ earlier)).server.kept.next a r
    unfolding after_server
    so-later a r so = subst (λ v. IsTold v.server.kept.files v.server.kept.next a r) (sym is) so

    why-true : (host xid : ℕ) (a : Reply) (r : Request) (who : Who) → Asked w.packets host xid r → host ≡ who.host → asker r ≡ Some who
        → Reason w.server step_of.server.kept.files step_of.server.kept.next who r a → Once (HadSo host xid a r) head (event ∷ earlier)
    why-true host xid a r who asked home by (so_before so) = inr (once-now (HadSo host xid a r) head earlier (asked, so))
    why-true host xid a r who asked home by (so_after so) = inl (asked-later host xid r asked, so-later a r so)
    why-true host xid a r who asked home by (again seq sq inc same e) =
        let low : 1 ≤ seq = (drawn-up-to head earlier).sent_first host xid r seq asked sq in
        inr (subst (λ b. Once (HadSo host xid b r) head earlier) (sym e)
        (repeats head earlier host xid seq r who line (t.rows who.host (omega arith)) asked home by sq inc same))
      where
        line : HostRow
        line = host_row w.server.kept who.host

    new-reply : (host xid : ℕ) (a : Reply) → Tells w.server step_of.server.kept.files step_of.server.kept.next (datagram_of p.message)
        (sending_host p.sender) host xid a
        → IsTrue head (event ∷ earlier) host xid a
    new-reply host xid a k =
        let asked : Asked w.packets host xid k.asks = subst (λ h. Asked w.packets h xid k.asks) (sym k.to) (asked-of xid k.asks k.is) in
        record {
          asks = k.asks;
          who = k.who;
          by = k.by;
          inc = k.inc;
          sent = asked-later host xid k.asks asked;
          was = why-true host xid a k.asks
              k.who asked k.home k.by k.why;
        }

    row-true : (k : ℕ) (line : HostRow) → RowMove w.server step_of.server.kept.files step_of.server.kept.next (datagram_of p.message)
        (sending_host p.sender) k line
        → RowTrue head (event ∷ earlier) k line
    row-true k line (row_stays same) one =
        subst (IsDeed head (event ∷ earlier) k) (sym same)
        (later-deed head event earlier k (host_row w.server.kept k) asked-later
        (t.rows k (subst (λ l. 1 ≤ l.seq) same one)))
    row-true k line (row_begins none) one = absurd (omega arith)
    row-true k line (row_decided xid r who is_it by from here inc sq so) one =
        let asked : Asked w.packets k xid r = subst (λ h. Asked w.packets h xid r) (sym from ∙ sym here) (asked-of xid r is_it) in
        record {
          xid = xid;
          asks = r;
          who = who;
          by = by;
          home = sym here;
          inc = sym inc;
          sequence = sq;
          sent = asked-later k xid r asked;
          was = inl (asked-later k xid r asked, so-later (verdict_reply line.inc line.verdict line.value r) r so);
        }

    received-true : AllTrue head (event ∷ earlier)
    unfolding after_server
    received-true =
        let both = receive-tells w.server (sending_host p.sender) (length w.packets) (datagram_of p.message) no-null in
        record {
          replies =
              λ host xid a told. by host xid a both.0
              (in-append w.packets step_of.sends (to_host host (reply xid a)) (subst (λ v. Told v.packets host (reply xid a)) is told));
          rows =
              λ k. subst (λ v. RowTrue head (event ∷ earlier) k (host_row v.server.kept k)) (sym is)
              (row-true k (host_row step_of.server.kept k) (both.1 k));
        }
      where
        by : (host xid : ℕ) (a : Reply)
            → ((h x : ℕ) (b : Reply) → In step_of.sends (to_host h (reply x b))
            → Tells w.server step_of.server.kept.files step_of.server.kept.next (datagram_of p.message) (sending_host p.sender) h x b)
            → In w.packets (to_host host (reply xid a)) ⊎ In step_of.sends (to_host host (reply xid a)) → IsTrue head (event ∷ earlier) host xid a
        by host xid a tells (inl old) = later-true head event earlier host xid a asked-later (t.replies host xid a old)
        by host xid a tells (inr new) = new-reply host xid a (tells host xid a new)

-- ---- runs

packet-true : (head : Head) (event : Event) (earlier : List Event) (k : ℕ) (p : Packet) (party : Party) → In (run head earlier).packets p → p.to ≡ party
    → run head (event ∷ earlier) ≡ deliver_to (run head earlier) k p party → AllTrue head earlier → AllTrue head (event ∷ earlier)
packet-true head event earlier k p Party.Server i to is t = received-true head event earlier p i to t is
packet-true head event earlier k p (Party.Client host) i to is t =
    to-client-true head event earlier k host p.message (slice_get (run head earlier).clients host) is t

deliver-true : (head : Head) (event : Event) (earlier : List Event) (k : ℕ) (o : Option Packet) → slice_get (run head earlier).packets k ≡ o
    → run head (event ∷ earlier) ≡ deliver (run head earlier) k o → AllTrue head earlier → AllTrue head (event ∷ earlier)
deliver-true head event earlier k None there is t = unmoved head event earlier is t
deliver-true head event earlier k (Some p) there is t = packet-true head event earlier k p p.to (in-get (run head earlier).packets k p there) refl is t

step-true : (head : Head) (event : Event) (earlier : List Event) → AllTrue head earlier → AllTrue head (event ∷ earlier)
step-true head (Event.Call host op) earlier t =
    at-true head (Event.Call host op) earlier host (λ c. client_call c op) (slice_get (run head earlier).clients host) refl t
step-true head (Event.Deliver k) earlier t = deliver-true head (Event.Deliver k) earlier k (slice_get (run head earlier).packets k) refl refl t
step-true head Event.ServerTick earlier t =
    let silent = tick-silent (run head earlier).server ((run head earlier).server.now + 1) in
    silent-true head Event.ServerTick earlier (tick (run head earlier).server ((run head earlier).server.now + 1)) refl silent.0 silent.1 t
step-true head (Event.ClientTick host) earlier t =
    at-true head (Event.ClientTick host) earlier host (λ c. client_tick c (c.now + 1)) (slice_get (run head earlier).clients host) refl t
step-true head (Event.Restart host) earlier t = at-true head (Event.Restart host) earlier host restart (slice_get (run head earlier).clients host) refl t
step-true head (Event.Crash longest) earlier t =
    let silent = crash-silent (run head earlier).server longest in
    silent-true head (Event.Crash longest) earlier (crash (run head earlier).server longest) refl silent.0 silent.1 t

-- at the start each row is of no request
unasked : (m : ℕ) (k : ℕ) → (unwrap_or (slice_get (replicate m fresh_row) k) fresh_row).seq ≡ 0
unasked zero k = refl
unasked (suc m) zero = refl
unasked (suc m) (suc k) = unasked m k

unasked-both : (m : ℕ) (rest : List HostRow) → ((k : ℕ) → (unwrap_or (slice_get rest k) fresh_row).seq ≡ 0) → (k : ℕ)
    → (unwrap_or (slice_get (replicate m first_row ++ rest) k) fresh_row).seq ≡ 0
unasked-both zero rest none k = none k
unasked-both (suc m) rest none zero = refl
unasked-both (suc m) rest none (suc k) = unasked-both m rest none k

start-seq : (head : Head) (k : ℕ) → (host_row (start head).server.kept k).seq ≡ 0
unfolding start boot
start-seq head k = unasked-both head.hosts (replicate (most_hosts - head.hosts) fresh_row) (unasked (most_hosts - head.hosts)) k

starts-true : (head : Head) → AllTrue head []
unfolding start
starts-true head = record {
  replies = λ host xid a told. absurd told;
  rows = λ k one. let none = start-seq head k in absurd (omega arith);
}

pub all-true : (head : Head) (events : List Event) → AllTrue head events
all-true head [] = starts-true head
all-true head (event ∷ earlier) = step-true head event earlier (all-true head earlier)

placed : (host xid : ℕ) (a : Reply) (r : Request) (w : World) → HadSo host xid a r w → WasSo w host xid a r
placed host xid a r w had = let at = in-place w.packets (from_host host (call xid r)) had.0 in record { place = at.0; sent = at.2; so = had.1.0 }

pub replies-tell-what-was : RepliesTellWhatWas
replies-tell-what-was head events place host xid a there =
    let t = (all-true head events).replies host xid a (in-get (run head events).packets place (to_host host (reply xid a)) there) in
    record {
      asks = t.asks;
      who = t.who;
      by = t.by;
      inc = t.inc;
      was = once-map (HadSo host xid a t.asks) (λ w. WasSo w host xid a t.asks) head events (placed host xid a t.asks) t.was;
    }

caused : (host xid inc : ℕ) (status : Refusal) (r : Request) (w : World) → HadSo host xid (Reply.Refused inc status) r w → HadCause w host xid status r
caused host xid inc status r w had =
    let at = in-place w.packets (from_host host (call xid r)) had.0 in record { place = at.0; sent = at.2; cause = had.1.1 }

pub refusals-have-causes : RefusalsHaveCauses
refusals-have-causes head events place host xid inc status there =
    let a : Reply = Reply.Refused inc status in
    let t = (all-true head events).replies host xid a (in-get (run head events).packets place (to_host host (reply xid a)) there) in
    record {
      asks = t.asks;
      who = t.who;
      by = t.by;
      inc = t.inc;
      was = once-map (HadSo host xid a t.asks) (λ w. HadCause w host xid status t.asks) head events (caused host xid inc status t.asks) t.was;
    }
