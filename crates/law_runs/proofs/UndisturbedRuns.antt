-- In every run within skew, delayed writes that can still be stored are undisturbed.
use Rattle.std.proofs.Common.{◌≡◌, ◌≢◌, ◌<◌, ◌⊎◌, ℕ, ◌+◌, ◌==◌, Bool, true, false, List, [], ◌∷◌, ◌++◌, Option, Some, None, is_some, map, length}
use Rattle.std.proofs.Common.{refl, sym, subst, ap, ◌∙◌, arith, inl, inr}
use Rattle.std.specs.Prelude.{slice_get, slice_set}
use Rattle.nq_base.specs.declared.Call.{Call}
use Rattle.nq_base.specs.declared.Event.{Event}
use Rattle.nq_base.specs.declared.Party.{Party}
use Rattle.nq_base.specs.declared.Push.{Push}
use Rattle.nq_base.specs.declared.PushBase.{PushBase}
use Rattle.nq_base.specs.declared.Request.{Request}
use Rattle.nq_base.specs.declared.Who.{Who}
use Rattle.walk_files.proofs.ChainFacts.{IsFenced, gone, ahead, earlier}
use Rattle.walk_steps.proofs.ClientCases.{core_of}
use Rattle.walk_steps.proofs.ClientMoves.{none-some, some-same}
use Rattle.walk_steps.proofs.BoundBefore.{StandsWriting, only-stood, stood-receive, stood-tick}
use Rattle.walk_files.proofs.BoundRows.{crash-standing}
use Rattle.law_runs.proofs.AnsweredWorlds.{received-tells, tick-tells, crash-tells}
use Rattle.walk_steps.proofs.Runs.{none-served}
use Rattle.nq_model.specs.laws.Bounds.{KeepsBounds}
use Rattle.nq_model.specs.protocol.Client.{Client, ClientStep, Lease, lease_on}
use Rattle.nq_model.specs.protocol.ClientStep.{client_call, client_tick, restart, starts, fresh_client, attached_client, next_incarnation}
use Rattle.nq_model.specs.protocol.Hear.{hear}
use Rattle.nq_model.specs.laws.Journal.{Each}
use Rattle.nq_model.specs.protocol.Kept.{File, find_file, host_row}
use Rattle.nq_model.specs.protocol.Message.{Message, Packet, call, datagram_of, request, too_long}
use Rattle.nq_model.specs.protocol.Server.{Server, ServerStep, standing}
use Rattle.nq_model.specs.protocol.ServerStep.{receive, tick, crash, boot}
use Rattle.nq_model.specs.protocol.Skew.{IsWithinSkew}
use Rattle.nq_model.specs.protocol.World.{Head, World, after_server, after_client, at_client, after_hearing, sending_host, deliver_to_client, deliver_to}
use Rattle.nq_model.specs.protocol.World.{deliver, start, run, from_host}
use Rattle.walk_steps.proofs.Sequences.{asked-before-server}
use Rattle.walk_steps.proofs.RunCases.{During, Keeps, client_at, OfClients, run-keeps, clients-after}
use Rattle.walk_steps.proofs.Packets.{In, in-append, in-get, Asked, Told, message-same, call-same}
use Rattle.walk_steps.proofs.ServerSays.{AllSaid}
use Rattle.walk_steps.proofs.Worlds.{Holds, get-set-other, first-client, to-server, to-told, received-said, tick-said, crash-said, set-there}
use Rattle.walk_steps.proofs.Rows.{same-number, number-same}
use Rattle.walk_files.proofs.Accesses.{Accesses, call-accesses, tick-accesses, hear-accesses}
use Rattle.walk_files.proofs.Fences.{fenced-receive, fenced-tick, fenced-crash}
use Rattle.walk_files.proofs.Holders.{KnownOf}
use Rattle.walk_files.proofs.Journals.{undisturbed-more}
use Rattle.walk_files.proofs.Marks.{clear-less}
use Rattle.walk_files.proofs.OwnSends.{OwnSends, call-own, tick-own, hear-own}
use Rattle.walk_files.proofs.ServerLeaves.{receive-alone, tick-alone, crash-alone}
use Rattle.walk_files.proofs.StillClients.{F, step-still}
use Rattle.walk_files.proofs.StillFits.{StillFits, Takes, push-writes}
use Rattle.walk_files.proofs.StillServer.{Served, served-still}
use Rattle.walk_files.proofs.Tags.{IsEntry, Follows, call-follows, tick-follows, hear-follows}
use Rattle.nq_model.specs.laws.Undisturbed.{LeavesAlone}

-- each host that sent a packet has a client
abbrev pub SendersAreThere : World → Type 0
SendersAreThere w = (host x : ℕ) (r : Request) → Asked w.packets host x r → is_some (slice_get w.clients host) ≡ true

pub record Still (w : World) : Type 0 where
  pub fits : OfClients F w
  pub there : SendersAreThere w

there-is : (o : Option Client) → is_some o ≡ true → (c : Client) × (o ≡ Some c)
there-is None h = absurd (cc)
there-is (Some c) h = (c, refl)

-- ---- senders

senders-client : (w : World) (host : ℕ) (c : Client) (t : ClientStep) → slice_get w.clients host ≡ Some c → SendersAreThere w
    → SendersAreThere (after_client w host t)
unfolding after_client
senders-client w host c t is there other x r asked = case (other == host) refl
  where
    new : (ms : List Message) → In (map (from_host host) ms) (from_host other (call x r)) → host ≡ other
    new [] i = absurd i
    new (m ∷ ms) (inl e) = (message-same host other m (call x r) e).0
    new (m ∷ ms) (inr i) = new ms i

    old : (other ≡ host → ⊥) → In w.packets (from_host other (call x r)) ⊎ In (map (from_host host) t.sends) (from_host other (call x r))
        → Asked w.packets other x r
    old apart (inl i) = i
    old apart (inr i) = absurd (apart (sym (new t.sends i)))

    case : (b : Bool) → (other == host) ≡ b → is_some (slice_get (slice_set w.clients host t.client) other) ≡ true
    case true e = ap is_some (ap (slice_get (slice_set w.clients host t.client)) (same-number _ _ e) ∙ set-there w.clients host t.client c is)
    case false e =
        let apart : other ≢ host = λ same. let yes : (other == host) ≡ true = number-same _ _ same in absurd (cc) in
        ap is_some (get-set-other w.clients host other t.client apart)
        ∙ there other x r (old apart (in-append w.packets (map (from_host host) t.sends) (from_host other (call x r)) asked))

senders-server : (w : World) (t : ServerStep) → AllSaid w.packets t.sends → SendersAreThere w → SendersAreThere (after_server w t)
unfolding after_server
senders-server w t said there host x r asked = there host x r (asked-before-server w.packets t.sends said host x r asked)

module _ (most : ℕ) (head : Head)
    (known : (events : List Event) → KeepsBounds most head events → IsWithinSkew head.hosts most events
    → KnownOf head.hosts most (run head events) events) where
  -- ---- clients

  stepped : (e : Event) (events : List Event) (host : ℕ) (c : Client) (t : ClientStep) → During most head e events
      → run head (e ∷ events) ≡ after_client (run head events) host t → client_at head events host ≡ Some c → (own : OwnSends c.who (core_of t))
      → Accesses c.who t → ((q : Push) (lease : Lease) → IsEntry c q → lease_on q.file c.leases ≡ Some lease
      → Follows c q lease.tag (Takes c (run head events).packets q) t) → Still (run head events) → Still (after_client (run head events) host t)
  stepped e events host c t during same is own accesses follows g = record {
    fits = step-still head.hosts most (run head events) e events host c t (record {
      before = known events during.bounds during.within;
      after = subst (λ w. KnownOf head.hosts most w (e ∷ events)) same (known (e ∷ events) during.bounds_after during.within_after);
      is = is;
      who = own.same;
      accesses = accesses;
      own = own.sends;
      follows = follows;
    }) g.fits;
    there = senders-client (run head events) host c t is g.there;
  }

  called-still : (events : List Event) (host : ℕ) (c : Client) (op : Call) → During most head (Event.Call host op) events
      → client_at head events host ≡ Some c → Still (run head events) → Still (after_client (run head events) host (client_call c op))
  called-still events host c op during is g =
      let a = (known events during.bounds during.within).holds.clients host c is in
      stepped (Event.Call host op) events host c (client_call c op) during (ap (at_client (run head events) host (λ d. client_call d op)) is) is
      (call-own c op a.alone) (call-accesses c op a.alone)
      (λ q lease entry held. call-follows c q lease.tag (Takes c (run head events).packets q) lease held refl entry op) g

  ticked-still : (events : List Event) (host : ℕ) (c : Client) → During most head (Event.ClientTick host) events → client_at head events host ≡ Some c
      → Still (run head events) → Still (after_client (run head events) host (client_tick c (c.now + 1)))
  ticked-still events host c during is g =
      let a = (known events during.bounds during.within).holds.clients host c is in
      stepped (Event.ClientTick host) events host c (client_tick c (c.now + 1)) during
      (ap (at_client (run head events) host (λ d. client_tick d (d.now + 1))) is) is (tick-own c a.alone) (tick-accesses c (c.now + 1) a.alone)
      (λ q lease entry held. tick-follows c q lease.tag (Takes c (run head events).packets q) lease held refl entry (c.now + 1)) g

  -- a datagram
  heard-still : (events : List Event) (k : ℕ) (p : Packet) (host : ℕ) (c : Client) (t : ClientStep) → During most head (Event.Deliver k) events
      → slice_get (run head events).packets k ≡ Some p → p.to ≡ Party.Client host → client_at head events host ≡ Some c → hear c k p.message ≡ Some t
      → Still (run head events) → Still (after_client (run head events) host t)
  heard-still events k p host c t during sent to is hears g =
      let w = run head events in
      let before = known events during.bounds during.within in
      let a = before.holds.clients host c is in
      let told : Told w.packets host p.message = to-told w.packets p host (before.holds.sent p (in-get w.packets k p sent)) to (in-get w.packets k p sent) in
      let mine : Told w.packets c.who.host p.message = subst (λ h. Told w.packets h p.message) (sym a.here) told in
      stepped (Event.Deliver k) events host c t during
      (ap (deliver w k) sent ∙ ap (deliver_to w k p) to ∙ ap (deliver_to_client w k host p.message) is ∙ ap (after_hearing w host) hears)
      is (hear-own c w.packets k p.message t a.alone a.mail mine hears) (hear-accesses c k p.message t a.alone hears)
      (λ q lease entry held. hear-follows c q lease.tag (Takes c w.packets q) lease held refl entry k p.message t a.alone hears
      (λ xid r ticket of asked number inc gr gives on. (
        ticket,
        record {
          x = xid;
          a = r;
          told = subst (λ m. Told w.packets c.who.host m) of mine;
          inc = inc;
          asked = asked;
          number = sym number;
          on_file = on;
          gives = gives;
        },
      ))) g

  -- ---- a restart

  restart-entries : (c : Client) (who : Who) (file : ℕ) → Each (LeavesAlone who file) (restart c).entries
  unfolding starts
  restart-entries c who file = (tt, tt)

  restart-fresh : (c : Client) → ((restart c).client.dirty ≡ []) × ((restart c).client.push ≡ None) × ((restart c).client.who ≡ next_incarnation c.who)
  unfolding starts fresh_client
  restart-fresh c = (refl, refl, refl)

  restart-asks : (c : Client) (host other x : ℕ) (v : Who) (n file block first last : ℕ) (base : PushBase) (body : List ℕ)
      → In (map (from_host host) (restart c).sends) (from_host other (call x (Request.Write v n file block first last (Some base) body))) → ⊥
  unfolding starts
  restart-asks c host other x v n file block first last base body (inl e) =
      let same = (call-same 1 x (Request.Attach (next_incarnation c.who)) (Request.Write v n file block first last (Some base) body)
      (message-same host other (call 1 (Request.Attach (next_incarnation c.who)))
      (call x (Request.Write v n file block first last (Some base) body)) e).1).1 in
      absurd (cc)
  restart-asks c host other x v n file block first last base body (inr bad) = bad

  restarted-own : (events : List Event) (host : ℕ) (c : Client) → client_at head events host ≡ Some c → Still (run head events)
      → StillFits (run head events).server (restart c).client ((run head events).packets ++ map (from_host host) (restart c).sends)
      ((restart c).entries ++ (run head events).journal)
  restarted-own events host c is g = record {
    unsaved = λ p entry. absurd (none p entry);
    sent = λ x v n file block first last base body asked at inc above free.
        let same : (restart c).client.who.host ≡ c.who.host = ap (λ w. w.host) (restart-fresh c).2 in
        undisturbed-more v file block first (restart c).entries (run head events).journal (restart-entries c v file)
        ((g.fits host c is).sent x v n file block first last base body
        (old x v n file block first last base body same
        (in-append (run head events).packets (map (from_host host) (restart c).sends)
        (from_host (restart c).client.who.host (call x (Request.Write v n file block first last (Some base) body))) asked))
        (at ∙ same) (subst (λ h. v.inc ≡ (host_row (run head events).server.kept h).inc) same inc)
        (subst (λ h. (host_row (run head events).server.kept h).seq < n) same above) free);
  } where
    none : (p : Push) → IsEntry (restart c).client p → ⊥
    none p (inl i) = subst (λ d. In d p) (restart-fresh c).0 i
    none p (inr e) = none-some p (sym (restart-fresh c).1 ∙ e)

    old : (x : ℕ) (v : Who) (n file block first last : ℕ) (base : PushBase) (body : List ℕ) → (restart c).client.who.host ≡ c.who.host
        → In (run head events).packets (from_host (restart c).client.who.host (call x (Request.Write v n file block first last (Some base) body)))
        ⊎ In (map (from_host host) (restart c).sends)
        (from_host (restart c).client.who.host (call x (Request.Write v n file block first last (Some base) body)))
        → Asked (run head events).packets c.who.host x (Request.Write v n file block first last (Some base) body)
    old x v n file block first last base body same (inl i) =
        subst (λ h. In (run head events).packets (from_host h (call x (Request.Write v n file block first last (Some base) body)))) same i
    old x v n file block first last base body same (inr i) = absurd (restart-asks c host (restart c).client.who.host x v n file block first last base body i)

  restarted-other : (events : List Event) (host other : ℕ) (c d : Client) → Holds (run head events) → other ≢ host
      → client_at head events other ≡ Some d → Still (run head events)
      → StillFits (run head events).server d ((run head events).packets ++ map (from_host host) (restart c).sends)
      ((restart c).entries ++ (run head events).journal)
  restarted-other events host other c d held apart there g = record {
    unsaved = λ p entry clear l row at chained.
        undisturbed-more d.who p.file p.block p.first (restart c).entries (run head events).journal (restart-entries c d.who p.file)
        ((g.fits other d there).unsaved p entry (clear-less (restart c).entries (run head events).journal d.who p.file p.block p.first p.last clear) l
        row at chained);
    sent = λ x v n file block first last base body asked at inc above free.
        undisturbed-more v file block first (restart c).entries (run head events).journal (restart-entries c v file)
        ((g.fits other d there).sent x v n file block first last base body
        (old x v n file block first last base body
        (in-append (run head events).packets (map (from_host host) (restart c).sends)
        (from_host d.who.host (call x (Request.Write v n file block first last (Some base) body))) asked)) at inc above free);
  } where
    old : (x : ℕ) (v : Who) (n file block first last : ℕ) (base : PushBase) (body : List ℕ)
        → In (run head events).packets (from_host d.who.host (call x (Request.Write v n file block first last (Some base) body)))
        ⊎ In (map (from_host host) (restart c).sends) (from_host d.who.host (call x (Request.Write v n file block first last (Some base) body)))
        → Asked (run head events).packets d.who.host x (Request.Write v n file block first last (Some base) body)
    old x v n file block first last base body (inl i) = i
    old x v n file block first last base body (inr i) = absurd (restart-asks c host d.who.host x v n file block first last base body i)

  restarted-still : (events : List Event) (host : ℕ) (c : Client) → During most head (Event.Restart host) events → client_at head events host ≡ Some c
      → Still (run head events) → Still (after_client (run head events) host (restart c))
  unfolding after_client
  restarted-still events host c during is g = record {
    fits =
        clients-after F (run head events) host (restart c) (restarted-own events host c is g)
        (λ other d apart there. restarted-other events host other c d (known events during.bounds during.within).holds apart there g);
    there = senders-client (run head events) host c (restart c) is g.there;
  }

  -- ---- the server

  served : (e : Event) (events : List Event) (t : ServerStep) → Served head.hosts most (run head events) e events t → Still (run head events)
      → Still (after_server (run head events) t)
  unfolding after_server
  served e events t z g = record {
    fits = λ host c is. served-still head.hosts most (run head events) e events t z g.fits host c is;
    there = senders-server (run head events) t z.said g.there;
  }

  received-still : (events : List Event) (k : ℕ) (p : Packet) → During most head (Event.Deliver k) events
      → slice_get (run head events).packets k ≡ Some p → p.to ≡ Party.Server → Still (run head events)
      → Still (after_server (run head events)
      (receive (run head events).server (sending_host p.sender) (length (run head events).packets) (datagram_of p.message)))
  received-still events k p during sent to g =
      let w = run head events in
      let before = known events during.bounds during.within in
      let in_list : In w.packets p = in-get w.packets k p sent in
      let d = datagram_of p.message in
      let from = sending_host p.sender in
      served (Event.Deliver k) events (receive w.server from (length w.packets) d) (record {
        before = before;
        after =
            subst (λ v. KnownOf head.hosts most v (Event.Deliver k ∷ events)) (ap (deliver w k) sent ∙ ap (deliver_to w k p) to)
            (known (Event.Deliver k ∷ events) during.bounds_after during.within_after);
        said = received-said w p in_list to before.holds;
        tells = received-tells head.hosts most w events p in_list to before.holds before.runs;
        fenced = λ file boot rev below h. fenced-receive w.server file boot rev from (length w.packets) d below h;
        stood = λ who file tag drawn h. stood-receive w.server who file tag before.runs.served.stood drawn from (length w.packets) d h;
        alone = λ who file h now nothing. receive-alone w.server from (length w.packets) d who file before.runs.served.stood before.runs.served.incs h
            (record {
              own =
                  λ xid r seq is by sq fresh changes base. nothing xid r seq (asked w p in_list to before.holds who xid r is fresh.current.from.host) by sq
                  fresh.current.inc fresh.above changes base;
              pushers = λ xid other seq block first final base body f is fresh found boot rev.
                  let mine : Asked w.packets other.host xid (Request.Write other seq file block first final (Some base) body) = asked w p in_list to
                  before.holds other xid (Request.Write other seq file block first final (Some base) body) is fresh.current.from.host in
                  let c = there-is (slice_get w.clients other.host)
                  (g.there other.host xid (Request.Write other seq file block first final (Some base) body) mine) in
                  push-writes w.server other.host w.packets (before.pushes other.host c.0 c.1) xid other seq file block first final base body mine refl
                  fresh.current.inc fresh.above (unfenced w.server file base f found boot rev);
            });
      }) g
    where
      asked : (w : World) (p : Packet) → In w.packets p → p.to ≡ Party.Server → Holds w → (who : Who) (xid : ℕ) (r : Request)
          → datagram_of p.message ≡ request xid r → who.host ≡ sending_host p.sender → Asked w.packets who.host xid r
      asked w p i to held who xid r is at = subst (λ h. Asked w.packets h xid r) (sym at) (to-server w.packets p (held.sent p i) to i xid r is).0

      unfenced : (s : Server) (file : ℕ) (base : PushBase) (f : File) → find_file file s.kept.files ≡ Some f → base.boot ≡ s.kept.opened
          → base.base ≡ f.rev → IsFenced s.kept file base.boot base.base → ⊥
      unfenced s file base f found boot rev (gone none) = none-some f (sym none ∙ found)
      unfenced s file base f found boot rev (ahead h is above) =
          let one : h ≡ f = some-same h f (sym is ∙ found) in let less : base.base < f.rev = subst (λ z. base.base < z.rev) one above in
          absurd (omega arith)
      unfenced s file base f found boot rev (earlier below) = absurd (omega arith)

  ticks-still : (events : List Event) → During most head Event.ServerTick events → Still (run head events)
      → Still (after_server (run head events) (tick (run head events).server ((run head events).server.now + 1)))
  ticks-still events during g =
      let w = run head events in
      let before = known events during.bounds during.within in
      served Event.ServerTick events (tick w.server (w.server.now + 1)) (record {
        before = before;
        after = known (Event.ServerTick ∷ events) during.bounds_after during.within_after;
        said = tick-said w.packets w.server (w.server.now + 1);
        tells = tick-tells w.packets w.server (w.server.now + 1);
        fenced = λ file boot rev below h. fenced-tick w.server file boot rev (w.server.now + 1) before.runs.served.boots h;
        stood =
            λ who file tag drawn h. stood-tick w.server who file tag before.runs.served.stood drawn (w.server.now + 1)
            (none-served most w.server before.runs.served) h;
        alone = λ who file h now nothing. tick-alone w.server 0 0 too_long who file before.runs.served.stood before.runs.served.incs h (w.server.now + 1) now;
      }) g

  crash-still : (events : List Event) (longest : ℕ) → During most head (Event.Crash longest) events → Still (run head events)
      → Still (after_server (run head events) (crash (run head events).server longest))
  crash-still events longest during g =
      let w = run head events in
      let before = known events during.bounds during.within in
      served (Event.Crash longest) events (crash w.server longest) (record {
        before = before;
        after = known (Event.Crash longest ∷ events) during.bounds_after during.within_after;
        said = crash-said w.packets w.server longest;
        tells = crash-tells w.packets w.server longest;
        fenced = λ file boot rev below h. fenced-crash w.server file boot rev longest h;
        stood =
            λ who file tag drawn h. only-stood who file tag (standing w.server).rows
            (subst (λ z. StandsWriting who file tag z.rows) (crash-standing w.server longest before.runs.served.opened) h);
        alone = λ who file h now nothing. crash-alone w.server 0 0 too_long who file before.runs.served.stood before.runs.served.incs h longest;
      }) g

  -- ---- the start

  none-at-start : (host : ℕ) (c : Client) → slice_get (start head).clients host ≡ Some c → (p : Push) → IsEntry c p → ⊥
  unfolding start attached_client fresh_client
  none-at-start host c is p entry = case (subst (λ d. IsEntry d p) (first-client head.term 0 head.hosts host c is) entry)
    where
      case : IsEntry (attached_client (record { host = 0 + host; inc = 1 }) head.term 0) p → ⊥
      case (inl i) = i
      case (inr e) = none-some p e

  starts-still : Still (start head)
  unfolding start
  starts-still = record {
    fits = λ host c is. record {
      unsaved = λ p entry. absurd (none-at-start host c is p entry);
      sent = λ x v n file block first last base body asked. absurd asked;
    };
    there = λ host x r asked. absurd asked;
  }

  still-keeps : Keeps most head Still
  still-keeps = record {
    starts = λ bounds. starts-still;
    called = called-still;
    ticked = ticked-still;
    restarted = restarted-still;
    heard = heard-still;
    received = received-still;
    server_ticked = ticks-still;
    crashed = λ events longest during long few. crash-still events longest during;
  }

  pub run-still : (events : List Event) → KeepsBounds most head events → IsWithinSkew head.hosts most events → Still (run head events)
  run-still = run-keeps still-keeps
