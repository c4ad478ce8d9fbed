-- In every run within skew the journal fits the delayed writes of each client.
use Rattle.std.proofs.Common.{◌≡◌, ◌<◌, ◌≤◌, ℕ, ◌+◌, Bool, true, false, List, [], ◌∷◌, ◌++◌, Option, Some, None, refl, sym, subst, ap, ◌∙◌, arith, inl, inr}
use Rattle.std.specs.Prelude.{slice_get}
use Rattle.nq_base.specs.Block.{value_of}
use Rattle.nq_base.specs.declared.Entry.{Entry}
use Rattle.nq_base.specs.declared.Entry.TheVariants.{C, W, R, S, L, G, F, O, B, X, Z, A}
use Rattle.nq_base.specs.declared.Event.{Event}
use Rattle.nq_base.specs.declared.HostRow.{HostRow}
use Rattle.nq_base.specs.declared.Push.{Push}
use Rattle.nq_base.specs.declared.PushBase.{PushBase}
use Rattle.nq_base.specs.declared.Reply.{Reply}
use Rattle.nq_base.specs.declared.Request.{Request}
use Rattle.nq_base.specs.declared.Who.{Who}
use Rattle.walk_steps.proofs.ClientFacts.{push_in}
use Rattle.walk_steps.proofs.ClientMoves.{some-same, none-some, attached-with-ticket}
use Rattle.law_runs.proofs.AnsweredWorlds.{AllAnswered, run-answered, server-step, received-tells, tick-tells, crash-tells}
use Rattle.walk_files.proofs.ClientFates.{IsOwn, Mid}
use Rattle.walk_files.proofs.FactMoves.{IsOfOther, behind-more, facts-others, facts-packets, facts-sends, journal-more, journal-quiets, journal-quiet}
use Rattle.walk_files.proofs.FactServer.{Before, server-facts}
use Rattle.walk_files.proofs.JournalMoves.{covers-before}
use Rattle.walk_files.proofs.ServerTells.{Effects, without, goes_through, pushes, Decides, Moves, same_lines, attaches_one, decides_one, ServerTells}
use Rattle.walk_files.proofs.StepFates.{Replies, mid-begins, mid-hears, mid-call-step, mid-tick-step}
use Rattle.walk_files.proofs.WritesFit.{JournalFits, HaveWrites, IsOpenPush, Facts, CoversNumber, IsClear, WritesFit}
use Rattle.walk_steps.proofs.LeaseIntervals.{run-runs}
use Rattle.nq_model.specs.laws.Bounds.{KeepsBounds}
use Rattle.nq_model.specs.protocol.Client.{Client, ClientStep, attaching, pushing, Ticket, begun}
use Rattle.nq_model.specs.protocol.ClientStep.{client_call, client_tick, restart, starts, next_incarnation, attached_client, fresh_client}
use Rattle.nq_model.specs.protocol.Hear.{hear, inc_of, reply_counts}
use Rattle.nq_model.specs.protocol.Kept.{host_row}
use Rattle.nq_model.specs.protocol.Message.{Message, Packet, call, reply, sequence_of}
use Rattle.nq_model.specs.protocol.Server.{ServerStep}
use Rattle.nq_model.specs.protocol.Skew.{IsWithinSkew}
use Rattle.nq_model.specs.protocol.World.{Head, World, from_host, after_server, after_client, start, run}
use Rattle.walk_steps.proofs.OpenAt.{OneOpenAt}
use Rattle.walk_steps.proofs.OpenRequests.{run-opens}
use Rattle.walk_steps.proofs.WorldSequences.{run-draws}
use Rattle.walk_steps.proofs.Sequences.{asked-before-server}
use Rattle.walk_steps.proofs.RunCases.{client_at, Keeps, run-keeps, OfClients, clients-after}
use Rattle.walk_steps.proofs.HostLine.{IsSettled}
use Rattle.walk_steps.proofs.KnownWorlds.{Known, first-there, first-line}
use Rattle.walk_steps.proofs.Mail.{packets_with, other-asked}
use Rattle.walk_steps.proofs.Packets.{In, in-get, Asked, Told, Mail}
use Rattle.walk_steps.proofs.ServerSays.{AllSaid}
use Rattle.walk_steps.proofs.WorldClocks.{StillIf, call-still, tick-still, hear-still}
use Rattle.walk_steps.proofs.Worlds.{IsAt, Holds, to-told, first-client, run-holds, received-said, tick-said, crash-said}

-- of each client, and of the journal
abbrev pub WritesAt : ℕ → Client → World → Type 0
WritesAt host c w = WritesFit (host_row w.server.kept host) c w.packets w.journal

pub record Writes (w : World) : Type 0 where
  pub clients : OfClients WritesAt w
  pub journal : JournalFits w.journal

-- ---- a step of a client

-- what a client's step shows
pub record Stepped (line : HostRow) (host : ℕ) (ps : List Packet) (j : List Entry) (t : ClientStep) : Type 0 where
  pub here : t.client.who.host ≡ host
  pub facts : Facts line t.client.who t.client.number t.client.seq t.client.ticket t.client.dirty t.client.push (packets_with ps host t.sends) (t.entries ++ j)
  pub journal : JournalFits (t.entries ++ j)
  pub own : (e : Entry) → In t.entries e → IsOwn t.client.who e

-- what is of one host is not of another
own-other : (who : Who) (host : ℕ) (e : Entry) → (who.host ≡ host → ⊥) → IsOwn who e → IsOfOther host e
own-other who host (W w file block number value through) apart o = λ same. apart (ap (λ z. z.host) (sym o) ∙ same)
own-other who host (S w file block first last now) apart o = λ same. o
own-other who host (L w file block first last) apart o = λ same. apart (ap (λ z. z.host) (sym o) ∙ same)
own-other who host (C w q told) apart o = tt
own-other who host (R w q file block value served) apart o = tt
own-other who host (G w file mode tag term now) apart o = tt
own-other who host (F w file until heard now) apart o = tt
own-other who host (O boot until heard now) apart o = tt
own-other who host (B w) apart o = tt
own-other who host (X boot now longest) apart o = tt
own-other who host (Z w q file from to) apart o = tt
own-other who host (A w q said) apart o = tt

client-writes : (w : World) (host : ℕ) (t : ClientStep) → Holds w → Stepped (host_row w.server.kept host) host w.packets w.journal t → Writes w
    → Writes (after_client w host t)
unfolding after_client
client-writes w host t held s h = record {
  clients = clients-after WritesAt w host t s.facts (λ other c apart is.
      let a = held.clients other c is in
      let differs : c.who.host ≡ host → ⊥ = λ same. apart (sym a.here ∙ same) in
      facts-packets (packets_with w.packets host t.sends) (λ x r asked. other-asked w.packets host c.who.host t.sends x r differs asked)
      (facts-others t.entries w.journal (λ e i. own-other t.client.who c.who.host e (λ same. differs (sym same ∙ s.here)) (s.own e i))
      (h.clients other c is)));
  journal = s.journal;
}

-- the step has the same incarnation
mid-stepped : (line : HostRow) (host : ℕ) (ps : List Packet) (j : List Entry) (t : ClientStep) → t.client.who.host ≡ host → Mid line ps j t
    → Stepped line host ps j t
mid-stepped line host ps j t here m = record {
  here = here;
  facts =
      subst (λ n. Facts line t.client.who t.client.number t.client.seq t.client.ticket t.client.dirty t.client.push (packets_with ps n t.sends)
      (t.entries ++ j)) here m.facts;
  journal = m.journal;
  own = m.own;
}

-- ---- a restart

restart-own : (who : Who) (e : Entry) → In (B who ∷ []) e → IsOwn who e
restart-own who e (inl same) = subst (IsOwn who) same tt
restart-own who e (inr bad) = absurd bad

-- the next incarnation has no write, and none that is covered
module _ {line : HostRow} {who : Who} {xid number seq : ℕ} {ticket : Option Ticket} {dirty : List Push} {push : Option Push} {ps : List Packet}
    {j : List Entry} (past : line.inc ≤ who.inc) (m : Mail who xid ticket ps) (h : Facts line who number seq ticket dirty push ps j) where
  abbrev next : Who
  next = next_incarnation who

  abbrev begins : Entry
  begins = B next

  no-write : (f b n v : ℕ) (t : Bool) → In (begins ∷ j) (W next f b n v t) → ⊥
  no-write f b n v t (inl bad) = cc
  no-write f b n v t (inr i) = h.past next refl (omega arith) f b n v t i

  no-cover : (f b n : ℕ) → CoversNumber (begins ∷ j) next f b n → ⊥
  no-cover f b n (inl bad) = bad
  no-cover f b n (inr c) = h.past_covers next refl (omega arith) f b n c

  late-write : (w : Who) → w.host ≡ who.host → next.inc < w.inc → (f b n v : ℕ) (t : Bool) → In (begins ∷ j) (W w f b n v t) → ⊥
  late-write w home later f b n v t (inl bad) = cc
  late-write w home later f b n v t (inr i) = h.past w home (omega arith) f b n v t i

  late-cover : (w : Who) → w.host ≡ who.host → next.inc < w.inc → (f b n : ℕ) → CoversNumber (begins ∷ j) w f b n → ⊥
  late-cover w home later f b n (inl bad) = bad
  late-cover w home later f b n (inr c) = h.past_covers w home (omega arith) f b n c

  next-facts : (t : Ticket) → Facts line next 1 1 (Some t) [] None ps (begins ∷ j)
  next-facts t = record {
    list = record {
      listed = λ p i. absurd i;
      apart = tt;
      distinct = λ p q i. absurd i;
      earlier = λ p q is. none-some p is;
      top = λ p is. none-some p is;
      numbers = λ f b n v t i. absurd (no-write f b n v t i);
      covered = λ f b n c. absurd (no-cover f b n c);
      unsaved = λ f b n v i. absurd (no-write f b n v false i);
    };
    pushed = λ p t n is. none-some p is;
    sent = record {
      behind =
          λ w p k. behind-more begins (h.sent.behind w p
          (record { xid = k.xid; seq = k.seq; base = k.base; home = k.home; asked = k.asked; kept = k.kept; above = k.above }));
      clear =
          λ w p k n above below c. h.sent.clear w p
          (record { xid = k.xid; seq = k.seq; base = k.base; home = k.home; asked = k.asked; kept = k.kept; above = k.above }) n above below
          (covers-before begins j w p.file p.block n tt c);
      top =
          λ w p k n c. h.sent.top w p (record
          { xid = k.xid; seq = k.seq; base = k.base; home = k.home; asked = k.asked; kept = k.kept; above = k.above }) n
          (covers-before begins j w p.file p.block n tt c);
      drawn =
          λ x sq f b first last base bd asked. let below = (m.asked x (Request.Write next sq f b first last base bd) next asked refl).inc in
          absurd (omega arith);
      earlier = λ x sq f b first last base bd q asked i. absurd i;
    };
    under_way = λ p is. none-some p is;
    drawn = λ e. absurd (omega arith);
    past = late-write;
    past_covers = late-cover;
  }

restarted : (line : HostRow) (host : ℕ) (c : Client) (ps : List Packet) (j : List Entry) → line.inc ≤ c.who.inc → IsAt host c ps
    → Facts line c.who c.number c.seq c.ticket c.dirty c.push ps j → JournalFits j → Stepped line host ps j (restart c)
unfolding starts fresh_client
restarted line host c ps j past a h fits =
    let who : Who = next_incarnation c.who in
    let ticket : Ticket = record { xid = 1; first = c.now; last = c.now; request = Request.Attach who; job = attaching } in
    record {
      here = a.here;
      facts = subst (λ n. Facts line who 1 1 (Some ticket) [] None (ps ++ from_host n (call 1 (Request.Attach who)) ∷ []) (B who ∷ j)) a.here
          (facts-sends 1 (Request.Attach who) refl (λ sq f b first last base bd e. absurd (cc)) (next-facts past a.mail h ticket));
      journal = journal-quiet (B who) j tt fits;
      own = restart-own who;
    }

-- ---- a step of the server

pub no-attach : (t : Ticket) → t.job ≡ pushing → t.job ≡ attaching → ⊥
no-attach t a b = cc

-- a push is under way at an attached client alone, and its incarnation is the kept one
push-kept : (w : World) (events : List Event) (host : ℕ) (c : Client) → slice_get w.clients host ≡ Some c → Holds w → Known w events → WritesAt host c w
    → (p : Push) → c.push ≡ Some p → (host_row w.server.kept host).inc ≡ c.who.inc
push-kept w events host c is held known h p push =
    let k = h.under_way p push in
    (known.clients host c is).lined.current (attached-with-ticket (held.clients host c is).alone.asking k.request k.asks (no-attach k.request k.job))

before-server : (most : ℕ) (head : Head) (events : List Event) (t : ServerStep) → KeepsBounds most head events → IsWithinSkew head.hosts most events
    → AllAnswered (after_server (run head events) t) → Writes (run head events) → (host : ℕ) (c : Client)
    → slice_get (run head events).clients host ≡ Some c
    → Before (host_row (run head events).server.kept host) (host_row t.server.kept host) c.who c.xid c.number c.seq c.ticket c.dirty c.push
    (run head events).packets (run head events).journal
unfolding after_server
before-server most head events t b within answered h host c is =
    let w : World = run head events in
    let held = run-holds head events in
    let known = (run-runs most head events b within).known in
    let a = held.clients host c is in
    record {
      facts = h.clients host c is;
      mail = a.mail;
      above = (known.clients host c is).lined.above;
      settled = (known.clients host c is).lined.settled;
      pushing = push-kept w events host c is held known (h.clients host c is);
      one = subst (λ n. OneOpenAt (host_row w.server.kept host) w.packets n) (sym a.here) ((run-opens most head events b within).one host c is);
      drawn = (answered host c is).kept;
    }

journal-server : (head : Head) (events : List Event) (t : ServerStep) → Writes (run head events)
    → Moves (run head events).packets (run head events).server t → JournalFits (t.entries ++ (run head events).journal)
journal-server head events t h moves = case moves
  where
    w : World
    w = run head events

    fresh : (k : Decides w.packets w.server t) (sq f b first last : ℕ) (base : PushBase) (bd : List ℕ)
        → k.r ≡ Request.Write k.w sq f b first last (Some base) bd → (o : Option Client) → slice_get w.clients k.w.host ≡ o
        → IsClear w.journal k.w f b first last × HaveWrites w.journal k.w f b first last
    fresh k sq f b first last base bd asks None is = absurd ((run-draws head events).lone k.w.host k.x k.r k.asked is)
    fresh k sq f b first last base bd asks (Some c) is =
        let p : Push = record { file = f; block = b; first = first; last = last; body = bd } in
        let here : c.who.host ≡ k.w.host = ((run-holds head events).clients k.w.host c is).here in
        let number : sq ≡ k.seq = some-same sq k.seq (ap sequence_of (sym asks) ∙ k.draws) in
        let sent : IsOpenPush (host_row w.server.kept k.w.host) w.packets c.who.host k.w p = record {
          xid = k.x;
          seq = sq;
          base = base;
          home = sym here;
          asked =
              subst (λ n. Asked w.packets n k.x (Request.Write k.w sq f b first last (Some base) bd)) (sym here)
              (subst (λ r. Asked w.packets k.w.host k.x r) asks k.asked);
          kept = k.inc;
          above = let up = k.above in omega arith;
        } in
        let fits = (h.clients k.w.host c is).sent in
        let behind = fits.behind k.w p sent in
        (fits.clear k.w p sent, (behind.ordered, behind.first_there, (value_of bd, behind.last_there)))

    effects : (k : Decides w.packets w.server t) → Effects k.w k.r (host_row t.server.kept k.w.host).verdict t.entries → JournalFits (t.entries ++ w.journal)
    effects k (without quiet why) = journal-quiets t.entries w.journal quiet h.journal
    effects k (goes_through sq f b first last bd asks is) = subst (λ es. JournalFits (es ++ w.journal)) (sym is) (journal-more _ w.journal tt tt tt h.journal)
    effects k (pushes sq f b first last now base bd asks done is) =
        subst (λ es. JournalFits (es ++ w.journal)) (sym is)
        (let k' = fresh k sq f b first last base bd asks (slice_get w.clients k.w.host) refl in journal-more _ w.journal k'.0 k'.1 tt h.journal)

    case : Moves w.packets w.server t → JournalFits (t.entries ++ w.journal)
    case (same_lines quiet same) = journal-quiets t.entries w.journal quiet h.journal
    case (attaches_one quiet k) = journal-quiets t.entries w.journal quiet h.journal
    case (decides_one k) = effects k k.effects

server-writes : (most : ℕ) (head : Head) (events : List Event) (t : ServerStep) → KeepsBounds most head events → IsWithinSkew head.hosts most events
    → AllSaid (run head events).packets t.sends → ServerTells (run head events).packets (run head events).server t → Writes (run head events)
    → Writes (after_server (run head events) t)
unfolding after_server
server-writes most head events t b within said tells h = record {
  clients = λ host c is.
      let a = (run-holds head events).clients host c is in
      let answered = server-step w t tells head events refl (run-answered most head events b within) in
      subst (λ n. Facts (host_row t.server.kept n) c.who c.number c.seq c.ticket c.dirty c.push (w.packets ++ t.sends) (t.entries ++ w.journal)) a.here
      (server-facts w.server t c.who c.xid c.number c.seq c.ticket c.dirty c.push w.packets w.journal
      (λ x r asked. asked-before-server w.packets t.sends said c.who.host x r asked)
      (subst (λ n. Before (host_row w.server.kept n) (host_row t.server.kept n) c.who c.xid c.number c.seq c.ticket c.dirty c.push w.packets w.journal)
      (sym a.here) (before-server most head events t b within answered h host c is))
      tells.moves);
  journal = journal-server head events t h tells.moves;
} where
  w : World
  w = run head events

-- ---- the start

starts-facts : (line : HostRow) (host term : ℕ) → line.seq ≡ 0 → Facts line (record { host = host; inc = 1 }) 1 1 None [] None [] []
starts-facts line host term none = record {
  list = record {
    listed = λ p i. absurd i;
    apart = tt;
    distinct = λ p q i. absurd i;
    earlier = λ p q is. none-some p is;
    top = λ p is. none-some p is;
    numbers = λ f b n v t i. absurd i;
    covered = λ f b n c. absurd c;
    unsaved = λ f b n v i. absurd i;
  };
  pushed = λ p t n is. none-some p is;
  sent =
      record {
        behind = λ w p k. absurd k.asked;
        clear = λ w p k. absurd k.asked;
        top = λ w p k. absurd k.asked;
        drawn = λ x sq f b first last base bd asked. absurd asked;
        earlier = λ x sq f b first last base bd q asked. absurd asked;
      };
  under_way = λ p is. none-some p is;
  drawn = λ e. omega arith;
  past = λ w home later f b n v t i. absurd i;
  past_covers = λ w home later f b n c. absurd c;
}

begins-writes : (head : Head) → Writes (start head)
unfolding start attached_client fresh_client
begins-writes head = record {
  clients =
      λ host c is. subst (λ z. WritesAt host z (start head)) (sym (first-client head.term 0 head.hosts host c is))
      (starts-facts (host_row (start head).server.kept host) (0 + host) head.term
      (ap (λ l. l.seq) (first-line head host (first-there head.term 0 head.hosts host c is))));
  journal = record { apart = tt; of_writes = tt; rising = tt };
}

stepped : (head : Head) (events : List Event) (host : ℕ) (c : Client) (t : ClientStep) → client_at head events host ≡ Some c → t.client.who ≡ c.who
    → (Mid (host_row (run head events).server.kept host) (run head events).packets (run head events).journal (begun c)
    → Mid (host_row (run head events).server.kept host) (run head events).packets (run head events).journal t) → Writes (run head events)
    → Writes (after_client (run head events) host t)
stepped head events host c t is same goes h =
    let w : World = run head events in
    client-writes w host t (run-holds head events)
    (mid-stepped _ host w.packets w.journal t (ap (λ z. z.host) same ∙ ((run-holds head events).clients host c is).here)
    (goes (mid-begins c (h.clients host c is) h.journal))) h

-- what is known of a reply to the request under way
pub replies-known : (most : ℕ) (head : Head) (events : List Event) → KeepsBounds most head events → IsWithinSkew head.hosts most events
    → (host : ℕ) (c : Client) → client_at head events host ≡ Some c → (message : Message) → Told (run head events).packets host message
    → (xid : ℕ) (r : Reply) (ticket : Ticket) → message ≡ reply xid r → c.ticket ≡ Some ticket → xid ≡ ticket.xid → inc_of r ≡ c.who.inc
    → reply_counts r ticket ≡ true → Replies (host_row (run head events).server.kept host) (run head events).packets c ticket r
replies-known most head events b within host c is message told xid r ticket eq has same inc counts =
    let w : World = run head events in
    let a = (run-holds head events).clients host c is in
    let answered = run-answered most head events b within host c is in
    let known = (run-runs most head events b within).known.clients host c is in
    record {
      has = has;
      fits = (a.alone.asking.ticketed ticket has).fits;
      counts = counts;
      tells =
          λ n sq. answered.replies xid r (subst (λ m. Told w.packets c.who.host m) eq (subst (λ n. Told w.packets n message) (sym a.here) told)) inc
          ticket has (sym same) n sq;
      latest = λ n sq. answered.latest ticket n has sq;
      seqs = (run-draws head events).clients host c is;
      opens =
          λ v q o one. is-under-way v q o one
          ((known.lined).settled (o.kept ∙ ap (λ z. z.inc) one) o.xid (Request.Write v o.seq q.file q.block q.first q.last (Some o.base) q.body) v o.seq
          o.asked refl (ap (λ z. z.inc) one) refl);
    }
  where
    line : HostRow
    line = host_row (run head events).server.kept host

    is-under-way : (v : Who) (q : Push) (o : IsOpenPush line (run head events).packets c.who.host v q) → v ≡ c.who
        → IsSettled c.ticket line.seq o.xid o.seq → push_in ticket.request ≡ Some q
    is-under-way v q o one (inl below) = let up = o.above in absurd (omega arith)
    is-under-way v q o one (inr u) =
        let a = (run-holds head events).clients host c is in
        let same : u.0 ≡ ticket = some-same u.0 ticket (sym u.1 ∙ has) in
        let asks : u.0.request ≡ Request.Write v o.seq q.file q.block q.first q.last (Some o.base)
        q.body = (a.mail.asked o.xid (Request.Write v o.seq q.file q.block q.first q.last (Some o.base) q.body) v o.asked refl).same
        (ap (λ z. z.inc) one) u.0 u.1 u.2 in
        ap (λ z. push_in z.request) (sym same) ∙ ap push_in asks

pub hear-same : (w : World) (host : ℕ) (c : Client) (k : ℕ) (m : Message) (t : ClientStep) → hear c k m ≡ Some t → Told w.packets host m
    → IsAt host c w.packets → t.client.who ≡ c.who
hear-same w host c k m t hears told a = (subst (StillIf c) hears (hear-still host c w.packets k m told a)).same

writes-keeps : (most : ℕ) (head : Head) → Keeps most head Writes
writes-keeps most head = record {
  starts = λ b. begins-writes head;
  called =
      λ events host c op during is h. stepped head events host c (client_call c op) is
      (call-still host c (run head events).packets op ((run-holds head events).clients host c is)).same (mid-call-step c op) h;
  ticked =
      λ events host c during is h. stepped head events host c (client_tick c (c.now + 1)) is
      (tick-still host c (run head events).packets ((run-holds head events).clients host c is)).same
      (mid-tick-step c (c.now + 1) (λ ticket has. (((run-holds head events).clients host c is).mail.own ticket has).sent)) h;
  restarted =
      λ events host c during is h. client-writes (run head events) host (restart c) (run-holds head events)
      (restarted _ host c (run head events).packets (run head events).journal
      ((run-runs most head events during.bounds during.within).known.clients host c is).lined.past ((run-holds head events).clients host c is)
      (h.clients host c is) h.journal) h;
  heard = λ events k p host c t during sent to is hears h.
      let told : Told (run head events).packets host p.message = to-told (run head events).packets p host
      ((run-holds head events).sent p (in-get (run head events).packets k p sent)) to (in-get (run head events).packets k p sent) in
      stepped head events host c t is (hear-same (run head events) host c k p.message t hears told ((run-holds head events).clients host c is))
      (mid-hears c k p.message t hears (replies-known most head events during.bounds during.within host c is p.message told)) h;
  received =
      λ events k p during sent to h. server-writes most head events _ during.bounds during.within
      (received-said (run head events) p (in-get (run head events).packets k p sent) to (run-holds head events))
      (received-tells head.hosts most (run head events) events p (in-get (run head events).packets k p sent) to (run-holds head events)
      (run-runs most head events during.bounds during.within)) h;
  server_ticked =
      λ events during h. server-writes most head events _ during.bounds during.within (tick-said (run head events).packets (run head events).server _)
      (tick-tells (run head events).packets (run head events).server _) h;
  crashed =
      λ events longest during long few h. server-writes most head events _ during.bounds during.within
      (crash-said (run head events).packets (run head events).server longest) (crash-tells (run head events).packets (run head events).server longest) h;
}

pub writes-fit : (most : ℕ) (head : Head) (events : List Event) → KeepsBounds most head events → IsWithinSkew head.hosts most events → Writes (run head events)
writes-fit most head events b within = run-keeps (writes-keeps most head) events b within
