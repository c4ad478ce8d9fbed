-- In every run within skew chained leases know their files.
use Rattle.std.proofs.Common.{◌≡◌, ◌≢◌, ◌<◌, ◌≤◌, ◌⊎◌, ℕ, ◌+◌, Bool, true, false, ◌==◌, List, [], ◌∷◌, ◌++◌, Option, Some, None, length, refl, sym}
use Rattle.std.proofs.Common.{subst, ap, ◌∙◌, arith, append-nil, inl, inr}
use Rattle.std.specs.Prelude.{slice_get}
use Rattle.nq_base.specs.declared.Event.{Event}
use Rattle.nq_base.specs.declared.Party.{Party}
use Rattle.nq_base.specs.declared.Reply.{Reply}
use Rattle.nq_base.specs.declared.Request.{Request}
use Rattle.nq_base.specs.declared.Row.{Row}
use Rattle.nq_base.specs.declared.Who.{Who}
use Rattle.walk_files.proofs.ChainAfter.{Beforehand, chains-after}
use Rattle.walk_files.proofs.ChainIdle.{IsIdle, idle-fits, waiting-after, start-idle, start-seq, start-who}
use Rattle.walk_files.proofs.ChainTicks.{Silent, tick-silent, tick-move, crash-silent, crash-move}
use Rattle.walk_files.proofs.FilesReceived.{files-received}
use Rattle.walk_files.proofs.PushAfter.{pushes-sends, pushes-running, pushes-after}
use Rattle.walk_files.proofs.RepliesReceived.{replies-received}
use Rattle.walk_files.proofs.RowsReceived.{rows-received, line-received, grows-received}
use Rattle.walk_files.proofs.ServerChains.{RowsMove, LineTo, FilesGrow, FileMove, Claims, NewReply, ChainEffect}
use Rattle.nq_model.specs.laws.ChainedLeasesKnow.{HeldKnow, TakeableKnow, ChainedLeasesKnowTheFile}
use Rattle.walk_files.proofs.ChainClients.{Before, fits-sends, call-fits, tick-fits, heard-fits}
use Rattle.walk_files.proofs.ChainFacts.{line_for, ChainFits, PushFits, PushesFit}
use Rattle.nq_model.specs.laws.Chained.{has_done_write, KnowsFile}
use Rattle.walk_steps.proofs.ClientMoves.{some-same, none-some}
use Rattle.walk_steps.proofs.Runs.{Runs, none-served}
use Rattle.walk_steps.proofs.LeaseIntervals.{run-runs, tick-sends, crash-sends}
use Rattle.walk_steps.proofs.TermsDrawn.{standing-serving}
use Rattle.nq_model.specs.laws.Bounds.{KeepsBounds}
use Rattle.nq_model.specs.protocol.Client.{Client, ClientStep, revision_of, revision_or_zero}
use Rattle.nq_model.specs.protocol.ClientStep.{client_call, client_tick, restart, starts, fresh_client, attached_client, next_incarnation}
use Rattle.nq_model.specs.protocol.Hear.{hear}
use Rattle.nq_model.specs.protocol.Kept.{host_row}
use Rattle.nq_model.specs.protocol.Message.{Message, Packet, reply, asker, Datagram, datagram_of, request}
use Rattle.nq_model.specs.protocol.Server.{serving, Server, ServerStep, standing, to_host}
use Rattle.nq_model.specs.protocol.ServerStep.{receive, tick, crash}
use Rattle.nq_model.specs.protocol.Skew.{IsWithinSkew}
use Rattle.nq_model.specs.protocol.Table.{find_row}
use Rattle.nq_model.specs.protocol.World.{Head, World, after_server, after_client, at_client, after_hearing, sending_host, deliver_to_client, deliver_to}
use Rattle.nq_model.specs.protocol.World.{deliver, start, run}
use Rattle.walk_steps.proofs.Sequences.{Drew, DrewIf, call-draws, tick-draws, restart-draws, hear-draws, asked-before-server}
use Rattle.walk_steps.proofs.WorldSequences.{run-draws}
use Rattle.walk_steps.proofs.RunCases.{During, client_at, Keeps, run-keeps, OfClients, clients-after}
use Rattle.walk_steps.proofs.ClientSteps.{KnowsOf}
use Rattle.walk_steps.proofs.KnownWorlds.{takeable, first-there, first-line}
use Rattle.walk_steps.proofs.Mail.{packets_with, other-asked}
use Rattle.walk_steps.proofs.Packets.{In, in-append, in-get, Asked, Told}
use Rattle.walk_steps.proofs.TagFacts.{IsDrawn}
use Rattle.walk_steps.proofs.Worlds.{Holds, run-holds, received-said, to-told, to-server, first-client, set-there}
use Rattle.walk_steps.proofs.ServerFacts.{IncsFit}
use Rattle.walk_steps.proofs.ServerNumbers.{IdsFitOf, ids-receive, ids-tick, ids-crash}
use Rattle.walk_steps.proofs.ServerTables.{standing-boot}
use Rattle.walk_steps.proofs.LogFits.{fits-start}
use Rattle.walk_steps.proofs.Rows.{found-row, same-number, number-same}
use Rattle.walk_steps.proofs.TableFits.{tag-in-order}
use Rattle.walk_steps.proofs.Tests.{there-is}

-- ---- the numbers of files

ids-keep : (most : ℕ) (head : Head) → Keeps most head (λ w. IdsFitOf w.server)
unfolding after_client after_server
ids-keep most head = record {
  starts = λ b. (fits-start most head b.hosts b.first_long b.first_short).ids;
  called = λ events host c op during is g. g;
  ticked = λ events host c during is g. g;
  restarted = λ events host c during is g. g;
  heard = λ events k p host c t during sent to is hears g. g;
  received =
      λ events k p during sent to g. ids-receive (run head events).server (sending_host p.sender) (length (run head events).packets)
      (datagram_of p.message) g;
  server_ticked = λ events during g. ids-tick (run head events).server ((run head events).server.now + 1) g;
  crashed = λ events longest during long few g. ids-crash (run head events).server longest g;
}

pub run-ids : (most : ℕ) (head : Head) (events : List Event) → KeepsBounds most head events → IsWithinSkew head.hosts most events
    → IdsFitOf (run head events).server
run-ids most head events bounds within = run-keeps (ids-keep most head) events bounds within

-- ---- what is known of a client in a run

-- a client's chains, and the pushes of the kept incarnation of its host
pub record ChainsOf (host : ℕ) (c : Client) (w : World) : Type 0 where
  pub fits : ChainFits w.server c w.packets
  pub pushes : PushesFit w.server host w.packets

module _ (most : ℕ) (head : Head) (events : List Event) (bounds : KeepsBounds most head events) (within : IsWithinSkew head.hosts most events) where
  abbrev w : World
  w = run head events

  runs : Runs head.hosts most w events
  runs = run-runs most head events bounds within

  holds : Holds w
  holds = run-holds head events

  knows-at : (host : ℕ) (c : Client) → slice_get w.clients host ≡ Some c → KnowsOf (line_for w.server.kept c.who) w.server events c w.packets
  knows-at host c is =
      subst (λ n. KnowsOf (host_row w.server.kept n) w.server events c w.packets) (sym (holds.clients host c is).here) (runs.known.clients host c is)

  before-step : (host : ℕ) (c : Client) → slice_get w.clients host ≡ Some c → ChainFits w.server c w.packets → Before w.server events host c w.packets
  before-step host c is fits = record { there = holds.clients host c is; knows = knows-at host c is; fits = fits }

  boots : (standing w.server).boot ≡ w.server.kept.opened
  boots = standing-boot w.server.kept.boot w.server.kept.opened w.server.phase w.server.table runs.served.boots

  both-same : (v u : Who) → v.host ≡ u.host → v.inc ≡ u.inc → v ≡ u
  both-same v u a e = let make : ℕ → ℕ → Who = λ p q. record { host = p; inc = q } in ap (λ p. make p v.inc) a ∙ ap (λ q. make u.host q) e

  row-drawn : (file host : ℕ) (row : Row) → find_row file host (standing w.server).rows ≡ Some row
      → IsDrawn (standing w.server).boot (standing w.server).drawn row.tag
  row-drawn file host row found = let k = runs.served.stood.fits file host row found in inr (k.tag_boot, k.drawn_before)

  since-drawn : (file host : ℕ) (row : Row) → find_row file host (standing w.server).rows ≡ Some row
      → IsDrawn (standing w.server).boot (standing w.server).drawn row.since
  since-drawn file host row found =
      let k = runs.served.stood.fits file host row found in let a = k.in_order in let d = k.drawn_before in inr (k.since_boot, omega arith)

  beforehand : (host : ℕ) (c : Client) → slice_get w.clients host ≡ Some c → c.attached ≡ true → ChainFits w.server c w.packets
      → Beforehand w.packets w.server events c
  beforehand host c is attached fits = record {
    fits = fits;
    knows = knows-at host c is;
    mail = (holds.clients host c is).mail;
    alone = (holds.clients host c is).alone;
    kept = kept;
    boot = boots;
    ids = λ f id found. run-ids most head events bounds within id f found;
    whose = λ file row p found. whose file row p (subst (λ x. find_row file c.who.host x.rows ≡ Some row) (standing-serving w.server p) found);
    ordered = λ file row found.
        let k = runs.served.stood.fits file c.who.host row found in (
          k.since_boot,
          tag-in-order w.server.kept.files (standing w.server).boot (standing w.server).drawn row k,
          row-drawn file c.who.host row found,
          since-drawn file c.who.host row found,
        );
  } where
    kept : (line_for w.server.kept c.who).inc ≡ c.who.inc
    kept = (knows-at host c is).lined.current attached

    whose : (file : ℕ) (row : Row) → w.server.phase ≡ serving → find_row file c.who.host w.server.table.rows ≡ Some row → row.who ≡ c.who
    whose file row p found =
        let k = found-row file c.who.host w.server.table.rows row found in
        let current : (file host : ℕ) (row : Row) → find_row file host w.server.table.rows ≡ Some row
        → row.who.inc ≡ (host_row w.server.kept host).inc = subst (λ q. IncsFit w.server.kept q w.server.table) p runs.served.incs in
        both-same row.who c.who k.1 (current file c.who.host row found ∙ kept)

  -- a host that sent a push is there
  sender-pushes : (sender : ℕ) → OfClients ChainsOf w → PushesFit w.server sender w.packets
  sender-pushes sender g x v n file block first last base body sent here inc waits = step (slice_get w.clients sender) refl
    where
      step : (o : Option Client) → slice_get w.clients sender ≡ o → PushFits (standing w.server) w.server.kept v file base w.packets
      step None e = absurd ((run-draws head events).lone sender x (Request.Write v n file block first last (Some base) body) sent e)
      step (Some c) e = (g sender c e).pushes x v n file block first last base body sent here inc waits

  -- ---- a step of the server

  above-attaches : (host : ℕ) (c : Client) → slice_get w.clients host ≡ Some c → (x : ℕ) (r : Request) (v : Who) → Asked w.packets host x r
      → asker r ≡ Some v → (host_row w.server.kept host).inc < v.inc → r ≡ Request.Attach v
  above-attaches host c is x r v sent by later =
      let at = (holds.clients host c is).here in
      (knows-at host c is).lined.above x r v (subst (λ n. Asked w.packets n x r) (sym at) sent) by
      (subst (λ n. (host_row w.server.kept n).inc < v.inc) (sym at) later)

  -- what a step of the server keeps of a client
  served-chains : (t : ServerStep) (host : ℕ) (c : Client) → slice_get w.clients host ≡ Some c
      → ((x : ℕ) (r : Request) → Asked (w.packets ++ t.sends) host x r → Asked w.packets host x r) → RowsMove w.packets w.server t.server host
      → LineTo w.packets w.server t.server host → FilesGrow w.server t.server
      → (c.attached ≡ true → ChainEffect w.packets w.server t c.who c.ticket c.leases) → ChainsOf host c w → ChainsOf host c (after_server w t)
  unfolding after_server
  served-chains t host c is old rows line grows effect g = record {
    fits = step c.attached refl;
    pushes =
        pushes-after w.packets (w.packets ++ t.sends) w.server t.server host rows line grows.files grows.next grows.opened old
        (above-attaches host c is) (λ file row found. row-drawn file host row found) g.pushes;
  } where
    step : (b : Bool) → c.attached ≡ b → ChainFits t.server c (w.packets ++ t.sends)
    step true e = chains-after w.packets w.server events t c (beforehand host c is e g.fits) (effect e)
    step false e =
        waiting-after w.packets (w.packets ++ t.sends) w.server t.server c (holds.clients host c is).alone e (knows-at host c is).lined g.fits
        (subst (λ n. LineTo w.packets w.server t.server n) (sym (holds.clients host c is).here) line)

  received-chains : (p : Packet) → In w.packets p → p.to ≡ Party.Server → OfClients ChainsOf w → (host : ℕ) (c : Client)
      → slice_get w.clients host ≡ Some c
      → ChainsOf host c (after_server w (receive w.server (sending_host p.sender) (length w.packets) (datagram_of p.message)))
  received-chains p i to g host c is =
      served-chains t host c is (λ x r. asked-before-server w.packets t.sends (received-said w p i to holds) host x r) (rows host) (line host)
      (grows host) (λ attached. effect attached) (g host c is)
    where
      sender : ℕ
      sender = sending_host p.sender

      next : ℕ
      next = length w.packets

      d : Datagram
      d = datagram_of p.message

      t : ServerStep
      t = receive w.server (sending_host p.sender) (length w.packets) (datagram_of p.message)

      was_sent : (x : ℕ) (r : Request) → datagram_of p.message ≡ request x r → Asked w.packets (sending_host p.sender) x r
      was_sent x r e = (to-server w.packets p (holds.sent p i) to i x r e).0

      no_null : (x : ℕ) → datagram_of p.message ≡ request x Request.Null → ⊥
      no_null x e = let some = (to-server w.packets p (holds.sent p i) to i x Request.Null e).1 in absurd (cc)

      rows : (h : ℕ) → RowsMove w.packets w.server (receive w.server (sending_host p.sender) (length w.packets) (datagram_of p.message)).server h
      rows h =
          rows-received w.packets w.server (sending_host p.sender) (length w.packets) (datagram_of p.message) h was_sent runs.served.stood runs.served.lines

      line : (h : ℕ) → LineTo w.packets w.server (receive w.server (sending_host p.sender) (length w.packets) (datagram_of p.message)).server h
      line h =
          line-received w.packets w.server (sending_host p.sender) (length w.packets) (datagram_of p.message) h was_sent runs.served.stood runs.served.lines

      grows : (h : ℕ) → FilesGrow w.server (receive w.server (sending_host p.sender) (length w.packets) (datagram_of p.message)).server
      grows h =
          grows-received w.packets w.server (sending_host p.sender) (length w.packets) (datagram_of p.message) h was_sent runs.served.stood
          runs.served.lines

      effect : c.attached ≡ true → ChainEffect w.packets w.server (receive w.server (sending_host p.sender) (length w.packets) (datagram_of p.message))
          c.who c.ticket c.leases
      effect attached = record {
        rows = rows c.who.host;
        line = line c.who.host;
        files =
            files-received w.packets w.server (sending_host p.sender) (length w.packets) (datagram_of p.message) events c
            (beforehand host c is attached (g host c is).fits) was_sent runs.served.stood runs.served.lines (sender-pushes (sending_host p.sender) g);
        next = (grows host).next;
        opened = (grows host).opened;
        said =
            λ x a told. said x a (in-append w.packets (receive w.server (sending_host p.sender) (length w.packets) (datagram_of p.message)).sends
            (to_host c.who.host (reply x a)) told);
      } where
        said : (x : ℕ) (a : Reply) → Told w.packets c.who.host (reply x a)
            ⊎ Told (receive w.server (sending_host p.sender) (length w.packets) (datagram_of p.message)).sends c.who.host (reply x a)
            → Told w.packets c.who.host (reply x a)
            ⊎ NewReply w.packets w.server (receive w.server (sending_host p.sender) (length w.packets) (datagram_of p.message)).server c.who.host x a
        said x a (inl old) = inl old
        said x a (inr new) =
            inr (replies-received w.packets w.server (sending_host p.sender) (length w.packets) (datagram_of p.message) was_sent no_null
            runs.served.lines c.who.host x a new)

  -- a step that says nothing
  silent-chains : (t : ServerStep) → t.sends ≡ [] → ((h : ℕ) → Silent w.packets w.server t.server h)
      → ((c : Client) → (file : ℕ) → file < w.server.kept.next
      → FileMove w.server t.server c.who c.ticket file (Claims w.packets c.who c.ticket c.leases file)) → OfClients ChainsOf w → (host : ℕ) (c : Client)
      → slice_get w.clients host ≡ Some c → ChainsOf host c (after_server w t)
  silent-chains t none silent moves g host c is = served-chains t host c is
      (λ x r asked. subst (λ qs. Asked qs host x r) nothing asked)
      (silent host).rows (silent host).line (silent host).grows
      (λ attached. record {
        rows = (silent c.who.host).rows;
        line = (silent c.who.host).line;
        files = moves c;
        next = (silent host).grows.next;
        opened = (silent host).grows.opened;
        said = λ x a told. inl (subst (λ qs. Told qs c.who.host (reply x a)) nothing told);
      })
      (g host c is)
    where
      nothing : w.packets ++ t.sends ≡ w.packets
      nothing = ap (λ qs. w.packets ++ qs) none ∙ append-nil w.packets

  -- ---- a step of a client

  client-chains : (e : Event) (host : ℕ) (c : Client) (t : ClientStep) → slice_get w.clients host ≡ Some c
      → ChainFits w.server t.client (packets_with w.packets host t.sends) → Drew host w.packets t
      → Runs head.hosts most (after_client w host t) (e ∷ events) → Holds (after_client w host t) → OfClients ChainsOf w
      → OfClients ChainsOf (after_client w host t)
  unfolding after_client
  client-chains e host c t is fits drew runs' holds' g = clients-after ChainsOf w host t
      (record { fits = fits; pushes = own-pushes ((host_row w.server.kept host).inc == t.client.who.inc) refl })
      (λ other d apart there.
      let k = g other d there in
      record {
        fits = fits-sends w.server d w.packets host t.sends k.fits;
        pushes =
            pushes-sends w.server other w.packets (packets_with w.packets host t.sends)
            (λ x r v asked by inc. other-asked w.packets host other t.sends x r apart asked) k.pushes;
      })
    where
      there : slice_get (after_client w host t).clients host ≡ Some t.client
      there = set-there w.clients host t.client c is

      at : t.client.who.host ≡ host
      at = (holds'.clients host t.client there).here

      knows : KnowsOf (line_for w.server.kept t.client.who) w.server (e ∷ events) t.client (packets_with w.packets host t.sends)
      knows =
          subst (λ n. KnowsOf (host_row w.server.kept n) w.server (e ∷ events) t.client (packets_with w.packets host t.sends)) (sym at)
          (runs'.known.clients host t.client there)

      own-pushes : (b : Bool) → ((host_row w.server.kept host).inc == t.client.who.inc) ≡ b → PushesFit w.server host (packets_with w.packets host t.sends)
      own-pushes true same =
          pushes-running w.server (e ∷ events) host t.client (packets_with w.packets host t.sends) at
          (same-number (host_row w.server.kept host).inc t.client.who.inc same) boots knows (holds'.clients host t.client there).mail fits
      own-pushes false differs =
          pushes-sends w.server host w.packets (packets_with w.packets host t.sends) (λ x r v asked by inc. drew.own x r v asked by (below v inc))
          (g host c is).pushes
        where
          below : (v : Who) → v.inc ≡ (host_row w.server.kept host).inc → v.inc < t.client.who.inc
          below v inc =
              let past : (host_row w.server.kept host).inc ≤ t.client.who.inc = subst (λ n. (host_row w.server.kept n).inc ≤ t.client.who.inc) at
              knows.lined.past in
              let apart : (host_row w.server.kept host).inc ≢ t.client.who.inc = λ y.
              let yes : ((host_row w.server.kept host).inc == t.client.who.inc) ≡ true = number-same (host_row w.server.kept host).inc
              t.client.who.inc y in absurd (cc) in
              less v.inc (host_row w.server.kept host).inc t.client.who.inc inc past apart
            where
              less : (a b c : ℕ) → a ≡ b → b ≤ c → b ≢ c → a < c
              less a b c x y z = grind arith

-- ---- all runs

-- what is known after an event is known of the world that it makes
module _ (most : ℕ) (head : Head) (e : Event) (events : List Event) (during : During most head e events) where
  abbrev before : World
  before = run head events

  after-runs : (v : World) → v ≡ run head (e ∷ events) → Runs head.hosts most v (e ∷ events)
  after-runs v is = subst (λ z. Runs head.hosts most z (e ∷ events)) (sym is) (run-runs most head (e ∷ events) during.bounds_after during.within_after)

  after-holds : (v : World) → v ≡ run head (e ∷ events) → Holds v
  after-holds v is = subst Holds (sym is) (run-holds head (e ∷ events))

  made-chains : (host : ℕ) (c : Client) (t : ClientStep) → after_client before host t ≡ run head (e ∷ events) → slice_get before.clients host ≡ Some c
      → ChainFits before.server t.client (packets_with before.packets host t.sends) → Drew host before.packets t → OfClients ChainsOf before
      → OfClients ChainsOf (after_client before host t)
  made-chains host c t made is fits drew g =
      client-chains most head events during.bounds during.within e host c t is fits drew (after-runs (after_client before host t) made)
      (after-holds (after_client before host t) made) g

heard-made : (head : Head) (events : List Event) (k : ℕ) (p : Packet) (host : ℕ) (c : Client) (t : ClientStep)
    → slice_get (run head events).packets k ≡ Some p → p.to ≡ Party.Client host → client_at head events host ≡ Some c → hear c k p.message ≡ Some t
    → after_client (run head events) host t ≡ run head (Event.Deliver k ∷ events)
heard-made head events k p host c t sent to is hears =
    let w : World = run head events in
    sym (ap (deliver w k) sent ∙ ap (deliver_to w k p) to ∙ ap (deliver_to_client w k host p.message) is ∙ ap (after_hearing w host) hears)

heard-drew : (host : ℕ) (c : Client) (ps : List Packet) (k : ℕ) (m : Message) (t : ClientStep) (o : Option ClientStep) → o ≡ Some t → DrewIf host ps o
    → Drew host ps t
heard-drew host c ps k m t None is d = none-some t is
heard-drew host c ps k m t (Some u) is d = subst (λ z. Drew host ps z) (some-same u t is) d

-- ---- the start, and restarts

restart-idle : (c : Client) → IsIdle (restart c).client
unfolding starts fresh_client
restart-idle c =
    record { leases = refl; call = refl; dirty = refl; push = refl; asks = λ t e. (next_incarnation c.who, ap (λ z. z.request) (sym (some-same _ t e))) }

restart-seq : (c : Client) → ((restart c).client.seq ≡ 1) × ((restart c).client.who.inc ≡ c.who.inc + 1) × ((restart c).client.who.host ≡ c.who.host)
unfolding starts fresh_client
restart-seq c = (refl, refl, refl)

restart-fits : (s : Server) (c : Client) (ps : List Packet) → (line_for s.kept c.who).inc ≤ c.who.inc → ChainFits s (restart c).client ps
restart-fits s c ps past =
    let k = restart-seq c in
    idle-fits s (restart c).client ps (restart-idle c) (let one = k.0 in omega arith)
    (λ inc. let same : (line_for s.kept (restart c).client.who).inc ≡ (line_for s.kept c.who).inc = ap (λ n. (host_row s.kept n).inc) k.2 in
    let next = k.1 in absurd (omega arith))

start-fits : (s : Server) (who : Who) (term : ℕ) → (line_for s.kept who).seq ≡ 0 → ChainFits s (attached_client who term 0) []
start-fits s who term none =
    let one = start-seq who term in
    idle-fits s (attached_client who term 0) [] (start-idle who term) (omega arith)
    (λ inc. let same = start-who who term in
    let line : (line_for s.kept (attached_client who term 0).who).seq ≡ (line_for s.kept who).seq = ap (λ v. (line_for s.kept v).seq) same in
    omega arith)

start-chains : (head : Head) → OfClients ChainsOf (start head)
unfolding start
start-chains head host c is =
    record {
      fits =
          subst (λ z. ChainFits (start head).server z []) (sym (first-client head.term 0 head.hosts host c is))
          (start-fits (start head).server (record { host = 0 + host; inc = 1 }) head.term
          (ap (λ l. l.seq) (ap (host_row (start head).server.kept) (omega arith) ∙ first-line head host (first-there head.term 0 head.hosts host c is))));
      pushes = λ x w n file block first last base body sent. absurd sent;
    }

chains-keep : (most : ℕ) (head : Head) → Keeps most head (OfClients ChainsOf)
unfolding after_server
chains-keep most head = record {
  starts = λ bounds. start-chains head;
  called = λ events host c op during is g.
      let b = before-step most head events during.bounds during.within host c is (g host c is).fits in
      made-chains most head (Event.Call host op) events during host c (client_call c op)
      (sym (ap (at_client (run head events) host (λ c. client_call c op)) is)) is
      (call-fits (run head events).server events host c (run head events).packets b op)
      (call-draws host c (run head events).packets op b.there ((run-draws head events).clients host c is)) g;
  ticked = λ events host c during is g.
      let b = before-step most head events during.bounds during.within host c is (g host c is).fits in
      made-chains most head (Event.ClientTick host) events during host c (client_tick c (c.now + 1))
      (sym (ap (at_client (run head events) host (λ c. client_tick c (c.now + 1))) is)) is
      (tick-fits (run head events).server events host c (run head events).packets b)
      (tick-draws host c (run head events).packets b.there ((run-draws head events).clients host c is)) g;
  restarted = λ events host c during is g.
      let b = before-step most head events during.bounds during.within host c is (g host c is).fits in
      made-chains most head (Event.Restart host) events during host c (restart c) (sym (ap (at_client (run head events) host restart) is)) is
      (restart-fits (run head events).server c _ b.knows.lined.past)
      (restart-draws host c (run head events).packets b.there ((run-draws head events).clients host c is)) g;
  heard = λ events k p host c t during sent to is hears g.
      let b = before-step most head events during.bounds during.within host c is (g host c is).fits in
      let told : Told (run head events).packets host p.message = to-told (run head events).packets p host
      ((run-holds head events).sent p (in-get (run head events).packets k p sent)) to (in-get (run head events).packets k p sent) in
      made-chains most head (Event.Deliver k) events during host c t (heard-made head events k p host c t sent to is hears) is
      (heard-fits (run head events).server events host c (run head events).packets b k p.message t
      (subst (λ n. Told (run head events).packets n p.message) (sym b.there.here) told) hears)
      (heard-drew host c (run head events).packets k p.message t (hear c k p.message) hears
      (hear-draws host c (run head events).packets k p.message told b.there ((run-draws head events).clients host c is))) g;
  received =
      λ events k p during sent to g host c is. received-chains most head events during.bounds during.within p
      (in-get (run head events).packets k p sent) to g host c is;
  server_ticked = λ events during g.
      let r = run-runs most head events during.bounds during.within in
      let s : Server = (run head events).server in
      silent-chains most head events during.bounds during.within (tick s (s.now + 1)) (tick-sends s (s.now + 1))
      (λ h. tick-silent (run head events).packets s (s.now + 1) h r.served.stood r.served.boots (none-served most s r.served))
      (λ c. tick-move (run head events).packets s (s.now + 1) 0 r.served.stood r.served.boots (none-served most s r.served) c.who c.ticket
      (Claims (run head events).packets c.who c.ticket c.leases)) g;
  crashed = λ events longest during long few g.
      let r = run-runs most head events during.bounds during.within in
      let s : Server = (run head events).server in
      silent-chains most head events during.bounds during.within (crash s longest) (crash-sends s longest)
      (λ h. crash-silent (run head events).packets s longest h r.served.opened)
      (λ c. crash-move s longest c.who c.ticket (Claims (run head events).packets c.who c.ticket c.leases) r.served.opened) g;
}

run-chains : (most : ℕ) (head : Head) (events : List Event) → KeepsBounds most head events → IsWithinSkew head.hosts most events
    → OfClients ChainsOf (run head events)
run-chains most head events bounds within = run-keeps (chains-keep most head) events bounds within

-- in every run, of each client
pub chain-fits : (most : ℕ) (head : Head) (events : List Event) (host : ℕ) (c : Client) → KeepsBounds most head events
    → IsWithinSkew head.hosts most events → slice_get (run head events).clients host ≡ Some c
    → ChainFits (run head events).server c (run head events).packets
chain-fits most head events host c bounds within is = (run-chains most head events bounds within host c is).fits

pub pushes-fit : (most : ℕ) (head : Head) (events : List Event) (host : ℕ) (c : Client) → KeepsBounds most head events
    → IsWithinSkew head.hosts most events → slice_get (run head events).clients host ≡ Some c
    → PushesFit (run head events).server host (run head events).packets
pushes-fit most head events host c bounds within is = (run-chains most head events bounds within host c is).pushes

held-know : (w : World) → OfClients ChainsOf w → ((host : ℕ) (c : Client) → slice_get w.clients host ≡ Some c → c.who.host ≡ host) → HeldKnow w
held-know w h here host c lease row is holds caching chained =
    let f = (h host c is).fits in
    let r = there-is (revision_of lease.file c.revisions) (f.held.known lease.file lease holds) in
    let k = f.held.chained lease.file lease row holds caching chained in
    record {
      revision = r.0;
      known = r.1;
      knows =
          subst (λ n. KnowsFile w.server.kept (host_row w.server.kept n) row.mode lease.mode lease.file r.0.rev lease.blocks
          (has_done_write (host_row w.server.kept n) c.who.inc lease.file c.ticket)) (here host c is)
          (subst (λ o. KnowsFile w.server.kept (host_row w.server.kept c.who.host) row.mode lease.mode lease.file (revision_or_zero o) lease.blocks
          (has_done_write (host_row w.server.kept c.who.host) c.who.inc lease.file c.ticket)) r.1 k);
    }

takeable-know : (w : World) → OfClients ChainsOf w → Holds w → TakeableKnow w
takeable-know w h held host c ticket file g row is takes caching chained =
    let a = held.clients host c is in
    subst (λ n. KnowsFile w.server.kept (host_row w.server.kept n) row.mode g.mode file g.rev g.blocks false) a.here
    (((h host c is).fits.given.fits file g ticket (takeable w host c ticket file g a held takes)).chained row caching chained)

pub chains-know : ChainedLeasesKnowTheFile
chains-know most head events bounds within =
    let chains = run-chains most head events bounds within in
    let held = run-holds head events in
    record { held = held-know (run head events) chains (λ host c is. (held.clients host c is).here); takeable = takeable-know (run head events) chains held }
