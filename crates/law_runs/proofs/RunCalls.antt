-- In every run the journal tells of each client's calls as the client knows them.
use Rattle.std.proofs.Common.{◌≡◌, ◌<◌, ◌≤◌, ◌⊎◌, ℕ, zero, suc, ◌+◌, Bool, true, false, ◌==◌, List, [], ◌∷◌, ◌++◌, Option, Some, None, length, refl}
use Rattle.std.proofs.Common.{sym, subst, ap, ◌∙◌, arith, inl, inr}
use Rattle.std.specs.List.{find}
use Rattle.std.specs.Prelude.{slice_get, unwrap_or, replicate}
use Rattle.nq_base.specs.declared.Call.{Call}
use Rattle.nq_base.specs.declared.Entry.{Entry}
use Rattle.nq_base.specs.declared.Entry.TheVariants.{F, O, X}
use Rattle.nq_base.specs.declared.Event.{Event}
use Rattle.nq_base.specs.declared.HostRow.{HostRow}
use Rattle.nq_base.specs.declared.Party.{Party}
use Rattle.nq_base.specs.declared.Reply.{Reply}
use Rattle.nq_base.specs.declared.Request.{Request}
use Rattle.nq_base.specs.declared.Row.{Row}
use Rattle.walk_files.proofs.CallFacts.{JournalFits, journal-more}
use Rattle.walk_files.proofs.CallsFit.{CallsFitInEveryRun}
use Rattle.walk_files.proofs.CallWorlds.{IsRefused, CallsKnown, client-known}
use Rattle.walk_files.proofs.ClientEvents.{CallsOf, called-does, ticked-does, heard-does, restarted-does}
use Rattle.walk_files.proofs.ClientMoves.{IsBelow}
use Rattle.walk_files.proofs.ServerCalls.{IsStill, line_same, ServerDoes, server-known}
use Rattle.walk_files.proofs.ServerDecides.{received-does}
use Rattle.walk_steps.proofs.ClientMoves.{some-same, none-some}
use Rattle.walk_steps.proofs.Runs.{Runs, none-served}
use Rattle.walk_steps.proofs.LeaseIntervals.{run-runs}
use Rattle.nq_model.specs.laws.Bounds.{KeepsBounds}
use Rattle.nq_model.specs.protocol.Client.{Client, ClientStep}
use Rattle.nq_model.specs.protocol.ClientStep.{client_call, client_tick, restart, next_incarnation, fresh_client, attached_client}
use Rattle.nq_model.specs.protocol.Hear.{hear}
use Rattle.nq_model.specs.protocol.Kept.{Kept, fresh_row, find_file, host_row}
use Rattle.nq_model.specs.protocol.Message.{Packet, reply, datagram_of}
use Rattle.nq_model.specs.protocol.Server.{serving, ServerStep, to_host, quiet, with_table, keeping_with}
use Rattle.nq_model.specs.protocol.ServerStep.{receive, tick, crash, boot, booted, at_time, is_due, end_reading, ends_writing, opens}
use Rattle.nq_model.specs.protocol.Skew.{IsWithinSkew}
use Rattle.nq_model.specs.protocol.Table.{find_row, with_rows}
use Rattle.nq_model.specs.protocol.World.{Head, World, after_server, after_client, sending_host, first_row, start, run}
use Rattle.walk_steps.proofs.OpenAt.{Opens}
use Rattle.walk_steps.proofs.OpenRequests.{run-opens}
use Rattle.walk_steps.proofs.Sequences.{DrewIf, call-draws, tick-draws, restart-draws, hear-draws}
use Rattle.walk_steps.proofs.WorldSequences.{run-draws}
use Rattle.walk_steps.proofs.RunCases.{Keeps, run-keeps}
use Rattle.walk_steps.proofs.Packets.{In, in-get, Asked, Told}
use Rattle.walk_steps.proofs.Worlds.{run-holds, to-server, to-told, received-said, tick-said, crash-said, first-client}
use Rattle.walk_steps.proofs.KeptTags.{own-keys}
use Rattle.walk_steps.proofs.ServerFacts.{IncsFit, fence-lines}
use Rattle.walk_steps.proofs.RowChanges.{HasUniqueKeys, unique-filtered, found-any, found-kept}
use Rattle.walk_steps.proofs.ServerCases.{server-ticks}

module _ (most : ℕ) (head : Head) where
  -- what a run gives
  record Given (events : List Event) : Type 0 where
    runs : Runs head.hosts most (run head events) events
    opened : Opens (run head events)

  given : (events : List Event) → KeepsBounds most head events → IsWithinSkew head.hosts most events → Given events
  given events b s = record { runs = run-runs most head events b s; opened = run-opens most head events b s }

  at-line : (events : List Event) (host : ℕ) (c : Client) → slice_get (run head events).clients host ≡ Some c → c.who.host ≡ host
  at-line events host c is = ((run-holds head events).clients host c is).here

  -- ---- a client's events

  called : (events : List Event) (host : ℕ) (c : Client) → slice_get (run head events).clients host ≡ Some c → (op : Call) → Given events
      → CallsKnown (run head events) → CallsKnown (after_client (run head events) host (client_call c op))
  called events host c is op k g =
      let w = run head events in
      let a = (run-holds head events).clients host c is in
      client-known w events host c (client_call c op) c.who is a.here (omega arith) (run-holds head events) k.runs.known
      (call-draws host c w.packets op a ((run-draws head events).clients host c is))
      (called-does (host_row w.server.kept host) (IsRefused w.packets c.who) (length w.packets) w.journal g.journal c a.alone (g.clients host c is) op) g

  ticked : (events : List Event) (host : ℕ) (c : Client) → slice_get (run head events).clients host ≡ Some c → Given events
      → CallsKnown (run head events) → CallsKnown (after_client (run head events) host (client_tick c (c.now + 1)))
  ticked events host c is k g =
      let w = run head events in
      let a = (run-holds head events).clients host c is in
      client-known w events host c (client_tick c (c.now + 1)) c.who is a.here (omega arith) (run-holds head events) k.runs.known
      (tick-draws host c w.packets a ((run-draws head events).clients host c is))
      (ticked-does (host_row w.server.kept host) (IsRefused w.packets c.who) (length w.packets) w.journal g.journal c a.alone (g.clients host c is)
      (c.now + 1)) g

  restarted : (events : List Event) (host : ℕ) (c : Client) → slice_get (run head events).clients host ≡ Some c → Given events
      → CallsKnown (run head events) → CallsKnown (after_client (run head events) host (restart c))
  restarted events host c is k g =
      let w = run head events in
      let a = (run-holds head events).clients host c is in
      client-known w events host c (restart c) (next_incarnation c.who) is a.here (omega arith) (run-holds head events) k.runs.known
      (restart-draws host c w.packets a ((run-draws head events).clients host c is))
      (restarted-does (host_row w.server.kept host) (IsRefused w.packets c.who) (length w.packets) w.journal g.journal c a.alone (g.clients host c is)
      (IsRefused w.packets (next_incarnation c.who)) (k.runs.known.clients host c is).lined.past) g

  get-below : {A : Type 0} (xs : List A) (k : ℕ) (x : A) → slice_get xs k ≡ Some x → k < length xs
  get-below [] k x e = none-some x e
  get-below (y ∷ xs) zero x e = omega arith
  get-below (y ∷ xs) (suc k) x e = let below = get-below xs k x e in omega arith

  heard : (events : List Event) (k : ℕ) (p : Packet) (host : ℕ) (c : Client) (t : ClientStep) → slice_get (run head events).packets k ≡ Some p
      → p.to ≡ Party.Client host → slice_get (run head events).clients host ≡ Some c → hear c k p.message ≡ Some t → Given events
      → CallsKnown (run head events) → CallsKnown (after_client (run head events) host t)
  heard events k p host c t at to is hears gv g =
      let w = run head events in
      let a = (run-holds head events).clients host c is in
      let sent : In w.packets p = in-get w.packets k p at in
      let told : Told w.packets host p.message = to-told w.packets p host ((run-holds head events).sent p sent) to sent in
      client-known w events host c t c.who is a.here (omega arith) (run-holds head events) gv.runs.known
      (subst (DrewIf host w.packets) hears (hear-draws host c w.packets k p.message told a ((run-draws head events).clients host c is)))
      (heard-does (host_row w.server.kept host) (IsRefused w.packets c.who) (length w.packets) w.journal g.journal c a.alone (g.clients host c is) k
      p.message t (get-below w.packets k p at) hears
      (λ xid status e. (
        status,
        subst (λ n. Told w.packets n (reply xid (Reply.Refused c.who.inc status))) (sym a.here)
            (subst (Told w.packets host) e told),
      ))) g

  -- ---- a server's events

  received : (events : List Event) (k : ℕ) (p : Packet) → slice_get (run head events).packets k ≡ Some p → p.to ≡ Party.Server → Given events
      → CallsKnown (run head events) → CallsKnown
      (after_server (run head events) (receive (run head events).server (sending_host p.sender) (length (run head events).packets) (datagram_of p.message)))
  received events k p at to gv g =
      let w = run head events in
      let held = run-holds head events in
      let sent : In w.packets p = in-get w.packets k p at in
      server-known w events (receive w.server (sending_host p.sender) (length w.packets) (datagram_of p.message)) (received-said w p sent to held) held
      gv.runs.known gv.opened
      (received-does w events held gv.runs.known g (sending_host p.sender) (datagram_of p.message)
      (λ xid r d. (to-server w.packets p (held.sent p sent) to sent xid r d).0) gv.runs.served.lines
      (λ host x r asked. there host x r asked (slice_get w.clients host) refl)) g
    where
      there : (host x : ℕ) (r : Request) → Asked (run head events).packets host x r → (o : Option Client) → slice_get (run head events).clients host ≡ o
          → (c : Client) × (slice_get (run head events).clients host ≡ Some c)
      there host x r asked None e = absurd ((run-draws head events).lone host x r asked e)
      there host x r asked (Some c) e = (c, e)

  -- a step with one entry that is of no client, or none
  silent-does : (w : World) (t : ServerStep) → CallsKnown w → t.sends ≡ [] → ((host : ℕ) → host_row t.server.kept host ≡ host_row w.server.kept host)
      → JournalFits (t.entries ++ w.journal) → ((e : Entry) → In t.entries e → (n : ℕ) → IsBelow n e)
      → ((host : ℕ) (c : Client) → slice_get w.clients host ≡ Some c → (e : Entry) → In t.entries e → IsStill host c e) → ServerDoes w t
  silent-does w t g none same journal below still = record {
    journal = journal;
    below = λ e i. below e i _;
    refuses = λ host x inc status i. absurd (subst (λ ps. In ps (to_host host (reply x (Reply.Refused inc status)))) none i);
    outcome = λ host c is. line_same (same host) (still host c is);
  }

  nothing-does : (w : World) (t : ServerStep) → CallsKnown w → t.sends ≡ [] → t.entries ≡ []
      → ((host : ℕ) → host_row t.server.kept host ≡ host_row w.server.kept host) → ServerDoes w t
  nothing-does w t g none empty same =
      silent-does w t g none same (subst (λ es. JournalFits (es ++ w.journal)) (sym empty) g.journal) (λ e i. absurd (subst (λ es. In es e) empty i))
      (λ host c is e i. absurd (subst (λ es. In es e) empty i))

  one-does : (w : World) (t : ServerStep) (x : Entry) → CallsKnown w → t.sends ≡ [] → t.entries ≡ x ∷ []
      → ((host : ℕ) → host_row t.server.kept host ≡ host_row w.server.kept host) → JournalFits (x ∷ w.journal) → ((n : ℕ) → IsBelow n x)
      → ((host : ℕ) (c : Client) → slice_get w.clients host ≡ Some c → IsStill host c x) → ServerDoes w t
  one-does w t x g none made same journal below still =
      silent-does w t g none same (subst (λ es. JournalFits (es ++ w.journal)) (sym made) journal)
      (λ e i. at (λ z. (n : ℕ) → IsBelow n z) below e (subst (λ es. In es e) made i))
      (λ host c is e i. at (IsStill host c) (still host c is) e (subst (λ es. In es e) made i))
    where
      at : (P : Entry → Type 0) → P x → (e : Entry) → (x ≡ e) ⊎ ⊥ → P e
      at P p e (inl one) = subst P one p
      at P p e (inr bad) = absurd bad

  waits-does : (w : World) (now : ℕ) → CallsKnown w → ServerDoes w (quiet (at_time w.server now))
  unfolding quiet at_time
  waits-does w now g = nothing-does w (quiet (at_time w.server now)) g refl refl (λ host. refl)

  reading-does : (w : World) (now : ℕ) (rows : List Row) → CallsKnown w
      → ServerDoes w (quiet (with_table (at_time w.server now) (with_rows w.server.table rows)))
  unfolding quiet at_time with_table with_rows
  reading-does w now rows g = nothing-does w (quiet (with_table (at_time w.server now) (with_rows w.server.table rows))) g refl refl (λ host. refl)

  opens-does : (w : World) (now until heard_at : ℕ) → CallsKnown w → ServerDoes w (opens (at_time w.server now) until heard_at)
  unfolding opens at_time
  opens-does w now until heard_at g =
      one-does w (opens (at_time w.server now) until heard_at) (O w.server.kept.boot until heard_at now) g refl refl (λ host. refl)
      (journal-more _ w.journal tt tt (λ v n h. h) g.journal) (λ n. tt)
      (λ host c is. record {
        quiet = λ v here. record { no_call = record { call = λ n h. h; answer = λ n h. h }; no_change = record { write = λ n h. h; resize = λ n h. h } };
        bounded = record { past = λ v by. none-some v by; numbers = λ n by. none-some c.who by; writes = λ n by. none-some c.who by };
      })

  ends-does : (events : List Event) (now : ℕ) (row : Row) → (run head events).server.phase ≡ serving
      → find (is_due now) (end_reading now (run head events).server.table.rows) ≡ Some row → Given events → CallsKnown (run head events)
      → ServerDoes (run head events) (ends_writing (at_time (run head events).server now) (end_reading now (run head events).server.table.rows) row)
  unfolding ends_writing at_time keeping_with with_rows
  ends-does events now row p due k g =
      let w = run head events in
      one-does w (ends_writing (at_time w.server now) (end_reading now w.server.table.rows) row) (F row.who row.file row.until row.heard now) g refl
      refl (λ host. fence-lines w.server.kept (find_file row.file w.server.kept.files) host) (journal-more _ w.journal tt tt (λ v n h. h) g.journal)
      (λ n. tt)
      (λ host c is. record {
        quiet = λ v here. record { no_call = record { call = λ n h. h; answer = λ n h. h }; no_change = record { write = λ n h. h; resize = λ n h. h } };
        bounded = record {
          past =
              λ v by here. let one = some-same row.who v by in let below = past host c is (ap (λ z. z.host) one ∙ here) in
              let same : row.who.inc ≡ v.inc = ap (λ z. z.inc) one in omega arith;
          numbers = λ n by of. none-some n of;
          writes = λ n by of. none-some n of;
        };
      })
    where
      keys : HasUniqueKeys (run head events).server.table.rows
      keys = own-keys (run head events).server k.runs.served.stood (none-served most (run head events).server k.runs.served)

      found : find_row row.file row.who.host (run head events).server.table.rows ≡ Some row
      found =
          (found-kept _ row.file row.who.host (run head events).server.table.rows row keys
          (found-any (is_due now) (end_reading now (run head events).server.table.rows) row (unique-filtered _ (run head events).server.table.rows keys)
          due)).0

      current : row.who.inc ≡ (host_row (run head events).server.kept row.who.host).inc
      current = subst (λ q. IncsFit (run head events).server.kept q (run head events).server.table) p k.runs.served.incs row.file row.who.host row found

      past : (host : ℕ) (c : Client) → slice_get (run head events).clients host ≡ Some c → row.who.host ≡ c.who.host → row.who.inc ≤ c.who.inc
      past host c is here =
          let same : row.who.host ≡ host = here ∙ at-line events host c is in
          let below : (host_row (run head events).server.kept row.who.host).inc ≤ c.who.inc = subst
          (λ n. (host_row (run head events).server.kept n).inc ≤ c.who.inc) (sym same) (k.runs.known.clients host c is).lined.past in
          let e = current in
          omega arith

  server-ticked : (events : List Event) → Given events → CallsKnown (run head events)
      → CallsKnown (after_server (run head events) (tick (run head events).server ((run head events).server.now + 1)))
  server-ticked events k g =
      let w = run head events in
      let now : ℕ = w.server.now + 1 in
      server-known w events (tick w.server now) (tick-said w.packets w.server now) (run-holds head events) k.runs.known k.opened
      (server-ticks w.server now (λ t. ServerDoes w t) (record {
        waits = λ until heard_at last p goes_on. waits-does w now g;
        opening = λ until heard_at last p over. opens-does w now until heard_at g;
        ends_reading = λ p none. reading-does w now _ g;
        ending_writing = λ row p due. ends-does events now row p due k g;
      })) g

  booted-line : (kept : Kept) (longest host : ℕ) (b : Bool) → (kept.opened == 0) ≡ b → host_row (booted kept longest) host ≡ host_row kept host
  booted-line kept longest host true e = rw e refl
  booted-line kept longest host false e = rw e refl

  crash-does : (w : World) (longest : ℕ) → CallsKnown w → ServerDoes w (crash w.server longest)
  unfolding crash boot
  crash-does w longest g =
      one-does w (crash w.server longest) (X (w.server.kept.boot + 1) w.server.now (booted w.server.kept longest).longest) g refl refl
      (λ host. booted-line w.server.kept longest host (w.server.kept.opened == 0) refl) (journal-more _ w.journal tt tt (λ v n h. h) g.journal) (λ n. tt)
      (λ host c is. record {
        quiet = λ v here. record { no_call = record { call = λ n h. h; answer = λ n h. h }; no_change = record { write = λ n h. h; resize = λ n h. h } };
        bounded = record { past = λ v by. none-some v by; numbers = λ n by. none-some c.who by; writes = λ n by. none-some c.who by };
      })

  crashed : (events : List Event) (longest : ℕ) → Given events → CallsKnown (run head events)
      → CallsKnown (after_server (run head events) (crash (run head events).server longest))
  crashed events longest k g =
      let w = run head events in
      server-known w events (crash w.server longest) (crash-said w.packets w.server longest) (run-holds head events) k.runs.known k.opened
      (crash-does w longest g) g

  -- ---- the start

  fresh-zero : (m host : ℕ) → (unwrap_or (slice_get (replicate m fresh_row) host) fresh_row).seq ≡ 0
  fresh-zero zero host = refl
  fresh-zero (suc m) zero = refl
  fresh-zero (suc m) (suc host) = fresh-zero m host

  first-zero : (n m host : ℕ) → (unwrap_or (slice_get (replicate n first_row ++ replicate m fresh_row) host) fresh_row).seq ≡ 0
  first-zero zero m host = fresh-zero m host
  first-zero (suc n) m zero = refl
  first-zero (suc n) m (suc host) = first-zero n m host

  start-zero : (host : ℕ) → (host_row (start head).server.kept host).seq ≡ 0
  unfolding start boot
  start-zero host = first-zero head.hosts _ host

  start-of : (line : HostRow) (Refused : ℕ → Type 0) (host term : ℕ) → line.seq ≡ 0
      → CallsOf line Refused (attached_client (record { host = host; inc = 1 }) term 0) []
  unfolding attached_client fresh_client
  start-of line Refused host term none = record {
    calls_fit =
        record {
          past = λ e v i. absurd i;
          numbers = λ e q i. absurd i;
          writes = λ e n i. absurd i;
          under_way = λ u is. none-some u is;
          alone = λ q o.
              absurd o.0;
        };
    pending = record { unwritten = λ u is. none-some u is; unresized = λ u is. none-some u is; put_only = λ u is. none-some u is };
    asks = record { positive = omega arith; line_drawn = λ e. omega arith; ticketed = λ t is. none-some t is; sent = λ x r i. absurd i };
  }

  starts : CallsKnown (start head)
  unfolding start
  starts = record {
    journal = record { placed = tt; spaced = tt; read = λ who q c. absurd c };
    below = tt;
    clients =
        λ host c is. subst (λ z. CallsOf (host_row (start head).server.kept host) (IsRefused [] z.who) z [])
        (sym (first-client head.term 0 head.hosts host c is))
        (start-of (host_row (start head).server.kept host) (IsRefused [] (attached_client (record { host = 0 + host; inc = 1 }) head.term 0).who)
        (0 + host) head.term (start-zero host));
    reads = λ host x r asked. absurd asked;
    ended = λ host c is over x r o. absurd o.asked;
  }

  keeps : Keeps most head CallsKnown
  keeps = record {
    starts = λ b. starts;
    called = λ events host c op during is g. called events host c is op (given events during.bounds during.within) g;
    ticked = λ events host c during is g. ticked events host c is (given events during.bounds during.within) g;
    restarted = λ events host c during is g. restarted events host c is (given events during.bounds during.within) g;
    heard = λ events k p host c t during at to is hears g. heard events k p host c t at to is hears (given events during.bounds during.within) g;
    received = λ events k p during at to g. received events k p at to (given events during.bounds during.within) g;
    server_ticked = λ events during g. server-ticked events (given events during.bounds during.within) g;
    crashed = λ events longest during long few g. crashed events longest (given events during.bounds during.within) g;
  }

-- what is known of all calls, in every run within bounds and within skew
pub calls-known : (most : ℕ) (head : Head) (events : List Event) → KeepsBounds most head events → IsWithinSkew head.hosts most events
    → CallsKnown (run head events)
calls-known most head events bounds within = run-keeps (keeps most head) events bounds within

pub calls-fit : CallsFitInEveryRun
calls-fit most head events bounds within host c is =
    let k = ((calls-known most head events bounds within).clients host c is).calls_fit in
    record { past = k.past; numbers = k.numbers; writes = k.writes; under_way = k.under_way; alone = k.alone }
