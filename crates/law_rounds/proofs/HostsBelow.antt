-- In every run each packet of a client, and each row, is of a host that is there; so fewer notices than hosts are sent at a time.
use Rattle.std.proofs.Common.{◌≡◌, ◌<◌, ◌⊎◌, ℕ, ◌+◌, ◌==◌, ◌&&◌, Bool, true, false, List, [], ◌∷◌, Option, Some, None, if◌then◌else◌, length, refl}
use Rattle.std.proofs.Common.{sym, ap, subst, ◌∙◌, arith, inl, inr}
use Rattle.std.specs.List.{filter}
use Rattle.std.specs.Option.{option_map}
use Rattle.std.specs.Prelude.{map}
use Rattle.nq_base.specs.declared.Access.{Access}
use Rattle.nq_base.specs.declared.Event.{Event}
use Rattle.nq_base.specs.declared.Party.{Party}
use Rattle.nq_base.specs.declared.Question.{Question}
use Rattle.nq_base.specs.declared.Row.{Row}
use Rattle.nq_base.specs.declared.Tag.{Tag}
use Rattle.nq_base.specs.declared.Want.{Want}
use Rattle.nq_base.specs.declared.Who.{Who}
use Rattle.nq_model.specs.protocol.Ask.{marked, sharing_row, caching_row, shared_again, renewed_row}
use Rattle.nq_model.specs.protocol.Client.{ClientStep}
use Rattle.nq_model.specs.protocol.Decide.{decides, creates, writes_through, stores, stores_recovering, wrote, resizes, removes, puts_off, commits}
use Rattle.nq_model.specs.protocol.Message.{Packet, Datagram, datagram_of}
use Rattle.nq_model.specs.protocol.Profile.{most_hosts}
use Rattle.nq_model.specs.protocol.Server.{Server, ServerStep, after_notices, keeping, keeping_with, with_table, quiet, drops, says}
use Rattle.nq_model.specs.protocol.ServerStep.{access_of, to_read, end_reading, attaches, vacates, vacated_rows, tells_later, serves, leases, receive, tick}
use Rattle.nq_model.specs.protocol.ServerStep.{boot, crash}
use Rattle.nq_model.specs.protocol.Table.{Table, empty_table, after_draw, find_row, is_row_of, put_row, drop_row, same_tag, with_rows}
use Rattle.nq_model.specs.protocol.World.{Head, World, from_host, after_server, after_client, sending_host, first_kept, start, run}
use Rattle.nq_model.specs.laws.RowsStandApart.{HasOneRowEach, StandApart}
use Rattle.nq_model.specs.protocol.ServerAlone.{Coming, datagram, step_for, server_after, first_boot}
use Rattle.walk_steps.proofs.NoticeCounts.{HostedBelow}
use Rattle.walk_steps.proofs.ServerAlone.{rows-stand-apart}
use Rattle.walk_steps.proofs.Members.{in-map}
use Rattle.walk_steps.proofs.Packets.{In, in-append, in-get}
use Rattle.walk_steps.proofs.ServerSays.{IsSaid, said_reply, said_error, said_notice, AllSaid}
use Rattle.walk_steps.proofs.Steps.{Changes, nothing, by_client, by_server, ServerActs, received, ticks, crashes, step-changes}
use Rattle.walk_steps.proofs.Worlds.{run-holds, received-said, tick-said}
use Rattle.walk_steps.proofs.AskCases.{IsGranted, shares_again, begins_sharing, begins_caching, renews_row}
use Rattle.walk_steps.proofs.RowChanges.{mark, find-put, find-marked, none-filtered, of-key}
use Rattle.walk_steps.proofs.Rows.{choice, found-row}
use Rattle.walk_steps.proofs.ServerCases.{server-hears}
use Rattle.walk_steps.proofs.ServerMoves.{tick-moves}
use Rattle.walk_steps.proofs.ServerOutcomes.{IsFrom}
use Rattle.law_rounds.proofs.ClientCount.{client-count}
use Rattle.law_rounds.proofs.ClientSteps.{get-below}

module _ (n : ℕ) where
  -- ---- rows of hosts below a number

  hosted-filter : (q : Row → Bool) (rows : List Row) → HostedBelow n rows → HostedBelow n (filter q rows)
  unfolding HostedBelow
  hosted-filter q rows h file host far = none-filtered (is_row_of file host) q rows (h file host far)

  hosted-marked : (f by : ℕ) (access : Access) (rows : List Row) → HostedBelow n rows → HostedBelow n (marked f by access rows)
  unfolding HostedBelow
  hosted-marked f by access rows h file host far = find-marked file host f by access rows ∙ ap (option_map (mark f by access)) (h file host far)

  hosted-put : (row : Row) (rows : List Row) → row.who.host < n → HostedBelow n rows → HostedBelow n (put_row row rows)
  unfolding HostedBelow
  hosted-put row rows within h file host far = find-put file host row rows ∙ by (is_row_of file host row) refl
    where
      by : (b : Bool) → is_row_of file host row ≡ b → (if b then Some row else find_row file host rows) ≡ None
      by true e = let own = (of-key file host row e).1 in absurd (omega arith)
      by false e = h file host far

  hosted-vacated : (who : Who) (file : ℕ) (tag : Tag) (rows : List Row) (o : Option Row) → HostedBelow n rows
      → HostedBelow n (vacated_rows who file tag rows o)
  hosted-vacated who file tag rows None h = h
  hosted-vacated who file tag rows (Some row) h =
      choice (HostedBelow n) (row.who.inc == who.inc && same_tag row.tag tag) (drop_row file who.host rows) rows (λ e. hosted-filter _ rows h) (λ e. h)

  granted-host : (table : Table) (q : Question) (want : Want) (row : Row) (term : ℕ) → IsGranted table q want row term → q.who.host < n → row.who.host < n
  unfolding sharing_row caching_row shared_again renewed_row
  granted-host table q want row term (shares_again own has quiet alone is t) within =
      let same : row.who.host ≡ own.who.host = ap (λ (r : Row). r.who.host) is in
      let host = (found-row q.file q.who.host table.rows own has).1 in
      omega arith
  granted-host table q want row term (begins_sharing none room shared is t) within =
      let same : row.who.host ≡ q.who.host = ap (λ (r : Row). r.who.host) is in omega arith
  granted-host table q want row term (begins_caching none room alone is t) within =
      let same : row.who.host ≡ q.who.host = ap (λ (r : Row). r.who.host) is in omega arith
  granted-host table q want row term (renews_row own has quiet caching is t) within =
      let same : row.who.host ≡ own.who.host = ap (λ (r : Row). r.who.host) is in
      let host = (found-row q.file q.who.host table.rows own has).1 in
      omega arith

  -- a datagram of a host below the number
  hosted-receive : (s : Server) (sender next : ℕ) (d : Datagram) → ((who : Who) → IsFrom sender who → who.host < n) → HostedBelow n s.table.rows
      → HostedBelow n (receive s sender next d).server.table.rows
  unfolding quiet drops says attaches vacates serves leases tells_later decides creates writes_through stores stores_recovering wrote resizes removes
      puts_off commits after_notices keeping keeping_with with_table with_rows after_draw sharing_row
  hosted-receive s sender next d inside h = server-hears s sender next d (λ t. HostedBelow n t.server.table.rows) (record {
    stays = h;
    dropping = λ reason. h;
    erring = λ m e. h;
    answers_null = λ xid e. h;
    replying = λ xid who r a e by from plain. h;
    attaching = λ xid who e from later. hosted-filter _ s.table.rows h;
    vacating = λ xid who file tag e current. hosted-vacated who file tag s.table.rows (find_row file who.host s.table.rows) h;
    putting_off = λ xid who r f clash e by file asking c. hosted-marked f.id who.host _ s.table.rows h;
    putting_off_waiting = λ xid who r f clash want e by file wants asking c own room. hosted-put _ (marked f.id who.host (access_of (Some want))
        s.table.rows) (inside who asking.current.from) (hosted-marked f.id who.host (access_of (Some want)) s.table.rows h);
    putting_off_by_own = λ xid who r f want own e by file wants asking c o evicting. h;
    reading = λ xid who q block f body e asking there c. h;
    reading_full = λ xid who q block want f body e asking there c own room. h;
    reading_granted = λ xid who q block want f body row term e asking there c g. hosted-put row s.table.rows
        (granted-host s.table (to_read s who f (Some want)) want row term g (inside who asking.current.from)) h;
    leasing_full = λ xid who want f e asking c own room. h;
    leasing = λ xid who want f row term e asking c g. hosted-put row s.table.rows (granted-host s.table (to_read s who f (Some want)) want row term g
        (inside who asking.current.from)) h;
    declining = λ xid who seq r verdict e by sq fresh declined. h;
    putting_off_change = λ xid who seq r f clash e by sq file base changing c. hosted-marked f.id who.host Access.Write s.table.rows h;
    creating = λ xid who seq blocks name e fresh serves can. h;
    writing_through = λ xid who seq block first last body f e changing below c. h;
    storing = λ xid who seq block first last base body f row e changing below can.
        let host = (found-row f.id who.host s.table.rows row can.row_found).1 in
        let in_it = inside who changing.fresh.current.from in
        hosted-put (record row { heard = s.now }) s.table.rows (omega arith) h;
    storing_recovering = λ xid who seq block first final base body f until heard last e fresh recovers found below boot rev. h;
    resizing = λ xid who seq q blocks f e changing can c. h;
    removing = λ xid who seq q f e changing c. hosted-filter _ s.table.rows h;
  })

  hosted-tick : (s : Server) (now : ℕ) → HostedBelow n s.table.rows → HostedBelow n (tick s now).server.table.rows
  unfolding with_rows
  hosted-tick s now h = tick-moves s now (λ kept phase table. HostedBelow n table.rows) (record {
    waits = λ until heard last recovers early. h;
    opening = λ until heard last recovers late. h;
    ends_reading = λ serves. hosted-filter _ s.table.rows h;
    ending_writing = λ row serves due. hosted-filter _ (end_reading now s.table.rows) (hosted-filter _ s.table.rows h);
  })

  hosted-none : HostedBelow n []
  unfolding HostedBelow
  hosted-none file host far = refl

  hosted-crash : (s : Server) (longest : ℕ) → HostedBelow n (crash s longest).server.table.rows
  unfolding crash boot empty_table
  hosted-crash s longest = hosted-none

  -- ---- worlds

  -- each client that sent a packet, and each row, is of a host below the number
  pub record IsLocal (w : World) : Type 0 where
    pub senders : (p : Packet) → In w.packets p → (h : ℕ) → p.sender ≡ Party.Client h → h < n
    pub rows : HostedBelow n w.server.table.rows

  from-server : (ps : List Packet) (p : Packet) (h : ℕ) → IsSaid ps p → p.sender ≡ Party.Client h → ⊥
  from-server ps p h (said_reply host xid a e k) is = let other : Party.Server ≡ Party.Client h = ap (λ (q : Packet). q.sender) (sym e) ∙ is in cc
  from-server ps p h (said_error host xid er e) is = let other : Party.Server ≡ Party.Client h = ap (λ (q : Packet). q.sender) (sym e) ∙ is in cc
  from-server ps p h (said_notice xid row e) is = let other : Party.Server ≡ Party.Client h = ap (λ (q : Packet). q.sender) (sym e) ∙ is in cc

  inside-of : (w : World) (p : Packet) → In w.packets p → IsLocal w → (who : Who) → IsFrom (sending_host p.sender) who → who.host < n
  inside-of w p sent l who from = by p.sender refl
    where
      by : (party : Party) → p.sender ≡ party → who.host < n
      by Party.Server is = let host : who.host ≡ most_hosts = from.host ∙ ap sending_host is in let below = from.possible in absurd (omega arith)
      by (Party.Client h) is = let host : who.host ≡ h = from.host ∙ ap sending_host is in let below = l.senders p sent h is in omega arith

  client-local : (w : World) (host : ℕ) (t : ClientStep) → host < n → IsLocal w → IsLocal (after_client w host t)
  unfolding after_client
  client-local w host t below l = record { senders = λ p i h is. by p h is (in-append w.packets (map (from_host host) t.sends) p i); rows = l.rows }
    where
      by : (p : Packet) (h : ℕ) → p.sender ≡ Party.Client h → In w.packets p ⊎ In (map (from_host host) t.sends) p → h < n
      by p h is (inl old) = l.senders p old h is
      by p h is (inr new) =
          let m = in-map (from_host host) t.sends p new in
          let same : Party.Client host ≡ Party.Client h = ap (λ (q : Packet). q.sender) m.2 ∙ is in
          let one : host ≡ h = cc in
          omega arith

  server-local : (w : World) (t : ServerStep) → AllSaid w.packets t.sends → HostedBelow n t.server.table.rows → IsLocal w → IsLocal (after_server w t)
  unfolding after_server
  server-local w t said rows l = record { senders = λ p i h is. by p h is (in-append w.packets t.sends p i); rows = rows }
    where
      by : (p : Packet) (h : ℕ) → p.sender ≡ Party.Client h → In w.packets p ⊎ In t.sends p → h < n
      by p h is (inl old) = l.senders p old h is
      by p h is (inr new) = absurd (from-server w.packets p h (said p new) is)

crash-said : (ps : List Packet) (s : Server) (longest : ℕ) → AllSaid ps (crash s longest).sends
unfolding crash
crash-said ps s longest p i = absurd i

acted-local : (head : Head) (events : List Event) (t : ServerStep) → ServerActs (run head events) t → IsLocal head.hosts (run head events)
    → IsLocal head.hosts (after_server (run head events) t)
acted-local head events t (received k p sent to is) l =
    let w = run head events in
    let i = in-get w.packets k p sent in
    subst (λ u. IsLocal head.hosts (after_server w u)) (sym is)
    (server-local head.hosts w _ (received-said w p i to (run-holds head events)) (hosted-receive head.hosts w.server (sending_host p.sender)
    (length w.packets) (datagram_of p.message) (inside-of head.hosts w p i l) l.rows) l)
acted-local head events t (ticks is) l =
    let w = run head events in
    subst (λ u. IsLocal head.hosts (after_server w u)) (sym is) (server-local head.hosts w _ (tick-said w.packets w.server (w.server.now + 1))
    (hosted-tick head.hosts w.server (w.server.now + 1) l.rows) l)
acted-local head events t (crashes longest is) l =
    let w = run head events in
    subst (λ u. IsLocal head.hosts (after_server w u)) (sym is) (server-local head.hosts w _ (crash-said w.packets w.server longest)
    (hosted-crash head.hosts w.server longest) l)

changed-local : (head : Head) (events : List Event) (v : World) → Changes (run head events) v → IsLocal head.hosts (run head events) → IsLocal head.hosts v
changed-local head events v (nothing is) l = subst (λ u. IsLocal head.hosts u) (sym is) l
changed-local head events v (by_client host c t at acts to) l =
    let below = get-below (run head events).clients host c at in
    let all = client-count head events in
    subst (λ u. IsLocal head.hosts u) (sym to) (client-local head.hosts (run head events) host t (omega arith) l)
changed-local head events v (by_server t acts to) l = subst (λ u. IsLocal head.hosts u) (sym to) (acted-local head events t acts l)

pub run-local : (head : Head) (events : List Event) → IsLocal head.hosts (run head events)
unfolding start boot empty_table
run-local head [] = record { senders = λ p i h is. absurd i; rows = hosted-none head.hosts }
run-local head (e ∷ events) = changed-local head events (run head (e ∷ events)) (step-changes (run head events) e) (run-local head events)

-- ---- the server of a run is a server alone, so a file and a host have one row at most

record IsAlone (head : Head) (s : Server) : Type 0 where
  came : List Coming
  is : s ≡ server_after (first_boot (first_kept head) head.longest 0) came

alone-acted : (head : Head) (w : World) (t : ServerStep) → ServerActs w t → IsAlone head w.server → IsAlone head t.server
alone-acted head w t (received k p sent to is) a = record {
  came = datagram (sending_host p.sender) (length w.packets) (datagram_of p.message)
      ∷ a.came;
  is = ap (λ (u : ServerStep). u.server) is
      ∙ ap (λ (u : Server). (step_for u (datagram (sending_host p.sender) (length w.packets) (datagram_of p.message))).server) a.is;
}
alone-acted head w t (ticks is) a = record {
  came = Coming.ticks 1 ∷ a.came;
  is = ap (λ (u : ServerStep). u.server) is
      ∙ ap (λ (u : Server). (step_for u (Coming.ticks 1)).server) a.is;
}
alone-acted head w t (crashes longest is) a = record {
  came = Coming.crashes longest ∷ a.came;
  is = ap (λ (u : ServerStep). u.server) is
      ∙ ap (λ (u : Server). (step_for u (Coming.crashes longest)).server) a.is;
}

alone-changed : (head : Head) (w v : World) → Changes w v → IsAlone head w.server → IsAlone head v.server
unfolding after_client after_server
alone-changed head w v (nothing is) a = record { came = a.came; is = ap (λ (u : World). u.server) is ∙ a.is }
alone-changed head w v (by_client host c t at acts to) a = record { came = a.came; is = ap (λ (u : World). u.server) to ∙ a.is }
alone-changed head w v (by_server t acts to) a = let b = alone-acted head w t acts a in record { came = b.came; is = ap (λ (u : World). u.server) to ∙ b.is }

run-alone : (head : Head) (events : List Event) → IsAlone head (run head events).server
unfolding start
run-alone head [] = record { came = []; is = refl }
run-alone head (e ∷ events) = alone-changed head (run head events) (run head (e ∷ events)) (step-changes (run head events) e) (run-alone head events)

-- the rows of each run stand apart
pub stands-apart : (head : Head) (events : List Event) → StandApart (run head events).server
stands-apart head events =
    let a = run-alone head events in
    subst StandApart (sym a.is) (rows-stand-apart (first_kept head) head.longest 0 a.came)

pub one-row-each : (head : Head) (events : List Event) → HasOneRowEach (run head events).server.table.rows
one-row-each head events =
    let a = run-alone head events in
    subst (λ (u : Server). HasOneRowEach u.table.rows) (sym a.is) (rows-stand-apart (first_kept head) head.longest 0 a.came).one_each
