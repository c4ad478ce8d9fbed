-- In every run each store rests on what it must, and what is written or stored is of a block that its file has.
use Rattle.std.proofs.Common.{◌≡◌, ◌≢◌, ◌<◌, ◌≤◌, ℕ, ◌+◌, ◌==◌, Bool, true, false, List, [], ◌∷◌, ◌++◌, Option, Some, None, map, length, refl, sym}
use Rattle.std.proofs.Common.{subst, ap, ◌∙◌, arith, inl, inr}
use Rattle.std.proofs.lemmas.List.{length-map}
use Rattle.std.specs.Prelude.{slice_get}
use Rattle.nq_base.specs.Block.{value_of}
use Rattle.nq_base.specs.declared.Event.{Event}
use Rattle.nq_base.specs.declared.Push.{Push}
use Rattle.nq_base.specs.declared.Request.{Request}
use Rattle.nq_base.specs.declared.Who.{Who}
use Rattle.walk_steps.proofs.ClientCases.{core_of}
use Rattle.walk_steps.proofs.ClientFacts.{push_in}
use Rattle.walk_steps.proofs.ClientMoves.{attached-with-ticket}
use Rattle.law_runs.proofs.RunContents.{lengths-first, run-fits}
use Rattle.nq_model.specs.laws.RevisionsHaveOneContent.{first_length}
use Rattle.nq_model.specs.laws.Contents.{content_at}
use Rattle.law_runs.proofs.AnsweredWorlds.{received-tells, tick-tells, crash-tells}
use Rattle.law_runs.proofs.WorldWrites.{no-attach}
use Rattle.walk_files.proofs.ServerTells.{Moves}
use Rattle.walk_files.proofs.WritesFit.{IsOpenPush, WritesFit, JournalFits}
use Rattle.nq_model.specs.laws.Bounds.{KeepsBounds}
use Rattle.walk_files.proofs.EarlierServer.{Around, earlier-server}
use Rattle.walk_files.proofs.EarlierStores.{Earlier, Goes, goes_on, begins, earlier-own, earlier-other}
use Rattle.walk_files.proofs.Entries.{IsIdle, accesses-idle, rests-idle, IsInsideAt, inside-idle, inside-is, inside-later, throughout-weaker, throughout-idle}
use Rattle.walk_files.proofs.ServerMakes.{Makes, MakesStore, idle, writes, stored, receive-makes, tick-makes, crash-makes}
use Rattle.walk_steps.proofs.Steps.{ClientActs, called, ticked, restarted, heard, ServerActs, received, ticks, crashes, Changes, nothing, by_client}
use Rattle.walk_steps.proofs.Steps.{by_server, run-goes}
use Rattle.walk_files.proofs.HeldContents.{content}
use Rattle.walk_files.proofs.HeldFiles.{RestsOn}
use Rattle.walk_files.proofs.Stores.{StoreFits, Rests}
use Rattle.nq_model.specs.protocol.Client.{Client, ClientStep}
use Rattle.nq_model.specs.protocol.ClientStep.{client_call, client_tick, restart, starts, fresh_client}
use Rattle.nq_model.specs.protocol.Decide.{decides, creates, writes_through, stores, stores_recovering, wrote, resizes, removes, puts_off, commits}
use Rattle.nq_model.specs.laws.Journal.{Throughout, Each}
use Rattle.nq_model.specs.protocol.Kept.{File, blocks_of, find_file, host_row, with_files, with_new_file, with_row}
use Rattle.nq_model.specs.protocol.Message.{Datagram, call, datagram_of, asker}
use Rattle.nq_model.specs.protocol.Server.{Server, ServerStep, quiet, drops, says, keeping, keeping_with, with_table, after_notices, to_host}
use Rattle.nq_model.specs.protocol.ServerStep.{attaches, vacates, tells_later, serves, leases, receive, tick, at_time, opens, ends_writing, fence, crash, boot}
use Rattle.nq_model.specs.protocol.ServerStep.{booted}
use Rattle.nq_model.specs.protocol.Skew.{IsWithinSkew}
use Rattle.nq_model.specs.protocol.World.{Head, World, from_host, after_server, after_client, sending_host, start, run}
use Rattle.walk_steps.proofs.OpenAt.{OneOpenAt}
use Rattle.walk_steps.proofs.OpenRequests.{run-opens}
use Rattle.walk_steps.proofs.Sequences.{asked-before-server}
use Rattle.walk_steps.proofs.WorldSequences.{run-draws}
use Rattle.walk_steps.proofs.RunCases.{During, clients-after}
use Rattle.walk_steps.proofs.Packets.{In, in-get, Asked, call-same}
use Rattle.walk_steps.proofs.ServerSays.{AllSaid}
use Rattle.walk_steps.proofs.HostLine.{LineFits}
use Rattle.walk_steps.proofs.Worlds.{IsAt, Holds, to-server, to-told, received-said, tick-said, crash-said, set-there}
use Rattle.walk_steps.proofs.ServerCases.{server-hears, server-ticks}
use Rattle.walk_files.proofs.Accesses.{call-accesses, tick-accesses, hear-accesses, restart-accesses}
use Rattle.walk_files.proofs.Holders.{KnownOf}
use Rattle.walk_files.proofs.OwnSends.{OwnSends, call-own, tick-own, hear-own}
use Rattle.law_runs.proofs.UndisturbedRuns.{run-still}

-- ---- the next id does not fall

module _ (s : Server) where
  abbrev Grows : ServerStep → Type 0
  Grows t = s.kept.next ≤ t.server.kept.next

  grows-receive : (sender next : ℕ) (d : Datagram) → Grows (receive s sender next d)
  unfolding quiet drops says attaches vacates tells_later serves leases decides creates writes_through stores wrote stores_recovering resizes
      removes puts_off commits keeping keeping_with with_table after_notices with_files with_new_file with_row
  grows-receive sender next d = server-hears s sender next d Grows (record {
    stays = omega arith;
    dropping = λ reason. omega arith;
    erring = λ m e. omega arith;
    answers_null = λ xid e. omega arith;
    replying = λ xid other r reply e by from plain. omega arith;
    attaching = λ xid other e from above. omega arith;
    vacating = λ xid other f tag e current. omega arith;
    putting_off = λ xid other r f clash e by of asking c. omega arith;
    putting_off_waiting = λ xid other r f clash want e by of w asking c own room. omega arith;
    putting_off_by_own = λ xid other r f want own e by of w asking c o evicting. omega arith;
    reading = λ xid other q block f body e asking there c. omega arith;
    reading_full = λ xid other q block want f body e asking there c own room. omega arith;
    reading_granted = λ xid other q block want f body row term e asking there c g. omega arith;
    leasing_full = λ xid other want f e asking c own room. omega arith;
    leasing = λ xid other want f row term e asking c g. omega arith;
    declining = λ xid other seq r verdict e by sq fresh declined. omega arith;
    putting_off_change = λ xid other seq r f clash e by sq changes base changing c. omega arith;
    creating = λ xid other seq blocks name e fresh serves can. omega arith;
    writing_through = λ xid other seq block first last body f e changing within free. omega arith;
    storing = λ xid other seq block first last base body f row e changing within can. omega arith;
    storing_recovering = λ xid other seq block first final base body f until heard last e fresh p found within b r. omega arith;
    resizing = λ xid other seq q blocks f e changing can free. omega arith;
    removing = λ xid other seq q f e changing free. omega arith;
  })

  grows-fence : (o : Option File) → s.kept.next ≤ (fence s.kept o).next
  unfolding with_files
  grows-fence None = omega arith
  grows-fence (Some f) = omega arith

  grows-tick : (now : ℕ) → Grows (tick s now)
  unfolding quiet opens ends_writing at_time keeping_with with_table
  grows-tick now = server-ticks s now Grows (record {
    waits = λ until heard last p goes_on. omega arith;
    opening = λ until heard last p over. omega arith;
    ends_reading = λ p none. omega arith;
    ending_writing = λ due p ends. grows-fence (find_file due.file s.kept.files);
  })

  booted-next : (longest : ℕ) (b : Bool) → (s.kept.opened == 0) ≡ b → (booted s.kept longest).next ≡ s.kept.next
  booted-next longest true is = rw is refl
  booted-next longest false is = rw is refl

  grows-crash : (longest : ℕ) → Grows (crash s longest)
  unfolding crash boot
  grows-crash longest = let same = booted-next longest (s.kept.opened == 0) refl in omega arith

-- ---- what is known of a world

pub record Resting (first : ℕ → ℕ) (w : World) : Type 0 where
  pub stores : Throughout Rests w.journal
  pub inside : Throughout (IsInsideAt first w.server.kept.next) w.journal
  pub earlier : (host : ℕ) (c : Client) → slice_get w.clients host ≡ Some c → Earlier (host_row w.server.kept c.who.host) c w.packets w.journal

renamed : (first after : ℕ → ℕ) (w : World) → ((id : ℕ) → id < w.server.kept.next → after id ≡ first id) → Resting first w → Resting after w
renamed first after w same h = record {
  stores = h.stores;
  inside =
      throughout-weaker (IsInsideAt first w.server.kept.next) (IsInsideAt after w.server.kept.next)
      (inside-later first after w.server.kept.next w.server.kept.next (omega arith) same) w.journal h.inside;
  earlier = h.earlier;
}

-- ---- a client's step

attach-only : (who : Who) (x : ℕ) (r : Request) → In (call 1 (Request.Attach who) ∷ []) (call x r) → push_in r ≡ None
attach-only who x r (inl e) = ap push_in (sym (call-same 1 x (Request.Attach who) r e).1)
attach-only who x r (inr bad) = absurd bad

restart-goes : (c : Client) → Goes c (restart c)
unfolding starts fresh_client
restart-goes c = begins refl (λ x r i. attach-only _ x r i)

own-goes : (c : Client) (t : ClientStep) → OwnSends c.who (core_of t) → Goes c t
own-goes c t own = goes_on own.same (λ x r i. let b = own.sends (call x r) i in ap asker (call-same x b.xid r b.asks b.is).1 ∙ b.by)

module _ (w : World) (held : Holds w) (host : ℕ) (c : Client) (t : ClientStep) (there : slice_get w.clients host ≡ Some c) where
  acts-idle : ClientActs w host c t → Each IsIdle t.entries
  acts-idle (called op is) =
      subst (λ z. Each IsIdle z.entries) (sym is) (accesses-idle c.who (client_call c op) (call-accesses c op (held.clients host c there).alone))
  acts-idle (ticked is) =
      subst (λ z. Each IsIdle z.entries) (sym is)
      (accesses-idle c.who (client_tick c (c.now + 1)) (tick-accesses c (c.now + 1) (held.clients host c there).alone))
  acts-idle (restarted is) = subst (λ z. Each IsIdle z.entries) (sym is) (accesses-idle c.who (restart c) (restart-accesses c c.who))
  acts-idle (heard k p sent to hears) = accesses-idle c.who t (hear-accesses c k p.message t (held.clients host c there).alone hears)

  acts-goes : ClientActs w host c t → Goes c t
  acts-goes (called op is) = subst (Goes c) (sym is) (own-goes c (client_call c op) (call-own c op (held.clients host c there).alone))
  acts-goes (ticked is) = subst (Goes c) (sym is) (own-goes c (client_tick c (c.now + 1)) (tick-own c (held.clients host c there).alone))
  acts-goes (restarted is) = subst (Goes c) (sym is) (restart-goes c)
  acts-goes (heard k p sent to hears) =
      let i = in-get w.packets k p sent in
      let a = held.clients host c there in
      own-goes c t (hear-own c w.packets k p.message t a.alone a.mail
      (subst (λ n. In w.packets (to_host n p.message)) (sym a.here) (to-told w.packets p host (held.sent p i) to i)) hears)

client-rests : (first after : ℕ → ℕ) (w : World) (held : Holds w) (host : ℕ) (c : Client) (t : ClientStep)
    → ((id : ℕ) → id < w.server.kept.next → after id ≡ first id) → slice_get w.clients host ≡ Some c → ClientActs w host c t
    → WritesFit (host_row w.server.kept host) c w.packets w.journal
    → WritesFit (host_row w.server.kept host) t.client (w.packets ++ map (from_host host) t.sends) (t.entries ++ w.journal) → t.client.who.host ≡ host
    → JournalFits (t.entries ++ w.journal) → Resting first w → Resting after (after_client w host t)
unfolding after_client
client-rests first after w held host c t same there acts facts facts_after home journal h = record {
  stores = throughout-idle Rests rests-idle t.entries w.journal quiet h.stores;
  inside = throughout-idle (IsInsideAt after w.server.kept.next) (inside-idle after w.server.kept.next) t.entries w.journal quiet
      (throughout-weaker (IsInsideAt first w.server.kept.next) (IsInsideAt after w.server.kept.next)
      (inside-later first after w.server.kept.next w.server.kept.next (omega arith) same) w.journal h.inside);
  earlier = clients-after (λ n d v. Earlier (host_row v.server.kept d.who.host) d v.packets v.journal) w host t own others;
} where
  quiet : Each IsIdle t.entries
  quiet = acts-idle w held host c t there acts

  here : c.who.host ≡ host
  here = (held.clients host c there).here

  own : Earlier (host_row w.server.kept t.client.who.host) t.client (w.packets ++ map (from_host host) t.sends) (t.entries ++ w.journal)
  own =
      subst (λ n. Earlier (host_row w.server.kept n) t.client (w.packets ++ map (from_host host) t.sends) (t.entries ++ w.journal)) (sym home)
      (subst (λ n. Earlier (host_row w.server.kept host) t.client (w.packets ++ map (from_host n) t.sends) (t.entries ++ w.journal)) here
      (earlier-own (host_row w.server.kept host) c t w.packets w.journal facts h.stores journal.rising quiet
      (subst (λ n. Earlier (host_row w.server.kept n) c w.packets w.journal) here (h.earlier host c there))
      (acts-goes w held host c t there acts) (home ∙ sym here)
      (subst (λ n. WritesFit (host_row w.server.kept host) t.client (w.packets ++ map (from_host n) t.sends) (t.entries ++ w.journal)) (sym here)
      facts_after)))

  others : (other : ℕ) (d : Client) → other ≢ host → slice_get w.clients other ≡ Some d
      → Earlier (host_row w.server.kept d.who.host) d (w.packets ++ map (from_host host) t.sends) (t.entries ++ w.journal)
  others other d apart is =
      earlier-other (host_row w.server.kept d.who.host) d host t.sends t.entries w.packets w.journal
      (λ e. apart (sym (held.clients other d is).here ∙ sym e)) quiet (h.earlier other d is)

-- ---- a run

module _ (most : ℕ) (head : Head)
    (known : (events : List Event) → KeepsBounds most head events → IsWithinSkew head.hosts most events
    → KnownOf head.hosts most (run head events) events) where
  around : (events : List Event) (b : KeepsBounds most head events) (within : IsWithinSkew head.hosts most events) (host : ℕ) (c : Client)
      → slice_get (run head events).clients host ≡ Some c
      → Around (host_row (run head events).server.kept c.who.host) c (run head events).packets (run head events).journal
  around events b within host c is = record {
    facts = facts;
    mail = a.mail;
    above = lined.above;
    settled = lined.settled;
    pushing = λ p push. let u = facts.under_way p push in lined.current (attached-with-ticket a.alone.asking u.request u.asks (no-attach u.request u.job));
    one = subst (λ n. OneOpenAt (host_row w.server.kept n) w.packets n) (sym a.here) ((run-opens most head events b within).one host c is);
  } where
    w : World
    w = run head events

    k : KnownOf head.hosts most w events
    k = known events b within

    a : IsAt host c w.packets
    a = k.holds.clients host c is

    lined : LineFits c.who c.attached c.ticket c.notices (host_row w.server.kept c.who.host) w.packets
    lined = subst (λ n. LineFits c.who c.attached c.ticket c.notices (host_row w.server.kept n) w.packets) (sym a.here) (k.runs.known.clients host c is).lined

    facts : WritesFit (host_row w.server.kept c.who.host) c w.packets w.journal
    facts = subst (λ n. WritesFit (host_row w.server.kept n) c w.packets w.journal) (sym a.here) (k.writes host c is)

  -- ---- a step of the server

  module _ (events : List Event) (b : KeepsBounds most head events) (within : IsWithinSkew head.hosts most events)
      (h : Resting (first_length head events) (run head events)) where
    abbrev w : World
    w = run head events

    abbrev s : Server
    s = (run head events).server

    -- a block that the kept file has
    inside : (f : File) (block : ℕ) → find_file f.id s.kept.files ≡ Some f → block < blocks_of f
        → (f.id < s.kept.next) × (block < length (content w.journal (first_length head events f.id) f.id))
    inside f block found below =
        let k = (run-fits most head events b within).files f.id f found in
        let values : map value_of f.bodies ≡ content w.journal (first_length head events f.id) f.id = k.content
        ∙ ap (content_at w.journal (first_length head events f.id) f.id) k.revision in
        let size : length (content w.journal (first_length head events f.id) f.id) ≡ length f.bodies = ap (λ vs. length vs) (sym values)
        ∙ length-map f.bodies value_of in
        (k.drawn, omega arith)

    -- what a store rests on
    store-rests : (f : File) (who : Who) (block first last : ℕ) (m : MakesStore w.packets s f who block first last) (o : Option Client)
        → slice_get w.clients who.host ≡ o → StoreFits who f.id block first last w.journal
    store-rests f who block first last m None is = absurd ((run-draws head events).lone who.host m.xid _ m.asked is)
    store-rests f who block first last m (Some c) is =
        let k = known events b within in
        let here : c.who.host ≡ who.host = (k.holds.clients who.host c is).here in
        let p : Push = record { file = f.id; block = block; first = first; last = last; body = m.body } in
        let asked : Asked w.packets c.who.host m.xid (Request.Write who m.seq f.id block first last (Some m.base) m.body) = subst
        (λ n. Asked w.packets n m.xid (Request.Write who m.seq f.id block first last (Some m.base) m.body)) (sym here) m.asked in
        let inc : who.inc ≡ (host_row s.kept c.who.host).inc = m.inc ∙ ap (λ n. (host_row s.kept n).inc) (sym here) in
        let above : (host_row s.kept c.who.host).seq < m.seq = subst (λ n. (host_row s.kept n).seq < m.seq) (sym here) m.above in
        let o : IsOpenPush (host_row s.kept c.who.host) w.packets c.who.host who p = record
        { xid = m.xid; seq = m.seq; base = m.base; home = sym here; asked = asked; kept = sym inc; above = above } in
        let facts = (around events b within who.host c is).facts in
        let behind = facts.sent.behind who p o in
        record {
          ordered = behind.ordered;
          clear = facts.sent.clear who p o;
          undisturbed =
              ((run-still most head known events b within).fits who.host c is).sent m.xid who m.seq f.id block first last m.base m.body asked (sym here)
              inc above m.free;
          value = value_of m.body;
          last_there = behind.last_there;
          earlier = (h.earlier who.host c is).sent who p o;
        }

    server-rests : (after : ℕ → ℕ) (t : ServerStep) → ((id : ℕ) → id < s.kept.next → after id ≡ first_length head events id)
        → s.kept.next ≤ t.server.kept.next → AllSaid w.packets t.sends → Moves w.packets s t → Makes w.packets s t.entries
        → Resting after (after_server w t)
    unfolding after_server
    server-rests after t same grows said moves makes = record {
      stores = stores makes;
      inside = insides makes;
      earlier =
          λ host c is. earlier-server s t c w.packets w.journal (λ x r asked. asked-before-server w.packets t.sends said c.who.host x r asked)
          (around events b within host c is) (h.earlier host c is) moves;
    } where
      stores : Makes w.packets s t.entries → Throughout Rests (t.entries ++ w.journal)
      stores (idle quiet) = throughout-idle Rests rests-idle t.entries w.journal quiet h.stores
      stores (writes f who block n v found below is) = subst (λ es. Throughout Rests (es ++ w.journal)) (sym is) (tt, h.stores)
      stores (stored f who block first last now m is) =
          subst (λ es. Throughout Rests (es ++ w.journal)) (sym is) (store-rests f who block first last m (slice_get w.clients who.host) refl, h.stores)

      old : Throughout (IsInsideAt after t.server.kept.next) w.journal
      old =
          throughout-weaker (IsInsideAt (first_length head events) s.kept.next) (IsInsideAt after t.server.kept.next)
          (inside-later (first_length head events) after s.kept.next t.server.kept.next grows same) w.journal h.inside

      now-inside : (f : File) (block : ℕ) → find_file f.id s.kept.files ≡ Some f → block < blocks_of f
          → (f.id < t.server.kept.next) × (block < length (content w.journal (after f.id) f.id))
      now-inside f block found below =
          let k = inside f block found below in
          let drawn = k.0 in
          (omega arith, subst (λ n. block < length (content w.journal n f.id)) (sym (same f.id k.0)) k.1)

      insides : Makes w.packets s t.entries → Throughout (IsInsideAt after t.server.kept.next) (t.entries ++ w.journal)
      insides (idle quiet) = throughout-idle (IsInsideAt after t.server.kept.next) (inside-idle after t.server.kept.next) t.entries w.journal quiet old
      insides (writes f who block n v found below is) =
          subst (λ es. Throughout (IsInsideAt after t.server.kept.next) (es ++ w.journal)) (sym is) (now-inside f block found below, old)
      insides (stored f who block first last now m is) =
          subst (λ es. Throughout (IsInsideAt after t.server.kept.next) (es ++ w.journal)) (sym is) (now-inside f block m.found m.below, old)

    acts-rest : (after : ℕ → ℕ) (t : ServerStep) → ((id : ℕ) → id < s.kept.next → after id ≡ first_length head events id) → ServerActs w t
        → Resting after (after_server w t)
    acts-rest after t same (received k p sent to is) =
        let i = in-get w.packets k p sent in
        let known_now = known events b within in
        subst (λ z. Resting after (after_server w z)) (sym is)
        (server-rests after _ same (grows-receive s (sending_host p.sender) (length w.packets) (datagram_of p.message))
        (received-said w p i to known_now.holds)
        (received-tells head.hosts most w events p i to known_now.holds known_now.runs).moves
        (receive-makes w.packets s (sending_host p.sender) (length w.packets) (datagram_of p.message)
        (λ xid r e. (to-server w.packets p (known_now.holds.sent p i) to i xid r e).0) known_now.runs.served.boots))
    acts-rest after t same (ticks is) =
        subst (λ z. Resting after (after_server w z)) (sym is)
        (server-rests after _ same (grows-tick s (s.now + 1)) (tick-said w.packets s (s.now + 1)) (tick-tells w.packets s (s.now + 1)).moves
        (tick-makes w.packets s (s.now + 1)))
    acts-rest after t same (crashes longest is) =
        subst (λ z. Resting after (after_server w z)) (sym is)
        (server-rests after _ same (grows-crash s longest) (crash-said w.packets s longest) (crash-tells w.packets s longest).moves
        (crash-makes w.packets s longest))

  -- ---- an event

  client-there : (w : World) (host : ℕ) (c : Client) (t : ClientStep) → slice_get w.clients host ≡ Some c
      → slice_get (after_client w host t).clients host ≡ Some t.client
  unfolding after_client
  client-there w host c t is = set-there w.clients host t.client c is

  writes-of : (w : World) (host : ℕ) (t : ClientStep)
      → WritesFit (host_row (after_client w host t).server.kept host) t.client (after_client w host t).packets (after_client w host t).journal
      → WritesFit (host_row w.server.kept host) t.client (w.packets ++ map (from_host host) t.sends) (t.entries ++ w.journal)
  unfolding after_client
  writes-of w host t k = k

  journal-of : (w : World) (host : ℕ) (t : ClientStep) → JournalFits (after_client w host t).journal → JournalFits (t.entries ++ w.journal)
  unfolding after_client
  journal-of w host t k = k

  goes : (e : Event) (events : List Event) → During most head e events → Changes (run head events) (run head (e ∷ events))
      → Resting (first_length head events) (run head events) → Resting (first_length head (e ∷ events)) (run head (e ∷ events))
  goes e events during (nothing is) h =
      subst (Resting (first_length head (e ∷ events))) (sym is)
      (renamed (first_length head events) (first_length head (e ∷ events)) (run head events) (lengths-first head e events).same h)
  goes e events during (by_client host c t there acts is) h =
      let before = known events during.bounds during.within in
      let after : KnownOf head.hosts most (after_client (run head events) host t) (e ∷ events) = subst (λ z. KnownOf head.hosts most z (e ∷ events)) is
      (known (e ∷ events) during.bounds_after during.within_after) in
      let now : slice_get (after_client (run head events) host t).clients host ≡ Some t.client = client-there (run head events) host c t there in
      subst (Resting (first_length head (e ∷ events))) (sym is)
      (client-rests (first_length head events) (first_length head (e ∷ events)) (run head events) before.holds host c t
      (lengths-first head e events).same there acts (before.writes host c there)
      (writes-of (run head events) host t (after.writes host t.client now)) (after.holds.clients host t.client now).here
      (journal-of (run head events) host t after.journal) h)
  goes e events during (by_server t acts is) h =
      subst (Resting (first_length head (e ∷ events))) (sym is)
      (acts-rest events during.bounds during.within h (first_length head (e ∷ events)) t (lengths-first head e events).same acts)

  -- ---- every run

  starts-resting : Resting (first_length head []) (start head)
  unfolding start
  starts-resting = record {
    stores = tt;
    inside = tt;
    earlier = λ host c is. record { sent = λ v p o. absurd o.asked; under_way = λ p push clear n st. absurd st };
  }

  pub run-rests : (events : List Event) → KeepsBounds most head events → IsWithinSkew head.hosts most events
      → Resting (first_length head events) (run head events)
  run-rests = run-goes most head (λ events. Resting (first_length head events) (run head events)) (λ b. starts-resting) goes

  pub rests-on : (events : List Event) → KeepsBounds most head events → IsWithinSkew head.hosts most events
      → RestsOn (first_length head events) (run head events).journal
  rests-on events b within =
      let h = run-rests events b within in
      record {
        rising = (known events b within).journal.rising;
        stores = h.stores;
        inside =
            throughout-weaker (IsInsideAt (first_length head events) (run head events).server.kept.next) _
            (inside-is (first_length head events) (run head events).server.kept.next) (run head events).journal h.inside;
      }
