-- In every run no lease, no notice, no VACATED and no grant that a client can still take names a later tag than its host's row of the file has.
use Rattle.std.proofs.Common.{◌≡◌, ◌≢◌, ◌≤◌, ◌<◌, ◌⊎◌, ℕ, ◌+◌, ◌==◌, ◌&&◌, ◌||◌, nat_lt, Bool, true, false, suc, List, [], ◌∷◌, Option, Some, None}
use Rattle.std.proofs.Common.{length, refl, sym, subst, ap, ◌∙◌, arith, inl, inr}
use Rattle.std.specs.Prelude.{map, is_some, slice_get, slice_set}
use Rattle.std.proofs.lemmas.Bool.{and_from}
use Rattle.std.proofs.lemmas.Bool.Decides.{nat_tests}
use Rattle.nq_base.specs.declared.Event.{Event}
use Rattle.nq_base.specs.declared.Grant.{Grant}
use Rattle.nq_base.specs.declared.Party.{Party}
use Rattle.nq_base.specs.declared.Reply.{Reply}
use Rattle.nq_base.specs.declared.Request.{Request}
use Rattle.nq_base.specs.declared.Row.{Row}
use Rattle.nq_base.specs.declared.Tag.{Tag}
use Rattle.nq_base.specs.declared.Who.{Who}
use Rattle.nq_model.specs.protocol.Client.{Client, ClientStep, Lease, Ticket, begun, lease_on}
use Rattle.nq_model.specs.protocol.ClientStep.{client_call, client_tick, restart, attached_client, fresh_client}
use Rattle.nq_model.specs.protocol.Hear.{hear, inc_of, cancels, evicted, goes_on, holds_later}
use Rattle.nq_model.specs.laws.LeaseInterval.{grant_in, requested_file}
use Rattle.nq_model.specs.protocol.Message.{Packet, Datagram, call, reply, asker, datagram_of}
use Rattle.nq_model.specs.protocol.Server.{Server, ServerStep, Phase, serving, recovering, standing, standing_in, to_host}
use Rattle.nq_model.specs.protocol.ServerStep.{receive, tick, crash, boot}
use Rattle.nq_model.specs.protocol.Skew.{IsWithinSkew}
use Rattle.nq_model.specs.protocol.Table.{Table, same_who, tag_below, next_tag, find_row, empty_table, with_rows}
use Rattle.nq_model.specs.protocol.World.{Head, World, from_host, after_server, after_client, sending_host, start, run}
use Rattle.nq_model.specs.laws.Bounds.{KeepsBounds}
use Rattle.law_rounds.proofs.HostsBelow.{one-row-each}
use Rattle.law_rounds.proofs.NoticeRows.{notices-mark}
use Rattle.walk_steps.proofs.LeaseIntervals.{run-runs}
use Rattle.walk_steps.proofs.ClientMoves.{some-same, none-some}
use Rattle.walk_steps.proofs.Runs.{Runs, none-served}
use Rattle.walk_steps.proofs.Mail.{old-told, sent-calls, other-asked}
use Rattle.walk_steps.proofs.Packets.{In, in-append, in-get, Asked, Told, told-same, call-same}
use Rattle.walk_steps.proofs.ServerSays.{IsSaid, said_reply, said_error, said_notice}
use Rattle.walk_steps.proofs.Steps.{Changes, nothing, by_client, by_server, ClientActs, called, ticked, restarted, heard, ServerActs, received, ticks}
use Rattle.walk_steps.proofs.Steps.{crashes, run-goes}
use Rattle.walk_steps.proofs.TagFacts.{IsDrawn, TagsFit}
use Rattle.walk_steps.proofs.Worlds.{IsAt, run-holds, get-set-same, get-set-other, first-client, received-said, to-server, to-told}
use Rattle.walk_steps.proofs.Replies.{replies-are}
use Rattle.walk_steps.proofs.RowFacts.{there-or-comes, WasThere, Comes}
use Rattle.walk_steps.proofs.RowsAfter.{rows-are}
use Rattle.walk_steps.proofs.Incarnations.{who-same}
use Rattle.walk_steps.proofs.RowChanges.{HasUniqueKeys, found-kept, unique-filtered}
use Rattle.walk_steps.proofs.Rows.{found-row, same-number, number-same}
use Rattle.walk_steps.proofs.ServerFacts.{IncsFit, AreCurrent}
use Rattle.walk_steps.proofs.ServerMoves.{tick-moves}
use Rattle.walk_steps.proofs.ServerTables.{StandingFits, NoneRecovering}
use Rattle.nq_laws.specs.NoTagIsLater.{NoTagIsLater, RowNoticesAreHeard}
use Rattle.nq_laws.proofs.InLine.{said-no-call}
use Rattle.nq_laws.proofs.TagSteps.{Knows, KnowsOf, Leaves, call-leaves, tick-leaves, hear-leaves, restart-leaves}
use Rattle.nq_laws.proofs.Begin.{silent}

-- ---- tags and rows

-- a tag is no later than that of a host's row of the file, where there is one
abbrev pub NoLater : List Row → (host file : ℕ) → Tag → Type 0
NoLater rows host file tag = (row : Row) → find_row file host rows ≡ Some row → tag_below row.tag tag ≡ false

self-not-below : (a b : Tag) → a ≡ b → tag_below a b ≡ false
self-not-below a b e = by a.boot a.number b.boot b.number (ap (λ (t : Tag). t.boot) e) (ap (λ (t : Tag). t.number) e)
  where
    by : (m i n j : ℕ) → m ≡ n → i ≡ j → (nat_lt m n || (m == n && nat_lt i j)) ≡ false
    by m i n j same also = grind (arith, nat_tests)

next-not-below : (table : Table) (tag : Tag) → IsDrawn table.boot table.drawn tag → tag_below (next_tag table) tag ≡ false
next-not-below table tag is = by table.boot table.drawn tag.boot tag.number is
  where
    by : (b d m i : ℕ) → (m < b) ⊎ ((m ≡ b) × (i ≤ d)) → (nat_lt b m || (b == m && nat_lt (d + 1) i)) ≡ false
    by b d m i (inl below) = grind (arith, nat_tests)
    by b d m i (inr p) = let same = p.0 in let few = p.1 in grind (arith, nat_tests)

-- a file and a host have one row
pub keys-unique : (most : ℕ) (head : Head) (events : List Event) → KeepsBounds most head events → IsWithinSkew head.hosts most events
    → HasUniqueKeys (run head events).server.table.rows
keys-unique most head events bounds within =
    by (run head events).server.phase (run-runs most head events bounds within).served.stood
    (none-served most (run head events).server (run-runs most head events bounds within).served)
  where
    by : (ph : Phase) → StandingFits (run head events).server.kept.files ph (run head events).server.table
        → NoneRecovering ph (run head events).server.table → HasUniqueKeys (run head events).server.table.rows
    by serving fits none = fits.unique
    by (recovering until h last) fits none = subst (λ rows. HasUniqueKeys rows) (sym none) tt

-- a row after a step of the server: it had its tag before, or its tag is drawn now
RowFrom : Server → (file host : ℕ) → Row → Type 0
RowFrom s file host row = ((was : Row) × (find_row file host s.table.rows ≡ Some was) × (row.tag ≡ was.tag)) ⊎
    ((s.phase ≡ serving) × (row.tag ≡ next_tag s.table))

RowsFrom : Server → List Row → Type 0
RowsFrom s rows = (file host : ℕ) (row : Row) → find_row file host rows ≡ Some row → RowFrom s file host row

received-from : (s : Server) (sender next : ℕ) (d : Datagram) → HasUniqueKeys s.table.rows → RowsFrom s (receive s sender next d).server.table.rows
unfolding RowsFrom RowFrom
received-from s sender next d unique file host row found = by (there-or-comes s sender d file host row (rows-are s sender d unique next file host row found))
  where
    by : WasThere s file host row ⊎ Comes s sender d file host row → ((was : Row) × (find_row file host s.table.rows ≡ Some was) × (row.tag ≡ was.tag)) ⊎
        ((s.phase ≡ serving) × (row.tag ≡ next_tag s.table))
    by (inl w) = inl (w.was, w.there, w.same.tag)
    by (inr k) = inr (k.wanted.asking.serves, k.tag)

ticked-from : (s : Server) (now : ℕ) → HasUniqueKeys s.table.rows → RowsFrom s (tick s now).server.table.rows
unfolding RowsFrom RowFrom with_rows
ticked-from s now unique = tick-moves s now
    (λ kept phase table. (file host : ℕ) (row : Row) → find_row file host table.rows ≡ Some row
    → ((was : Row) × (find_row file host s.table.rows ≡ Some was) × (row.tag ≡ was.tag)) ⊎ ((s.phase ≡ serving) × (row.tag ≡ next_tag s.table))) (record {
      waits = λ until h last p goes_on file host row found. inl (row, found, refl);
      opening = λ until h last p over file host row found. inl (row, found, refl);
      ends_reading = λ p file host row found. inl (row, (found-kept _ file host s.table.rows row unique found).0, refl);
      ending_writing = λ r p due file host row found. inl
          (row, (found-kept _ file host s.table.rows row unique (found-kept _ file host _ row (unique-filtered _ s.table.rows unique) found).0).0, refl);
    })

-- ---- worlds

-- what is so of each host
pub record TagsAreNoLater (w : World) (host : ℕ) (c : Client) : Type 0 where
  pub knows : KnowsOf (NoLater w.server.table.rows host) c w.packets
  pub told : (x : ℕ) (v : Who) (file : ℕ) (tag : Tag) → Told w.packets host (call x (Request.Evicted v file tag)) → NoLater w.server.table.rows host file tag
  pub asked : (x : ℕ) (v : Who) (file : ℕ) (tag : Tag) → Asked w.packets host x (Request.Vacated v file tag) → NoLater w.server.table.rows host file tag

abbrev pub AllNoLater : World → Type 0
AllNoLater w = (host : ℕ) (c : Client) → slice_get w.clients host ≡ Some c → TagsAreNoLater w host c

-- a step of a client
client-later : (w : World) (host : ℕ) (c : Client) (t : ClientStep) → slice_get w.clients host ≡ Some c
    → Knows (NoLater w.server.table.rows host) t.client.who t.client.ticket t.client.leases t.client.notices w.packets
    → ((x : ℕ) (v : Who) (file : ℕ) (tag : Tag) → In t.sends (call x (Request.Vacated v file tag)) → NoLater w.server.table.rows host file tag)
    → AllNoLater w → AllNoLater (after_client w host t)
unfolding after_client
client-later w host c t at knows gives all other d there = by (other == host) refl
  where
    more : List Packet
    more = map (from_host host) t.sends

    by : (b : Bool) → (other == host) ≡ b → TagsAreNoLater (after_client w host t) other d
    by true same =
        let one : other ≡ host = same-number other host same in
        let new : d ≡ t.client = get-set-same w.clients host t.client d (subst (λ n. slice_get (slice_set w.clients host t.client) n ≡ Some d) one there) in
        subst (λ n. TagsAreNoLater (after_client w host t) n d) (sym one)
        (subst (λ (x : Client). TagsAreNoLater (after_client w host t) host x) (sym new) (record {
          knows = record {
            leased = knows.leased;
            noticed = knows.noticed;
            given = λ tk has a g file told inc grants on. knows.given tk has a g file
                (old-told w.packets host t.client.who.host t.sends (reply tk.xid a) told) inc grants on;
          };
          told = λ x v file tag i. (all host c at).told x v file tag (old-told w.packets host host t.sends (call x (Request.Evicted v file tag)) i);
          asked = λ x v file tag i. asked x v file tag
              (in-append w.packets (map (from_host host) t.sends) (from_host host (call x (Request.Vacated v file tag))) i);
        }))
      where
        asked : (x : ℕ) (v : Who) (file : ℕ) (tag : Tag) → Asked w.packets host x (Request.Vacated v file tag) ⊎ In (map (from_host host) t.sends)
            (from_host host (call x (Request.Vacated v file tag))) → NoLater w.server.table.rows host file tag
        asked x v file tag (inl old) = (all host c at).asked x v file tag old
        asked x v file tag (inr new) = gives x v file tag (sent-calls host host t.sends x (Request.Vacated v file tag) new)
    by false differs =
        let apart : other ≢ host = λ same. let yes : (other == host) ≡ true = number-same other host same in absurd (cc) in
        let was : slice_get w.clients other ≡ Some d = sym (get-set-other w.clients host other t.client apart) ∙ there in
        let h = all other d was in
        record {
          knows = record {
            leased = h.knows.leased;
            noticed = h.knows.noticed;
            given = λ tk has a g file told inc grants on. h.knows.given tk has a g file
                (old-told w.packets host d.who.host t.sends (reply tk.xid a) told) inc grants on;
          };
          told = λ x v file tag i. h.told x v file tag (old-told w.packets host other t.sends (call x (Request.Evicted v file tag)) i);
          asked = λ x v file tag i. h.asked x v file tag (other-asked w.packets host other t.sends x (Request.Vacated v file tag) apart i);
        }

module _ (most : ℕ) (head : Head) (events : List Event) (bounds : KeepsBounds most head events) (within : IsWithinSkew head.hosts most events)
    (all : AllNoLater (run head events)) where
  runs : Runs head.hosts most (run head events) events
  runs = run-runs most head events bounds within

  unique : HasUniqueKeys (run head events).server.table.rows
  unique = keys-unique most head events bounds within

  at-host : (host : ℕ) (c : Client) → slice_get (run head events).clients host ≡ Some c → IsAt host c (run head events).packets
  at-host host c at = (run-holds head events).clients host c at

  tagged : (host : ℕ) (c : Client) → slice_get (run head events).clients host ≡ Some c
      → TagsFit c.who c.ticket c.leases c.notices (standing (run head events).server).boot (standing (run head events).server).drawn (run head events).packets
  tagged host c at = (runs.known.clients host c at).tagged

  -- a tag that was drawn stays no later
  stays : (rows : List Row) → RowsFrom (run head events).server rows → (host file : ℕ) (tag : Tag)
      → IsDrawn (standing (run head events).server).boot (standing (run head events).server).drawn tag
      → NoLater (run head events).server.table.rows host file tag → NoLater rows host file tag
  unfolding RowsFrom RowFrom
  stays rows from host file tag drawn old row found = by (from file host row found)
    where
      standing_table : Phase → Table
      standing_table ph = standing_in ph (run head events).server.table

      own : (run head events).server.phase ≡ serving → IsDrawn (run head events).server.table.boot (run head events).server.table.drawn tag
      own serves = subst (λ ph. IsDrawn (standing_in ph (run head events).server.table).boot (standing_in ph (run head events).server.table).drawn tag)
          serves drawn

      by : ((was : Row) × (find_row file host (run head events).server.table.rows ≡ Some was) × (row.tag ≡ was.tag)) ⊎
          (((run head events).server.phase ≡ serving) × (row.tag ≡ next_tag (run head events).server.table)) → tag_below row.tag tag ≡ false
      by (inl w) = ap (λ u. tag_below u tag) w.2 ∙ old w.0 w.1
      by (inr k) = ap (λ u. tag_below u tag) k.1 ∙ next-not-below (run head events).server.table tag (own k.0)

  -- a step of the server: what it says names rows as they stand
  server-later : (t : ServerStep) → RowsFrom (run head events).server t.server.table.rows
      → ((host x file : ℕ) (v : Who) (tag : Tag) → In t.sends (to_host host (call x (Request.Evicted v file tag))) → NoLater t.server.table.rows host file tag)
      → ((host x file : ℕ) (v : Who) (tag : Tag) → In t.sends (from_host host (call x (Request.Vacated v file tag))) → ⊥)
      → ((host : ℕ) (c : Client) (tk : Ticket) (a : Reply) (g : Grant) (file : ℕ) → slice_get (run head events).clients host ≡ Some c → c.ticket ≡ Some tk
      → In t.sends (to_host host (reply tk.xid a)) → inc_of a ≡ c.who.inc → grant_in a ≡ Some g → requested_file tk.request ≡ Some file
      → NoLater t.server.table.rows host file g.tag)
      → AllNoLater (after_server (run head events) t)
  unfolding after_server
  server-later t from tells none grants host c at = record {
    knows = record {
      leased = λ file l e. stays t.server.table.rows from host file l.tag ((tagged host c at).held file l e) ((all host c at).knows.leased file l e);
      noticed = λ file n e. stays t.server.table.rows from host file n.tag ((tagged host c at).noticed file n e) ((all host c at).knows.noticed file n e);
      given = λ tk has a g file told inc gives on. given tk has a g file inc gives on (in-append (run head events).packets t.sends _ told);
    };
    told = λ x v file tag i. told x v file tag (in-append (run head events).packets t.sends _ i);
    asked = λ x v file tag i. asked x v file tag (in-append (run head events).packets t.sends _ i);
  }
    where
      here : c.who.host ≡ host
      here = (at-host host c at).here

      given : (tk : Ticket) → c.ticket ≡ Some tk → (a : Reply) (g : Grant) (file : ℕ) → inc_of a ≡ c.who.inc → grant_in a ≡ Some g
          → requested_file tk.request ≡ Some file → Told (run head events).packets c.who.host (reply tk.xid a) ⊎ In t.sends
          (to_host c.who.host (reply tk.xid a)) → NoLater t.server.table.rows host file g.tag
      given tk has a g file inc gives on (inl old) =
          stays t.server.table.rows from host file g.tag ((tagged host c at).grants tk.xid a g old gives)
          ((all host c at).knows.given tk has a g file old inc gives on)
      given tk has a g file inc gives on (inr new) =
          grants host c tk a g file at has (subst (λ h. In t.sends (to_host h (reply tk.xid a))) here new) inc gives on

      told : (x : ℕ) (v : Who) (file : ℕ) (tag : Tag) → Told (run head events).packets host (call x (Request.Evicted v file tag)) ⊎ In t.sends
          (to_host host (call x (Request.Evicted v file tag))) → NoLater t.server.table.rows host file tag
      told x v file tag (inl old) = stays t.server.table.rows from host file tag
          ((tagged host c at).evicts x v file tag (subst (λ h. Told (run head events).packets h (call x (Request.Evicted v file tag))) (sym here) old))
          ((all host c at).told x v file tag old)
      told x v file tag (inr new) = tells host x file v tag new

      asked : (x : ℕ) (v : Who) (file : ℕ) (tag : Tag) → Asked (run head events).packets host x (Request.Vacated v file tag) ⊎ In t.sends
          (from_host host (call x (Request.Vacated v file tag))) → NoLater t.server.table.rows host file tag
      asked x v file tag (inl old) = stays t.server.table.rows from host file tag
          ((tagged host c at).vacates x v file tag (subst (λ h. Asked (run head events).packets h x (Request.Vacated v file tag)) (sym here) old))
          ((all host c at).asked x v file tag old)
      asked x v file tag (inr new) = absurd (none host x file v tag new)

  said-host : (host x file : ℕ) (v : Who) (tag : Tag) → IsSaid (run head events).packets (to_host host (call x (Request.Evicted v file tag))) → v.host ≡ host
  said-host host x file v tag (said_reply h y a e k) = let d = (told-same host h _ _ e).1 in absurd (cc)
  said-host host x file v tag (said_error h y a e) = let d = (told-same host h _ _ e).1 in absurd (cc)
  said-host host x file v tag (said_notice y row e) =
      let d = told-same host row.who.host _ _ e in
      let a = (call-same x y _ _ d.1).1 in
      let one : v ≡ row.who = cc in
      ap (λ (u : Who). u.host) one ∙ sym d.0

  in-index : {A : Type 0} (xs : List A) (x : A) → In xs x → (i : ℕ) × (slice_get xs i ≡ Some x)
  in-index [] x h = absurd h
  in-index (y ∷ xs) x (inl e) = (0, ap Some e)
  in-index (y ∷ xs) x (inr h) = let k = in-index xs x h in (suc k.0, k.1)

  received-later : (k : ℕ) (p : Packet) → slice_get (run head events).packets k ≡ Some p → p.to ≡ Party.Server
      → AllNoLater (after_server (run head events)
      (receive (run head events).server (sending_host p.sender) (length (run head events).packets) (datagram_of p.message)))
  received-later k p sent to =
      let s = (run head events).server in
      let i = in-get (run head events).packets k p sent in
      let is_sent = (run-holds head events).sent p i in
      let said = received-said (run head events) p i to (run-holds head events) in
      server-later (receive (run head events).server (sending_host p.sender) (length (run head events).packets) (datagram_of p.message))
      (received-from s (sending_host p.sender) (length (run head events).packets) (datagram_of p.message) unique)
      (λ host x file v tag new row found.
      let at = in-index (receive (run head events).server (sending_host p.sender) (length (run head events).packets) (datagram_of p.message)).sends _ new in
      let go = notices-mark s (sending_host p.sender) (length (run head events).packets) (datagram_of p.message)
      (one-row-each head events) at.0 host x file v tag at.1 in
      let own = said-host host x file v tag (said _ new) in
      let there : find_row file host (receive (run head events).server (sending_host p.sender) (length (run head events).packets)
      (datagram_of p.message)).server.table.rows ≡ Some go.row =
      subst (λ h. find_row file h (receive (run head events).server (sending_host p.sender) (length (run head events).packets)
      (datagram_of p.message)).server.table.rows ≡ Some go.row) own go.there in
      let same : go.row ≡ row = some-same go.row row (sym there ∙ found) in
      self-not-below row.tag tag (ap (λ (r : Row). r.tag) (sym same) ∙ go.latest))
      (λ host x file v tag new. said-no-call (run head events).packets _ host x (Request.Vacated v file tag) (said _ new) refl)
      (λ host c tk a g file at has new inc gives on row found.
      let r = replies-are s (sending_host p.sender) (length (run head events).packets) (datagram_of p.message) host tk.xid a new in
      let b = r.brings g gives in
      let asked : Asked (run head events).packets (sending_host p.sender) tk.xid r.asks =
      (to-server (run head events).packets p is_sent to i tk.xid r.asks r.is).0 in
      let mine : Asked (run head events).packets c.who.host tk.xid r.asks =
      subst (λ h. Asked (run head events).packets h tk.xid r.asks) (sym r.to ∙ sym (at-host host c at).here) asked in
      let who = ticket-who host c tk a r.asks at has r.inc inc (to-server (run head events).packets p is_sent to i tk.xid r.asks r.is).1 in
      let same : tk.request ≡ r.asks = ((at-host host c at).mail.asked tk.xid r.asks who.0 mine who.1).same who.2 tk has refl in
      let file_is : b.file ≡ file = some-same b.file file (sym b.on ∙ ap requested_file (sym same) ∙ on) in
      let one : b.row ≡ row = some-same b.row row
      (sym b.stands ∙ subst (λ f. find_row f host
      (receive (run head events).server (sending_host p.sender) (length (run head events).packets) (datagram_of p.message)).server.table.rows ≡ Some
      row) (sym file_is) found) in
      self-not-below row.tag g.tag (ap (λ (z : Row). z.tag) (sym one) ∙ b.tag))
    where
      asker-is : (r : Request) → is_some (asker r) ≡ true → (who : Who) × (asker r ≡ Some who)
      asker-is r some = by (asker r) refl some
        where
          by : (o : Option Who) → asker r ≡ o → is_some o ≡ true → (who : Who) × (asker r ≡ Some who)
          by None e bad = let no : false ≡ true = bad in absurd (cc)
          by (Some who) e sure = (who, e)

      ticket-who : (host : ℕ) (c : Client) (tk : Ticket) (a : Reply) (r : Request) → slice_get (run head events).clients host ≡ Some c → c.ticket ≡ Some tk
          → ((who : Who) → asker r ≡ Some who → inc_of a ≡ who.inc) → inc_of a ≡ c.who.inc → is_some (asker r) ≡ true
          → (who : Who) × (asker r ≡ Some who) × (who.inc ≡ c.who.inc)
      ticket-who host c tk a r at has incs inc some = let w = asker-is r some in (w.0, w.1, sym (incs w.0 w.1) ∙ inc)

  none-in : (ps : List Packet) (q : Packet) → ps ≡ [] → In ps q → ⊥
  none-in ps q none i = subst (λ qs. In qs q) none i

  acted-later : (t : ServerStep) → ServerActs (run head events) t → AllNoLater (after_server (run head events) t)
  unfolding crash boot empty_table RowsFrom
  acted-later t (received k p sent to is) = subst (λ u. AllNoLater (after_server (run head events) u)) (sym is) (received-later k p sent to)
  acted-later t (ticks is) =
      let s = (run head events).server in
      let silent = silent s (s.now + 1) in
      subst (λ u. AllNoLater (after_server (run head events) u)) (sym is)
      (server-later (tick s (s.now + 1)) (ticked-from s (s.now + 1) unique)
      (λ host x file v tag i. absurd (none-in (tick s (s.now + 1)).sends (to_host host (call x (Request.Evicted v file tag))) silent i))
      (λ host x file v tag i. none-in (tick s (s.now + 1)).sends (from_host host (call x (Request.Vacated v file tag))) silent i)
      (λ host c tk a g file at has i. absurd (none-in (tick s (s.now + 1)).sends (to_host host (reply tk.xid a)) silent i)))
  acted-later t (crashes longest is) =
      subst (λ u. AllNoLater (after_server (run head events) u)) (sym is)
      (server-later (crash (run head events).server longest) (λ file host row found. none-some row found)
      (λ host x file v tag i. absurd i)
      (λ host x file v tag i. i)
      (λ host c tk a g file at has i. absurd i))

  -- a client that is the same goes on
  goes-on-later : (host : ℕ) (c : Client) (t : ClientStep) → slice_get (run head events).clients host ≡ Some c
      → Leaves (NoLater (run head events).server.table.rows host) (run head events).packets c t → AllNoLater (after_client (run head events) host t)
  goes-on-later host c t at l =
      client-later (run head events) host c t at
      (subst (λ v. Knows (NoLater (run head events).server.table.rows host) v t.client.ticket t.client.leases t.client.notices (run head events).packets)
      (sym l.same) l.knows) l.vacated all

  acts-later : (host : ℕ) (c : Client) (t : ClientStep) → slice_get (run head events).clients host ≡ Some c → ClientActs (run head events) host c t
      → AllNoLater (after_client (run head events) host t)
  acts-later host c t at (called op is) =
      subst (λ u. AllNoLater (after_client (run head events) host u)) (sym is)
      (goes-on-later host c (client_call c op) at
      (call-leaves (NoLater (run head events).server.table.rows host) host c (run head events).packets (at-host host c at) (all host c at).knows op))
  acts-later host c t at (ticked is) =
      subst (λ u. AllNoLater (after_client (run head events) host u)) (sym is)
      (goes-on-later host c (client_tick c (c.now + 1)) at
      (tick-leaves (NoLater (run head events).server.table.rows host) host c (run head events).packets (at-host host c at) (all host c at).knows))
  acts-later host c t at (restarted is) =
      let r = restart-leaves (NoLater (run head events).server.table.rows host) (run head events).packets c in
      subst (λ u. AllNoLater (after_client (run head events) host u)) (sym is)
      (client-later (run head events) host c (restart c) at r.1 (λ x v file tag i. absurd (r.2 x v file tag i)) all)
  acts-later host c t at (heard k p sent to hears) =
      let i = in-get (run head events).packets k p sent in
      let told : Told (run head events).packets host p.message = to-told (run head events).packets p host ((run-holds head events).sent p i) to i in
      goes-on-later host c t at (hear-leaves (NoLater (run head events).server.table.rows host) host c (run head events).packets (at-host host c at)
      (all host c at).knows k p.message t told
      (λ x v file tag is. (all host c at).told x v file tag (subst (λ m. Told (run head events).packets host m) is told)) hears)

  changed-later : (e : Event) → Changes (run head events) (run head (e ∷ events)) → AllNoLater (run head (e ∷ events))
  changed-later e (nothing is) = subst (λ v. AllNoLater v) (sym is) all
  changed-later e (by_client host c t at acts to) = subst (λ v. AllNoLater v) (sym to) (acts-later host c t at acts)
  changed-later e (by_server t acts to) = subst (λ v. AllNoLater v) (sym to) (acted-later t acts)

first-later : (head : Head) → AllNoLater (start head)
unfolding start boot empty_table attached_client fresh_client
first-later head host c at = record {
  knows =
      subst (λ (d : Client). KnowsOf (NoLater [] host) d []) (sym (first-client head.term 0 head.hosts host c at)) (record {
        leased = λ file l e. none-some l e;
        noticed = λ file n e. none-some n e;
        given = λ t e. none-some t e;
      });
  told = λ x v file tag i. absurd i;
  asked = λ x v file tag i. absurd i;
}

-- in every run within skew
pub run-no-later : (most : ℕ) (head : Head) (events : List Event) → KeepsBounds most head events → IsWithinSkew head.hosts most events
    → AllNoLater (run head events)
run-no-later most head events bounds within =
    run-goes most head (λ es. AllNoLater (run head es)) (λ b. first-later head)
    (λ e es during changes all. changed-later most head es during.bounds during.within all e changes) events bounds within

-- so an attached client hears each notice that names its row as it stands, whatever lease it holds
pub row-notice-heard : (most : ℕ) (head : Head) (events : List Event) → KeepsBounds most head events → IsWithinSkew head.hosts most events
    → (host file k xid : ℕ) (c : Client) (row : Row) → (run head events).server.phase ≡ serving → slice_get (run head events).clients host ≡ Some c
    → c.attached ≡ true → find_row file host (run head events).server.table.rows ≡ Some row
    → (row.who ≡ c.who) × (hear c k (call xid (Request.Evicted row.who file row.tag)) ≡ Some (goes_on (evicted (cancels (begun c) file) file row.tag)))
row-notice-heard most head events bounds within host file k xid c row serves at on found =
    let same : same_who row.who c.who ≡ true =
    and_from (row.who.host == c.who.host) (row.who.inc == c.who.inc) (number-same row.who.host c.who.host hosts) (number-same row.who.inc c.who.inc incs) in
    (who-same row.who c.who same, rw (same, no-later) refl)
  where
    here : c.who.host ≡ host
    here = ((run-holds head events).clients host c at).here

    r : Runs head.hosts most (run head events) events
    r = run-runs most head events bounds within

    hosts : row.who.host ≡ c.who.host
    hosts = (found-row file host (run head events).server.table.rows row found).1 ∙ sym here

    incs : row.who.inc ≡ c.who.inc
    incs =
        let current : AreCurrent (run head events).server.kept (run head events).server.table.rows =
        subst (λ ph. IncsFit (run head events).server.kept ph (run head events).server.table) serves r.served.incs in
        current file host row found ∙ (r.known.clients host c at).lined.current on

    no-later : holds_later row.tag (lease_on file c.leases) ≡ false
    no-later = by (lease_on file c.leases) refl
      where
        by : (o : Option Lease) → lease_on file c.leases ≡ o → holds_later row.tag o ≡ false
        by None e = refl
        by (Some l) e = (run-no-later most head events bounds within host c at).knows.leased file l e row found

pub no-tag-is-later : NoTagIsLater
no-tag-is-later most head events bounds within host file c row at found =
    let h = run-no-later most head events bounds within host c at in
    record {
      leased = λ l e. h.knows.leased file l e row found;
      noticed = λ n e. h.knows.noticed file n e row found;
      told = λ k xid who named sent. h.told xid who file named (in-get (run head events).packets k _ sent) row found;
      given_up = λ k xid who named sent. h.asked xid who file named (in-get (run head events).packets k _ sent) row found;
    }

pub row-notices-heard : RowNoticesAreHeard
row-notices-heard most head events bounds within host file k xid c row serves at on found =
    let h = row-notice-heard most head events bounds within host file k xid c row serves at on found in
    (goes_on (evicted (cancels (begun c) file) file row.tag), h.1)
