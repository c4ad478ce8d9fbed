-- In every run a row whose latest tag was named, by a notice or in a VACATED, is to go.
use Rattle.std.proofs.Common.{◌≡◌, ◌≢◌, ◌<◌, ℕ, ◌+◌, ◌==◌, ◌&&◌, nat_lt, Bool, true, false, zero, suc, List, [], ◌∷◌, Option, Some, None}
use Rattle.std.proofs.Common.{if◌then◌else◌, length, refl, sym, ap, subst, ◌∙◌, arith, inl, inr}
use Rattle.std.specs.List.{filter}
use Rattle.std.specs.Prelude.{map, slice_get, slice_set}
use Rattle.nq_base.specs.declared.Access.{Access}
use Rattle.nq_base.specs.declared.Event.{Event}
use Rattle.nq_base.specs.declared.Question.{Question}
use Rattle.nq_base.specs.declared.Request.{Request}
use Rattle.nq_base.specs.declared.Row.{Row}
use Rattle.nq_base.specs.declared.Tag.{Tag}
use Rattle.nq_base.specs.declared.Want.{Want}
use Rattle.nq_base.specs.declared.Who.{Who}
use Rattle.nq_model.specs.protocol.Ask.{marked, sharing_row, caching_row, shared_again, renewed_row}
use Rattle.nq_model.specs.protocol.Client.{Client, ClientStep, Notice, notice_on}
use Rattle.nq_model.specs.protocol.ClientStep.{fresh_client, attached_client}
use Rattle.nq_model.specs.protocol.Message.{Message, Datagram, call, datagram_of}
use Rattle.nq_model.specs.protocol.Server.{Server, ServerStep, Phase, serving, standing, to_host, quiet}
use Rattle.nq_model.specs.protocol.ServerStep.{access_of, to_read, vacated_rows, at_time as at_server_time, opens, ends_writing, receive, tick, boot, crash}
use Rattle.nq_model.specs.protocol.Table.{Table, empty_table, next_tag, find_row, is_row_of, drop_row, put_row, same_tag, with_rows, after_draw}
use Rattle.nq_model.specs.protocol.World.{Head, World, from_host, after_server, after_client, sending_host, start, run}
use Rattle.nq_model.specs.laws.Bounds.{KeepsBounds}
use Rattle.nq_model.specs.laws.RowsStandApart.{HasOneRowEach}
use Rattle.nq_model.specs.protocol.Skew.{IsWithinSkew}
use Rattle.walk_steps.proofs.LeaseIntervals.{run-runs}
use Rattle.walk_steps.proofs.NoticeCounts.{HostedBelow}
use Rattle.walk_steps.proofs.ClientCases.{core_of}
use Rattle.walk_steps.proofs.ClientMoves.{some-same, none-some}
use Rattle.walk_steps.proofs.ClientWalk.{call-keeps, tick-keeps}
use Rattle.walk_steps.proofs.Runs.{Runs}
use Rattle.walk_steps.proofs.Members.{in-filtered, in-map, find-in}
use Rattle.walk_steps.proofs.Packets.{In, in-get, Asked, Told, message-same, told-same, not-both, call-same}
use Rattle.walk_steps.proofs.ServerSays.{IsSaid, said_reply, said_error, said_notice}
use Rattle.walk_steps.proofs.Steps.{Changes, nothing, by_client, by_server, ClientActs, called, ticked, restarted, heard, ServerActs, received, ticks}
use Rattle.walk_steps.proofs.Steps.{crashes, run-goes}
use Rattle.walk_steps.proofs.TagFacts.{IsDrawn}
use Rattle.walk_steps.proofs.Worlds.{run-holds, get-set-same, get-set-other, first-client, received-said, to-told}
use Rattle.walk_steps.proofs.AskCases.{IsGranted, shares_again, begins_sharing, begins_caching, renews_row}
use Rattle.walk_steps.proofs.RowChanges.{mark-is, found-marked, find-put}
use Rattle.walk_steps.proofs.Rows.{choice, same-number, number-same, find-passes}
use Rattle.walk_steps.proofs.ServerCases.{server-ticks}
use Rattle.walk_steps.proofs.ServerMoves.{server-moves, tick-moves}
use Rattle.walk_steps.proofs.Tests.{is-below, is-not-below}
use Rattle.law_rounds.specs.NamedRows.{IsNamed, by_notice, by_vacated, NamedRowsAreToGo}
use Rattle.law_rounds.proofs.ClientCount.{client-count}
use Rattle.law_rounds.proofs.HostsBelow.{run-local, one-row-each}
use Rattle.law_rounds.proofs.NoticeRows.{member-found, notices-mark}
use Rattle.law_rounds.proofs.NamedTags.{Named, NamedNow, Names, NoneGiven, NoneHeard, NoticedNamed, before, begun-names, given, given_now, hear-names}
use Rattle.law_rounds.proofs.NamedTags.{named-later, named-now, names-closed, restart-names, timed-names, told, told_now}

-- ---- what the server does to rows

-- a row that is found was there with its tag, and was no more one to go than now; or its tag is drawn now
data RowFrom (s : Server) (file host : ℕ) (r : Row) : Type 0 where
  kept_row : (was : Row) → find_row file host s.table.rows ≡ Some was → was.tag ≡ r.tag → (was.evicting ≡ true → r.evicting ≡ true) → RowFrom s file host r
  new_row : s.phase ≡ serving → r.tag ≡ next_tag s.table → RowFrom s file host r

RowsFrom : Server → List Row → Type 0
RowsFrom s rows = (file host : ℕ) (r : Row) → find_row file host rows ≡ Some r → RowFrom s file host r

module _ (s : Server) (each : HasOneRowEach s.table.rows) where
  same-rows : RowsFrom s s.table.rows
  unfolding RowsFrom
  same-rows file host r e = kept_row r e refl (λ going. going)

  filtered-rows : (q : Row → Bool) → RowsFrom s (filter q s.table.rows)
  unfolding RowsFrom
  filtered-rows q file host r e =
      let i = in-filtered q s.table.rows r (find-in (is_row_of file host) (filter q s.table.rows) r e) in
      let own = find-passes (is_row_of file host) r (filter q s.table.rows) e in
      kept_row r (member-found file host r s.table.rows own (each file host) i) refl (λ going. going)

  twice-filtered : (p q : Row → Bool) → RowsFrom s (filter p (filter q s.table.rows))
  unfolding RowsFrom
  twice-filtered p q file host r e =
      let i = in-filtered q s.table.rows r (in-filtered p (filter q s.table.rows) r (find-in (is_row_of file host) (filter p (filter q s.table.rows)) r e)) in
      let own = find-passes (is_row_of file host) r (filter p (filter q s.table.rows)) e in
      kept_row r (member-found file host r s.table.rows own (each file host) i) refl (λ going. going)

  marked-rows : (f by : ℕ) (access : Access) → RowsFrom s (marked f by access s.table.rows)
  unfolding RowsFrom
  marked-rows f by access file host r e =
      let m = found-marked f by access file host s.table.rows r e in
      let same = mark-is f by access m.was in
      kept_row m.was m.found (sym (ap (λ (x : Row). x.tag) m.is ∙ same.tag)) (λ going. ap (λ (x : Row). x.evicting) m.is ∙ same.evicts going)

  put-rows : (row : Row) (rows : List Row) → ((file host : ℕ) → is_row_of file host row ≡ true → RowFrom s file host row) → RowsFrom s rows
      → RowsFrom s (put_row row rows)
  unfolding RowsFrom
  put-rows row rows own from file host r e = by (is_row_of file host row) refl (sym (find-put file host row rows) ∙ e)
    where
      by : (b : Bool) → is_row_of file host row ≡ b → (if b then Some row else find_row file host rows) ≡ Some r → RowFrom s file host r
      by true is f = subst (λ x. RowFrom s file host x) (some-same row r f) (own file host is)
      by false is f = from file host r f

  vacated-rows : (who : Who) (file : ℕ) (tag : Tag) (own : Option Row) → RowsFrom s (vacated_rows who file tag s.table.rows own)
  vacated-rows who file tag None = same-rows
  vacated-rows who file tag (Some row) = choice (RowsFrom s) (row.who.inc == who.inc && same_tag row.tag tag) (drop_row file who.host s.table.rows)
      s.table.rows (λ e. filtered-rows _) (λ e. same-rows)

  granted-tag : (q : Question) (want : Want) (row : Row) (term : ℕ) → IsGranted s.table q want row term → row.tag ≡ next_tag s.table
  unfolding shared_again sharing_row caching_row renewed_row
  granted-tag q want row term (shares_again own has quiet alone is t) = ap (λ (r : Row). r.tag) is
  granted-tag q want row term (begins_sharing none room shared is t) = ap (λ (r : Row). r.tag) is
  granted-tag q want row term (begins_caching none room alone is t) = ap (λ (r : Row). r.tag) is
  granted-tag q want row term (renews_row own has quiet caching is t) = ap (λ (r : Row). r.tag) is

  received-rows : (sender next : ℕ) (d : Datagram) → RowsFrom s (receive s sender next d).server.table.rows
  unfolding with_rows after_draw sharing_row
  received-rows sender next d = server-moves s sender next d (λ kept phase table. RowsFrom s table.rows) (record {
    stays = same-rows;
    decided = λ kept phase table who line e f q. q;
    attaching = λ who later. filtered-rows _;
    vacating = λ who file tag current. vacated-rows who file tag _;
    marking = λ file host access serves. marked-rows file host access;
    marking_waiting = λ xid r who f want e wants asking own room. put-rows _ _ (λ file host is. new_row asking.serves refl) (marked-rows f.id who.host
        (access_of (Some want)));
    granting = λ xid r who f want row term e wants asking c g. put-rows row s.table.rows (λ file host is. new_row asking.serves
        (granted-tag (to_read s who f (Some want)) want row term g)) same-rows;
    creating = λ name blocks serves can. same-rows;
    changing = λ who f file serves current found same c. same-rows;
    storing = λ who f file base row serves current found same can. put-rows (record row { heard = s.now }) s.table.rows
        (λ g h is. own_row f.id who.host row can.row_found g h is) same-rows;
    storing_recovering = λ f file until heard last p found same. same-rows;
    removing = λ who f serves current found c. filtered-rows _;
  })
    where
      own_row : (f h : ℕ) (row : Row) → find_row f h s.table.rows ≡ Some row → (file host : ℕ) → is_row_of file host (record row { heard = s.now })
          ≡ true → RowFrom s file host (record row { heard = s.now })
      own_row f h row found file host is =
          let i = find-in (is_row_of f h) s.table.rows row found in
          kept_row row (member-found file host row s.table.rows is (each file host) i) refl (λ going. going)

  ticked-rows : (now : ℕ) → RowsFrom s (tick s now).server.table.rows
  unfolding with_rows
  ticked-rows now = tick-moves s now (λ kept phase table. RowsFrom s table.rows) (record {
    waits = λ until heard last p goes_on. same-rows;
    opening = λ until heard last p over. same-rows;
    ends_reading = λ p. filtered-rows _;
    ending_writing = λ row p due. twice-filtered _ _;
  })

tick-silent : (s : Server) (now : ℕ) → (tick s now).sends ≡ []
unfolding quiet at_server_time opens ends_writing
tick-silent s now = server-ticks s now (λ t. t.sends ≡ []) (record {
  waits = λ until heard last p goes_on. refl;
  opening = λ until heard last p over. refl;
  ends_reading = λ p none. refl;
  ending_writing = λ row p due. refl;
})

-- ---- worlds

record Marks (w : World) : Type 0 where
  rows : (host file : ℕ) (tag : Tag) → Named w.packets host file tag → (row : Row) → find_row file host w.server.table.rows ≡ Some row → row.tag ≡ tag
      → row.evicting ≡ true
  noticed : (host : ℕ) (c : Client) → slice_get w.clients host ≡ Some c → NoticedNamed w.packets host c

-- a client's step names what was named before
client-marks : (w : World) (host : ℕ) (t : ClientStep) → Names w.packets host (core_of t) → Marks w → Marks (after_client w host t)
unfolding after_client NoticedNamed
client-marks w host t names m = record {
  rows = λ h file tag named row found is. m.rows h file tag (old h file tag (named-now w.packets (map (from_host host) t.sends) h file tag named)) row
      found is;
  noticed = λ h c is file n e. named-later w.packets (map (from_host host) t.sends) h file n.tag (case h c (h == host) refl is file n e);
}
  where
    sent : (h x : ℕ) (v : Who) (file : ℕ) (tag : Tag) → (y : Message) × In t.sends y
        × (from_host host y ≡ from_host h (call x (Request.Vacated v file tag))) → Named w.packets h file tag
    sent h x v file tag y =
        let same = message-same host h y.0 (call x (Request.Vacated v file tag)) y.2 in
        subst (λ n. Named w.packets n file tag) same.0 (names.vacated x v file tag (subst (λ z. In t.sends z) same.1 y.1))

    told-none : (h x : ℕ) (v : Who) (file : ℕ) (tag : Tag) → (y : Message) × In t.sends y
        × (from_host host y ≡ to_host h (call x (Request.Evicted v file tag))) → ⊥
    told-none h x v file tag y = not-both host h y.0 (call x (Request.Evicted v file tag)) y.2

    old : (h file : ℕ) (tag : Tag) → NamedNow w.packets (map (from_host host) t.sends) h file tag → Named w.packets h file tag
    old h file tag (before named) = named
    old h file tag (told_now x v i) = absurd (told-none h x v file tag (in-map (from_host host) t.sends _ i))
    old h file tag (given_now x v i) = sent h x v file tag (in-map (from_host host) t.sends _ i)

    case : (h : ℕ) (c : Client) (b : Bool) → (h == host) ≡ b → slice_get (slice_set w.clients host t.client) h ≡ Some c → (file : ℕ) (n : Notice)
        → notice_on file c.notices ≡ Some n → Named w.packets h file n.tag
    case h c true same is file n e =
        let one : h ≡ host = same-number h host same in
        let new : c ≡ t.client = get-set-same w.clients host t.client c (subst (λ k. slice_get (slice_set w.clients host t.client) k ≡ Some c) one is) in
        subst (λ k. Named w.packets k file n.tag) (sym one) (names.noticed file n (subst (λ (d : Client). notice_on file d.notices ≡ Some n) new e))
    case h c false differs is file n e =
        let apart : h ≢ host = λ same. let yes : (h == host) ≡ true = number-same h host same in absurd (cc) in
        m.noticed h c (sym (get-set-other w.clients host h t.client apart) ∙ is) file n e

after-rows : (w : World) (t : ServerStep) (file host : ℕ) (row : Row) → find_row file host t.server.table.rows ≡ Some row
    → find_row file host (after_server w t).server.table.rows ≡ Some row
unfolding after_server
after-rows w t file host row found = found

-- a row is of a host that there is
row-host : (head : Head) (events : List Event) (file host : ℕ) (row : Row) → find_row file host (run head events).server.table.rows ≡ Some row
    → host < head.hosts
unfolding HostedBelow
row-host head events file host row found = by (nat_lt host head.hosts) refl
  where
    by : (b : Bool) → nat_lt host head.hosts ≡ b → host < head.hosts
    by true e = is-below host head.hosts e
    by false e = let none = (run-local head events).rows file host (is-not-below host head.hosts e) in none-some row (sym none ∙ found)

in-index : {A : Type 0} (xs : List A) (x : A) → In xs x → (i : ℕ) × (slice_get xs i ≡ Some x)
in-index [] x h = absurd h
in-index (y ∷ xs) x (inl e) = (0, ap Some e)
in-index (y ∷ xs) x (inr h) = let k = in-index xs x h in (suc k.0, k.1)

get-client : {A : Type 0} (xs : List A) (i : ℕ) → i < length xs → (x : A) × (slice_get xs i ≡ Some x)
get-client [] i below = absurd (omega arith)
get-client (x ∷ xs) zero below = (x, refl)
get-client (x ∷ xs) (suc i) below = get-client xs i (omega arith)

module _ (most : ℕ) (head : Head) (events : List Event) (bounds : KeepsBounds most head events) (within : IsWithinSkew head.hosts most events)
    (m : Marks (run head events)) where
  runs : Runs head.hosts most (run head events) events
  runs = run-runs most head events bounds within

  -- what was named was drawn
  drawn : (host file : ℕ) (tag : Tag) (c : Client) → slice_get (run head events).clients host ≡ Some c → Named (run head events).packets host file tag
      → IsDrawn (standing (run head events).server).boot (standing (run head events).server).drawn tag
  drawn host file tag c at (told x v i) =
      let here = ((run-holds head events).clients host c at).here in
      (runs.known.clients host c at).tagged.evicts x v file tag (subst (λ h. Told (run head events).packets h (call x (Request.Evicted v file tag)))
      (sym here) i)
  drawn host file tag c at (given x v i) =
      let here = ((run-holds head events).clients host c at).here in
      (runs.known.clients host c at).tagged.vacates x v file tag (subst (λ h. Asked (run head events).packets h x (Request.Vacated v file tag)) (sym here) i)

  not-next : (tag : Tag) → (run head events).server.phase ≡ serving → IsDrawn (standing (run head events).server).boot
      (standing (run head events).server).drawn tag → tag ≡ next_tag (run head events).server.table → ⊥
  not-next tag serves is e = by (subst (λ ph. IsDrawn (standing_table ph).boot (standing_table ph).drawn tag) serves is)
    where
      standing_table : Phase → Table
      standing_table ph = standing (record (run head events).server { phase = ph })

      by : IsDrawn (run head events).server.table.boot (run head events).server.table.drawn tag → ⊥
      by (inl below) = let b : tag.boot ≡ (run head events).server.table.boot = ap (λ (t : Tag). t.boot) e in omega arith
      by (inr same) = let n : tag.number ≡ (run head events).server.table.drawn + 1 = ap (λ (t : Tag). t.number) e in let k = same.1 in omega arith

  -- a step of the server, which sends no notice but for rows that are to go then
  server-marks : (t : ServerStep) → RowsFrom (run head events).server t.server.table.rows → ((file host : ℕ) (row : Row)
      → find_row file host t.server.table.rows ≡ Some row → host < head.hosts) → ((x host file : ℕ) (v : Who) (tag : Tag)
      → In t.sends (to_host host (call x (Request.Evicted v file tag))) → (row : Row) → find_row file host t.server.table.rows ≡ Some row
      → row.evicting ≡ true) → ((x host file : ℕ) (v : Who) (tag : Tag) → In t.sends (from_host host (call x (Request.Vacated v file tag))) → ⊥)
      → Marks (after_server (run head events) t)
  unfolding after_server NoticedNamed RowsFrom
  server-marks t from inside goes none = record {
    rows = λ host file tag named row found is. by host file tag row found is (named-now (run head events).packets t.sends host file tag named);
    noticed = λ host c is file n e. named-later (run head events).packets t.sends host file n.tag (m.noticed host c is file n e);
  }
    where
      kept : (host file : ℕ) (tag : Tag) (row : Row) → row.tag ≡ tag → find_row file host t.server.table.rows ≡ Some row
          → Named (run head events).packets host file tag → RowFrom (run head events).server file host row → row.evicting ≡ true
      kept host file tag row is found named (kept_row was at same going) = going (m.rows host file tag named was at (same ∙ is))
      kept host file tag row is found named (new_row serves next) =
          let all = client-count head events in
          let below = inside file host row found in
          let c = get-client (run head events).clients host (omega arith) in
          absurd (not-next tag serves (drawn host file tag c.0 c.1 named) (sym is ∙ next))

      by : (host file : ℕ) (tag : Tag) (row : Row) → find_row file host t.server.table.rows ≡ Some row → row.tag ≡ tag
          → NamedNow (run head events).packets t.sends host file tag → row.evicting ≡ true
      by host file tag row found is (before named) = kept host file tag row is found named (from file host row found)
      by host file tag row found is (told_now x v i) = goes x host file v tag i row found
      by host file tag row found is (given_now x v i) = absurd (none x host file v tag i)

  -- what the server says names a row of the host to which it is sent, and is no VACATED
  said-host : (host x file : ℕ) (v : Who) (tag : Tag) → IsSaid (run head events).packets (to_host host (call x (Request.Evicted v file tag))) → v.host ≡ host
  said-host host x file v tag (said_reply h y a e k) = let d = (told-same host h _ _ e).1 in absurd (cc)
  said-host host x file v tag (said_error h y a e) = let d = (told-same host h _ _ e).1 in absurd (cc)
  said-host host x file v tag (said_notice y row e) =
      let d = told-same host row.who.host _ _ e in
      let a = (call-same x y _ _ d.1).1 in
      let one : v ≡ row.who = cc in
      ap (λ (u : Who). u.host) one ∙ sym d.0

  said-no-call : (host x : ℕ) (r : Request) → IsSaid (run head events).packets (from_host host (call x r)) → ⊥
  said-no-call host x r (said_reply h y a e k) = not-both host h _ _ e
  said-no-call host x r (said_error h y a e) = not-both host h _ _ e
  said-no-call host x r (said_notice y row e) = not-both host row.who.host _ _ e

  acted-marks : (t : ServerStep) → ServerActs (run head events) t → ((file host : ℕ) (row : Row) → find_row file host t.server.table.rows ≡ Some row
      → host < head.hosts) → Marks (after_server (run head events) t)
  unfolding crash boot empty_table RowsFrom
  acted-marks t (received k p sent to is) inside =
      let s = (run head events).server in
      let sender = sending_host p.sender in
      let next = length (run head events).packets in
      let d = datagram_of p.message in
      let each = one-row-each head events in
      let said = received-said (run head events) p (in-get (run head events).packets k p sent) to (run-holds head events) in
      subst (λ u. Marks (after_server (run head events) u)) (sym is)
      (server-marks (receive s sender next d) (received-rows s each sender next d)
      (λ file host row found. inside file host row (subst (λ (u : ServerStep). find_row file host u.server.table.rows ≡ Some row) (sym is) found))
      (λ x host file v tag i row found.
      let at = in-index (receive s sender next d).sends _ i in
      let go = notices-mark s sender next d each at.0 host x file v tag at.1 in
      let own = said-host host x file v tag (said _ i) in
      let there : find_row file host (receive s sender next d).server.table.rows ≡ Some go.row =
      subst (λ h. find_row file h (receive s sender next d).server.table.rows ≡ Some go.row) own go.there in
      let same : go.row ≡ row = some-same go.row row (sym there ∙ found) in
      ap (λ (r : Row). r.evicting) (sym same) ∙ go.going)
      (λ x host file v tag i. said-no-call host x (Request.Vacated v file tag) (said _ i)))
  acted-marks t (ticks is) inside =
      let s = (run head events).server in
      let each = one-row-each head events in
      let silent = tick-silent s (s.now + 1) in
      subst (λ u. Marks (after_server (run head events) u)) (sym is)
      (server-marks (tick s (s.now + 1)) (ticked-rows s each (s.now + 1))
      (λ file host row found. inside file host row (subst (λ (u : ServerStep). find_row file host u.server.table.rows ≡ Some row) (sym is) found))
      (λ x host file v tag i row found. absurd (subst (λ ps. In ps (to_host host (call x (Request.Evicted v file tag)))) silent i))
      (λ x host file v tag i. subst (λ ps. In ps (from_host host (call x (Request.Vacated v file tag)))) silent i))
  acted-marks t (crashes longest is) inside =
      subst (λ u. Marks (after_server (run head events) u)) (sym is)
      (server-marks (crash (run head events).server longest) (λ file host r e. none-some r e)
      (λ file host row found. none-some row found)
      (λ x host file v tag i row found. absurd i)
      (λ x host file v tag i. i))

  acts-names : (host : ℕ) (c : Client) (t : ClientStep) → slice_get (run head events).clients host ≡ Some c → ClientActs (run head events) host c t
      → Names (run head events).packets host (core_of t)
  acts-names host c t at (called op is) =
      let a = (run-holds head events).clients host c at in
      subst (λ u. Names (run head events).packets host (core_of u)) (sym is) (call-keeps (names-closed (run head events).packets host NoneHeard
      NoneGiven (λ file tag bad. absurd bad)) c op a.alone (begun-names (run head events).packets host c a.alone (m.noticed host c at))).core
  acts-names host c t at (ticked is) =
      let a = (run-holds head events).clients host c at in
      subst (λ u. Names (run head events).packets host (core_of u)) (sym is) (tick-keeps (names-closed (run head events).packets host NoneHeard
      NoneGiven (λ file tag bad. absurd bad)) c (c.now + 1) (omega arith) a.alone (timed-names (run head events).packets host c (c.now + 1)
      a.alone (m.noticed host c at))).core
  acts-names host c t at (restarted is) = subst (λ u. Names (run head events).packets host (core_of u)) (sym is)
      (restart-names (run head events).packets host c)
  acts-names host c t at (heard k p sent to hears) =
      let h = run-holds head events in
      let i = in-get (run head events).packets k p sent in
      hear-names (run head events).packets host c k p.message t (h.clients host c at) (to-told (run head events).packets p host (h.sent p i) to i)
      (m.noticed host c at) hears

  changed-marks : (e : Event) → Changes (run head events) (run head (e ∷ events)) → Marks (run head (e ∷ events))
  changed-marks e (nothing is) = subst (λ v. Marks v) (sym is) m
  changed-marks e (by_client host c t at acts to) = subst (λ v. Marks v) (sym to) (client-marks (run head events) host t (acts-names host c t at acts) m)
  changed-marks e (by_server t acts to) = subst (λ v. Marks v) (sym to) (acted-marks t acts (λ file host row found. row-host head (e ∷ events) file
      host row (subst (λ (v : World). find_row file host v.server.table.rows ≡ Some row) (sym to) (after-rows (run head events) t file host row found))))

first-marks : (head : Head) → Marks (start head)
unfolding start boot empty_table NoticedNamed attached_client fresh_client
first-marks head = record {
  rows = λ host file tag named row found is. none-some row found;
  noticed = λ host c is file n e.
      let same = first-client head.term 0 head.hosts host c is in
      none-some n (subst (λ (d : Client). notice_on file d.notices ≡ Some n) same e);
}

run-marks : (most : ℕ) (head : Head) (events : List Event) → KeepsBounds most head events → IsWithinSkew head.hosts most events → Marks (run head events)
run-marks most head events bounds within = run-goes most head (λ es. Marks (run head es)) (λ b. first-marks head) (λ e es during changes m.
    changed-marks most head es during.bounds during.within m e changes) events bounds within

pub named-rows : NamedRowsAreToGo
named-rows most head events bounds within file host row named found = (run-marks most head events bounds within).rows host file row.tag (by named) row
    found refl
  where
    by : IsNamed (run head events).packets file host row.tag → Named (run head events).packets host file row.tag
    by (by_notice k xid who sent) = told xid who (in-get (run head events).packets k _ sent)
    by (by_vacated k xid who sent) = given xid who (in-get (run head events).packets k _ sent)
