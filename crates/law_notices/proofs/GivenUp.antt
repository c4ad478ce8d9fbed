-- Rows of a live host that are to go: each was to go at the first moment, or its holder is told, or waits until it may give it up, or has done so.
use Rattle.std.proofs.Common.{◌≡◌, ◌≢◌, ◌≤◌, ◌<◌, ◌⊎◌, ℕ, ◌+◌, ◌-◌, ◌==◌, ◌&&◌, not, Bool, true, false, zero, suc, List, [], ◌∷◌, Option, Some, None}
use Rattle.std.proofs.Common.{length, refl, sym, subst, ap, ◌∙◌, arith, inl, inr}
use Rattle.std.specs.Prelude.{map, slice_get}
use Rattle.std.proofs.lemmas.Bool.{and_parts, not-true}
use Rattle.nq_base.specs.declared.Call.{Call}
use Rattle.nq_base.specs.declared.Event.{Event}
use Rattle.nq_base.specs.declared.Party.{Party}
use Rattle.nq_base.specs.declared.Request.{Request}
use Rattle.nq_base.specs.declared.Row.{Row}
use Rattle.nq_base.specs.declared.Tag.{Tag}
use Rattle.nq_base.specs.declared.Who.{Who}
use Rattle.nq_model.specs.protocol.Client.{Client, ClientStep, Notice, begun, notice_on}
use Rattle.nq_model.specs.protocol.ClientStep.{client_call, client_tick}
use Rattle.nq_model.specs.protocol.Hear.{hear, cancels, evicted, goes_on}
use Rattle.nq_model.specs.protocol.Kept.{host_row}
use Rattle.nq_model.specs.protocol.Lines.{Play, play}
use Rattle.nq_model.specs.protocol.Message.{Message, Packet, call, request, datagram_of}
use Rattle.nq_model.specs.protocol.Server.{Server, ServerStep, Phase, serving, recovering, to_host}
use Rattle.nq_model.specs.protocol.ServerStep.{receive, tick}
use Rattle.nq_model.specs.protocol.Skew.{is_tick_of, ticks_of}
use Rattle.nq_model.specs.protocol.Table.{find_row, tag_below, with_rows}
use Rattle.nq_model.specs.protocol.World.{Head, World, from_host, after_client, after_server, at_client, sending_host, step, run}
use Rattle.walk_steps.proofs.ClientMoves.{some-same, none-some}
use Rattle.walk_steps.proofs.LeaseIntervals.{run-runs}
use Rattle.walk_steps.proofs.Packets.{In}
use Rattle.walk_steps.proofs.RowChanges.{HasUniqueKeys, found-kept, unique-filtered}
use Rattle.walk_steps.proofs.Rows.{found-row, same-number, number-same}
use Rattle.walk_steps.proofs.RowFacts.{there-or-comes, WasThere, Comes as ComesNow, vacated-takes}
use Rattle.walk_steps.proofs.RowsAfter.{GoesOn, rows-are}
use Rattle.walk_steps.proofs.Runs.{Runs, none-served}
use Rattle.walk_steps.proofs.ServerMoves.{tick-moves}
use Rattle.walk_steps.proofs.ServerTables.{NoneRecovering}
use Rattle.walk_steps.proofs.Worlds.{get-set-other, set-there}
use Rattle.law_rounds.specs.CalmRoundsAreLawful.{IsLawful}
use Rattle.law_rounds.proofs.ClientCount.{client-count}
use Rattle.law_rounds.proofs.Coming.{Delivery, no_packet, at_server, at_host, ignored, no_client, delivery, in-map, keeps-coming, adds-coming, which-comes}
use Rattle.law_rounds.proofs.Flows.{Covered}
use Rattle.law_rounds.proofs.HostsBelow.{stands-apart}
use Rattle.law_rounds.proofs.PacketsCome.{Comes}
use Rattle.nq_laws.specs.NoTagIsLater.{NoneIsLater}
use Rattle.nq_laws.proofs.ClientHopes.{Leaves, gives_up, notes}
use Rattle.nq_laws.proofs.Leaving.{waits-leave, told-leaves}
use Rattle.nq_laws.proofs.TagRuns.{keys-unique, row-notice-heard, no-tag-is-later}
use Rattle.law_notices.specs.RowsAreGivenUp.{IsToGo}
use Rattle.law_timely.specs.Timely.{is_dead, is_still, goes_on_live_link}
use Rattle.law_notices.proofs.Attached.{IsOn, on-event, notices-stay}
use Rattle.law_timely.proofs.Covers.{Aged, aged-event, none-asks, none-told}
use Rattle.law_timely.proofs.Moves.{is-at, mail-at, told-packet}
use Rattle.law_timely.proofs.Parts.{During}
use Rattle.law_rounds.proofs.Quiet.{quiet-client}
use Rattle.law_notices.proofs.Told.{IsOldOrTold, was_to_go, told_now, marked-told}

get-there : {A : Type 0} (xs : List A) (i : ℕ) → i < length xs → (x : A) × (slice_get xs i ≡ Some x)
get-there [] i below = absurd (omega arith)
get-there (x ∷ xs) zero below = (x, refl)
get-there (x ∷ xs) (suc i) below = get-there xs i (omega arith)

client-same : (a b : ℕ) → Party.Client a ≡ Party.Client b → a ≡ b
client-same a b e = cc

same-server : (w : World) (h : ℕ) (f : Client → ClientStep) (o : Option Client) → (at_client w h f o).server ≡ w.server
unfolding after_client
same-server w h f None = refl
same-server w h f (Some c) = refl

-- while nothing is under way on a live link, nothing of a live host is
still-link : (dead : List ℕ) (sent : List Packet) (numbers : List ℕ) → is_still dead sent numbers ≡ true → (k : ℕ) → In numbers k
    → goes_on_live_link dead (slice_get sent k) ≡ false
still-link dead sent [] still k i = absurd i
still-link dead sent (j ∷ numbers) still k (inl same) =
    let parts = and_parts (not (goes_on_live_link dead (slice_get sent j))) (is_still dead sent numbers) still in
    subst (λ n. goes_on_live_link dead (slice_get sent n) ≡ false) same (not-true (goes_on_live_link dead (slice_get sent j)) parts.0)
still-link dead sent (j ∷ numbers) still k (inr i) =
    let parts = and_parts (not (goes_on_live_link dead (slice_get sent j))) (is_still dead sent numbers) still in
    still-link dead sent numbers parts.1 k i

none-sent : (dead : List ℕ) (host : ℕ) → is_dead dead host ≡ false → (p : Play) → is_still dead p.world.packets p.fresh ≡ true → (m : Message)
    → Comes p (from_host host m) → ⊥
none-sent dead host live p still m x =
    let no = still-link dead p.world.packets p.fresh still x.number x.fresh in
    let yes : goes_on_live_link dead (slice_get p.world.packets x.number) ≡ true = ap (goes_on_live_link dead) x.is ∙ from-live (is_dead dead host) live in
    absurd (cc)
  where
    from-live : (b : Bool) → b ≡ false → (not b && true) ≡ true
    from-live false e = refl
    from-live true e = absurd (cc)

-- a row after a tick was there before
ticked-rows : (s : Server) (time : ℕ) → HasUniqueKeys s.table.rows → (file host : ℕ) (row : Row)
    → find_row file host (tick s time).server.table.rows ≡ Some row → find_row file host s.table.rows ≡ Some row
unfolding with_rows
ticked-rows s time unique = tick-moves s time
    (λ kept phase table. (file host : ℕ) (row : Row) → find_row file host table.rows ≡ Some row → find_row file host s.table.rows ≡ Some row) (record {
      waits = λ until h last p goes_on file host row found. found;
      opening = λ until h last p over file host row found. found;
      ends_reading = λ p file host row found. (found-kept _ file host s.table.rows row unique found).0;
      ending_writing = λ r p due file host row found.
          (found-kept _ file host s.table.rows row unique (found-kept _ file host _ row (unique-filtered _ s.table.rows unique) found).0).0;
    })

module _ (most : ℕ) (head : Head) (dead : List ℕ) (host : ℕ) (live : is_dead dead host ≡ false) (there : host < head.hosts) where
  -- ---- a lawful moment

  module _ (p : Play) (l : IsLawful most head p) where
    has-client : (c : Client) × (slice_get p.world.clients host ≡ Some c)
    has-client =
        let all = client-count head p.events in
        let below = there in
        subst (λ (w : World). (c : Client) × (slice_get w.clients host ≡ Some c)) (sym l.is_run)
        (get-there (run head p.events).clients host (omega arith))

    unique : HasUniqueKeys p.world.server.table.rows
    unique = subst (λ (w : World). HasUniqueKeys w.server.table.rows) (sym l.is_run) (keys-unique most head p.events l.bounds l.within)

    runs : Runs head.hosts most p.world p.events
    runs = subst (λ (w : World). Runs head.hosts most w p.events) (sym l.is_run) (run-runs most head p.events l.bounds l.within)

    -- where there is a row the server serves
    serves-with : (file : ℕ) (row : Row) → find_row file host p.world.server.table.rows ≡ Some row → p.world.server.phase ≡ serving
    serves-with file row found = by p.world.server.phase refl (none-served most p.world.server runs.served)
      where
        by : (ph : Phase) → p.world.server.phase ≡ ph → NoneRecovering ph p.world.server.table → p.world.server.phase ≡ serving
        by serving e none = e
        by (recovering until heard last) e none = none-some row (sym (ap (find_row file host) none) ∙ found)

    -- an attached client hears a notice for its row
    heard-notice : (c : Client) → slice_get p.world.clients host ≡ Some c → c.attached ≡ true → (file : ℕ) (row : Row)
        → find_row file host p.world.server.table.rows ≡ Some row → (k x : ℕ)
        → (row.who ≡ c.who) × (hear c k (call x (Request.Evicted row.who file row.tag)) ≡ Some (goes_on (evicted (cancels (begun c) file) file row.tag)))
    heard-notice c at on file row found k x =
        row-notice-heard most head p.events l.bounds l.within host file k x c row
        (ap (λ (w : World). w.server.phase) (sym l.is_run) ∙ serves-with file row found)
        (subst (λ (w : World). slice_get w.clients host ≡ Some c) l.is_run at) on
        (subst (λ (w : World). find_row file host w.server.table.rows ≡ Some row) l.is_run found)

    no-later : (c : Client) → slice_get p.world.clients host ≡ Some c → (file : ℕ) (row : Row)
        → find_row file host p.world.server.table.rows ≡ Some row → NoneIsLater p.world host file c row.tag
    no-later c at file row found = subst (λ (w : World). NoneIsLater w host file c row.tag) (sym l.is_run)
        (no-tag-is-later most head p.events l.bounds l.within host file c row
        (subst (λ (w : World). slice_get w.clients host ≡ Some c) l.is_run at)
        (subst (λ (w : World). find_row file host w.server.table.rows ≡ Some row) l.is_run found))

    -- a row is of the kept incarnation
    current : (file : ℕ) (row : Row) → find_row file host p.world.server.table.rows ≡ Some row
        → row.who.inc ≡ (host_row p.world.server.kept host).inc
    current file row found = subst (λ (w : World). row.who.inc ≡ (host_row w.server.kept host).inc) (sym l.is_run)
        ((stands-apart head p.events).current file host row (subst (λ (w : World). find_row file host w.server.table.rows ≡ Some row) l.is_run found))

  -- ---- rows that go

  -- the holder of a row is told to give it up, or waits until it may, or has done so
  pub data Goes (p : Play) (file : ℕ) (who : Who) (tag : Tag) : Type 0 where
    told : (x : ℕ) → Comes p (to_host host (call x (Request.Evicted who file tag))) → Goes p file who tag
    waits : (c : Client) (n : Notice) → slice_get p.world.clients host ≡ Some c → notice_on file c.notices ≡ Some n → n.tag ≡ tag → Goes p file who tag
    vacated : (x : ℕ) → Comes p (from_host host (call x (Request.Vacated who file tag))) → Goes p file who tag

  -- a tick is no time for a row to go
  pub still-none : (old : ℕ) (p : Play) → IsLawful most head p → is_still dead p.world.packets p.fresh ≡ true → Aged most head host old p
      → old + 2 ≤ ticks_of host p.events → (file : ℕ) (who : Who) (tag : Tag) → Goes p file who tag → ⊥
  still-none old p l still aged late file who tag (told x c) = none-told most head host dead live p still _ c
  still-none old p l still aged late file who tag (vacated x c) = none-sent dead host live p still _ c
  still-none old p l still aged late file who tag (waits c n at noted is) =
      let none = none-asks most head host dead live p l still
      (subst (λ due. Covered most head host due p) (over old (ticks_of host p.events) late) aged) c at in
      none-some n (sym ((quiet-client most head p l host c at none).no_notice file) ∙ noted)
    where
      over : (n m : ℕ) → n + 2 ≤ m → (n + 2) - m ≡ 0
      over n m late = omega arith

  module _ (old : ℕ) (base : Play) where
    abbrev pub ToGo : Play → ℕ → Row → Type 0
    ToGo p file row = IsToGo base.world.server.table.rows file host row.tag ⊎ Goes p file row.who row.tag

    pub record State (p : Play) : Type 0 where
      pub on : IsOn most head host p
      pub aged : Aged most head host old p
      pub late : old + 2 ≤ ticks_of host p.events
      pub rows : (file : ℕ) (row : Row) → find_row file host p.world.server.table.rows ≡ Some row → row.evicting ≡ true → ToGo p file row

    -- ---- a tick, or a call

    -- where nothing goes, rows that are to go were to go at the first moment
    ticked-on : (p : Play) (e : Event) → IsLawful most head p → is_still dead p.world.packets p.fresh ≡ true → State p
        → ((file : ℕ) (row : Row) → find_row file host (step p.world e).server.table.rows ≡ Some row → find_row file host p.world.server.table.rows ≡ Some row)
        → (file : ℕ) (row : Row) → find_row file host (step p.world e).server.table.rows ≡ Some row → row.evicting ≡ true → ToGo (play p e) file row
    ticked-on p e l still s before file row found going = by (s.rows file row (before file row found) going)
      where
        by : ToGo p file row → ToGo (play p e) file row
        by (inl first) = inl first
        by (inr goes) = absurd (still-none old p l still s.aged s.late file row.who row.tag goes)

    called-on : (p : Play) (h : ℕ) (op : Call) → During most head dead p (Event.Call h op) → State p → (file : ℕ) (row : Row)
        → find_row file host (step p.world (Event.Call h op)).server.table.rows ≡ Some row → row.evicting ≡ true → ToGo (play p (Event.Call h op)) file row
    called-on p h op during s file row found going =
        by (s.rows file row (ap (λ (v : Server). find_row file host v.table.rows) (sym (same-server p.world h (λ c. client_call c op)
        (slice_get p.world.clients h))) ∙ found) going)
      where
        by : ToGo p file row → ToGo (play p (Event.Call h op)) file row
        by (inl first) = inl first
        by (inr (told x c)) = inr (told x (keeps-coming p (Event.Call h op) _ c c.fresh))
        by (inr (vacated x c)) = inr (vacated x (keeps-coming p (Event.Call h op) _ c c.fresh))
        by (inr (waits c n at noted is)) =
            let d = has-client (play p (Event.Call h op)) during.after in
            inr (waits d.0 n d.1 (ap (notice_on file) (notices-stay most head host dead p h op during d.0 d.1 c at) ∙ noted) is)

    -- ---- a delivery

    module _ (p : Play) (k : ℕ) (during : During most head dead p (Event.Deliver k)) (s : State p) where
      abbrev after : Play
      after = play p (Event.Deliver k)

      abbrev OnRows : Type 0
      OnRows = (file : ℕ) (row : Row) → find_row file host (step p.world (Event.Deliver k)).server.table.rows ≡ Some row → row.evicting ≡ true
          → ToGo after file row

      -- what becomes of a row that goes, by what is delivered
      goes-by : (file : ℕ) (who : Who) (tag : Tag)
          → ((x : ℕ) → slice_get p.world.packets k ≡ Some (to_host host (call x (Request.Evicted who file tag))) → Goes after file who tag)
          → ((c : Client) (n : Notice) → slice_get p.world.clients host ≡ Some c → notice_on file c.notices ≡ Some n → n.tag ≡ tag → Goes after file who tag)
          → ((x : ℕ) → slice_get p.world.packets k ≡ Some (from_host host (call x (Request.Vacated who file tag))) → Goes after file who tag)
          → Goes p file who tag → Goes after file who tag
      goes-by file who tag on_told on_waits on_vacated (waits c n at noted is) = on_waits c n at noted is
      goes-by file who tag on_told on_waits on_vacated (told x c) = by (which-comes p k _ c)
        where
          by : (slice_get p.world.packets k ≡ Some (to_host host (call x (Request.Evicted who file tag))))
              ⊎ Comes after (to_host host (call x (Request.Evicted who file tag))) → Goes after file who tag
          by (inl sent) = on_told x sent
          by (inr still) = told x still
      goes-by file who tag on_told on_waits on_vacated (vacated x c) = by (which-comes p k _ c)
        where
          by : (slice_get p.world.packets k ≡ Some (from_host host (call x (Request.Vacated who file tag))))
              ⊎ Comes after (from_host host (call x (Request.Vacated who file tag))) → Goes after file who tag
          by (inl sent) = on_vacated x sent
          by (inr still) = vacated x still

      to-same : (q z : Packet) → slice_get p.world.packets k ≡ Some q → slice_get p.world.packets k ≡ Some z → z.to ≡ q.to
      to-same q z a b = ap (λ (x : Packet). x.to) (some-same z q (sym b ∙ a))

      not-server : (q : Packet) (h : ℕ) → slice_get p.world.packets k ≡ Some q → q.to ≡ Party.Client h → (x : ℕ) (r : Request)
          → slice_get p.world.packets k ≡ Some (from_host host (call x r)) → ⊥
      not-server q h sent to x r mine =
          let e : Party.Server ≡ Party.Client h = to-same q (from_host host (call x r)) sent mine ∙ to in
          cc

      at-own : (q : Packet) (h : ℕ) → slice_get p.world.packets k ≡ Some q → q.to ≡ Party.Client h → (m : Message)
          → slice_get p.world.packets k ≡ Some (to_host host m) → host ≡ h
      at-own q h sent to m mine = client-same host h (to-same q (to_host host m) sent mine ∙ to)

      -- nothing changes
      unchanged : step p.world (Event.Deliver k) ≡ p.world
          → ((file : ℕ) (row : Row) → find_row file host p.world.server.table.rows ≡ Some row → (x : ℕ)
          → slice_get p.world.packets k ≡ Some (to_host host (call x (Request.Evicted row.who file row.tag))) → ⊥)
          → ((x : ℕ) (r : Request) → slice_get p.world.packets k ≡ Some (from_host host (call x r)) → ⊥)
          → OnRows
      unchanged is untold unsent file row found going = by (s.rows file row before going)
        where
          before : find_row file host p.world.server.table.rows ≡ Some row
          before = subst (λ (w : World). find_row file host w.server.table.rows ≡ Some row) is found

          by : ToGo p file row → ToGo after file row
          by (inl first) = inl first
          by (inr goes) = inr (goes-by file row.who row.tag (λ x sent. absurd (untold file row before x sent))
              (λ c n at noted tag. waits c n (ap (λ (w : World). slice_get w.clients host) is ∙ at) noted tag)
              (λ x sent. absurd (unsent x _ sent)) goes)

      -- another client hears it
      other-hears : (h : ℕ) (t : ClientStep) (q : Packet) → step p.world (Event.Deliver k) ≡ after_client p.world h t → host ≢ h
          → slice_get p.world.packets k ≡ Some q → q.to ≡ Party.Client h
          → OnRows
      unfolding after_client
      other-hears h t q is apart sent to file row found going =
          by (s.rows file row (subst (λ (w : World). find_row file host w.server.table.rows ≡ Some row) is found) going)
        where
          by : ToGo p file row → ToGo after file row
          by (inl first) = inl first
          by (inr goes) = inr (goes-by file row.who row.tag (λ x mine. absurd (apart (at-own q h sent to _ mine)))
              (λ c n at noted tag. waits c n (ap (λ (w : World). slice_get w.clients host) is ∙ get-set-other p.world.clients h host t.client apart ∙ at)
              noted tag) (λ x mine. absurd (not-server q h sent to x _ mine)) goes)

      -- the host's own client hears it
      own-hears : (c : Client) (t : ClientStep) (q : Packet) → step p.world (Event.Deliver k) ≡ after_client p.world host t
          → slice_get p.world.packets k ≡ Some q → q.to ≡ Party.Client host → slice_get p.world.clients host ≡ Some c → hear c k q.message ≡ Some t
          → OnRows
      unfolding after_client
      own-hears c t q is sent to at hears file row found going = by (s.rows file row before going)
        where
          l : IsLawful most head p
          l = during.before

          before : find_row file host p.world.server.table.rows ≡ Some row
          before = subst (λ (w : World). find_row file host w.server.table.rows ≡ Some row) is found

          shape : q ≡ to_host host q.message
          shape = told-packet most head host p l k q sent to

          holder : (f : ℕ) (r : Row) → find_row f host p.world.server.table.rows ≡ Some r → r.who ≡ c.who
          holder f r there_is = (heard-notice p l c at (s.on c at) f r there_is k 0).0

          noted : (f : ℕ) (r : Row) (n : Notice) → find_row f host p.world.server.table.rows ≡ Some r → notice_on f c.notices ≡ Some n
              → tag_below r.tag n.tag ≡ false
          noted f r n there_is has = (no-later p l c at f r there_is).noticed n has

          named : (f : ℕ) (r : Row) (x : ℕ) (tag : Tag) → find_row f host p.world.server.table.rows ≡ Some r
              → q.message ≡ call x (Request.Evicted c.who f tag) → tag_below r.tag tag ≡ false
          named f r x tag there_is says = (no-later p l c at f r there_is).told k x c.who tag (sent ∙ ap Some (shape ∙ ap (to_host host) says))

          left : Leaves c t file row → Goes after file row.who row.tag
          left (gives_up n i) = vacated n (adds-coming p (Event.Deliver k) _ (map (from_host host) t.sends) (ap (λ (w : World). w.packets) is)
              (in-map (from_host host) t.sends _ i))
          left (notes n has tag) = waits t.client n (ap (λ (w : World). slice_get w.clients host) is ∙ set-there p.world.clients host t.client c at) has tag

          by : ToGo p file row → ToGo after file row
          by (inl first) = inl first
          by (inr goes) = inr (goes-by file row.who row.tag
              (λ x mine. left (told-leaves p.world.server.table.rows p.world.packets q host k q.message c t (is-at most head host p l c at) shape
              (mail-at most head host p l k q sent to) hears noted named holder x file row before (some-same q _ (sym sent ∙ mine))))
              (λ d n there_is has tag. left (waits-leave p.world.server.table.rows p.world.packets q host k q.message c t (is-at most head host p l c at) shape
              (mail-at most head host p l k q sent to) hears noted named holder n file row before
              (ap (λ (x : Client). notice_on file x.notices) (some-same c d (sym at ∙ there_is)) ∙ has) tag))
              (λ x mine. absurd (not-server q host sent to x _ mine)) goes)

      -- what is delivered is for the server
      module _ (q : Packet) (sent : slice_get p.world.packets k ≡ Some q) (to : q.to ≡ Party.Server)
          (is : step p.world (Event.Deliver k) ≡ after_server p.world (receive p.world.server (sending_host q.sender) (length p.world.packets)
          (datagram_of q.message))) where
        abbrev given : ServerStep
        given = receive p.world.server (sending_host q.sender) (length p.world.packets) (datagram_of q.message)

        -- a VACATED with its tag would have taken it
        gone : (file : ℕ) (was row : Row) → find_row file host p.world.server.table.rows ≡ Some was → find_row file host given.server.table.rows ≡ Some row
            → (x : ℕ) → slice_get p.world.packets k ≡ Some (from_host host (call x (Request.Vacated was.who file was.tag))) → ⊥
        gone file was row there_is stands x mine =
            let same : q ≡ from_host host (call x (Request.Vacated was.who file was.tag)) = some-same q _ (sym sent ∙ mine) in
            let own : was.who.host ≡ host = (found-row file host p.world.server.table.rows was there_is).1 in
            let few = during.before.bounds.hosts in
            let below = there in
            let inc : was.who.inc ≡ (host_row p.world.server.kept was.who.host).inc =
            current p during.before file was there_is ∙ ap (λ h. (host_row p.world.server.kept h).inc) (sym own) in
            let taken = vacated-takes p.world.server host (length p.world.packets) x file was.who was.tag was own (omega arith) inc
            (subst (λ h. find_row file h p.world.server.table.rows ≡ Some was) (sym own) there_is) refl refl in
            let none : find_row file host (receive p.world.server host (length p.world.packets)
            (request x (Request.Vacated was.who file was.tag))).server.table.rows ≡ None =
            subst (λ h. find_row file h (receive p.world.server host (length p.world.packets)
            (request x (Request.Vacated was.who file was.tag))).server.table.rows ≡ None) own taken in
            let empty : find_row file host given.server.table.rows ≡ None =
            subst (λ (z : Packet). find_row file host (receive p.world.server (sending_host z.sender) (length p.world.packets)
            (datagram_of z.message)).server.table.rows ≡ None) (sym same) none in
            none-some row (sym empty ∙ stands)

        stays-on : (file : ℕ) (was row : Row) → find_row file host p.world.server.table.rows ≡ Some was → find_row file host given.server.table.rows
            ≡ Some row → GoesOn was row → ToGo p file was → ToGo after file row
        unfolding after_server
        stays-on file was row there_is stands on (inl first) = inl (subst (λ t. IsToGo base.world.server.table.rows file host t) (sym on.tag) first)
        stays-on file was row there_is stands on (inr goes) =
            inr (subst (λ v. Goes after file v row.tag) (sym on.who) (subst (λ t. Goes after file was.who t) (sym on.tag)
            (goes-by file was.who was.tag
            (λ x mine. let e : Party.Client host ≡ Party.Server = to-same q (to_host host (call x (Request.Evicted was.who file was.tag))) sent mine ∙ to in
            absurd (cc))
            (λ c n at noted tag. waits c n (ap (λ (w : World). slice_get w.clients host) is ∙ at) noted tag)
            (λ x mine. absurd (gone file was row there_is stands x mine)) goes)))

        marked-on : (file : ℕ) (row : Row) → find_row file host given.server.table.rows ≡ Some row → WasThere p.world.server file host row
            → IsOldOrTold p.world.server.table.rows given.sends file host row → ToGo after file row
        unfolding after_server
        marked-on file row stands w (was_to_go was found_was going_was) =
            let one : was ≡ w.was = some-same was w.was (sym found_was ∙ w.there) in
            stays-on file w.was row w.there stands w.same (s.rows file w.was w.there (ap (λ (r : Row). r.evicting) (sym one) ∙ going_was))
        marked-on file row stands w (told_now x i) =
            let key = found-row file host given.server.table.rows row stands in
            inr (told x (adds-coming p (Event.Deliver k) _ given.sends (ap (λ (v : World). v.packets) is)
            (subst (λ f. In given.sends (to_host host (call x (Request.Evicted row.who f row.tag)))) key.0
            (subst (λ h. In given.sends (to_host h (call x (Request.Evicted row.who row.file row.tag)))) key.1 i))))

        received : OnRows
        unfolding after_server
        received file row found going =
            by (there-or-comes p.world.server (sending_host q.sender) (datagram_of q.message) file host row
            (rows-are p.world.server (sending_host q.sender) (datagram_of q.message) (unique p during.before) (length p.world.packets) file host row stands))
          where
            stands : find_row file host given.server.table.rows ≡ Some row
            stands = subst (λ (w : World). find_row file host w.server.table.rows ≡ Some row) is found

            by : WasThere p.world.server file host row
                ⊎ ComesNow p.world.server (sending_host q.sender) (datagram_of q.message) file host row → ToGo after file row
            by (inr c) = let no = c.stays in absurd (cc)
            by (inl w) = marked-on file row stands w (marked-told p.world.server (unique p during.before) (sending_host q.sender) (length p.world.packets)
                (datagram_of q.message) file host row stands going)

      delivered-on : OnRows
      delivered-on = by (delivery p.world k)
        where
          deaf : (h : ℕ) (q : Packet) (c : Client) → slice_get p.world.packets k ≡ Some q → q.to ≡ Party.Client h → slice_get p.world.clients h ≡ Some c
              → hear c k q.message ≡ None → (file : ℕ) (row : Row) → find_row file host p.world.server.table.rows ≡ Some row → (x : ℕ)
              → slice_get p.world.packets k ≡ Some (to_host host (call x (Request.Evicted row.who file row.tag))) → ⊥
          deaf h q c sent to at hears file row there_is x mine =
              let own = at-own q h sent to (call x (Request.Evicted row.who file row.tag)) mine in
              let at_own : slice_get p.world.clients host ≡ Some c = subst (λ n. slice_get p.world.clients n ≡ Some c) (sym own) at in
              let message : q.message ≡ call x (Request.Evicted row.who file row.tag) = ap (λ (z : Packet). z.message) (some-same q _ (sym sent ∙ mine)) in
              none-some _ (sym hears ∙ ap (hear c k) message ∙ (heard-notice p during.before c at_own (s.on c at_own) file row there_is k x).1)

          by : Delivery p.world k (step p.world (Event.Deliver k)) → OnRows
          by (no_packet missing is) = unchanged is (λ file row there_is x mine. none-some _ (sym missing ∙ mine))
              (λ x r mine. none-some _ (sym missing ∙ mine))
          by (at_server q sent to is) = received q sent to is
          by (ignored h q c sent to at hears is) = unchanged is (deaf h q c sent to at hears) (λ x r mine. not-server q h sent to x r mine)
          by (no_client h q sent to missing is) =
              let c = has-client p during.before in
              unchanged is (λ file row there_is x mine.
              none-some c.0 (sym (subst (λ n. slice_get p.world.clients n ≡ None) (sym (at-own q h sent to _ mine)) missing) ∙ c.1))
              (λ x r mine. not-server q h sent to x r mine)
          by (at_host h q c t sent to at hears is) = whose (host == h) refl
            where
              whose : (b : Bool) → (host == h) ≡ b → OnRows
              whose false differs =
                  other-hears h t q is (λ same. let yes : (host == h) ≡ true = number-same host h same in absurd (cc)) sent to
              whose true same =
                  let e : h ≡ host = sym (same-number host h same) in
                  own-hears c t q (is ∙ ap (λ n. after_client p.world n t) e) sent (to ∙ ap Party.Client e)
                  (subst (λ n. slice_get p.world.clients n ≡ Some c) e at) hears

    -- ---- each event

    server-ticked : (p : Play) → IsLawful most head p → (file : ℕ) (row : Row)
        → find_row file host (step p.world Event.ServerTick).server.table.rows ≡ Some row → find_row file host p.world.server.table.rows ≡ Some row
    unfolding after_server
    server-ticked p l file row found = ticked-rows p.world.server (p.world.server.now + 1) (unique p l) file host row found

    rows-event : (p : Play) (e : Event) → During most head dead p e → State p → (file : ℕ) (row : Row)
        → find_row file host (step p.world e).server.table.rows ≡ Some row → row.evicting ≡ true → ToGo (play p e) file row
    rows-event p (Event.Call h op) during s = called-on p h op during s
    rows-event p (Event.Deliver k) during s = delivered-on p k during s
    rows-event p Event.ServerTick during s = ticked-on p Event.ServerTick during.before during.timely s (server-ticked p during.before)
    rows-event p (Event.ClientTick h) during s = ticked-on p (Event.ClientTick h) during.before during.timely s
        (λ file row found. ap (λ (v : Server). find_row file host v.table.rows) (sym (same-server p.world h (λ c. client_tick c (c.now + 1))
        (slice_get p.world.clients h))) ∙ found)
    rows-event p (Event.Restart h) during s = let no : false ≡ true = during.timely in absurd (cc)
    rows-event p (Event.Crash longest) during s = let no : false ≡ true = during.timely in absurd (cc)

    pub state-event : (p : Play) (e : Event) → During most head dead p e → State p → State (play p e)
    state-event p e during s = record {
      on = on-event most head host dead p e during s.on;
      aged = aged-event most head host old dead p e during s.aged;
      late = let before = s.late in more (ticks_of host p.events) (is_tick_of host e) before;
      rows = rows-event p e during s;
    }
      where
        more : (n a : ℕ) → old + 2 ≤ n → old + 2 ≤ a + n
        more n a below = omega arith
