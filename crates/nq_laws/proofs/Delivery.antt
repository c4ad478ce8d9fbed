-- A delivery of a calm network while the server serves, packet by packet: what a client that hears leaves of hopes and of rows in the way, and a packet
-- that nobody hears. Or a call is answered.
use Rattle.std.proofs.Common.{◌≡◌, ◌≢◌, ◌≤◌, ◌<◌, ◌⊎◌, ℕ, ◌==◌, ◌++◌, Bool, true, false, not, List, [], ◌∷◌, Option, Some, None, is_some, nat_le}
use Rattle.std.proofs.Common.{length, refl, sym, subst, ap, ◌∙◌, arith, inl, inr, append-nil}
use Rattle.std.specs.Prelude.{map, slice_get, slice_set}
use Rattle.std.proofs.lemmas.Bool.{and_from}
use Rattle.nq_base.specs.declared.Event.{Event}
use Rattle.nq_base.specs.declared.Mode.{Mode}
use Rattle.nq_base.specs.declared.Party.{Party}
use Rattle.nq_base.specs.declared.Reply.{Reply}
use Rattle.nq_base.specs.declared.Request.{Request}
use Rattle.nq_base.specs.declared.Row.{Row}
use Rattle.nq_base.specs.declared.Tag.{Tag}
use Rattle.nq_base.specs.declared.Want.{Want}
use Rattle.nq_model.specs.protocol.Client.{Client, ClientStep, Job, attaching, for_call, renewing, pushing, Ticket, UnderWay, begun, lease_on}
use Rattle.nq_model.specs.protocol.Hear.{hear, refusal_counts, holds_later, cancels, evicted, goes_on}
use Rattle.nq_model.specs.protocol.Lines.{Play, play}
use Rattle.nq_model.specs.protocol.Message.{Packet, call, reply, datagram_of}
use Rattle.nq_model.specs.protocol.Server.{ServerStep, to_host}
use Rattle.nq_model.specs.protocol.ServerStep.{receive}
use Rattle.nq_model.specs.protocol.Table.{same_who, find_row}
use Rattle.nq_model.specs.protocol.World.{Head, World, from_host, after_client, after_server, sending_host, step, run}
use Rattle.law_rounds.specs.RequestsAreMeant.{wanted, IsMeant}
use Rattle.law_rounds.proofs.ClientCount.{client-count}
use Rattle.law_rounds.proofs.HostsBelow.{run-local}
use Rattle.law_rounds.proofs.Meant.{requests-are-meant}
use Rattle.walk_steps.proofs.NoticeCounts.{HostedBelow}
use Rattle.law_rounds.specs.CalmRoundsAreLawful.{IsLawful}
use Rattle.law_rounds.proofs.Attaching.{hear-stays}
use Rattle.law_rounds.proofs.CalmEnds.{played-rising}
use Rattle.law_rounds.proofs.CalmIsLawful.{played-quiet}
use Rattle.law_rounds.proofs.QuietFlows.{delivered-phase}
use Rattle.walk_steps.proofs.WorldSequences.{run-draws}
use Rattle.law_rounds.proofs.Next.{IsNext}
use Rattle.law_rounds.proofs.Coming.{Delivery, no_packet, at_server, at_host, ignored, no_client, delivery}
use Rattle.walk_steps.proofs.ClientFacts.{fits_job}
use Rattle.walk_steps.proofs.ClientMoves.{some-same, none-some}
use Rattle.walk_steps.proofs.Packets.{In, in-append, in-get, Asked, Told, message-same}
use Rattle.walk_steps.proofs.Worlds.{IsAt, Holds, IsSent, by_host, by_server, get-set-same, get-set-other, set-there, to-told, run-holds}
use Rattle.walk_steps.proofs.StepSends.{HearSends, hear-sends}
use Rattle.walk_steps.proofs.Rows.{same-number, number-same}
use Rattle.walk_steps.proofs.Tests.{is-at-most, is-not-at-most}
use Rattle.nq_laws.proofs.CallRequests.{run-asks}
use Rattle.nq_laws.proofs.ClientHopes.{Hearer}
use Rattle.nq_laws.proofs.ClientHopes as client
use Rattle.nq_laws.proofs.Counts.{open_calls, ended-fewer}
use Rattle.nq_laws.proofs.Given.{ordered, ordered-on, tags}
use Rattle.nq_laws.proofs.HearerAt.{hearer}
use Rattle.nq_laws.proofs.Hope.{Cancels, PutsOff}
use Rattle.nq_laws.proofs.Front.{moves-from}
use Rattle.nq_laws.proofs.Queue.{queue, queue-next, head-packet, head-comes, rest-comes}
use Rattle.nq_laws.proofs.Queue.{there-is}
use Rattle.nq_laws.proofs.Served.{IsWant, by_read, by_lease, Fits, read_fits, write_fits}
use Rattle.nq_laws.proofs.UnderWay.{TagsFit, WantedNow, of_call, of_row, Wants, NoneRenew, Moves, all_move, Paused, hear-sent}
use Rattle.nq_laws.proofs.UnderWay.{none-renews}
use Rattle.nq_laws.proofs.ServedDelivery as state
use Rattle.nq_laws.proofs.ServedDelivery.{State, holder, at-run, queue-front, rest-sent, server-next, server-served}

module _ (most : ℕ) (head : Head) where
  module _ (p : Play) (st : State most head p) where
    holds : Holds p.world
    holds = state.holds most head p st

    module _ (k : ℕ) (next : IsNext p k) where
      abbrev rest : List Packet
      rest = state.rest most head p st k next

      abbrev after : Play
      after = play p (Event.Deliver k)

      abbrev Next : World → List Packet → Packet → Type 0
      Next = state.Next most head p st k next

      in-rest : (y z : Packet) → slice_get p.world.packets k ≡ Some y → In rest z → In (queue p) z
      in-rest = state.in-rest most head p st k next

      -- ---- a client hears

      module _ (y : Packet) (sent : slice_get p.world.packets k ≡ Some y) (h0 : ℕ) (c : Client) (t : ClientStep)
          (at : slice_get p.world.clients h0 ≡ Some c) (is : y ≡ to_host h0 y.message) (mail : Told p.world.packets h0 y.message)
          (hears : hear c k y.message ≡ Some t) (stays : (u : UnderWay) → c.call ≡ Some u → t.client.call ≡ None
          → ⊥) (to : step p.world (Event.Deliver k) ≡ after_client p.world h0 t) where
        own : IsAt h0 c p.world.packets
        own = holds.clients h0 c at

        its-tags : TagsFit p.world h0 c
        its-tags = tags most head p st.lawful h0 c at (st.on h0 c at)

        now-hears : Hearer p.world.server.table.rows y rest h0 c t
        now-hears = hearer p.world.server.table.rows p.world.packets y rest h0 k y.message c t own is (rest-sent most head p st k next) mail hears stays
            (λ f row n found noted. its-tags.noted f row n found noted)
            (λ f row n tag found says. its-tags.named f n row tag found (subst (λ m. Told p.world.packets h0 m) says mail))
            (holder most head p st h0 c at)

        its-sends : HearSends c y.message t
        its-sends = hear-sends c k y.message t own.alone hears

        -- after the step, as a run
        next-lawful : IsLawful most head after
        next-lawful = played-quiet most head p (Event.Deliver k) tt refl st.lawful

        next-at : slice_get (run head (Event.Deliver k ∷ p.events)).clients h0 ≡ Some t.client
        unfolding after_client
        next-at = ap (λ (w : World). slice_get w.clients h0) (sym next-lawful.is_run) ∙ ap (λ (w : World). slice_get w.clients h0) to
            ∙ set-there p.world.clients h0 t.client c at

        -- a request that it sent just now and that wants a lease
        just-wanted : (x f : ℕ) (r : Request) (want : Want) → IsWant r f want → (k2 : Ticket) → t.client.ticket ≡ Some k2 → k2.request ≡ r
            → fits_job k2.job k2.request ≡ true → (k2.job ≡ renewing → ⊥) → WantedNow p.world.server.table.rows (rest ++ map
            (from_host h0) t.sends) h0 t.client x f want
        just-wanted x f r want w k2 asks req fits renews = of-job k2.job refl
          where
            not-other : (job : Job) → fits_job job r ≡ true → (job ≡ attaching) ⊎ (job ≡ pushing) → IsWant r f want → ⊥
            not-other job ok (inl e) (by_read who q block is_r) = let no : fits_job attaching (Request.Read who q f block (Some want)) ≡ true = subst
                (λ j. fits_job j (Request.Read who q f block (Some want)) ≡ true) e (subst (λ z. fits_job job z ≡ true) is_r ok) in cc
            not-other job ok (inr e) (by_read who q block is_r) = let no : fits_job pushing (Request.Read who q f block (Some want)) ≡ true = subst
                (λ j. fits_job j (Request.Read who q f block (Some want)) ≡ true) e (subst (λ z. fits_job job z ≡ true) is_r ok) in cc
            not-other job ok (inl e) (by_lease who is_r) = let no : fits_job attaching (Request.GetLease who f want) ≡ true = subst (λ j. fits_job j
                (Request.GetLease who f want) ≡ true) e (subst (λ z. fits_job job z ≡ true) is_r ok) in cc
            not-other job ok (inr e) (by_lease who is_r) = let no : fits_job pushing (Request.GetLease who f want) ≡ true = subst (λ j. fits_job j
                (Request.GetLease who f want) ≡ true) e (subst (λ z. fits_job job z ≡ true) is_r ok) in cc

            fit : (u : UnderWay) → IsMeant t.client k2 u → IsWant r f want → Fits u f want
            fit u m (by_read who q block is_r) = read_fits block (m.reads who q f block want (req ∙ is_r)).0
            fit u m (by_lease who is_r) =
                let l = m.leases who f want (req ∙ is_r) in
                let two : Request.GetLease who f want ≡ Request.GetLease t.client.who f (wanted t.client Mode.Writing) = sym (req ∙ is_r) ∙ l.1 in
                let same_want : want ≡ wanted t.client Mode.Writing = cc in
                write_fits l.0.block l.0.body l.0.is (ap (λ (z : Want). z.mode) same_want)

            with-call : (o : Option UnderWay) → t.client.call ≡ o → k2.job ≡ for_call → WantedNow p.world.server.table.rows (rest ++ map
                (from_host h0) t.sends) h0 t.client x f want
            with-call None none job = let yes = ((run-holds head
                (Event.Deliver k ∷ p.events)).clients h0 t.client next-at).alone.asking.called k2 asks job in let no : is_some t.client.call ≡ false =
                ap is_some none in absurd (cc)
            with-call (Some u) has job = of_call u has ((run-asks head (Event.Deliver k ∷ p.events) h0 t.client next-at).early k2 asks job) (fit u
                (requests-are-meant head (Event.Deliver k ∷ p.events) h0 t.client k2 u next-at asks job has) w)

            of-job : (job : Job) → k2.job ≡ job → WantedNow p.world.server.table.rows (rest ++ map (from_host h0) t.sends) h0 t.client x f want
            of-job for_call e = with-call t.client.call refl e
            of-job renewing e = absurd (renews e)
            of-job attaching e = absurd (not-other k2.job (subst (λ z. fits_job k2.job z ≡ true) req fits) (inl e) w)
            of-job pushing e = absurd (not-other k2.job (subst (λ z. fits_job k2.job z ≡ true) req fits) (inr e) w)

        -- one that was under way
        still-wanted : (x f : ℕ) (r : Request) (want : Want) → In rest (from_host h0 (call x r)) → IsWant r f want
            → WantedNow p.world.server.table.rows (queue p) h0 c x f want → WantedNow p.world.server.table.rows (rest ++ map
            (from_host h0) t.sends) h0 t.client x f want
        still-wanted x f r want i w (of_call u has early fit) =
            let v = now-hears.opens u has in
            let paused : t.client.pause ≡ c.pause = now-hears.pause unreplied in
            let time = now-hears.now in
            of_call v.0 v.1 (omega arith) (as-before v.0 v.2 fit)
          where
            as-before : (v : UnderWay) → v.call ≡ u.call → Fits u f want → Fits v f want
            as-before v same (read_fits block e) = read_fits block (same ∙ e)
            as-before v same (write_fits block body e mode) = write_fits block body (same ∙ e) mode

            unreplied : (l : Ticket) → c.ticket ≡ Some l → PutsOff h0 c l y → ⊥
            unreplied l asks o =
                (ordered most head p st.lawful st.order h0 c at).unreplied x f r want l (Reply.Refused c.who.inc o.status)
                (rest-comes p k next st.rising (from_host h0 (call x r)) i) w asks
                (head-comes p k next st.rising (to_host h0 (reply l.xid (Reply.Refused c.who.inc o.status))) (sent ∙ ap Some o.is)) refl
        still-wanted x f r want i w (of_row row idle found kind mode least) = of_row row (still-idle t.client.call refl) found kind mode least-now
          where
            still-idle : (o : Option UnderWay) → t.client.call ≡ o → t.client.call ≡ None
            still-idle None e = e
            still-idle (Some v) e = let u = now-hears.before v e in none-some u.0 (sym idle ∙ u.1)

            low : x < c.xid
            low =
                let there : Asked p.world.packets c.who.host x r = subst (λ n. Asked p.world.packets n x r) (sym own.here)
                (rest-sent most head p st k next (from_host h0 (call x r)) i) in
                (own.mail.asked x r c.who there ((ordered most head p st.lawful st.order h0 c at).asks x r (rest-comes p k next st.rising
                (from_host h0 (call x r)) i))).number refl

            least-now : (v : ℕ) (o : Request) → In (rest ++ map (from_host h0) t.sends) (from_host h0 (call v o)) → x ≤ v
            least-now v o j = from (in-append rest (map (from_host h0) t.sends) (from_host h0 (call v o)) j)
              where
                from : In rest (from_host h0 (call v o)) ⊎ In (map (from_host h0) t.sends) (from_host h0 (call v o)) → x ≤ v
                from (inl old) = least v o (in-rest y (from_host h0 (call v o)) sent old)
                from (inr new) =
                    let m = client.map-in (from_host h0) t.sends (from_host h0 (call v o)) new in
                    let is_m = message-same h0 h0 (call v o) m.0 m.2 in
                    let above = (hear-sent c y.message t its-sends v o (subst (λ z. In t.sends z) (sym is_m.1) m.1)).above in
                    let below = low in
                    omega arith

        -- whose client it is
        data Whose (host : ℕ) (d : Client) : Type 0 where
          hers : host ≡ h0 → d ≡ t.client → Whose host d
          another : host ≢ h0 → slice_get p.world.clients host ≡ Some d → Whose host d

        whose-is : (host : ℕ) (d : Client) → slice_get (slice_set p.world.clients h0 t.client) host ≡ Some d → Whose host d
        whose-is host d there = by (host == h0) refl
          where
            by : (e : Bool) → (host == h0) ≡ e → Whose host d
            by true e =
                let same : host ≡ h0 = same-number host h0 e in
                hers same (get-set-same p.world.clients h0 t.client d (subst (λ n. slice_get (slice_set p.world.clients h0 t.client) n ≡ Some d) same there))
            by false e =
                let apart : host ≢ h0 = λ same. let yes : (host == h0) ≡ true = number-same host h0 same in absurd (cc) in
                another apart (sym (get-set-other p.world.clients h0 host t.client apart) ∙ there)

        client-next : Next (after_client p.world h0 t) (rest ++ map (from_host h0) t.sends) y
        unfolding after_client
        client-next = record {
          wants = λ host x f d r want there i w. wants host x f d r want (whose-is host d there) (in-append rest (map (from_host h0) t.sends)
              (from_host host (call x r)) i) w;
          none_renew = λ host d l u there asks has job. renew host d l u (whose-is host d there) asks has job;
          on = λ host d there. on host d (whose-is host d there);
          pauses = λ a d u there has. paused a d u (whose-is a d there) has;
          moves = all_move
              (client.hopes-on p.world.server.table.rows p.world.clients y rest h0 y.message c t at is now-hears)
              (client.clear-on p.world.server.table.rows p.world.clients y rest h0 y.message c t at is now-hears);
        }
          where
            on : (host : ℕ) (d : Client) → Whose host d → d.attached ≡ true
            on host d (another apart there) = st.on host d there
            on host d (hers same one) = subst (λ (z : Client). z.attached ≡ true) (sym one) (hear-stays h0 c p.world.packets k y.message t own mail
                (st.on h0 c at) hears)

            -- who pauses has no request of its call under way
            not-off : (o : UnderWay) → c.call ≡ Some o → c.now < c.pause → (l : Ticket) → c.ticket ≡ Some l → PutsOff h0 c l y → ⊥
            not-off o has late l asks x = of-job l.job refl
              where
                of-job : (job : Job) → l.job ≡ job → ⊥
                of-job for_call job = let early = (run-asks head p.events h0 c (at-run most head p st h0 c at)).early l asks job in absurd (omega arith)
                of-job renewing job = st.none_renew h0 c l o at asks has job
                of-job attaching job = let no : refusal_counts x.status l.request l.job ≡ false = ap (refusal_counts x.status l.request) job in let yes =
                    x.counts in absurd (cc)
                of-job pushing job = let no : refusal_counts x.status l.request l.job ≡ false = ap (refusal_counts x.status l.request) job
                    ∙ ap not x.off in let yes = x.counts in absurd (cc)

            paused : (a : ℕ) (d : Client) (u : UnderWay) → Whose a d → d.call ≡ Some u → (b : Client) × (o : UnderWay)
                × (slice_get p.world.clients a ≡ Some b) × (b.call ≡ Some o) × (b.now < b.pause → (d.now ≡ b.now) × (d.pause ≡ b.pause))
            paused a d u (another apart there) has = (d, u, there, has, λ late. (refl, refl))
            paused a d u (hers same one) has =
                let o = now-hears.before u (ap (λ (z : Client). z.call) (sym one) ∙ has) in (
                  c,
                  o.0,
                  subst (λ n. slice_get p.world.clients n ≡ Some c) (sym same) at,
                  o.1,
                  λ late. (
                    ap (λ (z : Client). z.now) one
                        ∙ now-hears.now,
                    ap (λ (z : Client). z.pause) one ∙ now-hears.pause (not-off o.0 o.1 late),
                  ),
                )

            renew : (host : ℕ) (d : Client) (l : Ticket) (u : UnderWay) → Whose host d → d.ticket ≡ Some l → d.call ≡ Some u → l.job ≡ renewing → ⊥
            renew host d l u (another apart there) asks has job = st.none_renew host d l u there asks has job
            renew host d l u (hers same one) asks has job =
                let o = now-hears.before u (ap (λ (z : Client). z.call) (sym one) ∙ has) in
                none-renews c y.message t its-sends (λ m before_asks before_job. st.none_renew h0 c m o.0 at before_asks o.1 before_job) l (ap (λ
                (z : Client). z.ticket) (sym one) ∙ asks) job

            mine-now : (x f : ℕ) (r : Request) (want : Want) → In rest (from_host h0 (call x r))
                ⊎ In (map (from_host h0) t.sends) (from_host h0 (call x r)) → IsWant r f want
                → WantedNow p.world.server.table.rows (rest ++ map (from_host h0) t.sends) h0 t.client x f want
            mine-now x f r want (inl i) w = still-wanted x f r want i w (st.wants h0 x f c r want at (in-rest y (from_host h0 (call x r)) sent i) w)
            mine-now x f r want (inr i) w =
                let m = client.map-in (from_host h0) t.sends (from_host h0 (call x r)) i in
                let is_m = message-same h0 h0 (call x r) m.0 m.2 in
                let s = (hear-sent c y.message t its-sends x r (subst (λ z. In t.sends z) (sym is_m.1) m.1)).asked f want w in
                just-wanted x f r want w s.0 s.1 s.2 s.3 s.4

            other-row : (host x f : ℕ) (d : Client) (r : Request) (want : Want) → host ≢ h0 → In rest (from_host host (call x r))
                → WantedNow p.world.server.table.rows (queue p) host d x f want → WantedNow p.world.server.table.rows (rest ++ map
                (from_host h0) t.sends) host d x f want
            other-row host x f d r want apart i (of_call u has early fit) = of_call u has early fit
            other-row host x f d r want apart i (of_row row idle found kind mode least) = of_row row idle found kind mode (λ v o j. from v o
                (in-append rest (map (from_host h0) t.sends) (from_host host (call v o)) j))
              where
                from : (v : ℕ) (o : Request) → In rest (from_host host (call v o)) ⊎ In (map (from_host h0) t.sends) (from_host host (call v o)) → x ≤ v
                from v o (inl old) = least v o (in-rest y (from_host host (call v o)) sent old)
                from v o (inr new) = let m = client.map-in (from_host h0) t.sends (from_host host (call v o)) new in absurd (apart (message-same host h0
                    (call v o) m.0 m.2).0)

            wants : (host x f : ℕ) (d : Client) (r : Request) (want : Want) → Whose host d → In rest (from_host host (call x r))
                ⊎ In (map (from_host h0) t.sends) (from_host host (call x r)) → IsWant r f want
                → WantedNow p.world.server.table.rows (rest ++ map (from_host h0) t.sends) host d x f want
            wants host x f d r want (hers same one) i w =
                subst (λ n. WantedNow p.world.server.table.rows (rest ++ map (from_host h0) t.sends) n d x f want) (sym same)
                (subst (λ (z : Client). WantedNow p.world.server.table.rows (rest ++ map (from_host h0) t.sends) h0 z x f want) (sym one)
                (mine-now x f r want (subst (λ n. In rest (from_host n (call x r)) ⊎ In (map (from_host h0) t.sends) (from_host n (call x r))) same i) w))
            wants host x f d r want (another apart there) (inl i) w = other-row host x f d r want apart i (st.wants host x f d r want there (in-rest y
                (from_host host (call x r)) sent i) w)
            wants host x f d r want (another apart there) (inr i) w = let m = client.map-in (from_host h0) t.sends (from_host host (call x r)) i in absurd
                (apart (message-same host h0 (call x r) m.0 m.2).0)

      -- ---- nobody hears

      module _ (y : Packet) (sent : slice_get p.world.packets k ≡ Some y) (h0 : ℕ) (is : y ≡ to_host h0 y.message) (deaf : (c : Client)
          → slice_get p.world.clients h0 ≡ Some c → hear c k y.message ≡ None) where
        would-hear : (c : Client) (n f : ℕ) (tag : Tag) → slice_get p.world.clients h0 ≡ Some c → y.message ≡ call n (Request.Evicted c.who f tag)
            → holds_later tag (lease_on f c.leases) ≡ false → ⊥
        would-hear c n f tag at says free =
            let same : same_who c.who c.who ≡ true = and_from (c.who.host == c.who.host) (c.who.inc == c.who.inc) (number-same c.who.host c.who.host refl)
            (number-same c.who.inc c.who.inc refl) in
            let heard : hear c k (call n (Request.Evicted c.who f tag)) ≡ Some (goes_on (evicted (cancels (begun c) f) f tag)) = rw (same, free) refl in
            none-some _ (sym (deaf c at) ∙ ap (hear c k) says ∙ heard)

        not-cancelled : (c : Client) → slice_get p.world.clients h0 ≡ Some c → (l : Ticket) → Cancels h0 c l y → ⊥
        not-cancelled c at l x = would-hear c x.number x.file x.tag at (ap (λ (z : Packet). z.message) x.is) x.heard

        unnamed : (n f : ℕ) (row : Row) → find_row f h0 p.world.server.table.rows ≡ Some row → y ≡ to_host h0 (call n (Request.Evicted row.who f row.tag)) → ⊥
        unfolding HostedBelow
        unnamed n f row found says = by (slice_get p.world.clients h0) refl
          where
            by : (o : Option Client) → slice_get p.world.clients h0 ≡ o → ⊥
            by (Some c) at =
                would-hear c n f row.tag at (ap (λ (z : Packet). z.message) says ∙ ap (λ w. call n (Request.Evicted w f row.tag))
                (holder most head p st h0 c at f row found))
                ((tags most head p st.lawful h0 c at (st.on h0 c at)).held f row found)
            by None none =
                let rows = (run-local head p.events).rows in
                let there : find_row f h0 (run head p.events).server.table.rows ≡ Some row = subst (λ
                (u : World). find_row f h0 u.server.table.rows ≡ Some row) st.lawful.is_run found in
                case (nat_le head.hosts h0) refl rows there
              where
                case : (e : Bool) → nat_le head.hosts h0 ≡ e → HostedBelow head.hosts (run head p.events).server.table.rows
                    → find_row f h0 (run head p.events).server.table.rows ≡ Some row → ⊥
                case true e rows there = none-some row (sym (rows f h0 (is-at-most head.hosts h0 e)) ∙ there)
                case false e rows there =
                    let below = is-not-at-most head.hosts h0 e in
                    let count : length p.world.clients ≡ head.hosts = ap (λ (u : World). length u.clients) st.lawful.is_run ∙ client-count head p.events in
                    let found_one = there-is p.world.clients h0 (omega arith) (slice_get p.world.clients h0) refl in
                    none-some found_one.0 (sym none ∙ found_one.1)

        ignored-next : Next p.world rest y
        ignored-next = record {
          wants = λ host x f d r want there i w. other host x f d r want (st.wants host x f d r want there (in-rest y (from_host host (call x r)) sent i) w);
          none_renew = st.none_renew;
          on = st.on;
          pauses = λ a d u there has. (d, u, there, has, λ late. (refl, refl));
          moves = all_move
              (client.ignored-hopes p.world.server.table.rows p.world.clients y rest h0 y.message is not-cancelled unnamed)
              (client.ignored-clear p.world.server.table.rows p.world.clients y rest h0 y.message is not-cancelled unnamed);
        }
          where
            other : (host x f : ℕ) (d : Client) (r : Request) (want : Want) → WantedNow p.world.server.table.rows (queue p) host d x f want
                → WantedNow p.world.server.table.rows rest host d x f want
            other host x f d r want (of_call u has early fit) = of_call u has early fit
            other host x f d r want (of_row row idle found kind mode least) = of_row row idle found kind mode (λ v o j. least v o (in-rest y
                (from_host host (call v o)) sent j))

      -- ---- the packet is delivered

      -- what a delivery comes to: a call is answered, or the state goes on
      pub data Delivered : Type 0 where
        fewer : open_calls (step p.world (Event.Deliver k)).clients < open_calls p.world.clients → Delivered
        goes_on_so : State most head (play p (Event.Deliver k)) → Moves p.world (step p.world (Event.Deliver k)) (queue p) (queue (play p (Event.Deliver k)))
            → Paused p.world (step p.world (Event.Deliver k)) → Delivered

      lead : (v : World) (more : List Packet) (y : Packet) → slice_get p.world.packets k ≡ Some y → step p.world (Event.Deliver k) ≡ v
          → v.packets ≡ p.world.packets ++ more → Next v (rest ++ more) y → Delivered
      lead v more y sent to packets n =
          let q : queue (play p (Event.Deliver k)) ≡ rest ++ more = queue-next p k next st.rising more (ap (λ (w : World). w.packets) to ∙ packets) in
          goes_on_so (record {
            lawful = played-quiet most head p (Event.Deliver k) tt refl st.lawful;
            rising = played-rising p (Event.Deliver k) st.rising;
            serves = delivered-phase p.world k (slice_get p.world.packets k) ∙ st.serves;
            on = subst (λ (w : World). (host : ℕ) (c : Client) → slice_get w.clients host ≡ Some c → c.attached ≡ true) (sym to) n.on;
            order = ordered-on most head p k next st.lawful st.rising st.on st.order;
            wants = subst (λ (w : World). Wants w (queue (play p (Event.Deliver k)))) (sym to) (subst (λ z. Wants v z) (sym q) n.wants);
            none_renew = subst (λ (w : World). NoneRenew w) (sym to) n.none_renew;
          })
          (subst (λ (w : World). Moves p.world w (queue p) (queue (play p (Event.Deliver k)))) (sym to)
          (subst (λ z. Moves p.world v (queue p) z) (sym q) (moves-from p.world v (queue p) (y ∷ rest) (rest ++ more)
          (queue-front most head p st k next y sent) n.moves)))
          (subst (λ (w : World). Paused p.world w) (sym to) n.pauses)

      to-host-is : (y : Packet) (h : ℕ) → slice_get p.world.packets k ≡ Some y → y.to ≡ Party.Client h → y ≡ to_host h y.message
      to-host-is y h sent to = by (holds.sent y (in-get p.world.packets k y sent))
        where
          by : IsSent y → y ≡ to_host h y.message
          by (by_host host x r w e asks) = let two : Party.Server ≡ Party.Client h = ap (λ (z : Packet). z.to) (sym e) ∙ to in absurd (cc)
          by (by_server host m e) =
              let same : Party.Client host ≡ Party.Client h = ap (λ (z : Packet). z.to) (sym e) ∙ to in
              let one : host ≡ h = cc in
              e ∙ ap (λ n. to_host n m) one ∙ ap (to_host h) (ap (λ (z : Packet). z.message) (sym e))

      pub delivers : Delivered
      unfolding after_server after_client
      delivers = by (delivery p.world k)
        where
          at-a-server : (y : Packet) → slice_get p.world.packets k ≡ Some y → y.to ≡ Party.Server
              → step p.world (Event.Deliver k) ≡ after_server p.world (receive p.world.server (sending_host y.sender) (length p.world.packets)
              (datagram_of y.message)) → IsSent y → Delivered
          at-a-server y sent to is (by_server host m e) = let two : Party.Client host ≡ Party.Server = ap (λ (z : Packet). z.to) (sym e) ∙ to in absurd (cc)
          at-a-server y sent to is (by_host b x r w e asks) = found (slice_get p.world.clients b) refl
            where
              t : ServerStep
              t = receive p.world.server (sending_host y.sender) (length p.world.packets) (datagram_of y.message)

              found : (o : Option Client) → slice_get p.world.clients b ≡ o → Delivered
              found None none =
                  let there : Asked (run head p.events).packets b x r = subst (λ (u : World). Asked u.packets b x r) st.lawful.is_run
                  (in-get p.world.packets k (from_host b (call x r)) (sent ∙ ap Some e)) in
                  absurd ((run-draws head p.events).lone b x r there (subst (λ (u : World). slice_get u.clients b ≡ None) st.lawful.is_run none))
              found (Some c) at = lead (after_server p.world t) t.sends y sent is refl (server-next most head p st k next y sent b x r c at e t
                  (server-served most head p st k next y sent b x r c at e t refl))

          silent : (y : Packet) (h : ℕ) → slice_get p.world.packets k ≡ Some y → y.to ≡ Party.Client h → ((c : Client)
              → slice_get p.world.clients h ≡ Some c → hear c k y.message ≡ None) → step p.world (Event.Deliver k) ≡ p.world → Delivered
          silent y h sent to deaf is =
              lead p.world [] y sent is (sym (append-nil p.world.packets)) (subst (λ q. Next p.world q y) (sym (append-nil rest)) (ignored-next y sent h
              (to-host-is y h sent to) deaf))

          hears-it : (y : Packet) (h : ℕ) (c : Client) (t : ClientStep) → slice_get p.world.packets k ≡ Some y → y.to ≡ Party.Client h
              → slice_get p.world.clients h ≡ Some c → hear c k y.message ≡ Some t → step p.world (Event.Deliver k) ≡ after_client p.world h t
              → (o q : Option UnderWay) → c.call ≡ o → t.client.call ≡ q → Delivered
          hears-it y h c t sent to at hears is (Some u) None was now =
              fewer (subst (λ (w : World). open_calls w.clients < open_calls p.world.clients) (sym is)
              (ended-fewer p.world.clients h c t.client u at was now))
          hears-it y h c t sent to at hears is o (Some u) was now = go (λ v has none. none-some u (sym none ∙ now))
            where
              go : ((v : UnderWay) → c.call ≡ Some v → t.client.call ≡ None → ⊥) → Delivered
              go stays = lead (after_client p.world h t) (map (from_host h) t.sends) y sent is refl (client-next y sent h c t at (to-host-is y h sent to)
                  (to-told p.world.packets y h (holds.sent y (in-get p.world.packets k y sent)) to (in-get p.world.packets k y sent)) hears stays is)
          hears-it y h c t sent to at hears is None None was now = lead (after_client p.world h t) (map (from_host h) t.sends) y sent is refl
              (client-next y sent h c t at (to-host-is y h sent to) (to-told p.world.packets y h (holds.sent y (in-get p.world.packets k y sent)) to
              (in-get p.world.packets k y sent)) hears (λ v has none. none-some v (sym was ∙ has)) is)

          by : Delivery p.world k (step p.world (Event.Deliver k)) → Delivered
          by (no_packet none is) = let y = head-packet p k next st.rising in none-some y.0 (sym none ∙ y.1)
          by (at_server y sent to is) = at-a-server y sent to is (holds.sent y (in-get p.world.packets k y sent))
          by (at_host h y c t sent to at hears is) = hears-it y h c t sent to at hears is c.call t.client.call refl refl
          by (ignored h y c sent to at hears is) = silent y h sent to (λ d there. ap (λ (z : Client). hear z k y.message) (some-same d c (sym there
              ∙ at)) ∙ hears) is
          by (no_client h y sent to none is) = silent y h sent to (λ d there. none-some d (sym none ∙ there)) is
