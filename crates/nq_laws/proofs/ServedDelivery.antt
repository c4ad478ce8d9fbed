-- A state of a calm network while the server serves, what a step from it leads to, and a packet of it that the server takes.
use Rattle.std.proofs.Common.{◌≡◌, ◌≤◌, ◌<◌, ◌⊎◌, ℕ, ◌==◌, ◌++◌, Bool, true, false, List, ◌∷◌, Some}
use Rattle.std.proofs.Common.{length, refl, sym, subst, ap, ◌∙◌, arith, inl, inr}
use Rattle.std.specs.Prelude.{slice_get}
use Rattle.nq_base.specs.declared.Event.{Event}
use Rattle.nq_base.specs.declared.Request.{Request}
use Rattle.nq_base.specs.declared.Row.{Row}
use Rattle.nq_base.specs.declared.Want.{Want}
use Rattle.nq_model.specs.protocol.Client.{Client}
use Rattle.nq_model.specs.protocol.Kept.{host_row}
use Rattle.nq_model.specs.protocol.Lines.{Play, play}
use Rattle.nq_model.specs.protocol.Message.{Message, Packet, call, reply, datagram_of}
use Rattle.nq_model.specs.protocol.Server.{serving, ServerStep, to_host}
use Rattle.nq_model.specs.protocol.ServerStep.{receive}
use Rattle.nq_model.specs.protocol.Table.{caches, greater_mode, find_row}
use Rattle.nq_model.specs.protocol.World.{Head, World, from_host, after_server, sending_host, run}
use Rattle.nq_model.specs.laws.RowsStandApart.{WritesAlone}
use Rattle.law_rounds.proofs.HostsBelow.{stands-apart}
use Rattle.walk_steps.proofs.LeaseIntervals.{run-runs}
use Rattle.law_rounds.specs.CalmRoundsAreLawful.{IsLawful}
use Rattle.law_rounds.specs.QuietDeliveries.{recovers}
use Rattle.law_rounds.proofs.PacketsCome.{Comes}
use Rattle.law_rounds.proofs.CalmEnds.{IsRising}
use Rattle.law_rounds.proofs.Next.{IsNext, next-in}
use Rattle.walk_steps.proofs.Packets.{In, in-append, in-left, in-right, in-get, Asked, not-both}
use Rattle.walk_steps.proofs.Worlds.{IsAt, Holds, run-holds}
use Rattle.walk_steps.proofs.Rows.{same-number, number-same, found-row}
use Rattle.nq_laws.proofs.CallRequests.{run-asks}
use Rattle.nq_laws.proofs.Given.{AllInLine, ordered, tags, served}
use Rattle.nq_laws.proofs.Hope.{Clear}
use Rattle.nq_laws.proofs.Front.{Fronts, to-front}
use Rattle.nq_laws.proofs.Queue.{packets_of, queue, queue-parts, rest-parts, before-apart, rest-comes}
use Rattle.nq_laws.proofs.Queue.{rest-later}
use Rattle.nq_laws.proofs.Served.{IsWant, IsServed, Wanting, by_call, by_renewal}
use Rattle.nq_laws.proofs.Asking.{Fate, all_on, off, fate}
use Rattle.nq_laws.proofs.ServerHopes.{Asker, clear-on, off-clear, off-hope}
use Rattle.nq_laws.proofs.UnderWay.{InOrder, WantedNow, of_call, of_row, Wants, NoneRenew, Moves, all_move, all_but, Paused}
use Rattle.nq_laws.proofs.UnderWay.{serves-is}

-- ---- a state

module _ (most : ℕ) (head : Head) where
  pub record State (p : Play) : Type 0 where
    pub lawful : IsLawful most head p
    pub rising : IsRising p
    pub serves : recovers p.world.server.phase ≡ false
    pub on : (host : ℕ) (c : Client) → slice_get p.world.clients host ≡ Some c → c.attached ≡ true
    pub order : AllInLine most head p
    pub wants : Wants p.world (queue p)
    pub none_renew : NoneRenew p.world

  module _ (p : Play) (st : State p) where
    pub holds : Holds p.world
    holds = subst (λ u. Holds u) (sym st.lawful.is_run) (run-holds head p.events)

    pub at-run : (host : ℕ) (c : Client) → slice_get p.world.clients host ≡ Some c → slice_get (run head p.events).clients host ≡ Some c
    at-run host c at = subst (λ (u : World). slice_get u.clients host ≡ Some c) st.lawful.is_run at

    phase : p.world.server.phase ≡ serving
    phase = serves-is p.world.server.phase st.serves

    -- the kept incarnation of a host is its client's
    line-inc : (host : ℕ) (c : Client) → slice_get p.world.clients host ≡ Some c → (host_row p.world.server.kept host).inc ≡ c.who.inc
    line-inc host c at =
        ap (λ (u : World). (host_row u.server.kept host).inc) st.lawful.is_run
        ∙ (((run-runs most head p.events st.lawful.bounds st.lawful.within).known.clients host c (at-run host c at))).lined.current (st.on host c at)

    -- a row of a host is its client's
    pub holder : (host : ℕ) (c : Client) → slice_get p.world.clients host ≡ Some c → (f : ℕ) (row : Row)
        → find_row f host p.world.server.table.rows ≡ Some row → row.who ≡ c.who
    holder host c at f row found =
        let s = (stands-apart head p.events).current in
        let there : find_row f host (run head p.events).server.table.rows ≡ Some row = subst (λ
        (u : World). find_row f host u.server.table.rows ≡ Some row) st.lawful.is_run found in
        let inc : row.who.inc ≡ c.who.inc = s f host row there ∙ ap (λ (u : World). (host_row u.server.kept host).inc) (sym st.lawful.is_run)
        ∙ line-inc host c at in
        let same_host : row.who.host ≡ c.who.host = (found-row f host p.world.server.table.rows row found).1 ∙ sym (holds.clients host c at).here in
        ap (λ n. record { host = n; inc = row.who.inc }) same_host ∙ ap (λ n. record { host = c.who.host; inc = n }) inc

    alone : WritesAlone p.world.server.table.rows
    alone = subst (λ (u : World). WritesAlone u.server.table.rows) (sym st.lawful.is_run) (stands-apart head p.events).alone

    module _ (k : ℕ) (next : IsNext p k) where
      abbrev pub rest : List Packet
      rest = packets_of p.world.packets (next.before ++ next.behind)

      abbrev pub after : Play
      after = play p (Event.Deliver k)

      pub in-rest : (y z : Packet) → slice_get p.world.packets k ≡ Some y → In rest z → In (queue p) z
      in-rest y z sent i = subst (λ q. In q z) (sym (queue-parts p k next st.rising y sent)) (later (in-append (packets_of p.world.packets next.before)
          (packets_of p.world.packets next.behind) z (subst (λ q. In q z) (rest-parts p k next st.rising) i)))
        where
          later : In (packets_of p.world.packets next.before) z ⊎ In (packets_of p.world.packets next.behind) z
              → In (packets_of p.world.packets next.before ++ y ∷ packets_of p.world.packets next.behind) z
          later (inl j) = in-left (packets_of p.world.packets next.before) (y ∷ packets_of p.world.packets next.behind) z j
          later (inr j) = in-right (packets_of p.world.packets next.before) (y ∷ packets_of p.world.packets next.behind) z (inr j)

      -- the packet itself is under way
      in-head : (y : Packet) → slice_get p.world.packets k ≡ Some y → In (queue p) y
      in-head y sent = subst (λ q. In q y) (sym (queue-parts p k next st.rising y sent)) (in-right (packets_of p.world.packets next.before)
          (y ∷ packets_of p.world.packets next.behind) y (inl refl))

      -- it may as well stand first: what hopes and what is clear stays so
      pub queue-front : (y : Packet) → slice_get p.world.packets k ≡ Some y → Fronts p.world (queue p) (y ∷ rest)
      queue-front y sent = subst (λ q. Fronts p.world q (y ∷ rest)) (sym (queue-parts p k next st.rising y sent))
          (subst (λ q. Fronts p.world (packets_of p.world.packets next.before ++ y ∷ packets_of p.world.packets next.behind) (y ∷ q))
          (sym (rest-parts p k next st.rising))
          (to-front p.world y (packets_of p.world.packets next.before) (packets_of p.world.packets next.behind)
          (λ z i one. before-apart p k next st.rising y z sent i one)))

      pub rest-sent : (z : Packet) → In rest z → In p.world.packets z
      rest-sent z i = let c = rest-comes p k next st.rising z i in in-get p.world.packets c.number z c.is

      -- what a step leads to
      pub record Next (v : World) (q : List Packet) (y : Packet) : Type 0 where
        pub wants : Wants v q
        pub none_renew : NoneRenew v
        pub on : (host : ℕ) (c : Client) → slice_get v.clients host ≡ Some c → c.attached ≡ true
        pub moves : Moves p.world v (y ∷ rest) q
        pub pauses : Paused p.world v

      -- ---- a request at the server

      module _ (y : Packet) (sent : slice_get p.world.packets k ≡ Some y) (b x : ℕ) (r : Request) (c : Client) (at : slice_get p.world.clients b ≡ Some c)
          (is : y ≡ from_host b (call x r)) where
        head-is : Comes p (from_host b (call x r))
        head-is = record { number = k; fresh = next-in p k next; is = sent ∙ ap Some is }

        order : InOrder p b c
        order = ordered most head p st.lawful st.order b c at

        mine : IsAt b c p.world.packets
        mine = holds.clients b c at

        there : Asked p.world.packets c.who.host x r
        there = subst (λ n. Asked p.world.packets n x r) (sym mine.here) (in-get p.world.packets k (from_host b (call x r)) (sent ∙ ap Some is))

        asker-now : Asker p.world.server.table.rows p.world.clients rest b x r c
        asker-now = record {
          caller = record {
            same = λ t asks number. (mine.mail.asked x r c.who there (order.asks x r head-is)).same refl t asks number;
            meant = λ t u f asks job has on. ((run-asks head p.events b c (at-run b c at)).about t u asks job has).about f on;
            unrenewed = λ t u asks has job. st.none_renew b c t u at asks has job;
            held = λ f own found. (tags most head p st.lawful b c at (st.on b c at)).held f own found;
            holder = λ f own found. holder b c at f own found;
          };
          alone = alone;
          wants = λ f want w. wanting f want (st.wants b x f c r want at (subst (λ z. In (queue p) z) is (in-head y sent)) w);
          unreplied = λ f want w t a asks i inc. order.unreplied x f r want t a head-is w asks (rest-comes p k next st.rising (to_host b
              (reply t.xid a)) i) inc;
        }
          where
            wanting : (f : ℕ) (want : Want) → WantedNow p.world.server.table.rows (queue p) b c x f want → Wanting p.world.server.table.rows b c f want
            wanting f want (of_call u has early fit) = by_call u has early fit
            wanting f want (of_row row idle found kind mode least) = by_renewal idle row found mode

        pub server-next : (t : ServerStep) → IsServed p.world.server.table.rows t.server.table.rows t.sends b c.who x r
            → Next (after_server p.world t) (rest ++ t.sends) y
        unfolding after_server head-is
        server-next t s = record {
          wants = λ host z f d q want there_at i w. later host z f d q want there_at (in-append rest t.sends (from_host host (call z q)) i) w;
          none_renew = st.none_renew;
          on = st.on;
          pauses = λ a d u here has. (d, u, here, has, λ late. (refl, refl));
          moves = by (fate p.world.server.table.rows t.server.table.rows p.world.clients y rest t.sends b x r c at is s asker-now.caller);
        }
          where
            clear : (g : Bool) (host : ℕ) → Clear g p.world.server.table.rows p.world.clients (y ∷ rest) host
                → Clear g t.server.table.rows p.world.clients (rest ++ t.sends) host
            clear g host = clear-on p.world.server.table.rows t.server.table.rows p.world.clients y rest t.sends b x r c at is s asker-now g host

            by : Fate p.world.server.table.rows t.server.table.rows p.world.clients y rest t.sends b c
                → Moves p.world (after_server p.world t) (y ∷ rest) (rest ++ t.sends)
            by (all_on on) = all_move on clear
            by (off others o) = all_but b others clear
                (off-clear p.world.server.table.rows t.server.table.rows p.world.clients y rest t.sends b x r c at is s asker-now o)
                (off-hope p.world.server.table.rows t.server.table.rows p.world.clients y rest t.sends b x r c at is s asker-now others o)

            no-request : (host : ℕ) (m : Message) → In t.sends (from_host host m) → ⊥
            no-request host m i = let z = s.for_hosts (from_host host m) i in not-both host z.0 m z.1 z.2

            kept : (host z f : ℕ) (d : Client) (q : Request) (want : Want) → slice_get p.world.clients host ≡ Some d
                → In rest (from_host host (call z q)) → WantedNow p.world.server.table.rows (queue p) host d z f want
                → WantedNow t.server.table.rows (rest ++ t.sends) host d z f want
            kept host z f d q want there_at i (of_call u has early fit) = of_call u has early fit
            kept host z f d q want there_at i (of_row row idle found kind mode least) = whose (host == b) refl
              where
                least-now : (v : ℕ) (o : Request) → In (rest ++ t.sends) (from_host host (call v o)) → z ≤ v
                least-now v o j = from (in-append rest t.sends (from_host host (call v o)) j)
                  where
                    from : In rest (from_host host (call v o)) ⊎ In t.sends (from_host host (call v o)) → z ≤ v
                    from (inl old) = least v o (in-rest y (from_host host (call v o)) sent old)
                    from (inr new) = absurd (no-request host (call v o) new)

                whose : (e : Bool) → (host == b) ≡ e → WantedNow t.server.table.rows (rest ++ t.sends) host d z f want
                whose false e =
                    let n = s.keeps f host row (λ same. let yes : (host == b) ≡ true = number-same host b same in absurd (cc)) found kind in
                    of_row n.0 idle n.1 (ap caches n.2.mode ∙ kind) (subst (λ m. greater_mode m want.mode ≡ m) (sym n.2.mode) mode) least-now
                whose true e =
                    let same : host ≡ b = same-number host b e in
                    let low : z ≤ x = least x r (subst (λ n. In (queue p) (from_host n (call x r))) (sym same) (subst (λ z. In (queue p) z) is
                    (in-head y sent))) in
                    let c2 = rest-later p k next st.rising y (from_host b (call z q)) sent (record {
                      sender = ap (λ (o : Packet). o.sender) (sym is);
                      to =
                          ap (λ (o : Packet). o.to) (sym is);
                    }) (subst (λ n. In rest (from_host n (call z q))) same i) in
                    let high : x < z = order.rises x z r q head-is c2.0 c2.1 in
                    absurd (omega arith)

            later : (host z f : ℕ) (d : Client) (q : Request) (want : Want) → slice_get p.world.clients host ≡ Some d
                → In rest (from_host host (call z q)) ⊎ In t.sends (from_host host (call z q)) → IsWant q f want
                → WantedNow t.server.table.rows (rest ++ t.sends) host d z f want
            later host z f d q want there_at (inl i) w = kept host z f d q want there_at i (st.wants host z f d q want there_at (in-rest y (from_host host
                (call z q)) sent i) w)
            later host z f d q want there_at (inr i) w = absurd (no-request host (call z q) i)

        pub server-served : (t : ServerStep) → t ≡ receive p.world.server (sending_host y.sender) (length p.world.packets) (datagram_of y.message)
            → IsServed p.world.server.table.rows t.server.table.rows t.sends b c.who x r
        server-served t e =
            let datagram : receive p.world.server (sending_host y.sender) (length p.world.packets) (datagram_of y.message) ≡ receive p.world.server b
            (length p.world.packets) (datagram_of (call x r)) = ap (λ (z : Packet). receive p.world.server (sending_host z.sender)
            (length p.world.packets) (datagram_of z.message)) is in
            subst (λ (v : ServerStep). IsServed p.world.server.table.rows v.server.table.rows v.sends b c.who x r) (sym (e ∙ datagram))
            (served most head p st.lawful phase b x (length p.world.packets) r c.who (order.asks x r head-is) mine.here (line-inc b c at)
            (λ n sq. order.fresh x n r head-is sq) c at)
