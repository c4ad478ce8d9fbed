-- A recovery ends soon once the network is calm: the leases of the boot before end, then no client has delayed writes, and none is stored.
use Rattle.std.proofs.Common.{◌≡◌, ◌≢◌, ◌≤◌, ◌<◌, ℕ, ◌+◌, ◌==◌, max, Bool, true, false, List, [], ◌∷◌, Option, Some, None, length, refl, sym, subst}
use Rattle.std.proofs.Common.{ap, ◌∙◌, arith, inl, inr}
use Rattle.std.specs.Prelude.{slice_get, slice_set}
use Rattle.nq_base.specs.declared.Event.{Event}
use Rattle.nq_base.specs.declared.Grant.{Grant}
use Rattle.nq_base.specs.declared.Party.{Party}
use Rattle.nq_base.specs.declared.Push.{Push}
use Rattle.nq_base.specs.declared.PushBase.{PushBase}
use Rattle.nq_base.specs.declared.Reply.{Reply}
use Rattle.nq_base.specs.declared.Request.{Request}
use Rattle.nq_base.specs.declared.Row.{Row}
use Rattle.nq_base.specs.declared.Who.{Who}
use Rattle.nq_model.specs.protocol.Client.{Client, Ticket, Lease, lease_on, is_clean}
use Rattle.nq_model.specs.protocol.Decide.{decides, creates, writes_through, stores, wrote, stores_recovering, resizes, removes, puts_off, commits}
use Rattle.nq_model.specs.protocol.Hear.{inc_of, is_of_procedure, reply_counts}
use Rattle.nq_model.specs.protocol.Kept.{host_row, with_files, with_new_file}
use Rattle.nq_model.specs.laws.LeaseInterval.{grant_in, requested_file}
use Rattle.nq_model.specs.protocol.Lines.{Play, play}
use Rattle.nq_model.specs.protocol.Message.{Packet, Datagram, reply, request, datagram_of}
use Rattle.nq_model.specs.protocol.Profile.{write_slack}
use Rattle.nq_model.specs.protocol.Server.{Phase, recovering, Server, ServerStep, last_table, quiet, drops, says, after_notices, keeping, keeping_with}
use Rattle.nq_model.specs.protocol.Server.{with_table}
use Rattle.nq_model.specs.protocol.ServerStep.{receive, tick, attaches, tells_later, serves, leases, vacates}
use Rattle.nq_model.specs.protocol.Table.{Table, is_writing, find_row}
use Rattle.nq_model.specs.protocol.World.{Head, World, after_client, after_server, sending_host, step, run}
use Rattle.law_runs.proofs.ChainWorlds.{chain-fits}
use Rattle.walk_steps.proofs.LeaseIntervals.{run-runs}
use Rattle.walk_steps.proofs.WorldSequences.{run-draws}
use Rattle.law_rounds.specs.CalmRoundsAreLawful.{IsLawful}
use Rattle.law_rounds.proofs.Attaching.{hear-stays}
use Rattle.walk_steps.proofs.ClientFacts.{IsTicket}
use Rattle.walk_steps.proofs.ClientMoves.{none-some}
use Rattle.walk_steps.proofs.ClientSteps.{KnowsOf}
use Rattle.walk_steps.proofs.HostLine.{IsSettled}
use Rattle.walk_steps.proofs.Packets.{in-get, Asked, Told}
use Rattle.walk_steps.proofs.Worlds.{IsAt, Holds, get-set-same, get-set-other, to-server, to-told, run-holds}
use Rattle.walk_steps.proofs.Rows.{same-number, number-same}
use Rattle.walk_steps.proofs.ServerCases.{server-hears}
use Rattle.walk_steps.proofs.ServerMoves.{server-moves, phase-moves, tick-moves}
use Rattle.walk_steps.proofs.ServerOutcomes.{IsFresh}
use Rattle.law_rounds.specs.RoundsEndQuiet.{IsQuiet}
use Rattle.law_rounds.proofs.Coming.{Delivery, no_packet, at_server, at_host, ignored, no_client, delivery}
use Rattle.law_rounds.proofs.LastRows.{same-until, same-last, not-serving, lease-over, grant-over}
use Rattle.law_rounds.proofs.Sleeping.{Asleep, AllOver, hear-sleeps}

-- a recovery ends no later than this, and the rows of its last table before
abbrev pub RecoversBy : (U : ℕ) → Phase → Type 0
RecoversBy U phase = (until heard : ℕ) (last : Option Table) → phase ≡ recovering until heard last → (until ≤ U + write_slack)
    × ((file host : ℕ) (row : Row) → find_row file host (last_table last).rows ≡ Some row → row.until ≤ U)

-- all clients are attached, have no delayed writes, and no running lease to write
abbrev pub AllAsleep : World → Type 0
AllAsleep w = (host : ℕ) (c : Client) → slice_get w.clients host ≡ Some c → Asleep c × (c.attached ≡ true)

-- ---- a datagram at the server

by-receive : (U : ℕ) (s : Server) (sender next : ℕ) (d : Datagram) → s.now ≤ U → RecoversBy U s.phase → RecoversBy U (receive s sender next d).server.phase
by-receive U s sender next d early h = server-moves s sender next d (λ kept phase table. RecoversBy U phase)
    (phase-moves s d (λ longest phase. RecoversBy U phase) h (λ until heard last is u hd l e.
    let before = h until heard last is in
    let grown : max until (s.now + write_slack) ≡ u = same-until _ u _ hd last l e in (
      more until (s.now + write_slack) u (U + write_slack) grown before.0 (omega arith),
      λ file host row found. before.1 file host row
          (ap (λ o. find_row file host (last_table o).rows) (same-last _ u _ hd last l e) ∙ found),
    )))
  where
    more : (a b u n : ℕ) → max a b ≡ u → a ≤ n → b ≤ n → u ≤ n
    more a b u n e low high = omega arith

-- where no delayed writes come they are not stored
pub phase-same : (s : Server) (sender next : ℕ) (d : Datagram) → ((xid : ℕ) (who : Who) (seq file block first final : ℕ) (base : PushBase) (body : List ℕ)
    → d ≡ request xid (Request.Write who seq file block first final (Some base) body) → IsFresh s sender who seq → ⊥)
    → (receive s sender next d).server.phase ≡ s.phase
unfolding quiet drops says attaches vacates tells_later serves leases decides creates writes_through stores wrote stores_recovering resizes
    removes puts_off commits keeping keeping_with with_table after_notices with_files with_new_file
phase-same s sender next d none = server-hears s sender next d (λ (t : ServerStep). t.server.phase ≡ s.phase) (record {
  stays = refl;
  dropping = λ reason. refl;
  erring = λ m e. refl;
  answers_null = λ x e. refl;
  replying = λ x w r reply e by from plain. refl;
  attaching = λ x w e from later. refl;
  vacating = λ x w file tag e now. refl;
  putting_off = λ x w r f clash e by file asking c. refl;
  putting_off_waiting = λ x w r f clash want e by file wants asking c own room. refl;
  putting_off_by_own = λ x w r f want row e by file wants asking c o evicting. refl;
  reading = λ x w q block f body e asking there c. refl;
  reading_full = λ x w q block want f body e asking there c own room. refl;
  reading_granted = λ x w q block want f body row term e asking there c g. refl;
  leasing_full = λ x w want f e asking c own room. refl;
  leasing = λ x w want f row term e asking c g. refl;
  declining = λ x w seq r v e by sq fresh declined. refl;
  putting_off_change = λ x w seq r f clash e by sq file base changing c. refl;
  creating = λ x w seq blocks name e fresh serves can. refl;
  writing_through = λ x w seq block first last body f e changing below c. refl;
  storing = λ x w seq block first last base body f row e changing below can. refl;
  storing_recovering = λ x w seq block first final base body f until heard last e fresh recovers found below boot rev.
      absurd (none x w seq f.id block first final base body e fresh);
  resizing = λ x w seq q blocks f e changing can c. refl;
  removing = λ x w seq q f e changing c. refl;
})

pub by-tick : (U : ℕ) (s : Server) (now : ℕ) → RecoversBy U s.phase → RecoversBy U (tick s now).server.phase
by-tick U s now h = tick-moves s now (λ kept phase table. RecoversBy U phase) (record {
  waits = λ until heard last is goes. h;
  opening = λ until heard last is over u hd l e. absurd (not-serving u hd l e);
  ends_reading = λ serves. h;
  ending_writing = λ row serves due. h;
})

-- a recovery that a tick does not end is to go on
pub goes-on-after : (s : Server) (now until heard : ℕ) (last : Option Table) → (tick s now).server.phase ≡ recovering until heard last → now < until
goes-on-after s now until heard last is = tick-moves s now (λ kept phase table. phase ≡ recovering until heard last → now < until) (record {
  waits = λ u hd l p goes e. let same = same-until u until hd heard l last (sym p ∙ e) in omega arith;
  opening = λ u hd l p over e. absurd (not-serving until heard last e);
  ends_reading = λ serves e. absurd (not-serving until heard last (sym serves ∙ e));
  ending_writing = λ row serves due e. absurd (not-serving until heard last (sym serves ∙ e));
}) is

-- a reply that brings a grant counts for a request that wants one
read-file : (inc rev : ℕ) (body : List ℕ) (grant : Option Grant) (z : Request) → is_of_procedure (Reply.Read inc rev body grant) z ≡ true
    → requested_file z ≡ None → ⊥
read-file inc rev body grant (Request.Read who n file block want) e f = cc
read-file inc rev body grant other e f = cc

lease-file : (inc : ℕ) (grant : Option Grant) (z : Request) → is_of_procedure (Reply.GetLease inc grant) z ≡ true → requested_file z ≡ None → ⊥
lease-file inc grant (Request.GetLease who file want) e f = cc
lease-file inc grant other e f = cc

no-grant : (a : Reply) (g : Grant) (t : Ticket) → grant_in a ≡ Some g → reply_counts a t ≡ true → requested_file t.request ≡ None → ⊥
no-grant (Reply.Read inc rev body grant) g t e f none = read-file inc rev body grant t.request f none
no-grant (Reply.GetLease inc grant) g t e f none = lease-file inc grant t.request f none
no-grant other g t e f none = none-some g e

-- ---- plays

module _ (most : ℕ) (head : Head) (U : ℕ) where
  module _ (p : Play) (l : IsLawful most head p) where
    holds : Holds p.world
    holds = subst (λ u. Holds u) (sym l.is_run) (run-holds head p.events)

    at-run : (host : ℕ) (c : Client) → slice_get p.world.clients host ≡ Some c → slice_get (run head p.events).clients host ≡ Some c
    at-run host c at = subst (λ (u : World). slice_get u.clients host ≡ Some c) l.is_run at

    -- a client that sleeps has no push under way, so none of it is stored
    pub none-stored : (k : ℕ) (q : Packet) → slice_get p.world.packets k ≡ Some q → q.to ≡ Party.Server → ((c : Client)
        → slice_get p.world.clients (sending_host q.sender) ≡ Some c → Asleep c × (c.attached ≡ true)) → (xid : ℕ) (who : Who)
        (seq file block first final : ℕ) (base : PushBase) (body : List ℕ) → datagram_of q.message ≡ request xid (Request.Write who seq file block
        first final (Some base) body) → IsFresh p.world.server (sending_host q.sender) who seq → ⊥
    none-stored k q sent to sleeps xid who seq file block first final base body d fresh = by (slice_get p.world.clients (sending_host q.sender)) refl
      where
        sent-run : slice_get (run head p.events).packets k ≡ Some q
        sent-run = subst (λ (u : World). slice_get u.packets k ≡ Some q) l.is_run sent

        asked : Asked (run head p.events).packets (sending_host q.sender) xid (Request.Write who seq file block first final (Some base) body)
        asked =
            let i = in-get (run head p.events).packets k q sent-run in
            (to-server (run head p.events).packets q ((run-holds head p.events).sent q i) to i xid (Request.Write who seq file block first final
            (Some base) body) d).0

        above : (host_row (run head p.events).server.kept (sending_host q.sender)).seq < seq
        above = subst (λ (u : World). (host_row u.server.kept (sending_host q.sender)).seq < seq) l.is_run
            (subst (λ n. (host_row p.world.server.kept n).seq < seq) fresh.current.from.host fresh.above)

        kept : who.inc ≡ (host_row (run head p.events).server.kept (sending_host q.sender)).inc
        kept = subst (λ (u : World). who.inc ≡ (host_row u.server.kept (sending_host q.sender)).inc) l.is_run
            (subst (λ n. who.inc ≡ (host_row p.world.server.kept n).inc) fresh.current.from.host fresh.current.inc)

        found : (c : Client) → slice_get p.world.clients (sending_host q.sender) ≡ Some c → ⊥
        found c at = case (knows.lined.settled line xid (Request.Write who seq file block first final (Some base) body) who seq mine refl (kept ∙ line) refl)
          where
            there : slice_get (run head p.events).clients (sending_host q.sender) ≡ Some c
            there = at-run (sending_host q.sender) c at

            knows : KnowsOf (host_row (run head p.events).server.kept (sending_host q.sender)) (run head p.events).server p.events c
                (run head p.events).packets
            knows = (run-runs most head p.events l.bounds l.within).known.clients (sending_host q.sender) c there

            line : (host_row (run head p.events).server.kept (sending_host q.sender)).inc ≡ c.who.inc
            line = knows.lined.current (sleeps c at).1

            here : c.who.host ≡ sending_host q.sender
            here = ((run-holds head p.events).clients (sending_host q.sender) c there).here

            mine : Asked (run head p.events).packets c.who.host xid (Request.Write who seq file block first final (Some base) body)
            mine = subst (λ h. Asked (run head p.events).packets h xid (Request.Write who seq file block first final (Some base) body)) (sym here) asked

            case : IsSettled c.ticket (host_row (run head p.events).server.kept (sending_host q.sender)).seq xid seq → ⊥
            case (inl low) = let high = above in omega arith
            case (inr u) =
                let is : u.0.request ≡ Request.Write who seq file block first final (Some base) body =
                (((run-holds head p.events).clients (sending_host q.sender) c there).mail.asked xid (Request.Write who seq file block first final
                (Some base) body) who mine refl).same (kept ∙ line) u.0 u.1 u.2 in
                let pushed = (chain-fits most head p.events (sending_host q.sender) c l.bounds l.within there).writes.pushed u.0 who seq file block
                first final base body u.1 is in
                none-some _ (sym (sleeps c at).0.push ∙ pushed.under_way)

        by : (o : Option Client) → slice_get p.world.clients (sending_host q.sender) ≡ o → ⊥
        by None none = (run-draws head p.events).lone (sending_host q.sender) xid (Request.Write who seq file block first final (Some base) body)
            asked (subst (λ (u : World). slice_get u.clients (sending_host q.sender) ≡ None) l.is_run none)
        by (Some c) at = found c at

    -- a delivery before the rows are over
    pub early : (k : ℕ) → p.world.server.now ≤ U → RecoversBy U p.world.server.phase → RecoversBy U (play p (Event.Deliver k)).world.server.phase
    unfolding after_server after_client
    early k soon h = by (delivery p.world k)
      where
        by : Delivery p.world k (step p.world (Event.Deliver k)) → RecoversBy U (step p.world (Event.Deliver k)).server.phase
        by (no_packet none is) = subst (λ (w : World). RecoversBy U w.server.phase) (sym is) h
        by (at_server q sent to is) = subst (λ (w : World). RecoversBy U w.server.phase) (sym is) (by-receive U p.world.server (sending_host q.sender)
            (length p.world.packets) (datagram_of q.message) soon h)
        by (at_host host q c t sent to at hears is) = subst (λ (w : World). RecoversBy U w.server.phase) (sym is) h
        by (ignored host q c sent to at hears is) = subst (λ (w : World). RecoversBy U w.server.phase) (sym is) h
        by (no_client host q sent to none is) = subst (λ (w : World). RecoversBy U w.server.phase) (sym is) h

    -- and behind
    pub late : (k : ℕ) → AllAsleep p.world → RecoversBy U p.world.server.phase → RecoversBy U (play p (Event.Deliver k)).world.server.phase
    unfolding after_server after_client
    late k all h = by (delivery p.world k)
      where
        by : Delivery p.world k (step p.world (Event.Deliver k)) → RecoversBy U (step p.world (Event.Deliver k)).server.phase
        by (no_packet none is) = subst (λ (w : World). RecoversBy U w.server.phase) (sym is) h
        by (at_server q sent to is) =
            let same = phase-same p.world.server (sending_host q.sender) (length p.world.packets) (datagram_of q.message)
            (none-stored k q sent to (all (sending_host q.sender))) in
            subst (λ (w : World). RecoversBy U w.server.phase) (sym is) (subst (λ ph. RecoversBy U ph) (sym same) h)
        by (at_host host q c t sent to at hears is) = subst (λ (w : World). RecoversBy U w.server.phase) (sym is) h
        by (ignored host q c sent to at hears is) = subst (λ (w : World). RecoversBy U w.server.phase) (sym is) h
        by (no_client host q sent to none is) = subst (λ (w : World). RecoversBy U w.server.phase) (sym is) h

    -- ---- sleep goes on, where the rows are over

    module _ (until heard : ℕ) (last : Option Table) (phase : p.world.server.phase ≡ recovering until heard last)
        (over : RecoversBy U p.world.server.phase) (past : U ≤ p.world.server.now) where
      phase-run : (run head p.events).server.phase ≡ recovering until heard last
      phase-run = subst (λ (u : World). u.server.phase ≡ recovering until heard last) l.is_run phase

      past-run : U ≤ (run head p.events).server.now
      past-run = subst (λ (u : World). U ≤ u.server.now) l.is_run past

      pub grants-over : (host : ℕ) (c : Client) (k : ℕ) (q : Packet) → slice_get p.world.clients host ≡ Some c → slice_get p.world.packets k ≡ Some q
          → q.to ≡ Party.Client host → (xid : ℕ) (r : Reply) (t : Ticket) → q.message ≡ reply xid r → c.ticket ≡ Some t → xid ≡ t.xid → inc_of r
          ≡ c.who.inc → reply_counts r t ≡ true → AllOver c.now t.first (grant_in r)
      grants-over host c k q at sent to xid r t is has number inc counts g grants writes = by (requested_file t.request) refl
        where
          there : slice_get (run head p.events).clients host ≡ Some c
          there = at-run host c at

          ticketed : IsTicket c.who c.now c.xid c.seq t
          ticketed = ((run-holds head p.events).clients host c there).alone.asking.ticketed t has

          mail : Told (run head p.events).packets c.who.host (reply xid r)
          mail =
              let a = (run-holds head p.events).clients host c there in
              let i = in-get (run head p.events).packets k q (subst (λ (u : World). slice_get u.packets k ≡ Some q) l.is_run sent) in
              subst (λ h. Told (run head p.events).packets h (reply xid r)) (sym a.here) (subst (λ m. Told (run head p.events).packets host m) is
              (to-told (run head p.events).packets q host ((run-holds head p.events).sent q i) to i))

          by : (o : Option ℕ) → requested_file t.request ≡ o → t.first + g.term ≤ c.now
          by (Some file) on =
              grant-over most head p.events l.bounds l.within until heard last phase-run U (over until heard last phase).1 past-run host c there file g t
              (record { x = xid; a = r; told = mail; inc = inc; asked = has; number = sym number; on_file = on; gives = grants })
              (let first = ticketed.sent in let late = ticketed.past in omega arith) writes
          by None none = absurd (no-grant r g t grants counts none)

      pub sleeps-on : (k : ℕ) → AllAsleep p.world → AllAsleep (play p (Event.Deliver k)).world
      unfolding after_server after_client
      sleeps-on k all = by (delivery p.world k)
        where
          by : Delivery p.world k (step p.world (Event.Deliver k)) → AllAsleep (step p.world (Event.Deliver k))
          by (no_packet none is) = subst AllAsleep (sym is) all
          by (at_server q sent to is) = subst AllAsleep (sym is) (λ host c at. all host c at)
          by (ignored host q c sent to at hears is) = subst AllAsleep (sym is) all
          by (no_client host q sent to none is) = subst AllAsleep (sym is) all
          by (at_host host q c t sent to at hears is) = subst AllAsleep (sym is) (λ other d there. case other d (other == host) refl there)
            where
              a : IsAt host c p.world.packets
              a = holds.clients host c at

              mail : Told p.world.packets host q.message
              mail = let i = in-get p.world.packets k q sent in to-told p.world.packets q host (holds.sent q i) to i

              own : Asleep t.client × (t.client.attached ≡ true)
              own = (
                hear-sleeps c k q.message t hears (grants-over host c k q at sent to) (all host c at).0,
                hear-stays host c p.world.packets k
                    q.message t a mail (all host c at).1 hears,
              )

              case : (other : ℕ) (d : Client) (b : Bool) → (other == host) ≡ b → slice_get (slice_set p.world.clients host t.client) other ≡ Some d
                  → Asleep d × (d.attached ≡ true)
              case other d true same there =
                  let one : other ≡ host = same-number other host same in
                  let new : d ≡ t.client = get-set-same p.world.clients host t.client d
                  (subst (λ n. slice_get (slice_set p.world.clients host t.client) n ≡ Some d) one there) in
                  subst (λ z. Asleep z × (z.attached ≡ true)) (sym new) own
              case other d false differs there =
                  let apart : other ≢ host = λ same. let yes : (other == host) ≡ true = number-same other host same in absurd (cc) in
                  all other d (sym (get-set-other p.world.clients host other t.client apart) ∙ there)

      -- who is quiet then sleeps
      pub quiet-sleeps : (host : ℕ) (c : Client) → slice_get p.world.clients host ≡ Some c → IsQuiet c → Asleep c × (c.attached ≡ true)
      quiet-sleeps host c at q = (record { dirty = none-dirty c.dirty refl; push = q.no_push; dead = dead }, q.attached)
        where
          dead : (file : ℕ) (l2 : Lease) → lease_on file c.leases ≡ Some l2 → is_writing l2.mode ≡ true → l2.expiry ≤ c.now
          dead file l2 on writes = lease-over most head p.events l.bounds l.within until heard last phase-run U (over until heard last phase).1
              past-run host c (at-run host c at) file l2 on writes

          none-dirty : (ds : List Push) → c.dirty ≡ ds → c.dirty ≡ []
          none-dirty [] e = e
          none-dirty (d ∷ ds) e =
              let unclean : is_clean c d.file ≡ false = rw (e, number-same d.file d.file refl) refl in
              let h = q.held d.file unclean in
              let over2 = dead d.file h.0 h.1 h.2.writes in
              let soon = h.2.late in
              absurd (omega arith)
