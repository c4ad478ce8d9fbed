-- Each step of the server keeps a client's delayed writes bound or excused.
use Rattle.std.proofs.Common.{◌≡◌, ◌<◌, ◌⊎◌, ℕ, true, List, ◌++◌, Some, refl, sym, subst, ap, ◌∙◌, arith, inl, inr}
use Rattle.nq_base.specs.declared.Entry.{Entry}
use Rattle.nq_base.specs.declared.Event.{Event}
use Rattle.nq_base.specs.declared.HostRow.{HostRow}
use Rattle.nq_base.specs.declared.Mode.TheVariants.{Writing}
use Rattle.nq_base.specs.declared.Push.{Push}
use Rattle.nq_base.specs.declared.Request.{Request}
use Rattle.nq_base.specs.declared.Tag.{Tag}
use Rattle.nq_base.specs.declared.Verdict.{Verdict}
use Rattle.nq_base.specs.declared.Who.{Who}
use Rattle.walk_files.proofs.ChainFacts.{ChainFits}
use Rattle.walk_steps.proofs.ClientFacts.{push_in, fits_job}
use Rattle.walk_steps.proofs.ClientMoves.{attached-with-ticket, some-same, none-some}
use Rattle.walk_files.proofs.BoundOrExcused.{ClientExcused, server-excused}
use Rattle.walk_files.proofs.FromChains.{stood-bound}
use Rattle.walk_files.proofs.RefusedPushes.{PushShape, push-shape, bound-stored}
use Rattle.walk_steps.proofs.BoundBefore.{Stood, StandsWriting, stood-receive, stood-tick, only-stood}
use Rattle.walk_files.proofs.BoundRows.{IsBound, EndedBy, bound-fitting, tick-bound, crash-bound, crash-standing, crash-line}
use Rattle.walk_files.proofs.Cuts.{IsExcusedIn, excused-now}
use Rattle.walk_files.proofs.Holdings.{IsHeldBound, RefusedUnbound}
use Rattle.walk_files.proofs.LinesAfter.{LineAfter, line_same, line_rises, line_done, line_put_off, line_declined, IsDecided, line-after}
use Rattle.walk_files.proofs.LogRuns.{Alone as ServerAlone, LogRuns, none-recovering}
use Rattle.walk_files.proofs.ServerPlain.{receive-plain, tick-plain, crash-plain}
use Rattle.walk_files.proofs.Waiting.{IsWaiting}
use Rattle.walk_steps.proofs.ServerLives.{HasServed}
use Rattle.nq_model.specs.protocol.Client.{Client, attaching, Lease, Ticket, lease_on}
use Rattle.nq_model.specs.protocol.Kept.{host_row}
use Rattle.nq_model.specs.laws.LeaseInterval.{claim_of, HasFitting}
use Rattle.nq_model.specs.protocol.Message.{Packet, Datagram, request, asker, sequence_of}
use Rattle.nq_model.specs.protocol.Server.{Server, standing}
use Rattle.nq_model.specs.protocol.ServerStep.{receive, tick, crash}
use Rattle.walk_steps.proofs.TickLines.{tick-line}
use Rattle.walk_steps.proofs.ClientSteps.{KnowsOf}
use Rattle.walk_steps.proofs.HostLine.{IsSettled}
use Rattle.walk_steps.proofs.Packets.{Asked}
use Rattle.walk_steps.proofs.ServerKnows.{Effect}
use Rattle.walk_steps.proofs.TagFacts.{IsDrawn}
use Rattle.walk_steps.proofs.Worlds.{IsAt}
use Rattle.walk_steps.proofs.LogMoves.{timed}
use Rattle.walk_steps.proofs.ServerNumbers.{LinesFitOf}
use Rattle.walk_steps.proofs.ServerTables.{BootsFitOf, StandingFitsOf}
use Rattle.walk_steps.proofs.ServerOutcomes.{IsDeclined, base_in}

-- a bound file's row stands writing
bound-writing : (s : Server) (who : Who) (file : ℕ) (tag : Tag) → IsBound s s.phase who file tag → StandsWriting who file tag (standing s).rows
bound-writing s who file tag b =
    let f : HasFitting (claim_of who file Writing tag 0) (standing s) = bound-fitting s s.phase who file tag b in
    record { row = f.row; stands = f.stands; holder = f.fits.holder; began = f.fits.began; writes = f.fits.kind }

module _ (s : Server) (events : List Event) (c : Client) (ps : List Packet) (journal : List Entry) (a : IsAt c.who.host c ps)
    (knows : KnowsOf (host_row s.kept c.who.host) s events c ps) (k : ChainFits s c ps) (boots : BootsFitOf s) (stands : StandingFitsOf s)
    (h : ClientExcused s c journal) where
  -- a step after which a bound file's row stood before, and the line is the same, keeps that a refused push is of an unbound file
  kept-refused : (t : Server) → host_row t.kept c.who.host ≡ host_row s.kept c.who.host
      → ((file : ℕ) (l : Lease) → lease_on file c.leases ≡ Some l → StandsWriting c.who file l.tag (standing t).rows
      → Stood c.who file l.tag (standing s).rows) → RefusedUnbound t c.who c.ticket c.leases
  kept-refused t same stood u p n asks pushes seq inc decided not_done b =
      h.refused u p n asks pushes seq (ap (λ l. l.inc) (sym same) ∙ inc) (ap (λ l. l.seq) (sym same) ∙ decided)
      (λ done. not_done (ap (λ l. l.verdict) same ∙ done))
      (stood-bound s c ps k boots stands p.file b.lease b.held b.writes (stood p.file b.lease b.held (bound-writing t c.who p.file b.lease.tag b.bound)))

  drawn : (file : ℕ) (l : Lease) → lease_on file c.leases ≡ Some l → IsDrawn (standing s).boot (standing s).drawn l.tag
  drawn file l held = knows.tagged.held file l held

  -- ---- a datagram

  module _ (sender next : ℕ) (d : Datagram) (was_sent : (x : ℕ) (r : Request) → d ≡ request x r → Asked ps sender x r) (lines : LinesFitOf s)
      (effect : Effect ps s (receive s sender next d) c.who c.ticket c.leases) where
    t : Server
    t = (receive s sender next d).server

    module _ (u : Ticket) (p : Push) (n : ℕ) (asks : c.ticket ≡ Some u) (pushes : push_in u.request ≡ Some p) (b : IsHeldBound s c.who c.leases p.file) where
      sh : PushShape u.request p
      sh = push-shape u.request p pushes

      no-job : u.job ≡ attaching → ⊥
      no-job job = attaches u.request pushes (subst (λ j. fits_job j u.request ≡ true) job (a.alone.asking.ticketed u asks).fits)
        where
          attaches : (q : Request) → push_in q ≡ Some p → fits_job attaching q ≡ true → ⊥
          attaches (Request.Attach w) e f = none-some p e
          attaches q e f = absurd (cc)

      current : (host_row s.kept c.who.host).inc ≡ c.who.inc
      current = knows.lined.current (attached-with-ticket a.alone.asking u asks no-job)

      -- a request of the host that is decided is the push under way
      is-own : (x seq : ℕ) (w : Who) (r : Request) (after : HostRow) → IsDecided s sender d c.who.host after x seq w r
          → (u.request ≡ r) × (w ≡ c.who) × ((host_row s.kept c.who.host).seq < sh.seq)
      is-own x seq w r after dec = case (knows.lined.settled current x r w seq sent dec.by inc draws)
        where
          sent : Asked ps c.who.host x r
          sent = subst (λ m. Asked ps m x r) (sym dec.fresh.current.from.host ∙ dec.at) (was_sent x r dec.sent)

          inc : w.inc ≡ c.who.inc
          inc = dec.fresh.current.inc ∙ ap (λ m. (host_row s.kept m).inc) dec.at ∙ current

          draws : sequence_of r ≡ Some seq
          draws = dec.draws

          above : (host_row s.kept c.who.host).seq < seq
          above =
              let before = dec.fresh.above in
              let same : (host_row s.kept w.host).seq ≡ (host_row s.kept c.who.host).seq = ap (λ m. (host_row s.kept m).seq) dec.at in omega arith

          case : IsSettled c.ticket (host_row s.kept c.who.host).seq x seq → (u.request ≡ r) × (w ≡ c.who) × ((host_row s.kept c.who.host).seq < sh.seq)
          case (inl old) = let new = above in absurd (omega arith)
          case (inr v) =
              let one : v.0 ≡ u = some-same v.0 u (sym v.1 ∙ asks) in
              let is : u.request ≡ r = (a.mail.asked x r w sent dec.by).same inc u asks (ap (λ z. z.xid) (sym one) ∙ v.2) in
              let who_is : w ≡ c.who = some-same w c.who (sym dec.by ∙ ap asker (sym is) ∙ (a.alone.asking.ticketed u asks).asks) in
              let same : sh.seq ≡ seq = some-same sh.seq seq (ap sequence_of (sym sh.is) ∙ ap sequence_of is ∙ draws) in
              let new = above in
              (is, who_is, omega arith)

      by-line : (after : HostRow) → LineAfter s sender d c.who.host after → sequence_of u.request ≡ Some n → after.inc ≡ c.who.inc → after.seq ≡ n
          → (after.verdict ≡ Verdict.Done → ⊥) → ⊥
      by-line after (line_same same) seq inc decided not_done =
          h.refused u p n asks pushes seq (ap (λ l. l.inc) (sym same) ∙ inc) (ap (λ l. l.seq) (sym same) ∙ decided)
          (λ done. not_done (ap (λ l. l.verdict) same ∙ done)) b
      by-line after (line_rises later) seq inc decided not_done = let now = current in absurd (omega arith)
      by-line after (line_done done) seq inc decided not_done = not_done done
      by-line after (line_put_off x sq w r dec none) seq inc decided not_done =
          let own = is-own x sq w r after dec in
          none-some sh.base (sym none ∙ ap base_in (sym own.0) ∙ ap base_in sh.is)
      by-line after (line_declined x sq w r verdict dec declined) seq inc decided not_done =
          let own = is-own x sq w r after dec in
          bound-stored s c ps k boots stands h.blocks u p asks sh own.2 b w verdict own.1 (subst (λ z. IsDeclined s w z verdict) (sym own.0) declined)

    refused-receive : RefusedUnbound t c.who c.ticket c.leases
    unfolding t
    refused-receive u p n asks pushes seq inc decided not_done b =
        let before : IsHeldBound s c.who c.leases p.file = stood-bound s c ps k boots stands p.file b.lease b.held b.writes
        (stood-receive s c.who p.file b.lease.tag stands (drawn p.file b.lease b.held) sender next d
        (bound-writing t c.who p.file b.lease.tag b.bound)) in
        by-line u p n asks pushes before (host_row t.kept c.who.host) (line-after s sender next d c.who.host lines) seq inc decided not_done

    bound-receive : (p : Push) → IsWaiting c.dirty c.push p → IsHeldBound s c.who c.leases p.file
        → IsHeldBound t c.who c.leases p.file ⊎ IsExcusedIn ((receive s sender next d).entries ++ journal) c.who p
    unfolding t
    bound-receive p waits b =
        inl
        (record {
          lease = b.lease;
          held = b.held;
          writes = b.writes;
          bound = effect.covers p.file Writing b.lease.tag 0 (inl (b.lease, b.held, refl))
              refl b.bound;
        })

    -- a datagram keeps it
    pub receive-excused : ClientExcused (receive s sender next d).server c ((receive s sender next d).entries ++ journal)
    unfolding t
    receive-excused = server-excused s t c (receive s sender next d).entries journal (receive-plain s sender next d) bound-receive refused-receive h

  -- ---- a tick

  module _ (most booted now : ℕ) (alone : ServerAlone most s) (logs : LogRuns booted s (timed journal)) where
    bound-tick : (p : Push) → IsWaiting c.dirty c.push p → IsHeldBound s c.who c.leases p.file
        → IsHeldBound (tick s now).server c.who c.leases p.file ⊎ IsExcusedIn ((tick s now).entries ++ journal) c.who p
    bound-tick p waits b = case (tick-bound most booted s journal alone logs c.who p.file b.lease.tag now b.bound)
      where
        case : IsBound (tick s now).server (tick s now).server.phase c.who p.file b.lease.tag ⊎ EndedBy journal c.who p.file (tick s now)
            → IsHeldBound (tick s now).server c.who c.leases p.file ⊎ IsExcusedIn ((tick s now).entries ++ journal) c.who p
        case (inl bound) = inl (record { lease = b.lease; held = b.held; writes = b.writes; bound = bound })
        case (inr ended) = inr (subst (λ es. IsExcusedIn (es ++ journal) c.who p) (sym ended.made) (excused-now c.who p ended.entry journal ended.ends))

    -- a tick of the server's clock keeps it
    pub tick-excused : ClientExcused (tick s now).server c ((tick s now).entries ++ journal)
    tick-excused =
        server-excused s (tick s now).server c (tick s now).entries journal (tick-plain s now) bound-tick
        (kept-refused (tick s now).server (tick-line s now c.who.host)
        (λ file l held. stood-tick s c.who file l.tag stands (drawn file l held) now (none-recovering most s alone))) h

  -- ---- a crash

  module _ (longest : ℕ) (served : HasServed s.kept) where
    bound-crash : (p : Push) → IsWaiting c.dirty c.push p → IsHeldBound s c.who c.leases p.file
        → IsHeldBound (crash s longest).server c.who c.leases p.file ⊎ IsExcusedIn ((crash s longest).entries ++ journal) c.who p
    bound-crash p waits b =
        inl
        (record { lease = b.lease; held = b.held; writes = b.writes; bound = crash-bound s longest c.who p.file b.lease.tag boots stands served b.bound })

    -- a crash keeps it
    pub crash-excused : ClientExcused (crash s longest).server c ((crash s longest).entries ++ journal)
    crash-excused =
        server-excused s (crash s longest).server c (crash s longest).entries journal (crash-plain s longest) bound-crash
        (kept-refused (crash s longest).server (crash-line s longest c.who.host served)
        (λ file l held w. only-stood c.who file l.tag (standing s).rows
        (subst (λ table. StandsWriting c.who file l.tag table.rows) (crash-standing s longest served) w))) h
