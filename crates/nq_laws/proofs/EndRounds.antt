-- Round after round of a network in which nobody calls: the leases over delayed writes end, so all that is delayed is stored by then.
use Rattle.std.proofs.Common.{◌≡◌, ◌≤◌, ◌<◌, ℕ, ◌+◌, ◌-◌, true, false, List, [], ◌∷◌, Some, None, refl, sym, subst, ◌∙◌, arith}
use Rattle.std.specs.Prelude.{slice_get}
use Rattle.nq_base.specs.declared.Event.{Event}
use Rattle.nq_base.specs.declared.Mode.{Mode}
use Rattle.nq_base.specs.declared.Mode.TheVariants.{NonCaching, Reading, Writing}
use Rattle.nq_base.specs.declared.Push.{Push}
use Rattle.nq_base.specs.declared.Tag.{Tag}
use Rattle.nq_base.specs.declared.Who.{Who}
use Rattle.nq_model.specs.protocol.Client.{Client, Lease, lease_on, is_clean}
use Rattle.nq_model.specs.laws.LeaseInterval.{claim_of, IsCovered, cover_end}
use Rattle.nq_model.specs.protocol.Lines.{Play}
use Rattle.nq_model.specs.protocol.Server.{Phase, serving, recovering, Server}
use Rattle.nq_model.specs.protocol.Skew.{IsWithinSkew}
use Rattle.nq_model.specs.protocol.Table.{caches, is_writing}
use Rattle.nq_model.specs.protocol.World.{Head, World, run}
use Rattle.nq_model.specs.laws.Bounds.{KeepsBounds}
use Rattle.walk_steps.proofs.LeaseIntervals.{run-runs}
use Rattle.law_rounds.specs.AtRest.{HasStored}
use Rattle.law_rounds.specs.CalmRoundsAreLawful.{IsLawful}
use Rattle.walk_steps.proofs.ClientMoves.{some-same, none-some}
use Rattle.walk_steps.proofs.ServerLives.{between}
use Rattle.walk_steps.proofs.Worlds.{run-holds}
use Rattle.walk_steps.proofs.Rows.{number-same}
use Rattle.walk_steps.proofs.ServerTables.{BootsFit, StandingFits}
use Rattle.law_rounds.specs.RoundsEndQuiet.{IsQuiet}
use Rattle.nq_laws.proofs.LeaseEnds.{EndsWithin}

-- ---- how long a lease runs

module _ (most : ℕ) (head : Head) where
  covered-boot : (s : Server) (phase : Phase) (who : Who) (file : ℕ) (mode : Mode) (tag : Tag) (until : ℕ) → BootsFit s.kept.boot s.kept.opened phase
      s.table → StandingFits s.kept.files phase s.table → IsCovered s phase (claim_of who file mode tag until) → tag.boot ≡ s.kept.opened
  covered-boot s serving who file mode tag until boots stood c =
      let k = stood.fits file who.host c.row c.stands in
      between s.table.boot c.row.since tag c.row.tag k.since_boot k.tag_boot c.fits.began c.fits.goes_on ∙ boots.table_boot ∙ sym boots.opened_now
  covered-boot s (recovering end heard last) who file mode tag until boots stood c = c.of_last_boot

  writes-caches : (m : Mode) → is_writing m ≡ true → caches m ≡ true
  writes-caches Writing e = refl
  writes-caches Reading e = absurd (cc)
  writes-caches NonCaching e = absurd (cc)

  -- a running lease to write ends within the longest term of all boots
  lease-short : (events : List Event) → KeepsBounds most head events → IsWithinSkew head.hosts most events → (host : ℕ) (c : Client)
      → slice_get (run head events).clients host ≡ Some c → (file : ℕ) (l : Lease) → lease_on file c.leases ≡ Some l → is_writing l.mode ≡ true
      → c.now < l.expiry → l.expiry ≤ c.now + most
  lease-short events bounds within host c at file l on writes runs =
      let r = run-runs most head events bounds within in
      let k = (r.known.clients host c at).covered in
      let a = ((run-holds head events).clients host c at).alone.asking.leased file l on in
      let first = a.term in
      let last = a.past in
      let caching = writes-caches l.mode writes in
      let covered = k.held file l on caching (omega arith) in
      let boot = covered-boot (run head events).server (run head events).server.phase c.who file l.mode l.tag
      (cover_end c.who.host (l.expiry - l.term) l.term events) r.served.boots r.served.stood covered in
      let short = k.held_short file l on caching boot in
      let few = r.served.terms.kept_few in
      omega arith

  -- ---- who is quiet and has no open call

  pub quiet-ends : (q : Play) → IsLawful most head q → (host : ℕ) (c : Client) → slice_get q.world.clients host ≡ Some c → IsQuiet c → c.call ≡ None
      → EndsWithin most c
  quiet-ends q l host c at quiet answered = record {
    answered = answered;
    idle = λ t e. none-some t (sym quiet.no_request ∙ e);
    ends = λ file lease unclean on.
        let h = quiet.held file unclean in
        let same : h.0 ≡ lease = some-same h.0 lease (sym h.1 ∙ on) in
        let late = h.2.late in
        subst (λ (x : Lease). x.expiry ≤ c.now + most) same
        (lease-short q.events l.bounds l.within host c (subst (λ (u : World). slice_get u.clients host ≡ Some c) l.is_run at) file h.0 h.1 h.2.writes
        (omega arith));
  }

  -- where all leases over delayed writes are over there are none
  pub quiet-stored : (c : Client) → IsQuiet c → EndsWithin 0 c → HasStored c
  quiet-stored c quiet e = record { none_delayed = none-dirty c.dirty refl; none_under_way = quiet.no_push }
    where
      none-dirty : (ds : List Push) → c.dirty ≡ ds → c.dirty ≡ []
      none-dirty [] is = is
      none-dirty (d ∷ ds) is =
          let unclean : is_clean c d.file ≡ false = rw (is, number-same d.file d.file refl) refl in
          let h = quiet.held d.file unclean in
          let over = e.ends d.file h.0 unclean h.1 in
          let late = h.2.late in
          absurd (omega arith)
