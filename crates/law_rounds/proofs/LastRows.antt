-- While the server recovers, the rows of its last table end before the recovery may, and once they are over no lease of theirs runs.
use Rattle.std.proofs.Common.{◌≡◌, ◌≤◌, ◌<◌, ℕ, ◌+◌, ◌-◌, ◌==◌, nat_lt, max, Bool, true, false, List, Option, Some, length, refl, sym, subst, ap, ◌∙◌, arith}
use Rattle.std.specs.Prelude.{slice_get}
use Rattle.nq_base.specs.declared.Event.{Event}
use Rattle.nq_base.specs.declared.Grant.{Grant}
use Rattle.nq_base.specs.declared.Mode.{Mode}
use Rattle.nq_base.specs.declared.Mode.TheVariants.{NonCaching, Reading, Writing}
use Rattle.nq_base.specs.declared.Row.{Row}
use Rattle.nq_base.specs.declared.Tag.{Tag}
use Rattle.nq_model.specs.protocol.Client.{Client, Lease, Ticket, lease_on}
use Rattle.nq_model.specs.laws.LeaseInterval.{IsCovered, OutlivedBy, claim_of, cover_end}
use Rattle.nq_model.specs.protocol.Message.{Datagram, datagram_of}
use Rattle.nq_model.specs.protocol.Profile.{skew, write_slack}
use Rattle.nq_model.specs.protocol.Server.{Phase, serving, recovering, Server, last_table, last_in}
use Rattle.nq_model.specs.protocol.ServerStep.{receive, tick, crash, boot, boot_phase}
use Rattle.nq_model.specs.protocol.Skew.{IsWithinSkew, ticks_of}
use Rattle.nq_model.specs.protocol.Table.{Table, caches, is_writing, find_row}
use Rattle.nq_model.specs.protocol.World.{Head, after_client, after_server, sending_host, start, run}
use Rattle.nq_model.specs.laws.Bounds.{KeepsBounds}
use Rattle.law_rounds.proofs.RowEnds.{rows-end-soon, recoveries-end-soon}
use Rattle.walk_steps.proofs.LeaseIntervals.{run-runs}
use Rattle.walk_steps.proofs.WorldClocks.{run-clocked}
use Rattle.walk_steps.proofs.CoverFacts.{IsTakeable}
use Rattle.walk_steps.proofs.Clocks.{runs-below}
use Rattle.walk_steps.proofs.RunCases.{Keeps, run-keeps}
use Rattle.walk_steps.proofs.Worlds.{run-holds}
use Rattle.walk_steps.proofs.Rows.{choice}
use Rattle.walk_steps.proofs.ServerMoves.{server-moves, phase-moves, tick-moves}
use Rattle.walk_steps.proofs.Tests.{is-below, is-not-below}

-- the rows of the last table end so long before the recovery
abbrev pub EndsBefore : Phase → Type 0
EndsBefore phase = (until heard : ℕ) (last : Option Table) → phase ≡ recovering until heard last → (file host : ℕ) (row : Row)
    → find_row file host (last_table last).rows ≡ Some row → row.until + write_slack ≤ until

pub same-until : (a b c d : ℕ) (l m : Option Table) → recovering a c l ≡ recovering b d m → a ≡ b
same-until a b c d l m e = cc

pub same-last : (a b c d : ℕ) (l m : Option Table) → recovering a c l ≡ recovering b d m → l ≡ m
same-last a b c d l m e = cc

pub not-serving : (a c : ℕ) (l : Option Table) → serving ≡ recovering a c l → ⊥
not-serving a c l e = cc

module _ (most : ℕ) (head : Head) where
  ends-receive : (s : Server) (sender next : ℕ) (d : Datagram) → EndsBefore s.phase → EndsBefore (receive s sender next d).server.phase
  ends-receive s sender next d h = server-moves s sender next d (λ kept phase table. EndsBefore phase)
      (phase-moves s d (λ longest phase. EndsBefore phase) h (λ until heard last is u hd l e file host row found.
      let before = h until heard last is file host row (ap (λ o. find_row file host (last_table o).rows) (same-last _ u _ hd last l e) ∙ found) in
      let grown : max until (s.now + write_slack) ≡ u = same-until _ u _ hd last l e in
      more until (s.now + write_slack) u (row.until + write_slack) grown before))
    where
      more : (a b u n : ℕ) → max a b ≡ u → n ≤ a → n ≤ u
      more a b u n e low = omega arith

  ends-tick : (s : Server) (now : ℕ) → EndsBefore s.phase → EndsBefore (tick s now).server.phase
  ends-tick s now h = tick-moves s now (λ kept phase table. EndsBefore phase) (record {
    waits = λ until heard last is goes. h;
    opening = λ until heard last is over u hd l e. absurd (not-serving u hd l e);
    ends_reading = λ serves. h;
    ending_writing = λ row serves due. h;
  })

  ends-boot : (opened longest now : ℕ) (last : Option Table) → ((file host : ℕ) (row : Row) → find_row file host (last_table last).rows ≡ Some row
      → row.until ≤ (now + longest) + skew) → EndsBefore (boot_phase opened longest now last)
  ends-boot opened longest now last few = choice EndsBefore (opened == 0) serving (recovering (now + longest + (skew + write_slack)) now last)
      (λ first u hd l e. absurd (not-serving u hd l e))
      (λ again u hd l e file host row found.
      let early = few file host row (ap (λ o. find_row file host (last_table o).rows) (same-last _ u _ hd last l e) ∙ found) in
      let until : now + longest + (skew + write_slack) ≡ u = same-until _ u _ hd last l e in
      omega arith)

  ends-crash : (events : List Event) (longest : ℕ) → KeepsBounds most head events → IsWithinSkew head.hosts most events
      → EndsBefore (run head events).server.phase → EndsBefore (crash (run head events).server longest).server.phase
  unfolding crash boot
  ends-crash events longest bounds within h = ends-boot (run head events).server.kept.opened (run head events).server.kept.longest
      (run head events).server.now (last_in (run head events).server.phase (run head events).server.table) (by (run head events).server.phase refl)
    where
      by : (phase : Phase) → (run head events).server.phase ≡ phase → (file host : ℕ) (row : Row)
          → find_row file host (last_table (last_in phase (run head events).server.table)).rows ≡ Some row → row.until ≤ ((run head events).server.now
          + (run head events).server.kept.longest) + skew
      by serving is file host row found =
          let soon = (rows-end-soon most head events bounds within file host row found).until in
          let same = (run-runs most head events bounds within).served.terms.same is in
          omega arith
      by (recovering until heard last) is file host row found =
          let early = h until heard last is file host row found in
          let soon = recoveries-end-soon head events until heard last is in
          omega arith

  starts-serving : EndsBefore (start head).server.phase
  unfolding start boot
  starts-serving u hd l e = absurd (not-serving u hd l e)

  ends-keep : Keeps most head (λ w. EndsBefore w.server.phase)
  unfolding after_client after_server
  ends-keep = record {
    starts = λ b. starts-serving;
    called = λ events host c op during is g. g;
    ticked = λ events host c during is g. g;
    restarted = λ events host c during is g. g;
    heard = λ events k p host c t during sent to is hears g. g;
    received = λ events k p during sent to g. ends-receive (run head events).server (sending_host p.sender) (length (run head events).packets)
        (datagram_of p.message) g;
    server_ticked = λ events during g. ends-tick (run head events).server ((run head events).server.now + 1) g;
    crashed = λ events longest during long few g. ends-crash events longest during.bounds during.within g;
  }

  pub run-ends : (events : List Event) → KeepsBounds most head events → IsWithinSkew head.hosts most events → EndsBefore (run head events).server.phase
  run-ends events bounds within = run-keeps ends-keep events bounds within

  -- ---- once these rows are over no lease runs that lets its holder write

  writes-caches : (m : Mode) → is_writing m ≡ true → caches m ≡ true
  writes-caches Writing e = refl
  writes-caches Reading e = absurd (cc)
  writes-caches NonCaching e = absurd (cc)

  module _ (events : List Event) (bounds : KeepsBounds most head events) (within : IsWithinSkew head.hosts most events) (until heard : ℕ)
      (last : Option Table) (phase : (run head events).server.phase ≡ recovering until heard last) (U : ℕ) (over : (file host : ℕ) (row : Row)
      → find_row file host (last_table last).rows ≡ Some row → row.until ≤ U) (past : U ≤ (run head events).server.now) (host : ℕ) (c : Client)
      (at : slice_get (run head events).clients host ≡ Some c) where
    here : c.who.host ≡ host
    here = ((run-holds head events).clients host c at).here

    -- no claim of a running lease is covered
    no-claim : (file asked term : ℕ) (mode : Mode) (tag : Tag) → asked ≤ c.now → c.now < asked + term
        → (tag.boot ≡ (run head events).server.kept.opened → term ≤ (run head events).server.kept.longest) → IsCovered (run head events).server
        (run head events).server.phase (claim_of c.who file mode tag (cover_end c.who.host asked term events)) → ⊥
    no-claim file asked term mode tag first runs short covered =
        let o : OutlivedBy (claim_of c.who file mode tag (cover_end c.who.host asked term events)) (run head events).server.kept.opened until
        (last_table last) = subst (λ ph. IsCovered (run head events).server ph (claim_of c.who file mode tag (cover_end c.who.host asked term
        events))) phase covered in
        let r = run-runs most head events bounds within in
        let few = r.served.terms.kept_few in
        let brief = short o.of_last_boot in
        let clock = (run-clocked head events).clients host c at in
        let there = r.few host c at in
        let ticks : ticks_of c.who.host events ≡ c.now = ap (λ h. ticks_of h events) here ∙ sym clock in
        let below = runs-below head.hosts most c.who.host asked term events within (let same = here in omega arith) (omega arith) (omega arith)
        (omega arith) in
        let ends = o.fitting.fits.ends in
        let row = over file c.who.host o.fitting.row o.fitting.stands in
        let server = (run-clocked head events).server in
        omega arith

    pub lease-over : (file : ℕ) (l : Lease) → lease_on file c.leases ≡ Some l → is_writing l.mode ≡ true → l.expiry ≤ c.now
    lease-over file l on writes = by (nat_lt c.now l.expiry) refl
      where
        by : (b : Bool) → nat_lt c.now l.expiry ≡ b → l.expiry ≤ c.now
        by false e = is-not-below c.now l.expiry e
        by true e =
            let runs = is-below c.now l.expiry e in
            let k = ((run-runs most head events bounds within).known.clients host c at).covered in
            let a = ((run-holds head events).clients host c at).alone.asking.leased file l on in
            let first = a.term in
            let last = a.past in
            let caching = writes-caches l.mode writes in
            absurd (no-claim file (l.expiry - l.term) l.term l.mode l.tag (omega arith) (omega arith) (k.held_short file l on caching)
            (k.held file l on caching (omega arith)))

    pub grant-over : (file : ℕ) (g : Grant) (t : Ticket) → IsTakeable (run head events).packets c.who c.ticket file g t → t.first ≤ c.now
        → is_writing g.mode ≡ true → t.first + g.term ≤ c.now
    grant-over file g t can first writes = by (nat_lt c.now (t.first + g.term)) refl
      where
        by : (b : Bool) → nat_lt c.now (t.first + g.term) ≡ b → t.first + g.term ≤ c.now
        by false e = is-not-below c.now (t.first + g.term) e
        by true e =
            let runs = is-below c.now (t.first + g.term) e in
            let k = ((run-runs most head events bounds within).known.clients host c at).covered in
            let caching = writes-caches g.mode writes in
            absurd (no-claim file t.first g.term g.mode g.tag first runs (k.given_short file g t can caching) (k.given file g t can caching runs))
