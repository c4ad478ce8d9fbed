-- Ticks of the server's clock and crashes keep what a client and the server know of each other: a lease that runs by its
-- holder's clock stays covered.
use Rattle.std.proofs.Common.{◌≡◌, ◌≢◌, ◌<◌, ◌≤◌, ℕ, ◌+◌, ◌-◌, ◌==◌, ◌&&◌, Bool, true, false, not, nat_le, List, ◌∷◌, Option, Some, None}
use Rattle.std.proofs.Common.{if◌then◌else◌, max, refl, sym, subst, ap, ◌∙◌, arith, inl, inr}
use Rattle.std.specs.List.{find}
use Rattle.std.proofs.lemmas.Bool.Decides.{nat_tests}
use Rattle.std.proofs.lemmas.Bool.{and_parts}
use Rattle.nq_base.specs.declared.Event.{Event}
use Rattle.nq_base.specs.declared.Mode.{Mode}
use Rattle.nq_base.specs.declared.Row.{Row}
use Rattle.nq_base.specs.declared.Tag.{Tag}
use Rattle.nq_base.specs.declared.Who.{Who}
use Rattle.walk_steps.proofs.ClientKnows.{Knows}
use Rattle.walk_steps.proofs.ClientMoves.{some-same}
use Rattle.walk_steps.proofs.Clocks.{runs-below, same-cover, moment-past}
use Rattle.walk_steps.proofs.CoverFacts.{IsShort}
use Rattle.walk_steps.proofs.HostLine.{LineFits}
use Rattle.walk_steps.proofs.RowChanges.{kept_if, find-kept, found-any, unique-filtered, find-other-dropped}
use Rattle.walk_steps.proofs.Rows.{same-number, find-passes}
use Rattle.walk_steps.proofs.ServerCases.{server-ticks}
use Rattle.walk_steps.proofs.ServerChanges.{same-cover-table}
use Rattle.walk_steps.proofs.TermsDrawn.{drawn-more}
use Rattle.walk_steps.proofs.ServerFacts.{fence-lines}
use Rattle.walk_steps.proofs.ServerKnows.{NoneHeard, NoneGiven, Timely}
use Rattle.walk_steps.proofs.ServerNumbers.{TermsFitOf}
use Rattle.walk_steps.proofs.ServerTables.{BootsFit, BootsFitOf, RecoversBoot, StandingFits, StandingFitsOf}
use Rattle.walk_steps.proofs.TableFits.{TableFits}
use Rattle.walk_steps.proofs.TagFacts.{IsDrawn}
use Rattle.nq_model.specs.protocol.Client.{Lease, Notice, Ticket}
use Rattle.nq_model.specs.protocol.Kept.{File, Kept, host_row, find_file, with_files}
use Rattle.nq_model.specs.laws.LeaseInterval.{claim_of, HasFitting, OutlivedBy, IsCovered, cover_end}
use Rattle.nq_model.specs.protocol.Message.{Packet}
use Rattle.nq_model.specs.protocol.Profile.{skew, write_slack}
use Rattle.nq_model.specs.protocol.Server.{Phase, serving, recovering, Server, standing, standing_in, quiet, keeping_with, with_table, last_table, last_in}
use Rattle.nq_model.specs.protocol.ServerStep.{is_over, is_due, end_reading, fence, at_time, opens, ends_writing, tick, boot, booted, boot_phase, crash}
use Rattle.nq_model.specs.protocol.Skew.{server_ticks, ticks_of, IsWithinSkew}
use Rattle.nq_model.specs.protocol.Table.{Table, caches, is_writing, tag_below, find_row, drop_row, with_rows}

-- what a step of the server alone does to what runs by a client's clock
pub record Lives (s t : Server) (e : Event) (events : List Event) (who : Who) (now : ℕ) : Type 0 where
  pub line : host_row t.kept who.host ≡ host_row s.kept who.host
  pub grows : (tag : Tag) → IsDrawn (standing s).boot (standing s).drawn tag → IsDrawn (standing t).boot (standing t).drawn tag
  pub short : (tag : Tag) (term : ℕ) → IsDrawn (standing s).boot (standing s).drawn tag → IsShort s tag term → IsShort t tag term
  pub covers : (file : ℕ) (mode : Mode) (tag : Tag) (asked term : ℕ) → caches mode ≡ true → asked ≤ now → now < asked + term → IsShort s tag term
      → IsCovered s s.phase (claim_of who file mode tag (cover_end who.host asked term events))
      → IsCovered t t.phase (claim_of who file mode tag (cover_end who.host asked term (e ∷ events)))

-- such a step keeps what a client and the server know of each other
pub lives-knows : (s t : Server) (e : Event) (events : List Event) (who : Who) (now : ℕ) (attached : Bool) (ticket : Option Ticket)
    (leases : List Lease) (notices : List Notice) (ps : List Packet) → Timely s events who now ticket leases → Lives s t e events who now
    → Knows NoneHeard NoneGiven (host_row s.kept who.host) s events who now attached ticket leases notices ps
    → Knows NoneHeard NoneGiven (host_row t.kept who.host) t (e ∷ events) who now attached ticket leases notices ps
lives-knows s t e events who now attached ticket leases notices ps times f h = record {
  lined = subst (λ l. LineFits who attached ticket notices l ps) (sym f.line) h.lined;
  tagged = record {
    held = λ file l is. f.grows l.tag (h.tagged.held file l is);
    noticed = λ file n is. f.grows n.tag (h.tagged.noticed file n is);
    evicts = λ x w file tag sent. f.grows tag (h.tagged.evicts x w file tag sent);
    vacates = λ x w file tag sent. f.grows tag (h.tagged.vacates x w file tag sent);
    grants = λ x a g sent gives. f.grows g.tag (h.tagged.grants x a g sent gives);
    past_held = h.tagged.past_held;
    past_given = h.tagged.past_given;
  };
  covered = record {
    held =
        λ file l is c runs. f.covers file l.mode l.tag (l.expiry - l.term) l.term c
        (let k = times.leased file l is in let a = k.term in let b = k.past in omega arith) runs (h.covered.held_short file l is c)
        (h.covered.held file l is c runs);
    held_short = λ file l is c. f.short l.tag l.term (h.tagged.held file l is) (h.covered.held_short file l is c);
    given =
        λ file g u k c runs. f.covers file g.mode g.tag u.first g.term c (times.asked u k.asked) runs (h.covered.given_short file g u k c)
        (h.covered.given file g u k c runs);
    given_short = λ file g u k c. f.short g.tag g.term (h.tagged.grants k.x k.a g k.told k.gives) (h.covered.given_short file g u k c);
  };
  heard = λ file tag bad. absurd bad;
  pending = λ file g sent bad. absurd bad;
}

-- ---- what is covered is of the boot that served last

pub between : (boot : ℕ) (since tag latest : Tag) → since.boot ≡ boot → latest.boot ≡ boot → tag_below tag since ≡ false → tag_below latest tag ≡ false
    → tag.boot ≡ boot
between boot since tag latest a b c e = grind (arith, nat_tests)

covered-boot : (s : Server) (phase : Phase) (who : Who) (file : ℕ) (mode : Mode) (tag : Tag) (until : ℕ)
    → BootsFit s.kept.boot s.kept.opened phase s.table → StandingFits s.kept.files phase s.table → IsCovered s phase (claim_of who file mode tag until)
    → tag.boot ≡ s.kept.opened
covered-boot s serving who file mode tag until boots stood c =
    let k = stood.fits file who.host c.row c.stands in
    between s.table.boot c.row.since tag c.row.tag k.since_boot k.tag_boot c.fits.began c.fits.goes_on ∙ boots.table_boot ∙ sym boots.opened_now
covered-boot s (recovering end heard last) who file mode tag until boots stood c = c.of_last_boot

-- the kept terms of a fenced file's server are the same
fence-terms : (kept : Kept) (o : Option File) → ((fence kept o).opened ≡ kept.opened) × ((fence kept o).longest ≡ kept.longest)
unfolding with_files
fence-terms kept None = (refl, refl)
fence-terms kept (Some f) = (refl, refl)

-- ---- a tick

module _ (s : Server) (hosts most : ℕ) (events : List Event) (who : Who) (now : ℕ) (boots : BootsFitOf s) (stood : StandingFitsOf s)
    (terms : TermsFitOf most s) (within : IsWithinSkew hosts most (Event.ServerTick ∷ events)) (there : who.host < hosts)
    (client : now ≡ ticks_of who.host events) (clock : s.now ≡ server_ticks events) where
  -- the cover of a lease that runs ends after the tick
  live : (tag : Tag) (asked term : ℕ) → asked ≤ now → now < asked + term → IsShort s tag term → tag.boot ≡ s.kept.opened
      → s.now + 1 < cover_end who.host asked term events
  live tag asked term past runs short same =
      let k = short same in
      let few = terms.kept_few in
      let below : server_ticks (Event.ServerTick ∷ events) < cover_end who.host asked term (Event.ServerTick ∷ events) = runs-below hosts most
      who.host asked term (Event.ServerTick ∷ events) within there (omega arith) (omega arith) (omega arith) in
      let end : cover_end who.host asked term (Event.ServerTick ∷ events) ≡ cover_end who.host asked term events = same-cover who.host asked term
      Event.ServerTick events (omega arith) in
      omega arith

  same-end : (asked term : ℕ) → asked ≤ now → cover_end who.host asked term (Event.ServerTick ∷ events) ≡ cover_end who.host asked term events
  same-end asked term past = same-cover who.host asked term Event.ServerTick events (omega arith)

  boot-of : (file : ℕ) (mode : Mode) (tag : Tag) (until : ℕ) → IsCovered s s.phase (claim_of who file mode tag until) → tag.boot ≡ s.kept.opened
  boot-of file mode tag until c = covered-boot s s.phase who file mode tag until boots stood c

  own-table : s.phase ≡ serving → TableFits s.kept.files s.table.boot s.table.drawn s.table.rows
  own-table p = subst (λ q. StandingFits s.kept.files q s.table) p stood

  not-over : (row : Row) → s.now + 1 < row.until → not (is_over (s.now + 1) row) ≡ true
  not-over row later = not-both (is_writing row.mode)
    where
      not-both : (b : Bool) → not (not b && nat_le row.until (s.now + 1)) ≡ true
      not-both true = refl
      not-both false = grind (arith, nat_tests)

  not-due : (row : Row) → s.now + 1 < row.until → is_due (s.now + 1) row ≡ true → ⊥
  not-due row later due = past row.until row.heard (s.now + 1) later (and_parts _ _ due).1
    where
      past : (until heard time : ℕ) → time < until → nat_le (max until heard + write_slack) time ≡ true → ⊥
      past until heard time a b = absurd (grind (arith, nat_tests))

  -- the row of a lease that runs stays among those that do not end as reading ones
  stays-reading : s.phase ≡ serving → (file : ℕ) (row : Row) → find_row file who.host s.table.rows ≡ Some row → s.now + 1 < row.until
      → find_row file who.host (end_reading (s.now + 1) s.table.rows) ≡ Some row
  stays-reading p file row found later =
      find-kept (λ r. not (is_over (s.now + 1) r)) file who.host s.table.rows (own-table p).unique
      ∙ ap (kept_if (λ r. not (is_over (s.now + 1) r))) found
      ∙ ap (λ b. if b then Some row else None) (not-over row later)

  -- and the writing row that ends is another
  stays-writing : s.phase ≡ serving → (due : Row) → find (is_due (s.now + 1)) (end_reading (s.now + 1) s.table.rows) ≡ Some due → (file : ℕ) (row : Row)
      → find_row file who.host s.table.rows ≡ Some row → s.now + 1 < row.until
      → find_row file who.host (drop_row due.file due.who.host (end_reading (s.now + 1) s.table.rows)) ≡ Some row
  stays-writing p due ends file row found later =
      find-other-dropped due.file due.who.host file who.host (end_reading (s.now + 1) s.table.rows) other ∙ stays-reading p file row found later
    where
      other : file ≡ due.file → who.host ≢ due.who.host
      other on host =
          let stands = found-any (is_due (s.now + 1)) (end_reading (s.now + 1) s.table.rows) due
          (unique-filtered (λ r. not (is_over (s.now + 1) r)) s.table.rows (own-table p).unique) ends in
          let key : find_row file who.host (end_reading (s.now + 1) s.table.rows) ≡ Some due = ap
          (λ n. find_row n who.host (end_reading (s.now + 1) s.table.rows)) on
          ∙ ap (λ n. find_row due.file n (end_reading (s.now + 1) s.table.rows)) host ∙ stands in
          let one : row ≡ due = some-same row due (sym (stays-reading p file row found later) ∙ key) in
          not-due row later (subst (λ r. is_due (s.now + 1) r ≡ true) (sym one)
          (find-passes (is_due (s.now + 1)) due (end_reading (s.now + 1) s.table.rows) ends))

  -- a serving server that goes on serving, whose row of a lease that runs stays
  serves-on : (t : Server) → s.phase ≡ serving → t.phase ≡ serving
      → ((file : ℕ) (row : Row) → find_row file who.host s.table.rows ≡ Some row → s.now + 1 < row.until
      → find_row file who.host t.table.rows ≡ Some row) → (file : ℕ) (mode : Mode) (tag : Tag) (asked term : ℕ) → caches mode ≡ true → asked ≤ now
      → now < asked + term → IsShort s tag term → IsCovered s s.phase (claim_of who file mode tag (cover_end who.host asked term events))
      → IsCovered t t.phase (claim_of who file mode tag (cover_end who.host asked term (Event.ServerTick ∷ events)))
  serves-on t p q stays file mode tag asked term caching past runs short c =
      let until : ℕ = cover_end who.host asked term events in
      let later : s.now + 1 < until = live tag asked term past runs short (boot-of file mode tag until c) in
      let k : HasFitting (claim_of who file mode tag until) s.table = subst (λ n. IsCovered s n (claim_of who file mode tag until)) p c in
      subst (λ n. IsCovered t t.phase (claim_of who file mode tag n)) (sym (same-end asked term past))
      (subst (λ n. IsCovered t n (claim_of who file mode tag until)) (sym q)
      (record { row = k.row; stands = stays file k.row k.stands (let ends = k.fits.ends in omega arith); fits = k.fits }))

  drawn-same : (t : Server) → s.phase ≡ serving → t.phase ≡ serving → t.table.boot ≡ s.table.boot → t.table.drawn ≡ s.table.drawn → (tag : Tag)
      → IsDrawn (standing s).boot (standing s).drawn tag → IsDrawn (standing t).boot (standing t).drawn tag
  drawn-same t p q boot drawn tag k =
      subst (λ n. IsDrawn (standing_in n t.table).boot (standing_in n t.table).drawn tag) (sym q)
      (drawn-more s.table.boot s.table.drawn t.table.boot t.table.drawn boot (omega arith) tag
      (subst (λ n. IsDrawn (standing_in n s.table).boot (standing_in n s.table).drawn tag) p k))

  -- the recovery goes on
  waits-lives : (until heard : ℕ) (last : Option Table) → s.phase ≡ recovering until heard last
      → Lives s (quiet (at_time s (s.now + 1))).server Event.ServerTick events who now
  unfolding quiet at_time
  waits-lives until heard last p = record {
    line = refl;
    grows = λ tag k. k;
    short = λ tag term k short. short;
    covers = λ file mode tag asked term caching past runs short c.
        subst (λ n. IsCovered (quiet (at_time s (s.now + 1))).server s.phase (claim_of who file mode tag n)) (sym (same-end asked term past))
        (same-cover-table s (quiet (at_time s (s.now + 1))).server s.phase who file mode tag (cover_end who.host asked term events) refl refl c);
  }

  -- the recovery ends: no lease runs any more, and no tag of this boot was drawn
  earlier-boot : (boot opened drawn : ℕ) (tag : Tag) → opened < boot → IsDrawn opened drawn tag → tag.boot ≡ boot → ⊥
  earlier-boot boot opened drawn tag before (inl earlier) same = absurd (omega arith)
  earlier-boot boot opened drawn tag before (inr of_last) same = let k = of_last.0 in absurd (omega arith)

  opens-lives : (until heard : ℕ) (last : Option Table) → s.phase ≡ recovering until heard last → until ≤ s.now + 1
      → Lives s (opens (at_time s (s.now + 1)) until heard).server Event.ServerTick events who now
  unfolding opens at_time
  opens-lives until heard last p over =
      let r : RecoversBoot s.kept.boot s.kept.opened s.table last = subst (λ n. BootsFit s.kept.boot s.kept.opened n s.table) p boots in
      record {
        line = refl;
        grows = λ tag k. grown tag (of-last tag k r);
        short = λ tag term k short same. absurd (earlier-boot s.kept.boot s.kept.opened (last_table last).drawn tag r.opened_before (of-last tag k r) same);
        covers = λ file mode tag asked term caching past runs short c.
            let o : OutlivedBy (claim_of who file mode tag (cover_end who.host asked term events)) s.kept.opened until (last_table last) = subst
            (λ n. IsCovered s n (claim_of who file mode tag (cover_end who.host asked term events))) p c in
            let later : s.now + 1 < cover_end who.host asked term events = live tag asked term past runs short o.of_last_boot in
            let ends = o.waits in
            absurd (omega arith);
      }
    where
      of-last : (tag : Tag) → IsDrawn (standing s).boot (standing s).drawn tag → RecoversBoot s.kept.boot s.kept.opened s.table last
          → IsDrawn s.kept.opened (last_table last).drawn tag
      of-last tag k r =
          subst (λ n. IsDrawn n (last_table last).drawn tag) r.last_boot
          (subst (λ n. IsDrawn (standing_in n s.table).boot (standing_in n s.table).drawn tag) p k)

      grown : (tag : Tag) → IsDrawn s.kept.opened (last_table last).drawn tag → IsDrawn s.table.boot s.table.drawn tag
      grown tag k =
          let r : RecoversBoot s.kept.boot s.kept.opened s.table last = subst (λ n. BootsFit s.kept.boot s.kept.opened n s.table) p boots in
          earlier k r.opened_before r.table_boot
        where
          earlier : IsDrawn s.kept.opened (last_table last).drawn tag → s.kept.opened < s.kept.boot → s.table.boot ≡ s.kept.boot
              → IsDrawn s.table.boot s.table.drawn tag
          earlier (inl before) a b = inl (omega arith)
          earlier (inr same) a b = let e = same.0 in inl (omega arith)

  -- no writing row ends
  ends-reading-lives : s.phase ≡ serving
      → Lives s (quiet (with_table (at_time s (s.now + 1)) (with_rows s.table (end_reading (s.now + 1) s.table.rows)))).server Event.ServerTick events
      who now
  unfolding quiet at_time with_table with_rows
  ends-reading-lives p =
      let t : Server = (quiet (with_table (at_time s (s.now + 1)) (with_rows s.table (end_reading (s.now + 1) s.table.rows)))).server in
      record {
        line = refl;
        grows = drawn-same t p p refl refl;
        short = λ tag term k short. short;
        covers = serves-on t p p (stays-reading p);
      }

  -- a writing row ends in silence
  ends-writing-lives : (due : Row) → s.phase ≡ serving → find (is_due (s.now + 1)) (end_reading (s.now + 1) s.table.rows) ≡ Some due
      → Lives s (ends_writing (at_time s (s.now + 1)) (end_reading (s.now + 1) s.table.rows) due).server Event.ServerTick events who now
  unfolding ends_writing at_time keeping_with with_rows
  ends-writing-lives due p ends =
      let t : Server = (ends_writing (at_time s (s.now + 1)) (end_reading (s.now + 1) s.table.rows) due).server in
      let same = fence-terms s.kept (find_file due.file s.kept.files) in
      record {
        line = fence-lines s.kept (find_file due.file s.kept.files) who.host;
        grows = drawn-same t p p refl refl;
        short = λ tag term k short on. let few = short (on ∙ same.0) in let long = same.1 in omega arith;
        covers = serves-on t p p (stays-writing p due ends);
      }

  tick-lives : Lives s (tick s (s.now + 1)).server Event.ServerTick events who now
  tick-lives = server-ticks s (s.now + 1) (λ t. Lives s t.server Event.ServerTick events who now) (record {
    waits = λ until heard last p goes_on. waits-lives until heard last p;
    opening = λ until heard last p over. opens-lives until heard last p over;
    ends_reading = λ p none. ends-reading-lives p;
    ending_writing = λ due p ends. ends-writing-lives due p ends;
  })

  -- a tick keeps what a client and the server know of each other
  pub knows-tick : (attached : Bool) (ticket : Option Ticket) (leases : List Lease) (notices : List Notice) (ps : List Packet)
      → Timely s events who now ticket leases → Knows NoneHeard NoneGiven (host_row s.kept who.host) s events who now attached ticket leases notices ps
      → Knows NoneHeard NoneGiven (host_row (tick s (s.now + 1)).server.kept who.host) (tick s (s.now + 1)).server (Event.ServerTick ∷ events) who now
      attached ticket leases notices ps
  knows-tick attached ticket leases notices ps times h =
      lives-knows s (tick s (s.now + 1)).server Event.ServerTick events who now attached ticket leases notices ps times tick-lives h

-- ---- a crash

-- some boot served
pub record HasServed (kept : Kept) : Type 0 where
  pub opened : 0 < kept.opened
  pub booted : 0 < kept.boot

pub booted-kept : (kept : Kept) (longest : ℕ) → HasServed kept → booted kept longest ≡ record kept { boot = kept.boot + 1 }
booted-kept kept longest served = by (kept.opened == 0) refl
  where
    by : (b : Bool) → (kept.opened == 0) ≡ b
        → (if b then record kept { boot = kept.boot + 1; opened = kept.boot + 1; longest = longest } else record kept { boot = kept.boot + 1 }) ≡ record
        kept { boot = kept.boot + 1 }
    by true e = let some = served.opened in let none : kept.opened ≡ 0 = same-number kept.opened 0 e in absurd (omega arith)
    by false e = refl

pub booted-phase : (opened longest now : ℕ) (last : Option Table) → 0 < opened
    → boot_phase opened longest now last ≡ recovering (now + longest + (skew + write_slack)) now last
booted-phase opened longest now last served = by (opened == 0) refl
  where
    by : (b : Bool) → (opened == 0) ≡ b
        → (if b then serving else recovering (now + longest + (skew + write_slack)) now last) ≡ recovering (now + longest + (skew + write_slack)) now last
    by true e = let none : opened ≡ 0 = same-number opened 0 e in absurd (omega arith)
    by false e = refl

module _ (s : Server) (longest : ℕ) (events : List Event) (who : Who) (now : ℕ) (boots : BootsFitOf s) (stood : StandingFitsOf s)
    (served : HasServed s.kept) (client : now ≡ ticks_of who.host events) (clock : s.now ≡ server_ticks events) where
  -- what is covered stands in the standing table
  standing-fitting : (phase : Phase) (file : ℕ) (mode : Mode) (tag : Tag) (until : ℕ) → IsCovered s phase (claim_of who file mode tag until)
      → HasFitting (claim_of who file mode tag until) (standing_in phase s.table)
  standing-fitting serving file mode tag until c = c
  standing-fitting (recovering end heard last) file mode tag until c = c.fitting

  outlived : (t : Server) (file : ℕ) (mode : Mode) (tag : Tag) (until : ℕ)
      → t.phase ≡ recovering (s.now + s.kept.longest + (skew + write_slack)) s.now (last_in s.phase s.table) → t.kept.opened ≡ s.kept.opened
      → until ≤ s.now + s.kept.longest + (skew + write_slack) → IsCovered s s.phase (claim_of who file mode tag until)
      → IsCovered t t.phase (claim_of who file mode tag until)
  outlived t file mode tag until p same waits c =
      subst (λ n. IsCovered t n (claim_of who file mode tag until)) (sym p)
      (record {
        of_last_boot = covered-boot s s.phase who file mode tag until boots stood c ∙ sym same;
        fitting = standing-fitting s.phase file mode tag until c;
        waits = waits;
      })

  crash-lives : Lives s (crash s longest).server (Event.Crash longest) events who now
  unfolding crash boot
  crash-lives =
      let t : Server = (crash s longest).server in
      let kept : t.kept ≡ record s.kept { boot = s.kept.boot + 1 } = booted-kept s.kept longest served in
      let p : t.phase ≡ recovering (s.now + s.kept.longest + (skew + write_slack)) s.now (last_in s.phase s.table) = booted-phase s.kept.opened
      s.kept.longest s.now (last_in s.phase s.table) served.opened in
      let same : t.kept.opened ≡ s.kept.opened = ap (λ k. k.opened) kept in
      let terms : t.kept.longest ≡ s.kept.longest = ap (λ k. k.longest) kept in
      record {
        line = ap (λ k. host_row k who.host) kept;
        grows = λ tag k. subst (λ n. IsDrawn (standing_in n t.table).boot (standing_in n t.table).drawn tag) (sym p) k;
        short = λ tag term k short on. let few = short (on ∙ same) in omega arith;
        covers = λ file mode tag asked term caching past runs short c.
            let few = short (covered-boot s s.phase who file mode tag (cover_end who.host asked term events) boots stood c) in
            let before = moment-past who.host asked events (omega arith) in
            subst (λ n. IsCovered t t.phase (claim_of who file mode tag n)) (sym (same-cover who.host asked term (Event.Crash longest) events (omega arith)))
            (outlived t file mode tag (cover_end who.host asked term events) p same (omega arith) c);
      }

  -- a crash keeps what a client and the server know of each other
  pub knows-crash : (attached : Bool) (ticket : Option Ticket) (leases : List Lease) (notices : List Notice) (ps : List Packet)
      → Timely s events who now ticket leases → Knows NoneHeard NoneGiven (host_row s.kept who.host) s events who now attached ticket leases notices ps
      → Knows NoneHeard NoneGiven (host_row (crash s longest).server.kept who.host) (crash s longest).server (Event.Crash longest ∷ events) who now
      attached ticket leases notices ps
  knows-crash attached ticket leases notices ps times h =
      lives-knows s (crash s longest).server (Event.Crash longest) events who now attached ticket leases notices ps times crash-lives h
