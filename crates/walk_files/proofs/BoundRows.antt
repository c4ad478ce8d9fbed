-- A file is bound while the row of its holder stands, lets him write, and began its chain no later than the tag that he
-- holds. A tick of the server's clock keeps it bound, or ends it late enough; a crash keeps it bound.
use Rattle.std.proofs.Common.{◌≡◌, ◌≢◌, ◌≤◌, ◌⊎◌, ℕ, ◌+◌, ◌==◌, ◌&&◌, Bool, true, false, not, List, [], ◌∷◌, Some, None, if◌then◌else◌, max, nat_le}
use Rattle.std.proofs.Common.{refl, sym, subst, ap, ◌∙◌, arith, inl, inr, Option}
use Rattle.std.specs.List.{find}
use Rattle.std.proofs.lemmas.Bool.{and_parts, and_from}
use Rattle.nq_base.specs.declared.Entry.{Entry}
use Rattle.nq_base.specs.declared.Mode.TheVariants.{Writing}
use Rattle.nq_base.specs.declared.Row.{Row}
use Rattle.nq_base.specs.declared.Tag.{Tag}
use Rattle.nq_base.specs.declared.Who.{Who}
use Rattle.walk_steps.proofs.ClientMoves.{some-same}
use Rattle.walk_files.proofs.LateEndings.{late-end, late-opening}
use Rattle.walk_steps.proofs.ServerChanges.{same-cover-table}
use Rattle.walk_steps.proofs.ServerLives.{HasServed, booted-kept, booted-phase, between}
use Rattle.nq_model.specs.laws.CutOff.{Ends, IsLateEnd, IsLateOpening}
use Rattle.nq_model.specs.laws.Journal.{Each}
use Rattle.nq_model.specs.protocol.Kept.{host_row}
use Rattle.nq_model.specs.laws.LeaseInterval.{claim_of, is_at_least, HasFitting, OutlivedBy, IsCovered}
use Rattle.nq_model.specs.protocol.Profile.{skew, write_slack}
use Rattle.nq_model.specs.protocol.Server.{Phase, serving, recovering, Server, ServerStep, standing, standing_in, quiet, with_table, keeping_with, last_table}
use Rattle.nq_model.specs.protocol.Server.{last_in}
use Rattle.nq_model.specs.protocol.ServerStep.{is_over, is_due, end_reading, at_time, opens, ends_writing, tick, crash, boot}
use Rattle.nq_model.specs.protocol.Table.{Table, is_writing, find_row, with_rows}
use Rattle.walk_files.proofs.LogRuns.{Alone, LogRuns}
use Rattle.walk_steps.proofs.LogMoves.{timed}
use Rattle.walk_steps.proofs.LogRows.{WasGranted, IsHeardOf, RowsHear, RowsGranted}
use Rattle.walk_steps.proofs.LogTimes.{HeardAll, IsHeard, ToldBoot}
use Rattle.walk_steps.proofs.ServerNumbers.{Waits, PhaseWaits}
use Rattle.walk_steps.proofs.ServerTables.{BootsFit, BootsFitOf, RecoversBoot, StandingFits, StandingFitsOf}
use Rattle.walk_steps.proofs.Modes.{writing-caches}
use Rattle.walk_steps.proofs.RowChanges.{HasUniqueKeys, kept_if, find-kept, found-any, unique-filtered, find-other-dropped}
use Rattle.walk_steps.proofs.Rows.{number-same, same-number, find-passes}
use Rattle.walk_steps.proofs.ServerCases.{server-ticks}
use Rattle.walk_steps.proofs.TableFits.{TableFits}

-- a file is bound at an incarnation that holds it with a tag
abbrev pub IsBound : Server → Phase → Who → (file : ℕ) → Tag → Type 0
IsBound s phase who file tag = IsCovered s phase (claim_of who file Writing tag 0)

-- a step of the server ended it, late enough
pub record EndedBy (journal : List Entry) (who : Who) (file : ℕ) (t : ServerStep) : Type 0 where
  pub entry : Entry
  pub made : t.entries ≡ entry ∷ []
  pub ends : Ends who file entry journal

-- what is covered until a time is bound, where it lets its holder write
pub covered-bound : (s : Server) (phase : Phase) (who : Who) (file : ℕ) (tag : Tag) (until : ℕ)
    → IsCovered s phase (claim_of who file Writing tag until) → IsBound s phase who file tag
covered-bound s serving who file tag until c = fitting s.table c
  where
    fitting : (table : Table) → HasFitting (claim_of who file Writing tag until) table → HasFitting (claim_of who file Writing tag 0) table
    fitting table c =
        record {
          row = c.row;
          stands = c.stands;
          fits = record
              { holder = c.fits.holder; of_file = c.fits.of_file; kind = c.fits.kind; began = c.fits.began; goes_on = c.fits.goes_on; ends = omega arith };
        }
covered-bound s (recovering end heard last) who file tag until c =
    record { of_last_boot = c.of_last_boot; fitting = fitting (last_table last) c.fitting; waits = omega arith }
  where
    fitting : (table : Table) → HasFitting (claim_of who file Writing tag until) table → HasFitting (claim_of who file Writing tag 0) table
    fitting table c =
        record {
          row = c.row;
          stands = c.stands;
          fits = record
              { holder = c.fits.holder; of_file = c.fits.of_file; kind = c.fits.kind; began = c.fits.began; goes_on = c.fits.goes_on; ends = omega arith };
        }

-- a row that is at least a writing one is one
pub writes : (row : Row) → is_at_least row.mode Writing ≡ true → is_writing row.mode ≡ true
writes row kind = kind

module _ (most booted : ℕ) (s : Server) (journal : List Entry) (fits : Alone most s) (log : LogRuns booted s (timed journal)) (who : Who) (file : ℕ)
    (tag : Tag) where
  -- what is kept of the file
  abbrev StaysOrEnds : ServerStep → Type 0
  StaysOrEnds t = IsBound t.server t.server.phase who file tag ⊎ EndedBy journal who file t

  own-table : s.phase ≡ serving → TableFits s.kept.files s.table.boot s.table.drawn s.table.rows
  own-table p = subst (λ q. StandingFits s.kept.files q s.table) p fits.stands

  was-granted : (file host : ℕ) (row : Row) → s.phase ≡ serving → find_row file host s.table.rows ≡ Some row → is_writing row.mode ≡ true
      → WasGranted (timed journal) row
  was-granted file host row p found writing =
      (subst (λ q. RowsGranted q s.table (timed journal)) p log.granted) file host row found (writing-caches row.mode writing)

  hears : (file host : ℕ) (row : Row) → s.phase ≡ serving → find_row file host s.table.rows ≡ Some row → is_writing row.mode ≡ true
      → Each (IsHeardOf row.who row.file row.heard) (timed journal)
  hears file host row p found writing = (subst (λ q. RowsHear q s.table (timed journal)) p log.hear) file host row found writing

  -- the recovery goes on
  waits : (now : ℕ) → IsBound s s.phase who file tag → StaysOrEnds (quiet (at_time s now))
  unfolding quiet at_time
  waits now b = inl (same-cover-table s (quiet (at_time s now)).server s.phase who file Writing tag 0 refl refl b)

  -- the recovery ends
  opening : (now until heard : ℕ) (last : Option Table) → s.phase ≡ recovering until heard last → until ≤ now → IsBound s s.phase who file tag
      → StaysOrEnds (opens (at_time s now) until heard)
  unfolding opens at_time
  opening now until heard last p late b =
      let o : OutlivedBy (claim_of who file Writing tag 0) s.kept.opened until (last_table last) = subst (λ q. IsBound s q who file tag) p b in
      let row : Row = o.fitting.row in
      let r : RecoversBoot s.kept.boot s.kept.opened s.table last = subst (λ q. BootsFit s.kept.boot s.kept.opened q s.table) p fits.boots in
      let stood : TableFits s.kept.files (last_table last).boot (last_table last).drawn (last_table last).rows = subst
      (λ q. StandingFits s.kept.files q s.table) p fits.stands in
      let k = stood.fits file who.host row o.fitting.stands in
      let granted : WasGranted (timed journal) row = (subst (λ q. RowsGranted q s.table (timed journal)) p log.granted) file who.host row
      o.fitting.stands (writing-caches row.mode o.fitting.fits.kind) in
      let told : find _ (timed journal) ≡ Some (Entry.X s.kept.boot booted s.kept.longest) = subst
      (λ q. ToldBoot booted s.kept.boot s.kept.longest q (timed journal)) p log.told in
      let all : Each (IsHeard heard) (timed journal) = subst (λ q. HeardAll q (timed journal)) p log.heard in
      let wait : Waits booted s.now s.kept.longest until heard = subst (λ q. PhaseWaits booted s.now s.kept.longest q) p log.waits in
      let opened : IsLateOpening journal row.who row.file s.kept.boot now = late-opening journal row s.kept.boot booted s.kept.longest s.kept.opened
      until heard now granted (k.tag_boot ∙ r.last_boot) (writing-caches row.mode o.fitting.fits.kind) log.short told all wait.after_leases
      wait.after_writes late in
      inr (record {
        entry = Entry.O s.kept.boot until heard now;
        made = refl;
        ends =
            subst (λ w. IsLateOpening journal w file s.kept.boot now) o.fitting.fits.holder
            (subst (λ f. IsLateOpening journal row.who f s.kept.boot now) o.fitting.fits.of_file opened);
      })

  not-over : (now : ℕ) (row : Row) → is_writing row.mode ≡ true → not (is_over now row) ≡ true
  not-over now row writing = ap (λ b. not (not b && nat_le row.until now)) writing

  stays-reading : (now : ℕ) (row : Row) → s.phase ≡ serving → find_row file who.host s.table.rows ≡ Some row → is_writing row.mode ≡ true
      → find_row file who.host (end_reading now s.table.rows) ≡ Some row
  stays-reading now row p found writing =
      find-kept (λ r. not (is_over now r)) file who.host s.table.rows (own-table p).unique
      ∙ ap (kept_if (λ r. not (is_over now r))) found
      ∙ ap (λ b. if b then Some row else None) (not-over now row writing)

  -- no writing row ends
  ends-reading : (now : ℕ) → s.phase ≡ serving → IsBound s s.phase who file tag
      → StaysOrEnds (quiet (with_table (at_time s now) (with_rows s.table (end_reading now s.table.rows))))
  unfolding quiet at_time with_table with_rows
  ends-reading now p b =
      let k : HasFitting (claim_of who file Writing tag 0) s.table = subst (λ q. IsBound s q who file tag) p b in
      let t : Server = (quiet (with_table (at_time s now) (with_rows s.table (end_reading now s.table.rows)))).server in
      inl (subst (λ q. IsBound t q who file tag) (sym p) (record { row = k.row; stands = stays-reading now k.row p k.stands k.fits.kind; fits = k.fits }))

  -- a writing row ends in silence: that of the file, or another
  ends-silently : (now : ℕ) (due : Row) → s.phase ≡ serving → find (is_due now) (end_reading now s.table.rows) ≡ Some due
      → IsBound s s.phase who file tag → StaysOrEnds (ends_writing (at_time s now) (end_reading now s.table.rows) due)
  unfolding ends_writing at_time keeping_with with_rows
  ends-silently now due p ends b = by (due.file == file && due.who.host == who.host) refl
    where
      k : HasFitting (claim_of who file Writing tag 0) s.table
      k = subst (λ q. IsBound s q who file tag) p b

      unique-ended : HasUniqueKeys (end_reading now s.table.rows)
      unique-ended = unique-filtered (λ r. not (is_over now r)) s.table.rows (own-table p).unique

      found : find_row due.file due.who.host (end_reading now s.table.rows) ≡ Some due
      found = found-any (is_due now) (end_reading now s.table.rows) due unique-ended ends

      own : find_row file who.host (end_reading now s.table.rows) ≡ Some k.row
      own = stays-reading now k.row p k.stands k.fits.kind

      t : Server
      t = (ends_writing (at_time s now) (end_reading now s.table.rows) due).server

      by : (e : Bool) → (due.file == file && due.who.host == who.host) ≡ e → StaysOrEnds (ends_writing (at_time s now) (end_reading now s.table.rows) due)
      by true same =
          let key = and_parts (due.file == file) (due.who.host == who.host) same in
          let at : due.file ≡ file = same-number due.file file key.0 in
          let host : due.who.host ≡ who.host = same-number due.who.host who.host key.1 in
          let stands : find_row file who.host (end_reading now s.table.rows) ≡ Some due = subst
          (λ n. find_row file n (end_reading now s.table.rows) ≡ Some due) host
          (subst (λ n. find_row n due.who.host (end_reading now s.table.rows) ≡ Some due) at found) in
          let one : k.row ≡ due = some-same k.row due (sym own ∙ stands) in
          let due_now : is_due now k.row ≡ true = subst (λ r. is_due now r ≡ true) (sym one)
          (find-passes (is_due now) due (end_reading now s.table.rows) ends) in
          let late : IsLateEnd journal k.row.who k.row.file k.row.until k.row.heard now = late-end journal k.row now
          (was-granted file who.host k.row p k.stands k.fits.kind) (hears file who.host k.row p k.stands k.fits.kind)
          (and_parts (is_writing k.row.mode) (nat_le (max k.row.until k.row.heard + write_slack) now) due_now).1 in
          inr (record {
            entry = Entry.F due.who due.file due.until due.heard now;
            made = refl;
            ends =
                subst (λ r. Ends who file (Entry.F r.who r.file r.until r.heard now) journal) one (
                  k.fits.holder,
                  k.fits.of_file,
                  subst (λ w. IsLateEnd journal w file k.row.until k.row.heard now) k.fits.holder
                      (subst (λ f. IsLateEnd journal k.row.who f k.row.until k.row.heard now) k.fits.of_file late),
                );
          })
      by false differs =
          let apart : file ≡ due.file → who.host ≢ due.who.host = λ at host. let both : (due.file == file && due.who.host == who.host) ≡ true = and_from
          _ _ (number-same due.file file (sym at)) (number-same due.who.host who.host (sym host)) in absurd (cc) in
          inl (subst (λ q. IsBound t q who file tag) (sym p)
          (record {
            row = k.row;
            stands = find-other-dropped due.file due.who.host file who.host (end_reading now s.table.rows) apart
                ∙ own;
            fits = k.fits;
          }))

  -- a tick keeps the file bound, or ends it late enough
  pub tick-bound : (now : ℕ) → IsBound s s.phase who file tag → StaysOrEnds (tick s now)
  tick-bound now b = server-ticks s now StaysOrEnds (record {
    waits = λ until heard last p goes_on. waits now b;
    opening = λ until heard last p over. opening now until heard last p over b;
    ends_reading = λ p none. ends-reading now p b;
    ending_writing = λ due p ends. ends-silently now due p ends b;
  })

-- ---- a crash

-- a bound file is held with a tag of the boot that served last
pub bound-boot : (s : Server) (phase : Phase) (who : Who) (file : ℕ) (tag : Tag) → BootsFit s.kept.boot s.kept.opened phase s.table
    → StandingFits s.kept.files phase s.table → IsBound s phase who file tag → tag.boot ≡ s.kept.opened
bound-boot s serving who file tag boots stood b =
    let k = stood.fits file who.host b.row b.stands in
    between s.table.boot b.row.since tag b.row.tag k.since_boot k.tag_boot b.fits.began b.fits.goes_on ∙ boots.table_boot ∙ sym boots.opened_now
bound-boot s (recovering end heard last) who file tag boots stood b = b.of_last_boot

-- its row stands in the standing table
pub bound-fitting : (s : Server) (phase : Phase) (who : Who) (file : ℕ) (tag : Tag) → IsBound s phase who file tag
    → HasFitting (claim_of who file Writing tag 0) (standing_in phase s.table)
bound-fitting s serving who file tag b = b
bound-fitting s (recovering end heard last) who file tag b = b.fitting

-- a crash keeps the file bound
pub crash-bound : (s : Server) (longest : ℕ) (who : Who) (file : ℕ) (tag : Tag) → BootsFitOf s → StandingFitsOf s → HasServed s.kept
    → IsBound s s.phase who file tag → IsBound (crash s longest).server (crash s longest).server.phase who file tag
unfolding crash boot
crash-bound s longest who file tag boots stood served b =
    let t : Server = (crash s longest).server in
    let kept : t.kept ≡ record s.kept { boot = s.kept.boot + 1 } = booted-kept s.kept longest served in
    let p : t.phase ≡ recovering (s.now + s.kept.longest + (skew + write_slack)) s.now (last_in s.phase s.table) = booted-phase s.kept.opened
    s.kept.longest s.now (last_in s.phase s.table) served.opened in
    let same : t.kept.opened ≡ s.kept.opened = ap (λ k. k.opened) kept in
    subst (λ n. IsBound t n who file tag) (sym p)
    (record {
      of_last_boot = bound-boot s s.phase who file tag boots stood b ∙ sym same;
      fitting = bound-fitting s s.phase who file tag b;
      waits = omega arith;
    })

-- what fits in the standing table is bound
pub fitting-bound : (s : Server) (phase : Phase) (who : Who) (file : ℕ) (tag : Tag) → BootsFit s.kept.boot s.kept.opened phase s.table
    → StandingFits s.kept.files phase s.table → HasFitting (claim_of who file Writing tag 0) (standing_in phase s.table) → IsBound s phase who file tag
fitting-bound s serving who file tag boots stood k = k
fitting-bound s (recovering end heard last) who file tag boots stood k =
    let fits = stood.fits file who.host k.row k.stands in
    record {
      of_last_boot = between (last_table last).boot k.row.since tag k.row.tag fits.since_boot fits.tag_boot k.fits.began k.fits.goes_on ∙ boots.last_boot;
      fitting = k;
      waits = omega arith;
    }

-- a crash leaves the standing table
pub crash-standing : (s : Server) (longest : ℕ) → HasServed s.kept → standing (crash s longest).server ≡ standing s
unfolding crash boot
crash-standing s longest served =
    ap (λ p. standing_in p (crash s longest).server.table) (booted-phase s.kept.opened s.kept.longest s.now (last_in s.phase s.table) served.opened)

-- and the kept lines
pub crash-line : (s : Server) (longest : ℕ) (host : ℕ) → HasServed s.kept → host_row (crash s longest).server.kept host ≡ host_row s.kept host
unfolding crash boot
crash-line s longest host served = ap (λ k. host_row k host) (booted-kept s.kept longest served)
