-- In every run the ends of writing leases come late enough.
use Rattle.std.proofs.Common.{◌≡◌, ◌≤◌, ℕ, ◌+◌, ◌==◌, ◌&&◌, Bool, true, false, not, List, [], ◌∷◌, ◌++◌, Option, Some, if◌then◌else◌, length, max}
use Rattle.std.proofs.Common.{nat_le, refl, sym, subst, ap, ◌∙◌, arith}
use Rattle.std.specs.List.{find}
use Rattle.std.proofs.lemmas.Bool.{and_parts}
use Rattle.nq_base.specs.declared.Entry.{Entry}
use Rattle.nq_base.specs.declared.Event.{Event}
use Rattle.nq_base.specs.declared.Row.{Row}
use Rattle.nq_base.specs.declared.Who.{Who}
use Rattle.nq_model.specs.laws.EndingsComeLate.{boot_opened, was_caching, IsLate, EndingsComeLate}
use Rattle.walk_files.proofs.LateEndings.{late-end, long-wait, all-over}
use Rattle.walk_files.proofs.LogRuns.{Alone as ServerAlone, LogRuns, IsShortGrant, runs-start, runs-receive, runs-tick, runs-crash}
use Rattle.walk_files.proofs.UntimedSteps.{call-untimed, tick-untimed, hear-untimed, restart-untimed}
use Rattle.walk_steps.proofs.Runs.{Served}
use Rattle.walk_steps.proofs.LeaseIntervals.{run-runs}
use Rattle.walk_steps.proofs.ServerLives.{HasServed}
use Rattle.nq_model.specs.laws.Bounds.{KeepsBounds}
use Rattle.nq_model.specs.protocol.Client.{ClientStep}
use Rattle.nq_model.specs.protocol.ClientStep.{client_call, client_tick, restart}
use Rattle.nq_model.specs.laws.CutOff.{Given, last_grant, IsLateEnd, IsLongWait, IsLateOpening}
use Rattle.nq_model.specs.laws.Journal.{Throughout, Exists, Each}
use Rattle.nq_model.specs.protocol.Decide.{decides, creates, writes_through, stores, wrote, stores_recovering, resizes, removes, puts_off, commits}
use Rattle.nq_model.specs.protocol.Kept.{find_file, with_files, with_new_file, with_row}
use Rattle.nq_model.specs.protocol.Message.{Datagram, datagram_of}
use Rattle.nq_model.specs.protocol.Profile.{write_slack}
use Rattle.nq_model.specs.protocol.Server.{serving, recovering, Server, ServerStep, quiet, drops, says, keeping, keeping_with, with_table, after_notices}
use Rattle.nq_model.specs.protocol.ServerStep.{boot, is_over, attaches, vacates, tells_later, serves, leases, is_due, end_reading, at_time, opens}
use Rattle.nq_model.specs.protocol.ServerStep.{ends_writing, receive, tick, crash}
use Rattle.nq_model.specs.protocol.Skew.{IsWithinSkew}
use Rattle.nq_model.specs.protocol.Table.{Table, caches, is_writing, find_row, with_rows, same_who}
use Rattle.nq_model.specs.protocol.World.{Head, World, after_server, after_client, sending_host, start, run}
use Rattle.walk_steps.proofs.RunCases.{Keeps, run-keeps}
use Rattle.walk_steps.proofs.Worlds.{run-holds}
use Rattle.walk_steps.proofs.LogFits.{timed-append}
use Rattle.walk_steps.proofs.LogGrants.{fence-opened}
use Rattle.walk_steps.proofs.LogMoves.{timed}
use Rattle.walk_steps.proofs.LogRows.{RowsGranted, RowsHear}
use Rattle.walk_steps.proofs.LogTimes.{HeardAll, IsHeard, ToldBoot, is_boot}
use Rattle.walk_steps.proofs.ServerNumbers.{Waits, PhaseWaits}
use Rattle.walk_steps.proofs.ServerTables.{StandingFits}
use Rattle.walk_steps.proofs.Modes.{writing-caches}
use Rattle.walk_steps.proofs.RowChanges.{HasUniqueKeys, found-any, found-kept, unique-filtered}
use Rattle.walk_steps.proofs.Rows.{find-passes, same-number}
use Rattle.walk_steps.proofs.ServerCases.{server-hears, server-ticks}
use Rattle.walk_steps.proofs.ServerOutcomes.{ServerCases}
use Rattle.walk_steps.proofs.TableFits.{TableFits}

-- what is kept
pub record Late (w : World) : Type 0 where
  pub booted : ℕ
  pub logs : LogRuns booted w.server (timed w.journal)
  pub opened : w.server.kept.opened ≡ boot_opened w.journal
  pub late : Throughout IsLate w.journal

-- ---- the last grant

caching-step : (same cached : Bool) (rest : Bool) (term longest : ℕ) (now : ℕ) (more : Option Given) → (if same then cached else rest) ≡ true
    → (cached ≡ true → term ≤ longest) → (rest ≡ true → (g : Given) × (more ≡ Some g) × (g.term ≤ longest))
    → (g : Given) × ((if same then Some (record { time = now; term = term }) else more) ≡ Some g) × (g.term ≤ longest)
caching-step true cached rest term longest now more e short later = (record { time = now; term = term }, refl, short e)
caching-step false cached rest term longest now more e short later = later e

-- a caching grant of the boot that served last was for the longest term at most
short-caching : (journal : List Entry) (who : Who) (file opened longest : ℕ) → was_caching opened journal who file ≡ true
    → Each (IsShortGrant opened longest) (timed journal) → (g : Given) × (last_grant journal who file ≡ Some g) × (g.term ≤ longest)
short-caching [] who file opened longest was each = absurd (cc)
short-caching (Entry.G by f mode tag term now ∷ journal) who file opened longest was each =
    caching-step (same_who by who && f == file) (caches mode && tag.boot == opened) (was_caching opened journal who file) term longest now
    (last_grant journal who file) was
    (λ cached. let both = and_parts (caches mode) (tag.boot == opened) cached in each.0.1 both.0 (same-number tag.boot opened both.1))
    (λ more. short-caching journal who file opened longest more each.1)
short-caching (Entry.S by f block first last now ∷ journal) who file opened longest was each = short-caching journal who file opened longest was each.1
short-caching (Entry.F by f until heard now ∷ journal) who file opened longest was each = short-caching journal who file opened longest was each.1
short-caching (Entry.O boot until heard now ∷ journal) who file opened longest was each = short-caching journal who file opened longest was each.1
short-caching (Entry.X boot now l ∷ journal) who file opened longest was each = short-caching journal who file opened longest was each.1
short-caching (other ∷ journal) who file opened longest was each = short-caching journal who file opened longest was each

-- ---- entries that tell no time

untimed-opened : (entries journal : List Entry) → timed entries ≡ [] → boot_opened (entries ++ journal) ≡ boot_opened journal
untimed-opened [] journal none = refl
untimed-opened (Entry.G by f mode tag term now ∷ entries) journal none = absurd (cc)
untimed-opened (Entry.S by f block first last now ∷ entries) journal none = absurd (cc)
untimed-opened (Entry.F by f until heard now ∷ entries) journal none = absurd (cc)
untimed-opened (Entry.O boot until heard now ∷ entries) journal none = absurd (cc)
untimed-opened (Entry.X boot now l ∷ entries) journal none = absurd (cc)
untimed-opened (other ∷ entries) journal none = untimed-opened entries journal none

untimed-late : (entries journal : List Entry) → timed entries ≡ [] → Throughout IsLate journal → Throughout IsLate (entries ++ journal)
untimed-late [] journal none late = late
untimed-late (Entry.G by f mode tag term now ∷ entries) journal none late = absurd (cc)
untimed-late (Entry.S by f block first last now ∷ entries) journal none late = absurd (cc)
untimed-late (Entry.F by f until heard now ∷ entries) journal none late = absurd (cc)
untimed-late (Entry.O boot until heard now ∷ entries) journal none late = absurd (cc)
untimed-late (Entry.X boot now l ∷ entries) journal none late = absurd (cc)
untimed-late (other ∷ entries) journal none late = (tt, untimed-late entries journal none late)

-- a step of a client keeps it
client-late : (w : World) (host : ℕ) (t : ClientStep) → timed t.entries ≡ [] → Late w → Late (after_client w host t)
unfolding after_client
client-late w host t none h = record {
  booted = h.booted;
  logs = subst (LogRuns h.booted w.server) (sym (timed-append t.entries w.journal ∙ ap (λ es. es ++ timed w.journal) none)) h.logs;
  opened = h.opened ∙ sym (untimed-opened t.entries w.journal none);
  late = untimed-late t.entries w.journal none h.late;
}

-- ---- a step of the server

-- what a step shows of the boot that served last, and of the ends
record Shows (s : Server) (journal : List Entry) (t : ServerStep) : Type 0 where
  opened : s.kept.opened ≡ boot_opened journal → t.server.kept.opened ≡ boot_opened (t.entries ++ journal)
  late : s.kept.opened ≡ boot_opened journal → Throughout IsLate journal → Throughout IsLate (t.entries ++ journal)

module _ (s : Server) (sender next : ℕ) (d : Datagram) (journal : List Entry) where
  shows-cases : ServerCases s sender next d (Shows s journal)
  unfolding quiet drops says attaches vacates tells_later serves leases decides creates writes_through stores wrote stores_recovering resizes
      removes puts_off commits keeping keeping_with with_table after_notices with_files with_new_file with_row
  shows-cases = record {
    stays = record { opened = λ e. e; late = λ e l. l };
    dropping = λ reason. record { opened = λ e. e; late = λ e l. l };
    erring = λ m e. record { opened = λ e. e; late = λ e l. l };
    answers_null = λ xid e. record { opened = λ e. e; late = λ e l. l };
    replying = λ xid w r reply e by from plain. record { opened = λ e. e; late = λ e l. l };
    attaching = λ xid w e from later. record { opened = λ e. e; late = λ e l. l };
    vacating = λ xid w file tag e current. record { opened = λ e. e; late = λ e l. l };
    putting_off = λ xid w r f clash e by file asking c. record { opened = λ e. e; late = λ e l. l };
    putting_off_waiting = λ xid w r f clash want e by file wants asking c own room. record { opened = λ e. e; late = λ e l. l };
    putting_off_by_own = λ xid w r f want own e by file wants asking c o evicting. record { opened = λ e. e; late = λ e l. l };
    reading = λ xid w q block f body e asking there c. record { opened = λ e. e; late = λ e l. (tt, l) };
    reading_full = λ xid w q block want f body e asking there c own room. record { opened = λ e. e; late = λ e l. (tt, l) };
    reading_granted = λ xid w q block want f body row term e asking there c g. record { opened = λ e. e; late = λ e l. (tt, (tt, l)) };
    leasing_full = λ xid w want f e asking c own room. record { opened = λ e. e; late = λ e l. l };
    leasing = λ xid w want f row term e asking c g. record { opened = λ e. e; late = λ e l. (tt, l) };
    declining = λ xid w seq r verdict e by sq fresh declined. record { opened = λ e. e; late = λ e l. l };
    putting_off_change = λ xid w seq r f clash e by sq file base changing c. record { opened = λ e. e; late = λ e l. l };
    creating = λ xid w seq blocks name e fresh serves can. record { opened = λ e. e; late = λ e l. l };
    writing_through = λ xid w seq block first last body f e changing below c. record { opened = λ e. e; late = λ e l. (tt, l) };
    storing = λ xid w seq block first last base body f row e changing below can. record { opened = λ e. e; late = λ e l. (tt, l) };
    storing_recovering =
        λ xid w seq block first final base body f until heard last e fresh recovers found below boot rev. record { opened = λ e. e; late = λ e l. (tt, l) };
    resizing = λ xid w seq q blocks f e changing can c. record { opened = λ e. e; late = λ e l. (tt, l) };
    removing = λ xid w seq q f e changing c. record { opened = λ e. e; late = λ e l. (tt, l) };
  }

  received-shows : Shows s journal (receive s sender next d)
  received-shows = server-hears s sender next d (Shows s journal) shows-cases

module _ (most booted : ℕ) (s : Server) (journal : List Entry) (fits : ServerAlone most s) (log : LogRuns booted s (timed journal)) (now : ℕ) where
  waits : Shows s journal (quiet (at_time s now))
  unfolding quiet at_time
  waits = record { opened = λ e. e; late = λ e l. l }

  opening : (until heard : ℕ) (last : Option Table) → s.phase ≡ recovering until heard last → until ≤ now → Shows s journal (opens (at_time s now) until heard)
  unfolding opens at_time
  opening until heard last p over = record { opened = λ e. refl; late = λ e l. (late e, l) }
    where
      told : find is_boot (timed journal) ≡ Some (Entry.X s.kept.boot booted s.kept.longest)
      told = subst (λ q. ToldBoot booted s.kept.boot s.kept.longest q (timed journal)) p log.told

      all : Each (IsHeard heard) (timed journal)
      all = subst (λ q. HeardAll q (timed journal)) p log.heard

      wait : Waits booted s.now s.kept.longest until heard
      wait = subst (λ q. PhaseWaits booted s.now s.kept.longest q) p log.waits

      late : s.kept.opened ≡ boot_opened journal → (who : Who) (file : ℕ) → was_caching (boot_opened journal) journal who file ≡ true
          → IsLateOpening journal who file s.kept.boot now
      late e who file was =
          let g = short-caching journal who file s.kept.opened s.kept.longest (subst (λ n. was_caching n journal who file ≡ true) (sym e) was) log.short in
          let leases = wait.after_leases in
          let writes = wait.after_writes in
          record {
            waited =
                subst (λ o. Exists (IsLongWait s.kept.boot now o) journal) (sym g.1)
                (long-wait journal s.kept.boot booted s.kept.longest now g.0 told g.2 (omega arith));
            stores_over = all-over journal who file heard now all (omega arith);
          }

  ends-reading : Shows s journal (quiet (with_table (at_time s now) (with_rows s.table (end_reading now s.table.rows))))
  unfolding quiet at_time with_table
  ends-reading = record { opened = λ e. e; late = λ e l. l }

  ends-silently : (due : Row) → s.phase ≡ serving → find (is_due now) (end_reading now s.table.rows) ≡ Some due
      → Shows s journal (ends_writing (at_time s now) (end_reading now s.table.rows) due)
  unfolding ends_writing at_time keeping_with
  ends-silently due p ends = record { opened = λ e. fence-opened s.kept (find_file due.file s.kept.files) ∙ e; late = λ e l. (late, l) }
    where
      unique : HasUniqueKeys s.table.rows
      unique =
          let own : TableFits s.kept.files s.table.boot s.table.drawn s.table.rows = subst (λ q. StandingFits s.kept.files q s.table) p fits.stands in
          own.unique

      there : find_row due.file due.who.host s.table.rows ≡ Some due
      there =
          (found-kept (λ r. not (is_over now r)) due.file due.who.host s.table.rows due unique
          (found-any (is_due now) (end_reading now s.table.rows) due (unique-filtered (λ r. not (is_over now r)) s.table.rows unique) ends)).0

      is-due : (is_writing due.mode && nat_le (max due.until due.heard + write_slack) now) ≡ true
      is-due = find-passes (is_due now) due (end_reading now s.table.rows) ends

      writing : is_writing due.mode ≡ true
      writing = (and_parts (is_writing due.mode) (nat_le (max due.until due.heard + write_slack) now) is-due).0

      late : IsLateEnd journal due.who due.file due.until due.heard now
      late =
          late-end journal due now ((subst (λ q. RowsGranted q s.table (timed journal)) p log.granted) due.file due.who.host due there
          (writing-caches due.mode writing)) ((subst (λ q. RowsHear q s.table (timed journal)) p log.hear) due.file due.who.host due there writing)
          (and_parts (is_writing due.mode) (nat_le (max due.until due.heard + write_slack) now) is-due).1

  ticked-shows : Shows s journal (tick s now)
  ticked-shows = server-ticks s now (Shows s journal) (record {
    waits = λ until heard last p goes_on. waits;
    opening = λ until heard last p over. opening until heard last p over;
    ends_reading = λ p none. ends-reading;
    ending_writing = λ due p ends. ends-silently due p ends;
  })

crashed-shows : (s : Server) (longest : ℕ) (journal : List Entry) → HasServed s.kept → Shows s journal (crash s longest)
unfolding crash boot
crashed-shows s longest journal served = record { opened = λ e. same (s.kept.opened == 0) refl ∙ e; late = λ e l. (tt, l) }
  where
    same : (b : Bool) → (s.kept.opened == 0) ≡ b
        → (if b then record s.kept { boot = s.kept.boot + 1; opened = s.kept.boot + 1; longest = longest } else record s.kept
        { boot = s.kept.boot + 1 }).opened ≡ s.kept.opened
    same true e = let some = served.opened in let none : s.kept.opened ≡ 0 = same-number s.kept.opened 0 e in absurd (omega arith)
    same false e = refl

-- a step of the server keeps it
server-late : (w : World) (t : ServerStep) (booted : ℕ) → LogRuns booted t.server (timed t.entries ++ timed w.journal) → Shows w.server w.journal t
    → Late w → Late (after_server w t)
unfolding after_server
server-late w t booted logs shows h = record {
  booted = booted;
  logs = subst (LogRuns booted t.server) (sym (timed-append t.entries w.journal)) logs;
  opened = shows.opened h.opened;
  late = shows.late h.opened h.late;
}

-- ---- each event

module _ (most : ℕ) (head : Head) where
  alone : (events : List Event) → KeepsBounds most head events → IsWithinSkew head.hosts most events → ServerAlone most (run head events).server
  alone events bounds within =
      let s : Served most (run head events).server = (run-runs most head events bounds within).served in
      record { boots = s.boots; stands = s.stood; incs = s.incs; terms = s.terms }

  late-starts : Late (start head)
  unfolding start boot
  late-starts = record { booted = 0; logs = runs-start head; opened = refl; late = tt }

  late-keeps : Keeps most head Late
  late-keeps = record {
    starts = λ bounds. late-starts;
    called = λ events host c op during is g. client-late (run head events) host (client_call c op) (call-untimed c op) g;
    ticked = λ events host c during is g. client-late (run head events) host (client_tick c (c.now + 1)) (tick-untimed c (c.now + 1)) g;
    restarted = λ events host c during is g. client-late (run head events) host (restart c) (restart-untimed c) g;
    heard =
        λ events k p host c t during sent to is hears g. client-late (run head events) host t
        (hear-untimed c k p.message t hears (λ ticket asked. (((run-holds head events).clients host c is).alone.asking.ticketed ticket asked).fits)) g;
    received = λ events k p during sent to g.
        let s : Server = (run head events).server in
        let d : Datagram = datagram_of p.message in
        server-late (run head events) (receive s (sending_host p.sender) (length (run head events).packets) d) g.booted
        (runs-receive most g.booted s (sending_host p.sender) (length (run head events).packets) d (timed (run head events).journal)
        (alone events during.bounds during.within) g.logs)
        (received-shows s (sending_host p.sender) (length (run head events).packets) d (run head events).journal) g;
    server_ticked = λ events during g.
        let s : Server = (run head events).server in
        server-late (run head events) (tick s (s.now + 1)) g.booted
        (runs-tick most g.booted s (s.now + 1) (timed (run head events).journal) (omega arith) (alone events during.bounds during.within) g.logs)
        (ticked-shows most g.booted s (run head events).journal (alone events during.bounds during.within) g.logs (s.now + 1)) g;
    crashed = λ events longest during long short g.
        let s : Server = (run head events).server in
        server-late (run head events) (crash s longest) s.now
        (runs-crash most g.booted s longest (timed (run head events).journal) (alone events during.bounds during.within) g.logs)
        (crashed-shows s longest (run head events).journal (run-runs most head events during.bounds during.within).served.opened) g;
  }

-- in every run
pub endings-come-late : EndingsComeLate
endings-come-late most head events bounds within = (run-keeps (late-keeps most head) events bounds within).late
