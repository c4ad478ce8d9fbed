-- What is kept of a server and of the timed entries of a whole run, whatever leases its clients want.
use Rattle.std.proofs.Common.{◌≡◌, ◌<◌, ◌≤◌, ℕ, ◌+◌, ◌==◌, Bool, true, false, List, [], ◌++◌, Option, Some, None, if◌then◌else◌, refl, sym, subst, ap, arith}
use Rattle.nq_base.specs.declared.Entry.{Entry}
use Rattle.nq_base.specs.declared.Question.{Question}
use Rattle.nq_base.specs.declared.Row.{Row}
use Rattle.nq_base.specs.declared.Want.{Want}
use Rattle.nq_model.proofs.Lists.{each-map}
use Rattle.nq_model.specs.protocol.Ask.{sharing_row, caching_row, shared_again, renewed_row}
use Rattle.nq_model.specs.laws.Journal.{Each}
use Rattle.nq_model.specs.protocol.Kept.{File, Kept, find_file, with_files, with_new_file, with_row}
use Rattle.nq_model.specs.protocol.Message.{Datagram}
use Rattle.nq_model.specs.protocol.Profile.{shortest_term}
use Rattle.nq_model.specs.protocol.Server.{Phase, serving, recovering, Server}
use Rattle.nq_model.specs.protocol.ServerStep.{to_read, receive, fence, tick, booted, boot, crash}
use Rattle.nq_model.specs.protocol.Table.{Table, caches, empty_table}
use Rattle.nq_model.specs.protocol.World.{Head, start}
use Rattle.walk_steps.proofs.LogFits.{crash-now}
use Rattle.walk_steps.proofs.LogGrants.{granted-tag}
use Rattle.walk_steps.proofs.LogMoves.{timed, LogMoves, log-moves, tick-log-moves}
use Rattle.walk_steps.proofs.LogRows.{RowsGranted, granted-receive, granted-tick, granted-crash, RowsHear, hear-receive, hear-tick, hear-crash}
use Rattle.walk_steps.proofs.LogTimes.{LogBy, by-receive, by-tick, by-crash, HeardAll, heard-receive, heard-tick, heard-crash, ToldBoot, told-receive}
use Rattle.walk_steps.proofs.LogTimes.{told-tick, told-crash}
use Rattle.walk_steps.proofs.RowTimes.{term-bounds}
use Rattle.walk_steps.proofs.ServerFacts.{IncsFitOf}
use Rattle.walk_steps.proofs.ServerNumbers.{TermsFitOf, PhaseWaitsOf, waits-receive, waits-tick, waits-crash}
use Rattle.walk_steps.proofs.ServerTables.{BootsFit, BootsFitOf, ServesBoot, RecoversBoot, StandingFitsOf, NoneRecoveringOf, none-of-boots}
use Rattle.walk_steps.proofs.AskCases.{IsGranted, shares_again, begins_sharing, begins_caching, renews_row}
use Rattle.walk_steps.proofs.ServerMoves.{receive-keeps, tick-keeps}

-- a grant was of a boot that served; where it lets its holder cache and is of the boot that served last, it is for that
-- boot's longest term at most
abbrev pub IsShortGrant : (opened longest : ℕ) → Entry → Type 0
IsShortGrant opened longest (Entry.G who file mode tag term now) = (tag.boot ≤ opened) × (caches mode ≡ true → tag.boot ≡ opened → term ≤ longest)
IsShortGrant opened longest other = Unit {0}

abbrev pub GrantsShort : Kept → List Entry → Type 0
GrantsShort kept log = Each (IsShortGrant kept.opened kept.longest) log

later-opened : (opened longest boot longest' : ℕ) → opened < boot → (e : Entry) → IsShortGrant opened longest e → IsShortGrant boot longest' e
later-opened opened longest boot longest' h (Entry.G who file mode tag term now) g = (omega (arith, g.0), λ c same. absurd (omega (arith, g.0)))
later-opened opened longest boot longest' h other g = tt

-- a caching grant is for the longest term at most
granted-short : (table : Table) (q : Question) (want : Want) (row : Row) (term : ℕ) → shortest_term ≤ q.longest → IsGranted table q want row term
    → caches row.mode ≡ true → term ≤ q.longest
unfolding sharing_row caching_row shared_again renewed_row
granted-short table q want row term long (shares_again own found stays shares is lasts) caching =
    let mode : caches row.mode ≡ caches own.mode = ap (λ r. caches r.mode) is in
    absurd (cc)
granted-short table q want row term long (begins_sharing none room shared is lasts) caching = let b = term-bounds q.longest want.term long in
    omega (arith, b.1)
granted-short table q want row term long (begins_caching none room shared is lasts) caching = let b = term-bounds q.longest want.term long in
    omega (arith, b.1)
granted-short table q want row term long (renews_row own found stays caches is lasts) caching =
    let b = term-bounds q.longest want.term long in omega (arith, b.1)

module _ (most : ℕ) (s : Server) (d : Datagram) (log : List Entry) (boots : BootsFitOf s) (terms : TermsFitOf most s) (g : GrantsShort s.kept log) where
  short-entry : (q : Question) (want : Want) (row : Row) (term : ℕ) → q.longest ≡ s.longest → s.phase ≡ serving → IsGranted s.table q want row term
      → (row.tag.boot ≤ s.kept.opened) × (caches row.mode ≡ true → row.tag.boot ≡ s.kept.opened → term ≤ s.kept.longest)
  short-entry q want row term longest p granted =
      let b : ServesBoot s.kept.boot s.kept.opened s.table = subst (λ p. BootsFit s.kept.boot s.kept.opened p s.table) p boots in
      let boot : row.tag.boot ≡ s.table.boot = ap (λ t. t.boot) (granted-tag s.table q want row term granted) in
      let same : s.kept.longest ≡ s.longest = terms.same p in (
        omega (arith, b.table_boot, b.opened_now),
        λ caching e. let short = granted-short s.table q want row term
            (subst (λ l. shortest_term ≤ l) (sym longest) terms.long) granted caching in omega arith,
      )

  short-moves : LogMoves s d log (λ kept phase table after. GrantsShort kept after)
  unfolding with_row with_files with_new_file
  short-moves = record {
    stays = g;
    decided = λ kept phase table after who line inc same q. q;
    attaching = λ who later. g;
    vacating = λ who file tag current. g;
    marking = λ file host access serves. g;
    marking_waiting = λ xid r who h want e wants asking own room. g;
    granting = λ xid r who h want row term e wants asking c granted. (short-entry (to_read s who h (Some want)) want row term refl asking.serves granted, g);
    creating = λ name blocks serves can. g;
    changing = λ who h file serves current found same c. g;
    storing = λ who h file base row block first last serves current found same can. (tt, g);
    storing_recovering = λ who h file block first final until heard last current p found same. (tt, g);
    removing = λ who h serves current found c. g;
  }

-- caching grants are short after a datagram
short-receive : (most : ℕ) (s : Server) (sender next : ℕ) (d : Datagram) (log : List Entry) → BootsFitOf s → TermsFitOf most s → GrantsShort s.kept log
    → GrantsShort (receive s sender next d).server.kept (timed (receive s sender next d).entries ++ log)
short-receive most s sender next d log boots terms g =
    log-moves s sender next d log (λ kept phase table after. GrantsShort kept after) (short-moves most s d log boots terms g)

short-fenced : (kept : Kept) (o : Option File) (log : List Entry) → GrantsShort kept log → GrantsShort (fence kept o) log
unfolding with_files
short-fenced kept None log g = g
short-fenced kept (Some f) log g = g

short-opened : (s : Server) (until heard : ℕ) (last : Option Table) (log : List Entry) → s.phase ≡ recovering until heard last → BootsFitOf s
    → GrantsShort s.kept log → Each (IsShortGrant s.kept.boot s.longest) log
short-opened s until heard last log p b g =
    let r : RecoversBoot s.kept.boot s.kept.opened s.table last = subst (λ p. BootsFit s.kept.boot s.kept.opened p s.table) p b in
    each-map (IsShortGrant s.kept.opened s.kept.longest) (IsShortGrant s.kept.boot s.longest) log
    (later-opened s.kept.opened s.kept.longest s.kept.boot s.longest r.opened_before) g

-- and after a tick
short-tick : (s : Server) (now : ℕ) (log : List Entry) → BootsFitOf s → GrantsShort s.kept log
    → GrantsShort (tick s now).server.kept (timed (tick s now).entries ++ log)
short-tick s now log b g = tick-log-moves s now log (λ kept phase table after. GrantsShort kept after) (record {
  waits = λ until heard last p goes_on. g;
  opening = λ until heard last p over. (tt, short-opened s until heard last log p b g);
  ends_reading = λ p. g;
  ending_writing = λ row p due. (tt, short-fenced s.kept (find_file row.file s.kept.files) log g);
})

-- and after a crash
short-crash : (s : Server) (longest : ℕ) (log : List Entry) → BootsFitOf s → GrantsShort s.kept log
    → GrantsShort (crash s longest).server.kept (timed (crash s longest).entries ++ log)
unfolding crash boot empty_table
short-crash s longest log b g = (tt, in-phase (s.kept.opened == 0))
  where
    opened-before : (phase : Phase) → BootsFit s.kept.boot s.kept.opened phase s.table → s.kept.opened < s.kept.boot + 1
    opened-before serving b = omega (arith, b.opened_now)
    opened-before (recovering until heard last) b = omega (arith, b.opened_before)

    in-phase : (z : Bool) → GrantsShort
        (if z then record s.kept { boot = s.kept.boot + 1; opened = s.kept.boot + 1; longest = longest } else record s.kept { boot = s.kept.boot + 1 }) log
    in-phase true =
        each-map (IsShortGrant s.kept.opened s.kept.longest) (IsShortGrant (s.kept.boot + 1) longest) log
        (later-opened s.kept.opened s.kept.longest (s.kept.boot + 1) longest (opened-before s.phase b)) g
    in-phase false = g

-- ---- all of it

-- what is kept of a server alone
pub record Alone (most : ℕ) (s : Server) : Type 0 where
  pub boots : BootsFitOf s
  pub stands : StandingFitsOf s
  pub incs : IncsFitOf s
  pub terms : TermsFitOf most s

pub none-recovering : (most : ℕ) (s : Server) → Alone most s → NoneRecoveringOf s
none-recovering most s a = none-of-boots s.kept.boot s.kept.opened s.phase s.table a.boots

-- the last boot was at this time, and the timed entries fit the server
pub record LogRuns (booted : ℕ) (s : Server) (log : List Entry) : Type 0 where
  pub by : LogBy s.now log
  pub heard : HeardAll s.phase log
  pub told : ToldBoot booted s.kept.boot s.kept.longest s.phase log
  pub short : GrantsShort s.kept log
  pub granted : RowsGranted s.phase s.table log
  pub hear : RowsHear s.phase s.table log
  pub waits : PhaseWaitsOf booted s

pub runs-receive : (most booted : ℕ) (s : Server) (sender next : ℕ) (d : Datagram) (log : List Entry) → Alone most s → LogRuns booted s log
    → LogRuns booted (receive s sender next d).server (timed (receive s sender next d).entries ++ log)
runs-receive most booted s sender next d log a l = record {
  by = subst (λ now. LogBy now (timed (receive s sender next d).entries ++ log)) (sym (receive-keeps s sender next d).1) (by-receive s sender next d log l.by);
  heard = heard-receive s sender next d log l.by l.heard;
  told = told-receive booted s sender next d log l.told;
  short = short-receive most s sender next d log a.boots a.terms l.short;
  granted = granted-receive s sender next d log a.stands a.incs l.granted;
  hear = hear-receive s sender next d log a.stands l.by l.hear;
  waits = waits-receive booted s sender next d l.waits;
}

pub runs-tick : (most booted : ℕ) (s : Server) (now : ℕ) (log : List Entry) → s.now ≤ now → Alone most s → LogRuns booted s log
    → LogRuns booted (tick s now).server (timed (tick s now).entries ++ log)
runs-tick most booted s now log later a l = record {
  by = subst (λ time. LogBy time (timed (tick s now).entries ++ log)) (sym (tick-keeps s now).1) (by-tick s now log later l.by);
  heard = heard-tick s now log l.heard;
  told = told-tick booted s now log l.told;
  short = short-tick s now log a.boots l.short;
  granted = granted-tick s now log (none-recovering most s a) a.stands l.granted;
  hear = hear-tick s now log (none-recovering most s a) a.stands l.hear;
  waits = waits-tick booted s now later l.waits;
}

-- after a crash the last boot was at the server's time
pub runs-crash : (most booted : ℕ) (s : Server) (longest : ℕ) (log : List Entry) → Alone most s → LogRuns booted s log
    → LogRuns s.now (crash s longest).server (timed (crash s longest).entries ++ log)
runs-crash most booted s longest log a l = record {
  by = subst (λ now. LogBy now (timed (crash s longest).entries ++ log)) (sym (crash-now s longest)) (by-crash s longest log l.by);
  heard = heard-crash s longest log l.by;
  told = told-crash s longest log;
  short = short-crash s longest log a.boots l.short;
  granted = granted-crash s longest log l.granted;
  hear = hear-crash s longest log;
  waits = waits-crash s longest;
}

pub runs-start : (head : Head) → LogRuns 0 (start head).server []
unfolding start boot empty_table
runs-start head = record {
  by = tt;
  heard = tt;
  told = tt;
  short = tt;
  granted = λ file host row found. absurd (cc);
  hear = λ file host row found. absurd (cc);
  waits = tt;
}
