-- Facts about a server that each of its steps keeps: whose rows stand, terms, file ids, and how long a recovery waits.
use Rattle.std.proofs.Common.{◌≡◌, ◌<◌, ◌≤◌, ◌⊎◌, ℕ, ◌+◌, ◌==◌, Bool, true, false, not, List, Option, Some, None, if◌then◌else◌, max, refl, sym}
use Rattle.std.proofs.Common.{subst, ap, ◌∙◌, arith, inl, inr}
use Rattle.nq_base.specs.declared.Access.{Access}
use Rattle.nq_base.specs.declared.HostRow.{HostRow}
use Rattle.nq_base.specs.declared.Question.{Question}
use Rattle.nq_base.specs.declared.Row.{Row}
use Rattle.nq_base.specs.declared.Want.{Want}
use Rattle.nq_base.specs.declared.Who.{Who}
use Rattle.nq_model.specs.protocol.Ask.{term_of, marked, sharing_row, caching_row, shared_again, renewed_row}
use Rattle.nq_model.specs.protocol.Kept.{File, Kept, find_file, replace_file, drop_file, with_files, with_new_file, with_row, host_row}
use Rattle.nq_model.specs.protocol.Message.{Datagram, too_long}
use Rattle.nq_model.specs.protocol.Profile.{write_slack}
use Rattle.nq_model.specs.protocol.Server.{Phase, serving, recovering, Server, standing_in, last_table, last_in}
use Rattle.nq_model.specs.protocol.ServerStep.{to_read, receive, is_over, end_reading, fence, tick, boot, crash}
use Rattle.nq_model.specs.protocol.Table.{Table, is_row_of, find_row, put_row, drop_host, with_rows, after_draw, empty_table}
use Rattle.walk_steps.proofs.AskCases.{own_in, with_marked, IsGranted, shares_again, begins_sharing, begins_caching, renews_row}
use Rattle.walk_steps.proofs.KeptChanges.{same-incs, later-incs, other-line}
use Rattle.walk_steps.proofs.RowChanges.{HasUniqueKeys, unique-filtered, of-key, found-put, found-kept, found-vacated, find-host-dropped}
use Rattle.walk_steps.proofs.RowChanges.{found-marked, mark-is}
use Rattle.walk_steps.proofs.Rows.{found-row}
use Rattle.walk_steps.proofs.ServerMoves.{first_line, ServerMoves, server-moves, tick-moves}
use Rattle.walk_steps.proofs.ServerOutcomes.{line_of}
use Rattle.walk_steps.proofs.ServerTables.{NoneRecoveringOf, none-opened, StandingFits, StandingFitsOf}
use Rattle.walk_steps.proofs.TableFits.{TableFits}

-- each row is of the kept incarnation of its host
abbrev pub AreCurrent : Kept → List Row → Type 0
AreCurrent kept rows = (file host : ℕ) (row : Row) → find_row file host rows ≡ Some row → row.who.inc ≡ (host_row kept host).inc

-- no row is of an incarnation that is later than the kept one
abbrev pub AreNoLater : Kept → List Row → Type 0
AreNoLater kept rows = (file host : ℕ) (row : Row) → find_row file host rows ≡ Some row → row.who.inc ≤ (host_row kept host).inc

-- whose rows stand: those of kept incarnations, and while the server recovers of kept ones at most
abbrev pub IncsFit : Kept → Phase → Table → Type 0
IncsFit kept serving table = AreCurrent kept table.rows
IncsFit kept (recovering until heard last) table = AreNoLater kept (last_table last).rows

abbrev pub IncsFitOf : Server → Type 0
IncsFitOf s = IncsFit s.kept s.phase s.table

incs-decided : (kept : Kept) (phase : Phase) (table : Table) (host : ℕ) (line : HostRow) → line.inc ≡ (host_row kept host).inc
    → IncsFit kept phase table → IncsFit (with_row kept host line) phase table
incs-decided kept serving table host line same f = λ file h row found. f file h row found ∙ sym (same-incs kept host line h same)
incs-decided kept (recovering until heard last) table host line same f =
    λ file h row found. subst (λ n. row.who.inc ≤ n) (sym (same-incs kept host line h same)) (f file h row found)

incs-same : (kept after : Kept) (phase : Phase) (table : Table) → ((host : ℕ) → host_row after host ≡ host_row kept host) → IncsFit kept phase table
    → IncsFit after phase table
incs-same kept after serving table same f = λ file host row found. f file host row found ∙ ap (λ line. line.inc) (sym (same host))
incs-same kept after (recovering until heard last) table same f =
    λ file host row found. subst (λ line. row.who.inc ≤ line.inc) (sym (same host)) (f file host row found)

incs-fewer : (kept : Kept) (phase : Phase) (table : Table) (rows : List Row)
    → (phase ≡ serving → (file host : ℕ) (row : Row) → find_row file host rows ≡ Some row → find_row file host table.rows ≡ Some row)
    → IncsFit kept phase table → IncsFit kept phase (with_rows table rows)
unfolding with_rows
incs-fewer kept serving table rows stood f = λ file host row found. f file host row (stood refl file host row found)
incs-fewer kept (recovering until heard last) table rows stood f = f

incs-put : (kept : Kept) (rows : List Row) (row : Row) → row.who.inc ≡ (host_row kept row.who.host).inc → AreCurrent kept rows
    → AreCurrent kept (put_row row rows)
incs-put kept rows row current f = λ file host r found. by file host r (found-put file host row r rows found)
  where
    by : (file host : ℕ) (r : Row) → ((is_row_of file host row ≡ true) × (r ≡ row))
        ⊎ ((is_row_of file host row ≡ false) × (find_row file host rows ≡ Some r)) → r.who.inc ≡ (host_row kept host).inc
    by file host r (inl e) = ap (λ x. x.who.inc) e.1 ∙ current ∙ ap (λ h. (host_row kept h).inc) (of-key file host row e.0).1
    by file host r (inr e) = f file host r e.1

incs-marked : (kept : Kept) (rows : List Row) (f h : ℕ) (access : Access) → AreCurrent kept rows → AreCurrent kept (marked f h access rows)
incs-marked kept rows f h access current = λ file host row found.
    let w = found-marked f h access file host rows row found in
    ap (λ x. x.who.inc) w.is ∙ ap (λ who. who.inc) (mark-is f h access w.was).who ∙ current file host w.was w.found

module _ (s : Server) (d : Datagram) (t : StandingFitsOf s) (f : IncsFitOf s) where
  own-incs : s.phase ≡ serving → AreCurrent s.kept s.table.rows
  own-incs p = subst (λ p. IncsFit s.kept p s.table) p f

  own-unique : s.phase ≡ serving → HasUniqueKeys s.table.rows
  own-unique p = let own : TableFits s.kept.files s.table.boot s.table.drawn s.table.rows = subst (λ p. StandingFits s.kept.files p s.table) p t in own.unique

  as-own-incs : (table : Table) → s.phase ≡ serving → AreCurrent s.kept table.rows → IncsFit s.kept s.phase table
  as-own-incs table p g = subst (λ p. IncsFit s.kept p table) (sym p) g

  incs-attach : (who : Who) (phase : Phase) → s.phase ≡ phase → (line_of s who).inc < who.inc → IncsFit s.kept phase s.table
      → IncsFit (with_row s.kept who.host (first_line who)) phase (with_rows s.table (drop_host who.host s.table.rows))
  unfolding with_rows
  incs-attach who serving p later g = λ file host row found.
      let stood = (found-kept (λ r. not (r.who.host == who.host)) file host s.table.rows row (own-unique p) found).0 in
      g file host row stood ∙ ap (λ line. line.inc) (sym (other-line s.kept who.host host (first_line who) (λ same. gone file host row found same)))
    where
      gone : (file host : ℕ) (row : Row) → find_row file host (drop_host who.host s.table.rows) ≡ Some row → host ≡ who.host → ⊥
      gone file host row found same =
          let none : find_row file host (drop_host who.host s.table.rows) ≡ None = subst (λ h. find_row file h (drop_host who.host s.table.rows) ≡ None)
          (sym same) (find-host-dropped file who.host s.table.rows) in cc
  incs-attach who (recovering until heard last) p later g = λ file host row found.
      let was : row.who.inc ≤ (host_row s.kept host).inc = g file host row found in
      let line : (host_row s.kept who.host).inc ≤ (first_line who).inc = omega arith in
      let grows : (host_row s.kept host).inc ≤ (host_row (with_row s.kept who.host (first_line who)) host).inc = later-incs s.kept who.host
      (first_line who) host line in
      omega arith

  granted-inc : (q : Question) (want : Want) (row : Row) (term : ℕ) → s.phase ≡ serving → q.who.inc ≡ (host_row s.kept q.who.host).inc
      → IsGranted s.table q want row term → row.who.inc ≡ (host_row s.kept row.who.host).inc
  unfolding sharing_row caching_row shared_again renewed_row
  granted-inc q want row term p current (shares_again own found stays shares is lasts) =
      subst (λ r. r.who.inc ≡ (host_row s.kept r.who.host).inc) (sym is) (own-inc q own p found)
    where
      own-inc : (q : Question) (own : Row) → s.phase ≡ serving → own_in s.table q ≡ Some own → own.who.inc ≡ (host_row s.kept own.who.host).inc
      own-inc q own p found =
          own-incs p q.file q.who.host own found ∙ ap (λ h. (host_row s.kept h).inc) (sym (found-row q.file q.who.host s.table.rows own found).1)
  granted-inc q want row term p current (begins_sharing none room shared is lasts) = subst (λ r. r.who.inc ≡ (host_row s.kept r.who.host).inc) (sym is) current
  granted-inc q want row term p current (begins_caching none room shared is lasts) = subst (λ r. r.who.inc ≡ (host_row s.kept r.who.host).inc) (sym is) current
  granted-inc q want row term p current (renews_row own found stays caching is lasts) =
      subst (λ r. r.who.inc ≡ (host_row s.kept r.who.host).inc) (sym is)
      (own-incs p q.file q.who.host own found ∙ ap (λ h. (host_row s.kept h).inc) (sym (found-row q.file q.who.host s.table.rows own found).1))

  stored-inc : (who : Who) (file : ℕ) (row : Row) → s.phase ≡ serving → find_row file who.host s.table.rows ≡ Some row
      → row.who.inc ≡ (host_row s.kept row.who.host).inc
  stored-inc who file row p found =
      own-incs p file who.host row found ∙ ap (λ h. (host_row s.kept h).inc) (sym (found-row file who.host s.table.rows row found).1)

  incs-moves : ServerMoves s d IncsFit
  unfolding with_files with_new_file with_rows after_draw sharing_row
  incs-moves = record {
    stays = f;
    decided = λ kept phase table who line inc same g. incs-decided kept phase table who.host line (same ∙ inc) g;
    attaching = λ who later. incs-attach who s.phase refl later f;
    vacating =
        λ who file tag current. incs-fewer s.kept s.phase s.table _
        (λ p f h row found. found-vacated who file tag s.table.rows _ f h row (own-unique p) found) f;
    marking = λ file host access serves. as-own-incs _ serves (incs-marked s.kept s.table.rows file host access (own-incs serves));
    marking_waiting =
        λ xid r who f want e wants asking own room. as-own-incs _ asking.serves
        (incs-put s.kept _ (sharing_row (with_marked s.table (to_read s who f (Some want))) (to_read s who f (Some want))
        (term_of (to_read s who f (Some want)) want)) asking.current.inc (incs-marked s.kept s.table.rows f.id who.host _ (own-incs asking.serves)));
    granting =
        λ xid r who f want row term e wants asking c g. as-own-incs _ asking.serves
        (incs-put s.kept s.table.rows row (granted-inc (to_read s who f (Some want)) want row term asking.serves asking.current.inc g)
        (own-incs asking.serves));
    creating = λ name blocks serves can. incs-same s.kept (with_new_file s.kept name blocks) s.phase s.table (λ host. refl) f;
    changing =
        λ who f' file serves current found same c. incs-same s.kept (with_files s.kept (replace_file file s.kept.files)) s.phase s.table (λ host. refl) f;
    storing =
        λ who f' file base row serves current found same can. incs-same s.kept (with_files s.kept (replace_file file s.kept.files)) s.phase _
        (λ host. refl) (as-own-incs _ serves
        (incs-put s.kept s.table.rows (record row { heard = s.now }) (stored-inc who f'.id row serves can.row_found) (own-incs serves)));
    storing_recovering =
        λ f' file until heard last p found same. incs-same s.kept (with_files s.kept (replace_file file s.kept.files))
        (recovering (max until (s.now + write_slack)) s.now last) s.table (λ host. refl) (subst (λ p. IncsFit s.kept p s.table) p f);
    removing =
        λ who f' serves current found c. incs-same s.kept (with_files s.kept (drop_file f'.id s.kept.files)) s.phase _ (λ host. refl)
        (incs-fewer s.kept s.phase s.table _
        (λ p file host row found. (found-kept (λ r. not (r.file == f'.id)) file host s.table.rows row (own-unique p) found).0) f);
  }

-- the rows that stand are of kept incarnations after a datagram
pub incs-receive : (s : Server) (sender next : ℕ) (d : Datagram) → StandingFitsOf s → IncsFitOf s → IncsFitOf (receive s sender next d).server
incs-receive s sender next d t f = server-moves s sender next d IncsFit (incs-moves s d t f)

pub fence-lines : (kept : Kept) (o : Option File) (host : ℕ) → host_row (fence kept o) host ≡ host_row kept host
unfolding with_files
fence-lines kept None host = refl
fence-lines kept (Some f) host = refl

incs-opened : (s : Server) (until heard : ℕ) (last : Option Table) → s.phase ≡ recovering until heard last → NoneRecoveringOf s → (kept : Kept)
    → AreCurrent kept s.table.rows
incs-opened s until heard last p b kept = subst (AreCurrent kept) (sym (none-opened s until heard last p b)) (λ file host row found. absurd (cc))

-- and after a tick
pub incs-tick : (s : Server) (now : ℕ) → NoneRecoveringOf s → StandingFitsOf s → IncsFitOf s → IncsFitOf (tick s now).server
unfolding with_rows
incs-tick s now b t f = tick-moves s now IncsFit (record {
  waits = λ until heard last p goes_on. f;
  opening = λ until heard last p over. incs-opened s until heard last p b (record s.kept { opened = s.kept.boot; longest = s.longest });
  ends_reading = λ p. incs-fewer s.kept s.phase s.table _ (λ p file host row found. (ended p file host row found)) f;
  ending_writing =
      λ row p due. incs-same s.kept (fence s.kept (find_file row.file s.kept.files)) s.phase _ (fence-lines s.kept (find_file row.file s.kept.files))
      (incs-fewer s.kept s.phase s.table _
      (λ p file host r found. ended p file host r
      (found-kept (λ r. not (is_row_of row.file row.who.host r)) file host _ r (unique-filtered _ s.table.rows (own-unique s too_long t f p)) found).0) f);
})
  where
    ended : s.phase ≡ serving → (file host : ℕ) (row : Row) → find_row file host (end_reading now s.table.rows) ≡ Some row
        → find_row file host s.table.rows ≡ Some row
    ended p file host row found = (found-kept (λ r. not (is_over now r)) file host s.table.rows row (own-unique s too_long t f p) found).0

-- and after a boot with a table in mind that has such rows at most
pub incs-boot : (kept : Kept) (longest now : ℕ) (last : Option Table) → AreNoLater kept (last_table last).rows → IncsFitOf (boot kept longest now last)
unfolding boot empty_table
incs-boot kept longest now last f = by (kept.opened == 0)
  where
    by : (b : Bool)
        → IncsFit (if b then record kept { boot = kept.boot + 1; opened = kept.boot + 1; longest = longest } else record kept { boot = kept.boot + 1 })
        (if b then serving else recovering (now + kept.longest + 8) now last) (empty_table (kept.boot + 1))
    by true = λ file host row found. absurd (cc)
    by false = f

standing-incs : (kept : Kept) (phase : Phase) (table : Table) → IncsFit kept phase table → AreNoLater kept (standing_in phase table).rows
standing-incs kept serving table f = λ file host row found. let same : row.who.inc ≡ (host_row kept host).inc = f file host row found in omega arith
standing-incs kept (recovering until heard last) table f = f

-- and after a crash
pub incs-crash : (s : Server) (longest : ℕ) → IncsFitOf s → IncsFitOf (crash s longest).server
unfolding crash
incs-crash s longest f = incs-boot s.kept longest s.now (last_in s.phase s.table) (standing-incs s.kept s.phase s.table f)
