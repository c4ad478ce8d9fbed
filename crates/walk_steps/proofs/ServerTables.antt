-- The boots, the phase and the lease tables of a server fit each other after every step.
use Rattle.std.proofs.Common.{◌≡◌, ◌<◌, ◌≤◌, ℕ, ◌+◌, ◌==◌, Bool, true, false, not, List, [], ◌∷◌, ◌++◌, Option, Some, None, if◌then◌else◌, max, refl}
use Rattle.std.proofs.Common.{sym, subst, ap, ◌∙◌, arith}
use Rattle.std.specs.Prelude.{is_some}
use Rattle.nq_base.specs.declared.Row.{Row}
use Rattle.nq_base.specs.declared.Who.{Who}
use Rattle.nq_model.specs.protocol.Kept.{File, Kept, find_file, replace_file, drop_file, new_file, fenced_file, with_files, with_new_file, with_row}
use Rattle.nq_model.specs.protocol.Message.{Datagram}
use Rattle.nq_model.specs.protocol.Profile.{write_slack}
use Rattle.nq_model.specs.protocol.Server.{Phase, serving, recovering, Server, standing_in, standing, last_table, last_in}
use Rattle.nq_model.specs.protocol.ServerStep.{vacated_rows, to_read, receive, is_over, end_reading, fence, tick, boot_phase, booted, boot, crash}
use Rattle.nq_model.specs.protocol.Table.{Table, is_row_of, find_row, drop_row, put_row, drop_host, drop_rows_of, with_rows, after_draw, empty_table}
use Rattle.walk_steps.proofs.KeptChanges.{is-kept-replaced, find-added, find-not-removed}
use Rattle.walk_steps.proofs.RowChanges.{HasUniqueKeys, unique-filtered, found-kept, found-vacated, unique-vacated, find-file-dropped}
use Rattle.walk_steps.proofs.Rows.{found-row}
use Rattle.walk_steps.proofs.ServerMoves.{ServerMoves, server-moves, tick-moves}
use Rattle.walk_steps.proofs.TableFits.{TableFits, no-rows-fit, fits-files, fits-fewer, fits-fewer-files, fits-marked, fits-put, fits-granted, fits-waiter}

-- a server that serves is the last boot that does, and its table is of this boot
pub record ServesBoot (boot opened : ℕ) (table : Table) : Type 0 where
  pub opened_now : opened ≡ boot
  pub table_boot : table.boot ≡ boot

-- a server that recovers comes after the boot that served last, with the table of that boot in mind; its own table is of
-- this boot, empty, and has drawn no tag
pub record RecoversBoot (boot opened : ℕ) (table : Table) (last : Option Table) : Type 0 where
  pub opened_before : opened < boot
  pub table_boot : table.boot ≡ boot
  pub none_drawn : table.drawn ≡ 0
  pub empty : table.rows ≡ []
  pub last_boot : (last_table last).boot ≡ opened

-- the phase and the tables fit the boots
abbrev pub BootsFit : (boot opened : ℕ) → Phase → Table → Type 0
BootsFit boot opened serving table = ServesBoot boot opened table
BootsFit boot opened (recovering until heard last) table = RecoversBoot boot opened table last

abbrev pub BootsFitOf : Server → Type 0
BootsFitOf s = BootsFit s.kept.boot s.kept.opened s.phase s.table

-- the table that stands keeps to its rules
abbrev pub StandingFits : List File → Phase → Table → Type 0
StandingFits files phase table = TableFits files (standing_in phase table).boot (standing_in phase table).drawn (standing_in phase table).rows

abbrev pub StandingFitsOf : Server → Type 0
StandingFitsOf s = StandingFits s.kept.files s.phase s.table

-- a change of the table that leaves its boot, and leaves no rows and no tags where there were none
boots-with-rows : (boot opened : ℕ) (phase : Phase) (table : Table) (rows : List Row) → (table.rows ≡ [] → rows ≡ []) → BootsFit boot opened phase table
    → BootsFit boot opened phase (with_rows table rows)
unfolding with_rows
boots-with-rows boot opened serving table rows none b = record { opened_now = b.opened_now; table_boot = b.table_boot }
boots-with-rows boot opened (recovering until heard last) table rows none b =
    record { opened_before = b.opened_before; table_boot = b.table_boot; none_drawn = b.none_drawn; empty = none b.empty; last_boot = b.last_boot }

boots-served : (boot opened : ℕ) (phase : Phase) (table after : Table) → phase ≡ serving → after.boot ≡ table.boot → BootsFit boot opened phase table
    → BootsFit boot opened phase after
boots-served boot opened phase table after p same b =
    subst (λ p. BootsFit boot opened p table → BootsFit boot opened p after) (sym p)
    (λ (b : ServesBoot boot opened table). record { opened_now = b.opened_now; table_boot = same ∙ b.table_boot }) b

boots-recovered : (boot opened : ℕ) (phase : Phase) (table : Table) (until heard until' heard' : ℕ) (last : Option Table)
    → phase ≡ recovering until heard last → BootsFit boot opened phase table → BootsFit boot opened (recovering until' heard' last) table
boots-recovered boot opened phase table until heard until' heard' last p b = subst (λ p. BootsFit boot opened p table) p b

boots-moves : (s : Server) (d : Datagram) → BootsFitOf s → ServerMoves s d (λ kept phase table. BootsFit kept.boot kept.opened phase table)
unfolding with_row with_files with_new_file with_rows after_draw
boots-moves s d b = record {
  stays = b;
  decided = λ kept phase table who line inc same q. q;
  attaching = λ who later. boots-with-rows s.kept.boot s.kept.opened s.phase s.table _ (λ e. ap (drop_host who.host) e) b;
  vacating =
      λ who file tag current. boots-with-rows s.kept.boot s.kept.opened s.phase s.table _
      (λ e. ap (λ rows. vacated_rows who file tag rows (find_row file who.host rows)) e) b;
  marking = λ file host access serves. boots-served s.kept.boot s.kept.opened s.phase s.table _ serves refl b;
  marking_waiting = λ xid r who f want e wants asking own room. boots-served s.kept.boot s.kept.opened s.phase s.table _ asking.serves refl b;
  granting = λ xid r who f want row term e wants asking c g. boots-served s.kept.boot s.kept.opened s.phase s.table _ asking.serves refl b;
  creating = λ name blocks serves can. b;
  changing = λ who f file serves current found same c. b;
  storing = λ who f file base row serves current found same can. boots-served s.kept.boot s.kept.opened s.phase s.table _ serves refl b;
  storing_recovering =
      λ f file until heard last p found same. boots-recovered s.kept.boot s.kept.opened s.phase s.table until heard (max until (s.now + write_slack))
      s.now last p b;
  removing = λ who f serves current found c. boots-served s.kept.boot s.kept.opened s.phase s.table _ serves refl b;
}

-- the boots fit after a datagram
pub boots-receive : (s : Server) (sender next : ℕ) (d : Datagram) → BootsFitOf s → BootsFitOf (receive s sender next d).server
boots-receive s sender next d b = server-moves s sender next d (λ kept phase table. BootsFit kept.boot kept.opened phase table) (boots-moves s d b)

boots-fenced : (kept : Kept) (file : Option File) (phase : Phase) (table : Table) → BootsFit kept.boot kept.opened phase table
    → BootsFit (fence kept file).boot (fence kept file).opened phase table
unfolding with_files
boots-fenced kept None phase table b = b
boots-fenced kept (Some f) phase table b = b

boots-opened : (s : Server) (until heard : ℕ) (last : Option Table) → s.phase ≡ recovering until heard last → BootsFitOf s
    → ServesBoot s.kept.boot s.kept.boot s.table
boots-opened s until heard last p b =
    let r : RecoversBoot s.kept.boot s.kept.opened s.table last = subst (λ p. BootsFit s.kept.boot s.kept.opened p s.table) p b in
    record { opened_now = refl; table_boot = r.table_boot }

-- the boots fit after a tick
pub boots-tick : (s : Server) (now : ℕ) → BootsFitOf s → BootsFitOf (tick s now).server
unfolding with_rows
boots-tick s now b = tick-moves s now (λ kept phase table. BootsFit kept.boot kept.opened phase table) (record {
  waits = λ until heard last p goes_on. b;
  opening = λ until heard last p over. boots-opened s until heard last p b;
  ends_reading = λ p. boots-served s.kept.boot s.kept.opened s.phase s.table _ p refl b;
  ending_writing =
      λ row p due. boots-fenced s.kept (find_file row.file s.kept.files) s.phase _ (boots-served s.kept.boot s.kept.opened s.phase s.table _ p refl b);
})

-- the boots fit after a boot over a kept state whose last boot that served is no later than its last boot, with that
-- boot's table in mind
pub boots-boot : (kept : Kept) (longest now : ℕ) (last : Option Table) → kept.opened ≤ kept.boot → (last_table last).boot ≡ kept.opened
    → BootsFitOf (boot kept longest now last)
unfolding boot empty_table
boots-boot kept longest now last before same = by (kept.opened == 0) refl
  where
    by : (b : Bool) → (kept.opened == 0) ≡ b
        → BootsFit (if b then record kept { boot = kept.boot + 1; opened = kept.boot + 1; longest = longest } else record kept
        { boot = kept.boot + 1 }).boot (if b then record kept { boot = kept.boot + 1; opened = kept.boot + 1; longest = longest } else record kept
        { boot = kept.boot + 1 }).opened (if b then serving else recovering (now + kept.longest + 8) now last) (empty_table (kept.boot + 1))
    by true e = record { opened_now = refl; table_boot = refl }
    by false e = record { opened_before = omega arith; table_boot = refl; none_drawn = refl; empty = refl; last_boot = same }

-- the boot that served last is no later than the last boot
pub opened-before : (boot opened : ℕ) (phase : Phase) (table : Table) → BootsFit boot opened phase table → opened ≤ boot
opened-before boot opened serving table b = omega (arith, b.opened_now)
opened-before boot opened (recovering until heard last) table b = omega (arith, b.opened_before)

-- the standing table is of the boot that served last
pub standing-boot : (boot opened : ℕ) (phase : Phase) (table : Table) → BootsFit boot opened phase table → (standing_in phase table).boot ≡ opened
standing-boot boot opened serving table b = b.table_boot ∙ sym b.opened_now
standing-boot boot opened (recovering until heard last) table b = b.last_boot

-- the boots fit after a crash
pub boots-crash : (s : Server) (longest : ℕ) → BootsFitOf s → BootsFitOf (crash s longest).server
unfolding crash
boots-crash s longest b = boots-boot s.kept longest s.now (last_in s.phase s.table) (opened-before _ _ s.phase s.table b) (standing-boot _ _ s.phase s.table b)

-- while the server recovers its own table is empty
abbrev pub NoneRecovering : Phase → Table → Type 0
NoneRecovering serving table = Unit {0}
NoneRecovering (recovering until heard last) table = table.rows ≡ []

abbrev pub NoneRecoveringOf : Server → Type 0
NoneRecoveringOf s = NoneRecovering s.phase s.table

pub none-of-boots : (boot opened : ℕ) (phase : Phase) (table : Table) → BootsFit boot opened phase table → NoneRecovering phase table
none-of-boots boot opened serving table b = tt
none-of-boots boot opened (recovering until heard last) table b = b.empty

none-with-rows : (phase : Phase) (table : Table) (rows : List Row) → (table.rows ≡ [] → rows ≡ []) → NoneRecovering phase table
    → NoneRecovering phase (with_rows table rows)
unfolding with_rows
none-with-rows serving table rows none b = tt
none-with-rows (recovering until heard last) table rows none b = none b

none-served : (phase : Phase) (table : Table) → phase ≡ serving → NoneRecovering phase table
none-served phase table p = subst (λ p. NoneRecovering p table) (sym p) tt

none-moves : (s : Server) (d : Datagram) → NoneRecoveringOf s → ServerMoves s d (λ kept phase table. NoneRecovering phase table)
none-moves s d b = record {
  stays = b;
  decided = λ kept phase table who line inc same q. q;
  attaching = λ who later. none-with-rows s.phase s.table _ (λ e. ap (drop_host who.host) e) b;
  vacating = λ who file tag current. none-with-rows s.phase s.table _ (λ e. ap (λ rows. vacated_rows who file tag rows (find_row file who.host rows)) e) b;
  marking = λ file host access serves. none-served s.phase _ serves;
  marking_waiting = λ xid r who f want e wants asking own room. none-served s.phase _ asking.serves;
  granting = λ xid r who f want row term e wants asking c g. none-served s.phase _ asking.serves;
  creating = λ name blocks serves can. b;
  changing = λ who f file serves current found same c. b;
  storing = λ who f file base row serves current found same can. none-served s.phase _ serves;
  storing_recovering = λ f file until heard last p found same. subst (λ p. NoneRecovering p s.table) p b;
  removing = λ who f serves current found c. none-served s.phase _ serves;
}

pub none-receive : (s : Server) (sender next : ℕ) (d : Datagram) → NoneRecoveringOf s → NoneRecoveringOf (receive s sender next d).server
none-receive s sender next d b = server-moves s sender next d (λ kept phase table. NoneRecovering phase table) (none-moves s d b)

pub none-tick : (s : Server) (now : ℕ) → NoneRecoveringOf s → NoneRecoveringOf (tick s now).server
none-tick s now b = tick-moves s now (λ kept phase table. NoneRecovering phase table) (record {
  waits = λ until heard last p goes_on. b;
  opening = λ until heard last p over. tt;
  ends_reading = λ p. none-served s.phase _ p;
  ending_writing = λ row p due. none-served s.phase _ p;
})

pub none-boot : (kept : Kept) (longest now : ℕ) (last : Option Table) → NoneRecoveringOf (boot kept longest now last)
unfolding boot empty_table
none-boot kept longest now last = by (kept.opened == 0)
  where
    by : (b : Bool) → NoneRecovering (if b then serving else recovering (now + kept.longest + 8) now last) (empty_table (kept.boot + 1))
    by true = tt
    by false = refl

pub none-crash : (s : Server) (longest : ℕ) → NoneRecoveringOf (crash s longest).server
unfolding crash
none-crash s longest = none-boot s.kept longest s.now (last_in s.phase s.table)

-- where a recovery ends, the table is empty
pub none-opened : (s : Server) (until heard : ℕ) (last : Option Table) → s.phase ≡ recovering until heard last → NoneRecoveringOf s → s.table.rows ≡ []
none-opened s until heard last p b = subst (λ p. NoneRecovering p s.table) p b

-- the standing table keeps to its rules: where the server serves, that is its own
module _ (s : Server) (d : Datagram) (t : StandingFitsOf s) where
  own-fits : s.phase ≡ serving → TableFits s.kept.files s.table.boot s.table.drawn s.table.rows
  own-fits p = subst (λ p. StandingFits s.kept.files p s.table) p t

  as-own : (files : List File) (table : Table) → s.phase ≡ serving → TableFits files table.boot table.drawn table.rows → StandingFits files s.phase table
  as-own files table p f = subst (λ p. StandingFits files p table) (sym p) f

  -- fewer rows in its own table, which is not the standing one while it recovers
  stands-fewer : (phase : Phase) (rows : List Row) → (HasUniqueKeys s.table.rows → HasUniqueKeys rows)
      → (HasUniqueKeys s.table.rows → (file host : ℕ) (row : Row) → find_row file host rows ≡ Some row → find_row file host s.table.rows ≡ Some row)
      → StandingFits s.kept.files phase s.table → StandingFits s.kept.files phase (with_rows s.table rows)
  unfolding with_rows
  stands-fewer serving rows unique stood f = fits-fewer s.kept.files s.table.boot s.table.drawn s.table.rows rows (unique f.unique) (stood f.unique) f
  stands-fewer (recovering until heard last) rows unique stood f = f

  keeps-replaced : (file : File) (id : ℕ) → is_some (find_file id s.kept.files) ≡ true → is_some (find_file id (replace_file file s.kept.files)) ≡ true
  keeps-replaced file id e = is-kept-replaced id file s.kept.files ∙ e

  stands-replaced : (file : File) → StandingFits (replace_file file s.kept.files) s.phase s.table
  stands-replaced file = fits-files s.kept.files (replace_file file s.kept.files) (standing s).boot (standing s).drawn (standing s).rows
      (keeps-replaced file) t

  keeps-added : (file : File) (id : ℕ) → is_some (find_file id s.kept.files) ≡ true → is_some (find_file id (s.kept.files ++ file ∷ [])) ≡ true
  keeps-added file id e = by (find_file id s.kept.files) refl e
    where
      by : (o : Option File) → find_file id s.kept.files ≡ o → is_some o ≡ true → is_some (find_file id (s.kept.files ++ file ∷ [])) ≡ true
      by None f g = absurd (cc)
      by (Some x) f g = ap is_some (find-added id file x s.kept.files f)

  stored-fits : (who : Who) (f : File) (row : Row) → find_row f.id who.host s.table.rows ≡ Some row
      → TableFits s.kept.files s.table.boot s.table.drawn s.table.rows
      → TableFits s.kept.files s.table.boot s.table.drawn (put_row (record row { heard = s.now }) s.table.rows)
  stored-fits who f row found own =
      let k = found-row f.id who.host s.table.rows row found in
      let fit = own.fits f.id who.host row found in
      fits-put s.kept.files s.table.boot s.table.drawn s.table.drawn s.table.rows (record row { heard = s.now }) (omega arith)
      (record {
        kept = fit.kept;
        tag_boot = fit.tag_boot;
        since_boot = fit.since_boot;
        drawn_before = fit.drawn_before;
        in_order = fit.in_order;
        calm = fit.calm;
      })
      (record {
        to_others =
            λ other r beside differs writes. own.alone f.id who.host other row r found (subst (λ i. find_row i other s.table.rows ≡ Some r) k.0 beside)
            (λ same. differs (same ∙ sym k.1)) writes;
        to_it =
            λ other r beside differs writes. own.alone f.id other who.host r row (subst (λ i. find_row i other s.table.rows ≡ Some r) k.0 beside) found
            (λ same. differs (sym same ∙ sym k.1)) writes;
      })
      own

  removed-fits : (f : File) → TableFits s.kept.files s.table.boot s.table.drawn s.table.rows
      → TableFits (drop_file f.id s.kept.files) s.table.boot s.table.drawn (drop_rows_of f.id s.table.rows)
  removed-fits f own = fits-fewer-files s.kept.files (drop_file f.id s.kept.files) s.table.boot s.table.drawn s.table.rows (drop_rows_of f.id s.table.rows)
      (unique-filtered _ s.table.rows own.unique)
      (λ file host row found. (found-kept (λ r. not (r.file == f.id)) file host s.table.rows row own.unique found).0)
      (λ file host row found kept. subst (λ o. is_some o ≡ true) (sym (find-not-removed f.id file s.kept.files (λ same. gone file host row found same))) kept)
      own
    where
      gone : (file host : ℕ) (row : Row) → find_row file host (drop_rows_of f.id s.table.rows) ≡ Some row → file ≡ f.id → ⊥
      gone file host row found same =
          let none : find_row file host (drop_rows_of f.id s.table.rows) ≡ None = subst (λ i. find_row i host (drop_rows_of f.id s.table.rows) ≡ None)
          (sym same) (find-file-dropped f.id host s.table.rows) in cc

  is-there : (id : ℕ) (f : File) → find_file id s.kept.files ≡ Some f → is_some (find_file id s.kept.files) ≡ true
  is-there id f e = ap is_some e

  stands-moves : ServerMoves s d (λ kept phase table. StandingFits kept.files phase table)
  unfolding with_row with_files with_new_file with_rows after_draw
  stands-moves = record {
    stays = t;
    decided = λ kept phase table who line inc same q. q;
    attaching =
        λ who later. stands-fewer s.phase _ (unique-filtered _ s.table.rows)
        (λ unique file host row found. (found-kept (λ r. not (r.who.host == who.host)) file host s.table.rows row unique found).0) t;
    vacating =
        λ who file tag current. stands-fewer s.phase _ (unique-vacated who file tag s.table.rows _)
        (λ unique f h row found. found-vacated who file tag s.table.rows _ f h row unique found) t;
    marking =
        λ file host access serves. as-own s.kept.files _ serves
        (fits-marked s.kept.files s.table.boot s.table.drawn s.table.rows file host access (own-fits serves));
    marking_waiting =
        λ xid r who f want e wants asking own room. as-own s.kept.files _ asking.serves
        (fits-waiter s.kept.files s.table (to_read s who f (Some want)) want (is-there f.id f asking.found) (own-fits asking.serves));
    granting =
        λ xid r who f want row term e wants asking c g. as-own s.kept.files _ asking.serves
        (fits-granted s.kept.files s.table (to_read s who f (Some want)) want (is-there f.id f asking.found) refl c (own-fits asking.serves) row term g);
    creating =
        λ name blocks serves can. as-own _ _ serves
        (fits-files s.kept.files _ s.table.boot s.table.drawn s.table.rows (keeps-added (new_file s.kept.next name blocks)) (own-fits serves));
    changing = λ who f file serves current found same c. stands-replaced file;
    storing =
        λ who f file base row serves current found same can. as-own _ _ serves
        (fits-files s.kept.files _ s.table.boot s.table.drawn _ (keeps-replaced file) (stored-fits who f row can.row_found (own-fits serves)));
    storing_recovering = λ f file until heard last p found same. subst (λ p. StandingFits (replace_file file s.kept.files) p s.table) p (stands-replaced file);
    removing = λ who f serves current found c. as-own _ _ serves (removed-fits f (own-fits serves));
  }

-- the standing table keeps to its rules after a datagram
pub stands-receive : (s : Server) (sender next : ℕ) (d : Datagram) → StandingFitsOf s → StandingFitsOf (receive s sender next d).server
stands-receive s sender next d t = server-moves s sender next d (λ kept phase table. StandingFits kept.files phase table) (stands-moves s d t)

ended-fits : (s : Server) (now : ℕ) → TableFits s.kept.files s.table.boot s.table.drawn s.table.rows
    → TableFits s.kept.files s.table.boot s.table.drawn (end_reading now s.table.rows)
ended-fits s now own =
    fits-fewer s.kept.files s.table.boot s.table.drawn s.table.rows _ (unique-filtered _ s.table.rows own.unique)
    (λ file host row found. (found-kept (λ r. not (is_over now r)) file host s.table.rows row own.unique found).0) own

dropped-fits : (files : List File) (boot drawn : ℕ) (rows : List Row) (file host : ℕ) → TableFits files boot drawn rows
    → TableFits files boot drawn (drop_row file host rows)
dropped-fits files boot drawn rows file host own =
    fits-fewer files boot drawn rows _ (unique-filtered _ rows own.unique)
    (λ f h row found. (found-kept (λ r. not (is_row_of file host r)) f h rows row own.unique found).0) own

fenced-fits : (kept : Kept) (o : Option File) (boot drawn : ℕ) (rows : List Row) → TableFits kept.files boot drawn rows
    → TableFits (fence kept o).files boot drawn rows
unfolding with_files
fenced-fits kept None boot drawn rows own = own
fenced-fits kept (Some f) boot drawn rows own = fits-files kept.files _ boot drawn rows (λ id e. is-kept-replaced id (fenced_file f) kept.files ∙ e) own

stands-opened : (s : Server) (until heard : ℕ) (last : Option Table) → s.phase ≡ recovering until heard last → NoneRecoveringOf s
    → TableFits s.kept.files s.table.boot s.table.drawn s.table.rows
stands-opened s until heard last p b =
    subst (TableFits s.kept.files s.table.boot s.table.drawn) (sym (none-opened s until heard last p b))
    (no-rows-fit s.kept.files s.table.boot s.table.drawn)

-- and after a tick
pub stands-tick : (s : Server) (now : ℕ) → NoneRecoveringOf s → StandingFitsOf s → StandingFitsOf (tick s now).server
unfolding with_rows
stands-tick s now b t = tick-moves s now (λ kept phase table. StandingFits kept.files phase table) (record {
  waits = λ until heard last p goes_on. t;
  opening = λ until heard last p over. stands-opened s until heard last p b;
  ends_reading =
      λ p. subst (λ p. StandingFits s.kept.files p (with_rows s.table (end_reading now s.table.rows))) (sym p)
      (ended-fits s now (subst (λ p. StandingFits s.kept.files p s.table) p t));
  ending_writing =
      λ row p due. subst (λ p. StandingFits (fence s.kept (find_file row.file s.kept.files)).files p
      (with_rows s.table (drop_row row.file row.who.host (end_reading now s.table.rows)))) (sym p)
      (fenced-fits s.kept (find_file row.file s.kept.files) s.table.boot s.table.drawn _
      (dropped-fits s.kept.files s.table.boot s.table.drawn _ row.file row.who.host
      (ended-fits s now (subst (λ p. StandingFits s.kept.files p s.table) p t))));
})

booted-files : (kept : Kept) (longest : ℕ) → (booted kept longest).files ≡ kept.files
booted-files kept longest = by (kept.opened == 0)
  where
    by : (b : Bool)
        → (if b then record kept { boot = kept.boot + 1; opened = kept.boot + 1; longest = longest } else record kept { boot = kept.boot + 1 }).files ≡
        kept.files
    by true = refl
    by false = refl

-- and after a boot with a table in mind that keeps to them
pub stands-boot : (kept : Kept) (longest now : ℕ) (last : Option Table)
    → TableFits kept.files (last_table last).boot (last_table last).drawn (last_table last).rows → StandingFitsOf (boot kept longest now last)
unfolding boot empty_table
stands-boot kept longest now last f =
    subst (λ files. StandingFits files (boot_phase kept.opened kept.longest now last) (empty_table (kept.boot + 1))) (sym (booted-files kept longest))
    (by (kept.opened == 0))
  where
    by : (b : Bool) → StandingFits kept.files (if b then serving else recovering (now + kept.longest + 8) now last) (empty_table (kept.boot + 1))
    by true = no-rows-fit kept.files (kept.boot + 1) 0
    by false = f

-- and after a crash
pub stands-crash : (s : Server) (longest : ℕ) → StandingFitsOf s → StandingFitsOf (crash s longest).server
unfolding crash
stands-crash s longest t = stands-boot s.kept longest s.now (last_in s.phase s.table) t
