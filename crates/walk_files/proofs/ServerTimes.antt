-- Ticks and crashes of the server keep kept files to their history.
use Rattle.std.proofs.Common.{◌≡◌, ℕ, ◌==◌, Bool, true, false, not, List, [], ◌∷◌, ◌++◌, Option, Some, None, refl, sym, subst, ap, ◌∙◌, arith}
use Rattle.std.specs.List.{find}
use Rattle.std.specs.Prelude.{is_some}
use Rattle.std.proofs.lemmas.Bool.Decides.{nat_tests}
use Rattle.nq_base.specs.declared.Entry.{Entry}
use Rattle.nq_base.specs.declared.Row.{Row}
use Rattle.walk_files.proofs.Facts.{History, Follows, follows, LineTells, line-follows, FilesFit, UnusedFit}
use Rattle.walk_files.proofs.FileMoves.{ChangesOnly, files-idle, unused-idle, files-changed, unused-changed}
use Rattle.walk_files.proofs.Histories.{NoChanges}
use Rattle.walk_files.proofs.UnchangedContents.{IsFirst}
use Rattle.walk_files.proofs.ServerDoes.{history_of, history_after, Shows}
use Rattle.nq_model.specs.protocol.Kept.{File, find_file, host_row, replace_file, fenced_file, with_files}
use Rattle.nq_model.specs.protocol.Message.{Packet, reply}
use Rattle.nq_model.specs.protocol.Server.{serving, Server, ServerStep, to_host, quiet, keeping_with, with_table}
use Rattle.nq_model.specs.protocol.ServerStep.{at_time, opens, is_over, is_due, end_reading, fence, ends_writing, tick, booted, boot, crash}
use Rattle.nq_model.specs.protocol.Table.{find_row, with_rows}
use Rattle.walk_steps.proofs.Packets.{In}
use Rattle.walk_steps.proofs.ServerTables.{StandingFits, StandingFitsOf}
use Rattle.walk_steps.proofs.Rows.{number-same}
use Rattle.walk_steps.proofs.RowChanges.{found-kept, unique-filtered, found-any}
use Rattle.walk_steps.proofs.TableFits.{TableFits}
use Rattle.walk_steps.proofs.DecideCases.{found-file}
use Rattle.walk_steps.proofs.ServerCases.{server-ticks}

-- what is known before
pub record Standing (journal : List Entry) (first : ℕ → ℕ) (ps : List Packet) (s : Server) : Type 0 where
  pub files : FilesFit (history_of journal first s) s.kept.files
  pub unused : UnusedFit (history_of journal first s)
  pub lines : (host : ℕ) → LineTells (history_of journal first s) ps host (host_row s.kept host)

module _ (journal : List Entry) (first after : ℕ → ℕ) (ps : List Packet) (s : Server) (h : Standing journal first ps s) where
  abbrev before : History
  before = history_of journal first s

  abbrev ShowsIf : ServerStep → Type 0
  ShowsIf t = IsFirst first after s.kept.next t.server.kept.files → Shows journal first after ps s t

  -- a step that says nothing and changes no file
  silent : (t : ServerStep) → t.sends ≡ [] → NoChanges t.entries → t.server.kept.files ≡ s.kept.files → t.server.kept.next ≡ s.kept.next
      → ((host : ℕ) → host_row t.server.kept host ≡ host_row s.kept host) → ShowsIf t
  silent t none idle files ids lines is =
      let g : History = record { journal = t.entries ++ journal; first = after; next = s.kept.next } in
      let follow : Follows before g = follows before t.entries after s.kept.next (omega arith) is.same in
      record {
        follow = subst (λ n. Follows before (record { journal = t.entries ++ journal; first = after; next = n })) (sym ids) follow;
        files =
            subst (λ fs. FilesFit (history_after journal after t) fs) (sym files)
            (subst (λ n. FilesFit (record { journal = t.entries ++ journal; first = after; next = n }) s.kept.files) (sym ids)
            (files-idle before t.entries after idle is.same s.kept.files h.files));
        unused =
            subst (λ n. UnusedFit (record { journal = t.entries ++ journal; first = after; next = n })) (sym ids)
            (unused-idle before t.entries after s.kept.next idle (omega arith) h.unused);
        replies = λ host xid a i. absurd (subst (λ ps. In ps (to_host host (reply xid a))) none i);
        lines =
            λ host. subst (λ n. LineTells (record { journal = t.entries ++ journal; first = after; next = n }) ps host (host_row t.server.kept host))
            (sym ids) (subst (LineTells g ps host) (sym (lines host)) (line-follows ps ps host (host_row s.kept host) follow (λ x r a. a) (h.lines host)));
      }

  waits : (now : ℕ) → ShowsIf (quiet (at_time s now))
  unfolding quiet at_time
  waits now = silent (quiet (at_time s now)) refl tt refl refl (λ host. refl)

  opening : (now until heard : ℕ) → ShowsIf (opens (at_time s now) until heard)
  unfolding opens at_time
  opening now until heard = silent (opens (at_time s now) until heard) refl ((λ file. refl), tt) refl refl (λ host. refl)

  ends-reading : (now : ℕ) (rows : List Row) → ShowsIf (quiet (with_table (at_time s now) (with_rows s.table rows)))
  unfolding quiet at_time with_table
  ends-reading now rows = silent (quiet (with_table (at_time s now) (with_rows s.table rows))) refl tt refl refl (λ host. refl)

  only-fenced : (row : Row) (now : ℕ) → ChangesOnly (Entry.F row.who row.file row.until row.heard now) row.file
  only-fenced row now = record { this = number-same row.file row.file refl; others = λ other apart. grind (arith, nat_tests) }

  -- a writing row ends, and its file is fenced
  ends-writing : (now : ℕ) (rows : List Row) (row : Row) (o : Option File) → find_file row.file s.kept.files ≡ o → is_some o ≡ true
      → ShowsIf (ends_writing (at_time s now) rows row)
  unfolding ends_writing at_time keeping_with with_files fenced_file
  ends-writing now rows row None found kept is = absurd (cc)
  ends-writing now rows row (Some f) found kept is =
      let e : Entry = Entry.F row.who row.file row.until row.heard now in
      let id : f.id ≡ row.file = found-file row.file s.kept.files f found in
      let there : find_file f.id s.kept.files ≡ Some f = ap (λ n. find_file n s.kept.files) id ∙ found in
      let only : ChangesOnly e f.id = subst (λ n. ChangesOnly e n) (sym id) (only-fenced row now) in
      let fenced : fence s.kept (find_file row.file s.kept.files) ≡ with_files s.kept (replace_file (fenced_file f) s.kept.files) = ap (fence s.kept) found in
      let follow : Follows before (record { journal = e ∷ journal; first = after; next = s.kept.next }) = follows before (e ∷ []) after s.kept.next
      (omega arith) is.same in
      record {
        follow = subst (λ k. Follows before (record { journal = e ∷ journal; first = after; next = k.next })) (sym fenced) follow;
        files =
            subst (λ k. FilesFit (record { journal = e ∷ journal; first = after; next = k.next }) k.files) (sym fenced)
            (files-changed before e after is.same s.kept.files f (fenced_file f) there refl only refl refl h.files);
        unused =
            subst (λ k. UnusedFit (record { journal = e ∷ journal; first = after; next = k.next })) (sym fenced)
            (unused-changed before e f.id after only (h.files f.id f there).drawn h.unused);
        replies = λ host xid a bad. absurd bad;
        lines =
            λ host. subst (λ k. LineTells (record { journal = e ∷ journal; first = after; next = k.next }) ps host (host_row k host)) (sym fenced)
            (line-follows ps ps host (host_row s.kept host) follow (λ x r a. a) (h.lines host));
      }

  -- a row of a table that stands is of a kept file
  row-kept : (now : ℕ) (row : Row) → s.phase ≡ serving → StandingFitsOf s → find (is_due now) (end_reading now s.table.rows) ≡ Some row
      → is_some (find_file row.file s.kept.files) ≡ true
  row-kept now row p stands due =
      let own : TableFits s.kept.files s.table.boot s.table.drawn s.table.rows = subst (λ p. StandingFits s.kept.files p s.table) p stands in
      let there : find_row row.file row.who.host (end_reading now s.table.rows) ≡ Some row = found-any (is_due now) (end_reading now s.table.rows) row
      (unique-filtered (λ r. not (is_over now r)) s.table.rows own.unique) due in
      (own.fits row.file row.who.host row (found-kept (λ r. not (is_over now r)) row.file row.who.host s.table.rows row own.unique there).0).kept

  pub ticks : (now : ℕ) → StandingFitsOf s → ShowsIf (tick s now)
  ticks now stands = server-ticks s now ShowsIf (record {
    waits = λ until heard last p goes_on. waits now;
    opening = λ until heard last p over. opening now until heard;
    ends_reading = λ p none. ends-reading now _;
    ending_writing = λ row p due. ends-writing now _ row (find_file row.file s.kept.files) refl (row-kept now row p stands due);
  })

  booted-same : (longest : ℕ) (b : Bool) → (s.kept.opened == 0) ≡ b
      → ((booted s.kept longest).files ≡ s.kept.files) × ((booted s.kept longest).next ≡ s.kept.next)
      × ((host : ℕ) → host_row (booted s.kept longest) host ≡ host_row s.kept host)
  booted-same longest true e = rw e (refl, refl, λ host. refl)
  booted-same longest false e = rw e (refl, refl, λ host. refl)

  pub crashes : (longest : ℕ) → ShowsIf (crash s longest)
  unfolding crash boot
  crashes longest =
      let same = booted-same longest (s.kept.opened == 0) refl in
      silent (crash s longest) refl ((λ file. refl), tt) same.0 same.1 same.2
