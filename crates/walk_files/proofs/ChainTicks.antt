-- What a tick of the server's clock and a crash do to rows, lines and files.
use Rattle.std.proofs.Common.{◌≡◌, ◌≢◌, ◌<◌, ◌≤◌, ℕ, ◌+◌, Bool, true, false, not, ◌==◌, List, Option, Some, None, is_some, if◌then◌else◌, refl, sym}
use Rattle.std.proofs.Common.{subst, ap, ◌∙◌, arith}
use Rattle.std.specs.List.{find}
use Rattle.std.proofs.lemmas.Bool.{and_parts}
use Rattle.nq_base.specs.declared.Row.{Row}
use Rattle.nq_base.specs.declared.Who.{Who}
use Rattle.walk_files.proofs.LineMoves.{line-same, replaced-there, replaced-other, by-file}
use Rattle.walk_files.proofs.RowMoves.{rows-same, rows-ended, rows-loosened, rows-opened}
use Rattle.walk_files.proofs.ServerChains.{RowsMove, LineTo, FilesGrow, rev_stays, rev_rises, FileMove, file_stays, file_changed}
use Rattle.walk_files.proofs.ChainFacts.{line_for}
use Rattle.nq_model.specs.laws.Chained.{OwnRow, has_done_write}
use Rattle.walk_steps.proofs.ClientMoves.{none-some}
use Rattle.walk_steps.proofs.TermsDrawn.{standing-serving}
use Rattle.walk_steps.proofs.ServerLives.{HasServed}
use Rattle.nq_model.specs.protocol.Client.{Ticket}
use Rattle.nq_model.specs.protocol.Kept.{File, Kept, find_file, replace_file, fenced_file, with_files}
use Rattle.nq_model.specs.protocol.Message.{Packet}
use Rattle.nq_model.specs.protocol.Server.{serving, recovering, Server, standing, standing_in, quiet, keeping_with, with_table, last_in}
use Rattle.nq_model.specs.protocol.ServerStep.{at_time, is_due, is_over, end_reading, fence, ends_writing, opens, tick, booted, boot, crash}
use Rattle.nq_model.specs.protocol.Table.{Table, caches, is_writing, find_row, drop_row, with_rows, empty_table}
use Rattle.walk_steps.proofs.ServerTables.{BootsFit, BootsFitOf, RecoversBoot, NoneRecoveringOf, none-opened, StandingFits, StandingFitsOf}
use Rattle.walk_steps.proofs.KeptChanges.{same-lines}
use Rattle.walk_steps.proofs.RowChanges.{found-any, found-kept, find-row-dropped, unique-filtered}
use Rattle.walk_steps.proofs.Rows.{find-passes, same-number, number-same}
use Rattle.walk_steps.proofs.ServerCases.{server-ticks}
use Rattle.walk_steps.proofs.TableFits.{TableFits}

-- what a step that says nothing does, whoever sees it
pub record Silent (ps : List Packet) (s t : Server) (host : ℕ) : Type 0 where
  pub rows : RowsMove ps s t host
  pub line : LineTo ps s t host
  pub grows : FilesGrow s t

-- and to the files, as one client sees it
abbrev pub FilesMove : (s t : Server) (who : Who) (ticket : Option Ticket) → (ℕ → Type 0) → Type 0
FilesMove s t who ticket Claimed = (file : ℕ) → file < s.kept.next → FileMove s t who ticket file (Claimed file)

still : (s t : Server) (who : Who) (ticket : Option Ticket) (Claimed : ℕ → Type 0) → t.kept.files ≡ s.kept.files → t.kept.hosts ≡ s.kept.hosts
    → FilesMove s t who ticket Claimed
still s t who ticket Claimed files hosts file numbered =
    let line : line_for t.kept who ≡ line_for s.kept who = same-lines s.kept t.kept who.host hosts in
    file_stays (ap (find_file file) files) (ap (λ l. has_done_write l who.inc file ticket) line) (λ done. ap (λ l. l.value) line)

grown : (s t : Server) → t.kept.files ≡ s.kept.files → t.kept.next ≡ s.kept.next → s.kept.opened ≤ t.kept.opened → FilesGrow s t
grown s t files n o = record { files = λ file numbered. rev_stays (ap (find_file file) files); next = omega arith; opened = o }

-- ---- ticks

module _ (ps : List Packet) (s : Server) (now : ℕ) (host : ℕ) (stood : StandingFitsOf s) (boots : BootsFitOf s) (none : NoneRecoveringOf s) where
  own-table : s.phase ≡ serving → TableFits s.kept.files s.table.boot s.table.drawn s.table.rows
  own-table p = subst (λ q. StandingFits s.kept.files q s.table) p stood

  -- the row that ends stands, and lets its holder write
  due-row : s.phase ≡ serving → (row : Row) → find (is_due now) (end_reading now s.table.rows) ≡ Some row
      → (find_row row.file row.who.host s.table.rows ≡ Some row) × (is_writing row.mode ≡ true)
  due-row p row due =
      let u = (own-table p).unique in
      let found = found-any (is_due now) (end_reading now s.table.rows) row (unique-filtered (λ r. not (is_over now r)) s.table.rows u) due in (
        (found-kept (λ r. not (is_over now r)) row.file row.who.host s.table.rows row u found).0,
        (and_parts _ _ (find-passes (is_due now) row (end_reading now s.table.rows) due)).0,
      )

  -- its file is kept
  due-file : s.phase ≡ serving → (row : Row) → find (is_due now) (end_reading now s.table.rows) ≡ Some row
      → (f : File) × (find_file row.file s.kept.files ≡ Some f) × (f.id ≡ row.file)
  due-file p row due = step (find_file row.file s.kept.files) refl ((own-table p).fits row.file row.who.host row (due-row p row due).0).kept
    where
      step : (o : Option File) → find_file row.file s.kept.files ≡ o → is_some (find_file row.file s.kept.files) ≡ true
          → (f : File) × (find_file row.file s.kept.files ≡ Some f) × (f.id ≡ row.file)
      step None e kept = let bad : false ≡ true = ap is_some (sym e) ∙ kept in absurd (cc)
      step (Some f) e kept = (f, e, same-number f.id row.file (find-passes (λ z. z.id == row.file) f s.kept.files e))

  fenced-there : (f : File) (row : Row) → find_file row.file s.kept.files ≡ Some f → f.id ≡ row.file
      → find_file row.file (replace_file (fenced_file f) s.kept.files) ≡ Some (fenced_file f)
  unfolding fenced_file
  fenced-there f row found id =
      subst (λ n. find_file n (replace_file (fenced_file f) s.kept.files) ≡ Some (fenced_file f)) id
      (replaced-there f (fenced_file f) s.kept.files refl (subst (λ n. find_file n s.kept.files ≡ Some f) (sym id) found))

  fenced-other : (f : File) (row : Row) (file : ℕ) → f.id ≡ row.file → file ≢ row.file
      → find_file file (replace_file (fenced_file f) s.kept.files) ≡ find_file file s.kept.files
  unfolding fenced_file
  fenced-other f row file id apart = replaced-other f (fenced_file f) file s.kept.files refl (λ same. apart (same ∙ id))

  fenced-rises : (f : File) → f.rev < (fenced_file f).rev
  unfolding fenced_file
  fenced-rises f = omega arith

  ended-kept : (row : Row) (f : File) → find_file row.file s.kept.files ≡ Some f
      → fence s.kept (find_file row.file s.kept.files) ≡ with_files s.kept (replace_file (fenced_file f) s.kept.files)
  ended-kept row f found = ap (fence s.kept) found

  opened-later : (until heard : ℕ) (last : Option Table) → s.phase ≡ recovering until heard last → s.kept.opened < s.kept.boot
  opened-later until heard last p =
      let r : RecoversBoot s.kept.boot s.kept.opened s.table last = subst (λ q. BootsFit s.kept.boot s.kept.opened q s.table) p boots in
      r.opened_before

  -- what ends a writing row
  ended-files : (row : Row) (f : File) → find_file row.file s.kept.files ≡ Some f → f.id ≡ row.file → (t : Server)
      → t.kept ≡ with_files s.kept (replace_file (fenced_file f) s.kept.files)
      → (t.kept.files ≡ replace_file (fenced_file f) s.kept.files) × (t.kept.hosts ≡ s.kept.hosts) × (t.kept.next ≡ s.kept.next)
      × (t.kept.opened ≡ s.kept.opened)
  unfolding with_files
  ended-files row f found id t is = (ap (λ k. k.files) is, ap (λ k. k.hosts) is, ap (λ k. k.next) is, ap (λ k. k.opened) is)

  ended-silent : (row : Row) → s.phase ≡ serving → find (is_due now) (end_reading now s.table.rows) ≡ Some row → (t : Server) → t.phase ≡ serving
      → t.kept ≡ fence s.kept (find_file row.file s.kept.files) → t.table.rows ≡ drop_row row.file row.who.host (end_reading now s.table.rows)
      → Silent ps s t host
  ended-silent row p due t q kept rows =
      let f = due-file p row due in
      let k = ended-files row f.0 f.1 f.2 t (kept ∙ ended-kept row f.0 f.1) in
      record {
        rows =
            rows-loosened ps s t host p q now row (own-table p).unique due f.0 (fenced_file f.0) f.1
            (ap (find_file row.file) k.0 ∙ fenced-there f.0 row f.1 f.2) (fenced-rises f.0) k.1 rows;
        line = line-same ps s t host k.1;
        grows = record {
          files = λ file numbered. by-file file row.file
              (λ one. rev_rises f.0 (fenced_file f.0) (subst (λ n. find_file n s.kept.files ≡ Some f.0) (sym one) f.1)
              (subst (λ n. find_file n t.kept.files ≡ Some (fenced_file f.0)) (sym one)
              (ap (find_file row.file) k.0 ∙ fenced-there f.0 row f.1 f.2)) (fenced-rises f.0))
              (λ apart. rev_stays (ap (find_file file) k.0 ∙ fenced-other f.0 row file f.2 apart));
          next = let same = k.2 in omega arith;
          opened = let same = k.3 in omega arith;
        };
      }

  pub tick-silent : Silent ps s (tick s now).server host
  unfolding quiet at_time opens ends_writing keeping_with with_table with_rows
  tick-silent = server-ticks s now (λ t. Silent ps s t.server host) (record {
    waits =
        λ until heard last p goes. record
        { rows = rows-same ps s _ host refl; line = line-same ps s _ host refl; grows = grown s _ refl refl (omega arith) };
    opening =
        λ until heard last p over. let later = opened-later until heard last p in
        record {
          rows = rows-opened ps s _ host refl (none-opened s until heard last p none) later;
          line = line-same ps s _ host refl;
          grows = grown s _
              refl refl (omega arith);
        };
    ends_reading =
        λ p no_due. record {
          rows = rows-ended ps s _ host p p now (own-table p).unique refl;
          line = line-same ps s _ host refl;
          grows = grown s _ refl
              refl (omega arith);
        };
    ending_writing = λ row p due. ended-silent row p due _ p refl refl;
  })

  -- the files, as a client sees them
  ended-move : (who : Who) (ticket : Option Ticket) (Claimed : ℕ → Type 0) (row : Row) → s.phase ≡ serving
      → find (is_due now) (end_reading now s.table.rows) ≡ Some row → (t : Server) → t.phase ≡ serving
      → t.kept ≡ fence s.kept (find_file row.file s.kept.files) → t.table.rows ≡ drop_row row.file row.who.host (end_reading now s.table.rows)
      → FilesMove s t who ticket Claimed
  ended-move who ticket Claimed row p due t q kept rows file numbered =
      let f = due-file p row due in
      let k = ended-files row f.0 f.1 f.2 t (kept ∙ ended-kept row f.0 f.1) in
      let line : line_for t.kept who ≡ line_for s.kept who = same-lines s.kept t.kept who.host k.1 in
      by-file file row.file
      (λ one. subst (λ n. FileMove s t who ticket n (Claimed n)) (sym one)
      (file_changed f.0 (fenced_file f.0) f.1 (ap (find_file row.file) k.0 ∙ fenced-there f.0 row f.1 f.2) (fenced-rises f.0)
      (ap (λ l. has_done_write l who.inc row.file ticket) line)
      (λ mine mine' own caching own' claim. no-row mine mine' own caching own' (who.host == row.who.host) refl)))
      (λ apart. file_stays (ap (find_file file) k.0 ∙ fenced-other f.0 row file f.2 apart) (ap (λ l. has_done_write l who.inc file ticket) line)
      (λ done. ap (λ l. l.value) line))
    where
      no-row : (mine mine' : Row) → OwnRow (standing s) who row.file mine → caches mine.mode ≡ true → OwnRow (standing t) who row.file mine'
          → (b : Bool) → (who.host == row.who.host) ≡ b → ⊥
      no-row mine mine' own caching own' true here =
          let there : find_row row.file who.host t.table.rows ≡ Some mine' = subst (λ x. find_row row.file who.host x.rows ≡ Some mine')
          (standing-serving t q) own'.stands in
          let lost : find_row row.file who.host t.table.rows ≡ None = ap (find_row row.file who.host) rows
          ∙ subst (λ n. find_row row.file n (drop_row row.file row.who.host (end_reading now s.table.rows)) ≡ None)
          (sym (same-number who.host row.who.host here)) (find-row-dropped row.file row.who.host (end_reading now s.table.rows)) in
          none-some mine' (sym lost ∙ there)
      no-row mine mine' own caching own' false other =
          let d = due-row p row due in
          let no_cache : caches mine.mode ≡ false = (own-table p).alone row.file row.who.host who.host row mine d.0
          (subst (λ x. find_row row.file who.host x.rows ≡ Some mine) (standing-serving s p) own.stands)
          (λ y. let yes : (who.host == row.who.host) ≡ true = number-same who.host row.who.host y in absurd (cc)) d.1 in
          absurd (cc)

  pub tick-move : (who : Who) (ticket : Option Ticket) (Claimed : ℕ → Type 0) → FilesMove s (tick s now).server who ticket Claimed
  unfolding quiet at_time opens ends_writing keeping_with with_table with_rows
  tick-move who ticket Claimed = server-ticks s now (λ t. FilesMove s t.server who ticket Claimed) (record {
    waits = λ until heard last p goes. still s _ who ticket Claimed refl refl;
    opening = λ until heard last p over. still s _ who ticket Claimed refl refl;
    ends_reading = λ p no_due. still s _ who ticket Claimed refl refl;
    ending_writing = λ row p due. ended-move who ticket Claimed row p due _ p refl refl;
  })

-- ---- crashes

crashed-kept : (kept : Kept) (longest : ℕ) → HasServed kept
    → ((booted kept longest).files ≡ kept.files) × ((booted kept longest).hosts ≡ kept.hosts) × ((booted kept longest).next ≡ kept.next)
    × ((booted kept longest).opened ≡ kept.opened)
crashed-kept kept longest served = step (kept.opened == 0) refl
  where
    k : Bool → Kept
    k b = if b then record kept { boot = kept.boot + 1; opened = kept.boot + 1; longest = longest } else record kept { boot = kept.boot + 1 }

    step : (b : Bool) → (kept.opened == 0) ≡ b
        → ((if b then record kept { boot = kept.boot + 1; opened = kept.boot + 1; longest = longest } else record kept { boot = kept.boot + 1 }).files ≡
        kept.files)
        ×
        ((if b then record kept { boot = kept.boot + 1; opened = kept.boot + 1; longest = longest } else record kept { boot = kept.boot + 1 }).hosts ≡
        kept.hosts)
        ×
        ((if b then record kept { boot = kept.boot + 1; opened = kept.boot + 1; longest = longest } else record kept { boot = kept.boot + 1 }).next ≡
        kept.next)
        ×
        ((if b then record kept { boot = kept.boot + 1; opened = kept.boot + 1; longest = longest } else record kept { boot = kept.boot + 1 }).opened ≡
        kept.opened)
    step true e = let some = served.opened in let zero : kept.opened ≡ 0 = same-number kept.opened 0 e in absurd (omega arith)
    step false e = (refl, refl, refl, refl)

crashed-stands : (s : Server) (longest : ℕ) → HasServed s.kept → (standing (crash s longest).server).rows ≡ (standing s).rows
unfolding crash boot
crashed-stands s longest served = step (s.kept.opened == 0) refl
  where
    step : (b : Bool) → (s.kept.opened == 0) ≡ b
        → (standing_in (if b then serving else recovering (s.now + s.kept.longest + 8) s.now (last_in s.phase s.table))
        (empty_table (s.kept.boot + 1))).rows ≡ (standing s).rows
    step true e = let some = served.opened in let zero : s.kept.opened ≡ 0 = same-number s.kept.opened 0 e in absurd (omega arith)
    step false e = refl

pub crash-silent : (ps : List Packet) (s : Server) (longest host : ℕ) → HasServed s.kept → Silent ps s (crash s longest).server host
unfolding crash boot
crash-silent ps s longest host served =
    let k = crashed-kept s.kept longest served in
    record {
      rows = rows-same ps s _ host (crashed-stands s longest served);
      line = line-same ps s _ host k.1;
      grows = grown s _ k.0 k.2 (let same = k.3 in omega arith);
    }

pub crash-move : (s : Server) (longest : ℕ) (who : Who) (ticket : Option Ticket) (Claimed : ℕ → Type 0) → HasServed s.kept
    → FilesMove s (crash s longest).server who ticket Claimed
unfolding crash boot
crash-move s longest who ticket Claimed served = let k = crashed-kept s.kept longest served in still s _ who ticket Claimed k.0 k.1
