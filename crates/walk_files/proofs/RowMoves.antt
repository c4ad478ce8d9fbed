-- What a step of the server does to the rows of a host.
use Rattle.std.proofs.Common.{◌≡◌, ◌≢◌, ◌<◌, ◌⊎◌, ℕ, Bool, true, false, not, ◌&&◌, ◌==◌, List, [], Some, None, option_map, refl, sym, subst, ap, ◌∙◌}
use Rattle.std.proofs.Common.{inl, inr, Option}
use Rattle.std.specs.List.{find}
use Rattle.std.proofs.lemmas.Bool.{and_parts}
use Rattle.nq_base.specs.declared.Access.{Access}
use Rattle.nq_base.specs.declared.Mode.{Mode}
use Rattle.nq_base.specs.declared.Mode.TheVariants.{NonCaching, Reading, Writing}
use Rattle.nq_base.specs.declared.Question.{Question}
use Rattle.nq_base.specs.declared.Request.{Request}
use Rattle.nq_base.specs.declared.Row.{Row}
use Rattle.nq_base.specs.declared.Tag.{Tag}
use Rattle.nq_base.specs.declared.Want.{Want}
use Rattle.nq_base.specs.declared.Who.{Who}
use Rattle.walk_files.proofs.ServerChains.{Continues, RowFrom, row_fresh, row_on, RowOn, goes_on, vacated, superseded, loosened, removed, reopened, RowsMove}
use Rattle.walk_steps.proofs.ClientMoves.{some-same, none-some}
use Rattle.walk_steps.proofs.Covers.{granted-key}
use Rattle.walk_steps.proofs.TermsDrawn.{standing-serving}
use Rattle.nq_model.specs.protocol.Ask.{marked, term_of, sharing_row, caching_row, shared_again, renewed_row}
use Rattle.nq_model.specs.protocol.Kept.{File, find_file, host_row}
use Rattle.nq_model.specs.laws.LeaseInterval.{is_at_least}
use Rattle.nq_model.specs.protocol.Message.{Packet}
use Rattle.nq_model.specs.protocol.Server.{Phase, serving, recovering, Server, standing}
use Rattle.nq_model.specs.protocol.ServerStep.{vacated_rows, is_over, is_due, end_reading}
use Rattle.nq_model.specs.protocol.Table.{Table, caches, is_writing, same_tag, is_row_of, find_row, drop_row, drop_host, drop_rows_of, put_row, next_tag}
use Rattle.nq_model.specs.protocol.Table.{with_rows, after_draw}
use Rattle.walk_steps.proofs.Packets.{Asked}
use Rattle.walk_steps.proofs.AskCases.{own_in, with_marked, with_waiter, IsGranted, shares_again, begins_sharing, begins_caching, renews_row}
use Rattle.walk_steps.proofs.Modes.{at-least-more}
use Rattle.walk_steps.proofs.RowChanges.{HasUniqueKeys, of-key, found-put, find-put, kept_if, find-kept, found-kept, found-vacated, find-not-vacated}
use Rattle.walk_steps.proofs.RowChanges.{find-marked, found-marked, mark, mark-is, unique-filtered, find-other-host-dropped, find-other-file-dropped}
use Rattle.walk_steps.proofs.RowChanges.{find-other-dropped}
use Rattle.walk_steps.proofs.Rows.{same-number, number-same}

-- a row that is not changed goes on
same-on : (before : Table) (row : Row) → Continues before row row
same-on before row = record { who = refl; since = refl; tag = inl refl; kind = λ mode h. h }

both-on : (before : Table) (a b c : Row) → Continues before a b → c.who ≡ b.who → c.since ≡ b.since → c.tag ≡ b.tag → c.mode ≡ b.mode → Continues before a c
both-on before a b c k who since tag mode = record {
  who = who ∙ k.who;
  since = since ∙ k.since;
  tag = step k.tag;
  kind = λ m h. subst (λ z. is_at_least z m ≡ true) (sym mode) (k.kind m h);
} where
  step : (b.tag ≡ a.tag) ⊎ (b.tag ≡ next_tag before) → (c.tag ≡ a.tag) ⊎ (c.tag ≡ next_tag before)
  step (inl same) = inl (tag ∙ same)
  step (inr next) = inr (tag ∙ next)

-- a marked row goes on
marked-on : (before : Table) (file host : ℕ) (access : Access) (row : Row) → Continues before row (mark file host access row)
marked-on before file host access row =
    let m = mark-is file host access row in both-on before row row (mark file host access row) (same-on before row) m.who m.since m.tag m.mode

-- a renewed row goes on
renewed-on : (table : Table) (q : Question) (own : Row) (mode : Mode) (term : ℕ) → Continues table own (renewed_row table q own mode term)
unfolding renewed_row
renewed-on table q own mode term = record { who = refl; since = refl; tag = inr refl; kind = λ m h. at-least-more own.mode mode m h }

-- a granted row is new, or goes on
pub granted-from : (table : Table) (q : Question) (want : Want) (row : Row) (term file host : ℕ) → IsGranted table q want row term
    → is_row_of file host row ≡ true → RowFrom table file host row
unfolding sharing_row caching_row shared_again
granted-from table q want row term file host (shares_again own found stays shares is lasts) key = row_fresh (ap (λ r. r.tag) is) (ap (λ r. r.since) is)
granted-from table q want row term file host (begins_sharing none room shared is lasts) key = row_fresh (ap (λ r. r.tag) is) (ap (λ r. r.since) is)
granted-from table q want row term file host (begins_caching none room shared is lasts) key = row_fresh (ap (λ r. r.tag) is) (ap (λ r. r.since) is)
granted-from table q want row term file host (renews_row own found stays caching is lasts) key =
    let g = granted-key table q want row term (renews_row own found stays caching is lasts) in
    let k = of-key file host row key in
    row_on own (subst (λ f. find_row f host table.rows ≡ Some own) (sym g.0 ∙ k.0)
    (subst (λ h. find_row q.file h table.rows ≡ Some own) (sym g.1 ∙ k.1) found))
    (subst (λ r. Continues table own r) (sym is) (renewed-on table q own want.mode (term_of q want)))

-- and the asker's writing row goes on
pub granted-on : (table : Table) (q : Question) (want : Want) (row : Row) (term : ℕ) (was : Row) → IsGranted table q want row term
    → own_in table q ≡ Some was → is_writing was.mode ≡ true → Continues table was row
granted-on table q want row term was (shares_again own found stays shares is lasts) e writes =
    let one : own ≡ was = some-same own was (sym found ∙ e) in
    absurd (not-both was.mode writes (subst (λ r. caches r.mode ≡ false) one shares))
  where
    not-both : (mode : Mode) → is_writing mode ≡ true → caches mode ≡ false → ⊥
    not-both NonCaching x y = cc
    not-both Reading x y = cc
    not-both Writing x y = cc
granted-on table q want row term was (begins_sharing none room shared is lasts) e writes = none-some was (sym none ∙ e)
granted-on table q want row term was (begins_caching none room shared is lasts) e writes = none-some was (sym none ∙ e)
granted-on table q want row term was (renews_row own found stays caching is lasts) e writes =
    let one : own ≡ was = some-same own was (sym found ∙ e) in
    subst (λ r. Continues table r row) one (subst (λ r. Continues table own r) (sym is) (renewed-on table q own want.mode (term_of q want)))

-- ---- steps

-- the standing rows are the same
pub rows-same : (ps : List Packet) (s t : Server) (host : ℕ) → (standing t).rows ≡ (standing s).rows → RowsMove ps s t host
rows-same ps s t host same = record {
  from = λ file row' e. row_on row' (ap (find_row file host) (sym same) ∙ e) (same-on (standing s) row');
  on = λ file row e writes. goes_on row (ap (find_row file host) same ∙ e) (same-on (standing s) row);
}

module _ (ps : List Packet) (s t : Server) (host : ℕ) (p : s.phase ≡ serving) (q : t.phase ≡ serving) where
  -- what is found in the server's own table
  goes : (file : ℕ) (row row' : Row) → find_row file host t.table.rows ≡ Some row' → Continues s.table row row' → RowOn ps s t file host row
  goes file row row' e k =
      goes_on row' (subst (λ x. find_row file host x.rows ≡ Some row') (sym (standing-serving t q)) e)
      (subst (λ x. Continues x row row') (sym (standing-serving s p)) k)

  pub rows-serving : ((file : ℕ) (row' : Row) → find_row file host t.table.rows ≡ Some row' → RowFrom s.table file host row')
      → ((file : ℕ) (row : Row) → find_row file host s.table.rows ≡ Some row → is_writing row.mode ≡ true → RowOn ps s t file host row)
      → RowsMove ps s t host
  rows-serving from on = record {
    from =
        λ file row' e. subst (λ x. RowFrom x file host row') (sym (standing-serving s p))
        (from file row' (subst (λ x. find_row file host x.rows ≡ Some row') (standing-serving t q) e));
    on = λ file row e writes. on file row (subst (λ x. find_row file host x.rows ≡ Some row) (standing-serving s p) e) writes;
  }

  -- rows are marked
  pub rows-marked : (f h : ℕ) (access : Access) → t.table.rows ≡ marked f h access s.table.rows → RowsMove ps s t host
  rows-marked f h access is = rows-serving
      (λ file row' e.
      let m = found-marked f h access file host s.table.rows row' (ap (find_row file host) (sym is) ∙ e) in
      row_on m.was m.found (subst (λ r. Continues s.table m.was r) (sym m.is) (marked-on s.table f h access m.was)))
      (λ file row e writes. goes file row (mark f h access row)
      (ap (find_row file host) is ∙ find-marked file host f h access s.table.rows ∙ ap (option_map (mark f h access)) e)
      (marked-on s.table f h access row))

  -- a row is put that is granted
  pub rows-granted : (question : Question) (want : Want) (row : Row) (term : ℕ) → IsGranted s.table question want row term
      → t.table.rows ≡ put_row row s.table.rows → RowsMove ps s t host
  rows-granted question want row term g is =
      rows-serving (λ file row' e. from file row' (found-put file host row row' s.table.rows (ap (find_row file host) (sym is) ∙ e)))
      (λ file was e writes. on file was (is_row_of file host row) refl e writes)
    where
      from : (file : ℕ) (row' : Row) → ((is_row_of file host row ≡ true) × (row' ≡ row))
          ⊎ ((is_row_of file host row ≡ false) × (find_row file host s.table.rows ≡ Some row')) → RowFrom s.table file host row'
      from file row' (inl e) = subst (λ r. RowFrom s.table file host r) (sym e.1) (granted-from s.table question want row term file host g e.0)
      from file row' (inr e) = row_on row' e.1 (same-on s.table row')

      on : (file : ℕ) (was : Row) (b : Bool) → is_row_of file host row ≡ b → find_row file host s.table.rows ≡ Some was → is_writing was.mode ≡ true
          → RowOn ps s t file host was
      on file was true key e writes =
          let k = granted-key s.table question want row term g in
          let o = of-key file host row key in
          let own : own_in s.table question ≡ Some was = subst (λ f. find_row f question.who.host s.table.rows ≡ Some was) (sym o.0 ∙ k.0)
          (subst (λ h. find_row file h s.table.rows ≡ Some was) (sym o.1 ∙ k.1) e) in
          goes file was row (ap (find_row file host) is ∙ find-put file host row s.table.rows ∙ rw key refl)
          (granted-on s.table question want row term was g own writes)
      on file was false key e writes = goes file was was (ap (find_row file host) is ∙ find-put file host row s.table.rows ∙ rw key e) (same-on s.table was)

  -- rows are marked, and a row is put that waits
  pub rows-waiting : (question : Question) (want : Want) → own_in s.table question ≡ None → t.table.rows ≡ (with_waiter s.table question want).rows
      → RowsMove ps s t host
  unfolding with_rows after_draw sharing_row
  rows-waiting question want none is = rows-serving
      (λ file row' e. from file row' (found-put file host waiter row' middle (ap (find_row file host) (sym is) ∙ e)))
      (λ file was e writes. on file was (is_row_of file host waiter) refl e)
    where
      middle : List Row
      middle = marked question.file question.who.host question.access s.table.rows

      waiter : Row
      waiter = sharing_row (with_marked s.table question) question (term_of question want)

      from : (file : ℕ) (row' : Row) → ((is_row_of file host waiter ≡ true) × (row' ≡ waiter))
          ⊎ ((is_row_of file host waiter ≡ false) × (find_row file host middle ≡ Some row')) → RowFrom s.table file host row'
      from file row' (inl e) = row_fresh (ap (λ r. r.tag) e.1) (ap (λ r. r.since) e.1)
      from file row' (inr e) =
          let m = found-marked question.file question.who.host question.access file host s.table.rows row' e.1 in
          row_on m.was m.found (subst (λ r. Continues s.table m.was r) (sym m.is) (marked-on s.table question.file question.who.host question.access m.was))

      on : (file : ℕ) (was : Row) (b : Bool) → is_row_of file host waiter ≡ b → find_row file host s.table.rows ≡ Some was → RowOn ps s t file host was
      on file was true key e =
          let o = of-key file host waiter key in
          none-some was (sym none ∙ subst (λ f. find_row f question.who.host s.table.rows ≡ Some was) (sym o.0)
          (subst (λ h. find_row file h s.table.rows ≡ Some was) (sym o.1) e))
      on file was false key e =
          goes file was (mark question.file question.who.host question.access was)
          (ap (find_row file host) is ∙ find-put file host waiter middle
          ∙ rw key (find-marked file host question.file question.who.host question.access s.table.rows
          ∙ ap (option_map (mark question.file question.who.host question.access)) e))
          (marked-on s.table question.file question.who.host question.access was)

  -- a row was heard
  pub rows-heard : (now : ℕ) (row : Row) → find_row row.file row.who.host s.table.rows ≡ Some row
      → t.table.rows ≡ put_row (record row { heard = now }) s.table.rows → RowsMove ps s t host
  rows-heard now row stands is =
      rows-serving (λ file row' e. from file row' (found-put file host heard row' s.table.rows (ap (find_row file host) (sym is) ∙ e)))
      (λ file was e writes. on file was (is_row_of file host heard) refl e)
    where
      heard : Row
      heard = record row { heard = now }

      heard-on : Continues s.table row heard
      heard-on = record { who = refl; since = refl; tag = inl refl; kind = λ m h. h }

      there : (file : ℕ) → is_row_of file host heard ≡ true → find_row file host s.table.rows ≡ Some row
      there file key =
          let o = of-key file host heard key in
          subst (λ f. find_row f host s.table.rows ≡ Some row) o.0 (subst (λ h. find_row row.file h s.table.rows ≡ Some row) o.1 stands)

      from : (file : ℕ) (row' : Row) → ((is_row_of file host heard ≡ true) × (row' ≡ heard))
          ⊎ ((is_row_of file host heard ≡ false) × (find_row file host s.table.rows ≡ Some row')) → RowFrom s.table file host row'
      from file row' (inl e) = row_on row (there file e.0) (subst (λ r. Continues s.table row r) (sym e.1) heard-on)
      from file row' (inr e) = row_on row' e.1 (same-on s.table row')

      on : (file : ℕ) (was : Row) (b : Bool) → is_row_of file host heard ≡ b → find_row file host s.table.rows ≡ Some was → RowOn ps s t file host was
      on file was true key e =
          let one : row ≡ was = some-same row was (sym (there file key) ∙ e) in
          goes file was heard (ap (find_row file host) is ∙ find-put file host heard s.table.rows ∙ rw key refl)
          (subst (λ r. Continues s.table r heard) one heard-on)
      on file was false key e = goes file was was (ap (find_row file host) is ∙ find-put file host heard s.table.rows ∙ rw key e) (same-on s.table was)

  -- fewer rows
  fewer-from : (less : List Row) → t.table.rows ≡ less
      → ((file : ℕ) (row' : Row) → find_row file host less ≡ Some row' → find_row file host s.table.rows ≡ Some row') → (file : ℕ) (row' : Row)
      → find_row file host t.table.rows ≡ Some row' → RowFrom s.table file host row'
  fewer-from less is back file row' e = row_on row' (back file row' (ap (find_row file host) (sym is) ∙ e)) (same-on s.table row')

  -- the rows of a file are gone, and it is too
  pub rows-removed : (id : ℕ) → HasUniqueKeys s.table.rows → find_file id t.kept.files ≡ None → t.table.rows ≡ drop_rows_of id s.table.rows
      → RowsMove ps s t host
  rows-removed id unique none is = rows-serving
      (fewer-from (drop_rows_of id s.table.rows) is (λ file row' e. (found-kept (λ r. not (r.file == id)) file host s.table.rows row' unique e).0))
      (λ file row e writes. on file row (file == id) refl e)
    where
      on : (file : ℕ) (row : Row) (b : Bool) → (file == id) ≡ b → find_row file host s.table.rows ≡ Some row → RowOn ps s t file host row
      on file row true same e = removed (subst (λ n. find_file n t.kept.files ≡ None) (sym (same-number file id same)) none)
      on file row false differs e =
          goes file row row (ap (find_row file host) is
          ∙ find-other-file-dropped id host file s.table.rows (λ same. let yes : (file == id) ≡ true = number-same file id same in absurd (cc)) ∙ e)
          (same-on s.table row)

  -- rows that let nobody write end
  pub rows-ended : (now : ℕ) → HasUniqueKeys s.table.rows → t.table.rows ≡ end_reading now s.table.rows → RowsMove ps s t host
  rows-ended now unique is = rows-serving
      (fewer-from (end_reading now s.table.rows) is (λ file row' e. (found-kept (λ r. not (is_over now r)) file host s.table.rows row' unique e).0))
      (λ file row e writes. goes file row row (ap (find_row file host) is ∙ writing-stays file row e writes) (same-on s.table row))
    where
      writing-stays : (file : ℕ) (row : Row) → find_row file host s.table.rows ≡ Some row → is_writing row.mode ≡ true
          → find_row file host (end_reading now s.table.rows) ≡ Some row
      writing-stays file row e writes =
          find-kept (λ r. not (is_over now r)) file host s.table.rows unique ∙ ap (kept_if (λ r. not (is_over now r))) e ∙ rw writes refl

  -- and a writing row ends, whose file is fenced
  pub rows-loosened : (now : ℕ) (row : Row) → HasUniqueKeys s.table.rows → find (is_due now) (end_reading now s.table.rows) ≡ Some row → (f f' : File)
      → find_file row.file s.kept.files ≡ Some f → find_file row.file t.kept.files ≡ Some f' → f.rev < f'.rev → t.kept.hosts ≡ s.kept.hosts
      → t.table.rows ≡ drop_row row.file row.who.host (end_reading now s.table.rows) → RowsMove ps s t host
  rows-loosened now row unique due f f' found found' rises hosts is = rows-serving
      (fewer-from (drop_row row.file row.who.host (end_reading now s.table.rows)) is
      (λ file row' e. (found-kept (λ r. not (is_over now r)) file host s.table.rows row' unique
      (found-kept (λ r. not (is_row_of row.file row.who.host r)) file host (end_reading now s.table.rows) row'
      (unique-filtered _ s.table.rows unique) e).0).0))
      (λ file was e writes. on file was (file == row.file) refl (host == row.who.host) refl e writes)
    where
      writing-stays : (file : ℕ) (row : Row) → find_row file host s.table.rows ≡ Some row → is_writing row.mode ≡ true
          → find_row file host (end_reading now s.table.rows) ≡ Some row
      writing-stays file row e writes =
          find-kept (λ r. not (is_over now r)) file host s.table.rows unique ∙ ap (kept_if (λ r. not (is_over now r))) e ∙ rw writes refl

      stays : (file : ℕ) (was : Row) → (file ≡ row.file → host ≢ row.who.host) → find_row file host s.table.rows ≡ Some was → is_writing was.mode ≡ true
          → RowOn ps s t file host was
      stays file was other e writes =
          goes file was was (ap (find_row file host) is ∙ find-other-dropped row.file row.who.host file host (end_reading now s.table.rows) other
          ∙ writing-stays file was e writes) (same-on s.table was)

      on : (file : ℕ) (was : Row) (a : Bool) → (file == row.file) ≡ a → (b : Bool) → (host == row.who.host) ≡ b
          → find_row file host s.table.rows ≡ Some was → is_writing was.mode ≡ true → RowOn ps s t file host was
      on file was true same true own e writes =
          let one : file ≡ row.file = same-number file row.file same in
          loosened f f' (subst (λ n. find_file n s.kept.files ≡ Some f) (sym one) found)
          (subst (λ n. find_file n t.kept.files ≡ Some f') (sym one) found') rises hosts
      on file was true same false other e writes =
          stays file was (λ x y. let yes : (host == row.who.host) ≡ true = number-same host row.who.host y in absurd (cc)) e writes
      on file was false differs b own e writes =
          stays file was (λ x y. let yes : (file == row.file) ≡ true = number-same file row.file x in absurd (cc)) e writes

-- ---- steps in both phases

-- while the server recovers the table that stands is the last one
last-stands : (s t : Server) (until heard until' heard' : ℕ) (last : Option Table) → s.phase ≡ recovering until heard last
    → t.phase ≡ recovering until' heard' last → (standing t).rows ≡ (standing s).rows
last-stands s t until heard until' heard' last p q = rw (p, q) refl

pub rows-recovering : (ps : List Packet) (s t : Server) (host until heard until' heard' : ℕ) (last : Option Table)
    → s.phase ≡ recovering until heard last → t.phase ≡ recovering until' heard' last → RowsMove ps s t host
rows-recovering ps s t host until heard until' heard' last p q = rows-same ps s t host (last-stands s t until heard until' heard' last p q)

-- a lease was given up
pub rows-vacated : (ps : List Packet) (s t : Server) (host x : ℕ) (w : Who) (g : ℕ) (tag : Tag) → (s.phase ≡ serving → HasUniqueKeys s.table.rows)
    → t.phase ≡ s.phase → t.table.rows ≡ vacated_rows w g tag s.table.rows (find_row g w.host s.table.rows)
    → (w.host ≡ host → Asked ps host x (Request.Vacated w g tag)) → RowsMove ps s t host
rows-vacated ps s t host x w g tag unique same is sent = step s.phase refl
  where
    stays : (file : ℕ) → (file ≡ g → host ≢ w.host) → find_row file host t.table.rows ≡ find_row file host s.table.rows
    stays file other = ap (find_row file host) is ∙ find-not-vacated w g tag s.table.rows (find_row g w.host s.table.rows) file host other

    own : (p : s.phase ≡ serving) (q : t.phase ≡ serving) (file : ℕ) (row : Row) → file ≡ g → host ≡ w.host → find_row file host s.table.rows ≡ Some row
        → (b : Bool) → (row.who.inc == w.inc && same_tag row.tag tag) ≡ b → RowOn ps s t file host row
    own p q file row at here e true gives =
        let k = and_parts _ _ gives in
        vacated x w tag (subst (λ n. Asked ps host x (Request.Vacated w n tag)) (sym at) (sent (sym here))) (sym here)
        (sym (same-number row.who.inc w.inc k.0)) k.1
    own p q file row at here e false stays =
        let there : find_row g w.host s.table.rows ≡ Some row = subst (λ n. find_row n w.host s.table.rows ≡ Some row) at
        (subst (λ n. find_row file n s.table.rows ≡ Some row) here e) in
        goes ps s t host p q file row row
        (ap (find_row file host) is ∙ ap (λ o. find_row file host (vacated_rows w g tag s.table.rows o)) there ∙ rw stays e) (same-on s.table row)

    on : (p : s.phase ≡ serving) (q : t.phase ≡ serving) (file : ℕ) (row : Row) → find_row file host s.table.rows ≡ Some row → (a : Bool)
        → (file == g) ≡ a → (b : Bool) → (host == w.host) ≡ b → RowOn ps s t file host row
    on p q file row e true at true here =
        own p q file row (same-number file g at) (same-number host w.host here) e (row.who.inc == w.inc && same_tag row.tag tag) refl
    on p q file row e true at false other =
        goes ps s t host p q file row row (stays file (λ x y. let yes : (host == w.host) ≡ true = number-same host w.host y in absurd (cc)) ∙ e)
        (same-on s.table row)
    on p q file row e false differs b here =
        goes ps s t host p q file row row (stays file (λ x y. let yes : (file == g) ≡ true = number-same file g x in absurd (cc)) ∙ e) (same-on s.table row)

    step : (phase : Phase) → s.phase ≡ phase → RowsMove ps s t host
    step serving p = rows-serving ps s t host p (same ∙ p)
        (λ file row' e. row_on row' (found-vacated w g tag s.table.rows (find_row g w.host s.table.rows) file host row' (unique p)
        (ap (find_row file host) (sym is) ∙ e)) (same-on s.table row'))
        (λ file row e writes. on p (same ∙ p) file row e (file == g) refl (host == w.host) refl)
    step (recovering until heard last) p = rows-recovering ps s t host until heard until heard last p (same ∙ p)

-- an incarnation begins
pub rows-attached : (ps : List Packet) (s t : Server) (host : ℕ) (w : Who) → (s.phase ≡ serving → HasUniqueKeys s.table.rows) → t.phase ≡ s.phase
    → t.table.rows ≡ drop_host w.host s.table.rows → (w.host ≡ host → (host_row s.kept host).inc < (host_row t.kept host).inc) → RowsMove ps s t host
rows-attached ps s t host w unique same is later = step s.phase refl
  where
    on : (p : s.phase ≡ serving) (q : t.phase ≡ serving) (file : ℕ) (row : Row) → find_row file host s.table.rows ≡ Some row → (b : Bool)
        → (host == w.host) ≡ b → RowOn ps s t file host row
    on p q file row e true here = superseded (later (sym (same-number host w.host here)))
    on p q file row e false other =
        goes ps s t host p q file row row
        (ap (find_row file host) is ∙ find-other-host-dropped file w.host host s.table.rows
        (λ y. let yes : (host == w.host) ≡ true = number-same host w.host y in absurd (cc)) ∙ e) (same-on s.table row)

    step : (phase : Phase) → s.phase ≡ phase → RowsMove ps s t host
    step serving p = rows-serving ps s t host p (same ∙ p)
        (λ file row' e. row_on row' (found-kept (λ r. not (r.who.host == w.host)) file host s.table.rows row' (unique p)
        (ap (find_row file host) (sym is) ∙ e)).0 (same-on s.table row'))
        (λ file row e writes. on p (same ∙ p) file row e (host == w.host) refl)
    step (recovering until heard last) p = rows-recovering ps s t host until heard until heard last p (same ∙ p)

-- a recovery ends: no row stands any more
pub rows-opened : (ps : List Packet) (s t : Server) (host : ℕ) → t.phase ≡ serving → t.table.rows ≡ [] → s.kept.opened < t.kept.opened → RowsMove ps s t host
rows-opened ps s t host q none later = record {
  from = λ file row' e. none-some row' (ap (find_row file host) (sym none) ∙ subst (λ x. find_row file host x.rows ≡ Some row') (standing-serving t q) e);
  on = λ file row e writes. reopened later;
}
