-- What every lease table keeps to: of kept files, tags in order, one row for each file and host, and no two that conflict.
use Rattle.std.proofs.Common.{◌≡◌, ◌≢◌, ◌≤◌, ◌⊎◌, ℕ, ◌+◌, ◌==◌, Bool, true, false, not, ◌&&◌, ◌||◌, nat_lt, List, [], Some, None, if◌then◌else◌, refl}
use Rattle.std.proofs.Common.{sym, subst, ap, ◌∙◌, arith, inl, inr}
use Rattle.std.specs.List.{find}
use Rattle.std.specs.Prelude.{is_some}
use Rattle.std.proofs.lemmas.Bool.Decides.{nat_tests}
use Rattle.std.proofs.lemmas.Bool.{and_parts}
use Rattle.nq_base.specs.declared.Access.{Access}
use Rattle.nq_base.specs.declared.Mode.{Mode}
use Rattle.nq_base.specs.declared.Mode.TheVariants.{NonCaching, Reading, Writing}
use Rattle.nq_base.specs.declared.Question.{Question}
use Rattle.nq_base.specs.declared.Row.{Row}
use Rattle.nq_base.specs.declared.Want.{Want}
use Rattle.nq_model.specs.protocol.Ask.{mode_conflicts, conflicts, marked, term_of, sharing_row, caching_row, shared_again, renewed_row}
use Rattle.nq_model.specs.protocol.Kept.{File, find_file}
use Rattle.nq_model.specs.protocol.ServerStep.{access_of, access_of_mode}
use Rattle.nq_model.specs.protocol.Table.{Table, tag_below, caches, is_writing, greater_mode, is_row_of, find_row, put_row, with_rows, after_draw}
use Rattle.walk_steps.proofs.AskCases.{clash_in, with_marked, with_waiter, IsGranted, shares_again, begins_sharing, begins_caching, renews_row}
use Rattle.walk_steps.proofs.RowChanges.{HasUniqueKeys, of-key, found-put, unique-put, found-marked, mark, mark-is, unique-marked, no-clash}
use Rattle.walk_steps.proofs.Rows.{found-row}

-- a row is of a kept file; its tags were drawn in this boot, the chain's first no later than its latest; and where its
-- holder may not cache it is not to be given up
pub record RowFits (files : List File) (boot drawn : ℕ) (row : Row) : Type 0 where
  pub kept : is_some (find_file row.file files) ≡ true
  pub tag_boot : row.tag.boot ≡ boot
  pub since_boot : row.since.boot ≡ boot
  pub drawn_before : row.tag.number ≤ drawn
  pub in_order : row.since.number ≤ row.tag.number
  pub calm : caches row.mode ≡ false → row.evicting ≡ false

-- each row fits; there is one at most for each file and host; and beside a writing row stands no other that caches
pub record TableFits (files : List File) (boot drawn : ℕ) (rows : List Row) : Type 0 where
  pub fits : (file host : ℕ) (row : Row) → find_row file host rows ≡ Some row → RowFits files boot drawn row
  pub unique : HasUniqueKeys rows
  pub alone : (file host other : ℕ) (row r : Row) → find_row file host rows ≡ Some row → find_row file other rows ≡ Some r → other ≢ host
      → is_writing row.mode ≡ true → caches r.mode ≡ false

-- a row's chain began no later than its latest tag was drawn
pub tag-in-order : (files : List File) (boot drawn : ℕ) (row : Row) → RowFits files boot drawn row → tag_below row.tag row.since ≡ false
tag-in-order files boot drawn row fits = ordered row.tag.boot row.tag.number row.since.boot row.since.number (fits.tag_boot ∙ sym fits.since_boot)
    fits.in_order
  where
    ordered : (a m b n : ℕ) → a ≡ b → n ≤ m → nat_lt a b || (a == b && nat_lt m n) ≡ false
    ordered a m b n e h = grind (arith, nat_tests)

-- a table without rows
pub no-rows-fit : (files : List File) (boot drawn : ℕ) → TableFits files boot drawn []
no-rows-fit files boot drawn = record {
  fits = λ file host row found. absurd (cc);
  unique = tt;
  alone = λ file host other row r found beside differs writes. absurd (cc);
}

-- other files, which keep those that were kept
pub fits-files : (files after : List File) (boot drawn : ℕ) (rows : List Row)
    → ((id : ℕ) → is_some (find_file id files) ≡ true → is_some (find_file id after) ≡ true) → TableFits files boot drawn rows
    → TableFits after boot drawn rows
fits-files files after boot drawn rows keeps t = record {
  fits = λ file host row found. row-fits-files row (t.fits file host row found);
  unique = t.unique;
  alone = t.alone;
}
  where
    row-fits-files : (row : Row) → RowFits files boot drawn row → RowFits after boot drawn row
    row-fits-files row f =
        record {
          kept = keeps row.file f.kept;
          tag_boot = f.tag_boot;
          since_boot = f.since_boot;
          drawn_before = f.drawn_before;
          in_order = f.in_order;
          calm = f.calm;
        }

-- fewer rows
pub fits-fewer : (files : List File) (boot drawn : ℕ) (rows fewer : List Row) → HasUniqueKeys fewer
    → ((file host : ℕ) (row : Row) → find_row file host fewer ≡ Some row → find_row file host rows ≡ Some row) → TableFits files boot drawn rows
    → TableFits files boot drawn fewer
fits-fewer files boot drawn rows fewer unique stood t = record {
  fits = λ file host row found. t.fits file host row (stood file host row found);
  unique = unique;
  alone =
      λ file host other row r found beside differs writes. t.alone file host other row r (stood file host row found) (stood file other r beside) differs
      writes;
}

-- fewer rows and fewer files: the rows that stand are of files that are kept still
pub fits-fewer-files : (files after : List File) (boot drawn : ℕ) (rows fewer : List Row) → HasUniqueKeys fewer
    → ((file host : ℕ) (row : Row) → find_row file host fewer ≡ Some row → find_row file host rows ≡ Some row)
    → ((file host : ℕ) (row : Row) → find_row file host fewer ≡ Some row → is_some (find_file file files) ≡ true
    → is_some (find_file file after) ≡ true) → TableFits files boot drawn rows → TableFits after boot drawn fewer
fits-fewer-files files after boot drawn rows fewer unique stood keeps t = record {
  fits = λ file host row found. kept-fits file host row found (t.fits file host row (stood file host row found));
  unique = unique;
  alone =
      λ file host other row r found beside differs writes. t.alone file host other row r (stood file host row found) (stood file other r beside) differs
      writes;
}
  where
    kept-fits : (file host : ℕ) (row : Row) → find_row file host fewer ≡ Some row → RowFits files boot drawn row → RowFits after boot drawn row
    kept-fits file host row found f =
        let same : row.file ≡ file = (found-row file host fewer row found).0 in
        record {
          kept =
              subst (λ id. is_some (find_file id after) ≡ true) (sym same)
              (keeps file host row found (subst (λ id. is_some (find_file id files) ≡ true) same f.kept));
          tag_boot = f.tag_boot;
          since_boot = f.since_boot;
          drawn_before = f.drawn_before;
          in_order = f.in_order;
          calm = f.calm;
        }

-- a row that caches alone is marked
marks-caching : (access : Access) (mode : Mode) → mode_conflicts access mode ≡ true → caches mode ≡ true
marks-caching Access.Read NonCaching h = cc
marks-caching Access.Read Reading h = refl
marks-caching Access.Read Writing h = refl
marks-caching Access.Write mode h = h

mark-calm : (file host : ℕ) (access : Access) (r : Row) → (caches r.mode ≡ false → r.evicting ≡ false) → caches (mark file host access r).mode ≡ false
    → (mark file host access r).evicting ≡ false
mark-calm file host access r calm = by (conflicts file host access r) refl
  where
    by : (b : Bool) → conflicts file host access r ≡ b → caches (if b then record r { evicting = true } else r).mode ≡ false
        → (if b then record r { evicting = true } else r).evicting ≡ false
    by false e = calm
    by true e = not-both (marks-caching access r.mode (and_parts (r.file == file && not (r.who.host == host)) (mode_conflicts access r.mode) e).1)
      where
        not-both : caches r.mode ≡ true → caches r.mode ≡ false → true ≡ false
        not-both x y = cc

marked-fits : (files : List File) (boot drawn file host : ℕ) (access : Access) (was : Row) → RowFits files boot drawn was
    → RowFits files boot drawn (mark file host access was)
marked-fits files boot drawn file host access was f =
    let m = mark-is file host access was in
    record {
      kept = subst (λ id. is_some (find_file id files) ≡ true) (sym m.file) f.kept;
      tag_boot = subst (λ tag. tag.boot ≡ boot) (sym m.tag) f.tag_boot;
      since_boot = subst (λ tag. tag.boot ≡ boot) (sym m.since) f.since_boot;
      drawn_before = subst (λ tag. tag.number ≤ drawn) (sym m.tag) f.drawn_before;
      in_order =
          subst (λ tag. (mark file host access was).since.number ≤ tag.number) (sym m.tag)
          (subst (λ tag. tag.number ≤ was.tag.number) (sym m.since) f.in_order);
      calm = mark-calm file host access was f.calm;
    }

-- rows that are marked
pub fits-marked : (files : List File) (boot drawn : ℕ) (rows : List Row) (f h : ℕ) (access : Access) → TableFits files boot drawn rows
    → TableFits files boot drawn (marked f h access rows)
fits-marked files boot drawn rows f h access t = record {
  fits = λ file host row found.
      let w = found-marked f h access file host rows row found in
      subst (λ r. RowFits files boot drawn r) (sym w.is) (marked-fits files boot drawn f h access w.was (t.fits file host w.was w.found));
  unique = unique-marked f h access rows t.unique;
  alone = λ file host other row r found beside differs writes.
      let w = found-marked f h access file host rows row found in
      let v = found-marked f h access file other rows r beside in
      let mode : row.mode ≡ w.was.mode = ap (λ x. x.mode) w.is ∙ (mark-is f h access w.was).mode in
      let mode_beside : r.mode ≡ v.was.mode = ap (λ x. x.mode) v.is ∙ (mark-is f h access v.was).mode in
      subst (λ m. caches m ≡ false) (sym mode_beside)
      (t.alone file host other w.was v.was w.found v.found differs (subst (λ m. is_writing m ≡ true) mode writes));
}

-- a row may stand beside the others of its file
pub record FitsBeside (rows : List Row) (row : Row) : Type 0 where
  pub to_others : (other : ℕ) (r : Row) → find_row row.file other rows ≡ Some r → other ≢ row.who.host → is_writing row.mode ≡ true → caches r.mode ≡ false
  pub to_it : (other : ℕ) (r : Row) → find_row row.file other rows ≡ Some r → other ≢ row.who.host → is_writing r.mode ≡ true → caches row.mode ≡ false

-- a row that is put
pub fits-put : (files : List File) (boot drawn later : ℕ) (rows : List Row) (row : Row) → drawn ≤ later → RowFits files boot later row
    → FitsBeside rows row → TableFits files boot drawn rows → TableFits files boot later (put_row row rows)
fits-put files boot drawn later rows row more fits beside t = record {
  fits = λ file host r found. put-fits file host r (found-put file host row r rows found);
  unique = unique-put row rows t.unique;
  alone =
      λ file host other a b found found_beside differs writes. put-alone file host other a b (found-put file host row a rows found)
      (found-put file other row b rows found_beside) differs writes;
}
  where
    put-fits : (file host : ℕ) (r : Row)
        → ((is_row_of file host row ≡ true) × (r ≡ row)) ⊎ ((is_row_of file host row ≡ false) × (find_row file host rows ≡ Some r))
        → RowFits files boot later r
    put-fits file host r (inl e) = subst (λ x. RowFits files boot later x) (sym e.1) fits
    put-fits file host r (inr e) =
        let f = t.fits file host r e.1 in
        record {
          kept = f.kept;
          tag_boot = f.tag_boot;
          since_boot = f.since_boot;
          drawn_before = omega (arith, f.drawn_before);
          in_order = f.in_order;
          calm = f.calm;
        }

    put-alone : (file host other : ℕ) (a b : Row)
        → ((is_row_of file host row ≡ true) × (a ≡ row)) ⊎ ((is_row_of file host row ≡ false) × (find_row file host rows ≡ Some a))
        → ((is_row_of file other row ≡ true) × (b ≡ row)) ⊎ ((is_row_of file other row ≡ false) × (find_row file other rows ≡ Some b)) → other ≢ host
        → is_writing a.mode ≡ true → caches b.mode ≡ false
    put-alone file host other a b (inl e) (inl f) differs writes = absurd (differs (sym (of-key file other row f.0).1 ∙ (of-key file host row e.0).1))
    put-alone file host other a b (inl e) (inr f) differs writes =
        let k = of-key file host row e.0 in
        beside.to_others other b (subst (λ i. find_row i other rows ≡ Some b) (sym k.0) f.1) (λ same. differs (same ∙ k.1))
        (subst (λ x. is_writing x.mode ≡ true) e.1 writes)
    put-alone file host other a b (inr e) (inl f) differs writes =
        let k = of-key file other row f.0 in
        subst (λ x. caches x.mode ≡ false) (sym f.1)
        (beside.to_it host a (subst (λ i. find_row i host rows ≡ Some a) (sym k.0) e.1) (λ same. differs (sym k.1 ∙ sym same)) writes)
    put-alone file host other a b (inr e) (inr f) differs writes = t.alone file host other a b e.1 f.1 differs writes

-- a row that does not let its holder cache stands beside any other
calm-beside : (rows : List Row) (row : Row) → caches row.mode ≡ false → FitsBeside rows row
calm-beside rows row calm = record {
  to_others = λ other r found differs writes. absurd (writes-not row.mode calm writes);
  to_it = λ other r found differs writes. calm;
}
  where
    writes-not : (mode : Mode) → caches mode ≡ false → is_writing mode ≡ true → ⊥
    writes-not NonCaching c w = cc
    writes-not Reading c w = cc
    writes-not Writing c w = cc

-- a kind that is granted where no row conflicts with it stands beside the others
free-kinds : (write : Bool) (mode other : Mode) → mode_conflicts (access_of_mode write) other ≡ false → is_writing mode ≡ write
    → (is_writing mode ≡ true → caches other ≡ false) × (is_writing other ≡ true → caches mode ≡ false)
free-kinds true mode NonCaching free same = (λ w. refl, λ w. cc)
free-kinds true mode Reading free same = (λ w. cc, λ w. cc)
free-kinds true mode Writing free same = (λ w. cc, λ w. cc)
free-kinds false mode other free same = (λ w. cc, λ w. cc)

-- and so does a kind that is held and grows by it
grown-kinds : (wanted held other : Mode) → mode_conflicts (access_of_mode (is_writing wanted)) other ≡ false
    → (is_writing held ≡ true → caches other ≡ false)
    → (is_writing (greater_mode held wanted) ≡ true → caches other ≡ false) × (is_writing other ≡ true → caches (greater_mode held wanted) ≡ false)
grown-kinds NonCaching NonCaching other free alone = (λ w. cc, λ w. cc)
grown-kinds NonCaching Reading other free alone = (λ w. cc, λ w. cc)
grown-kinds NonCaching Writing other free alone = (λ w. alone refl, λ w. cc)
grown-kinds Reading NonCaching other free alone = (λ w. cc, λ w. cc)
grown-kinds Reading Reading other free alone = (λ w. cc, λ w. cc)
grown-kinds Reading Writing other free alone = (λ w. alone refl, λ w. cc)
grown-kinds Writing held NonCaching free alone = (λ w. refl, λ w. cc)
grown-kinds Writing held Reading free alone = (λ w. cc, λ w. cc)
grown-kinds Writing held Writing free alone = (λ w. cc, λ w. cc)

-- the granted row fits, and stands beside the others
module _ (files : List File) (table : Table) (q : Question) (want : Want) (kept : is_some (find_file q.file files) ≡ true)
    (wants : q.access ≡ access_of (Some want)) (free : clash_in table q ≡ None) (t : TableFits files table.boot table.drawn table.rows) where
  free-to : (other : ℕ) (r : Row) → find_row q.file other table.rows ≡ Some r → other ≢ q.who.host
      → mode_conflicts (access_of_mode (is_writing want.mode)) r.mode ≡ false
  free-to other r found differs =
      no-clash q.file q.who.host (access_of (Some want)) other table.rows r
      (subst (λ a. find (conflicts q.file q.who.host a) table.rows ≡ None) wants free) found differs

  granted-fits : (row : Row) (term : ℕ) → IsGranted table q want row term → RowFits files table.boot (table.drawn + 1) row
  unfolding sharing_row caching_row shared_again renewed_row
  granted-fits row term (shares_again own found stays shares is lasts) =
      let f = t.fits q.file q.who.host own found in
      subst (λ r. RowFits files table.boot (table.drawn + 1) r) (sym is)
      (record { kept = f.kept; tag_boot = refl; since_boot = refl; drawn_before = omega arith; in_order = omega arith; calm = λ h. stays })
  granted-fits row term (begins_sharing none room shared is lasts) =
      subst (λ r. RowFits files table.boot (table.drawn + 1) r) (sym is)
      (record { kept = kept; tag_boot = refl; since_boot = refl; drawn_before = omega arith; in_order = omega arith; calm = λ h. refl })
  granted-fits row term (begins_caching none room shared is lasts) =
      subst (λ r. RowFits files table.boot (table.drawn + 1) r) (sym is)
      (record { kept = kept; tag_boot = refl; since_boot = refl; drawn_before = omega arith; in_order = omega arith; calm = λ h. refl })
  granted-fits row term (renews_row own found stays caching is lasts) =
      let f = t.fits q.file q.who.host own found in
      subst (λ r. RowFits files table.boot (table.drawn + 1) r) (sym is)
      (record {
        kept = f.kept;
        tag_boot = refl;
        since_boot = f.since_boot;
        drawn_before = omega arith;
        in_order = omega
            (arith, f.in_order, f.drawn_before);
        calm = λ h. stays;
      })

  granted-beside : (row : Row) (term : ℕ) → IsGranted table q want row term → FitsBeside table.rows row
  unfolding sharing_row caching_row shared_again renewed_row
  granted-beside row term (shares_again own found stays shares is lasts) =
      subst (FitsBeside table.rows) (sym is) (calm-beside table.rows (shared_again table own) shares)
  granted-beside row term (begins_sharing none room shared is lasts) =
      subst (FitsBeside table.rows) (sym is) (calm-beside table.rows (sharing_row table q (term_of q want)) refl)
  granted-beside row term (begins_caching none room shared is lasts) = subst (FitsBeside table.rows) (sym is) (record {
    to_others = λ other r found differs. (free-kinds (is_writing want.mode) want.mode r.mode (free-to other r found differs) refl).0;
    to_it = λ other r found differs. (free-kinds (is_writing want.mode) want.mode r.mode (free-to other r found differs) refl).1;
  })
  granted-beside row term (renews_row own found stays caching is lasts) =
      let k = found-row q.file q.who.host table.rows own found in
      subst (FitsBeside table.rows) (sym is) (record {
        to_others = λ other r beside differs. (grown k other r beside differs).0;
        to_it = λ other r beside differs. (grown k other r beside differs).1;
      })
    where
      grown : (own.file ≡ q.file) × (own.who.host ≡ q.who.host) → (other : ℕ) (r : Row) → find_row own.file other table.rows ≡ Some r
          → other ≢ own.who.host → (is_writing (greater_mode own.mode want.mode) ≡ true → caches r.mode ≡ false)
          × (is_writing r.mode ≡ true → caches (greater_mode own.mode want.mode) ≡ false)
      grown k other r beside differs =
          let place : find_row q.file other table.rows ≡ Some r = subst (λ i. find_row i other table.rows ≡ Some r) k.0 beside in
          let apart : other ≢ q.who.host = λ same. differs (same ∙ sym k.1) in
          grown-kinds want.mode own.mode r.mode (free-to other r place apart) (t.alone q.file q.who.host other own r found place apart)

  -- the table after a grant
  pub fits-granted : (row : Row) (term : ℕ) → IsGranted table q want row term → TableFits files table.boot (table.drawn + 1) (put_row row table.rows)
  fits-granted row term g =
      fits-put files table.boot table.drawn (table.drawn + 1) table.rows row (omega arith) (granted-fits row term g) (granted-beside row term g) t

-- the table after rows were marked, and a row was put that waits
pub fits-waiter : (files : List File) (table : Table) (q : Question) (want : Want) → is_some (find_file q.file files) ≡ true
    → TableFits files table.boot table.drawn table.rows → TableFits files table.boot (table.drawn + 1) (with_waiter table q want).rows
unfolding sharing_row with_rows after_draw
fits-waiter files table q want kept t =
    fits-put
    files
    table.boot
    table.drawn
    (table.drawn + 1)
    (marked q.file q.who.host q.access table.rows)
    (sharing_row (with_marked table q) q (term_of q want))
    (omega arith)
    (record { kept = kept; tag_boot = refl; since_boot = refl; drawn_before = omega arith; in_order = omega arith; calm = λ h. refl })
    (calm-beside _ _ refl)
    (fits-marked files table.boot table.drawn table.rows q.file q.who.host q.access t)
