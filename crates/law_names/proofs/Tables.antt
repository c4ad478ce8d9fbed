-- A lease table whose files are directories: what follows on what, in each step of the server's side.
use Rattle.std.proofs.Common.{◌≡◌, ◌≢◌, ◌<◌, ◌⊎◌, ℕ, zero, suc, ◌+◌, ◌==◌, Bool, true, false, not, ◌&&◌, nat_lt, nat_le, List, [], ◌∷◌, Option, Some}
use Rattle.std.proofs.Common.{None, if◌then◌else◌, is_some, refl, sym, subst, ap, ◌∙◌, arith, inl, inr}
use Rattle.std.specs.List.{filter}
use Rattle.std.proofs.lemmas.Bool.Decides.{nat_tests}
use Rattle.nq_base.specs.declared.Access.{Access}
use Rattle.nq_base.specs.declared.Question.{Question}
use Rattle.nq_base.specs.declared.Row.{Row}
use Rattle.nq_base.specs.declared.Tag.{Tag}
use Rattle.nq_base.specs.declared.Want.{Want}
use Rattle.nq_base.specs.declared.Who.{Who}
use Rattle.nq_model.specs.protocol.Ask.{ask, marked, free, sharing_row, caching_row, shared_again, renewed_row, granted, no_lease, put_off_by_own, term_of}
use Rattle.nq_model.specs.protocol.Kept.{File, find_file, new_file}
use Rattle.nq_model.specs.protocol.ServerStep.{access_of, end_reading, is_over, vacated_rows}
use Rattle.nq_model.specs.protocol.Table.{Table, caches, is_writing, tag_below, is_row_of, find_row, put_row, with_rows, after_draw}
use Rattle.walk_steps.proofs.ClientMoves.{some-same, none-some}
use Rattle.walk_steps.proofs.Covers.{AreOfBoot, GoesOnAt, same-goes-on, marked-goes-on, granted-goes-on, waiting-goes-on}
use Rattle.walk_steps.proofs.TagFacts.{IsDrawn}
use Rattle.walk_steps.proofs.AskCases.{asks, clash_in, with_marked, with_waiter, IsGranted, shares_again, begins_sharing, begins_caching, renews_row}
use Rattle.walk_steps.proofs.RowChanges.{of-key, found-put, found-marked, mark-is, found-kept, find-kept, kept_if, found-vacated, unique-vacated}
use Rattle.walk_steps.proofs.RowChanges.{unique-filtered}
use Rattle.walk_steps.proofs.Rows.{decided, same-number, number-same, found-row}
use Rattle.walk_steps.proofs.TableFits.{TableFits, fits-fewer, fits-granted, fits-marked, fits-waiter}

-- ---- files that stand for directories

-- so many of them
abbrev pub stand_ins : ℕ → List File
stand_ins zero = []
stand_ins (suc n) = new_file n [] 0 ∷ stand_ins n

pub stands-in : (n m : ℕ) → n < m → is_some (find_file n (stand_ins m)) ≡ true
unfolding new_file
stands-in n zero h = absurd (omega arith)
stands-in n (suc m) h = elim (decided (m == n)) [
  | inl e ↦ rw e refl
  | inr e ↦
      let other : m ≢ n = λ same. (let yes = number-same m n same in absurd (cc)) in
      rw e (stands-in n m (below n m h other))
]
  where
    below : (a b : ℕ) → a < suc b → b ≢ a → a < b
    below a b l d = step (nat_lt a b) refl
      where
        step : (c : Bool) → nat_lt a b ≡ c → a < b
        step true e = grind (arith, nat_tests)
        step false e = absurd (d (grind (arith, nat_tests)))

found-other : (b : Bool) (f : File) (rest : Option File) → b ≡ false → is_some (if b then Some f else rest) ≡ true → is_some rest ≡ true
found-other true f rest e h = absurd (cc)
found-other false f rest e h = h

pub in-stand : (n m : ℕ) → is_some (find_file n (stand_ins m)) ≡ true → n < m
unfolding new_file
in-stand n zero h = absurd (cc)
in-stand n (suc m) h = elim (decided (m == n)) [
  | inl e ↦ let same = same-number m n e in omega arith
  | inr e ↦
      let below = in-stand n m (found-other (m == n) (new_file m [] 0) (find_file n (stand_ins m)) e h) in
      omega arith
]

-- ---- what follows on a table

-- a tag that is drawn next is above all that were drawn
pub fresh-above : (boot drawn : ℕ) (tag : Tag) → IsDrawn boot drawn tag → tag_below tag (record { boot = boot; number = drawn + 1 }) ≡ true
fresh-above boot drawn tag (inl older) = grind (arith, nat_tests)
fresh-above boot drawn tag (inr p) = let same = p.0 in let few = p.1 in grind (arith, nat_tests)

pub drawn-next : (boot drawn : ℕ) (tag : Tag) → IsDrawn boot drawn tag → IsDrawn boot (drawn + 1) tag
drawn-next boot drawn tag (inl older) = inl older
drawn-next boot drawn tag (inr p) = inr (p.0, let few = p.1 in omega arith)

-- a row that lets its holder cache was there before, in the same chain, or its chain began since
pub data CameFrom (t : Table) (file host : ℕ) (row : Row) : Type 0 where
  went_on : (was : Row) → find_row file host t.rows ≡ Some was → caches was.mode ≡ true → was.who ≡ row.who → was.since ≡ row.since
      → CameFrom t file host row
  is_new : ((tag : Tag) → IsDrawn t.boot t.drawn tag → tag_below tag row.since ≡ true) → CameFrom t file host row

-- a table follows on another
pub record Follows (files : List File) (t after : Table) : Type 0 where
  pub fits : TableFits files after.boot after.drawn after.rows
  pub drawn : (tag : Tag) → IsDrawn t.boot t.drawn tag → IsDrawn after.boot after.drawn tag
  pub came : (file host : ℕ) (row : Row) → find_row file host after.rows ≡ Some row → caches row.mode ≡ true → CameFrom t file host row

pub same-follows : (files : List File) (t : Table) → TableFits files t.boot t.drawn t.rows → Follows files t t
same-follows files t fits = record { fits = fits; drawn = λ tag d. d; came = λ file host row found c. went_on row found c refl refl }

pub then-follows : (files more : List File) (a b c : Table) → Follows files a b → Follows more b c → Follows more a c
then-follows files more a b c f g = record {
  fits = g.fits;
  drawn = λ tag d. g.drawn tag (f.drawn tag d);
  came = λ file host row found caching. from file host row (g.came file host row found caching);
} where
  before : (file host : ℕ) (was row : Row) → was.who ≡ row.who → was.since ≡ row.since → CameFrom a file host was → CameFrom a file host row
  before file host was row w s (went_on first found c v u) = went_on first found c (v ∙ w) (u ∙ s)
  before file host was row w s (is_new new) = is_new (λ tag d. subst (λ t. tag_below tag t ≡ true) s (new tag d))

  from : (file host : ℕ) (row : Row) → CameFrom b file host row → CameFrom a file host row
  from file host row (went_on was found caching w s) = before file host was row w s (f.came file host was found caching)
  from file host row (is_new new) = is_new (λ tag d. new tag (f.drawn tag d))

-- its rows are of its boot
pub of-boot : (files : List File) (t : Table) → TableFits files t.boot t.drawn t.rows → AreOfBoot t
of-boot files t fits file host row found =
    let f = fits.fits file host row found in (f.tag_boot, f.drawn_before, f.since_boot, f.in_order)

-- ---- marks

pub marked-follows : (files : List File) (t : Table) (file host : ℕ) (access : Access) → TableFits files t.boot t.drawn t.rows
    → Follows files t (with_rows t (marked file host access t.rows))
unfolding with_rows
marked-follows files t file host access fits = record {
  fits = fits-marked files t.boot t.drawn t.rows file host access fits;
  drawn = λ tag d. d;
  came = λ f h row found c.
      let w = found-marked file host access f h t.rows row found in
      let m = mark-is file host access w.was in
      went_on w.was w.found (ap caches (sym m.mode) ∙ ap (λ r. caches r.mode) (sym w.is) ∙ c) (sym m.who ∙ ap (λ r. r.who) (sym w.is))
      (sym m.since ∙ ap (λ r. r.since) (sym w.is));
}

-- ---- a row is put

put-follows : (files : List File) (t before : Table) (row : Row) → before.boot ≡ t.boot → before.drawn ≡ t.drawn
    → TableFits files t.boot (t.drawn + 1) (put_row row before.rows)
    → (caches row.mode ≡ true → (file host : ℕ) → row.file ≡ file → row.who.host ≡ host → CameFrom t file host row)
    → ((file host : ℕ) (r : Row) → find_row file host before.rows ≡ Some r → caches r.mode ≡ true → CameFrom t file host r)
    → Follows files t (after_draw before (put_row row before.rows))
unfolding after_draw
put-follows files t before row boot drawn fits own others = record {
  fits = subst (λ n. TableFits files n (before.drawn + 1) (put_row row before.rows)) (sym boot)
      (subst (λ n. TableFits files t.boot (n + 1) (put_row row before.rows)) (sym drawn) fits);
  drawn = λ tag d. subst (λ n. IsDrawn n (before.drawn + 1) tag) (sym boot) (subst (λ n. IsDrawn t.boot (n + 1) tag) (sym drawn)
      (drawn-next t.boot t.drawn tag d));
  came = λ file host r found c. case file host r c (found-put file host row r before.rows found);
} where
  case : (file host : ℕ) (r : Row) → caches r.mode ≡ true
      → ((is_row_of file host row ≡ true) × (r ≡ row)) ⊎ ((is_row_of file host row ≡ false) × (find_row file host before.rows ≡ Some r))
      → CameFrom t file host r
  case file host r c (inl p) =
      let k = of-key file host row p.0 in
      subst (λ x. CameFrom t file host x) (sym p.1) (own (ap (λ x. caches x.mode) (sym p.1) ∙ c) file host k.0 k.1)
  case file host r c (inr p) = others file host r p.1 c

-- ---- the ask table

module _ (files : List File) (t : Table) (q : Question) (want : Want) (wanted : q.want ≡ Some want) (access : q.access ≡ access_of (Some want))
    (kept : is_some (find_file q.file files) ≡ true) (fits : TableFits files t.boot t.drawn t.rows) where
  granted-came : (row : Row) (term : ℕ) → IsGranted t q want row term → caches row.mode ≡ true → (file host : ℕ) → row.file ≡ file
      → row.who.host ≡ host → CameFrom t file host row
  unfolding sharing_row caching_row shared_again renewed_row
  granted-came row term (shares_again own found stays shares is lasts) c file host f h =
      let no : caches row.mode ≡ false = ap (λ r. caches r.mode) is ∙ shares in absurd (cc)
  granted-came row term (begins_sharing none room shared is lasts) c file host f h =
      let no : caches row.mode ≡ false = ap (λ r. caches r.mode) is in absurd (cc)
  granted-came row term (begins_caching none room shared is lasts) c file host f h =
      is_new (λ tag d. ap (λ r. tag_below tag r.since) is ∙ fresh-above t.boot t.drawn tag d)
  granted-came row term (renews_row own found stays caching is lasts) c file host f h =
      let k = found-row q.file q.who.host t.rows own found in
      let file_is : q.file ≡ file = sym k.0 ∙ ap (λ r. r.file) (sym is) ∙ f in
      let host_is : q.who.host ≡ host = sym k.1 ∙ ap (λ r. r.who.host) (sym is) ∙ h in
      went_on own (subst (λ x. find_row x host t.rows ≡ Some own) file_is (subst (λ y. find_row q.file y t.rows ≡ Some own) host_is found)) caching
      (ap (λ r. r.who) (sym is)) (ap (λ r. r.since) (sym is))

  pub granted-follows : (row : Row) (term : ℕ) → clash_in t q ≡ None → IsGranted t q want row term → Follows files t (after_draw t (put_row row t.rows))
  granted-follows row term clear g =
      put-follows files t t row refl refl (fits-granted files t q want kept access clear fits row term g) (granted-came row term g)
      (λ file host r found c. went_on r found c refl refl)

  waiter-follows : Follows files t (with_waiter t q want)
  unfolding with_rows sharing_row after_draw
  waiter-follows =
      let m = marked-follows files t q.file q.who.host q.access fits in
      put-follows files t (with_marked t q) (sharing_row (with_marked t q) q (term_of q want)) refl refl
      (fits-waiter files t q want kept fits)
      (λ c. absurd (cc))
      (λ file host r found c. m.came file host r found c)

  -- the table that follows on a question
  pub ask-follows : Follows files t (ask t q).table
  unfolding granted no_lease put_off_by_own free
  ask-follows = asks t q (λ r. Follows files t r.table) (record {
    later = λ clash e. marked-follows files t q.file q.who.host q.access fits;
    later_waiting = λ clash w e f own room. subst (λ x. Follows files t (with_waiter t q x)) (some-same want w (sym wanted ∙ f)) waiter-follows;
    freely = λ e f. none-some want (sym f ∙ wanted);
    later_by_own = λ w own e f g h. same-follows files t fits;
    granting = λ w row term e f g. granted-follows row term e (subst (λ x. IsGranted t q x row term) (some-same w want (sym f ∙ wanted)) g);
    full = λ w e f own room. same-follows files t fits;
  })

  -- rows that let their holders cache go on
  pub ask-goes-on : (file host : ℕ) → GoesOnAt file host t.rows (ask t q).table.rows
  unfolding granted no_lease put_off_by_own free with_rows after_draw
  ask-goes-on file host = asks t q (λ r. GoesOnAt file host t.rows r.table.rows) (record {
    later = λ clash e. marked-goes-on file host q.file q.who.host q.access t.rows;
    later_waiting = λ clash w e f own room. waiting-goes-on t q w file host own;
    freely = λ e f. none-some want (sym f ∙ wanted);
    later_by_own = λ w own e f g h. λ was found c. (was, found, same-goes-on was);
    granting = λ w row term e f g. granted-goes-on t q w row term file host (of-boot files t fits) g;
    full = λ w e f own room. λ was found c. (was, found, same-goes-on was);
  })

-- ---- fewer rows

pub fewer-follows : (files : List File) (t : Table) (q : Row → Bool) → TableFits files t.boot t.drawn t.rows → Follows files t (with_rows t (filter q t.rows))
unfolding with_rows
fewer-follows files t q fits = record {
  fits = fits-fewer files t.boot t.drawn t.rows (filter q t.rows) (unique-filtered q t.rows fits.unique)
      (λ file host row found. (found-kept q file host t.rows row fits.unique found).0) fits;
  drawn = λ tag d. d;
  came = λ file host row found c. went_on row (found-kept q file host t.rows row fits.unique found).0 c refl refl;
}

pub vacated-follows : (files : List File) (t : Table) (who : Who) (file : ℕ) (tag : Tag) (own : Option Row) → TableFits files t.boot t.drawn t.rows
    → Follows files t (with_rows t (vacated_rows who file tag t.rows own))
unfolding with_rows
vacated-follows files t who file tag own fits = record {
  fits = fits-fewer files t.boot t.drawn t.rows (vacated_rows who file tag t.rows own) (unique-vacated who file tag t.rows own fits.unique)
      (λ f h row found. found-vacated who file tag t.rows own f h row fits.unique found) fits;
  drawn = λ tag d. d;
  came = λ f h row found c. went_on row (found-vacated who file tag t.rows own f h row fits.unique found) c refl refl;
}

-- a reading row whose end is to come goes on in a tick
pub stays-on : (files : List File) (t : Table) (now file host : ℕ) (row : Row) → TableFits files t.boot t.drawn t.rows
    → find_row file host t.rows ≡ Some row → now < row.until → find_row file host (end_reading now t.rows) ≡ Some row
stays-on files t now file host row fits found later =
    find-kept (λ r. not (is_over now r)) file host t.rows fits.unique ∙ ap (kept_if (λ r. not (is_over now r))) found ∙ step (is_writing row.mode)
    (nat_le row.until now) refl refl
  where
    step : (b c : Bool) → is_writing row.mode ≡ b → nat_le row.until now ≡ c → (if not (not b && c) then Some row else None) ≡ Some row
    step true c e f = refl
    step false false e f = refl
    step false true e f = let bad : true ≡ false = grind (arith, nat_tests) in absurd (cc)
