-- What becomes of the rows that hosts wait for: as a row is dropped, marked or put.
use Rattle.std.proofs.Common.{◌≡◌, ◌≢◌, ◌<◌, ◌⊎◌, ℕ, ◌==◌, ◌&&◌, ◌||◌, Bool, true, false, not, List, Option, Some, None, if◌then◌else◌, refl, sym, ap}
use Rattle.std.proofs.Common.{subst, ◌∙◌, inl, inr}
use Rattle.std.specs.Option.{option_map}
use Rattle.std.proofs.lemmas.Bool.{and_parts}
use Rattle.nq_base.specs.declared.Access.{Access}
use Rattle.nq_base.specs.declared.Row.{Row}
use Rattle.nq_model.specs.protocol.Ask.{conflicts, marked, mode_conflicts}
use Rattle.nq_model.specs.protocol.Table.{caches, find_row, is_row_of, drop_row, put_row}
use Rattle.walk_steps.proofs.RowChanges.{mark, mark-is, of-key, has-key, find-put, find-marked, find-row-dropped, find-other-dropped}
use Rattle.walk_steps.proofs.Rows.{found-row, same-number}
use Rattle.walk_steps.proofs.Tests.{is-other}
use Rattle.law_rounds.proofs.Energy.{any-more, any-here, any-none, is_sharing, shares_file, is_shared_in, is_doomed, doomed_at, KeepSharing, IsTame}

-- ---- tests

doomed-caches : (shared : Bool) (row : Row) → is_doomed shared (Some row) ≡ true → (caches row.mode ≡ true) × ((row.evicting || shared) ≡ true)
doomed-caches shared row e = and_parts (caches row.mode) (row.evicting || shared) e

doomed-by : (shared : Bool) (row : Row) → caches row.mode ≡ true → (row.evicting || shared) ≡ true → is_doomed shared (Some row) ≡ true
doomed-by shared row a b = rw (a, b) refl

or-more : (a b c : Bool) → (b ≡ true → c ≡ true) → (a || b) ≡ true → (a || c) ≡ true
or-more true b c f e = refl
or-more false b c f e = f e

or-last : (a b : Bool) → b ≡ true → (a || b) ≡ true
or-last true b e = refl
or-last false b e = e

doomed-more : (a b : Bool) (o : Option Row) → (a ≡ true → b ≡ true) → is_doomed a o ≡ true → is_doomed b o ≡ true
doomed-more a b None f e = e
doomed-more a b (Some row) f e = let k = doomed-caches a row e in doomed-by b row k.0 (or-more row.evicting a b f k.1)

sharing-not : (row : Row) → caches row.mode ≡ true → is_sharing (Some row) ≡ false
sharing-not row e = ap not e

-- whether a place is this file and host
pub at-key : (file host f h : ℕ) → ((f ≡ file) × (h ≡ host)) ⊎ (f ≡ file → h ≢ host)
at-key file host f h = by (f == file) (h == host) refl refl
  where
    by : (a b : Bool) → (f == file) ≡ a → (h == host) ≡ b → ((f ≡ file) × (h ≡ host)) ⊎ (f ≡ file → h ≢ host)
    by true true x y = inl (same-number f file x, same-number h host y)
    by true false x y = inr (λ e. is-other h host y)
    by false b x y = inr (λ e. absurd (is-other f file x e))

-- ---- what is changed at one place only

module _ (hosts : ℕ) (before after : List Row) (file host : ℕ) (others : (f h : ℕ) → (f ≡ file → h ≢ host) → find_row f h after ≡ find_row f h before) where
  -- a row that caches goes, or comes where nobody else shares the file
  shared-old : ((f h : ℕ) → (f ≡ file) → (h ≡ host) → shares_file after f h ≡ true → shares_file before f h ≡ true) → (f : ℕ)
      → is_shared_in hosts after f ≡ true → is_shared_in hosts before f ≡ true
  shared-old own f e = any-more hosts (shares_file after f) (shares_file before f) (λ h is. by f h is (at-key file host f h)) e
    where
      by : (f h : ℕ) → shares_file after f h ≡ true → ((f ≡ file) × (h ≡ host)) ⊎ (f ≡ file → h ≢ host) → shares_file before f h ≡ true
      by f h is (inl k) = own f h k.0 k.1 is
      by f h is (inr other) = ap is_sharing (sym (others f h other)) ∙ is

  pub tame-place : (shares_file before file host ≡ true → shares_file after file host ≡ true) → (shares_file after file host ≡ true
      → shares_file before file host ≡ true) → (doomed_at hosts after file host ≡ true → doomed_at hosts before file host ≡ true) → IsTame hosts before after
  tame-place keeps old own = record {
    sharing = λ f h e. share f h e (at-key file host f h);
    doomed = λ f h e. doom f h e (at-key file host f h);
  }
    where
      share : (f h : ℕ) → shares_file before f h ≡ true → ((f ≡ file) × (h ≡ host)) ⊎ (f ≡ file → h ≢ host) → shares_file after f h ≡ true
      share f h e (inl k) = subst (λ g. shares_file after g h ≡ true) (sym k.0) (subst (λ n. shares_file after file n ≡ true) (sym k.1)
          (keeps (subst (λ n. shares_file before file n ≡ true) k.1 (subst (λ g. shares_file before g h ≡ true) k.0 e))))
      share f h e (inr other) = ap is_sharing (others f h other) ∙ e

      back : (f h : ℕ) → f ≡ file → h ≡ host → shares_file after f h ≡ true → shares_file before f h ≡ true
      back f h at by e = subst (λ g. shares_file before g h ≡ true) (sym at) (subst (λ n. shares_file before file n ≡ true) (sym by)
          (old (subst (λ n. shares_file after file n ≡ true) by (subst (λ g. shares_file after g h ≡ true) at e))))

      doom : (f h : ℕ) → doomed_at hosts after f h ≡ true → ((f ≡ file) × (h ≡ host)) ⊎ (f ≡ file → h ≢ host) → doomed_at hosts before f h ≡ true
      doom f h e (inl k) = subst (λ g. doomed_at hosts before g h ≡ true) (sym k.0) (subst (λ n. doomed_at hosts before file n ≡ true) (sym k.1)
          (own (subst (λ n. doomed_at hosts after file n ≡ true) k.1 (subst (λ g. doomed_at hosts after g h ≡ true) k.0 e))))
      doom f h e (inr other) = doomed-more (is_shared_in hosts after f) (is_shared_in hosts before f) (find_row f h before) (shared-old back f)
          (subst (λ o. is_doomed (is_shared_in hosts after f) o ≡ true) (others f h other) e)

  -- the row at the place goes, or does not share the file, and did not before
  pub tame-unshared : shares_file before file host ≡ false → shares_file after file host ≡ false → (doomed_at hosts after file host ≡ true
      → doomed_at hosts before file host ≡ true) → IsTame hosts before after
  tame-unshared was is own = tame-place (λ e. let bad : false ≡ true = sym was ∙ e in absurd (cc)) (λ e. let bad : false ≡ true = sym is ∙ e in
      absurd (cc)) own

  pub keep-place : shares_file before file host ≡ false ⊎ (shares_file after file host ≡ true) → KeepSharing before after
  keep-place either f h e = by (at-key file host f h) either
    where
      by : ((f ≡ file) × (h ≡ host)) ⊎ (f ≡ file → h ≢ host) → shares_file before file host ≡ false ⊎ (shares_file after file host ≡ true)
          → shares_file after f h ≡ true
      by (inr other) x = ap is_sharing (others f h other) ∙ e
      by (inl k) (inr is) = subst (λ g. shares_file after g h ≡ true) (sym k.0) (subst (λ n. shares_file after file n ≡ true) (sym k.1) is)
      by (inl k) (inl was) = let there : shares_file before file host ≡ true = subst (λ n. shares_file before file n ≡ true) k.1
          (subst (λ g. shares_file before g h ≡ true) k.0 e) in let bad : false ≡ true = sym was ∙ there in absurd (cc)

-- ---- a row is dropped

pub dropped-others : (rows : List Row) (file host : ℕ) (f h : ℕ) → (f ≡ file → h ≢ host) → find_row f h (drop_row file host rows) ≡ find_row f h rows
dropped-others rows file host f h other = find-other-dropped file host f h rows other

pub tame-dropped : (hosts : ℕ) (rows : List Row) (file host : ℕ) (row : Row) → find_row file host rows ≡ Some row → caches row.mode ≡ true
    → IsTame hosts rows (drop_row file host rows)
tame-dropped hosts rows file host row found caching =
    tame-unshared hosts rows (drop_row file host rows) file host (dropped-others rows file host)
    (ap is_sharing found ∙ sharing-not row caching)
    (ap is_sharing (find-row-dropped file host rows))
    (λ e. let none : doomed_at hosts (drop_row file host rows) file host ≡ false = ap (is_doomed (is_shared_in hosts (drop_row file host rows) file))
    (find-row-dropped file host rows) in let bad : true ≡ false = sym e ∙ none in absurd (cc))

pub dropped-none : (hosts : ℕ) (rows : List Row) (file host : ℕ) → doomed_at hosts (drop_row file host rows) file host ≡ false
dropped-none hosts rows file host = ap (is_doomed (is_shared_in hosts (drop_row file host rows) file)) (find-row-dropped file host rows)

pub going-doomed : (hosts : ℕ) (rows : List Row) (file host : ℕ) (row : Row) → find_row file host rows ≡ Some row → caches row.mode ≡ true
    → row.evicting ≡ true → doomed_at hosts rows file host ≡ true
going-doomed hosts rows file host row found caching going = ap (is_doomed (is_shared_in hosts rows file)) found
    ∙ doomed-by (is_shared_in hosts rows file) row caching (rw going refl)

-- ---- a row is put

pub put-others : (rows : List Row) (row : Row) (f h : ℕ) → (f ≡ row.file → h ≢ row.who.host) → find_row f h (put_row row rows) ≡ find_row f h rows
put-others rows row f h other = find-put f h row rows ∙ by (is_row_of f h row) refl
  where
    by : (b : Bool) → is_row_of f h row ≡ b → (if b then Some row else find_row f h rows) ≡ find_row f h rows
    by false e = refl
    by true e = let k = of-key f h row e in absurd (other (sym k.0) (sym k.1))

pub put-there : (rows : List Row) (row : Row) (file host : ℕ) → row.file ≡ file → row.who.host ≡ host → find_row file host (put_row row rows) ≡ Some row
put-there rows row file host at by = find-put file host row rows ∙ ap (λ b. if b then Some row else find_row file host rows) (has-key file host row at by)

-- one like the one that was there
pub tame-put : (hosts : ℕ) (rows : List Row) (row own : Row) → find_row row.file row.who.host rows ≡ Some own → caches row.mode ≡ caches own.mode
    → row.evicting ≡ own.evicting → IsTame hosts rows (put_row row rows)
tame-put hosts rows row own has kind going =
    tame-place hosts rows (put_row row rows) row.file row.who.host (put-others rows row)
    (λ e. ap is_sharing (there) ∙ ap not kind ∙ ap is_sharing (sym has) ∙ e)
    (λ e. ap is_sharing has ∙ ap not (sym kind) ∙ ap is_sharing (sym there) ∙ e)
    (λ e. doom (subst (λ o. is_doomed (is_shared_in hosts (put_row row rows) row.file) o ≡ true) there e))
  where
    there : find_row row.file row.who.host (put_row row rows) ≡ Some row
    there = put-there rows row row.file row.who.host refl refl

    back : (f h : ℕ) → f ≡ row.file → h ≡ row.who.host → shares_file (put_row row rows) f h ≡ true → shares_file rows f h ≡ true
    back f h at by e =
        let here : find_row f h (put_row row rows) ≡ Some row = put-there rows row f h (sym at) (sym by) in
        let was : find_row f h rows ≡ Some own = subst (λ g. find_row g h rows ≡ Some own) (sym at) (subst (λ n. find_row row.file n rows ≡ Some own)
        (sym by) has) in
        ap is_sharing was ∙ ap not (sym kind) ∙ ap is_sharing (sym here) ∙ e

    doom : is_doomed (is_shared_in hosts (put_row row rows) row.file) (Some row) ≡ true → doomed_at hosts rows row.file row.who.host ≡ true
    doom e =
        let k = doomed-caches (is_shared_in hosts (put_row row rows) row.file) row e in
        let more : (own.evicting || is_shared_in hosts rows row.file) ≡ true = or-more own.evicting (is_shared_in hosts (put_row row rows) row.file)
        (is_shared_in hosts rows row.file) (shared-old hosts rows (put_row row rows) row.file row.who.host (put-others rows row) back row.file)
        (subst (λ b. (b || is_shared_in hosts (put_row row rows) row.file) ≡ true) going k.1) in
        ap (is_doomed (is_shared_in hosts rows row.file)) has ∙ doomed-by (is_shared_in hosts rows row.file) own (sym kind ∙ k.0) more

-- a caching one, where nobody shares the file
pub tame-begun : (hosts : ℕ) (rows : List Row) (row : Row) → find_row row.file row.who.host rows ≡ None → caches row.mode ≡ true → row.evicting
    ≡ false → ((h : ℕ) → h ≢ row.who.host → shares_file rows row.file h ≡ false) → IsTame hosts rows (put_row row rows)
tame-begun hosts rows row none caching stays nobody =
    tame-unshared hosts rows (put_row row rows) row.file row.who.host (put-others rows row) (ap is_sharing none) (ap is_sharing there
    ∙ sharing-not row caching)
    (λ e. let k = doomed-caches (is_shared_in hosts (put_row row rows) row.file) row
    (subst (λ o. is_doomed (is_shared_in hosts (put_row row rows) row.file) o ≡ true) there e) in let bad = no k.1 in absurd bad)
  where
    there : find_row row.file row.who.host (put_row row rows) ≡ Some row
    there = put-there rows row row.file row.who.host refl refl

    each : (h : ℕ) → shares_file (put_row row rows) row.file h ≡ false
    each h = by (at-key row.file row.who.host row.file h)
      where
        by : ((row.file ≡ row.file) × (h ≡ row.who.host)) ⊎ (row.file ≡ row.file → h ≢ row.who.host) → shares_file (put_row row rows) row.file h ≡ false
        by (inl k) = subst (λ n. shares_file (put_row row rows) row.file n ≡ false) (sym k.1) (ap is_sharing there ∙ sharing-not row caching)
        by (inr other) = ap is_sharing (put-others rows row row.file h other) ∙ nobody h (other refl)

    no : (row.evicting || is_shared_in hosts (put_row row rows) row.file) ≡ true → ⊥
    no e = let none_shares : is_shared_in hosts (put_row row rows) row.file ≡ false = any-none hosts (shares_file (put_row row rows) row.file) each in
        let bad : true ≡ false = sym e ∙ ap (λ b. b || is_shared_in hosts (put_row row rows) row.file) stays ∙ none_shares in cc

-- ---- rows are marked

sharing-marked : (f by : ℕ) (access : Access) (o : Option Row) → is_sharing (option_map (mark f by access) o) ≡ is_sharing o
sharing-marked f by access None = refl
sharing-marked f by access (Some row) = ap (λ m. not (caches m)) (mark-is f by access row).mode

shares-marked : (f by : ℕ) (access : Access) (rows : List Row) (file host : ℕ) → shares_file (marked f by access rows) file host ≡ shares_file rows file host
shares-marked f by access rows file host = ap is_sharing (find-marked file host f by access rows) ∙ sharing-marked f by access (find_row file host rows)

pub keep-marked : (f by : ℕ) (access : Access) (rows : List Row) → KeepSharing rows (marked f by access rows)
keep-marked f by access rows file host e = shares-marked f by access rows file host ∙ e

-- where some host shares the file
pub tame-marked : (hosts f by : ℕ) (access : Access) (rows : List Row) (host : ℕ) → host < hosts → shares_file rows f host ≡ true
    → IsTame hosts rows (marked f by access rows)
tame-marked hosts f by access rows host below shares = record {
  sharing = keep-marked f by access rows;
  doomed = λ file h e. doom file h (find_row file h rows) refl (subst (λ o. is_doomed (is_shared_in hosts (marked f by access rows) file) o ≡ true)
      (find-marked file h f by access rows) e);
}
  where
    old : (file : ℕ) → is_shared_in hosts (marked f by access rows) file ≡ true → is_shared_in hosts rows file ≡ true
    old file e = any-more hosts (shares_file (marked f by access rows) file) (shares_file rows file)
        (λ h is. sym (shares-marked f by access rows file h) ∙ is) e

    shared : is_shared_in hosts rows f ≡ true
    shared = any-here hosts (shares_file rows f) host below shares

    unmarked : (row : Row) → (row.file == f) ≡ false → mark f by access row ≡ row
    unmarked row e = let off : conflicts f by access row ≡ false = ap (λ b. b && not (row.who.host == by) && mode_conflicts access row.mode) e in rw off refl

    doom : (file h : ℕ) (o : Option Row) → find_row file h rows ≡ o → is_doomed (is_shared_in hosts (marked f by access rows) file)
        (option_map (mark f by access) o) ≡ true → doomed_at hosts rows file h ≡ true
    doom file h None found e = absurd (cc)
    doom file h (Some row) found e = which (row.file == f) refl
      where
        k : (caches (mark f by access row).mode ≡ true) × (((mark f by access row).evicting || is_shared_in hosts (marked f by access rows) file) ≡ true)
        k = doomed-caches (is_shared_in hosts (marked f by access rows) file) (mark f by access row) e

        which : (b : Bool) → (row.file == f) ≡ b → doomed_at hosts rows file h ≡ true
        which true same =
            let at : file ≡ f = sym (found-row file h rows row found).0 ∙ same-number row.file f same in
            let yes : is_shared_in hosts rows file ≡ true = subst (λ g. is_shared_in hosts rows g ≡ true) (sym at) shared in
            ap (is_doomed (is_shared_in hosts rows file)) found ∙ doomed-by (is_shared_in hosts rows file) row
            (ap caches (sym (mark-is f by access row).mode) ∙ k.0) (or-last row.evicting (is_shared_in hosts rows file) yes)
        which false differs =
            let same = unmarked row differs in
            let more = or-more row.evicting (is_shared_in hosts (marked f by access rows) file) (is_shared_in hosts rows file) (old file)
            (subst (λ (r : Row). (r.evicting || is_shared_in hosts (marked f by access rows) file) ≡ true) same k.1) in
            ap (is_doomed (is_shared_in hosts rows file)) found ∙ doomed-by (is_shared_in hosts rows file) row
            (ap caches (sym (mark-is f by access row).mode) ∙ k.0) more
