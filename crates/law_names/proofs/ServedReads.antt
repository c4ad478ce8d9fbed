-- A READDIRLOOK that is served: what follows on the table, and what is granted.
use Rattle.std.proofs.Common.{◌≡◌, ◌≢◌, ◌≤◌, ◌⊎◌, ℕ, ◌+◌, ◌==◌, Bool, true, false, not, ◌&&◌, ◌||◌, nat_lt, List, [], ◌∷◌, ◌++◌, Option, Some, None}
use Rattle.std.proofs.Common.{if◌then◌else◌, is_some, length, refl, sym, subst, ap, ◌∙◌, arith, inl, inr}
use Rattle.std.proofs.lemmas.Bool.{and_from}
use Rattle.std.proofs.lemmas.Bool.Decides.{nat_tests}
use Rattle.nq_base.specs.declared.Asked.{Asked}
use Rattle.nq_base.specs.declared.Grant.{Grant}
use Rattle.nq_base.specs.declared.Mode.{Mode}
use Rattle.nq_base.specs.declared.Mode.TheVariants.{NonCaching, Reading, Writing}
use Rattle.nq_base.specs.declared.Question.{Question}
use Rattle.nq_base.specs.declared.Row.{Row}
use Rattle.nq_base.specs.declared.Tag.{Tag}
use Rattle.nq_base.specs.declared.Want.{Want}
use Rattle.nq_base.specs.declared.Who.{Who}
use Rattle.nq_directory.specs.declared.listing.messages.ReadDir.{ReadDir}
use Rattle.nq_model.specs.protocol.Ask.{ask, term_of, grant_of, granted, no_lease, put_off_by_own, free, sharing_row, caching_row, shared_again, renewed_row}
use Rattle.nq_model.specs.protocol.Kept.{File, find_file}
use Rattle.nq_model.specs.laws.LeaseInterval.{claim_of, HasFitting}
use Rattle.nq_model.specs.protocol.Profile.{skew, granted_term}
use Rattle.nq_model.specs.protocol.Table.{Table, caches, tag_below, is_row_of, find_row, drop_row, put_row, with_rows, after_draw}
use Rattle.nq_directory.specs.Asking.{is_reading}
use Rattle.nq_name_server.specs.Served.{Served, Leaf, most_directories, number_of}
use Rattle.nq_name_server.specs.Serving.{Serves, ToHost, lists_for, tells, puts_off, notice_to, evicting, delays, answers, leased, own_again}
use Rattle.nq_name_server.specs.Serving.{for_asker, reads_numbered, reads_as, reads_dir}
use Rattle.walk_steps.proofs.ClientMoves.{some-same, none-some}
use Rattle.walk_steps.proofs.Covers.{fitting-goes-on, granted-key}
use Rattle.walk_steps.proofs.Packets.{In, in-append}
use Rattle.walk_steps.proofs.TagFacts.{IsDrawn}
use Rattle.walk_steps.proofs.AskCases.{asks, clash_in, IsGranted, shares_again, begins_sharing, begins_caching, renews_row}
use Rattle.walk_steps.proofs.Incarnations.{who-same}
use Rattle.walk_steps.proofs.RowChanges.{find-put-same, find-row-dropped, find-other-dropped}
use Rattle.walk_steps.proofs.Rows.{decided, same-number, number-same, found-row}
use Rattle.walk_steps.proofs.TableFits.{TableFits, fits-granted, tag-in-order}
use Rattle.law_names.proofs.Chains.{Chained, HasFit, IsServed, Leads, WasDrawn, append-none, leads, more-served, number-below, number-more}
use Rattle.law_names.proofs.Chains.{number-new, then-leads}
use Rattle.law_names.proofs.Tables.{Follows, ask-follows, ask-goes-on, fewer-follows, fresh-above, same-follows, stand_ins, stands-in, then-follows}

-- ---- the asker's row of another incarnation goes

asker-follows : (files : List File) (t : Table) (who : Who) (number : ℕ) → TableFits files t.boot t.drawn t.rows → Follows files t (for_asker t who number)
unfolding with_rows
asker-follows files t who number fits = step (find_row number who.host t.rows)
  where
    inner : (b : Bool) → Follows files t (with_rows t (if b then t.rows else drop_row number who.host t.rows))
    inner true = same-follows files t fits
    inner false = fewer-follows files t (λ r. not (is_row_of number who.host r)) fits

    step : (o : Option Row) → Follows files t (with_rows t (own_again who number o t.rows))
    step None = same-follows files t fits
    step (Some row) = inner (row.who.inc == who.inc)

-- a claim of another host, or of this incarnation, is covered as before
asker-keeps : (t : Table) (who w : Who) (number file : ℕ) (mode : Mode) (tag : Tag) (end : ℕ) → (w.host ≡ who.host → w.inc ≡ who.inc)
    → HasFitting (claim_of w file mode tag end) t → HasFitting (claim_of w file mode tag end) (for_asker t who number)
unfolding with_rows
asker-keeps t who w number file mode tag end own h = record { row = h.row; stands = stands (find_row number who.host t.rows) refl; fits = h.fits } where
  dropped : (row : Row) → find_row number who.host t.rows ≡ Some row → (row.who.inc == who.inc) ≡ false → file ≡ number → w.host ≢ who.host
  dropped row found other f same =
      let mine : find_row number who.host t.rows ≡ Some h.row =
      subst (λ x. find_row x who.host t.rows ≡ Some h.row) f (subst (λ y. find_row file y t.rows ≡ Some h.row) same h.stands) in
      let one : row ≡ h.row = some-same row h.row (sym found ∙ mine) in
      let inc : row.who.inc ≡ who.inc = ap (λ r. r.who.inc) one ∙ ap (λ x. x.inc) h.fits.holder ∙ own same in
      let yes : (row.who.inc == who.inc) ≡ true = number-same row.who.inc who.inc inc in
      absurd (cc)

  stands : (o : Option Row) → find_row number who.host t.rows ≡ o → find_row file w.host (own_again who number o t.rows) ≡ Some h.row
  stands None e = h.stands
  stands (Some row) e = elim (decided (row.who.inc == who.inc)) [
    | inl i ↦ rw i h.stands
    | inr i ↦ rw i (find-other-dropped number who.host file w.host t.rows (dropped row e i) ∙ h.stands)
  ]

-- the asker's own row then is of this incarnation
asker-own : (t : Table) (who : Who) (number : ℕ) (own : Row) → find_row number who.host (for_asker t who number).rows ≡ Some own → own.who.inc ≡ who.inc
unfolding with_rows
asker-own t who number own found = step (find_row number who.host t.rows) refl found
  where
    step : (o : Option Row) → find_row number who.host t.rows ≡ o → find_row number who.host (own_again who number o t.rows) ≡ Some own → own.who.inc ≡ who.inc
    step None e f = none-some own (sym e ∙ f)
    step (Some row) e f = by (row.who.inc == who.inc) refl f
      where
        by : (b : Bool) → (row.who.inc == who.inc) ≡ b → find_row number who.host (if b then t.rows else drop_row number who.host t.rows) ≡ Some own
            → own.who.inc ≡ who.inc
        by true i g = ap (λ r. r.who.inc) (some-same own row (sym g ∙ e)) ∙ same-number row.who.inc who.inc i
        by false i g = none-some own (sym (find-row-dropped number who.host t.rows) ∙ g)

-- ---- what is granted

-- a reading lease that is granted on a directory: its tag is fresh, and a row fits it until its term is over and the skew
pub record IsGiven (s after : Served) (r : ReadDir) (g : Grant) : Type 0 where
  pub drawn : WasDrawn after g.tag
  pub above : (tag : Tag) → WasDrawn s tag → tag_below tag g.tag ≡ true
  pub fit : (end : ℕ) → end ≤ s.time + g.term + skew → HasFit after r.prefix r.who g.tag end
  pub since : (c : Chained after r.prefix r.who g.tag) → c.row.since ≡ g.since
  pub short : g.term ≡ granted_term s.longest r.term
  -- its numbers
  pub tag : (g.tag.boot ≡ s.table.boot) × (g.tag.number ≤ s.table.drawn + 1)
  pub chain : (g.since.boot ≡ s.table.boot) × (g.since.number ≤ s.table.drawn + 1)
  pub plain : (g.rev ≡ 0) × (g.blocks ≡ 0)

itself-not-below : (boot number : ℕ) → (nat_lt boot boot || (boot == boot && nat_lt number number)) ≡ false
itself-not-below boot number = grind (arith, nat_tests)

reading-caches : (m : Mode) → is_reading m ≡ true → caches m ≡ true
reading-caches NonCaching e = cc
reading-caches Reading e = refl
reading-caches Writing e = refl

-- what a granted row lets its holder do
record GrantedRow (t : Table) (q : Question) (want : Want) (row : Row) (term : ℕ) : Type 0 where
  fresh : row.tag ≡ record { boot = t.boot; number = t.drawn + 1 }
  who : row.who ≡ q.who
  lasts : q.time + term + skew ≤ row.until
  short : term ≡ term_of q want

granted-row : (t : Table) (q : Question) (want : Want) (row : Row) (term : ℕ)
    → ((own : Row) → find_row q.file q.who.host t.rows ≡ Some own → own.who.inc ≡ q.who.inc)
    → caches row.mode ≡ true → IsGranted t q want row term → GrantedRow t q want row term
unfolding sharing_row caching_row shared_again renewed_row
granted-row t q want row term own-inc c (shares_again own found stays shares is lasts) =
    let no : caches row.mode ≡ false = ap (λ r. caches r.mode) is ∙ shares in absurd (cc)
granted-row t q want row term own-inc c (begins_sharing none room shared is lasts) =
    let no : caches row.mode ≡ false = ap (λ r. caches r.mode) is in absurd (cc)
granted-row t q want row term own-inc c (begins_caching none room shared is lasts) =
    subst (λ x. GrantedRow t q want x term) (sym is) (record { fresh = refl; who = refl; lasts = omega (arith, lasts); short = lasts })
granted-row t q want row term own-inc c (renews_row own found stays caching is lasts) =
    let k = found-row q.file q.who.host t.rows own found in
    let inc = own-inc own found in
    let same : own.who ≡ q.who = who-same own.who q.who (and_from (own.who.host == q.who.host) (own.who.inc == q.who.inc)
    (number-same own.who.host q.who.host k.1) (number-same own.who.inc q.who.inc inc)) in
    subst (λ x. GrantedRow t q want x term) (sym is) (record { fresh = refl; who = same; lasts = omega (arith, lasts); short = lasts })

module _ (s : Served) (r : ReadDir) (number : ℕ) (t : Table) (fits : TableFits (stand_ins (length s.directories)) t.boot t.drawn t.rows)
    (numbered : number_of r.prefix s.directories ≡ Some number)
    (own-inc : (own : Row) → find_row number r.who.host t.rows ≡ Some own → own.who.inc ≡ r.who.inc) where
  abbrev q : Question
  q = lists_for s r number

  abbrev want : Want
  want = record { mode = Mode.Reading; term = r.term }

  granted-given : (row : Row) (term : ℕ) → t.boot ≡ s.table.boot → t.drawn ≡ s.table.drawn → clash_in t q ≡ None → IsGranted t q want row term
      → is_reading row.mode ≡ true → (after : Served) → after.directories ≡ s.directories → after.table ≡ after_draw t (put_row row t.rows)
      → IsGiven s after r (grant_of q row term)
  unfolding grant_of after_draw
  granted-given row term boot drawn clear granting reads after directories table =
      let c = reading-caches row.mode reads in
      let g = granted-row t q want row term own-inc c granting in
      let key = granted-key t q want row term granting in
      let there : is_some (find_file q.file (stand_ins (length s.directories))) ≡ true = stands-in number (length s.directories)
      (number-below r.prefix s.directories number numbered) in
      let put : find_row number r.who.host (put_row row t.rows) ≡ Some row =
      subst (λ f. find_row f r.who.host (put_row row t.rows) ≡ Some row) key.0
      (subst (λ h. find_row row.file h (put_row row t.rows) ≡ Some row) key.1 (find-put-same row t.rows)) in
      let stands : find_row number r.who.host after.table.rows ≡ Some row = ap (λ x. find_row number r.who.host x.rows) table ∙ put in
      let all = fits-granted (stand_ins (length s.directories)) t q want there refl clear fits row term granting in
      let in_order : tag_below row.tag row.since ≡ false = tag-in-order (stand_ins (length s.directories)) t.boot (t.drawn + 1) row
      (all.fits number r.who.host row put) in
      record {
        drawn = subst (λ x. IsDrawn x.boot x.drawn row.tag) (sym table) (inr (ap (λ x. x.boot) g.fresh, let n = ap (λ x. x.number) g.fresh in omega arith));
        above = λ tag d. ap (tag_below tag) g.fresh
            ∙ fresh-above t.boot t.drawn tag (subst (λ b. IsDrawn b t.drawn tag) (sym boot) (subst (λ n. IsDrawn s.table.boot n tag) (sym drawn) d));
        fit = λ end below. record {
          number = number;
          numbered = ap (number_of r.prefix) directories ∙ numbered;
          fitting = record {
            row = row;
            stands = stands;
            fits = record {
              holder = g.who;
              of_file = key.0;
              kind = c;
              began = in_order;
              goes_on = itself-not-below row.tag.boot row.tag.number;
              ends = let l = g.lasts in omega arith;
            };
          };
        };
        since = λ k.
            let same : number ≡ k.number = some-same number k.number (sym numbered ∙ ap (number_of r.prefix) (sym directories) ∙ k.numbered) in
            ap (λ x. x.since) (some-same k.row row (sym k.stands ∙ ap (λ n. find_row n r.who.host after.table.rows) (sym same) ∙ stands));
        short = g.short;
        tag = (ap (λ x. x.boot) g.fresh ∙ boot, let n = ap (λ x. x.number) g.fresh in omega arith);
        chain = (
          let f = all.fits number r.who.host row put in f.since_boot ∙ boot,
          let f = all.fits number r.who.host row put in let a =
              f.in_order in let b = f.drawn_before in omega arith,
        );
        plain = (refl, refl);
      }

  mode-of : (row : Row) (term : ℕ) (g : Grant) → grant_of q row term ≡ g → is_reading g.mode ≡ true → is_reading row.mode ≡ true
  unfolding grant_of
  mode-of row term g same reads = ap (λ x. is_reading x.mode) same ∙ reads

  -- whatever the ask table tells, what it grants is so
  given-all : t.boot ≡ s.table.boot → t.drawn ≡ s.table.drawn → (g : Grant) → (ask t q).asked ≡ Asked.Granted g → is_reading g.mode ≡ true → (after : Served)
      → after.directories ≡ s.directories → after.table ≡ (ask t q).table → IsGiven s after r g
  unfolding granted no_lease put_off_by_own free
  given-all boot drawn =
      asks t q (λ a. (g : Grant) → a.asked ≡ Asked.Granted g → is_reading g.mode ≡ true → (after : Served) → after.directories ≡ s.directories
      → after.table ≡ a.table → IsGiven s after r g)
      (record {
        later = λ clash e g is. absurd (cc);
        later_waiting = λ clash w e f own room g is. absurd (cc);
        freely = λ e f g is. absurd (cc);
        later_by_own = λ w own e f found evicting g is. absurd (cc);
        granting = λ w row term clear f granting g is reads after directories table.
            let same : grant_of q row term ≡ g = cc in
            let mine : IsGranted t q want row term = subst (λ x. IsGranted t q x row term) (sym (some-same want w f)) granting in
            subst (IsGiven s after r) same
            (granted-given row term boot drawn clear mine (mode-of row term g same reads) after directories table);
        full = λ w e f own room g is. absurd (cc);
      })

-- ---- what is said

-- a datagram that the server's side sends for a READDIRLOOK
pub data IsSaid (s after : Served) (r : ReadDir) (leaf : Leaf) (d : ToHost) : Type 0 where
  notice : (row : Row) → d ≡ notice_to r.prefix s.notice row → WasDrawn after row.tag → row.tag.boot ≡ s.table.boot → row.tag.number ≤ s.table.drawn
      → IsSaid s after r leaf d
  later : d ≡ puts_off r → IsSaid s after r leaf d
  leaf_told : (g : Option Grant) → d ≡ tells r leaf g → ((x : Grant) → g ≡ Some x → is_reading x.mode ≡ true → IsGiven s after r x)
      → IsSaid s after r leaf d

-- what comes of a READDIRLOOK
pub record ReadServed (s : Served) (r : ReadDir) (leaf : Leaf) (x : Serves) : Type 0 where
  pub leads : Leads s x.served
  pub fit : (prefix : List ℕ) (who : Who) (tag : Tag) (end : ℕ) → (who.host ≡ r.who.host → who.inc ≡ r.who.inc) → HasFit s prefix who tag end
      → HasFit x.served prefix who tag end
  pub longest : x.served.longest ≡ s.longest
  pub time : x.served.time ≡ s.time
  pub boot : x.served.table.boot ≡ s.table.boot
  pub drawn : x.served.table.drawn ≤ s.table.drawn + 1
  pub directories : (d : List ℕ) → In x.served.directories d → In s.directories d ⊎ (d ≡ r.prefix)
  pub said : (d : ToHost) → In x.sends d → IsSaid s x.served r leaf d

-- the table after the ask table was asked
record AskedOn (s : Served) (r : ReadDir) (number : ℕ) (t after : Table) : Type 0 where
  follows : Follows (stand_ins (length s.directories)) s.table after
  goes : (prefix : List ℕ) (who : Who) (tag : Tag) (end : ℕ) → (who.host ≡ r.who.host → who.inc ≡ r.who.inc) → (h : HasFit s prefix who tag end)
      → HasFitting (claim_of who h.number Mode.Reading tag end) after
  own : (row : Row) → find_row number r.who.host t.rows ≡ Some row → (row.tag.boot ≡ s.table.boot) × (row.tag.number ≤ s.table.drawn)
  boot : after.boot ≡ s.table.boot
  few : after.drawn ≤ s.table.drawn + 1

module _ (s : Served) (r : ReadDir) (leaf : Leaf) (number : ℕ) (t : Table) (numbered : number_of r.prefix s.directories ≡ Some number) (fits : IsServed s)
    (own-inc : (own : Row) → find_row number r.who.host t.rows ≡ Some own → own.who.inc ≡ r.who.inc) where
  module _ (after : Table) (on : AskedOn s r number t after) where
    read-leads : (x : Served) → x.directories ≡ s.directories → x.table ≡ after → Leads s x
    read-leads x directories table =
        leads s x [] (directories ∙ sym (append-none s.directories)) fits
        (subst (λ ds. Follows (stand_ins (length ds)) s.table x.table) (sym directories)
        (subst (Follows (stand_ins (length s.directories)) s.table) (sym table) on.follows))

    read-fit : (x : Served) → x.directories ≡ s.directories → x.table ≡ after → (prefix : List ℕ) (who : Who) (tag : Tag) (end : ℕ)
        → (who.host ≡ r.who.host → who.inc ≡ r.who.inc) → HasFit s prefix who tag end → HasFit x prefix who tag end
    read-fit x directories table prefix who tag end same h = record {
      number = h.number;
      numbered = ap (number_of prefix) directories ∙ h.numbered;
      fitting = subst (HasFitting (claim_of who h.number Mode.Reading tag end)) (sym table) (on.goes prefix who tag end same h);
    }

    delayed : ReadServed s r leaf (delays s r after (evicting (find_row number r.who.host t.rows)))
    delayed = record {
      leads = read-leads _ refl refl;
      fit = read-fit _ refl refl;
      longest = refl;
      time = refl;
      boot = on.boot;
      drawn = on.few;
      directories = λ d i. inl i;
      said = said (find_row number r.who.host t.rows) refl;
    } where
      told : (own : List Row) → Served
      told own = (delays s r after own).served

      said : (o : Option Row) → find_row number r.who.host t.rows ≡ o → (d : ToHost) → In (delays s r after (evicting o)).sends d
          → IsSaid s (delays s r after (evicting o)).served r leaf d
      said None e d (inl same) = later (sym same)
      said None e d (inr bad) = absurd bad
      said (Some row) e d i = by row.evicting d i
        where
          by : (b : Bool) (x : ToHost) → In (delays s r after (if b then row ∷ [] else [])).sends x
              → IsSaid s (delays s r after (if b then row ∷ [] else [])).served r leaf x
          by false x (inl same) = later (sym same)
          by false x (inr bad) = absurd bad
          by true x (inl same) = let k = on.own row e in notice row (sym same) (on.follows.drawn row.tag (inr k)) k.0 k.1
          by true x (inr (inl same)) = later (sym same)
          by true x (inr (inr bad)) = absurd bad

    answered : (g : Option Grant) → ((x : Grant) → g ≡ Some x → is_reading x.mode ≡ true → IsGiven s (answers s r after leaf g).served r x)
        → ReadServed s r leaf (answers s r after leaf g)
    answered g given = record {
      leads = read-leads _ refl refl;
      fit = read-fit _ refl refl;
      longest = refl;
      time = refl;
      boot = on.boot;
      drawn = on.few;
      directories = λ d i. inl i;
      said = λ d i. said d i;
    } where
      said : (d : ToHost) → (tells r leaf g ≡ d) ⊎ ⊥ → IsSaid s (answers s r after leaf g).served r leaf d
      said d (inl same) = leaf_told g (sym same) given
      said d (inr bad) = absurd bad

    told-served : (asked : Asked) → ((g : Grant) → asked ≡ Asked.Granted g → is_reading g.mode ≡ true → (x : Served) → x.directories ≡ s.directories
        → x.table ≡ after → IsGiven s x r g) → ReadServed s r leaf (leased s r after leaf (evicting (find_row number r.who.host t.rows)) asked)
    told-served (Asked.TryLater clash) given = delayed
    told-served (Asked.Granted g) given =
        answered (Some g) (λ x is reads. given x (ap (λ y. Asked.Granted y) (some-same g x is)) reads _ refl refl)
    told-served Asked.NoLease given = answered None (λ x is. none-some x is)
    told-served Asked.Free given = answered None (λ x is. none-some x is)

-- ---- the whole

asked-boot : (t : Table) (q : Question) → (ask t q).table.boot ≡ t.boot
unfolding granted no_lease put_off_by_own free with_rows after_draw
asked-boot t q = asks t q (λ a. a.table.boot ≡ t.boot) (record {
  later = λ clash e. refl;
  later_waiting = λ clash w e f own room. refl;
  freely = λ e f. refl;
  later_by_own = λ w own e f g h. refl;
  granting = λ w row term e f g. refl;
  full = λ w e f own room. refl;
})

asked-drawn : (t : Table) (q : Question) → (ask t q).table.drawn ≤ t.drawn + 1
unfolding granted no_lease put_off_by_own free with_rows after_draw
asked-drawn t q = asks t q (λ a. a.table.drawn ≤ t.drawn + 1) (record {
  later = λ clash e. omega arith;
  later_waiting = λ clash w e f own room. omega arith;
  freely = λ e f. omega arith;
  later_by_own = λ w own e f g h. omega arith;
  granting = λ w row term e f g. omega arith;
  full = λ w e f own room. omega arith;
})

asker-boot : (t : Table) (who : Who) (number : ℕ) → (for_asker t who number).boot ≡ t.boot
unfolding with_rows
asker-boot t who number = refl

asker-drawn : (t : Table) (who : Who) (number : ℕ) → (for_asker t who number).drawn ≡ t.drawn
unfolding with_rows
asker-drawn t who number = refl

module _ (s : Served) (r : ReadDir) (number : ℕ) (fits : IsServed s) (numbered : number_of r.prefix s.directories ≡ Some number) where
  abbrev files : List File
  files = stand_ins (length s.directories)

  abbrev before : Table
  before = for_asker s.table r.who number

  there : is_some (find_file number files) ≡ true
  there = stands-in number (length s.directories) (number-below r.prefix s.directories number numbered)

  asked-on : AskedOn s r number before (ask before (lists_for s r number)).table
  asked-on =
      let f = asker-follows files s.table r.who number fits in
      let w = ask-follows files before (lists_for s r number) (record { mode = Mode.Reading; term = r.term }) refl refl there f.fits in
      record {
        follows = then-follows files files s.table before (ask before (lists_for s r number)).table f w;
        goes = λ prefix who tag end same h.
            fitting-goes-on who h.number Mode.Reading tag end before (ask before (lists_for s r number)).table refl
            (ask-goes-on files before (lists_for s r number) (record { mode = Mode.Reading; term = r.term }) refl refl there f.fits h.number who.host)
            (asker-keeps s.table r.who who number h.number Mode.Reading tag end same h.fitting);
        own = λ row found.
            let k = f.fits.fits number r.who.host row found in
            (k.tag_boot ∙ asker-boot s.table r.who number, let few = k.drawn_before in let same = asker-drawn s.table r.who number in omega arith);
        boot = asked-boot before (lists_for s r number) ∙ asker-boot s.table r.who number;
        few = let d = asked-drawn before (lists_for s r number) in let same = asker-drawn s.table r.who number in omega arith;
      }

  pub numbered-served : (leaf : Leaf) → ReadServed s r leaf (reads_numbered s r leaf number)
  numbered-served leaf =
      let f = asker-follows files s.table r.who number fits in
      told-served s r leaf number before numbered fits (asker-own s.table r.who number) (ask before (lists_for s r number)).table asked-on
      (ask before (lists_for s r number)).asked
      (λ g is reads x directories table.
      given-all s r number before f.fits numbered (asker-own s.table r.who number) (asker-boot s.table r.who number) (asker-drawn s.table r.who number) g is
      reads x directories table)

-- a directory that has no number yet gets the next one
lifted : (s : Served) (r : ReadDir) (leaf : Leaf) (more : List (List ℕ)) (x : Serves) → ((d : List ℕ) → In more d → d ≡ r.prefix) → IsServed s
    → ReadServed (record s { directories = s.directories ++ more }) r leaf x → ReadServed s r leaf x
lifted s r leaf more x of fits h = record {
  leads = then-leads s one x.served (leads s one more refl fits (same-follows (stand_ins (length one.directories)) s.table all)) h.leads;
  fit = λ prefix who tag end same k. h.fit prefix who tag end same (record {
    number = k.number;
    numbered = number-more prefix s.directories more k.number k.numbered;
    fitting = k.fitting;
  });
  longest = h.longest;
  time = h.time;
  boot = h.boot;
  drawn = h.drawn;
  directories = λ d i. entered d (h.directories d i);
  said = λ d i. said d (h.said d i);
} where
  one : Served
  one = record s { directories = s.directories ++ more }

  all : TableFits (stand_ins (length (s.directories ++ more))) s.table.boot s.table.drawn s.table.rows
  all = more-served s (s.directories ++ more) more refl fits

  entered : (d : List ℕ) → In (s.directories ++ more) d ⊎ (d ≡ r.prefix) → In s.directories d ⊎ (d ≡ r.prefix)
  entered d (inr same) = inr same
  entered d (inl i) = step (in-append s.directories more d i)
    where
      step : In s.directories d ⊎ In more d → In s.directories d ⊎ (d ≡ r.prefix)
      step (inl old) = inl old
      step (inr new) = inr (of d new)

  given : (g : Grant) → IsGiven (record s { directories = s.directories ++ more }) x.served r g → IsGiven s x.served r g
  given g k = record { drawn = k.drawn; above = k.above; fit = k.fit; since = k.since; short = k.short; tag = k.tag; chain = k.chain; plain = k.plain }

  said : (d : ToHost) → IsSaid (record s { directories = s.directories ++ more }) x.served r leaf d → IsSaid s x.served r leaf d
  said d (notice row is drawn boot number) = notice row is drawn boot number
  said d (later is) = later is
  said d (leaf_told g is k) = leaf_told g is (λ y e reads. given y (k y e reads))

unlisted : (s : Served) (r : ReadDir) (leaf : Leaf) → IsServed s → ReadServed s r leaf (answers s r s.table leaf None)
unlisted s r leaf fits = record {
  leads = same s fits;
  fit = λ prefix who tag end own h. record { number = h.number; numbered = h.numbered; fitting = h.fitting };
  longest = refl;
  time = refl;
  boot = refl;
  drawn = omega arith;
  directories = λ d i. inl i;
  said = λ d i. said d i;
} where
  same : (x : Served) → IsServed x → Leads x (record x { table = x.table })
  same x f = leads x (record x { table = x.table }) [] (sym (append-none x.directories)) f (same-follows (stand_ins (length x.directories)) x.table f)

  said : (d : ToHost) → (tells r leaf None ≡ d) ⊎ ⊥ → IsSaid s (answers s r s.table leaf None).served r leaf d
  said d (inl is) = leaf_told None (sym is) (λ x e. none-some x e)
  said d (inr bad) = absurd bad

pub reads-served : (s : Served) (r : ReadDir) (leaf : Leaf) → IsServed s → ReadServed s r leaf (reads_dir s r leaf)
reads-served s r leaf fits = by (number_of r.prefix s.directories) refl
  where
    one-prefix : (d : List ℕ) → (r.prefix ≡ d) ⊎ ⊥ → d ≡ r.prefix
    one-prefix d (inl same) = sym same
    one-prefix d (inr bad) = absurd bad

    new : number_of r.prefix s.directories ≡ None → (b : Bool) → ReadServed s r leaf
        (if b
        then reads_numbered (record s { directories = s.directories ++ r.prefix ∷ [] }) r leaf (length s.directories)
        else answers s r s.table leaf None)
    new none true =
        lifted s r leaf (r.prefix ∷ []) _ one-prefix fits
        (numbered-served (record s { directories = s.directories ++ r.prefix ∷ [] }) r (length s.directories)
        (more-served s (s.directories ++ r.prefix ∷ []) (r.prefix ∷ []) refl fits) (number-new r.prefix s.directories none) leaf)
    new none false = unlisted s r leaf fits

    by : (o : Option ℕ) → number_of r.prefix s.directories ≡ o → ReadServed s r leaf (reads_as s r leaf o)
    by None none = new none (nat_lt (length s.directories) most_directories)
    by (Some number) numbered = numbered-served s r number fits numbered leaf
