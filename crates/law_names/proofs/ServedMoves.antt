-- The other steps of the server's side: a change of a directory is held up, a list is given up, the clock ticks.
use Rattle.std.proofs.Common.{◌≡◌, ◌≢◌, ◌<◌, ◌≤◌, ◌⊎◌, ℕ, ◌+◌, ◌%◌, ◌==◌, Bool, true, false, not, ◌&&◌, List, [], ◌∷◌, Option, Some, None}
use Rattle.std.proofs.Common.{if◌then◌else◌, length, refl, sym, subst, ap, ◌∙◌, arith, inl, inr}
use Rattle.std.specs.List.{find, filter}
use Rattle.std.proofs.lemmas.Bool.{and_parts, and_from}
use Rattle.std.proofs.lemmas.Bool.Decides.{nat_tests}
use Rattle.nq_base.specs.declared.Access.{Access}
use Rattle.nq_base.specs.declared.Mode.{Mode}
use Rattle.nq_base.specs.declared.Question.{Question}
use Rattle.nq_base.specs.declared.Row.{Row}
use Rattle.nq_base.specs.declared.Tag.{Tag}
use Rattle.nq_base.specs.declared.Who.{Who}
use Rattle.nq_directory.specs.declared.listing.messages.DirTag.{DirTag}
use Rattle.nq_model.specs.protocol.Ask.{ask, conflicts, free}
use Rattle.nq_model.specs.protocol.Kept.{File}
use Rattle.nq_model.specs.protocol.Profile.{xid_end}
use Rattle.nq_model.specs.protocol.ServerStep.{is_over, vacated_rows}
use Rattle.nq_model.specs.protocol.Table.{Table, caches, same_tag, tag_below, is_row_of, find_row, drop_row, with_rows}
use Rattle.nq_name_server.specs.Served.{Served, number_of}
use Rattle.nq_name_server.specs.Serving.{Serves, ToHost, notices, notice_to, changes_for, readers, holds, holds_for, holds_as, holds_up, gives_up}
use Rattle.nq_name_server.specs.Serving.{vacates, ticks}
use Rattle.walk_steps.proofs.ClientMoves.{some-same, none-some}
use Rattle.walk_steps.proofs.Covers.{GoesOnAt, fitting-goes-on, marked-goes-on, same-goes-on}
use Rattle.walk_steps.proofs.TermsDrawn.{unique-in}
use Rattle.walk_steps.proofs.Packets.{In}
use Rattle.walk_steps.proofs.AskCases.{asks}
use Rattle.walk_steps.proofs.RowChanges.{find-not-vacated}
use Rattle.walk_steps.proofs.Rows.{decided, same-number, number-same, found-row}
use Rattle.walk_steps.proofs.TableFits.{TableFits}
use Rattle.law_names.proofs.Chains.{Chained, HasFit, IsServed, Leads, append-none, leads, number-one}
use Rattle.law_names.proofs.Tables.{Follows, fewer-follows, marked-follows, same-follows, stand_ins, stays-on, vacated-follows}

-- ---- members of lists

pub found-in : {A : Type 0} (p : A → Bool) (x : A) (xs : List A) → find p xs ≡ Some x → In xs x
found-in p x [] h = absurd (cc)
found-in p x (y ∷ xs) h = elim (decided (p y)) [
  | inl e ↦ inl (first (p y) y x (find p xs) e h)
  | inr e ↦ inr (found-in p x xs (later (p y) y x (find p xs) e h))
]
  where
    first : {B : Type 0} (b : Bool) (u v : B) (rest : Option B) → b ≡ true → (if b then Some u else rest) ≡ Some v → u ≡ v
    first true u v rest e h = cc
    first false u v rest e h = absurd (cc)

    later : {B : Type 0} (b : Bool) (u v : B) (rest : Option B) → b ≡ false → (if b then Some u else rest) ≡ Some v → rest ≡ Some v
    later true u v rest e h = absurd (cc)
    later false u v rest e h = h

pub kept-in : {A : Type 0} (p : A → Bool) (x : A) (xs : List A) → In xs x → p x ≡ true → In (filter p xs) x
kept-in p x [] i h = absurd i
kept-in p x (y ∷ xs) (inl same) h =
    let yes : p y ≡ true = ap p same ∙ h in
    rw yes (inl same)
kept-in p x (y ∷ xs) (inr i) h = elim (decided (p y)) [
  | inl e ↦ rw e (inr (kept-in p x xs i h))
  | inr e ↦ rw e (kept-in p x xs i h)
]

pub filtered-in : {A : Type 0} (p : A → Bool) (x : A) (xs : List A) → In (filter p xs) x → In xs x
filtered-in p x [] i = i
filtered-in p x (y ∷ xs) i = by (p y) (λ j. filtered-in p x xs j) i
  where
    by : (b : Bool) → (In (filter p xs) x → In xs x) → In (if b then y ∷ filter p xs else filter p xs) x → (y ≡ x) ⊎ In xs x
    by true rest (inl same) = inl same
    by true rest (inr j) = inr (rest j)
    by false rest j = inr (rest j)

none-in : {A : Type 0} (xs : List A) (x : A) → xs ≡ [] → In xs x → ⊥
none-in [] x e i = i
none-in (y ∷ xs) x e i = cc

-- ---- a change of a directory

-- where a change is not held up, each chain on the directory is of the host that makes it
pub unheld : (s : Served) (who : Who) (prefix : List ℕ) → holds_up s who prefix ≡ None → (w : Who) (tag : Tag) → Chained s prefix w tag → w.host ≡ who.host
unheld s who prefix free w tag c = elim (decided (w.host == who.host)) [
  | inl e ↦ same-number w.host who.host e
  | inr e ↦ absurd (clash e)
]
  where
    k : (c.row.file ≡ c.number) × (c.row.who.host ≡ w.host)
    k = found-row c.number w.host s.table.rows c.row c.stands

    conflicting : (w.host == who.host) ≡ false → conflicts c.number who.host Access.Write c.row ≡ true
    conflicting e =
        let file : (c.row.file == c.number) ≡ true = number-same c.row.file c.number k.0 in
        let other : (c.row.who.host == who.host) ≡ false = ap (λ h. h == who.host) k.1 ∙ e in
        let caching : caches c.row.mode ≡ true = c.caching in
        rw (file, other) caching

    told : (rows : List Row) → holds_for s who prefix c.number rows ≡ None → rows ≡ []
    told [] e = refl
    told (x ∷ xs) e = absurd (cc)

    clash : (w.host == who.host) ≡ false → ⊥
    clash e =
        let there = found-in (is_row_of c.number w.host) c.row s.table.rows c.stands in
        let reads = kept-in (conflicts c.number who.host Access.Write) c.row s.table.rows there (conflicting e) in
        let none : holds_as s who prefix (Some c.number) ≡ None = ap (holds_as s who prefix) (sym c.numbered) ∙ free in
        none-in (readers c.number who.host s.table.rows) c.row (told (readers c.number who.host s.table.rows) none) reads

-- a notice of a row
pub record IsNotice (prefix : List ℕ) (s : Served) (d : ToHost) : Type 0 where
  pub xid : ℕ
  pub row : Row
  pub is : d ≡ notice_to prefix xid row
  pub boot : row.tag.boot ≡ s.table.boot
  pub number : row.tag.number ≤ s.table.drawn

noticed : (prefix : List ℕ) (s : Served) (xid : ℕ) (rows : List Row) → ((row : Row) → In rows row → (row.tag.boot ≡ s.table.boot)
    × (row.tag.number ≤ s.table.drawn))
    → (d : ToHost) → In (notices prefix xid rows) d → IsNotice prefix s d
noticed prefix s xid [] drawn d i = absurd i
noticed prefix s xid (row ∷ rows) drawn d (inl same) =
    let k = drawn row (inl refl) in record { xid = xid; row = row; is = sym same; boot = k.0; number = k.1 }
noticed prefix s xid (row ∷ rows) drawn d (inr i) = noticed prefix s ((xid + 1) % xid_end) rows (λ x j. drawn x (inr j)) d i

-- what comes of a request that is held up
pub record HeldServed (s : Served) (prefix : List ℕ) (x : Serves) : Type 0 where
  pub leads : Leads s x.served
  pub fit : (p : List ℕ) (who : Who) (tag : Tag) (end : ℕ) → HasFit s p who tag end → HasFit x.served p who tag end
  pub longest : x.served.longest ≡ s.longest
  pub time : x.served.time ≡ s.time
  pub boot : x.served.table.boot ≡ s.table.boot
  pub drawn : x.served.table.drawn ≡ s.table.drawn
  pub directories : x.served.directories ≡ s.directories
  pub said : (d : ToHost) → In x.sends d → IsNotice prefix s d

change-follows : (files : List File) (t : Table) (q : Question) → q.want ≡ None → TableFits files t.boot t.drawn t.rows → Follows files t (ask t q).table
unfolding free
change-follows files t q none fits = asks t q (λ a. Follows files t a.table) (record {
  later = λ clash e. marked-follows files t q.file q.who.host q.access fits;
  later_waiting = λ clash w e f own room. none-some w (sym none ∙ f);
  freely = λ e f. same-follows files t fits;
  later_by_own = λ w own e f g h. none-some w (sym none ∙ f);
  granting = λ w row term e f g. none-some w (sym none ∙ f);
  full = λ w e f own room. none-some w (sym none ∙ f);
})

change-goes : (t : Table) (q : Question) → q.want ≡ None → (file host : ℕ) → GoesOnAt file host t.rows (ask t q).table.rows
unfolding free with_rows
change-goes t q none file host = asks t q (λ a. GoesOnAt file host t.rows a.table.rows) (record {
  later = λ clash e. marked-goes-on file host q.file q.who.host q.access t.rows;
  later_waiting = λ clash w e f own room. none-some w (sym none ∙ f);
  freely = λ e f. λ was found c. (was, found, same-goes-on was);
  later_by_own = λ w own e f g h. none-some w (sym none ∙ f);
  granting = λ w row term e f g. none-some w (sym none ∙ f);
  full = λ w e f own room. none-some w (sym none ∙ f);
})

change-kept : (t : Table) (q : Question) → q.want ≡ None → ((ask t q).table.boot ≡ t.boot) × ((ask t q).table.drawn ≡ t.drawn)
unfolding free with_rows
change-kept t q none = asks t q (λ a. (a.table.boot ≡ t.boot) × (a.table.drawn ≡ t.drawn)) (record {
  later = λ clash e. (refl, refl);
  later_waiting = λ clash w e f own room. none-some w (sym none ∙ f);
  freely = λ e f. (refl, refl);
  later_by_own = λ w own e f g h. none-some w (sym none ∙ f);
  granting = λ w row term e f g. none-some w (sym none ∙ f);
  full = λ w e f own room. none-some w (sym none ∙ f);
})

held : (s : Served) (who : Who) (prefix : List ℕ) (number : ℕ) (rows : List Row) → IsServed s
    → ((row : Row) → In rows row → In s.table.rows row) → HeldServed s prefix (holds s who prefix number rows)
held s who prefix number rows fits of = record {
  leads = leads s after [] (sym (append-none s.directories)) fits follows;
  fit = λ p w tag end h. record {
    number = h.number;
    numbered = h.numbered;
    fitting = fitting-goes-on w h.number Mode.Reading tag end s.table (ask s.table q).table refl (change-goes s.table q refl h.number w.host) h.fitting;
  };
  longest = refl;
  time = refl;
  boot = (change-kept s.table q refl).0;
  drawn = (change-kept s.table q refl).1;
  directories = refl;
  said = noticed prefix s s.notice rows drawn;
} where
  q : Question
  q = changes_for s who number

  after : Served
  after = (holds s who prefix number rows).served

  follows : Follows (stand_ins (length s.directories)) s.table (ask s.table (changes_for s who number)).table
  follows = change-follows (stand_ins (length s.directories)) s.table (changes_for s who number) refl fits

  drawn : (row : Row) → In rows row → (row.tag.boot ≡ s.table.boot) × (row.tag.number ≤ s.table.drawn)
  drawn row i =
      let f = fits.fits row.file row.who.host row (unique-in s.table.rows row fits.unique (of row i)) in
      (f.tag_boot, f.drawn_before)

pub holds-served : (s : Served) (who : Who) (prefix : List ℕ) (x : Serves) → IsServed s → holds_up s who prefix ≡ Some x → HeldServed s prefix x
holds-served s who prefix x fits is = by (number_of prefix s.directories) is
  where
    some : (number : ℕ) (rows : List Row) → ((row : Row) → In rows row → In s.table.rows row) → holds_for s who prefix number rows ≡ Some x
        → HeldServed s prefix x
    some number [] of e = absurd (cc)
    some number (row ∷ rows) of e =
        subst (HeldServed s prefix) (some-same (holds s who prefix number (row ∷ rows)) x e) (held s who prefix number (row ∷ rows) fits of)

    by : (o : Option ℕ) → holds_as s who prefix o ≡ Some x → HeldServed s prefix x
    by None e = absurd (cc)
    by (Some number) e =
        some number (readers number who.host s.table.rows) (λ row i. filtered-in (conflicts number who.host Access.Write) row s.table.rows i) e

-- ---- a list is given up

-- what comes of a DIRVACATED
pub record VacatedServed (s : Served) (t : DirTag) (after : Served) : Type 0 where
  pub leads : Leads s after
  pub fit : (p : List ℕ) (who : Who) (tag : Tag) (end : ℕ)
      → (who.host ≡ t.who.host → who.inc ≡ t.who.inc → p ≡ t.prefix → tag_below t.tag tag ≡ true) → HasFit s p who tag end → HasFit after p who tag end
  pub longest : after.longest ≡ s.longest
  pub time : after.time ≡ s.time
  pub boot : after.table.boot ≡ s.table.boot
  pub drawn : after.table.drawn ≡ s.table.drawn
  pub directories : after.directories ≡ s.directories

same-below : (a b c : Tag) → same_tag a b ≡ true → tag_below b c ≡ true → tag_below a c ≡ false → ⊥
same-below a b c same below off = grind (arith, nat_tests)

given-up : (s : Served) (t : DirTag) (number : ℕ) → number_of t.prefix s.directories ≡ Some number → IsServed s
    → VacatedServed s t (gives_up s t (Some number))
unfolding with_rows
given-up s t number numbered fits = record {
  leads = leads s (gives_up s t (Some number)) [] (sym (append-none s.directories)) fits
      (vacated-follows (stand_ins (length s.directories)) s.table t.who number t.tag (find_row number t.who.host s.table.rows) fits);
  fit = λ p who tag end above h. record {
    number = h.number;
    numbered = h.numbered;
    fitting = record { row = h.fitting.row; stands = stands p who tag end above h; fits = h.fitting.fits };
  };
  longest = refl;
  time = refl;
  boot = refl;
  drawn = refl;
  directories = refl;
} where
  -- the row of a claim that is not given up stays
  stands : (p : List ℕ) (who : Who) (tag : Tag) (end : ℕ)
      → (who.host ≡ t.who.host → who.inc ≡ t.who.inc → p ≡ t.prefix → tag_below t.tag tag ≡ true) → (h : HasFit s p who tag end)
      → find_row h.number who.host (vacated_rows t.who number t.tag s.table.rows (find_row number t.who.host s.table.rows)) ≡ Some h.fitting.row
  stands p who tag end above h = elim (decided (is_row_of number t.who.host h.fitting.row)) [
    | inl e ↦ own e
    | inr e ↦ find-not-vacated t.who number t.tag s.table.rows (find_row number t.who.host s.table.rows) h.number who.host (apart e) ∙ h.fitting.stands
  ]
    where
      key : (h.fitting.row.file ≡ h.number) × (h.fitting.row.who.host ≡ who.host)
      key = found-row h.number who.host s.table.rows h.fitting.row h.fitting.stands

      apart : is_row_of number t.who.host h.fitting.row ≡ false → h.number ≡ number → who.host ≢ t.who.host
      apart e f g =
          let yes : is_row_of number t.who.host h.fitting.row ≡ true =
          and_from (h.fitting.row.file == number) (h.fitting.row.who.host == t.who.host)
          (number-same h.fitting.row.file number (key.0 ∙ f)) (number-same h.fitting.row.who.host t.who.host (key.1 ∙ g)) in
          absurd (cc)

      kept : (row : Row) → h.fitting.row ≡ row → h.number ≡ number → who.host ≡ t.who.host → (b : Bool)
          → (row.who.inc == t.who.inc && same_tag row.tag t.tag) ≡ b
          → find_row h.number who.host (if b then drop_row number t.who.host s.table.rows else s.table.rows) ≡ Some h.fitting.row
      kept row one f g false e = h.fitting.stands
      kept row one f g true e =
          let both = and_parts (row.who.inc == t.who.inc) (same_tag row.tag t.tag) e in
          let inc : who.inc ≡ t.who.inc =
          ap (λ w. w.inc) (sym h.fitting.fits.holder) ∙ ap (λ r. r.who.inc) one ∙ same-number row.who.inc t.who.inc both.0 in
          let prefix : p ≡ t.prefix = number-one p t.prefix s.directories number (h.numbered ∙ ap (λ n. Some n) f) numbered in
          let on : tag_below row.tag tag ≡ false = ap (λ r. tag_below r.tag tag) (sym one) ∙ h.fitting.fits.goes_on in
          absurd (same-below row.tag t.tag tag both.1 (above g inc prefix) on)

      own : is_row_of number t.who.host h.fitting.row ≡ true
          → find_row h.number who.host (vacated_rows t.who number t.tag s.table.rows (find_row number t.who.host s.table.rows)) ≡ Some h.fitting.row
      own e =
          let both = and_parts (h.fitting.row.file == number) (h.fitting.row.who.host == t.who.host) e in
          let f : h.number ≡ number = sym key.0 ∙ same-number h.fitting.row.file number both.0 in
          let g : who.host ≡ t.who.host = sym key.1 ∙ same-number h.fitting.row.who.host t.who.host both.1 in
          let mine : find_row number t.who.host s.table.rows ≡ Some h.fitting.row =
          subst (λ n. find_row n t.who.host s.table.rows ≡ Some h.fitting.row) f (subst (λ n. find_row h.number n s.table.rows ≡ Some h.fitting.row) g
          h.fitting.stands) in
          ap (λ o. find_row h.number who.host (vacated_rows t.who number t.tag s.table.rows o)) mine
          ∙ kept h.fitting.row refl f g (h.fitting.row.who.inc == t.who.inc && same_tag h.fitting.row.tag t.tag) refl

pub vacates-served : (s : Served) (t : DirTag) → IsServed s → VacatedServed s t (vacates s t)
vacates-served s t fits = by (number_of t.prefix s.directories) refl
  where
    by : (o : Option ℕ) → number_of t.prefix s.directories ≡ o → VacatedServed s t (gives_up s t o)
    by None e = record {
      leads = leads s s [] (sym (append-none s.directories)) fits (same-follows (stand_ins (length s.directories)) s.table fits);
      fit = λ p who tag end above h. h;
      longest = refl;
      time = refl;
      boot = refl;
      drawn = refl;
      directories = refl;
    }
    by (Some number) e = given-up s t number e fits

-- ---- a tick

pub ticks-lead : (s : Served) (time : ℕ) → IsServed s → Leads s (ticks s time)
ticks-lead s time fits =
    leads s (ticks s time) [] (sym (append-none s.directories)) fits
    (fewer-follows (stand_ins (length s.directories)) s.table (λ r. not (is_over time r)) fits)

pub ticks-fit : (s : Served) (time : ℕ) (p : List ℕ) (who : Who) (tag : Tag) (end : ℕ) → IsServed s → time < end → HasFit s p who tag end
    → HasFit (ticks s time) p who tag end
unfolding with_rows
ticks-fit s time p who tag end fits later h = record {
  number = h.number;
  numbered = h.numbered;
  fitting = record {
    row = h.fitting.row;
    stands = stays-on (stand_ins (length s.directories)) s.table time h.number who.host h.fitting.row fits h.fitting.stands
        (let ends = h.fitting.fits.ends in omega arith);
    fits = h.fitting.fits;
  };
}
