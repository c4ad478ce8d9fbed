-- What the ask table makes of the rows that hosts wait for: a host comes to share the file that it wants, or nothing rises.
use Rattle.std.proofs.Common.{◌≡◌, ◌≢◌, ◌≤◌, ◌<◌, ◌⊎◌, ℕ, Bool, true, false, not, List, Option, Some, None, refl, sym, ap, subst, ◌∙◌, arith, inl, inr}
use Rattle.std.specs.List.{list_any}
use Rattle.std.specs.Option.{option_map}
use Rattle.nq_base.specs.declared.Access.{Access}
use Rattle.nq_base.specs.declared.Question.{Question}
use Rattle.nq_base.specs.declared.Request.{Request}
use Rattle.nq_base.specs.declared.Row.{Row}
use Rattle.nq_base.specs.declared.Tag.{Tag}
use Rattle.nq_base.specs.declared.Want.{Want}
use Rattle.nq_base.specs.declared.Who.{Who}
use Rattle.nq_model.specs.protocol.Ask.{Reply, ask, shares, marked, sharing_row, caching_row, shared_again, renewed_row, put_off_by_own, granted, no_lease}
use Rattle.nq_model.specs.protocol.Ask.{free}
use Rattle.nq_model.specs.protocol.Table.{Table, caches, find_row, is_row_of, put_row, with_rows, after_draw}
use Rattle.walk_steps.proofs.ClientMoves.{some-same, none-some}
use Rattle.walk_steps.proofs.AskCases.{IsGranted, shares_again, begins_sharing, begins_caching, renews_row, own_in, clash_in, has_room, asks}
use Rattle.walk_steps.proofs.Modes.{greater-caches}
use Rattle.walk_steps.proofs.RowChanges.{mark, find-marked}
use Rattle.walk_steps.proofs.Rows.{found-row, find-none}
use Rattle.law_rounds.proofs.Asked.{is_taken}
use Rattle.law_rounds.proofs.Energy.{energy, wish, is_sharing, shares_file, KeepSharing, tame-energy, share-begins}
use Rattle.law_rounds.proofs.GoodRows.{taken-marked}
use Rattle.law_rounds.proofs.RowSteps.{at-key, keep-place, put-others, put-there, tame-put, tame-begun, keep-marked, tame-marked}
use Rattle.law_rounds.proofs.SharedRows.{none-any, shares-it}

-- a row that is to go, and that a VACATED would take, would still be taken
abbrev pub StillTaken : (before after : List Row) → Type 0
StillTaken before after =
    (file host : ℕ) (who : Who) (tag : Tag) (row : Row) → find_row file host before ≡ Some row → row.evicting ≡ true → is_taken who tag (Some row)
    ≡ true → is_taken who tag (find_row file host after) ≡ true

-- energy falls, or does not rise, and the rows that are to go are there as before
pub data Outcome (hosts : ℕ) (wants : ℕ → Option Request) (before after : List Row) : Type 0 where
  falls : energy hosts wants after < energy hosts wants before → Outcome hosts wants before after
  goes_on : energy hosts wants after ≤ energy hosts wants before → StillTaken before after → Outcome hosts wants before after

still-self : (rows : List Row) → StillTaken rows rows
still-self rows file host who tag row found going taken = ap (is_taken who tag) found ∙ taken

still-marked : (f by : ℕ) (access : Access) (rows : List Row) → StillTaken rows (marked f by access rows)
still-marked f by access rows file host who tag row found going taken =
    ap (is_taken who tag) (find-marked file host f by access rows ∙ ap (option_map (mark f by access)) found) ∙ taken-marked who tag f by access row ∙ taken

-- the row that is put replaces none that is to go
still-put : (rows : List Row) (new : Row) → ((row : Row) → find_row new.file new.who.host rows ≡ Some row → row.evicting ≡ true → ⊥)
    → StillTaken rows (put_row new rows)
still-put rows new none file host who tag row found going taken = by (at-key new.file new.who.host file host)
  where
    by : ((file ≡ new.file) × (host ≡ new.who.host)) ⊎ (file ≡ new.file → host ≢ new.who.host)
        → is_taken who tag (find_row file host (put_row new rows)) ≡ true
    by (inl k) = absurd (none row (subst (λ h. find_row new.file h rows ≡ Some row) k.1 (subst (λ f. find_row f host rows ≡ Some row) k.0 found)) going)
    by (inr other) = ap (is_taken who tag) (put-others rows new file host other ∙ found) ∙ taken

pub outcome-self : (hosts : ℕ) (wants : ℕ → Option Request) (rows : List Row) → Outcome hosts wants rows rows
outcome-self hosts wants rows = goes_on (omega arith) (still-self rows)

-- ---- a file that nobody else shares

nobody-shares : (rows : List Row) (file by : ℕ) → list_any (shares file by) rows ≡ false → (host : ℕ) → host ≢ by → shares_file rows file host ≡ false
nobody-shares rows file by unshared host other = look (find_row file host rows) refl
  where
    kind : (row : Row) → find_row file host rows ≡ Some row → (b : Bool) → caches row.mode ≡ b → not (caches row.mode) ≡ false
    kind row found true e = ap not e
    kind row found false e =
        let k = found-row file host rows row found in
        let no : shares file by row ≡ false = find-none (shares file by) (is_row_of file host) row rows (none-any (shares file by) rows unshared) found in
        let sure = shares-it file host by row k.0 k.1 other e in
        let bad : true ≡ false = sym sure ∙ no in
        absurd (cc)

    look : (o : Option Row) → find_row file host rows ≡ o → shares_file rows file host ≡ false
    look None e = ap is_sharing e
    look (Some row) e = ap is_sharing e ∙ kind row e (caches row.mode) refl

-- ---- the ask table

module _ (hosts : ℕ) (wants : ℕ → Option Request) (table : Table) (q : Question) (want : Want) (asked : q.want ≡ Some want) (below : q.who.host
    < hosts) (wishes : wish (wants q.who.host) ≡ Some q.file) where
  -- the asker's row caches, and no row of another conflicts; or it shares the file
  pub data OwnRow (own : Row) : Type 0 where
    caching : caches own.mode ≡ true → clash_in table q ≡ None → OwnRow own
    sharing : caches own.mode ≡ false → OwnRow own

  abbrev Out : Reply → Type 0
  Out a = Outcome hosts wants table.rows a.table.rows

  marks-out : (own : Row) (clash : Row) → own_in table q ≡ Some own → clash_in table q ≡ Some clash → OwnRow own → Outcome hosts wants table.rows
      (marked q.file q.who.host q.access table.rows)
  marks-out own clash has c (caching k none) = absurd (none-some clash (sym none ∙ c))
  marks-out own clash has c (sharing k) =
      let shares_now : shares_file table.rows q.file q.who.host ≡ true = ap is_sharing has ∙ ap not k in
      goes_on (tame-energy hosts wants table.rows _ (tame-marked hosts q.file q.who.host q.access table.rows q.who.host below shares_now))
      (still-marked q.file q.who.host q.access table.rows)

  put-like : (own row : Row) → own_in table q ≡ Some own → row.file ≡ q.file → row.who.host ≡ q.who.host → own.evicting ≡ false → row.evicting
      ≡ own.evicting → caches row.mode ≡ caches own.mode → Outcome hosts wants table.rows (put_row row table.rows)
  put-like own row has file host quiet same kind =
      let there : find_row row.file row.who.host table.rows ≡ Some own = subst (λ f. find_row f row.who.host table.rows ≡ Some own) (sym file)
      (subst (λ h. find_row q.file h table.rows ≡ Some own) (sym host) has) in
      goes_on (tame-energy hosts wants table.rows _ (tame-put hosts table.rows row own there kind same)) (still-put table.rows row (λ r found going.
      let one = some-same own r (sym there ∙ found) in let stays : r.evicting ≡ false = ap (λ (x : Row). x.evicting) (sym one) ∙ quiet in
      let bad : true ≡ false = sym going ∙ stays in cc))

  grants-own : (own : Row) → own_in table q ≡ Some own → (v : Want) (row : Row) (term : ℕ) → IsGranted table q v row term
      → Outcome hosts wants table.rows (put_row row table.rows)
  unfolding shared_again renewed_row
  grants-own own has v row term (shares_again o there quiet alone is t) =
      let k = found-row q.file q.who.host table.rows o there in
      put-like o row there (ap (λ (x : Row). x.file) is ∙ k.0) (ap (λ (x : Row). x.who.host) is ∙ k.1) quiet (ap (λ (x : Row). x.evicting) is)
      (ap (λ (x : Row). caches x.mode) is)
  grants-own own has v row term (begins_sharing none room some is t) = absurd (none-some own (sym none ∙ has))
  grants-own own has v row term (begins_caching none room unshared is t) = absurd (none-some own (sym none ∙ has))
  grants-own own has v row term (renews_row o there quiet kind is t) =
      let k = found-row q.file q.who.host table.rows o there in
      put-like o row there (ap (λ (x : Row). x.file) is ∙ k.0) (ap (λ (x : Row). x.who.host) is ∙ k.1) quiet (ap (λ (x : Row). x.evicting) is)
      (ap (λ (x : Row). caches x.mode) is ∙ greater-caches o.mode v.mode kind ∙ sym kind)

  pub own-asks : (own : Row) → own_in table q ≡ Some own → OwnRow own → Outcome hosts wants table.rows (ask table q).table.rows
  unfolding granted put_off_by_own no_lease free with_rows after_draw
  own-asks own has kind = asks table q Out (record {
    later = λ clash c. marks-out own clash has c kind;
    later_waiting = λ clash v c w none room. absurd (none-some own (sym none ∙ has));
    freely = λ c w. outcome-self hosts wants table.rows;
    later_by_own = λ v o c w h e. outcome-self hosts wants table.rows;
    granting = λ v row term c w g. grants-own own has v row term g;
    full = λ v c w none room. outcome-self hosts wants table.rows;
  })

  -- the asker has no row yet, and comes to share the file
  comes-to-share : (rows : List Row) (row : Row) → own_in table q ≡ None → KeepSharing table.rows rows → row.file ≡ q.file → row.who.host ≡ q.who.host
      → caches row.mode ≡ false → shares_file rows q.file q.who.host ≡ false → Outcome hosts wants table.rows (put_row row rows)
  comes-to-share rows row none keeps file host kind before =
      let there : shares_file (put_row row rows) q.file q.who.host ≡ true = ap is_sharing (put-there rows row q.file q.who.host file host) ∙ ap not kind in
      let was : shares_file table.rows q.file q.who.host ≡ false = ap is_sharing none in
      falls (share-begins hosts wants table.rows (put_row row rows) (λ f h e. keep-place hosts rows (put_row row rows) row.file row.who.host
      (put-others rows row) (inr (ap is_sharing (put-there rows row row.file row.who.host refl refl) ∙ ap not kind)) f h (keeps f h e)) q.file
      q.who.host below wishes was there)

  grants-new : own_in table q ≡ None → (v : Want) (row : Row) (term : ℕ) → IsGranted table q v row term → Outcome hosts wants table.rows
      (put_row row table.rows)
  unfolding sharing_row caching_row
  grants-new none v row term (shares_again o there quiet alone is t) = absurd (none-some o (sym none ∙ there))
  grants-new none v row term (renews_row o there quiet kind is t) = absurd (none-some o (sym none ∙ there))
  grants-new none v row term (begins_sharing n room some is t) = comes-to-share table.rows row none (λ f h e. e) (ap (λ (x : Row). x.file) is)
      (ap (λ (x : Row). x.who.host) is) (ap (λ (x : Row). caches x.mode) is) (ap is_sharing none)
  grants-new none v row term (begins_caching n room unshared is t) = by (caches row.mode) refl
    where
      file : row.file ≡ q.file
      file = ap (λ (x : Row). x.file) is

      host : row.who.host ≡ q.who.host
      host = ap (λ (x : Row). x.who.host) is

      free : find_row row.file row.who.host table.rows ≡ None
      free = subst (λ f. find_row f row.who.host table.rows ≡ None) (sym file) (subst (λ h. find_row q.file h table.rows ≡ None) (sym host) none)

      by : (b : Bool) → caches row.mode ≡ b → Outcome hosts wants table.rows (put_row row table.rows)
      by false e = comes-to-share table.rows row none (λ f h x. x) file host e (ap is_sharing none)
      by true e =
          goes_on (tame-energy hosts wants table.rows _ (tame-begun hosts table.rows row free e (ap (λ (x : Row). x.evicting) is)
          (λ h other. subst (λ f. shares_file table.rows f h ≡ false) (sym file) (nobody-shares table.rows q.file q.who.host unshared h
          (λ same. other (same ∙ sym host))))))
          (still-put table.rows row (λ r found going. none-some r (sym free ∙ found)))

  pub new-asks : own_in table q ≡ None → has_room table ≡ true → (row : Row) → find_row q.file q.who.host (ask table q).table.rows ≡ Some row
      → Outcome hosts wants table.rows (ask table q).table.rows
  unfolding granted put_off_by_own no_lease free with_rows after_draw sharing_row
  new-asks none room row there = asks table q (λ a. find_row q.file q.who.host a.table.rows ≡ Some row → Outcome hosts wants table.rows a.table.rows) (record {
    later = λ clash c e. absurd (none-some row (sym (ap (option_map (mark q.file q.who.host q.access)) none)
        ∙ sym (find-marked q.file q.who.host q.file q.who.host q.access table.rows) ∙ e));
    later_waiting = λ clash v c w n r e. comes-to-share (marked q.file q.who.host q.access table.rows) _ none (keep-marked q.file q.who.host q.access
        table.rows) refl refl refl (ap is_sharing (find-marked q.file q.who.host q.file q.who.host q.access table.rows
        ∙ ap (option_map (mark q.file q.who.host q.access)) none));
    freely = λ c w e. outcome-self hosts wants table.rows;
    later_by_own = λ v o c w h ev e. absurd (none-some o (sym none ∙ h));
    granting = λ v new term c w g e. grants-new none v new term g;
    full = λ v c w n r e. let bad : true ≡ false = sym room ∙ r in absurd (cc);
  }) there
