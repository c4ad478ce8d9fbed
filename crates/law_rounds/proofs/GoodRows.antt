-- The row of a host that a VACATED and a request of it may find: it shares the file, or goes by that VACATED, or serves the request.
use Rattle.std.proofs.Common.{◌≡◌, ℕ, Bool, true, false, List, Some, None, refl, sym, ap, subst, ◌∙◌}
use Rattle.std.specs.Option.{option_map}
use Rattle.nq_base.specs.declared.Access.{Access}
use Rattle.nq_base.specs.declared.Mode.{Mode}
use Rattle.nq_base.specs.declared.Question.{Question}
use Rattle.nq_base.specs.declared.Row.{Row}
use Rattle.nq_base.specs.declared.Tag.{Tag}
use Rattle.nq_base.specs.declared.Want.{Want}
use Rattle.nq_base.specs.declared.Who.{Who}
use Rattle.nq_model.specs.protocol.Ask.{ask, marked, sharing_row, caching_row, shared_again, renewed_row, put_off_by_own, granted, no_lease, free}
use Rattle.nq_model.specs.protocol.Table.{Table, caches, is_writing, greater_mode, find_row, put_row, with_rows, after_draw}
use Rattle.walk_steps.proofs.ClientMoves.{some-same, none-some}
use Rattle.walk_steps.proofs.AskCases.{IsGranted, shares_again, begins_sharing, begins_caching, renews_row, own_in, has_room, asks}
use Rattle.walk_steps.proofs.RowChanges.{mark, find-marked, mark-is, find-put-same}
use Rattle.walk_steps.proofs.Rows.{found-row}
use Rattle.law_rounds.proofs.Asked.{is_taken}

pub data IsGood (rows : List Row) (file host : ℕ) (who : Who) (tag : Tag) (writes : Bool) : Type 0 where
  shares : (row : Row) → find_row file host rows ≡ Some row → caches row.mode ≡ false → IsGood rows file host who tag writes
  goes : (row : Row) → find_row file host rows ≡ Some row → is_taken who tag (Some row) ≡ true → IsGood rows file host who tag writes
  serves_it : (row : Row) → find_row file host rows ≡ Some row → (writes ≡ true → is_writing row.mode ≡ true) → IsGood rows file host who tag writes

pub good-same : (before after : List Row) (file host : ℕ) (who : Who) (tag : Tag) (writes : Bool) → find_row file host after ≡ find_row file host
    before → IsGood before file host who tag writes → IsGood after file host who tag writes
good-same before after file host who tag writes same (shares row there kind) = shares row (same ∙ there) kind
good-same before after file host who tag writes same (goes row there taken) = goes row (same ∙ there) taken
good-same before after file host who tag writes same (serves_it row there kind) = serves_it row (same ∙ there) kind

pub taken-marked : (who : Who) (tag : Tag) (f by : ℕ) (access : Access) (row : Row) → is_taken who tag (Some (mark f by access row)) ≡ is_taken who
    tag (Some row)
taken-marked who tag f by access row =
    let m = mark-is f by access row in
    ap (λ (w : Who). is_taken who tag (Some (record row { who = w; tag = (mark f by access row).tag }))) m.who
    ∙ ap (λ (g : Tag). is_taken who tag (Some (record row { tag = g }))) m.tag

pub good-marked : (rows : List Row) (file host : ℕ) (who : Who) (tag : Tag) (writes : Bool) (f by : ℕ) (access : Access) → IsGood rows file host who
    tag writes → IsGood (marked f by access rows) file host who tag writes
good-marked rows file host who tag writes f by access (shares row there kind) =
    shares (mark f by access row) (find-marked file host f by access rows ∙ ap (option_map (mark f by access)) there)
    (ap caches (mark-is f by access row).mode ∙ kind)
good-marked rows file host who tag writes f by access (goes row there taken) =
    goes (mark f by access row) (find-marked file host f by access rows ∙ ap (option_map (mark f by access)) there) (taken-marked who tag f by access
    row ∙ taken)
good-marked rows file host who tag writes f by access (serves_it row there kind) =
    serves_it (mark f by access row) (find-marked file host f by access rows ∙ ap (option_map (mark f by access)) there)
    (λ w. ap is_writing (mark-is f by access row).mode ∙ kind w)

greater-writes : (own wanted : Mode) → is_writing wanted ≡ true → is_writing (greater_mode own wanted) ≡ true
greater-writes Mode.NonCaching wanted w = w
greater-writes Mode.Writing wanted w = refl
greater-writes Mode.Reading wanted w = rw w refl

-- ---- what the asker has after the ask table

module _ (table : Table) (q : Question) (want : Want) (wants : q.want ≡ Some want) (who : Who) (tag : Tag) where
  abbrev Good : Table → Type 0
  Good t = IsGood t.rows q.file q.who.host who tag (is_writing want.mode)

  want-same : (w : Want) → q.want ≡ Some w → w ≡ want
  want-same w is = some-same w want (sym is ∙ wants)

  -- a row of the asker is put
  puts-sharing : (rows : List Row) (row : Row) → row.file ≡ q.file → row.who.host ≡ q.who.host → caches row.mode ≡ false → IsGood (put_row row rows)
      q.file q.who.host who tag (is_writing want.mode)
  puts-sharing rows row file host kind = shares row (subst (λ h. find_row q.file h (put_row row rows) ≡ Some row) host
      (subst (λ f. find_row f row.who.host (put_row row rows) ≡ Some row) file (find-put-same row rows))) kind

  puts-serving : (rows : List Row) (row : Row) → row.file ≡ q.file → row.who.host ≡ q.who.host → (is_writing want.mode ≡ true → is_writing row.mode
      ≡ true) → IsGood (put_row row rows) q.file q.who.host who tag (is_writing want.mode)
  puts-serving rows row file host kind = serves_it row (subst (λ h. find_row q.file h (put_row row rows) ≡ Some row) host
      (subst (λ f. find_row f row.who.host (put_row row rows) ≡ Some row) file (find-put-same row rows))) kind

  grants-good : (v : Want) (row : Row) (term : ℕ) → v ≡ want → IsGranted table q v row term → IsGood (put_row row table.rows) q.file q.who.host who
      tag (is_writing want.mode)
  unfolding shared_again sharing_row caching_row renewed_row
  grants-good v row term same (shares_again own has quiet alone is t) =
      let k = found-row q.file q.who.host table.rows own has in
      puts-sharing table.rows row (ap (λ (x : Row). x.file) is ∙ k.0) (ap (λ (x : Row). x.who.host) is ∙ k.1) (ap (λ (x : Row). caches x.mode) is ∙ alone)
  grants-good v row term same (begins_sharing none room some is t) = puts-sharing table.rows row (ap (λ (x : Row). x.file) is)
      (ap (λ (x : Row). x.who.host) is) (ap (λ (x : Row). caches x.mode) is)
  grants-good v row term same (begins_caching none room unshared is t) = puts-serving table.rows row (ap (λ (x : Row). x.file) is)
      (ap (λ (x : Row). x.who.host) is) (λ w. ap (λ (x : Row). is_writing x.mode) is ∙ ap (λ (x : Want). is_writing x.mode) same ∙ w)
  grants-good v row term same (renews_row own has quiet caching is t) =
      let k = found-row q.file q.who.host table.rows own has in
      puts-serving table.rows row (ap (λ (x : Row). x.file) is ∙ k.0) (ap (λ (x : Row). x.who.host) is ∙ k.1)
      (λ w. ap (λ (x : Row). is_writing x.mode) is ∙ greater-writes own.mode v.mode (ap (λ (x : Want). is_writing x.mode) same ∙ w))

  -- a good row stays one
  pub asker-keeps : (own : Row) → own_in table q ≡ Some own → Good table → Good (ask table q).table
  unfolding granted put_off_by_own no_lease free with_rows after_draw
  asker-keeps own has good = asks table q (λ a. Good a.table) (record {
    later = λ clash c. good-marked table.rows q.file q.who.host who tag (is_writing want.mode) q.file q.who.host q.access good;
    later_waiting = λ clash v c w none room. absurd (none-some own (sym none ∙ has));
    freely = λ c w. good;
    later_by_own = λ v o c w h e. good;
    granting = λ v row term c w g. grants-good v row term (want-same v w) g;
    full = λ v c w none room. good;
  })

  -- who has no row gets one, where there is room
  pub asker-gets : own_in table q ≡ None → has_room table ≡ true → (row : Row) → find_row q.file q.who.host (ask table q).table.rows ≡ Some row
      → Good (ask table q).table
  unfolding granted put_off_by_own no_lease free with_rows after_draw sharing_row
  asker-gets none room row there = asks table q (λ a. find_row q.file q.who.host a.table.rows ≡ Some row → Good a.table) (record {
    later = λ clash c e. absurd (none-some row (sym (ap (option_map (mark q.file q.who.host q.access)) none)
        ∙ sym (find-marked q.file q.who.host q.file q.who.host q.access table.rows) ∙ e));
    later_waiting = λ clash v c w n r e. puts-sharing (marked q.file q.who.host q.access table.rows) _ refl refl refl;
    freely = λ c w e. absurd (none-some want (sym w ∙ wants));
    later_by_own = λ v o c w h ev e. absurd (none-some o (sym none ∙ h));
    granting = λ v new term c w g e. grants-good v new term (want-same v w) g;
    full = λ v c w n r e. let bad : true ≡ false = sym room ∙ r in absurd (cc);
  }) there
