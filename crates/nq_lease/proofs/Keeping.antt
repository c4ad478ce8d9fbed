-- Changes of rows with their ends.
use Rattle.std.proofs.Common.{◌≡◌, ◌≤◌, ◌<◌, ◌==◌, ℕ, ◌+◌, Bool, true, List, [], Some, None, if◌then◌else◌, get_or, set, take, length, refl, sym}
use Rattle.std.proofs.Common.{subst, ap, ◌∙◌, arith}
use Rattle.std.specs.List.{count_by, prefix_len, insert, remove, filter}
use Rattle.std.specs.Prelude.{not}
use Rattle.std.proofs.lemmas.Bool.Decides.{nat_tests}
use Rattle.std.proofs.lemmas.List.{length-set}
use Rattle.std.proofs.lemmas.List.Elements.{All-nil}
use Rattle.std.proofs.lemmas.List.Sorted.{IsNonDecreasingBy-short}
use Rattle.std.proofs.lemmas.List.Sums.{sum_by-set, sum_by-insert, sum_by-remove, sum_by_more, prefix_len-le-length}
use Rattle.std.proofs.lemmas.List.Filters.{length-filter_both}
use Rattle.std.proofs.lemmas.List.Edits.{length-insert, length-remove}
use Rattle.std.proofs.lemmas.Option.{slice_get_within, get_or_from_slice_get}
use Rattle.nq_base.specs.declared.Row.{Row}
use Rattle.nq_model.specs.protocol.Profile.{most_rows}
use Rattle.nq_model.specs.protocol.Table.{is_row_of, find_row, drop_row}
use Rattle.nq_lease.specs.Rows.{AreInOrder, is_before}
use Rattle.nq_lease.specs.Ends.{end_of}
use Rattle.nq_lease.specs.declared.ends.End.{End}
use Rattle.nq_lease.specs.Kept.{AreEnds, AreEndsOf, IsKept, rows_ending, rows_ending_at}
use Rattle.nq_lease.proofs.Splits.{get-split, filter-split}
use Rattle.nq_lease.proofs.Order.{split-at, put-old, put-new, put-in-order, filter-in-order}

-- one, where a row ends at this time
abbrev pub one_at : (time : ℕ) → Row → ℕ
one_at time row = if end_of row == time then 1 else 0

-- a row that is found stands at its place
pub record StandsAt (rows : List Row) (place : ℕ) (row : Row) : Type 0 where
  pub within : place < length rows
  pub here : get_or rows place row ≡ row

pub stands : (file host : ℕ) (rows : List Row) (row : Row) (place : ℕ) → AreInOrder rows → find_row file host rows ≡ Some row
    → place ≡ prefix_len (is_before file host) rows → StandsAt rows place row
stands file host rows row place ordered found is =
    let at = get-split (is_before file host) (is_row_of file host) rows row (split-at file host rows ordered) found in
    rw is (record { within = slice_get_within rows _ row at; here = get_or_from_slice_get rows _ row row at })

own-end : (row : Row) → one_at (end_of row) row ≡ 1
own-end row = let same : (end_of row == end_of row) ≡ true = grind (arith, nat_tests) in rw same refl

-- the end of a row that stands there is among the ends
pub end-there : (rows : List Row) (ends : List End) (place : ℕ) (row : Row) → StandsAt rows place row → AreEndsOf rows ends
    → 1 ≤ rows_ending_at (end_of row) ends
end-there rows ends place row at are =
    let counted = subst (λ r. count_by (λ x. end_of x == end_of row) (remove rows place) + one_at (end_of row) r
    ≡ count_by (λ x. end_of x == end_of row) rows) at.here (sum_by-remove (one_at (end_of row)) rows place row at.within) in
    let same = are.same (end_of row) in
    let own = own-end row in
    omega arith

-- ---- a row in place of another

pub ends-replaced : (rows : List Row) (place : ℕ) (old row : Row) (ends less more : List End) → StandsAt rows place old → AreEndsOf rows ends
    → ((time : ℕ) → rows_ending_at time less + one_at time old ≡ rows_ending_at time ends) → ((time : ℕ) → rows_ending_at time more ≡ rows_ending_at
    time less + one_at time row) → AreEnds more → AreEndsOf (set rows place row) more
ends-replaced rows place old row ends less more at are taken added good = record {
  well = good;
  same = λ time.
      let counted = subst (λ r. count_by (λ x. end_of x == time) (set rows place row) + one_at time r ≡ count_by (λ x. end_of x == time) rows
      + one_at time row) at.here (sum_by-set (one_at time) rows place row old at.within) in
      let same = are.same time in
      let a = taken time in
      let b = added time in
      omega arith;
}

-- ---- a row more

pub ends-added : (rows : List Row) (place : ℕ) (row : Row) (ends more : List End) → AreEndsOf rows ends → ((time : ℕ) → rows_ending_at time more
    ≡ rows_ending_at time ends + one_at time row) → AreEnds more → AreEndsOf (insert rows place row) more
ends-added rows place row ends more are added good = record {
  well = good;
  same = λ time.
      let counted = sum_by-insert (one_at time) rows place row in
      let same = are.same time in
      let b = added time in
      omega arith;
}

-- ---- a row less

pub ends-taken : (rows : List Row) (place : ℕ) (old : Row) (ends less : List End) → StandsAt rows place old → AreEndsOf rows ends
    → ((time : ℕ) → rows_ending_at time less + one_at time old ≡ rows_ending_at time ends) → AreEnds less → AreEndsOf (remove rows place) less
ends-taken rows place old ends less at are taken good = record {
  well = good;
  same = λ time.
      let counted = subst (λ r. count_by (λ x. end_of x == time) (remove rows place) + one_at time r ≡ count_by (λ x. end_of x == time) rows) at.here
      (sum_by-remove (one_at time) rows place old at.within) in
      let same = are.same time in
      let a = taken time in
      omega arith;
}

-- ---- rows one after another

pub ends-begin : (ends : List End) → ends ≡ [] → AreEndsOf [] ends
ends-begin ends none = rw none (record {
  well = record { rise = IsNonDecreasingBy-short (λ e. e.time) [] (omega arith); some = All-nil (λ e. 1 ≤ e.rows) };
  same = λ time. refl;
})

pub ends-more : (rows : List Row) (i : ℕ) (row : Row) (ends more : List End) → i < length rows → row ≡ get_or rows i row → AreEndsOf (take i rows)
    ends → ((time : ℕ) → rows_ending_at time more ≡ rows_ending_at time ends + one_at time row) → AreEnds more → AreEndsOf (take (i + 1) rows) more
ends-more rows i row ends more lt is are added good = record {
  well = good;
  same = λ time.
      let counted = subst (λ r. count_by (λ x. end_of x == time) (take (i + 1) rows) ≡ count_by (λ x. end_of x == time) (take i rows) + one_at time r)
      (sym is) (sum_by_more (one_at time) rows i row lt) in
      let same = are.same time in
      let b = added time in
      omega arith;
}

-- ---- all of it

pub kept-replaced : (rows : List Row) (room : ℕ) (ends : List End) (ends_room : ℕ) (place : ℕ) (old row : Row) (less more : List End)
    (room' ends_room' : ℕ) → IsKept rows room ends ends_room → find_row row.file row.who.host rows ≡ Some old
    → place ≡ prefix_len (is_before row.file row.who.host) rows → ((time : ℕ) → rows_ending_at time less + one_at time old ≡ rows_ending_at time ends)
    → ((time : ℕ) → rows_ending_at time more ≡ rows_ending_at time less + one_at time row) → AreEnds more → rows_ending more ≡ rows_ending ends
    → room ≤ room' → ends_room ≤ ends_room' → IsKept (set rows place row) room' more ends_room'
kept-replaced rows room ends ends_room place old row less more room' ends_room' kept found is taken added good as_many bound ends_bound = record {
  ordered = subst AreInOrder (put-old row rows old kept.ordered found ∙ ap (λ p. set rows p row) (sym is)) (put-in-order row rows kept.ordered);
  few = let few = kept.few in omega (arith, length-set rows place row);
  has_room = let h = kept.has_room in omega arith;
  are_ends = ends-replaced rows place old row ends less more (stands row.file row.who.host rows old place kept.ordered found is) kept.are_ends taken
      added good;
  as_many = let h = kept.as_many in omega (arith, length-set rows place row);
  has_room_of_ends = let h = kept.has_room_of_ends in omega arith;
}

pub kept-added : (rows : List Row) (room : ℕ) (ends : List End) (ends_room : ℕ) (place : ℕ) (row : Row) (more : List End) (room' ends_room' : ℕ)
    → IsKept rows room ends ends_room → find_row row.file row.who.host rows ≡ None → length rows < most_rows
    → place ≡ prefix_len (is_before row.file row.who.host) rows → ((time : ℕ) → rows_ending_at time more ≡ rows_ending_at time ends + one_at time row)
    → AreEnds more → rows_ending more ≡ rows_ending ends + 1 → room ≤ room' → ends_room ≤ ends_room' → IsKept (insert rows place row) room' more ends_room'
kept-added rows room ends ends_room place row more room' ends_room' kept none few is added good as_many bound ends_bound =
    let within = prefix_len-le-length (is_before row.file row.who.host) rows in
    let inside : place ≤ length rows = omega arith in
    record {
      ordered = subst AreInOrder (put-new row rows kept.ordered none ∙ ap (λ p. insert rows p row) (sym is)) (put-in-order row rows kept.ordered);
      few = omega (arith, length-insert rows place row inside);
      has_room = let h = kept.has_room in omega arith;
      are_ends = ends-added rows place row ends more kept.are_ends added good;
      as_many = let h = kept.as_many in omega (arith, length-insert rows place row inside);
      has_room_of_ends = let h = kept.has_room_of_ends in omega arith;
    }

-- the rows without one
pub drop-is-remove : (file host : ℕ) (rows : List Row) (old : Row) (place : ℕ) → AreInOrder rows → find_row file host rows ≡ Some old
    → place ≡ prefix_len (is_before file host) rows → drop_row file host rows ≡ remove rows place
drop-is-remove file host rows old place ordered found is =
    filter-split (is_before file host) (is_row_of file host) rows old (split-at file host rows ordered) found ∙ ap (remove rows) (sym is)

pub kept-taken : (file host : ℕ) (rows : List Row) (room : ℕ) (ends : List End) (ends_room : ℕ) (place : ℕ) (old : Row) (less : List End)
    (room' ends_room' : ℕ) → IsKept rows room ends ends_room → find_row file host rows ≡ Some old → place ≡ prefix_len (is_before file host) rows
    → ((time : ℕ) → rows_ending_at time less + one_at time old ≡ rows_ending_at time ends) → AreEnds less → rows_ending less + 1 ≡ rows_ending ends
    → room ≤ room' → ends_room ≤ ends_room' → IsKept (remove rows place) room' less ends_room'
kept-taken file host rows room ends ends_room place old less room' ends_room' kept found is taken good as_many bound ends_bound =
    let at = stands file host rows old place kept.ordered found is in
    let within = at.within in
    record {
      ordered = subst AreInOrder (drop-is-remove file host rows old place kept.ordered found is) (filter-in-order (λ r. not (is_row_of file host r))
          rows kept.ordered);
      few = let few = kept.few in omega (arith, length-remove rows place within);
      has_room = let h = kept.has_room in omega arith;
      are_ends = ends-taken rows place old ends less at kept.are_ends taken good;
      as_many = let h = kept.as_many in omega (arith, length-remove rows place within);
      has_room_of_ends = let h = kept.has_room_of_ends in omega arith;
    }

length-filter-le : {X : Type 0} (p : X → Bool) (xs : List X) → length (filter p xs) ≤ length xs
length-filter-le p xs = omega (arith, length-filter_both p (λ x. not (p x)) (λ x. refl) xs)

pub kept-filtered : (test : Row → Bool) (rows : List Row) (room : ℕ) (ends : List End) (ends_room : ℕ) (fewer : List Row) (less : List End)
    (room' ends_room' : ℕ) → IsKept rows room ends ends_room → fewer ≡ filter test rows → AreEndsOf fewer less → rows_ending less ≡ length fewer
    → room ≤ room' → ends_room ≤ ends_room' → IsKept fewer room' less ends_room'
kept-filtered test rows room ends ends_room fewer less room' ends_room' kept same are as_many bound ends_bound = record {
  ordered = rw same (filter-in-order test rows kept.ordered);
  few = let few = kept.few in let le = length-filter-le test rows in let long = ap length same in omega arith;
  has_room = let h = kept.has_room in omega arith;
  are_ends = are;
  as_many = as_many;
  has_room_of_ends = let h = kept.has_room_of_ends in omega arith;
}
