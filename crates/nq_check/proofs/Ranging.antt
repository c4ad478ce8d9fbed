-- Entries whose ranges are apart cover no write twice.
use Rattle.std.proofs.Common.{◌≡◌, ◌<◌, ◌≤◌, ℕ, ◌+◌, ◌-◌, List, [], ◌∷◌, length, Some, true, false, inl, inr, refl, sym, ◌∙◌, ap}
use Rattle.std.proofs.Common.{subst, arith}
use Rattle.std.specs.Prelude.{◌&&◌, nat_eq, nat_lt}
use Rattle.std.specs.List.{slice_get}
use Rattle.std.proofs.lemmas.Bool.{and_from, and_parts, cases_lt, eqb-true, ltb-true, or_cases}
use Rattle.std.proofs.lemmas.Option.{slice_get_within}
use Rattle.nq_base.specs.declared.Entry.{Entry}
use Rattle.nq_base.specs.declared.Entry.TheVariants.{W, S, L}
use Rattle.nq_base.specs.declared.Who.{Who}
use Rattle.nq_model.specs.laws.FateTest.{is_accounted_at, is_first_to_cover}
use Rattle.nq_model.specs.laws.Journal.{Covers, Each, Exists}
use Rattle.nq_model.specs.laws.JournalTest.{covers, each, exists}
use Rattle.nq_check.specs.Apart.{AreApart, FollowsAt, IsBelow, IsRanked, IsRankedBelow, Range, is_below, range_of}
use Rattle.nq_check.specs.Covered.{covers_some}
use Rattle.nq_check.proofs.Once.{each_of, first_again}
use Rattle.nq_rules.specs.Marks.{Spot, mark_at, spot}

pub same_some : {X : Type 0} (x y : X) → Some x ≡ Some y → x ≡ y
same_some x y e = cc

-- ---- ranges that are apart

-- one that is below a range is below each one above that, too
below_more : (a b c : Range) → b.0.1 ≤ b.1.0 → IsBelow a b → IsBelow b c → IsBelow a c
below_more a b c within x y =
    elim x [
      | inl l ↦
          elim y [
            | inl m ↦ inl (omega arith)
            | inr m ↦ let same = m.0 in inl (omega arith)
          ]
      | inr l ↦
          let same_low = l.0 in
          let low = l.1 in
          elim y [
            | inl m ↦ inl (omega arith)
            | inr m ↦
                let same_high = m.0 in
                let high = m.1 in
                inr (omega arith, omega arith)
          ]
    ]

pub below_is : (low high : Range) → is_below low high ≡ true → IsBelow low high
below_is low high h =
    elim (or_cases (nat_lt low.0.0 high.0.0) (nat_eq low.0.0 high.0.0 && nat_lt low.1.0 high.0.1) h) [
      | inl l ↦ inl (ltb-true low.0.0 high.0.0 l)
      | inr r ↦
          let p = and_parts (nat_eq low.0.0 high.0.0) (nat_lt low.1.0 high.0.1) r in
          inr (eqb-true low.0.0 high.0.0 p.0, ltb-true low.1.0 high.0.1 p.1)
    ]

pub apart_first : (ranges : List Range) (upto : ℕ) → upto ≤ 1 → AreApart ranges upto
apart_first ranges upto few i j low high a b at_i at_j = absurd (omega arith)

-- the next range is above the one before it, and so above all
pub apart_next : (ranges : List Range) (next : ℕ) → 0 < next → FollowsAt ranges (next - 1) next → AreApart ranges next → AreApart ranges (next + 1)
apart_next ranges next up f apart i j x y a b at_i at_j =
    elim (cases_lt j next) [
      | inl l ↦ apart i j x y a l at_i at_j
      | inr least ↦
          let same : j ≡ next = omega arith in
          let at_next : slice_get ranges next ≡ Some y = subst (λ n. slice_get ranges n ≡ Some y) same at_j in
          let is_high : f.high ≡ y = same_some f.high y (sym f.at_high ∙ at_next) in
          let above : IsBelow f.low y = subst (λ (r : Range). IsBelow f.low r) is_high f.below in
          elim (cases_lt i (next - 1)) [
            | inl m ↦ below_more x f.low y f.upright (apart i (next - 1) x f.low m (omega arith) at_i f.at_low) above
            | inr m ↦
                let here : i ≡ next - 1 = omega arith in
                let at_before : slice_get ranges (next - 1) ≡ Some x = subst (λ n. slice_get ranges n ≡ Some x) here at_i in
                subst (λ (r : Range). IsBelow r y) (same_some f.low x (sym f.at_low ∙ at_before)) above
          ]
    ]

pub apart_all : (ranges : List Range) (upto : ℕ) → length ranges ≤ upto → AreApart ranges upto → AreApart ranges (length ranges)
apart_all ranges upto all apart i j low high a b at_i at_j = apart i j low high a (omega arith) at_i at_j

-- ---- entries that cover one write

-- the range of an entry that covers a write with this number
record IsOver (marks : List (Spot × ℕ)) (by : Who) (f b n place : ℕ) (entry : Entry) : Type 0 where
  range : Range
  told : range_of marks place entry ≡ Some range
  block : range.0.0 ≡ mark_at marks (spot by f b)
  low : range.0.1 ≤ n
  high : n ≤ range.1.0
  here : range.1.1 ≡ place

at_spot : (marks : List (Spot × ℕ)) (by who : Who) (f file b block : ℕ) → by ≡ who → f ≡ file → b ≡ block
    → mark_at marks (spot who file block) ≡ mark_at marks (spot by f b)
at_spot marks by who f file b block w x y =
    subst (λ (z : Who). mark_at marks (spot z file block) ≡ mark_at marks (spot by f b)) w
    (subst (λ z. mark_at marks (spot by z block) ≡ mark_at marks (spot by f b)) x
    (subst (λ z. mark_at marks (spot by f z) ≡ mark_at marks (spot by f b)) y refl))

over : (marks : List (Spot × ℕ)) (by : Who) (f b n v place : ℕ) (entry : Entry) → Covers entry (W by f b n v false) → IsOver marks by f b n place entry
over marks by f b n v place (S who file block first last now) c = record {
  range = ((mark_at marks (spot who file block), first), (last, place));
  told = refl;
  block = at_spot marks by who f file b block c.0 c.1 c.2;
  low = c.3;
  high = c.4;
  here = refl;
}
over marks by f b n v place (L who file block first last) c = record {
  range = ((mark_at marks (spot who file block), first), (last, place));
  told = refl;
  block = at_spot marks by who f file b block c.0 c.1 c.2;
  low = c.3;
  high = c.4;
  here = refl;
}
over marks by f b n v place other c = absurd c

not_below : (x y : Range) (block n : ℕ) → x.0.0 ≡ block → y.0.0 ≡ block → n ≤ x.1.0 → y.0.1 ≤ n → IsBelow x y → ⊥
not_below x y block n at_x at_y high low below =
    elim below [
      | inl l ↦ omega arith
      | inr l ↦ let ends = l.1 in omega arith
    ]

clash : (ranges : List Range) (marks : List (Spot × ℕ)) (by : Who) (f b n v p q : ℕ) (x y : Entry) → AreApart ranges (length ranges)
    → IsRanked ranges marks p x → IsRanked ranges marks q y → q < p → Covers x (W by f b n v false) → Covers y (W by f b n v false) → ⊥
clash ranges marks by f b n v p q x y apart ranked_x ranked_y before covers_x covers_y =
    let over_x = over marks by f b n v p x covers_x in
    let over_y = over marks by f b n v q y covers_y in
    let r = over_x.range in
    let s = over_y.range in
    let has_x = ranked_x r over_x.told in
    let has_y = ranked_y s over_y.told in
    let i = has_x.rank in
    let j = has_y.rank in
    let block = mark_at marks (spot by f b) in
    let within_x : i < length ranges = slice_get_within ranges i r has_x.there in
    let within_y : j < length ranges = slice_get_within ranges j s has_y.there in
    elim (cases_lt i j) [
      | inl l ↦ not_below r s block n over_x.block over_y.block over_x.high over_y.low (apart i j r s l within_y has_x.there has_y.there)
      | inr g ↦
          elim (cases_lt j i) [
            | inl l ↦ not_below s r block n over_y.block over_x.block over_y.high over_x.low (apart j i s r l within_x has_y.there has_x.there)
            | inr h ↦
                let same : j ≡ i = omega arith in
                let there : slice_get ranges i ≡ Some s = subst (λ n. slice_get ranges n ≡ Some s) same has_y.there in
                let one : r ≡ s = same_some r s (sym has_x.there ∙ there) in
                let places : p ≡ q = sym over_x.here ∙ ap (λ (t : Range). t.1.1) one ∙ over_y.here in
                omega arith
          ]
    ]

none_again : (ranges : List Range) (marks : List (Spot × ℕ)) (place : ℕ) (entry : Entry) (by : Who) (f b n v : ℕ) (before : List Entry)
    → AreApart ranges (length ranges) → IsRanked ranges marks place entry → Each (IsRankedBelow ranges marks place) before
    → Covers entry (W by f b n v false) → Exists (λ other. Covers other (W by f b n v false)) before → ⊥
none_again ranges marks place entry by f b n v [] apart ranked each c e = absurd e
none_again ranges marks place entry by f b n v (other ∷ before) apart ranked each c e =
    elim e [
      | inl h ↦ clash ranges marks by f b n v place each.0.place entry other apart ranked each.0.ranked each.0.below c h
      | inr h ↦ none_again ranges marks place entry by f b n v before apart ranked each.1 c h
    ]

pub none_twice : (ranges : List Range) (marks : List (Spot × ℕ)) (place : ℕ) (entry : Entry) (before : List Entry) → AreApart ranges (length ranges)
    → IsRanked ranges marks place entry → Each (IsRankedBelow ranges marks place) before → (write : Entry) → Covers entry write
    → Exists (λ other. Covers other write) before → ⊥
none_twice ranges marks place entry before apart ranked each (W by f b n v false) c e =
    none_again ranges marks place entry by f b n v before apart ranked each c e
none_twice ranges marks place (S who file block first last now) before apart ranked each other c e = absurd c
none_twice ranges marks place (L who file block first last) before apart ranked each other c e = absurd c
none_twice ranges marks place x before apart ranked each other c e = absurd c

-- ---- one more entry

still_below : (ranges : List Range) (marks : List (Spot × ℕ)) (place : ℕ) (before : List Entry) → Each (IsRankedBelow ranges marks place) before
    → Each (IsRankedBelow ranges marks (place + 1)) before
still_below ranges marks place [] h = tt
still_below ranges marks place (entry ∷ before) h =
    let first = h.0 in
    let low = first.below in (
      record { place = first.place; below = omega arith; ranked = first.ranked },
      still_below ranges marks place before h.1,
    )

pub ranked_more : (ranges : List Range) (marks : List (Spot × ℕ)) (place : ℕ) (entry : Entry) (before : List Entry) → IsRanked ranges marks place entry
    → Each (IsRankedBelow ranges marks place) before → Each (IsRankedBelow ranges marks (place + 1)) (entry ∷ before)
ranked_more ranges marks place entry before ranked h = (
  record { place = place; below = omega arith; ranked = ranked },
  still_below ranges marks place before h,
)

pub accounts_apart : (whole : List Entry) (entry : Entry) (before : List Entry)
    → ((write : Entry) → Covers entry write → Exists (λ other. Covers other write) before → ⊥) → covers_some whole entry ≡ true
    → is_accounted_at whole entry before ≡ true
accounts_apart whole (S who file block first last now) before none some =
    each_of (is_first_to_cover before (S who file block first last now)) (first_again (S who file block first last now) before none) whole
accounts_apart whole (L who file block first last) before none some =
    and_from (each (is_first_to_cover before (L who file block first last)) whole) (exists (covers (L who file block first last)) whole)
    (each_of (is_first_to_cover before (L who file block first last)) (first_again (L who file block first last) before none) whole)
    some
accounts_apart whole other before none some = refl
