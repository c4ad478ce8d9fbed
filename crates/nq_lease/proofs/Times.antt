-- Ends in order of time with how many rows end then, and the least of a list.
use Rattle.std.proofs.Common.{◌≡◌, ◌≢◌, ◌⊎◌, ℕ, ◌+◌, ◌-◌, ◌≤◌, ◌<◌, Bool, true, false, ◌==◌, List, [], ◌∷◌, Option, Some, None, if◌then◌else◌, suc}
use Rattle.std.proofs.Common.{get_or, set, map, length, min, refl, sym, subst, ap, ◌∙◌, inl, inr, arith}
use Rattle.std.specs.List.{All, count_by, sum_by, remove, insert, slice_get}
use Rattle.std.specs.List.Sorted.{IsNonDecreasingBy}
use Rattle.std.specs.Prelude.{nat_lt}
use Rattle.std.proofs.lemmas.Bool.{cases_eq}
use Rattle.std.proofs.lemmas.Bool.Decides.{nat_tests}
use Rattle.std.proofs.lemmas.List.{get_or_default}
use Rattle.std.proofs.lemmas.List.Elements.{All-head, All-tail}
use Rattle.std.proofs.lemmas.List.Sums.{sum_by-cons, sum_by-set, sum_by-remove}
use Rattle.std.proofs.lemmas.List.Edits.{get_or-insert_below, get_or-insert_at, get_or-insert_above, length-insert}
use Rattle.std.proofs.lemmas.List.Sorted.{IsNonDecreasingBy-insert}
use Rattle.nq_base.specs.declared.Row.{Row}
use Rattle.nq_lease.specs.declared.ends.End.{End}
use Rattle.nq_lease.specs.Ends.{end_of, least, lesser, earliest}
use Rattle.nq_lease.specs.Kept.{AreEnds, AreEndsOf, rows_ending, rows_ending_at}
use Rattle.nq_lease.proofs.Splits.{decided}

-- the time of an end
abbrev pub time_of : End → ℕ
time_of e = e.time

-- how many rows end at an end
abbrev pub rows_of_end : End → ℕ
rows_of_end e = e.rows

-- how many rows end at a time, by one end
abbrev pub rows_then : (time : ℕ) → End → ℕ
rows_then time e = if e.time == time then e.rows else 0

compared : (a b : ℕ) → (a < b) ⊎ (b ≤ a)
compared a b = elim (decided (nat_lt a b)) [
  | inl e ↦ inl (grind (arith, nat_tests))
  | inr e ↦ inr (grind (arith, nat_tests))
]

-- ---- what stands at a place

-- there are no more ends than rows that end
pub few-ends : (ends : List End) → All (λ e. 1 ≤ e.rows) ends → length ends ≤ rows_ending ends
few-ends [] some = omega arith
few-ends (e ∷ ends) some =
    let first = All-head (λ e. 1 ≤ e.rows) e ends some in
    let rest = few-ends ends (All-tail (λ e. 1 ≤ e.rows) e ends some) in
    let more = sum_by-cons rows_of_end e ends in
    omega arith

none-at : (time : ℕ) (ends : List End) (d : End) → ((k : ℕ) → k < length ends → time_of (get_or ends k d) ≢ time) → rows_ending_at time ends ≡ 0
none-at time [] d h = refl
none-at time (e ∷ ends) d h =
    let first : e.time ≢ time = h 0 (omega arith) in
    let rest = none-at time ends d (λ k lt. h (suc k) (omega arith)) in
    let other : (e.time == time) ≡ false = grind (arith, nat_tests) in
    sum_by-cons (rows_then time) e ends ∙ rw (other, rest) refl

apart : (ends : List End) (time place : ℕ) (d : End) → IsNonDecreasingBy time_of ends → ((k : ℕ) → k < place → time_of (get_or ends k d) < time)
    → (place < length ends → time < time_of (get_or ends place d)) → rows_ending_at time ends ≡ 0
apart ends time place d rise before behind =
    none-at time ends d (λ k lt e. elim (compared k place) [
      | inl below ↦ let less = before k below in absurd (omega arith)
      | inr from ↦ let more = behind (omega arith) in let up = rise place k d from lt in absurd (omega arith)
    ])

-- a time that is there stands at the first place that is not below it
pub stands-at : (ends : List End) (time place : ℕ) → IsNonDecreasingBy time_of ends → ((k : ℕ) (d : End) → k < place → time_of (get_or ends k d)
    < time) → ((k : ℕ) (d : End) → place ≤ k → k < length ends → time ≤ time_of (get_or ends k d)) → 1 ≤ rows_ending_at time ends → (d : End)
    → (place < length ends) × (time_of (get_or ends place d) ≡ time)
stands-at ends time place rise before behind there d = elim (compared place (length ends)) [
  | inl within ↦ elim (compared time (time_of (get_or ends place d))) [
    | inl above ↦ let none = apart ends time place d rise (λ k lt. before k d lt) (λ lt. above) in absurd (omega arith)
    | inr here ↦ let low = behind place d (omega arith) within in (within, omega arith)
  ]
  | inr past ↦ let none = apart ends time place d rise (λ k lt. before k d lt) (λ lt. absurd (omega arith)) in absurd (omega arith)
]

-- ---- a row less at an end

-- an end of one time with one row more than another
more-then : (time other : ℕ) (old new : End) → old.time ≡ time → new.time ≡ time → new.rows ≡ old.rows + 1 → rows_then other new ≡ rows_then other old
    + (if time == other then 1 else 0)
more-then time other old new a b more = rw (a, b, more) (step (time == other))
  where
    step : (x : Bool) → (if x then old.rows + 1 else 0) ≡ (if x then old.rows else 0) + (if x then 1 else 0)
    step true = omega arith
    step false = omega arith

-- an end that stands at a place
pub record StandsThere (ends : List End) (place time : ℕ) (old : End) : Type 0 where
  pub within : place < length ends
  pub here : get_or ends place old ≡ old
  pub at : old.time ≡ time

-- the place of a time, told of the ends as they were lent, is that of an end of this time
pub is-within : (ends seen : List End) (time place : ℕ) → seen ≡ ends → IsNonDecreasingBy time_of ends → ((k : ℕ) (d : End) → k < place
    → time_of (get_or seen k d) < time) → ((k : ℕ) (d : End) → place ≤ k → k < length seen → time ≤ time_of (get_or seen k d))
    → 1 ≤ rows_ending_at time ends → place < length ends
is-within ends seen time place same rise before behind there =
    let at = stands-at ends time place rise
    (λ k d lt. subst (λ l. time_of (get_or l k d) < time) same (before k d lt))
    (λ k d le lt. subst (λ l. time ≤ time_of (get_or l k d)) same (behind k d le (rw same lt)))
    there (record { time = 0; rows = 0 }) in
    at.0

pub stands-there : (ends seen : List End) (time place : ℕ) (old : End) → seen ≡ ends → IsNonDecreasingBy time_of ends → ((k : ℕ) (d : End) → k < place
    → time_of (get_or seen k d) < time) → ((k : ℕ) (d : End) → place ≤ k → k < length seen → time ≤ time_of (get_or seen k d))
    → 1 ≤ rows_ending_at time ends → old ≡ get_or ends place old → StandsThere ends place time old
stands-there ends seen time place old same rise before behind there is =
    let at = stands-at ends time place rise
    (λ k d lt. subst (λ l. time_of (get_or l k d) < time) same (before k d lt))
    (λ k d le lt. subst (λ l. time ≤ time_of (get_or l k d)) same (behind k d le (rw same lt)))
    there old in
    record { within = at.0; here = sym is; at = ap time_of is ∙ at.1 }

-- an end that was read twice is the same
pub read-twice : (ends : List End) (place : ℕ) (a b : End) → place < length ends → a ≡ get_or ends place a → b ≡ get_or ends place b → a ≡ b
read-twice ends place a b within first second = first ∙ get_or_default ends place a b within ∙ sym second

-- at a time one row more ends by these ends than by others, and at all other times as many
pub record IsMore (ends more : List End) (time : ℕ) : Type 0 where
  pub counts : (other : ℕ) → rows_ending_at other more ≡ rows_ending_at other ends + (if time == other then 1 else 0)
  pub all : rows_ending more ≡ rows_ending ends + 1

set-sum : (f : End → ℕ) (ends : List End) (place time : ℕ) (old new : End) → StandsThere ends place time old → sum_by f (set ends place new) + f old
    ≡ sum_by f ends + f new
set-sum f ends place time old new there =
    subst (λ e. sum_by f (set ends place new) + f e ≡ sum_by f ends + f new) there.here (sum_by-set f ends place new old there.within)

pub lowered : (ends : List End) (place time : ℕ) (old new : End) → StandsThere ends place time old → new.time ≡ time → old.rows ≡ new.rows + 1
    → IsMore (set ends place new) ends time
lowered ends place time old new there at rows = record {
  counts = λ other.
      let sum = set-sum (rows_then other) ends place time old new there in
      let more = more-then time other new old at there.at rows in
      omega arith;
  all = let sum = set-sum rows_of_end ends place time old new there in omega arith;
}

-- ---- an end more

some-inserted : (ends : List End) (place : ℕ) (e : End) → place ≤ length ends → 1 ≤ e.rows → All (λ e. 1 ≤ e.rows) ends → All (λ e. 1 ≤ e.rows)
    (insert ends place e)
some-inserted ends place e within one some k d lt = elim (compared k place) [
  | inl below ↦
      let same = ap rows_of_end (get_or-insert_below ends place e d k below within) in
      let was = some k d (omega arith) in
      omega arith
  | inr from ↦ elim (cases_eq k place) [
    | inl here ↦ let same = ap rows_of_end (get_or-insert_at ends place e d within) in rw here (omega arith)
    | inr other ↦
        let back : (k - 1) + 1 ≡ k = omega arith in
        let same = ap rows_of_end (get_or-insert_above ends place e d (k - 1) (omega arith) within) in
        let was = some (k - 1) d (omega (arith, length-insert ends place e within)) in
        rw (← back) (omega arith)
  ]
]

-- the place of a time, told of the ends as they were lent, is one for a new end
pub inserted : (ends seen : List End) (place time : ℕ) → seen ≡ ends → AreEnds ends → place ≤ length seen → ((k : ℕ) (d : End) → k < place
    → time_of (get_or seen k d) < time) → ((k : ℕ) (d : End) → place ≤ k → k < length seen → time ≤ time_of (get_or seen k d))
    → AreEnds (insert ends place (record { time = time; rows = 1 }))
inserted ends seen place time same are within before behind =
    let inside : place ≤ length ends = subst (λ l. place ≤ length l) same within in
    record {
      rise = IsNonDecreasingBy-insert time_of ends place (record { time = time; rows = 1 }) are.rise inside
          (λ k d lt. let low = subst (λ l. time_of (get_or l k d) < time) same (before k d lt) in omega arith)
          (λ k d le lt. subst (λ l. time ≤ time_of (get_or l k d)) same (behind k d le (rw same lt)));
      some = some-inserted ends place (record { time = time; rows = 1 }) inside (omega arith) are.some;
    }

-- ---- an end less

remove-sum : (f : End → ℕ) (ends : List End) (place time : ℕ) (old : End) → StandsThere ends place time old → sum_by f (remove ends place) + f old
    ≡ sum_by f ends
remove-sum f ends place time old there =
    subst (λ e. sum_by f (remove ends place) + f e ≡ sum_by f ends) there.here (sum_by-remove f ends place old there.within)

pub removed : (ends : List End) (place time : ℕ) (old : End) → StandsThere ends place time old → old.rows ≡ 1 → IsMore (remove ends place) ends time
removed ends place time old there one = record {
  counts = λ other.
      let sum = remove-sum (rows_then other) ends place time old there in
      let was : rows_then other old ≡ (if time == other then 1 else 0) = rw (there.at, one) refl in
      omega arith;
  all = let sum = remove-sum rows_of_end ends place time old there in omega arith;
}

-- ---- times in a list

-- how often a time stands in a list
abbrev times_of : ℕ → List ℕ → ℕ
times_of time xs = count_by (λ t. t == time) xs

pub sum-of-map : {X Y : Type 0} (g : Y → ℕ) (f : X → Y) (xs : List X) → sum_by g (map f xs) ≡ sum_by (λ x. g (f x)) xs
sum-of-map g f [] = refl
sum-of-map g f (x ∷ xs) =
    sum_by-cons g (f x) (map f xs) ∙ ap (λ n. g (f x) + n) (sum-of-map g f xs) ∙ sym (sum_by-cons (λ y. g (f y)) x xs)

times-more : (time x : ℕ) (xs : List ℕ) → times_of time (x ∷ xs) ≡ (if x == time then 1 else 0) + times_of time xs
times-more time x xs = sum_by-cons (λ t. if t == time then 1 else 0) x xs

-- ---- the least

-- a time that is among these, and above none of them, is the least
pub record IsLeast (n : ℕ) (xs : List ℕ) : Type 0 where
  pub among : 1 ≤ times_of n xs
  pub lowest : (time : ℕ) → 1 ≤ times_of time xs → n ≤ time

times-first : (x : ℕ) (xs : List ℕ) → 1 ≤ times_of x (x ∷ xs)
times-first x xs = let same : (x == x) ≡ true = grind (arith, nat_tests) in rw (times-more x x xs, same) (omega arith)

times-later : (time x : ℕ) (xs : List ℕ) → 1 ≤ times_of time xs → 1 ≤ times_of time (x ∷ xs)
times-later time x xs h = rw (times-more time x xs) (omega arith)

times-either : (time x : ℕ) (xs : List ℕ) → 1 ≤ times_of time (x ∷ xs) → (x ≡ time) ⊎ (1 ≤ times_of time xs)
times-either time x xs h = elim (decided (x == time)) [
  | inl e ↦ inl (grind (arith, nat_tests))
  | inr e ↦ let more = rw (times-more time x xs, e) at h in inr (omega arith)
]

first-least : (x : ℕ) → IsLeast x (x ∷ [])
first-least x = record {
  among = times-first x [];
  lowest = λ time h. elim (times-either time x [] h) [ inl e ↦ omega arith | inr none ↦ absurd (omega arith) ];
}

more-least : (x m : ℕ) (xs : List ℕ) → IsLeast m xs → IsLeast (min x m) (x ∷ xs)
more-least x m xs is = elim (compared x m) [
  | inl less ↦ let same : min x m ≡ x = omega arith in rw same (record {
    among = times-first x xs;
    lowest = λ time h. elim (times-either time x xs h) [ inl e ↦ omega arith | inr there ↦ let up = is.lowest time there in omega arith ];
  })
  | inr more ↦ let same : min x m ≡ m = omega arith in rw same (record {
    among = times-later m x xs is.among;
    lowest = λ time h. elim (times-either time x xs h) [ inl e ↦ omega arith | inr there ↦ is.lowest time there ];
  })
]

least-nothing : (xs : List ℕ) → least xs ≡ None → xs ≡ []
least-nothing [] h = refl
least-nothing (x ∷ xs) h = cc

least-least : (xs : List ℕ) (n : ℕ) → least xs ≡ Some n → IsLeast n xs
least-least [] n h = cc
least-least (x ∷ xs) n h = step (least xs) (least-nothing xs) (least-least xs) h
  where
    step : (o : Option ℕ) → (o ≡ None → xs ≡ []) → ((m : ℕ) → o ≡ Some m → IsLeast m xs) → Some (lesser x o) ≡ Some n → IsLeast n (x ∷ xs)
    step None none some e =
        let nothing = none refl in let same : x ≡ n = cc in rw (nothing, ← same) (first-least x)
    step (Some m) none some e =
        let same : min x m ≡ n = cc in rw (← same) (more-least x m xs (some m refl))

pub least-is : (xs : List ℕ) (n : ℕ) → IsLeast n xs → least xs ≡ Some n
least-is xs n is = step (least xs) refl
  where
    step : (o : Option ℕ) → least xs ≡ o → o ≡ Some n
    step None e = let none = least-nothing xs e in let there : 1 ≤ times_of n [] = subst (λ l. 1 ≤ times_of n l) none is.among in absurd (omega arith)
    step (Some m) e =
        let other = least-least xs m e in
        let low = other.lowest n is.among in
        let high = is.lowest m other.among in
        let same : m ≡ n = omega arith in
        ap Some same

-- ---- the ends of rows

times-of-rows : (time : ℕ) (rows : List Row) → times_of time (map end_of rows) ≡ count_by (λ r. end_of r == time) rows
times-of-rows time rows = sum-of-map (λ t. if t == time then 1 else 0) end_of rows

-- where rows end at a time, an end of that time stands
in-ends : (ends : List End) (time : ℕ) → 1 ≤ rows_ending_at time ends → (d : End) → (k : ℕ) × (k < length ends) × (time_of (get_or ends k d) ≡ time)
in-ends [] time h d = absurd (omega arith)
in-ends (e ∷ ends) time h d = elim (decided (e.time == time)) [
  | inl same ↦ (0, omega arith, grind (arith, nat_tests))
  | inr other ↦
      let more = sum_by-cons (rows_then time) e ends in
      let none : rows_then time e ≡ 0 = rw other refl in
      let there = in-ends ends time (omega arith) d in
      (suc there.0, omega (arith, there.1), there.2)
]

-- the time of the first end
abbrev pub first_time : Option End → Option ℕ
first_time None = None
first_time (Some e) = Some e.time

-- the first of the ends is at the least time
pub first-is-earliest : (rows : List Row) (ends : List End) → AreEndsOf rows ends → first_time (slice_get ends 0) ≡ earliest rows
first-is-earliest rows [] are = nothing (least (map end_of rows)) refl
  where
    nothing : (o : Option ℕ) → least (map end_of rows) ≡ o → None ≡ o
    nothing None e = refl
    nothing (Some n) e =
        let there = (least-least (map end_of rows) n e).among in
        let counted = times-of-rows n rows in
        let none = are.same n in
        absurd (omega arith)
first-is-earliest rows (first ∷ ends) are =
    sym (least-is (map end_of rows) first.time (record {
      among =
          let some = All-head (λ e. 1 ≤ e.rows) first ends are.well.some in
          let yes : (first.time == first.time) ≡ true = grind (arith, nat_tests) in
          let here : rows_ending_at first.time (first ∷ ends) ≡ first.rows + rows_ending_at first.time ends = sum_by-cons (rows_then first.time) first
          ends ∙ rw yes refl in
          let same = are.same first.time in
          let counted = times-of-rows first.time rows in
          omega arith;
      lowest = λ time h.
          let same = are.same time in
          let counted = times-of-rows time rows in
          let at = in-ends (first ∷ ends) time (omega arith) first in
          let up = are.well.rise 0 at.0 first (omega arith) at.1 in
          let where_ = at.2 in
          omega arith;
    }))
