-- Blocks that are given, each once, and those behind them.
use Rattle.std.proofs.Common.{◌≡◌, ◌≢◌, ◌<◌, ◌+◌, ◌-◌, ◌&&◌, inl, inr, ℕ, zero, suc, Bool, true, false, List, [], ◌∷◌, ◌++◌}
use Rattle.std.proofs.Common.{drop, length, get_or, refl, sym, ap, subst, ◌∙◌, arith}
use Rattle.std.specs.List.{All}
use Rattle.std.specs.Prelude.{nat_le, not, slice_set}
use Rattle.std.proofs.lemmas.Bool.{cases_eq}
use Rattle.std.proofs.lemmas.List.{get_or-set_other, get_or-set_same, length-set}
use Rattle.std.proofs.lemmas.List.Elements.{All-append, All-cons, All-nil, All-head, All-tail, All-weaker}
use Rattle.nq_image.specs.Layout.{word_in}
use Rattle.nq_image.specs.Standing.{AreDistinct, IsFileBlock, IsNoneOf, marks_with}
use Rattle.nq_image.specs.Tables.{is_entry, is_marked, is_of_tables, marked, table_checks}
use Rattle.nq_image.specs.Tables.{table_of}
use Rattle.nq_image.proofs.Agreeing.{all-front, all-rest}
use Rattle.nq_image.proofs.Giving.{IsGiven}
use Rattle.nq_image.proofs.Holding.{not-true, test-le}
use Rattle.nq_image.proofs.ReadBack.{Hold, and-two, and-three}

-- ---- blocks given one after another

-- each of these is a block that a file may have, and it was not given before
abbrev pub AllGiven : (tables : ℕ) (marks : List Bool) → List ℕ → Type 0
AllGiven tables marks [] = Unit {0}
AllGiven tables marks (block ∷ blocks) = IsFileBlock tables block × (is_marked marks block ≡ false) × AllGiven tables (slice_set marks block true) blocks

pub given-append : (tables : ℕ) (marks : List Bool) (xs ys : List ℕ) → AllGiven tables marks xs → AllGiven tables (marks_with marks xs) ys
    → AllGiven tables marks (xs ++ ys)
unfolding marks_with
given-append tables marks [] ys front behind = behind
given-append tables marks (x ∷ xs) ys front behind = (front.0, front.1, given-append tables (slice_set marks x true) xs ys front.2 behind)

pub given-front : (tables : ℕ) (marks : List Bool) (xs ys : List ℕ) → AllGiven tables marks (xs ++ ys) → AllGiven tables marks xs
given-front tables marks [] ys all = tt
given-front tables marks (x ∷ xs) ys all = (all.0, all.1, given-front tables (slice_set marks x true) xs ys all.2)

pub given-behind : (tables : ℕ) (marks : List Bool) (xs ys : List ℕ) → AllGiven tables marks (xs ++ ys) → AllGiven tables (marks_with marks xs) ys
unfolding marks_with
given-behind tables marks [] ys all = all
given-behind tables marks (x ∷ xs) ys all = given-behind tables (slice_set marks x true) xs ys all.2

pub length-with : (marks : List Bool) (blocks : List ℕ) → length (marks_with marks blocks) ≡ length marks
unfolding marks_with
length-with marks [] = refl
length-with marks (block ∷ blocks) = length-with (slice_set marks block true) blocks ∙ length-set marks block true

-- ---- each given once

not-set : (marks : List Bool) (block other : ℕ) → block < length marks → is_marked (slice_set marks block true) other ≡ false → (other ≢ block)
    × (is_marked marks other ≡ false)
not-set marks block other lt free = elim (cases_eq other block) [
  | inl e ↦
      let given = get_or-set_same marks block true false lt in
      let P : ℕ → Type 0 = λ k. is_marked (slice_set marks block true) k ≡ false in
      let wrong : true ≡ false = sym given ∙ subst P e free in
      cc
  | inr ne ↦ (ne, sym (get_or-set_other marks block other true false ne) ∙ free)
]

pub record AreGivenOnce (tables : ℕ) (marks : List Bool) (blocks : List ℕ) : Type 0 where
  pub there : All (IsFileBlock tables) blocks
  pub free : All (λ block. is_marked marks block ≡ false) blocks
  pub distinct : AreDistinct blocks

pub once : (tables : ℕ) (marks : List Bool) (blocks : List ℕ) → length marks ≡ 16641 → AllGiven tables marks blocks → AreGivenOnce tables marks blocks
once tables marks [] long given = record { there = All-nil (IsFileBlock tables); free = All-nil (λ b. is_marked marks b ≡ false); distinct = tt }
once tables marks (block ∷ blocks) long given =
    let below = given.0.below in
    let more = once tables (slice_set marks block true) blocks (length-set marks block true ∙ long) given.2 in
    let both = λ (other : ℕ) (free : is_marked (slice_set marks block true) other ≡ false). not-set marks block other (omega (arith, below, long)) free in
    record {
      there = All-cons (IsFileBlock tables) block blocks given.0 more.there;
      free = All-cons (λ b. is_marked marks b ≡ false) block blocks given.1
          (All-weaker (λ b. is_marked (slice_set marks block true) b ≡ false) (λ b. is_marked marks b ≡ false) (λ other free. (both other free).1)
          blocks more.free);
      distinct = (
        All-weaker (λ b. is_marked (slice_set marks block true) b ≡ false) (λ b. b ≢ block) (λ other free. (both other free).0) blocks more.free,
        more.distinct,
      );
    }

pub both-of : (P Q R : ℕ → Type 0) (xs : List ℕ) → ((x : ℕ) → P x → Q x → R x) → All P xs → All Q xs → All R xs
both-of P Q R xs both one two = λ k d lt. both (get_or xs k d) (one k d lt) (two k d lt)

pub given-if-once : (tables : ℕ) (marks : List Bool) (blocks : List ℕ) → AreGivenOnce tables marks blocks → AllGiven tables marks blocks
given-if-once tables marks [] each = tt
given-if-once tables marks (block ∷ blocks) each =
    let Free : ℕ → Type 0 = λ b. is_marked marks b ≡ false in
    let rest = both-of Free (λ b. b ≢ block) (λ b. is_marked (slice_set marks block true) b ≡ false) blocks (λ other free ne. get_or-set_other marks
    block other true false ne ∙ free) (All-tail Free block blocks each.free) each.distinct.0 in (
      All-head (IsFileBlock tables) block blocks each.there,
      All-head Free block blocks each.free,
      given-if-once tables (slice_set marks block true) blocks (record {
        there = All-tail (IsFileBlock tables) block blocks each.there;
        free = rest;
        distinct = each.distinct.1;
      }),
    )

-- ---- lists with no block twice

pub distinct-front : (xs ys : List ℕ) → AreDistinct (xs ++ ys) → AreDistinct xs
distinct-front [] ys d = tt
distinct-front (x ∷ xs) ys d = (all-front (λ o. o ≢ x) xs ys d.0, distinct-front xs ys d.1)

pub distinct-behind : (xs ys : List ℕ) → AreDistinct (xs ++ ys) → AreDistinct ys
distinct-behind [] ys d = d
distinct-behind (x ∷ xs) ys d = distinct-behind xs ys d.1

pub distinct-apart : (xs ys : List ℕ) → AreDistinct (xs ++ ys) → All (IsNoneOf ys) xs
distinct-apart [] ys d = All-nil (IsNoneOf ys)
distinct-apart (x ∷ xs) ys d = All-cons (IsNoneOf ys) x xs (all-rest (λ o. o ≢ x) xs ys d.0) (distinct-apart xs ys d.1)

pub distinct-append : (xs ys : List ℕ) → AreDistinct xs → AreDistinct ys → All (IsNoneOf ys) xs → AreDistinct (xs ++ ys)
distinct-append [] ys one two apart = two
distinct-append (x ∷ xs) ys one two apart =
    (All-append (λ o. o ≢ x) xs ys one.0 (All-head (IsNoneOf ys) x xs apart), distinct-append xs ys one.1 two (All-tail (IsNoneOf ys) x xs apart))

pub apart-back : (xs ys : List ℕ) → All (IsNoneOf xs) ys → All (IsNoneOf ys) xs
apart-back [] ys all = All-nil (IsNoneOf ys)
apart-back (x ∷ xs) ys all =
    All-cons (IsNoneOf ys) x xs
    (All-weaker (IsNoneOf (x ∷ xs)) (λ o. o ≢ x) (λ o none e. All-head (λ other. other ≢ o) x xs none (sym e)) ys all)
    (apart-back xs ys (All-weaker (IsNoneOf (x ∷ xs)) (IsNoneOf xs) (λ o none. All-tail (λ other. other ≢ o) x xs none) ys all))

-- other blocks in the middle
pub distinct-swap : (xs one two ys : List ℕ) → AreDistinct two → All (IsNoneOf (xs ++ ys)) two → AreDistinct (xs ++ (one ++ ys))
    → AreDistinct (xs ++ (two ++ ys))
distinct-swap xs one two ys own apart d =
    let behind = distinct-behind xs (one ++ ys) d in
    let from_one = distinct-apart xs (one ++ ys) d in
    let no_front = All-weaker (IsNoneOf (xs ++ ys)) (IsNoneOf xs) (λ b none. all-front (λ o. o ≢ b) xs ys none) two apart in
    let no_rest = All-weaker (IsNoneOf (xs ++ ys)) (IsNoneOf ys) (λ b none. all-rest (λ o. o ≢ b) xs ys none) two apart in
    let to_rest = All-weaker (IsNoneOf (one ++ ys)) (IsNoneOf ys) (λ b none. all-rest (λ o. o ≢ b) one ys none) xs from_one in
    let to_two = apart-back xs two no_front in
    distinct-append xs (two ++ ys) (distinct-front xs (one ++ ys) d) (distinct-append two ys own (distinct-behind one ys behind) no_rest)
    (both-of (IsNoneOf two) (IsNoneOf ys) (IsNoneOf (two ++ ys)) xs (λ b a c. All-append (λ o. o ≢ b) two ys a c) to_two to_rest)

pub all-swap : (P : ℕ → Type 0) (xs one two ys : List ℕ) → All P two → All P (xs ++ (one ++ ys)) → All P (xs ++ (two ++ ys))
all-swap P xs one two ys own all =
    All-append P xs (two ++ ys) (all-front P xs (one ++ ys) all) (All-append P two ys own (all-rest P one ys (all-rest P xs (one ++ ys) all)))

-- ---- what has a mark

pub each-given : (P : ℕ → Type 0) (marks : List Bool) (blocks : List ℕ) → All P blocks → (block : ℕ) → (IsGiven marks block → P block)
    → IsGiven (marks_with marks blocks) block → P block
unfolding marks_with
each-given P marks [] all block before given = before given
each-given P marks (x ∷ blocks) all block before given =
    each-given P (slice_set marks x true) blocks (All-tail P x blocks all) block (λ now. elim (cases_eq block x) [
      | inl e ↦ subst P (sym e) (All-head P x blocks all)
      | inr ne ↦ before (sym (get_or-set_other marks x block true false ne) ∙ now)
    ]) given

given-stays : (marks : List Bool) (blocks : List ℕ) (block : ℕ) → All (λ b. b < length marks) blocks → IsGiven marks block
    → IsGiven (marks_with marks blocks) block
unfolding marks_with
given-stays marks [] block all given = given
given-stays marks (x ∷ blocks) block all given =
    let Short : ℕ → Type 0 = λ n. All (λ b. b < n) blocks in
    let lt = All-head (λ b. b < length marks) x blocks all in
    given-stays (slice_set marks x true) blocks block (subst Short (sym (length-set marks x true)) (All-tail (λ b. b < length marks) x blocks all))
    (elim (cases_eq block x) [
      | inl e ↦ subst (IsGiven (slice_set marks x true)) (sym e) (get_or-set_same marks x true false lt)
      | inr ne ↦ get_or-set_other marks x block true false ne ∙ given
    ])

pub all-given : (marks : List Bool) (blocks : List ℕ) → All (λ b. b < length marks) blocks → All (IsGiven (marks_with marks blocks)) blocks
unfolding marks_with
all-given marks [] all = All-nil (IsGiven marks)
all-given marks (x ∷ blocks) all =
    let Short : ℕ → Type 0 = λ n. All (λ b. b < n) blocks in
    let lt = All-head (λ b. b < length marks) x blocks all in
    let set_marks = slice_set marks x true in
    let rest = subst Short (sym (length-set marks x true)) (All-tail (λ b. b < length marks) x blocks all) in
    All-cons (IsGiven (marks_with set_marks blocks)) x blocks (given-stays set_marks blocks x rest (get_or-set_same marks x true false lt))
    (all-given set_marks blocks rest)

-- ---- one table

each-four : (a b c d : Bool) → (a && b && c && d) ≡ true → (a ≡ true) × (b ≡ true) × (c ≡ true) × (d ≡ true)
each-four true true true true h = (refl, refl, refl, refl)
each-four true true true false h = cc
each-four true true false d h = cc
each-four true false c d h = cc
each-four false b c d h = cc

entry-given : (tables : ℕ) (marks : List Bool) (entry : ℕ) → is_entry tables marks entry ≡ true → IsFileBlock tables (entry - 1)
    × (is_marked marks (entry - 1) ≡ false)
unfolding is_entry
entry-given tables marks entry h =
    let four = each-four (nat_le 1 entry) (nat_le entry 16641) (not (is_of_tables tables (entry - 1))) (not (is_marked marks (entry - 1))) h in
    let a = test-le 1 entry four.0 in
    let b = test-le entry 16641 four.1 in
    (record { below = omega (arith, a, b); apart = not-true (is_of_tables tables (entry - 1)) four.2 }, not-true (is_marked marks (entry - 1)) four.3)

entry-behind : (tables : ℕ) (marks other : List Bool) (entry : ℕ) → is_marked other (entry - 1) ≡ false → is_entry tables marks entry ≡ true
    → is_entry tables other entry ≡ true
unfolding is_entry
entry-behind tables marks other entry free h =
    let four = each-four (nat_le 1 entry) (nat_le entry 16641) (not (is_of_tables tables (entry - 1))) (not (is_marked marks (entry - 1))) h in
    and-two (nat_le 1 entry && nat_le entry 16641 && not (is_of_tables tables (entry - 1))) (not (is_marked other (entry - 1)))
    (and-three (nat_le 1 entry) (nat_le entry 16641) (not (is_of_tables tables (entry - 1))) four.0 four.1 four.2) (ap not free)

pub table-given : (count tables place : ℕ) (marks : List Bool) (rest : List ℕ) → Hold (table_checks count tables place marks rest)
    → AllGiven tables marks (table_of count rest)
unfolding table_checks table_of
table-given zero tables place marks rest h = tt
table-given (suc count) tables place marks rest h =
    let own = entry-given tables marks (word_in 0 rest) h.0 in
    (own.0, own.1, table-given count tables (place + 4) (marked marks (word_in 0 rest)) (drop 4 rest) h.1)

pub table-behind : (count tables place : ℕ) (marks other : List Bool) (rest : List ℕ) → AllGiven tables other (table_of count rest)
    → Hold (table_checks count tables place marks rest) → Hold (table_checks count tables place other rest)
unfolding table_checks table_of
table-behind zero tables place marks other rest given h = h
table-behind (suc count) tables place marks other rest given h = (
  entry-behind tables marks other (word_in 0 rest) given.1 h.0,
  table-behind count tables (place + 4) (marked marks (word_in 0 rest)) (marked other (word_in 0 rest)) (drop 4 rest) given.2 h.1,
)
