-- The marks of the blocks that files have, once the blocks of one row become others.
use Rattle.std.proofs.Common.{◌≡◌, ◌≢◌, ◌<◌, inl, inr, ℕ, Bool, true, false, List, [], ◌∷◌, ◌++◌, length, get_or, refl, sym, ap, subst, ◌∙◌, arith}
use Rattle.std.specs.List.{All}
use Rattle.std.specs.Prelude.{slice_set}
use Rattle.std.proofs.lemmas.Bool.{cases_eq, cases_lt}
use Rattle.std.proofs.lemmas.List.{ext_get_or, get_or-set_other, get_or-set_same, get_or_past, length-set}
use Rattle.std.proofs.lemmas.List.Elements.{All-append, All-cons, All-head, All-nil, All-tail, All-weaker}
use Rattle.nq_image.specs.Image.{no_marks}
use Rattle.nq_image.specs.Standing.{AreDistinct, IsNoneOf, marks_with}
use Rattle.nq_image.specs.Tables.{is_marked}
use Rattle.nq_image.proofs.Agreeing.{all-front, all-rest}
use Rattle.nq_image.proofs.GivenBlocks.{all-given, apart-back, distinct-apart, distinct-behind, each-given, length-with}
use Rattle.nq_image.proofs.Giving.{IsGiven}
use Rattle.nq_image.proofs.Imaging.{no-marks}
use Rattle.nq_plan.specs.Settling.{marked_all}

-- ---- marks that say the same

same-bool : (a b : Bool) → (a ≡ true → b ≡ true) → (b ≡ true → a ≡ true) → a ≡ b
same-bool true b f g = sym (f refl)
same-bool false true f g = g refl
same-bool false false f g = refl

same-marks : (a b : List Bool) → length a ≡ length b → ((k : ℕ) → IsGiven a k → IsGiven b k) → ((k : ℕ) → IsGiven b k → IsGiven a k) → a ≡ b
same-marks a b len f g = ext_get_or false a b len (λ k lt. same-bool (get_or a k false) (get_or b k false) (f k) (g k))

-- ---- blocks that become free

length-all : (given : Bool) (blocks : List ℕ) (marks : List Bool) → length (marked_all given blocks marks) ≡ length marks
length-all given [] marks = refl
length-all given (block ∷ blocks) marks = length-all given blocks (slice_set marks block given) ∙ length-set marks block given

set-free : (marks : List Bool) (block : ℕ) → is_marked (slice_set marks block false) block ≡ false
set-free marks block = elim (cases_lt block (length marks)) [
  | inl lt ↦ get_or-set_same marks block false false lt
  | inr le ↦ get_or_past (slice_set marks block false) block false (omega (arith, le, length-set marks block false))
]

not-given : (marks : List Bool) (block k : ℕ) → IsGiven (slice_set marks block false) k → block ≢ k
not-given marks block k given e =
    let Given : ℕ → Type 0 = λ n. IsGiven (slice_set marks block false) n in
    let here : is_marked (slice_set marks block false) block ≡ true = subst Given (sym e) given in
    let never = set-free marks block in
    absurd (cc)

turned : (m n : ℕ) → m ≢ n → n ≢ m
turned m n ne e = ne (sym e)

pub unmarked : (blocks : List ℕ) (marks : List Bool) (k : ℕ) → IsGiven (marked_all false blocks marks) k → IsGiven marks k × IsNoneOf blocks k
unmarked [] marks k given = (given, All-nil (λ other. other ≢ k))
unmarked (block ∷ blocks) marks k given =
    let more = unmarked blocks (slice_set marks block false) k given in
    let ne = not-given marks block k more.0 in
    (sym (get_or-set_other marks block k false false (turned block k ne)) ∙ more.0, All-cons (λ other. other ≢ k) block blocks ne more.1)

pub unmark-keeps : (blocks : List ℕ) (marks : List Bool) (k : ℕ) → IsGiven marks k → IsNoneOf blocks k → IsGiven (marked_all false blocks marks) k
unmark-keeps [] marks k given none = given
unmark-keeps (block ∷ blocks) marks k given none =
    let ne = All-head (λ other. other ≢ k) block blocks none in
    unmark-keeps blocks (slice_set marks block false) k (get_or-set_other marks block k false false (turned block k ne) ∙ given)
    (All-tail (λ other. other ≢ k) block blocks none)

-- ---- blocks that are given

marked-with : (blocks : List ℕ) (marks : List Bool) → marked_all true blocks marks ≡ marks_with marks blocks
unfolding marks_with
marked-with [] marks = refl
marked-with (block ∷ blocks) marks = marked-with blocks (slice_set marks block true)

given-below : (marks : List Bool) (k : ℕ) → IsGiven marks k → k < length marks
given-below marks k given = elim (cases_lt k (length marks)) [
  | inl lt ↦ lt
  | inr le ↦ let never = get_or_past marks k false le in absurd (cc)
]

with-keeps : (blocks : List ℕ) (marks : List Bool) (k : ℕ) → IsGiven marks k → IsGiven (marks_with marks blocks) k
unfolding marks_with
with-keeps [] marks k given = given
with-keeps (block ∷ blocks) marks k given = with-keeps blocks (slice_set marks block true) k (elim (cases_eq k block) [
  | inl e ↦
      let Given : ℕ → Type 0 = λ n. IsGiven (slice_set marks block true) n in
      let lt = given-below marks k given in
      subst Given (sym e) (get_or-set_same marks block true false (omega (arith, e, lt)))
  | inr ne ↦ get_or-set_other marks block k true false ne ∙ given
])

not-none : (blocks : List ℕ) → All (λ b. IsNoneOf blocks b → ⊥) blocks
not-none blocks = λ k d lt. λ none. none k d lt refl

-- ---- the blocks of one row among those of all

module _ (front own rest then_own : List ℕ) (marks : List Bool) where
  abbrev all : List ℕ
  all = front ++ (own ++ rest)

  abbrev all_then : List ℕ
  all_then = front ++ (then_own ++ rest)

  abbrev none : List Bool
  none = no_marks 16641

  module _ (is : marks ≡ marks_with none all) (once : AreDistinct all) (below : All (λ b. b < length none) all)
      (below_then : All (λ b. b < length none) all_then) where
    abbrev free : List Bool
    free = marked_all false own marks

    never : (P : Type 0) (k : ℕ) → IsGiven none k → P
    never P k given = let no = no-marks 16641 k in absurd (cc)

    long : length marks ≡ length none
    long = ap length is ∙ length-with none all

    long-free : length free ≡ length none
    long-free = length-all false own marks ∙ long

    given-then : All (IsGiven (marks_with none all_then)) all_then
    given-then = all-given none all_then below_then

    given-now : All (IsGiven marks) all
    given-now = let Given : List Bool → Type 0 = λ m. All (IsGiven m) all in subst Given (sym is) (all-given none all below)

    -- a mark that is there afterwards should be there
    forth : (k : ℕ) → IsGiven (marks_with free then_own) k → IsGiven (marks_with none all_then) k
    forth k given =
        let M : List Bool = marks_with none all_then in
        let behind = all-rest (IsGiven M) front (then_own ++ rest) given-then in
        let P : ℕ → Type 0 = λ b. IsNoneOf own b → IsGiven M b in
        let Unless : (b : ℕ) → IsGiven M b → P b = λ b g. λ none. g in
        let each =
        All-append P front (own ++ rest) (All-weaker (IsGiven M) P Unless front (all-front (IsGiven M) front (then_own ++ rest) given-then))
        (All-append P own rest (All-weaker (λ b. IsNoneOf own b → ⊥) P (λ b no. λ none. absurd (no none)) own (not-none own))
        (All-weaker (IsGiven M) P Unless rest (all-rest (IsGiven M) then_own rest behind))) in
        each-given (IsGiven M) free then_own (all-front (IsGiven M) then_own rest behind) k
        (λ g.
        let was = unmarked own marks k g in
        let Given : List Bool → Type 0 = λ m. IsGiven m k in
        each-given P none all each k (λ h. never (P k) k h) (subst Given is was.0) was.1)
        given

    -- and one that should be there is
    back : (k : ℕ) → IsGiven (marks_with none all_then) k → IsGiven (marks_with free then_own) k
    back k given =
        let M : List Bool = marks_with free then_own in
        let Below : ℕ → Type 0 = λ n. All (λ b. b < n) then_own in
        let own_below = all-front (λ b. b < length none) then_own rest (all-rest (λ b. b < length none) front (then_own ++ rest) below_then) in
        let own_given = all-given free then_own (subst Below (sym long-free) own_below) in
        let apart_front = All-weaker (IsNoneOf (own ++ rest)) (IsNoneOf own) (λ b no. all-front (λ o. o ≢ b) own rest no) front
        (distinct-apart front (own ++ rest) once) in
        let apart_rest = apart-back rest own (distinct-apart own rest (distinct-behind front (own ++ rest) once)) in
        let given_front = all-front (IsGiven marks) front (own ++ rest) given-now in
        let given_rest = all-rest (IsGiven marks) own rest (all-rest (IsGiven marks) front (own ++ rest) given-now) in
        each-given (IsGiven M) none all_then
        (All-append (IsGiven M) front (then_own ++ rest) (both front given_front apart_front) (All-append (IsGiven M) then_own rest own_given
        (both rest given_rest apart_rest)))
        k (λ h. never (IsGiven M k) k h) given
      where
        both : (blocks : List ℕ) → All (IsGiven marks) blocks → All (IsNoneOf own) blocks → All (IsGiven (marks_with free then_own)) blocks
        both blocks given apart = λ k d lt. with-keeps then_own free (get_or blocks k d) (unmark-keeps own marks (get_or blocks k d) (given k d lt)
            (apart k d lt))

    pub marks-then : marked_all true then_own (marked_all false own marks) ≡ marks_with none all_then
    marks-then =
        marked-with then_own free
        ∙ same-marks (marks_with free then_own) (marks_with none all_then) (length-with free then_own ∙ long-free ∙ sym (length-with none all_then)) forth back
