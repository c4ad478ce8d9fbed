-- The first fate of a kind, and what is asked of it.
use Rattle.std.proofs.Common.{◌≡◌, ℕ, ◌<◌, ◌≤◌, ◌+◌, zero, suc, ap, refl, Bool, true, false, All, List, [], ◌∷◌, ◌++◌, Option, Some, None, ◌↔◌, arith}
use Rattle.std.proofs.Common.{length, map, take, drop, slice_index_or, slice_set, subst, sym, ◌∙◌}
use Rattle.std.proofs.Math.Seq.{take-suc}
use Rattle.std.proofs.lemmas.List.Elements.{All-map, All-push}
use Rattle.std.specs.Bool.{IsTrue}
use Rattle.std.specs.Prelude.{IfSome, IsSomeAnd, ◌≢◌}
use Rattle.std.proofs.lemmas.List.{map-append, take_all}
use Rattle.std.proofs.lemmas.Option.{slice_get_read}
use Rattle.std.specs.List.{slice_get}
use Rattle.nq_base.specs.declared.ending.ending.Ending.{Ending}
use Rattle.nq_run.specs.Fates.{AsksFirst, FateTold}
use Rattle.nq_storm.specs.Asking.{AsksFor}
use Rattle.nq_storm.specs.Kinds.{IsFirstOf, IsNotOf, LackKind, TellOthers}
use Rattle.nq_storm.specs.Rules.{Rule}

pub not_of : (told : Option Rule) (kind : ℕ) (is : Bool) → is ≡ false → IfSome told (λ rule. IsTrue is ↔ (rule.kind ≡ kind)) → IsNotOf told kind
not_of None kind is off tests = tt
not_of (Some rule) kind is off tests = λ same. let both : false ≡ true = sym off ∙ tests.1 same in absurd (cc)

pub is_of_kind : (told : Option Rule) (kind : ℕ) (is : Bool) → is ≡ true → IfSome told (λ rule. IsTrue is ↔ (rule.kind ≡ kind))
    → IfSome told (λ rule. rule.kind ≡ kind)
is_of_kind None kind is on tests = tt
is_of_kind (Some rule) kind is on tests = tests.0 on

-- one fate more was passed
pub passed_one : {X : Type 0} (told : X → Option Rule) (kind place : ℕ) (fates : List X) (fate d : X) → place < length fates → fate ≡ slice_index_or
    fates place d → All (λ x. IsNotOf (told x) kind) (take place fates) → IsNotOf (told fate) kind
    → All (λ x. IsNotOf (told x) kind) (take (place + 1) fates)
passed_one {X = X} told kind place fates fate d within is others other =
    let P : X → Type 0 = λ x. IsNotOf (told x) kind in
    let next : place + 1 ≡ suc place = omega arith in
    subst (λ xs. All P xs) (sym (ap (λ n. take n fates) next ∙ take-suc fates place d within)) (All-push P (take place fates)
    (slice_index_or fates place d) others (subst P is other))

-- where all were passed, none is of the kind
pub lack_kind : {X : Type 0} (told : X → Option Rule) (kind place : ℕ) (fates : List X) → length fates ≤ place → All (λ x. IsNotOf (told x) kind)
    (take place fates) → LackKind kind (map told fates)
lack_kind told kind place fates all others =
    All-map (λ tells. IsNotOf tells kind) told fates (subst (λ xs. All (λ x. IsNotOf (told x) kind) xs) (take_all place fates all) others)

-- the one that was found stands at the place
pub found_at : {X : Type 0} (told : X → Option Rule) (kind place : ℕ) (fates : List X) (fate : X) → place < length fates → fate ≡ slice_index_or fates
    place fate → IfSome (told fate) (λ rule. rule.kind ≡ kind)
    → IfSome (slice_get fates place) (λ f. IfSome (told f) (λ rule. rule.kind ≡ kind))
found_at told kind place fates fate within is here =
    subst (λ o. IfSome o (λ f. IfSome (told f) (λ rule. rule.kind ≡ kind))) (sym (slice_get_read fates (length fates) place fate refl within is)) here

split : {X : Type 0} (xs : List X) (i : ℕ) (x : X) → slice_get xs i ≡ Some x → xs ≡ take i xs ++ x ∷ drop (suc i) xs
split [] i x h = absurd (cc)
split (y ∷ ys) zero x h = let same : y ≡ x = cc in ap (λ z. z ∷ ys) same
split (y ∷ ys) (suc i) x h = ap (λ zs. y ∷ zs) (split ys i x h)

replaced : {X : Type 0} (xs : List X) (i : ℕ) (x x' : X) → slice_get xs i ≡ Some x → slice_set xs i x' ≡ take i xs ++ x' ∷ drop (suc i) xs
replaced [] i x x' h = absurd (cc)
replaced (y ∷ ys) zero x x' h = refl
replaced (y ∷ ys) (suc i) x x' h = ap (λ zs. y ∷ zs) (replaced ys i x x' h)

-- it is the first of the kind
pub is_first : {X : Type 0} (told : X → Option Rule) (kind place : ℕ) (fates : List X) (fate : X) → place < length fates → fate ≡ slice_index_or fates
    place fate → All (λ x. IsNotOf (told x) kind) (take place fates)
    → IfSome (slice_get fates place) (λ f. IfSome (told f) (λ rule. rule.kind ≡ kind)) → IsFirstOf kind (map told fates)
    (told (slice_index_or fates place fate))
is_first told kind place fates fate within is others here =
    let at : slice_get fates place ≡ Some fate = slice_get_read fates (length fates) place fate refl within is in
    subst
    (λ found. IsFirstOf kind (map told fates) found)
    (ap told is)
    (record {
      before = map told (take place fates);
      behind = map told (drop (suc place) fates);
      stands = ap (map told) (split fates place fate at) ∙ map-append told (take place fates) (fate ∷ drop (suc place) fates);
      others = All-map (λ tells. IsNotOf tells kind) told (take place fates) others;
      kind_is = subst (λ o. IfSome o (λ f. IfSome (told f) (λ rule. rule.kind ≡ kind))) at here;
    })

-- the fate at the place was asked, and each other one stays
pub asks_first : {X : Type 0} (tell : X → FateTold) (end : Ending) (kind wanted place : ℕ) (fates : List X) (fate after : X) → place < length fates
    → fate ≡ slice_index_or fates place fate → All (λ x. IsNotOf (tell x).rule kind) (take place fates)
    → IfSome (slice_get fates place) (λ f. IfSome (tell f).rule (λ rule. rule.kind ≡ kind))
    → AsksFor end wanted (tell (slice_index_or fates place fate)).asks (tell after).asks
    → AsksFirst end kind wanted (map tell fates) (map tell (slice_set fates place after))
asks_first tell end kind wanted place fates fate after within is others here asked =
    let at : slice_get fates place ≡ Some fate = slice_get_read fates (length fates) place fate refl within is in
    record {
      before = map tell (take place fates);
      fate = tell fate;
      after = tell after;
      behind = map tell (drop (suc place) fates);
      was = ap (map tell) (split fates place fate at) ∙ map-append tell (take place fates) (fate ∷ drop (suc place) fates);
      is = ap (map tell) (replaced fates place fate after at) ∙ map-append tell (take place fates) (after ∷ drop (suc place) fates);
      others = All-map (λ f. IsNotOf f.rule kind) tell (take place fates) others;
      of_kind = subst (λ o. IfSome o (λ f. IfSome (tell f).rule (λ rule. rule.kind ≡ kind))) at here;
      asked = subst (λ f. AsksFor end wanted (tell f).asks (tell after).asks) (sym is) asked;
    }

both-kinds : (kind : ℕ) (found : Option Rule) → IsSomeAnd found (λ rule. rule.kind ≢ kind) → IfSome found (λ rule. rule.kind ≡ kind) → ⊥
both-kinds kind None other is = absurd other
both-kinds kind (Some rule) other is = other is

-- where each fate tells another kind, none is of the kind
pub none_among : {X : Type 0} (told : X → Option Rule) (kind place : ℕ) (fates : List X) → TellOthers kind (map told fates) → place < length fates
    → IfSome (slice_get fates place) (λ f. IfSome (told f) (λ rule. rule.kind ≡ kind)) → ⊥
none_among told kind place [] others within here = absurd (omega (arith, within))
none_among told kind zero (fate ∷ fates) others within here = both-kinds kind (told fate) (others 0 (told fate) (omega arith)) here
none_among told kind (suc place) (fate ∷ fates) others within here =
    none_among told kind place fates (λ k d below. others (suc k) d (omega (arith, below))) (omega (arith, within)) here
