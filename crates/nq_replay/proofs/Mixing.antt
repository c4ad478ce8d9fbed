-- The lines of a schedule with asides, place by place.
use Rattle.std.proofs.Common.{◌≡◌, ◌<◌, ℕ, zero, suc, List, [], ◌∷◌, length, Option, Some, None, refl, sym, ap, subst, ◌∙◌, arith}
use Rattle.std.proofs.lemmas.Option.{same_Some}
use Rattle.std.specs.Prelude.{slice_get}
use Rattle.nq_replay.specs.Text.{HoldsOfAside, HoldsOfAsides, MixedLine, aside_at, beside, mixed, plain}
use Rattle.nq_script.specs.declared.lines.Line.{Line}

pub mixed-length : {A : Type 0} (asides : List (Option A)) (lines : List Line) → length (mixed asides lines) ≡ length lines
mixed-length asides [] = refl
mixed-length [] (l ∷ lines) = ap suc (mixed-length [] lines)
mixed-length (None ∷ asides) (l ∷ lines) = ap suc (mixed-length asides lines)
mixed-length (Some aside ∷ asides) (l ∷ lines) = ap suc (mixed-length asides lines)

-- ---- the asides at a place

pub aside-told : {A : Type 0} (asides : List (Option A)) (place : ℕ) (s : Option A) → slice_get asides place ≡ Some s → aside_at asides place ≡ s
aside-told [] place s there = absurd (cc)
aside-told (t ∷ asides) zero s there = cc
aside-told (t ∷ asides) (suc place) s there = aside-told asides place s there

pub aside-past : {A : Type 0} (asides : List (Option A)) (place : ℕ) → slice_get asides place ≡ None → aside_at asides place ≡ None
aside-past [] place there = refl
aside-past (t ∷ asides) zero there = absurd (cc)
aside-past (t ∷ asides) (suc place) there = aside-past asides place there

-- what holds of all asides holds of the one at a place
pub aside-holds : {A : Type 0} (P : A → Type 0) (asides : List (Option A)) (place : ℕ) (aside : A) → HoldsOfAsides P asides
    → aside_at asides place ≡ Some aside → P aside
aside-holds P [] place aside all there = absurd (cc)
aside-holds P (s ∷ asides) zero aside all there = subst (HoldsOfAside P) there all.0
aside-holds P (s ∷ asides) (suc place) aside all there = aside-holds P asides place aside all.1 there

-- ---- the lines at a place

-- there is a line at each place below their number
pub line-there : (lines : List Line) (place : ℕ) → place < length lines → (l : Line) × (slice_get lines place ≡ Some l)
line-there [] place below = absurd (omega arith)
line-there (l ∷ lines) zero below = (l, refl)
line-there (l ∷ lines) (suc place) below = line-there lines place (omega arith)

-- what a line is, by what it says as an aside
abbrev line_as : {A : Type 0} → Option A → Line → MixedLine A
line_as None line = plain line
line_as (Some aside) line = beside aside

mixed-at : {A : Type 0} (asides : List (Option A)) (lines : List Line) (place : ℕ) (line : Line) → slice_get lines place ≡ Some line
    → slice_get (mixed asides lines) place ≡ Some (line_as (aside_at asides place) line)
mixed-at asides [] place line there = absurd (cc)
mixed-at [] (l ∷ lines) zero line there = let e : l ≡ line = cc in rw e refl
mixed-at [] (l ∷ lines) (suc place) line there = mixed-at [] lines place line there
mixed-at (None ∷ asides) (l ∷ lines) zero line there = let e : l ≡ line = cc in rw e refl
mixed-at (None ∷ asides) (l ∷ lines) (suc place) line there = mixed-at asides lines place line there
mixed-at (Some aside ∷ asides) (l ∷ lines) zero line there = refl
mixed-at (Some aside ∷ asides) (l ∷ lines) (suc place) line there = mixed-at asides lines place line there

-- the line at a place, where it is an aside and where it is not
pub line-beside : {A : Type 0} (asides : List (Option A)) (lines : List Line) (place : ℕ) (aside : A) (l : Line) (line : MixedLine A)
    → slice_get lines place ≡ Some l
    → aside_at asides place ≡ Some aside → slice_get (mixed asides lines) place ≡ Some line → beside aside ≡ line
line-beside asides lines place aside l line there says here =
    same_Some (beside aside) line (sym (mixed-at asides lines place l there ∙ ap (λ s. Some (line_as s l)) says) ∙ here)

pub line-plain : {A : Type 0} (asides : List (Option A)) (lines : List Line) (place : ℕ) (l : Line) (line : MixedLine A) → slice_get lines place ≡ Some l
    → aside_at asides place ≡ None → slice_get (mixed asides lines) place ≡ Some line → plain l ≡ line
line-plain asides lines place l line there says here =
    same_Some (plain l) line (sym (mixed-at asides lines place l there ∙ ap (λ s. Some (line_as s l)) says) ∙ here)

-- what holds of all asides, where each that it holds of has something else, too
pub all-later : {A : Type 0} (P Q : A → Type 0) → ((aside : A) → P aside → Q aside) →
    (asides : List (Option A)) → HoldsOfAsides P asides → HoldsOfAsides Q asides
all-later P Q on [] all = tt
all-later P Q on (None ∷ asides) all = (tt, all-later P Q on asides all.1)
all-later P Q on (Some aside ∷ asides) all = (on aside all.0, all-later P Q on asides all.1)
