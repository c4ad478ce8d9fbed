-- Pages of a directory, put together, have what is kept of it.
use Rattle.std.proofs.Common.{◌≡◌, ◌<◌, ◌≤◌, ℕ, zero, suc, Bool, true, false, nat_lt, nat_le, List, [], ◌∷◌, Option, Some, None, if◌then◌else◌, take}
use Rattle.std.proofs.Common.{length, refl, sym, subst, ap, ◌∙◌, arith, inl, inr}
use Rattle.std.specs.Prelude.{All}
use Rattle.std.specs.List.{filter}
use Rattle.std.proofs.lemmas.List.Elements.{All-head, All-tail}
use Rattle.std.proofs.lemmas.Bool.{and_parts}
use Rattle.std.proofs.lemmas.Bool.Decides.{nat_tests}
use Rattle.nq_directory.specs.declared.FileName.{FileName}
use Rattle.nq_directory.specs.Names.{named, name_before, put_name, put_names}
use Rattle.nq_directory.specs.Prefix.{directory}
use Rattle.nq_directory.proofs.Called.{same-name, same-self}
use Rattle.nq_directory.proofs.Order.{not-before-itself}
use Rattle.nq_model.proofs.Finding.{decided}
use Rattle.nq_model.specs.protocol.Change.{AreApart}
use Rattle.nq_model.specs.protocol.Kept.{File, find_name}
use Rattle.nq_model.specs.protocol.Profile.{same_bytes}
use Rattle.nq_directory.specs.Asking.{last_id}
use Rattle.nq_name_server.specs.Served.{is_behind, names_of, names_behind}
use Rattle.nq_name_server.specs.Lasting.{id_of}

-- ---- a name is put

-- two names that are one do not stand one before the other
not-both : (a b n : List ℕ) → same_bytes a n ≡ true → same_bytes b n ≡ true → name_before a b ≡ true → ⊥
not-both a b n x y h =
    let one : a ≡ b = same-name a n x ∙ sym (same-name b n y) in
    let no = not-before-itself b in
    let yes : name_before b b ≡ true = ap (λ z. name_before z b) (sym one) ∙ h in
    absurd (cc)

-- a name that was put is found, and the others are found as before
pub named-put : (name : List ℕ) (e : FileName) (xs : List FileName)
    → named name (put_name e xs) ≡ (if same_bytes e.name name then Some e.file else named name xs)
named-put name e [] = step (same_bytes e.name name) refl
  where
    step : (b : Bool) → same_bytes e.name name ≡ b → named name (e ∷ []) ≡ (if same_bytes e.name name then Some e.file else None)
    step true h = rw h refl
    step false h = rw h refl
named-put name e (x ∷ xs) = step (name_before x.name e.name) (same_bytes x.name name) (same_bytes e.name name) refl refl refl (named-put name e xs)
  where
    step : (b c d : Bool) → name_before x.name e.name ≡ b → same_bytes x.name name ≡ c → same_bytes e.name name ≡ d
        → named name (put_name e xs) ≡ (if same_bytes e.name name then Some e.file else named name xs)
        → named name (put_name e (x ∷ xs)) ≡ (if same_bytes e.name name then Some e.file else named name (x ∷ xs))
    step true true true h i j rest = absurd (not-both x.name e.name name i j h)
    step true true false h i j rest = rw (h, i, j) refl
    step true false d h i j rest = rw (h, i) rest
    step false c true h i j rest = rw (h, j) refl
    step false c false h i j rest = rw (h, j) refl

-- the first of two, if it is there
abbrev pub first_of : Option ℕ → Option ℕ → Option ℕ
first_of None other = other
first_of (Some x) other = Some x

-- no name is that of two entries
abbrev pub AreDistinct : List FileName → Type 0
AreDistinct [] = Unit {0}
AreDistinct (e ∷ es) = (named e.name es ≡ None) × AreDistinct es

-- names that were put are found, and the others are found as before
pub named-puts : (name : List ℕ) (es xs : List FileName) → AreDistinct es → named name (put_names es xs) ≡ first_of (named name es) (named name xs)
named-puts name [] xs d = refl
named-puts name (e ∷ es) xs d = named-puts name es (put_name e xs) d.1 ∙ ap (first_of (named name es)) (named-put name e xs)
    ∙ step (same_bytes e.name name) refl
  where
    step : (b : Bool) → same_bytes e.name name ≡ b
        → first_of (named name es) (if same_bytes e.name name then Some e.file else named name xs) ≡ first_of (named name (e ∷ es)) (named name xs)
    step true h =
        let none : named name es ≡ None = ap (λ n. named n es) (sym (same-name e.name name h)) ∙ d.0 in
        rw (h, none) refl
    step false h = rw h refl

-- ---- the files of a directory behind an id

-- files stand in order of their ids, all above this one
abbrev pub Ascends : ℕ → List FileName → Type 0
Ascends after [] = Unit {0}
Ascends after (e ∷ es) = (after < e.file) × Ascends e.file es

ascends-above : (q : File → Bool) (after : ℕ) (files : List File) → AreApart files → All (λ f. after < f.id) files → Ascends after (names_of (filter q files))
ascends-above q after [] apart above = tt
ascends-above q after (f ∷ files) apart above = elim (decided (q f)) [
  | inl h ↦ rw h (All-head (λ g. after < g.id) f files above, ascends-above q f.id files apart.2 apart.0)
  | inr h ↦ rw h (ascends-above q after files apart.2 (All-tail (λ g. after < g.id) f files above))
]

is-above : (after id : ℕ) → nat_lt after id ≡ true → after < id
is-above after id h = grind (arith, nat_tests)

pub behind-ascends : (prefix : List ℕ) (after : ℕ) (files : List File) → AreApart files → Ascends after (names_behind prefix after files)
behind-ascends prefix after [] apart = tt
behind-ascends prefix after (f ∷ files) apart = elim (decided (is_behind prefix after f)) [
  | inl h ↦ rw h (is-above after f.id (and_parts _ _ h).0, ascends-above (is_behind prefix after) f.id files apart.2 apart.0)
  | inr h ↦ rw h (behind-ascends prefix after files apart.2)
]

not-named : {A : Type 0} (b : Bool) (x : A) (rest : Option A) → (if b then Some x else rest) ≡ None → (b ≡ false) × (rest ≡ None)
not-named true x rest h = absurd (cc)
not-named false x rest h = (refl, h)

none-named : (q : File → Bool) (name : List ℕ) (files : List File) → find_name name files ≡ None → named name (names_of (filter q files)) ≡ None
none-named q name [] none = refl
none-named q name (f ∷ files) none =
    let p = not-named (same_bytes f.name name) f (find_name name files) none in
    let other : same_bytes f.name name ≡ false = p.0 in
    elim (decided (q f)) [
      | inl i ↦ rw (i, other) (none-named q name files p.1)
      | inr i ↦ rw i (none-named q name files p.1)
    ]

pub filtered-distinct : (q : File → Bool) (files : List File) → AreApart files → AreDistinct (names_of (filter q files))
filtered-distinct q [] apart = tt
filtered-distinct q (f ∷ files) apart = elim (decided (q f)) [
  | inl h ↦ rw h (none-named q f.name files apart.1, filtered-distinct q files apart.2)
  | inr h ↦ rw h (filtered-distinct q files apart.2)
]

-- the id of a file above this one
abbrev pub over : ℕ → Option File → Option ℕ
over after None = None
over after (Some f) = if nat_lt after f.id then Some f.id else None

-- what is found behind an id of a name in the directory
named-behind-step : (prefix : List ℕ) (after : ℕ) (name : List ℕ) (f : File) (files : List File) → AreApart (f ∷ files) → directory name ≡ prefix
    → (b c d : Bool) → same_bytes f.name name ≡ b → nat_lt after f.id ≡ c → same_bytes (directory f.name) prefix ≡ d
    → named name (names_behind prefix after files) ≡ over after (find_name name files)
    → named name (names_behind prefix after (f ∷ files)) ≡ over after (find_name name (f ∷ files))
named-behind-step prefix after name f files apart of true c false h i j rest =
    let yes : same_bytes (directory f.name) prefix ≡ true =
    ap (λ n. same_bytes (directory n) prefix) (same-name f.name name h) ∙ ap (λ p. same_bytes p prefix) of ∙ same-self prefix in
    absurd (cc)
named-behind-step prefix after name f files apart of true true true h i j rest = rw (i, j, h, i) refl
named-behind-step prefix after name f files apart of true false true h i j rest =
    let none : find_name name files ≡ None = ap (λ n. find_name n files) (sym (same-name f.name name h)) ∙ apart.1 in
    rw (i, h, i) (none-named (is_behind prefix after) name files none)
named-behind-step prefix after name f files apart of false true true h i j rest = rw (i, j, h) rest
named-behind-step prefix after name f files apart of false true false h i j rest = rw (i, j, h) rest
named-behind-step prefix after name f files apart of false false d h i j rest = rw (i, h) rest

pub named-behind : (prefix : List ℕ) (after : ℕ) (name : List ℕ) (files : List File) → AreApart files → directory name ≡ prefix
    → named name (names_behind prefix after files) ≡ over after (find_name name files)
named-behind prefix after name [] apart of = refl
named-behind prefix after name (f ∷ files) apart of =
    named-behind-step prefix after name f files apart of (same_bytes f.name name) (nat_lt after f.id) (same_bytes (directory f.name) prefix) refl refl refl
    (named-behind prefix after name files apart.2 of)

-- ---- a page of them

-- the number, where it is no greater than this one
abbrev pub cut : ℕ → Option ℕ → Option ℕ
cut last None = None
cut last (Some x) = if nat_le x last then Some x else None

named-here : (name : List ℕ) (e : FileName) (es : List FileName) → same_bytes e.name name ≡ true → named name (e ∷ es) ≡ Some e.file
named-here name e es h = rw h refl

named-there : (name : List ℕ) (e : FileName) (es : List FileName) → same_bytes e.name name ≡ false → named name (e ∷ es) ≡ named name es
named-there name e es h = rw h refl

-- a number that is found in order is above the first
pub named-above : (after : ℕ) (name : List ℕ) (es : List FileName) (x : ℕ) → Ascends after es → named name es ≡ Some x → after < x
named-above after name [] x up is = absurd (cc)
named-above after name (e ∷ es) x up is = elim (decided (same_bytes e.name name)) [
  | inl h ↦ let one : Some e.file ≡ Some x = sym (named-here name e es h) ∙ is in let same : e.file ≡ x = cc in let a = up.0 in omega arith
  | inr h ↦
      let a = up.0 in
      let b = named-above e.file name es x up.1 (sym (named-there name e es h) ∙ is) in
      omega arith
]

-- the last id of a page is not before the one behind which it begins
pub last-above : (k after : ℕ) (es : List FileName) → Ascends after es → after ≤ last_id after (take k es)
last-above zero after es up = omega arith
last-above (suc k) after [] up = omega arith
last-above (suc k) after (e ∷ es) up = let a = up.0 in let b = last-above k e.file es up.1 in omega arith

low-none : (after : ℕ) (o : Option ℕ) → ((x : ℕ) → o ≡ Some x → after < x) → None ≡ cut after o
low-none after None above = refl
low-none after (Some x) above = let a = above x refl in let no : nat_le x after ≡ false = grind (arith, nat_tests) in rw no refl

-- what a page has of a name
pub named-taken : (k after : ℕ) (name : List ℕ) (es : List FileName) → Ascends after es → named name (take k es) ≡ cut (last_id after (take k es))
    (named name es)
named-taken zero after name es up = low-none after (named name es) (λ x e. named-above after name es x up e)
named-taken (suc k) after name [] up = refl
named-taken (suc k) after name (e ∷ es) up = elim (decided (same_bytes e.name name)) [
  | inl h ↦
      let a = last-above k e.file es up.1 in
      let yes : nat_le e.file (last_id e.file (take k es)) ≡ true = grind (arith, nat_tests) in
      rw (h, yes) refl
  | inr h ↦ rw h (named-taken k e.file name es up.1)
]

none-taken : (m : ℕ) (name : List ℕ) (fs : List FileName) → named name fs ≡ None → named name (take m fs) ≡ None
none-taken zero name fs none = refl
none-taken (suc m) name [] none = refl
none-taken (suc m) name (g ∷ fs) none = elim (decided (same_bytes g.name name)) [
  | inl h ↦ let bad : Some g.file ≡ None = sym (named-here name g fs h) ∙ none in absurd (cc)
  | inr h ↦ rw h (none-taken m name fs (sym (named-there name g fs h) ∙ none))
]

pub taken-distinct : (k : ℕ) (es : List FileName) → AreDistinct es → AreDistinct (take k es)
taken-distinct zero es d = tt
taken-distinct (suc k) [] d = tt
taken-distinct (suc k) (e ∷ es) d = (none-taken k e.name es d.0, taken-distinct k es d.1)

-- ---- a list that grows

-- the id of a file up to this one
abbrev pub upto : ℕ → Option File → Option ℕ
upto after None = None
upto after (Some f) = if nat_le f.id after then Some f.id else None

-- a list has what is kept of a directory up to an id
abbrev pub IsUpTo : (prefix : List ℕ) → (after : ℕ) → (names : List FileName) → List File → Type 0
IsUpTo prefix after names files = (name : List ℕ) → directory name ≡ prefix → named name names ≡ upto after (find_name name files)

-- a list has what is kept of a directory
abbrev pub IsWhole : (prefix : List ℕ) → (names : List FileName) → List File → Type 0
IsWhole prefix names files = (name : List ℕ) → directory name ≡ prefix → named name names ≡ id_of (find_name name files)

-- a page has what is kept of a directory behind an id, the first so many
abbrev pub IsPage : (most : ℕ) → (prefix : List ℕ) → (after : ℕ) → (page : List FileName) → List File → Type 0
IsPage most prefix after page files = page ≡ take most (names_behind prefix after files)

pub grows : (most : ℕ) (prefix : List ℕ) (after : ℕ) (names page : List FileName) (files : List File) → AreApart files → IsUpTo prefix after names files
    → IsPage most prefix after page files → IsUpTo prefix (last_id after page) (put_names page names) files
grows most prefix after names page files apart before is name of =
    let ls = names_behind prefix after files in
    let up = behind-ascends prefix after files apart in
    let distinct : AreDistinct page = subst AreDistinct (sym is) (taken-distinct most ls (filtered-distinct (is_behind prefix after) files apart)) in
    let mine : named name page ≡ cut (last_id after page) (over after (find_name name files)) =
    subst (λ p. named name p ≡ cut (last_id after p) (over after (find_name name files))) (sym is)
    (named-taken most after name ls up ∙ ap (cut (last_id after (take most ls))) (named-behind prefix after name files apart of)) in
    let later : after ≤ last_id after page = subst (λ p. after ≤ last_id after p) (sym is) (last-above most after ls up) in
    named-puts name page names distinct
    ∙ ap (λ o. first_of o (named name names)) mine
    ∙ ap (first_of (cut (last_id after page) (over after (find_name name files)))) (before name of)
    ∙ both (last_id after page) later (find_name name files)
  where
    joined : (last id : ℕ) (b c d : Bool) → after ≤ last → nat_lt after id ≡ b → nat_le id after ≡ c → nat_le id last ≡ d
        → first_of (cut last (if b then Some id else None)) (if c then Some id else None) ≡ (if d then Some id else None)
    joined last id true true d le h i j = let bad : true ≡ false = grind (arith, nat_tests) in absurd (cc)
    joined last id true false true le h i j = rw j refl
    joined last id true false false le h i j = rw j refl
    joined last id false true true le h i j = refl
    joined last id false true false le h i j = let bad : true ≡ false = grind (arith, nat_tests) in absurd (cc)
    joined last id false false d le h i j = let bad : true ≡ false = grind (arith, nat_tests) in absurd (cc)

    both : (last : ℕ) → after ≤ last → (o : Option File) → first_of (cut last (over after o)) (upto after o) ≡ upto last o
    both last le None = refl
    both last le (Some f) = joined last f.id (nat_lt after f.id) (nat_le f.id after) (nat_le f.id last) le refl refl refl

taken-whole : (most : ℕ) (es : List FileName) → length es ≤ most → take most es ≡ es
taken-whole zero [] few = refl
taken-whole (suc most) [] few = refl
taken-whole zero (e ∷ es) few = absurd (omega arith)
taken-whole (suc most) (e ∷ es) few = ap (λ l. e ∷ l) (taken-whole most es (omega arith))

pub becomes-whole : (most : ℕ) (prefix : List ℕ) (after : ℕ) (names page : List FileName) (files : List File) → AreApart files
    → IsUpTo prefix after names files
    → IsPage most prefix after page files → nat_lt most (length (names_behind prefix after files)) ≡ false → IsWhole prefix (put_names page names) files
becomes-whole most prefix after names page files apart before is few name of =
    let ls = names_behind prefix after files in
    let short : length ls ≤ most = grind (arith, nat_tests) in
    let all : page ≡ ls = is ∙ taken-whole most ls short in
    let distinct : AreDistinct page = subst AreDistinct (sym all) (filtered-distinct (is_behind prefix after) files apart) in
    named-puts name page names distinct
    ∙ ap (λ o. first_of o (named name names)) (ap (named name) all ∙ named-behind prefix after name files apart of)
    ∙ ap (first_of (over after (find_name name files))) (before name of)
    ∙ both (find_name name files)
  where
    joined : (id : ℕ) (b c : Bool) → nat_lt after id ≡ b → nat_le id after ≡ c → first_of (if b then Some id else None) (if c then Some id else None) ≡ Some id
    joined id true c h i = refl
    joined id false true h i = refl
    joined id false false h i = let bad : true ≡ false = grind (arith, nat_tests) in absurd (cc)

    both : (o : Option File) → first_of (over after o) (upto after o) ≡ id_of o
    both None = refl
    both (Some f) = joined f.id (nat_lt after f.id) (nat_le f.id after) refl refl

-- nothing is what is kept up to 0
pub nothing-yet : (prefix : List ℕ) (files : List File) → ((name : List ℕ) (f : File) → find_name name files ≡ Some f → 1 ≤ f.id) → IsUpTo prefix 0 [] files
nothing-yet prefix files from name of = step (find_name name files) refl
  where
    step : (o : Option File) → find_name name files ≡ o → None ≡ upto 0 o
    step None e = refl
    step (Some f) e = let some = from name f e in let no : nat_le f.id 0 ≡ false = grind (arith, nat_tests) in rw no refl
