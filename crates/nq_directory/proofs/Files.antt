-- Files in order of their ids, read one behind the other, and those of them that are of a list.
use Rattle.std.proofs.Common.{◌≡◌, ◌<◌, ◌≤◌, ℕ, zero, suc, ◌+◌, ◌-◌, Bool, true, false, List, [], ◌∷◌, ◌++◌, Option, Some, None}
use Rattle.std.proofs.Common.{if◌then◌else◌, take, length, refl, sym, subst, ap, ◌∙◌, arith, inl, inr, length-append, append_assoc, append-nil}
use Rattle.std.specs.Prelude.{All, nat_lt}
use Rattle.std.proofs.lemmas.List.Elements.{All-head, All-tail}
use Rattle.std.proofs.lemmas.Bool.Decides.{nat_tests}
use Rattle.nq_base.specs.declared.FileRow.{FileRow}
use Rattle.nq_directory.specs.declared.names.FileName.{FileName}
use Rattle.nq_directory.specs.Messages.{most_names}
use Rattle.nq_model.proofs.Finding.{decided}
use Rattle.nq_model.specs.protocol.Change.{AreApart, IsWithinBounds, file_after, row_of, row_of_found}
use Rattle.nq_model.specs.protocol.Kept.{File, Kept}
use Rattle.nq_directory.specs.Files.{IsNext, Leaf, leaf_of, name_of, own_behind}

-- ---- the rows that are read

pub row-none : (o : Option File) → None ≡ row_of_found o → o ≡ None
row-none None is = refl
row-none (Some f) is = absurd (cc)

pub row-some : (o : Option File) (r : FileRow) → Some r ≡ row_of_found o → (f : File) × ((o ≡ Some f) × (r ≡ row_of f))
row-some None r is = absurd (cc)
row-some (Some f) r is = (f, (refl, (let e : r ≡ row_of f = cc in e)))

passed-none : {A : Type 0} (b : Bool) (x : A) (rest : Option A) → (if b then Some x else rest) ≡ None → (b ≡ false) × (rest ≡ None)
passed-none true x rest h = absurd (cc)
passed-none false x rest h = (refl, h)

passed-some : {A : Type 0} (b : Bool) (x y : A) (rest : Option A) → (if b then Some x else rest) ≡ Some y → b ≡ true → x ≡ y
passed-some true x y rest h is = cc
passed-some false x y rest h is = absurd (cc)

passed-on : {A : Type 0} (b : Bool) (x y : A) (rest : Option A) → (if b then Some x else rest) ≡ Some y → b ≡ false → rest ≡ Some y
passed-on true x y rest h is = absurd (cc)
passed-on false x y rest h is = h

-- ---- the files of a list behind an id

none-behind : (is_own : List ℕ → Bool) (after : ℕ) (files : List File) → file_after after files ≡ None → own_behind is_own after files ≡ []
none-behind is_own after [] none = refl
none-behind is_own after (f ∷ files) none =
    let p = passed-none (nat_lt after f.id) f (file_after after files) none in
    let no : nat_lt after f.id ≡ false = p.0 in
    rw no (none-behind is_own after files p.1)

pub above-id : (after id : ℕ) → nat_lt after id ≡ true → after < id
above-id after id h = grind (arith, nat_tests)

pub found-above : (after : ℕ) (files : List File) (g : File) → file_after after files ≡ Some g → after < g.id
found-above after [] g found = absurd (cc)
found-above after (f ∷ files) g found = elim (decided (nat_lt after f.id)) [
  | inl e ↦ subst (λ (x : File). after < x.id) (passed-some (nat_lt after f.id) f g (file_after after files) found e) (above-id after f.id e)
  | inr e ↦ found-above after files g (passed-on (nat_lt after f.id) f g (file_after after files) found e)
]

pub tail-above : (a : ℕ) (f : File) (files : List File) → All (λ (x : File). a < x.id) (f ∷ files) → All (λ (x : File). a < x.id) files
tail-above a f files above = All-tail (λ (x : File). a < x.id) f files above

pub same-behind : (is_own : List ℕ → Bool) (a b : ℕ) (files : List File) → All (λ (x : File). a < x.id) files → All (λ (x : File). b < x.id) files
    → own_behind is_own a files ≡ own_behind is_own b files
same-behind is_own a b [] first second = refl
same-behind is_own a b (f ∷ files) first second =
    let rest = same-behind is_own a b files (tail-above a f files first) (tail-above b f files second) in
    let low : a < f.id = All-head (λ (x : File). a < x.id) f files first in
    let high : b < f.id = All-head (λ (x : File). b < x.id) f files second in
    let one : nat_lt a f.id ≡ true = grind (arith, nat_tests) in
    let two : nat_lt b f.id ≡ true = grind (arith, nat_tests) in
    elim (decided (is_own f.name)) [
      | inl h ↦ rw (one, two, h) (ap (λ l. name_of f ∷ l) rest)
      | inr h ↦ rw (one, two, h) rest
    ]

pub all-further : (a b : ℕ) (files : List File) → a ≤ b → All (λ (x : File). b < x.id) files → All (λ (x : File). a < x.id) files
all-further a b files le above k d lt = let own = above k d lt in omega arith

-- the next file of all is of the list, or it is not
abbrev NextBehind : (is_own : List ℕ → Bool) (after : ℕ) (files : List File) (g : File) → Type 0
NextBehind is_own after files g =
    (is_own g.name ≡ true → own_behind is_own after files ≡ name_of g ∷ own_behind is_own g.id files)
    × (is_own g.name ≡ false → own_behind is_own after files ≡ own_behind is_own g.id files)

first-behind : (is_own : List ℕ → Bool) (after : ℕ) (f : File) (files : List File) → All (λ (x : File). f.id < x.id) files → after < f.id
    → NextBehind is_own after (f ∷ files) f
first-behind is_own after f files above less =
    let one : nat_lt after f.id ≡ true = grind (arith, nat_tests) in
    let own : nat_lt f.id f.id ≡ false = grind (arith, nat_tests) in
    let rest = same-behind is_own after f.id files (all-further after f.id files (omega arith) above) above in
    (λ h. rw (one, own, h) (ap (λ l. name_of f ∷ l) rest), λ h. rw (one, own, h) rest)

next-behind : (is_own : List ℕ → Bool) (after : ℕ) (files : List File) (g : File) → AreApart files → file_after after files ≡ Some g → NextBehind is_own after files g
next-behind is_own after [] g apart found = absurd (cc)
next-behind is_own after (f ∷ files) g apart found = elim (decided (nat_lt after f.id)) [
  | inl e ↦
      subst (NextBehind is_own after (f ∷ files)) (passed-some (nat_lt after f.id) f g (file_after after files) found e)
      (first-behind is_own after f files apart.0 (above-id after f.id e))
  | inr e ↦
      let on = passed-on (nat_lt after f.id) f g (file_after after files) found e in
      let up : after < g.id = found-above after files g on in
      let other : nat_lt g.id f.id ≡ false = grind (arith, nat_tests) in
      rw (e, other) (next-behind is_own after files g apart.2 on)
]

-- ---- pages

take-front : {A : Type 0} (xs ys : List A) → take (length xs) (xs ++ ys) ≡ xs
take-front [] ys = refl
take-front (x ∷ xs) ys = ap (λ l. x ∷ l) (take-front xs ys)

take-whole : {A : Type 0} (most : ℕ) (xs : List A) → length xs ≤ most → take most xs ≡ xs
take-whole zero [] less = refl
take-whole zero (x ∷ xs) less = absurd (omega arith)
take-whole (suc most) [] less = refl
take-whole (suc most) (x ∷ xs) less = ap (λ l. x ∷ l) (take-whole most xs (omega arith))

whole-page : (most : ℕ) (names : List FileName) → length names ≤ most → (take most names ≡ names) × (nat_lt most (length names) ≡ false)
whole-page most names few = (take-whole most names few, grind (arith, nat_tests))

full-page : (most : ℕ) (names : List FileName) (e : FileName) (rest : List FileName) → length names ≡ most → (take most (names ++ e ∷ rest) ≡ names)
    × (nat_lt most (length (names ++ e ∷ rest)) ≡ true)
full-page most names e rest all =
    let many : length (names ++ e ∷ rest) ≡ length names + length (e ∷ rest) = length-append names (e ∷ rest) in
    (ap (λ n. take n (names ++ e ∷ rest)) (sym all) ∙ take-front names (e ∷ rest), grind (arith, nat_tests))

pub ends : (is_own : List ℕ → Bool) (start : ℕ) (names : List FileName) (last : ℕ) (kept : Kept) → IsNext kept last None → length names ≤ most_names
    → own_behind is_own start kept.files ≡ names ++ own_behind is_own last kept.files → record { names = names; more = false }
    ≡ leaf_of (own_behind is_own start kept.files)
ends is_own start names last kept next few far =
    let rest : own_behind is_own last kept.files ≡ [] = none-behind is_own last kept.files (row-none (file_after last kept.files) next) in
    let all : own_behind is_own start kept.files ≡ names = far ∙ ap (λ l. names ++ l) rest ∙ append-nil names in
    let page = whole-page most_names names few in
    ap (λ l. record { names = l; more = false }) (sym page.0)
    ∙ ap (λ m. record { names = take most_names names; more = m }) (sym page.1)
    ∙ ap (λ l. record { names = take most_names l; more = nat_lt most_names (length l) }) (sym all)

-- the names so far with one more
more-with : (is_own : List ℕ → Bool) (start : ℕ) (names : List FileName) (last : ℕ) (kept : Kept) (r : FileRow) → IsWithinBounds kept → IsNext kept last (Some r)
    → own_behind is_own start kept.files ≡ names ++ own_behind is_own last kept.files → is_own r.name ≡ true
    → own_behind is_own start kept.files ≡ names ++ record { file = r.id; name = r.name } ∷ own_behind is_own r.id kept.files
more-with is_own start names last kept r within next far own =
    let f = row-some (file_after last kept.files) r next in
    let is : r ≡ row_of f.0 = f.1.1 in
    let test : is_own f.0.name ≡ true = ap (λ (x : FileRow). is_own x.name) (sym is) ∙ own in
    far ∙ ap (λ l. names ++ l) ((next-behind is_own last kept.files f.0 within.apart f.1.0).0 test)
    ∙ ap (λ (x : FileRow). names ++ record { file = x.id; name = x.name } ∷ own_behind is_own x.id kept.files) (sym is)

pub full : (is_own : List ℕ → Bool) (start : ℕ) (names : List FileName) (last : ℕ) (kept : Kept) (r : FileRow) → IsWithinBounds kept → IsNext kept last (Some r)
    → own_behind is_own start kept.files ≡ names ++ own_behind is_own last kept.files → is_own r.name ≡ true
    → length names ≤ most_names → most_names ≤ length names → record { names = names; more = true } ≡ leaf_of (own_behind is_own start kept.files)
full is_own start names last kept r within next far own few many =
    let e : FileName = record { file = r.id; name = r.name } in
    let rest = own_behind is_own r.id kept.files in
    let all : own_behind is_own start kept.files ≡ names ++ e ∷ rest = more-with is_own start names last kept r within next far own in
    let page = full-page most_names names e rest (omega arith) in
    ap (λ l. record { names = l; more = true }) (sym page.0)
    ∙ ap (λ m. record { names = take most_names (names ++ e ∷ rest); more = m }) (sym page.1)
    ∙ ap (λ l. record { names = take most_names l; more = nat_lt most_names (length l) }) (sym all)

pub one-more : (is_own : List ℕ → Bool) (start : ℕ) (names : List FileName) (last : ℕ) (kept : Kept) (r : FileRow) → IsWithinBounds kept → IsNext kept last (Some r)
    → own_behind is_own start kept.files ≡ names ++ own_behind is_own last kept.files → is_own r.name ≡ true
    → own_behind is_own start kept.files ≡ (names ++ record { file = r.id; name = r.name } ∷ []) ++ own_behind is_own r.id kept.files
one-more is_own start names last kept r within next far own =
    more-with is_own start names last kept r within next far own
    ∙ sym (append_assoc names (record { file = r.id; name = r.name } ∷ []) (own_behind is_own r.id kept.files))

pub passed-by : (is_own : List ℕ → Bool) (start : ℕ) (names : List FileName) (last : ℕ) (kept : Kept) (r : FileRow) → IsWithinBounds kept → IsNext kept last (Some r)
    → own_behind is_own start kept.files ≡ names ++ own_behind is_own last kept.files → is_own r.name ≡ false
    → own_behind is_own start kept.files ≡ names ++ own_behind is_own r.id kept.files
passed-by is_own start names last kept r within next far other =
    let f = row-some (file_after last kept.files) r next in
    let row : r ≡ row_of f.0 = f.1.1 in
    let test : is_own f.0.name ≡ false = ap (λ (x : FileRow). is_own x.name) (sym row) ∙ other in
    far ∙ ap (λ l. names ++ l) ((next-behind is_own last kept.files f.0 within.apart f.1.0).1 test)
    ∙ ap (λ (x : FileRow). names ++ own_behind is_own x.id kept.files) (sym row)
