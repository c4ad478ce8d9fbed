-- The files of an image in order of their ids.
use Rattle.std.proofs.Common.{◌≡◌, ◌≢◌, ◌≤◌, ◌<◌, ◌^◌, ◌+◌, ◌==◌, ℕ, suc, Bool, true, false, ◌||◌, List, [], ◌∷◌, ◌++◌, Option, Some, None, drop}
use Rattle.std.proofs.Common.{length, get_or, if◌then◌else◌, refl, sym, ap, subst, ◌∙◌, arith, length-append}
use Rattle.std.specs.List.{All, insert, list_any, prefix_len, sum_by}
use Rattle.std.specs.Prelude.{nat_lt, nat_eq, not, slice_index_or, unwrap_or}
use Rattle.std.specs.Cmp.Lexicographic.{pointwise}
use Rattle.std.proofs.lemmas.Bool.Decides.{nat_tests}
use Rattle.std.proofs.lemmas.List.{append_assoc, append-nil}
use Rattle.std.proofs.lemmas.List.Elements.{All-cons, All-nil, All-head, All-tail, All-weaker}
use Rattle.std.proofs.lemmas.List.Folds.{list_any-append}
use Rattle.std.proofs.lemmas.List.Sums.{prefix_len-le-length, sum_by-append, sum_by-cons}
use Rattle.std.proofs.lemmas.Slice.Eq.{bytes_eq-Decides}
use Rattle.nq_base.specs.Name.{IsName}
use Rattle.nq_image.specs.Kept.{files_of, found_file, is_later, place_of, with_slot}
use Rattle.nq_image.specs.Rows.{blocks_of, has_name, is_named}
use Rattle.nq_image.specs.declared.kept.FoundFile.{FoundFile}
use Rattle.nq_image.specs.declared.rows.Slot.{Slot}
use Rattle.nq_image.specs.declared.rows.Version.{Version}
use Rattle.nq_image.proofs.Holding.{AreIdsRight, AreRowsRight, IsIdRight, IsRowRight, IsSlotRight}

-- ---- a file put before the first with a later id

abbrev pub put : (id : ℕ) → FoundFile → List FoundFile → List FoundFile
put id x [] = x ∷ []
put id x (f ∷ files) = if nat_lt id f.row.id then x ∷ f ∷ files else f ∷ put id x files

chosen : (b : Bool) (n len : ℕ) → nat_lt n len ≡ b → n ≤ len → unwrap_or (if b then Some n else None) len ≡ n
chosen true n len is le = refl
chosen false n len is le = grind (arith, nat_tests)

put-step : (b : Bool) (n : ℕ) (f x : FoundFile) (files more : List FoundFile) → insert files n x ≡ more → insert (f ∷ files) (if not b then 1 + n
    else 0) x ≡ (if b then x ∷ f ∷ files else f ∷ more)
put-step true n f x files more same = refl
put-step false n f x files more same =
    let next : 1 + n ≡ suc n = omega arith in
    ap (λ (k : ℕ). insert (f ∷ files) k x) next ∙ ap (λ (l : List FoundFile). f ∷ l) same

put-at : (id : ℕ) (x : FoundFile) (files : List FoundFile) → insert files (prefix_len (λ f. not (is_later id f)) files) x ≡ put id x files
put-at id x [] = refl
put-at id x (f ∷ files) =
    put-step (nat_lt id f.row.id) (prefix_len (λ g. not (is_later id g)) files) f x files (put id x files) (put-at id x files)

pub insert-is-put : (id : ℕ) (x : FoundFile) (files : List FoundFile) → insert files (place_of id files) x ≡ put id x files
insert-is-put id x files =
    let n = prefix_len (λ f. not (is_later id f)) files in
    ap (λ (k : ℕ). insert files k x) (chosen (nat_lt n (length files)) n (length files) refl (prefix_len-le-length (λ f. not (is_later id f)) files))
    ∙ put-at id x files

-- ---- what a put keeps

all-either : (P : FoundFile → Type 0) (b : Bool) (one two : List FoundFile) → All P one → All P two → All P (if b then one else two)
all-either P true one two a c = a
all-either P false one two a c = c

pub all-put : (P : FoundFile → Type 0) (id : ℕ) (x : FoundFile) (files : List FoundFile) → P x → All P files → All P (put id x files)
all-put P id x [] own all = All-cons P x [] own (All-nil P)
all-put P id x (f ∷ files) own all =
    all-either P (nat_lt id f.row.id) (x ∷ f ∷ files) (f ∷ put id x files) (All-cons P x (f ∷ files) own all)
    (All-cons P f (put id x files) (All-head P f files all) (all-put P id x files own (All-tail P f files all)))

length-step : (b : Bool) (f x : FoundFile) (files more : List FoundFile) → length more ≡ length files + 1 → length (if b then x ∷ f ∷ files else f
    ∷ more) ≡ length (f ∷ files) + 1
length-step true f x files more e = omega arith
length-step false f x files more e = omega (arith, e)

pub length-put : (id : ℕ) (x : FoundFile) (files : List FoundFile) → length (put id x files) ≡ length files + 1
length-put id x [] = refl
length-put id x (f ∷ files) = length-step (nat_lt id f.row.id) f x files (put id x files) (length-put id x files)

abbrev pub own_blocks : FoundFile → ℕ
own_blocks f = f.row.blocks

sum-step : (b : Bool) (f x : FoundFile) (files more : List FoundFile) → sum_by own_blocks more ≡ sum_by own_blocks files + own_blocks x
    → sum_by own_blocks (if b then x ∷ f ∷ files else f ∷ more) ≡ sum_by own_blocks (f ∷ files) + own_blocks x
sum-step true f x files more e = omega (arith, sum_by-cons own_blocks x (f ∷ files))
sum-step false f x files more e = omega (arith, e, sum_by-cons own_blocks f files, sum_by-cons own_blocks f more)

pub sum-put : (id : ℕ) (x : FoundFile) (files : List FoundFile) → sum_by own_blocks (put id x files) ≡ sum_by own_blocks files + own_blocks x
sum-put id x [] = omega (arith, sum_by-cons own_blocks x [])
sum-put id x (f ∷ files) = sum-step (nat_lt id f.row.id) f x files (put id x files) (sum-put id x files)

-- ---- files in order, with names of their own

abbrev pub IsBefore : FoundFile → FoundFile → Type 0
IsBefore f later = (f.row.id < later.row.id) × (f.row.name ≢ later.row.name)

abbrev pub AreInRow : List FoundFile → Type 0
AreInRow [] = Unit {0}
AreInRow (f ∷ files) = All (IsBefore f) files × AreInRow files

-- a file that none of these is
abbrev pub IsOther : FoundFile → FoundFile → Type 0
IsOther x f = (f.row.id ≢ x.row.id) × (f.row.name ≢ x.row.name)

further : (x f later : FoundFile) → x.row.id < f.row.id → IsBefore f later → IsOther x later → IsBefore x later
further x f later lt before other = let a = before.0 in (omega arith, λ e. other.1 (sym e))

both-of : (P Q : FoundFile → Type 0) (R : FoundFile → Type 0) (files : List FoundFile) → ((f : FoundFile) → P f → Q f → R f) → All P files
    → All Q files → All R files
both-of P Q R files both one two = λ k d lt. both (get_or files k d) (one k d lt) (two k d lt)

row-step : (b : Bool) (f x : FoundFile) (files : List FoundFile) → nat_lt x.row.id f.row.id ≡ b → AreInRow (f ∷ files) → All (IsOther x) (f ∷ files)
    → AreInRow (put x.row.id x files) → AreInRow (if b then x ∷ f ∷ files else f ∷ put x.row.id x files)
row-step true f x files is row other more =
    let lt : x.row.id < f.row.id = grind (arith, nat_tests) in
    let own = All-head (IsOther x) f files other in
    let first : IsBefore x f = (lt, λ e. own.1 (sym e)) in
    let rest = both-of (IsBefore f) (IsOther x) (IsBefore x) files (λ later before o. further x f later lt before o) row.0
    (All-tail (IsOther x) f files other) in
    (All-cons (IsBefore x) f files first rest, row)
row-step false f x files is row other more =
    let own = All-head (IsOther x) f files other in
    let apart = own.0 in
    let lt : f.row.id < x.row.id = grind (arith, nat_tests) in
    (all-put (IsBefore f) x.row.id x files (lt, own.1) row.0, more)

pub row-put : (x : FoundFile) (files : List FoundFile) → AreInRow files → All (IsOther x) files → AreInRow (put x.row.id x files)
row-put x [] row other = (All-nil (IsBefore x), tt)
row-put x (f ∷ files) row other =
    row-step (nat_lt x.row.id f.row.id) f x files refl row other (row-put x files row.1 (All-tail (IsOther x) f files other))

-- ---- the files of the rows

-- the numbers of a file are within their bounds, with so many blocks in all
pub record IsFileRight (next total : ℕ) (f : FoundFile) : Type 0 where
  pub from_one : 1 ≤ f.row.id
  pub below_next : f.row.id < next
  pub name : IsName f.row.name
  pub rev : f.row.rev < 2 ^ 61
  pub not_empty : 1 ≤ f.row.blocks
  pub short : f.row.blocks ≤ 1024
  pub within : f.start + f.row.blocks ≤ total

-- the files of these rows with these ids
pub record AreFilesRight (next total : ℕ) (before : List (Option Slot)) (known : List ℕ) (files : List FoundFile) : Type 0 where
  pub right : All (IsFileRight next total) files
  pub row : AreInRow files
  pub named : All (λ f. is_named f.row.name before ≡ true) files
  pub known_ids : All (λ f. list_any (λ k. k == f.row.id) known ≡ true) files
  pub few : length files ≤ length before
  pub blocks : sum_by own_blocks files ≡ sum_by blocks_of before

named-more : (name : List ℕ) (before : List (Option Slot)) (slot : Option Slot) → is_named name before ≡ true → is_named name (before ++ slot ∷ []) ≡ true
named-more name before slot h = rw (list_any-append (has_name name) before (slot ∷ []), h) refl

known-more : (id : ℕ) (known : List ℕ) (more : ℕ) → list_any (λ k. k == id) known ≡ true → list_any (λ k. k == id) (known ++ more ∷ []) ≡ true
known-more id known more h = rw (list_any-append (λ k. k == id) known (more ∷ []), h) refl

same-name : (name : List ℕ) → pointwise nat_eq name name ≡ true
same-name name = (bytes_eq-Decides name name).1 refl

same-id : (id : ℕ) → (id == id) ≡ true
same-id id = grind (arith, nat_tests)

or-true : (b : Bool) → (b || true) ≡ true
or-true true = refl
or-true false = refl

last-any : {X : Type 0} (p : X → Bool) (xs : List X) (x : X) → p x ≡ true → list_any p (xs ++ x ∷ []) ≡ true
last-any p [] x h = rw h refl
last-any p (y ∷ xs) x h = rw (last-any p xs x h) (or-true (p y))

-- a file that the rows have is not that of another row
other-file : (x f : FoundFile) (before : List (Option Slot)) (known : List ℕ) → is_named x.row.name before ≡ false → list_any (λ k. k == x.row.id)
    known ≡ false → is_named f.row.name before ≡ true → list_any (λ k. k == f.row.id) known ≡ true → IsOther x f
other-file x f before known own new named is_known = (
  (λ e. let P : ℕ → Type 0 = λ id. list_any (λ k. k == id) known ≡ true in let a = subst P e is_known in cc),
  (λ e. let P : List ℕ → Type 0 = λ name. is_named name before ≡ true in let a = subst P e named in cc),
)

with-file : (version : Version) (next total id start : ℕ) (before : List (Option Slot)) (known : List ℕ) (slot : Slot) (files : List FoundFile)
    → IsSlotRight version before slot → IsIdRight next known (Some slot) id → start + slot.blocks ≤ total → AreFilesRight next total before known
    files → AreFilesRight next total (before ++ Some slot ∷ []) (known ++ id ∷ []) (put id (found_file id start slot) files)
unfolding found_file
with-file version next total id start before known slot files row own within so =
    let x = found_file id start slot in
    let named = All-weaker (λ f. is_named f.row.name before ≡ true) (λ f. is_named f.row.name (before ++ Some slot ∷ []) ≡ true)
    (λ f h. named-more f.row.name before (Some slot) h) files so.named in
    let ids = All-weaker (λ f. list_any (λ k. k == f.row.id) known ≡ true) (λ f. list_any (λ k. k == f.row.id) (known ++ id ∷ []) ≡ true)
    (λ f h. known-more f.row.id known id h) files so.known_ids in
    let others = both-of (λ f. is_named f.row.name before ≡ true) (λ f. list_any (λ k. k == f.row.id) known ≡ true) (IsOther x) files
    (λ f one two. other-file x f before known row.own own.2 one two) so.named so.known_ids in
    record {
      right = all-put (IsFileRight next total) id x files (record {
        from_one = own.0;
        below_next = own.1;
        name = row.name;
        rev = row.rev;
        not_empty =
            row.some;
        short = row.short;
        within = within;
      }) so.right;
      row = row-put x files so.row others;
      named = all-put (λ f. is_named f.row.name (before ++ Some slot ∷ []) ≡ true) id x files (last-any (has_name slot.name) before (Some slot)
          (same-name slot.name)) named;
      known_ids = all-put (λ f. list_any (λ k. k == f.row.id) (known ++ id ∷ []) ≡ true) id x files (last-any (λ k. k == id) known id (same-id id)) ids;
      few = let a = so.few in omega (arith, length-put id x files, length-append before (Some slot ∷ []));
      blocks = let a = so.blocks in omega (arith, sum-put id x files, sum_by-append blocks_of before (Some slot ∷ []));
    }

one-slot : (version : Version) (next total id start : ℕ) (before : List (Option Slot)) (known : List ℕ) (slot : Option Slot) (files : List FoundFile)
    → IsRowRight version before slot → IsIdRight next known slot id → start + blocks_of slot ≤ total → AreFilesRight next total before known files
    → AreFilesRight next total (before ++ slot ∷ []) (known ++ id ∷ []) (with_slot id start slot files)
one-slot version next total id start before known None files row own within so = record {
  right = so.right;
  row = so.row;
  named = All-weaker (λ f. is_named f.row.name before ≡ true) (λ f. is_named f.row.name (before ++ None ∷ []) ≡ true) (λ f h. named-more f.row.name
      before None h) files so.named;
  known_ids = All-weaker (λ f. list_any (λ k. k == f.row.id) known ≡ true) (λ f. list_any (λ k. k == f.row.id) (known ++ id ∷ []) ≡ true)
      (λ f h. known-more f.row.id known id h) files so.known_ids;
  few = let a = so.few in omega (arith, length-append before (None ∷ []));
  blocks = let a = so.blocks in omega (arith, sum_by-append blocks_of before (None ∷ []));
}
one-slot version next total id start before known (Some slot) files row own within so =
    let x = found_file id start slot in
    let P : List FoundFile → Type 0 = λ all. AreFilesRight next total (before ++ Some slot ∷ []) (known ++ id ∷ []) all in
    subst P (sym (insert-is-put id x files)) (with-file version next total id start before known slot files row own within so)

append-cons : {X : Type 0} (xs : List X) (x : X) (ys : List X) → (xs ++ x ∷ []) ++ ys ≡ xs ++ x ∷ ys
append-cons xs x ys = append_assoc xs (x ∷ []) ys

pub files-right : (version : Version) (next total start : ℕ) (before : List (Option Slot)) (known : List ℕ) (slots : List (Option Slot))
    (ids : List ℕ) (files : List FoundFile) → AreRowsRight version before slots → AreIdsRight next known slots ids → start + sum_by blocks_of slots
    ≡ total → AreFilesRight next total before known files → (all_known : List ℕ) × AreFilesRight next total (before ++ slots) all_known
    (files_of files start slots ids)
unfolding files_of
files-right version next total start before known [] ids files rows own sum so =
    let P : List (Option Slot) → Type 0 = λ all. AreFilesRight next total all known files in
    (known, subst P (sym (append-nil before)) so)
files-right version next total start before known (slot ∷ slots) ids files rows own sum so =
    let id = slice_index_or ids 0 0 in
    let sums = sum_by-cons blocks_of slot slots in
    let one = one-slot version next total id start before known slot files rows.0 own.0 (omega arith) so in
    let rest = files-right version next total (start + blocks_of slot) (before ++ slot ∷ []) (known ++ id ∷ []) slots (drop 1 ids)
    (with_slot id start slot files) rows.1 own.1 (omega arith) one in
    let P : List (Option Slot) → Type 0 = λ all. AreFilesRight next total all rest.0 (files_of (with_slot id start slot files)
    (start + blocks_of slot) slots (drop 1 ids)) in
    (rest.0, subst P (append-cons before slot slots) rest.1)
