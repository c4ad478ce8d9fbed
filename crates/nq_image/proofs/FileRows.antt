-- Rows of files are read back.
use Rattle.std.proofs.Common.{◌≡◌, ◌≢◌, ◌≤◌, ◌<◌, ◌^◌, ◌+◌, ◌-◌, ◌*◌, ◌==◌, ◌||◌, ℕ, zero, suc, Bool, true, false, List, [], ◌∷◌, ◌++◌, Option, Some}
use Rattle.std.proofs.Common.{None, take, drop, length, if◌then◌else◌, refl, sym, ap, subst, ◌∙◌, arith, length-append}
use Rattle.std.specs.List.{All, sum_by}
use Rattle.std.specs.Prelude.{nat_le, nat_eq, not}
use Rattle.std.specs.Int.{w32, w64, from_be_bytes}
use Rattle.std.specs.Cmp.Lexicographic.{pointwise}
use Rattle.std.proofs.lemmas.Bool.Decides.{nat_tests}
use Rattle.std.proofs.lemmas.List.{take_at, drop_at, drop-drop}
use Rattle.std.proofs.lemmas.List.Elements.{All-cons, All-nil, All-head, All-tail}
use Rattle.std.proofs.lemmas.List.Folds.{list_any-append}
use Rattle.std.proofs.lemmas.List.Sums.{sum_by-append, sum_by-cons}
use Rattle.std.proofs.lemmas.Nat.{from_be_bytes-to_be_bytes_4, from_be_bytes-to_be_bytes_8}
use Rattle.std.proofs.lemmas.Slice.Eq.{bytes_eq-Decides}
use Rattle.nq_base.specs.Name.{IsName, is_name}
use Rattle.nq_base.proofs.NameTests.{name_decides}
use Rattle.nq_model.specs.protocol.Change.{AreApart, IsFileWithin}
use Rattle.nq_model.specs.protocol.Kept.{File, blocks_in_all, blocks_of as length_of, find_name}
use Rattle.nq_model.specs.protocol.Profile.{same_bytes}
use Rattle.nq_image.specs.Layout.{piece, word_in, hyper_in, are_zeros}
use Rattle.nq_image.specs.Rows.{behind_name, blocks_of, has_name, is_named, name_holds, name_in, row_checks, rows_checks, slot_of, slots_of}
use Rattle.nq_image.specs.Rows.{used_checks, used_slot}
use Rattle.nq_image.specs.Writing.{numbers_bytes, row_bytes, rows_bytes, zeros_of}
use Rattle.nq_image.specs.declared.rows.Slot.{Slot}
use Rattle.nq_image.specs.declared.rows.Version.{Version}
use Rattle.nq_image.proofs.ReadBack.{Hold, and-three, and-two, ge-true, hold-append, hold-if, hold-if-not, le-true, length-zeros, lt-true, not-zeros}
use Rattle.nq_image.proofs.ReadBack.{subst-two, zeros-are}

-- ---- one row

abbrev made : List ℕ → ℕ → ℕ → Slot
made name blocks rev = record { name = name; blocks = blocks; rev = rev }

module _ (name : List ℕ) (blocks rev : ℕ) (named : IsName name) (short : blocks ≤ 1024) (rev_fits : rev < 2 ^ 61) where
  abbrev row : List ℕ
  row = row_bytes name blocks rev

  abbrev stored : List ℕ
  stored = name ++ zeros_of (64 - length name)

  length-stored : length stored ≡ 64
  length-stored =
      let some = named.0 in
      let most = named.1 in
      omega (arith, length-append name (zeros_of (64 - length name)), length-zeros (64 - length name))

  length-numbers : length (numbers_bytes blocks rev) ≡ 28
  unfolding numbers_bytes
  length-numbers = refl

  length-of-name : word_in 0 row ≡ length name
  unfolding word_in row_bytes
  length-of-name = let most = named.1 in from_be_bytes-to_be_bytes_4 (length name) (omega arith)

  bytes-of-name : piece 4 64 row ≡ stored
  unfolding piece row_bytes
  bytes-of-name = take_at stored (numbers_bytes blocks rev) 64 length-stored

  name-is : name_in row ≡ name
  unfolding name_in
  name-is =
      ap (λ (n : ℕ). take n (piece 4 64 row)) length-of-name
      ∙ ap (λ (b : List ℕ). take (length name) b) bytes-of-name
      ∙ take_at name (zeros_of (64 - length name)) (length name) refl

  behind-is : behind_name row ≡ zeros_of (64 - length name)
  unfolding behind_name
  behind-is =
      ap (λ (n : ℕ). drop n (piece 4 64 row)) length-of-name
      ∙ ap (λ (b : List ℕ). drop (length name) b) bytes-of-name
      ∙ drop_at name (zeros_of (64 - length name)) (length name) refl

  numbers-are : drop 68 row ≡ numbers_bytes blocks rev
  unfolding row_bytes
  numbers-are = drop_at stored (numbers_bytes blocks rev) 64 length-stored

  blocks-are : word_in 68 row ≡ blocks
  unfolding word_in numbers_bytes
  blocks-are = ap (λ (b : List ℕ). from_be_bytes w32 b) numbers-are ∙ from_be_bytes-to_be_bytes_4 blocks (omega (arith, short))

  rev-is : hyper_in 76 row ≡ rev
  unfolding hyper_in numbers_bytes
  rev-is =
      ap (λ (b : List ℕ). from_be_bytes w64 b) (sym (drop-drop 8 68 row) ∙ ap (λ (b : List ℕ). drop 8 b) numbers-are)
      ∙ from_be_bytes-to_be_bytes_8 rev (omega (arith, rev_fits))

  rest-is : are_zeros (piece 84 12 row) ≡ true
  unfolding piece numbers_bytes
  rest-is = ap (λ (b : List ℕ). are_zeros (take 12 b)) (sym (drop-drop 16 68 row) ∙ ap (λ (b : List ℕ). drop 16 b) numbers-are)

  used : are_zeros row ≡ false
  unfolding row_bytes
  used = let some = named.0 in let most = named.1 in not-zeros (length name) (stored ++ numbers_bytes blocks rev) (omega arith) some

  pub length-row : length row ≡ 96
  unfolding row_bytes
  length-row = omega (arith, length-stored, length-numbers, length-append stored (numbers_bytes blocks rev))

  abbrev slot : Slot
  slot = record { name = name; blocks = blocks; rev = rev }

  same-slot : (n : List ℕ) (b r : ℕ) → n ≡ name → b ≡ blocks → r ≡ rev → made n b r ≡ slot
  same-slot n b r e f g = ap (λ (x : List ℕ). made x b r) e ∙ ap (λ (x : ℕ). made name x r) f ∙ ap (λ (x : ℕ). made name blocks x) g

  pub slot-is : slot_of row ≡ Some slot
  unfolding slot_of used_slot
  slot-is =
      ap (λ (b : Bool). if b then None else Some (used_slot row)) used
      ∙ ap (λ (s : Slot). Some s) (same-slot (name_in row) (word_in 68 row) (hyper_in 76 row) name-is blocks-are rev-is)

  module _ (place : ℕ) (before : List (Option Slot)) (own : is_named name before ≡ false) (not_empty : 1 ≤ blocks) (few : sum_by blocks_of before
      + blocks ≤ 16384) where
    name-held : name_holds before row ≡ true
    unfolding name_holds
    name-held =
        and-three (is_name (name_in row)) (are_zeros (behind_name row)) (not (is_named (name_in row) before))
        (ap is_name name-is ∙ (name_decides name).1 named)
        (ap (λ (b : List ℕ). are_zeros b) behind-is ∙ zeros-are (64 - length name))
        (ap (λ (n : List ℕ). not (is_named n before)) name-is ∙ ap not own)

    used-hold : Hold (used_checks Version.Two place before row)
    unfolding used_checks
    used-hold = (
      and-two (nat_le 1 (word_in 0 row)) (nat_le (word_in 0 row) 64) (ge-true (word_in 0 row) (length name) 1 length-of-name named.0)
          (le-true (word_in 0 row) (length name) 64 length-of-name named.1),
      (
        name-held,
        (
          and-three (nat_le 1 (word_in 68 row)) (nat_le (word_in 68 row) 1024) (nat_le (sum_by blocks_of before + word_in 68 row) 16384)
              (ge-true (word_in 68 row) blocks 1 blocks-are not_empty)
              (le-true (word_in 68 row) blocks 1024 blocks-are short)
              (le-true (sum_by blocks_of before + word_in 68 row) (sum_by blocks_of before + blocks) 16384
              (ap (λ (b : ℕ). sum_by blocks_of before + b) blocks-are) few),
          (
            refl,
            (
              lt-true (hyper_in 76 row) rev 2305843009213693952 rev-is rev_fits,
              (rest-is, tt),
            ),
          ),
        ),
      ),
    )

    pub row-holds : Hold (row_checks Version.Two place before row)
    unfolding row_checks
    row-holds = hold-if-not (are_zeros row) [] (used_checks Version.Two place before row) used used-hold

-- ---- names

same-number : (x : ℕ) → (x == x) ≡ true
same-number x = grind (arith, nat_tests)

own-bytes : (a : List ℕ) → same_bytes a a ≡ true
own-bytes [] = refl
own-bytes (x ∷ xs) = and-two (x == x) (same_bytes xs xs) (same-number x) (own-bytes xs)

none-step : {X : Type 0} (b : Bool) (x : X) (rest : Option X) → (if b then Some x else rest) ≡ None → (b ≡ false) × (rest ≡ None)
none-step true x rest h = cc
none-step false x rest h = (refl, h)

differs : (a b : List ℕ) → same_bytes a b ≡ false → a ≢ b
differs a b never e = let P : List ℕ → Type 0 = λ x. same_bytes a x ≡ true in let granted = subst P e (own-bytes a) in cc

-- no file has a name that none was found by
pub others : (name : List ℕ) (files : List File) → find_name name files ≡ None → All (λ f. f.name ≢ name) files
others name [] none = All-nil (λ f. f.name ≢ name)
others name (f ∷ files) none =
    let step = none-step (same_bytes f.name name) f (find_name name files) none in
    All-cons (λ f. f.name ≢ name) f files (differs f.name name step.0) (others name files step.1)

-- a name that these rows have not
abbrev pub IsNew : List (Option Slot) → File → Type 0
IsNew before f = is_named f.name before ≡ false

pub false-unless : (b : Bool) → (b ≡ true → ⊥) → b ≡ false
false-unless true never = absurd (never refl)
false-unless false never = refl

or-false : (a b : Bool) → a ≡ false → b ≡ false → (a || b) ≡ false
or-false true b e f = cc
or-false false b e f = f

still-new : (before : List (Option Slot)) (slot : Slot) (f : File) → IsNew before f → f.name ≢ slot.name → IsNew (before ++ Some slot ∷ []) f
still-new before slot f new other =
    let other_name : pointwise nat_eq slot.name f.name ≡ false = false-unless (pointwise nat_eq slot.name f.name)
    (λ granted. other (sym ((bytes_eq-Decides slot.name f.name).0 granted))) in
    list_any-append (has_name f.name) before (Some slot ∷ [])
    ∙ or-false (is_named f.name before) (is_named f.name (Some slot ∷ [])) new (or-false (pointwise nat_eq slot.name f.name) false other_name refl)

all-new : (before : List (Option Slot)) (slot : Slot) (files : List File) → All (IsNew before) files → All (λ f. f.name ≢ slot.name) files
    → All (IsNew (before ++ Some slot ∷ [])) files
all-new before slot [] new other = All-nil (IsNew (before ++ Some slot ∷ []))
all-new before slot (f ∷ files) new other =
    All-cons (IsNew (before ++ Some slot ∷ [])) f files
    (still-new before slot f (All-head (IsNew before) f files new) (All-head (λ f. f.name ≢ slot.name) f files other))
    (all-new before slot files (All-tail (IsNew before) f files new) (All-tail (λ f. f.name ≢ slot.name) f files other))

-- ---- all rows

-- the file of a row
abbrev pub slot_for : File → Slot
slot_for file = made file.name (length_of file) file.rev

-- so many rows, of which the first are those of these files
unfoldable pub slots_for : (count : ℕ) → List File → List (Option Slot)
slots_for zero files = []
slots_for (suc count) [] = None ∷ slots_for count []
slots_for (suc count) (file ∷ files) = Some (slot_for file) ∷ slots_for count files

pub unused-holds : (place : ℕ) (before : List (Option Slot)) → Hold (row_checks Version.Two place before (zeros_of 96))
unfolding row_checks
unused-holds place before =
    hold-if (are_zeros (zeros_of 96)) [] (used_checks Version.Two place before (zeros_of 96)) (zeros-are 96) tt

pub unused-is : slot_of (zeros_of 96) ≡ None
unfolding slot_of
unused-is = ap (λ (b : Bool). if b then None else Some (used_slot (zeros_of 96))) (zeros-are 96)

-- a row in front of others
first-holds : (count place : ℕ) (before : List (Option Slot)) (row rows : List ℕ) (slot : Option Slot) → length row ≡ 96 → slot_of row ≡ slot
    → Hold (row_checks Version.Two place before row) → Hold (rows_checks Version.Two count (place + 96) (before ++ slot ∷ []) rows)
    → Hold (rows_checks Version.Two (suc count) place before (row ++ rows))
unfolding rows_checks
first-holds count place before row rows slot long is own more =
    let bytes = row ++ rows in
    let P : List ℕ → List ℕ → Type 0 = λ t d. Hold (row_checks Version.Two place before t ++ rows_checks Version.Two count (place + 96)
    (before ++ slot_of t ∷ []) d) in
    let Q : Option Slot → Type 0 = λ s. Hold (rows_checks Version.Two count (place + 96) (before ++ s ∷ []) rows) in
    subst-two P (take 96 bytes) row (drop 96 bytes) rows (take_at row rows 96 long) (drop_at row rows 96 long)
    (hold-append (row_checks Version.Two place before row) (rows_checks Version.Two count (place + 96) (before ++ slot_of row ∷ []) rows) own
    (subst Q (sym is) more))

first-is : (count : ℕ) (row rows : List ℕ) (slot : Option Slot) (slots : List (Option Slot)) → length row ≡ 96 → slot_of row ≡ slot
    → slots_of count rows ≡ slots → slots_of (suc count) (row ++ rows) ≡ slot ∷ slots
unfolding slots_of
first-is count row rows slot slots long is more =
    let bytes = row ++ rows in
    let P : List ℕ → List ℕ → Type 0 = λ t d. slot_of t ∷ slots_of count d ≡ slot ∷ slots in
    subst-two P (take 96 bytes) row (drop 96 bytes) rows (take_at row rows 96 long) (drop_at row rows 96 long)
    (ap (λ (s : Option Slot). s ∷ slots_of count rows) is ∙ ap (λ (l : List (Option Slot)). slot ∷ l) more)

none-hold : (place : ℕ) (before : List (Option Slot)) → Hold (rows_checks Version.Two zero place before [])
unfolding rows_checks
none-hold place before = tt

no-slots : slots_of zero [] ≡ []
unfolding slots_of
no-slots = refl

pub rows-hold : (count place next : ℕ) (before : List (Option Slot)) (files : List File) → All (IsFileWithin next) files → AreApart files
    → All (IsNew before) files → sum_by blocks_of before + blocks_in_all files ≤ 16384 → Hold (rows_checks Version.Two count place before
    (rows_bytes count files))
unfolding rows_bytes
rows-hold zero place next before files within apart new few = none-hold place before
rows-hold (suc count) place next before [] within apart new few =
    first-holds count place before (zeros_of 96) (rows_bytes count []) None (length-zeros 96) unused-is (unused-holds place before)
    (rows-hold count (place + 96) next (before ++ None ∷ []) [] within apart (All-nil (IsNew (before ++ None ∷ [])))
    (omega (arith, few, sum_by-append blocks_of before (None ∷ []))))
rows-hold (suc count) place next before (file ∷ files) within apart new few =
    let own = All-head (IsFileWithin next) file files within in
    let sums = sum_by-cons length_of file files in
    let slot = slot_for file in
    first-holds count place before (row_bytes file.name (length_of file) file.rev) (rows_bytes count files) (Some slot)
    (length-row file.name (length_of file) file.rev own.name own.short own.rev)
    (slot-is file.name (length_of file) file.rev own.name own.short own.rev)
    (row-holds file.name (length_of file) file.rev own.name own.short own.rev place before (All-head (IsNew before) file files new) own.not_empty
    (omega (arith, few, sums)))
    (rows-hold count (place + 96) next (before ++ Some slot ∷ []) files (All-tail (IsFileWithin next) file files within) apart.2
    (all-new before slot files (All-tail (IsNew before) file files new) (others file.name files apart.1))
    (omega (arith, few, sums, sum_by-append blocks_of before (Some slot ∷ []))))

pub slots-are : (count next : ℕ) (files : List File) → All (IsFileWithin next) files → slots_of count (rows_bytes count files) ≡ slots_for count files
unfolding rows_bytes slots_for
slots-are zero next files within = no-slots
slots-are (suc count) next [] within =
    first-is count (zeros_of 96) (rows_bytes count []) None (slots_for count []) (length-zeros 96) unused-is (slots-are count next [] within)
slots-are (suc count) next (file ∷ files) within =
    let own = All-head (IsFileWithin next) file files within in
    first-is count (row_bytes file.name (length_of file) file.rev) (rows_bytes count files) (Some (slot_for file)) (slots_for count files)
    (length-row file.name (length_of file) file.rev own.name own.short own.rev)
    (slot-is file.name (length_of file) file.rev own.name own.short own.rev)
    (slots-are count next files (All-tail (IsFileWithin next) file files within))

pub length-rows : (count next : ℕ) (files : List File) → All (IsFileWithin next) files → length (rows_bytes count files) ≡ 96 * count
unfolding rows_bytes
length-rows zero next files within = refl
length-rows (suc count) next [] within =
    omega (arith, length-zeros 96, length-rows count next [] within, length-append (zeros_of 96) (rows_bytes count []))
length-rows (suc count) next (file ∷ files) within =
    let own = All-head (IsFileWithin next) file files within in
    let row = row_bytes file.name (length_of file) file.rev in
    omega (
      arith,
      length-row file.name (length_of file) file.rev own.name own.short own.rev,
      length-rows count next files
          (All-tail (IsFileWithin next) file files within),
      length-append row (rows_bytes count files),
    )
