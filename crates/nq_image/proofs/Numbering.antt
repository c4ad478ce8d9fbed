-- The id of one row is another: the ids are right still.
use Rattle.std.proofs.Common.{◌≡◌, ◌≢◌, ◌≤◌, ◌<◌, ◌^◌, ◌+◌, ◌-◌, ◌*◌, ◌==◌, ◌||◌, ℕ, zero, suc, Bool, true, false, List, [], ◌∷◌, ◌++◌, Option, Some}
use Rattle.std.proofs.Common.{None, take, drop, map, set, length, get_or, refl, sym, ap, subst, ◌∙◌, arith, length-drop}
use Rattle.std.specs.List.{All, list_any}
use Rattle.std.specs.Prelude.{nat_le, nat_lt, not}
use Rattle.std.specs.Int.{w32, to_be_bytes}
use Rattle.std.proofs.lemmas.Bool.Decides.{nat_tests}
use Rattle.std.proofs.lemmas.List.{append-nil, append_assoc, drop-drop}
use Rattle.std.proofs.lemmas.List.Elements.{All-head, All-tail}
use Rattle.std.proofs.lemmas.List.Folds.{list_any-append}
use Rattle.nq_image.specs.Layout.{word_in, are_zeros}
use Rattle.nq_image.specs.Standing.{PlacedFile, overwritten, row_id, row_slot}
use Rattle.nq_image.specs.Tables.{ids_checks, ids_of, is_id}
use Rattle.nq_image.specs.declared.rows.Slot.{Slot}
use Rattle.nq_image.proofs.Holding.{each-three, not-true, test-le, test-lt}
use Rattle.nq_image.proofs.Pieces.{drop-first, drop-over, over-before}
use Rattle.nq_image.proofs.ReadBack.{Hold, and-three, ge-true, lt-true}
use Rattle.nq_image.proofs.Tabling.{id-word}

-- ---- ids that are new

-- the id of a used row is at least 1, below the next one, and none of these
abbrev pub IsNewId : (next : ℕ) (known : List ℕ) → Option PlacedFile → Type 0
IsNewId next known None = Unit {0}
IsNewId next known (Some file) = (1 ≤ file.id) × (file.id < next) × (list_any (λ k. k == file.id) known ≡ false)

abbrev pub AllNewIds : (next : ℕ) (known : List ℕ) → List (Option PlacedFile) → Type 0
AllNewIds next known [] = Unit {0}
AllNewIds next known (row ∷ rows) = IsNewId next known row × AllNewIds next (known ++ row_id row ∷ []) rows

new-id : (next : ℕ) (known : List ℕ) (row : Option PlacedFile) → is_id next known (row_slot row) (row_id row) ≡ true → IsNewId next known row
unfolding is_id
new-id next known None h = tt
new-id next known (Some file) h =
    let three = each-three (nat_le 1 file.id) (nat_lt file.id next) (not (list_any (λ k. k == file.id) known)) h in
    (test-le 1 file.id three.0, test-lt file.id next three.1, not-true (list_any (λ k. k == file.id) known) three.2)

id-right : (next : ℕ) (known : List ℕ) (row : Option PlacedFile) → IsNewId next known row → is_id next known (row_slot row) (row_id row) ≡ true
unfolding is_id
id-right next known None new = refl
id-right next known (Some file) new =
    and-three (nat_le 1 file.id) (nat_lt file.id next) (not (list_any (λ k. k == file.id) known)) (ge-true file.id file.id 1 refl new.0)
    (lt-true file.id file.id next refl new.1) (ap not new.2)

cons-parts : (x y : ℕ) (xs ys : List ℕ) → x ∷ xs ≡ y ∷ ys → (x ≡ y) × (xs ≡ ys)
cons-parts x y xs ys h = (cc, cc)

ids-first : (row : Option PlacedFile) (rows : List (Option PlacedFile)) (rest : List ℕ) → ids_of (map row_slot (row ∷ rows)) rest
    ≡ map row_id (row ∷ rows) → (word_in 0 rest ≡ row_id row) × (ids_of (map row_slot rows) (drop 4 rest) ≡ map row_id rows)
unfolding ids_of
ids-first row rows rest h = cons-parts (word_in 0 rest) (row_id row) (ids_of (map row_slot rows) (drop 4 rest)) (map row_id rows) h

pub record AreIdsSplit (next : ℕ) (known : List ℕ) (rows : List (Option PlacedFile)) (rest : List ℕ) : Type 0 where
  pub new : AllNewIds next known rows
  pub zeros : are_zeros (drop (4 * length rows) rest) ≡ true

four-more : (rows : List (Option PlacedFile)) (row : Option PlacedFile) (rest : List ℕ) → drop (4 * length rows) (drop 4 rest)
    ≡ drop (4 * length (row ∷ rows)) rest
four-more rows row rest =
    let e : 4 + 4 * length rows ≡ 4 * length (row ∷ rows) = omega arith in
    drop-drop (4 * length rows) 4 rest ∙ ap (λ (n : ℕ). drop n rest) e

pub ids-split : (rows : List (Option PlacedFile)) (next place : ℕ) (known rest : List ℕ) → ids_of (map row_slot rows) rest ≡ map row_id rows
    → Hold (ids_checks next place known (map row_slot rows) rest) → AreIdsSplit next known rows rest
unfolding ids_checks
ids-split [] next place known rest is h = record { new = tt; zeros = h.0 }
ids-split (row ∷ rows) next place known rest is h =
    let first = ids-first row rows rest is in
    let Own : ℕ → Type 0 = λ w. is_id next known (row_slot row) w ≡ true in
    let Rest : ℕ → Type 0 = λ w. Hold (ids_checks next (place + 4) (known ++ w ∷ []) (map row_slot rows) (drop 4 rest)) in
    let more = ids-split rows next (place + 4) (known ++ row_id row ∷ []) (drop 4 rest) first.1 (subst Rest first.0 h.1) in
    let Zeros : List ℕ → Type 0 = λ b. are_zeros b ≡ true in
    record {
      new = (new-id next known row (subst Own first.0 h.0), more.new);
      zeros = subst Zeros (four-more rows row rest) more.zeros;
    }

pub ids-join : (rows : List (Option PlacedFile)) (next place : ℕ) (known rest : List ℕ) → ids_of (map row_slot rows) rest ≡ map row_id rows
    → AllNewIds next known rows → are_zeros (drop (4 * length rows) rest) ≡ true → Hold (ids_checks next place known (map row_slot rows) rest)
unfolding ids_checks
ids-join [] next place known rest is new zeros = (zeros, tt)
ids-join (row ∷ rows) next place known rest is new zeros =
    let first = ids-first row rows rest is in
    let Own : ℕ → Type 0 = λ w. is_id next known (row_slot row) w ≡ true in
    let Rest : ℕ → Type 0 = λ w. Hold (ids_checks next (place + 4) (known ++ w ∷ []) (map row_slot rows) (drop 4 rest)) in
    let Zeros : List ℕ → Type 0 = λ b. are_zeros b ≡ true in (
      subst Own (sym first.0) (id-right next known row new.0),
      subst Rest (sym first.0) (ids-join rows next (place + 4) (known ++ row_id row ∷ []) (drop 4 rest) first.1 new.1
          (subst Zeros (sym (four-more rows row rest)) zeros)),
    )

-- ---- one id overwritten

word-same : (xs ys : List ℕ) → ((k : ℕ) → k < 4 → get_or xs k 0 ≡ get_or ys k 0) → word_in 0 xs ≡ word_in 0 ys
unfolding word_in
word-same xs ys same = omega (arith, same 0 (omega arith), same 1 (omega arith), same 2 (omega arith), same 3 (omega arith))

first-over : (at id : ℕ) (rest : List ℕ) → at ≡ 0 → id < 2 ^ 32 → word_in 0 (overwritten at (to_be_bytes w32 id) rest) ≡ id
unfolding overwritten
first-over at id rest is lt =
    ap (λ (p : ℕ). word_in 0 (take p rest ++ (to_be_bytes w32 id ++ drop (at + length (to_be_bytes w32 id)) rest))) is
    ∙ id-word id (drop (at + length (to_be_bytes w32 id)) rest) lt

-- the ids are read wherever files stand
pub ids-of-any : (one two : List (Option Slot)) (rest : List ℕ) → length one ≡ length two → ids_of one rest ≡ ids_of two rest
unfolding ids_of
ids-of-any [] [] rest long = refl
ids-of-any [] (y ∷ two) rest long = absurd (omega (arith, long))
ids-of-any (x ∷ one) [] rest long = absurd (omega (arith, long))
ids-of-any (x ∷ one) (y ∷ two) rest long = ap (λ (l : List ℕ). word_in 0 rest ∷ l) (ids-of-any one two (drop 4 rest) (omega (arith, long)))

pub ids-over : (slots : List (Option Slot)) (i at id : ℕ) (rest : List ℕ) → at ≡ 4 * i → i < length slots → 4 * length slots ≤ length rest
    → id < 2 ^ 32 → ids_of slots (overwritten at (to_be_bytes w32 id) rest) ≡ set (ids_of slots rest) i id
unfolding ids_of
ids-over [] i at id rest is lt long fits = absurd (omega (arith, lt))
ids-over (slot ∷ slots) zero at id rest is lt long fits =
    ap (λ (w : ℕ). w ∷ ids_of slots (drop 4 (overwritten at (to_be_bytes w32 id) rest))) (first-over at id rest (omega (arith, is)) fits)
    ∙ ap (λ (d : List ℕ). id ∷ ids_of slots d) (drop-first 4 at (to_be_bytes w32 id) rest (omega (arith, is)) refl)
ids-over (slot ∷ slots) (suc i) at id rest is lt long fits =
    let part = to_be_bytes w32 id in
    let size : length part ≡ 4 = refl in
    let within : at + length part ≤ length rest = omega (arith, is, lt, long, size) in
    ap (λ (w : ℕ). w ∷ ids_of slots (drop 4 (overwritten at part rest))) (word-same (overwritten at part rest) rest (λ k below. over-before at part
    rest (omega (arith, within)) k (omega (arith, is, below))))
    ∙ ap (λ (d : List ℕ). word_in 0 rest ∷ ids_of slots d) (drop-over 4 at part rest (omega (arith, is)) within)
    ∙ ap (λ (l : List ℕ). word_in 0 rest ∷ l) (ids-over slots i (at - 4) id (drop 4 rest) (omega (arith, is)) (omega (arith, lt))
    (omega (arith, long, length-drop 4 rest)) fits)

-- ---- one of them is another

abbrev pub IsOtherId : (id : ℕ) → Option PlacedFile → Type 0
IsOtherId id None = Unit {0}
IsOtherId id (Some file) = file.id ≢ id

or-parts : (a b : Bool) → (a || b) ≡ false → (a ≡ false) × (b ≡ false)
or-parts true b h = cc
or-parts false b h = (refl, h)

or-none : (a b : Bool) → a ≡ false → b ≡ false → (a || b) ≡ false
or-none true b e f = cc
or-none false b e f = f

pub not-equal : (m n : ℕ) → n ≢ m → (m == n) ≡ false
not-equal m n other = grind (arith, nat_tests)

swap-known : (id one two : ℕ) (front mid : List ℕ) → id ≢ two → list_any (λ k. k == id) (front ++ one ∷ mid) ≡ false → list_any (λ k. k == id)
    (front ++ two ∷ mid) ≡ false
swap-known id one two front mid other h =
    let p : ℕ → Bool = λ k. k == id in
    let parts = or-parts (list_any p front) (list_any p (one ∷ mid)) (sym (list_any-append p front (one ∷ mid)) ∙ h) in
    let rest = or-parts (one == id) (list_any p mid) parts.1 in
    list_any-append p front (two ∷ mid) ∙ or-none (list_any p front) (list_any p (two ∷ mid)) parts.0 (or-none (two == id) (list_any p mid)
    (not-equal two id other) rest.1)

swap-one : (next one two : ℕ) (front mid : List ℕ) (row : Option PlacedFile) → IsOtherId two row → IsNewId next (front ++ one ∷ mid) row
    → IsNewId next (front ++ two ∷ mid) row
swap-one next one two front mid None other new = tt
swap-one next one two front mid (Some file) other new = (new.0, new.1, swap-known file.id one two front mid other new.2)

swap-rest : (next one two : ℕ) (front mid : List ℕ) (rows : List (Option PlacedFile)) → All (IsOtherId two) rows → AllNewIds next (front ++ one ∷ mid)
    rows → AllNewIds next (front ++ two ∷ mid) rows
swap-rest next one two front mid [] other new = tt
swap-rest next one two front mid (row ∷ rows) other new =
    let Known : List ℕ → Type 0 = λ l. AllNewIds next l rows in (
      swap-one next one two front mid row (All-head (IsOtherId two) row rows other) new.0,
      subst Known (sym (append_assoc front (two ∷ mid) (row_id row ∷ [])))
          (swap-rest next one two front (mid ++ row_id row ∷ []) rows (All-tail (IsOtherId two) row rows other)
          (subst Known (append_assoc front (one ∷ mid) (row_id row ∷ [])) new.1)),
    )

-- the ids of these rows behind others
abbrev pub known_with : List ℕ → List (Option PlacedFile) → List ℕ
known_with known rows = known ++ map row_id rows

pub swap-ids : (next : ℕ) (known : List ℕ) (front rest : List (Option PlacedFile)) (one two : Option PlacedFile)
    → IsNewId next (known_with known front) two → All (IsOtherId (row_id two)) rest → AllNewIds next known (front ++ one ∷ rest)
    → AllNewIds next known (front ++ two ∷ rest)
swap-ids next known [] rest one two own other new =
    let Own : List ℕ → Type 0 = λ l. IsNewId next l two in
    (subst Own (append-nil known) own, swap-rest next (row_id one) (row_id two) known [] rest other new.1)
swap-ids next known (row ∷ front) rest one two own other new =
    let Own : List ℕ → Type 0 = λ l. IsNewId next l two in (
      new.0,
      swap-ids next (known ++ row_id row ∷ []) front rest one two (subst Own (sym (append_assoc known (row_id row ∷ []) (map row_id front)))
          own) other new.1,
    )
